-- One pass over the list gathers every link's load. Assumes nothing.
use mathlib.Core.Bool.{Bool, true, false}
use mathlib.Core.List.{List, [], ◌∷◌, ◌++◌}
use mathlib.Core.Logic.{⊎_elim}
use mathlib.Core.Path.{◌≡◌, refl, ap, sym, ◌∙◌}
use Prim.Native.Nat.{ℕ, zero, suc, ◌+◌, ◌-◌, ◌*◌, ◌≤◌, ◌<◌}
use native.Mathlib.Decide.{ℕ_discrete}
use native.Mathlib.Nat.{eq-or-lt_of_le}
use native.Mathlib.Omega.{arith}
use lib.ListN.{length, get_or, set, replicate, length-set, get_or-replicate}
use lib.Seq.{get_or-set_same, get_or-set_other}
use lib.Ieee.{Float}
use Rattle.spatial.specs.Wrench.{zeros_of, plus_of}
use Rattle.spatial.specs.declared.wrench.Wrench.{Wrench}
use Rattle.slots.specs.Slots.{wrench_at, put_wrench}
use Rattle.slots.proofs.Blocks.{before, put_wrench-outside, wrench-same}
use Rattle.slots.proofs.Lengths.{length-put_wrench}
use Rattle.slots.proofs.Puts.{wrench-put, wrench-apart, wrench-again}
use Rattle.forward_slots.specs.Layout.{frame_place, load_place}
use Rattle.forward_slots.specs.Loads.{listed_to, added_to, sum_of, load_of, loads_to, more_of, add_on, add_load}
use Rattle.forward_slots.proofs.loads.Rule.{hit, miss}

-- ---- a sum, load by load

unfoldable pub any_of : List Wrench → Bool
any_of [] = false
any_of (w ∷ further) = true

added-last : (sum : Wrench) (l : List Wrench) (w : Wrench) → added_to sum (l ++ w ∷ []) ≡ plus_of (added_to sum l) w
unfolding added_to
added-last sum [] w = refl
added-last sum (v ∷ l) w = added-last (plus_of sum v) l w

sum-last : (l : List Wrench) (w : Wrench) → sum_of (l ++ w ∷ []) ≡ more_of (any_of l) (sum_of l) w
unfolding sum_of added_to any_of
sum-last [] w = refl
sum-last (v ∷ l) w = added-last v l w

any_last : (l : List Wrench) (w : Wrench) → any_of (l ++ w ∷ []) ≡ true
unfolding any_of
any_last [] w = refl
any_last (v ∷ l) w = refl

-- ---- the loads of the first n joints' links, whatever the links' loads are

unfoldable pub put_loads : (ℕ → Wrench) → ℕ → List Float → List Float
put_loads load zero ws = ws
put_loads load (suc j) ws = put_wrench (put_loads load j ws) (load_place j) (load (suc j))

pub loads-put : (loaded : List ℕ) (loads : List Float) (n : ℕ) (ws : List Float) → loads_to loaded loads n ws ≡ put_loads (load_of loaded loads) n ws
unfolding loads_to put_loads
loads-put loaded loads zero ws = refl
loads-put loaded loads (suc j) ws = rw (loads-put loaded loads j ws)

module _ (f : ℕ → Wrench) where
  pub length-put : (n : ℕ) (ws : List Float) → length (put_loads f n ws) ≡ length ws
  unfolding put_loads
  length-put zero ws = refl
  length-put (suc j) ws = length-put_wrench (put_loads f j ws) (load_place j) (f (suc j)) ∙ length-put j ws

  -- what is put is read back
  put-at : (n j : ℕ) (ws : List Float) → j < n → frame_place n ≤ length ws → wrench_at (put_loads f n ws) (load_place j) ≡ f (suc j)
  unfolding put_loads
  put-at zero j ws h r = absurd (omega arith)
  put-at (suc m) j ws h r =
      let s = put_loads f m ws in
      ⊎_elim
      (λ (q : j ≡ m). rw q (wrench-put s (load_place m) (f (suc m)) (omega (arith, length-put m ws))))
      (λ (q : j < m). wrench-same s (put_wrench s (load_place m) (f (suc m))) (load_place j) (before (put_wrench-outside s (load_place m) (f (suc m))) (load_place j) 6 (omega arith)) ∙ put-at m j ws q (omega arith))
      (eq-or-lt_of_le (omega arith))

  -- what was put behind the first n stays
  put-past : (n j : ℕ) (ws : List Float) (w : Wrench) → n ≤ j → put_loads f n (put_wrench ws (load_place j) w) ≡ put_wrench (put_loads f n ws) (load_place j) w
  unfolding put_loads
  put-past zero j ws w h = refl
  put-past (suc m) j ws w h = rw (put-past m j ws w (omega arith)) (sym (wrench-apart (put_loads f m ws) (load_place m) (load_place j) (f (suc m)) w (omega arith)))

module _ (f g : ℕ → Wrench) where
  pub put-again : (n : ℕ) (ws : List Float) → put_loads f n (put_loads g n ws) ≡ put_loads f n ws
  unfolding put_loads
  put-again zero ws = refl
  put-again (suc m) ws =
      rw (put-past f m m (put_loads g m ws) (g (suc m)) (omega arith), wrench-again (put_loads f m (put_loads g m ws)) (load_place m) (g (suc m)) (f (suc m)), put-again m ws)

  -- where they agree on the joints' links
  pub put_same : (n : ℕ) (ws : List Float) → ((j : ℕ) → j < n → g (suc j) ≡ f (suc j)) → put_loads g n ws ≡ put_loads f n ws
  unfolding put_loads
  put_same zero ws e = refl
  put_same (suc m) ws e = rw (put_same m ws (λ j h. e j (omega arith)), e m (omega arith))

  -- where they agree on all but one
  put_one : (n j : ℕ) (ws : List Float) → j < n → ((i : ℕ) → i < n → (i ≡ j → ⊥) → g (suc i) ≡ f (suc i)) → put_loads g n ws ≡ put_wrench (put_loads f n ws) (load_place j) (g (suc j))
  unfolding put_loads
  put_one zero j ws h e = absurd (omega arith)
  put_one (suc m) j ws h e =
      ⊎_elim
      (λ (q : j ≡ m). rw (q, put_same m ws (λ i l. e i (omega arith) (λ s. omega arith)), wrench-again (put_loads f m ws) (load_place m) (f (suc m)) (g (suc m))))
      (λ (q : j < m).
      rw (put_one m j ws q (λ i l s. e i (omega arith) s), e m (omega arith) (λ s. omega arith))
      (wrench-apart (put_loads f m ws) (load_place j) (load_place m) (g (suc j)) (f (suc m)) (omega arith)))
      (eq-or-lt_of_le (omega arith))

-- ---- the pass

pub on-joint : (any : Bool) (w root : Wrench) (ws : List Float) (link : ℕ) → (link ≡ 0 → ⊥) → (root, add_on any w ws (link - 1)) ≡ add_load any w root ws link
unfolding add_load
on-joint any w root ws zero h = absurd (h refl)
on-joint any w root ws (suc j) h = let e : suc j - 1 ≡ j = omega arith in rw e

-- of the first k loads: whether a link has any, and its load
abbrev pub any_to : List ℕ → List Float → ℕ → ℕ → Bool
any_to loaded loads k link = any_of (listed_to loaded loads link k)

abbrev pub load_to : List ℕ → List Float → ℕ → ℕ → Wrench
load_to loaded loads k link = sum_of (listed_to loaded loads link k)

-- what is gathered of them: the root's load, the joints' in the workspace, and which links have any
pub record Gathered (n : ℕ) (loaded : List ℕ) (loads ws₀ : List Float) (k : ℕ) (root : Wrench) (any : List Bool) (ws : List Float) : Type 0 where
  pub rooted : root ≡ load_to loaded loads k 0
  pub placed : ws ≡ put_loads (load_to loaded loads k) n ws₀
  pub sized : length any ≡ 33
  pub marked : (link : ℕ) → link ≤ n → get_or any link false ≡ any_to loaded loads k link

module _ (n : ℕ) (loaded : List ℕ) (loads ws₀ : List Float) where
  -- before the first load
  pub begun : (ws : List Float) → n ≤ 32 → ws₀ ≡ loads_to [] [] n ws → Gathered n loaded loads ws₀ 0 zeros_of (replicate 33 false) ws₀
  unfolding listed_to sum_of any_of
  begun ws few e =
      let cleared = e ∙ loads-put [] [] n ws in
      record {
        rooted = refl;
        placed = cleared ∙ sym (ap (put_loads (load_to loaded loads 0) n) cleared ∙ put-again (load_to loaded loads 0) (load_of [] []) n ws);
        sized = refl;
        marked = λ link l. get_or-replicate 33 link false false (omega arith);
      }

  -- behind the last
  pub ended : (ws : List Float) → ws₀ ≡ loads_to [] [] n ws → (root : Wrench) (any : List Bool) (t : List Float) → Gathered n loaded loads ws₀ (length loaded) root any t
      → (root ≡ load_of loaded loads 0) × (t ≡ loads_to loaded loads n ws)
  ended ws e root any t g =
      let all = load_of loaded loads in
      (g.rooted, g.placed ∙ ap (put_loads all n) (e ∙ loads-put [] [] n ws) ∙ put-again all (load_of [] []) n ws ∙ sym (loads-put loaded loads n ws))

  module _ (k : ℕ) (root : Wrench) (any : List Bool) (ws : List Float) (g : Gathered n loaded loads ws₀ k root any ws) where
    -- a load on a link that the arm does not have
    pub passed-by : n < get_or loaded k 0 → Gathered n loaded loads ws₀ (suc k) root any ws
    passed-by h =
        let same : (link : ℕ) → link ≤ n → listed_to loaded loads link (suc k) ≡ listed_to loaded loads link k = λ link l. miss loaded loads link k (λ e. omega arith) in
        record {
          rooted = g.rooted ∙ ap sum_of (sym (same 0 (omega arith)));
          placed = g.placed ∙ sym (put_same _ _ n ws₀ (λ j l. ap sum_of (same (suc j) (omega arith))));
          sized = g.sized;
          marked = λ link l. g.marked link l ∙ ap any_of (sym (same link l));
        }

    module _ (link : ℕ) (e : get_or loaded k 0 ≡ link) where
      -- its own sum, and the others
      one_more : load_to loaded loads (suc k) link ≡ more_of (any_to loaded loads k link) (load_to loaded loads k link) (wrench_at loads (k * 6))
      one_more = ap sum_of (hit loaded loads link k e) ∙ sum-last (listed_to loaded loads link k) (wrench_at loads (k * 6))

      others : (i : ℕ) → (i ≡ link → ⊥) → listed_to loaded loads i (suc k) ≡ listed_to loaded loads i k
      others i s = miss loaded loads i k (λ d. s (sym d ∙ e))

      marks : link < length any → (i : ℕ) → i ≤ n → get_or (set any link true) i false ≡ any_to loaded loads (suc k) i
      marks m i h = go (ℕ_discrete i link)
        where
          go : Dec (i ≡ link) → get_or (set any link true) i false ≡ any_to loaded loads (suc k) i
          go (yes s) = rw s (get_or-set_same any link true false m ∙ sym (ap any_of (hit loaded loads link k e) ∙ any_last (listed_to loaded loads link k) (wrench_at loads (k * 6))))
          go (no s) = get_or-set_other any link i true false s ∙ g.marked i h ∙ ap any_of (sym (others i s))

    -- a load on a link
    pub taken-up : (link : ℕ) → get_or loaded k 0 ≡ link → link ≤ n → n ≤ 32 → frame_place n ≤ length ws₀ → (r : Wrench) (t : List Float)
        → (r, t) ≡ add_load (get_or any link false) (wrench_at loads (k * 6)) root ws link → Gathered n loaded loads ws₀ (suc k) r (set any link true) t
    unfolding add_load add_on
    taken-up zero e l m f r t q =
        record {
          rooted = ap (λ (p : Wrench × List Float). p.0) q ∙ rw (g.marked 0 l, g.rooted) (sym (one_more 0 e));
          placed = ap (λ (p : Wrench × List Float). p.1) q ∙ g.placed ∙ sym (put_same _ _ n ws₀ (λ j h. ap sum_of (others 0 e (suc j) (λ s. omega arith))));
          sized = length-set any 0 true ∙ g.sized;
          marked = marks 0 e (omega (arith, g.sized));
        }
    taken-up (suc j) e l m f r t q =
        record {
          rooted = ap (λ (p : Wrench × List Float). p.0) q ∙ g.rooted ∙ ap sum_of (sym (others (suc j) e 0 (λ s. omega arith)));
          placed =
              ap (λ (p : Wrench × List Float). p.1) q
              ∙ rw (g.marked (suc j) l, g.placed, put-at (load_to loaded loads k) n j ws₀ l f) (rw (← one_more (suc j) e) (sym (put_one (load_to loaded loads k) (load_to loaded loads (suc k)) n j ws₀ l (λ i h s. ap sum_of (others (suc j) e (suc i) (λ d. s (omega arith)))))));
          sized = length-set any (suc j) true ∙ g.sized;
          marked = marks (suc j) e (omega (arith, g.sized));
        }
