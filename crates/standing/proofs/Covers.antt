-- THE MARKS ARE EXACT: where an entry is said to stand, arms that are the same but for what was told agree in all that it rests on;
-- and where all such arms agree in that, it is said to stand (document 02, item 7). Assumes nothing.
use mathlib.Core.Bool.{Bool, true, false, not, cond, ◌&&◌, ◌||◌, true≢false}
use mathlib.Core.List.{List}
use mathlib.Core.Path.{◌≡◌, refl, sym, ap, ◌∙◌, subst}
use Prim.Native.Nat.{ℕ, suc, ◌≤◌, ◌<◌}
use native.Mathlib.Omega.{arith}
use borrow.Author.Tests.{eqb-true, eq-eqb}
use lib.Dec.{eqb}
use lib.ListN.{get_or}
use lib.Ieee.{Float, nan, inf, is_nan}
use Rattle.numbers.specs.declared.vec3.Vec3.{Vec3}
use Rattle.spatial.specs.declared.frame.Frame.{Frame}
use Rattle.arm.specs.Joint.{motion_values}
use Rattle.arm.specs.Model.{parent_of, kind_of, Tree}
use Rattle.arm.specs.declared.joint.Motion.{Motion}
use Rattle.arm.specs.declared.joint.Motion.TheVariants.{Turn}
use Rattle.arm.specs.declared.model.Link.{Link}
use Rattle.plain_entries.specs.Arm.{Arm}
use Rattle.plain_entries.specs.Rests.{Carries, itself, further, Below, Agree}
use Rattle.standing.specs.Tree.{carries, between}
use Rattle.standing.specs.Standing.{Changes, another, some, reframed, composite_touched, own_touched, path_touched, stands_between}
use Rattle.standing.specs.Kept.{Kept}
use Rattle.standing.proofs.Flags.{both-are, some-none, none_has}
use Rattle.standing.proofs.Trees.{carries-is, carries-means}

-- trees that are the same below n carry alike
pub carries_same : {n m : ℕ} {p q : ℕ → ℕ} {l x : ℕ} → m ≡ n → ((j : ℕ) → j < n → p j ≡ q j) → Carries m p l x → Carries n q l x
carries_same d e itself = itself
carries_same {n = n} {q = q} {l = l} d e (further j h c) = let g : j < n = omega (arith, d) in further j g (subst (Carries n q l) (e j g) (carries_same d e c))

-- what carries a link of the tree, or is carried by one, is one
carried-few : {n : ℕ} {p : ℕ → ℕ} {l x : ℕ} → l ≤ n → Carries n p l x → x ≤ n
carried-few h itself = h
carried-few h (further j g c) = g

-- a flag that is false where another is true
off : (a b : Bool) → (a && b) ≡ false → a ≡ true → b ≡ false
off true b e f = e
off false b e f = absurd (true≢false (sym f))

-- none of the six that an entry may be touched by
all-off : (r a b d e f g : Bool) → r ≡ true → not (r && (((a || b) || (d || (e || f))) || g)) ≡ true → (a ≡ false) × (b ≡ false) × (d ≡ false) × (e ≡ false) × (f ≡ false) × (g ≡ false)
all-off false a b d e f g h k = absurd (true≢false (sym h))
all-off true true b d e f g h k = absurd (true≢false (sym k))
all-off true false true d e f g h k = absurd (true≢false (sym k))
all-off true false false true e f g h k = absurd (true≢false (sym k))
all-off true false false false true f g h k = absurd (true≢false (sym k))
all-off true false false false false true g h k = absurd (true≢false (sym k))
all-off true false false false false false true h k = absurd (true≢false (sym k))
all-off true false false false false false false h k = (refl, refl, refl, refl, refl, refl)

on-where : (a b : Bool) → (a ≡ true → b ≡ false) → (a && b) ≡ false
on-where true b f = f refl
on-where false b f = refl

-- ---- two arms that differ in all that was told: a number is infinite, or NaN in the second one

abbrev marked : Bool → Float
marked b = cond b nan (inf false)

unmarked : (b : Bool) → inf false ≡ marked b → b ≡ false
unfolding is_nan
unmarked true e = absurd (true≢false (sym (ap is_nan e)))
unmarked false e = refl

abbrev vec_of : Float → Vec3
vec_of x = record { x = x; y = x; z = x }

abbrev frame_with : Float → Frame
frame_with x = record { rotation = record { w = x; u = vec_of x }; translation = vec_of x }

abbrev link_with : Float → Link
link_with x = record { mass = x; moment = vec_of x; inertia = record { r0 = vec_of x; r1 = vec_of x; r2 = vec_of x } }

abbrev axis_of : Motion → Float
axis_of m = get_or (motion_values m) 0 nan

module _ (n : ℕ) (parents kinds : List ℕ) (c : Changes) (t : Tree n parents) (J I : ℕ) (h : J < n) (i : I < n) where
  abbrev parent : ℕ → ℕ
  parent = parent_of parents

  abbrev moved : ℕ → Bool
  moved = reframed kinds c.frames c.axes

  -- nothing that the entry rests on was told
  record Untold : Type 0 where
    links : (l : ℕ) → l ≤ n → carries parent (suc J) l ≡ true → another c.links l ≡ false
    below : (x : ℕ) → x < n → carries parent (suc J) (parent x) ≡ true → moved x ≡ false
    high : another c.axes J ≡ false
    low : another c.axes I ≡ false
    own : J ≡ I → another c.rotors J ≡ false
    path : (x : ℕ) → x < n → between parent I J x ≡ true → moved x ≡ false

  abbrev some_link : Bool
  some_link = some (λ l. carries parent (suc J) l && another c.links l) (suc n)

  abbrev some_below : Bool
  some_below = some (λ x. carries parent (suc J) (parent x) && moved x) n

  abbrev some_path : Bool
  some_path = some (λ x. between parent I J x && moved x) n

  abbrev own_rotor : Bool
  own_rotor = eqb J I && another c.rotors J

  untold : carries parent (suc I) (suc J) ≡ true → stands_between n parents kinds c J I ≡ true → Untold
  unfolding stands_between composite_touched own_touched path_touched
  untold r s =
      let a = all-off (carries parent (suc I) (suc J)) some_link some_below (another c.axes J) (another c.axes I) own_rotor some_path r s in
      record {
        links = λ l g. off (carries parent (suc J) l) (another c.links l) (some-none _ (suc n) a.0 l (omega arith));
        below = λ x g. off (carries parent (suc J) (parent x)) (moved x) (some-none _ n a.1 x g);
        high = a.2;
        low = a.3;
        own = λ e. off (eqb J I) (another c.rotors J) a.4 (eq-eqb J I e);
        path = λ x g. off (between parent I J x) (moved x) (some-none _ n a.5 x g);
      }

  -- ---- what is not told agrees

  module _ (kind_j : kind_of kinds J ≡ 2 → ⊥) (kind_i : kind_of kinds I ≡ 2 → ⊥) where
    -- an entry that is said to stand
    pub covers : stands_between n parents kinds c J I ≡ true → Carries n parent (suc I) (suc J) → (a b : Arm) → Kept n parents kinds c a b → Agree a b J I
    covers s r a b k =
        record {
          joints = k.first ∙ sym k.second;
          tree = λ j g. let e = k.tree j (omega (arith, k.first)) in e.0 ∙ sym e.1;
          links = λ l d. let few = carried-few h (as-tree d) in k.links l few (u.links l few (carries-is n parent t.below (as-tree d)));
          below = λ x g d. k.frames x (few g) (u.below x (few g) (below-is x (few g) d));
          high = k.axes J h kind_j u.high;
          low = k.axes I i kind_i u.low;
          path = λ x g d. k.frames x (few g) (u.path x (few g) (and_both (carries-is n parent t.below (as-tree d.0)) (below-is x (few g) d.1)));
          own = λ e. k.rotors J h kind_j (u.own e);
        }
      where
        u : Untold
        u = untold (carries-is n parent t.below r) s

        few : {x : ℕ} → x < a.n → x < n
        few g = omega (arith, k.first)

        as-tree : {l x : ℕ} → Carries a.n a.parent l x → Carries n parent l x
        as-tree = carries_same k.first (λ j g. (k.tree j g).0)

        below-is : {K : ℕ} (x : ℕ) → x < n → Below a.n a.parent K x → carries parent (suc K) (parent x) ≡ true
        below-is {K = K} x g d = carries-is n parent t.below (subst (Carries n parent (suc K)) (k.tree x g).0 (as-tree d))

        and_both : {p q : Bool} → p ≡ true → q ≡ true → (p && q) ≡ true
        and_both e f = rw (e, f)

  -- ---- and what always agrees was not told

  abbrev before : Arm
  before = record { n = n; parent = parent; motion = λ j. Turn (vec_of (inf false)); frame = λ j. frame_with (inf false); rotor = λ j. inf false; link = λ l. link_with (inf false) }

  abbrev after : Arm
  after =
      record {
        n = n;
        parent = parent;
        motion = λ j. Turn (vec_of (marked (another c.axes j)));
        frame = λ j. frame_with (marked (moved j));
        rotor = λ j. marked (another c.rotors j);
        link = λ l. link_with (marked (another c.links l));
      }

  kept : Kept n parents kinds c before after
  kept =
      record {
        first = refl;
        second = refl;
        tree = λ j g. (refl, refl);
        links = λ l g e. rw e;
        frames = λ j g e. rw e;
        axes = λ j g k e. rw e;
        rotors = λ j g k e. rw e;
      }

  pub all-covered : ((a b : Arm) → Kept n parents kinds c a b → Agree a b J I) → stands_between n parents kinds c J I ≡ true
  unfolding stands_between composite_touched own_touched path_touched
  all-covered f =
      rw (links-off, below-off, high-off, low-off, own-off, path-off) (go (carries parent (suc I) (suc J)))
    where
      g : Agree before after J I
      g = f before after kept

      go : (b : Bool) → not (b && false) ≡ true
      go true = refl
      go false = refl

      links-off : some_link ≡ false
      links-off = none_has _ (suc n) (λ l k. on-where (carries parent (suc J) l) (another c.links l) (λ e. unmarked _ (ap (λ (x : Link). x.mass) (g.links l (carries-means n parent t.below (suc J) l (omega arith) e)))))

      off_at : (x : ℕ) → before.frame x ≡ after.frame x → moved x ≡ false
      off_at x e = unmarked _ (ap (λ (y : Frame). y.translation.x) e)

      below-off : some_below ≡ false
      below-off = none_has _ n (λ x k. on-where (carries parent (suc J) (parent x)) (moved x) (λ e. off_at x (g.below x k (carries-means n parent t.below (suc J) (parent x) (omega (arith, t.below x k)) e))))

      high-off : another c.axes J ≡ false
      high-off = unmarked _ (ap axis_of g.high)

      low-off : another c.axes I ≡ false
      low-off = unmarked _ (ap axis_of g.low)

      own-off : own_rotor ≡ false
      own-off = on-where (eqb J I) (another c.rotors J) (λ e. unmarked _ (g.own (eqb-true J I e)))

      path-off : some_path ≡ false
      path-off =
          none_has _ n (λ x k. on-where (between parent I J x) (moved x) (λ e.
          let b = both-are (carries parent (suc x) (suc J)) (carries parent (suc I) (parent x)) e in
          off_at x (g.path x k (carries-means n parent t.below (suc x) (suc J) (omega arith) b.0, carries-means n parent t.below (suc I) (parent x) (omega (arith, t.below x k)) b.1))))
