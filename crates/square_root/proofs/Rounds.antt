-- The root of w * 2^42, rounded, from the 54 digits of the root of w * 2^44 and from a remainder. Assumes nothing.
use mathlib.Core.Path.{◌≡◌, ap, subst}
use Prim.Native.Nat.{ℕ, zero, suc, ◌+◌, ◌-◌, ◌*◌, ◌/◌, ◌≤◌, ◌<◌}
use native.Mathlib.Omega.{arith}
use Rattle.square_root.specs.SquareRoot.{isqrt}
use Rattle.square_root.specs.Guess.{Remainder, rounded_root}
use Rattle.square_root.proofs.Whole.{root-le, root-unique, isqrt-is, N-hi, root-small}

pub digits-rounded : (w r : ℕ) → w < 18446744073709551616 → r * r ≤ w * 17592186044416 → w * 17592186044416 < (r + 1) * (r + 1) → (r + 1) / 2 ≡ rounded_root w
digits-rounded w r h a b = let i = isqrt-is 54 (w * 17592186044416) (N-hi w h) in ap (λ (x : ℕ). (x + 1) / 2) (root-unique r (isqrt 54 (w * 17592186044416)) (w * 17592186044416) a b i.0 i.1)

pub rounded-small : (w : ℕ) → w < 18446744073709551616 → rounded_root w ≤ 9007199254740992
rounded-small w h =
    let r = root-small (isqrt 54 (w * 17592186044416)) w h (isqrt-is 54 (w * 17592186044416) (N-hi w h)).0 in
    omega arith

-- The square of 2 m - 1 is not above w * 2^44 then, and that of 2 m + 1 is: of the 54 digits m is the half, rounded.
pub remainder-rounded : (w m u : ℕ) → w < 18446744073709551616 → Remainder w m u → m ≤ 9007199254740992 → 36028797018963968 - m < u → u ≤ 36028797018963968 + m → m ≡ rounded_root w
remainder-rounded w zero u h e s a b = absurd (none u a b)
  where
    none : (u : ℕ) → 36028797018963968 - 0 < u → u ≤ 36028797018963968 + 0 → ⊥
    none u a b = omega arith
remainder-rounded w (suc k) u h e s a b =
    let r = isqrt 54 (w * 17592186044416) in
    let i = isqrt-is 54 (w * 17592186044416) (N-hi w h) in
    let least : 2 * k + 1 ≤ r = root-le (2 * k + 1) r (w * 17592186044416) (below w k u e s a) i.1 in
    let most : r ≤ 2 * k + 2 = root-le r (2 * k + 2) (w * 17592186044416) i.0 (above w k u e b) in
    omega arith
  where
    below : (w k u : ℕ) → Remainder w (suc k) u → suc k ≤ 9007199254740992 → 36028797018963968 - suc k < u → (2 * k + 1) * (2 * k + 1) ≤ w * 17592186044416
    below w k u e s a = omega arith

    above : (w k u : ℕ) → Remainder w (suc k) u → u ≤ 36028797018963968 + suc k → w * 17592186044416 < (2 * k + 2 + 1) * (2 * k + 2 + 1)
    above w k u e b = omega arith

-- (k + 1)² = k² + 2 k + 1
pub one_lower : (w m u : ℕ) → 0 < m → Remainder w m u → Remainder w (m - 1) (u + 2 * (m - 1) + 1)
one_lower w zero u h e = absurd (none h)
  where
    none : 0 < 0 → ⊥
    none h = omega arith
one_lower w (suc k) u h e = subst (λ (x : ℕ). Remainder w x (u + 2 * x + 1)) (back k) (at w k u e)
  where
    back : (k : ℕ) → k ≡ suc k - 1
    back k = omega arith

    at : (w k u : ℕ) → Remainder w (suc k) u → Remainder w k (u + 2 * k + 1)
    at w k u e = omega arith
