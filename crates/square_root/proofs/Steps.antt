-- One turn of the digit loop, on whole numbers: r is the root so far, m what is left over, l the digits of w to come. Assumes nothing.
use mathlib.Core.Path.{◌≡◌, sym, ap, ◌∙◌, subst}
use Prim.Native.Nat.{ℕ, ◌+◌, ◌*◌, ◌/◌, ◌%◌, ◌^◌, ◌≤◌, ◌<◌}
use native.Mathlib.Nat.{pow-suc, mul_comm}
use native.Mathlib.Numerals.{add-one}
use native.Mathlib.Omega.{arith}
use Rattle.square_root.specs.SquareRoot.{NextPart}

power : (b i : ℕ) → b ^ (i + 1) ≡ b * b ^ i
power b i = ap (λ (n : ℕ). b ^ n) (add-one i) ∙ pow-suc b i ∙ mul_comm (b ^ i) b

-- what holds at the loop's head: the root and what is left over make up the digits of w taken so far
pub record Taken (w l r m i : ℕ) : Type 0 where
  pub value : (r * r + m) * 18446744073709551616 + l ≡ w * 4 ^ i
  pub rest : m ≤ 2 * r
  pub short : r < 2 ^ i

pub turn : (w l r m i s u : ℕ) → Taken w l r m i → NextPart r m (l / 4611686018427387904) s u → Taken w (l % 4611686018427387904 * 4) s u (i + 1)
turn w l r m i s u t p =
    record {
      value = value-is w l (r * r + m) (s * s + u) (4 ^ i) t.value p.value ∙ ap (λ (x : ℕ). w * x) (sym (power 4 i));
      rest = p.rest;
      short = subst (λ (x : ℕ). s < x) (sym (power 2 i)) (short-is r s (2 ^ i) t.short p.short);
    }
  where
    value-is : (w l x y e : ℕ) → x * 18446744073709551616 + l ≡ w * e → y ≡ 4 * x + l / 4611686018427387904
        → y * 18446744073709551616 + l % 4611686018427387904 * 4 ≡ w * (4 * e)
    value-is w l x y e h f = omega arith

    short-is : (r s p : ℕ) → r < p → s ≤ 2 * r + 1 → s < 2 * p
    short-is r s p h k = omega arith

-- the end: all digits of w are taken
last : (w r m l : ℕ) → (r * r + m) * 18446744073709551616 + l ≡ w * 324518553658426726783156020576256 → l < 18446744073709551616 → r * r + m ≡ w * 17592186044416
last w r m l e h = omega arith

above : (n r m : ℕ) → r * r + m ≡ n → m ≤ 2 * r → (r * r ≤ n) × (n < (r + 1) * (r + 1))
above n r m e h = omega arith

pub done : (w l r m : ℕ) → l < 18446744073709551616 → Taken w l r m 54 → (r * r ≤ w * 17592186044416) × (w * 17592186044416 < (r + 1) * (r + 1))
done w l r m h t = above (w * 17592186044416) r m (last w r m l t.value h) t.rest
