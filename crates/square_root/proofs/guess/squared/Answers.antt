use mathlib.Core.Path.{◌≡◌, ap, ◌∙◌}
use Prim.Native.Nat.{ℕ, ◌+◌, ◌*◌, ◌/◌, ◌%◌, ◌≤◌, ◌<◌}
use native.Mathlib.Nat.{mul-le-mul}
use native.Mathlib.Omega.{arith}
use Rattle.square_root.proofs.guess.squared.Goals as goal

abbrev high : ℕ → ℕ
high m = m / 67108864

abbrev low : ℕ → ℕ
low m = m % 67108864

-- h is below 2^27, l below 2^26
record Small (m : ℕ) : Type 0 where
  hh : high m * high m ≤ 18014398241046529
  hl : high m * low m ≤ 9007199053414401
  ll : low m * low m ≤ 4503599493152769

small : (m : ℕ) → m < 9007199254740992 → Small m
small m h = record { hh = mul-le-mul (top m h) (top m h); hl = mul-le-mul (top m h) (rest m); ll = mul-le-mul (rest m) (rest m) }
  where
    top : (m : ℕ) → m < 9007199254740992 → m / 67108864 ≤ 134217727
    top m h = omega arith

    rest : (m : ℕ) → m % 67108864 ≤ 67108863
    rest m = omega arith

-- (h * 2^26 + l)² = h² * 2^52 + h l * 2^27 + l²
square : (m : ℕ) → (high m * high m + high m * low m / 33554432) * 4503599627370496 + (high m * low m % 33554432 * 134217728 + low m * low m) ≡ m * m
square m = at (high m) (low m) ∙ ap (λ (x : ℕ). x * x) (halves m)
  where
    at : (h l : ℕ) → (h * h + h * l / 33554432) * 4503599627370496 + (h * l % 33554432 * 134217728 + l * l) ≡ (h * 67108864 + l) * (h * 67108864 + l)
    at h l = omega arith

    halves : (m : ℕ) → m / 67108864 * 67108864 + m % 67108864 ≡ m
    halves m = omega arith

pub overflow_mul-p : goal.overflow_mul-p
overflow_mul-p c = let b = small c.args.m c.requires in omega arith

pub overflow_mul-result : goal.overflow_mul-result
overflow_mul-result c = let b = small c.args.m c.requires in omega arith

pub overflow_add-result : goal.overflow_add-result
overflow_add-result c = let b = small c.args.m c.requires in omega arith

pub overflow_mul-result-3 : goal.overflow_mul-result-3
overflow_mul-result-3 c = let b = small c.args.m c.requires in omega arith

pub overflow_add-result-2 : goal.overflow_add-result-2
overflow_add-result-2 c = let b = small c.args.m c.requires in omega arith

pub returns : goal.returns
returns c = let b = small c.args.m c.requires in record { value = square c.args.m; top = omega arith; low = omega arith }
