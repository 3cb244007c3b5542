-- Numbers, doubles and samples in bytes: what is put is read, and what is read is put. Assumes nothing.
use mathlib.Core.Path.{◌≡◌, refl, sym, ◌∙◌}
use mathlib.Core.Logic.{⊎_elim}
use mathlib.Core.Bool.{Bool, true, false, cond, false≢true}
use mathlib.Core.List.{List, [], ◌∷◌, ◌++◌, append_assoc}
use Prim.Native.Nat.{ℕ, zero, suc, ◌+◌, ◌-◌, ◌*◌, ◌/◌, ◌%◌, ◌^◌, ◌≤◌, ◌<◌}
use native.Mathlib.Nat.{mul-suc, pow-suc, div-lt_iff_lt-mul, div-add-mod', zero-lt-suc, mul-zero, eq-or-lt_of_le, le_of_suc-le-suc}
use native.Mathlib.Omega.{arith}
use lib.Dec.{T}
use lib.ListN.{length, get_or, take, drop, length-append, length-drop, take-append-drop}
use lib.Seq.{take_at, drop_at, get_or-drop, length-take-le, take-add}
use lib.Ieee.{Float, nan, inf, fin, binary64, fits, is_nan, to_bits}
use lib.Ieee.Bits.{of_bits-to_bits, to_bits-lt, to_bits-of_bits}
use Rattle.numbers.specs.Double.{finite, finite_to, all_finite}
use Rattle.std.specs.Prelude.{Some}
use Rattle.refusals.specs.Refusals.{fine, refused}
use Rattle.refusals.proofs.Verdicts.{both-fine, never}
use Rattle.little_endian.specs.Bytes.{number_of, bytes_of, double_of, doubles_of, doubles_bytes}
use Rattle.little_endian.proofs.Laws.{length-bytes, length-doubles}
use Rattle.log_samples.specs.Sample.{Sample, size_of, sample_of, samples_of, sample_bytes, samples_bytes, sample_verdict, samples_verdict}
use Rattle.log_samples.proofs.Laws.{both-are, size_is}
use Rattle.log_writing.specs.Write.{given}
use Rattle.log_writing.proofs.Laws.{length-sample}
use Rattle.log_claims.specs.Log.{Bytes, Doubles, joined}

-- ---- what is put is read

pub number-back : (w n : ℕ) (l : List ℕ) → n < 256 ^ w → number_of w (bytes_of w n ++ l) ≡ n
unfolding number_of bytes_of
number-back zero n l h = omega arith
number-back (suc w) n l h =
    let d : n / 256 < 256 ^ w = (div-lt_iff_lt-mul {k = 256} {x = n} {y = 256 ^ w} (zero-lt-suc 255)).1 (rw (pow-suc 256 w) at h) in
    rw (number-back w (n / 256) l d) (div-add-mod' n 256)

double-back : (x : Float) (l : List ℕ) → T (fits binary64 x) → double_of (bytes_of 8 (to_bits binary64 x) ++ l) ≡ x
double-back x l f = rw (number-back 8 (to_bits binary64 x) l (to_bits-lt binary64 x f)) (of_bits-to_bits binary64 x f)

doubles-back : (xs : List Float) (l : List ℕ) → Doubles xs → doubles_of (length xs) (doubles_bytes xs ++ l) ≡ xs
unfolding doubles_of doubles_bytes
doubles-back [] l f = refl
doubles-back (x ∷ xs) l f =
    rw (
      append_assoc (bytes_of 8 (to_bits binary64 x)) (doubles_bytes xs) l,
      double-back x (doubles_bytes xs ++ l) (f 0),
      drop_at (bytes_of 8 (to_bits binary64 x)) (doubles_bytes xs ++ l) 8 (length-bytes 8 (to_bits binary64 x)),
      doubles-back xs l (λ i. f (suc i)),
    )

fit-take : (n : ℕ) (xs : List Float) → Doubles xs → Doubles (take n xs)
unfolding fits
fit-take zero xs f i = tt
fit-take (suc n) [] f i = f i
fit-take (suc n) (x ∷ xs) f zero = f 0
fit-take (suc n) (x ∷ xs) f (suc i) = fit-take n xs (λ j. f (suc j)) i

fit-drop : (n : ℕ) (xs : List Float) → Doubles xs → Doubles (drop n xs)
fit-drop n xs f i = rw (get_or-drop n xs i nan) (f (n + i))

sample-back : (a : ℕ) (ys : List Float) (l : List ℕ) → length ys ≡ 3 * a → Doubles ys → sample_of (size_of a) a (doubles_bytes ys ++ l) ≡ record { numbers = ys }
unfolding sample_of
sample-back a ys l n f = let z : size_of a - 24 * a ≡ 0 = omega (arith, size_is a) in rw (z, ← n, doubles-back ys l f)

pub samples-back : (a k : ℕ) (xs : List Float) (l : List ℕ) → 3 * a * k ≤ length xs → Doubles xs → samples_of (size_of a) a k (samples_bytes (given a k xs) ++ l) ≡ given a k xs
unfolding samples_of samples_bytes sample_bytes given
samples-back a zero xs l h f = refl
samples-back a (suc k) xs l h f =
    let m = 3 * a * k in
    let g : 3 * a * k + 3 * a ≤ length xs = rw (mul-suc (3 * a) k) at h in
    let ys = take (3 * a) xs in
    let r = samples_bytes (given a k (drop (3 * a) xs)) in
    let n : length ys ≡ 3 * a = length-take-le (3 * a) xs (omega arith) in
    rw (
      append_assoc (doubles_bytes ys) r l,
      sample-back a ys (r ++ l) n (fit-take (3 * a) xs f),
      drop_at (doubles_bytes ys) (r ++ l) (size_of a) (length-sample a ys n),
      samples-back a k (drop (3 * a) xs) l (rw (length-drop (3 * a) xs) (omega arith)) (fit-drop (3 * a) xs f),
    )

-- ---- what is read is put

bytes-drop : (n : ℕ) (l : List ℕ) → Bytes l → Bytes (drop n l)
bytes-drop n l f i = rw (get_or-drop n l i 0) (f (n + i))

pub number-small : (w : ℕ) (l : List ℕ) → Bytes l → number_of w l < 256 ^ w
unfolding number_of
number-small zero l f = omega arith
number-small (suc w) [] f = rw (pow-suc 256 w) (let e = number-small w [] f in let p = 256 ^ w in let n = number_of w [] in omega arith)
number-small (suc w) (b ∷ l) f =
    rw (pow-suc 256 w) (let e = number-small w l (λ i. f (suc i)) in let p = 256 ^ w in let n = number_of w l in omega (arith, f 0))

pub bytes-back : (w : ℕ) (l : List ℕ) → w ≤ length l → Bytes l → bytes_of w (number_of w l) ≡ take w l
unfolding number_of bytes_of
bytes-back zero l h f = refl
bytes-back (suc w) [] h f = absurd (omega arith)
bytes-back (suc w) (b ∷ l) h f =
    let n = number_of w l in
    let r : (n * 256 + b) % 256 ≡ b = omega (arith, f 0) in
    let q : (n * 256 + b) / 256 ≡ n = omega (arith, f 0) in
    rw (r, q, bytes-back w l (omega arith) (λ i. f (suc i)))

no-nan : (x : Float) → finite x ≡ true → is_nan x ≡ false
unfolding finite is_nan
no-nan nan e = absurd (false≢true e)
no-nan (inf s) e = refl
no-nan (fin s m e') e = refl

double-again : (l : List ℕ) → 8 ≤ length l → Bytes l → finite (double_of l) ≡ true → bytes_of 8 (to_bits binary64 (double_of l)) ≡ take 8 l
double-again l h f e =
    rw (to_bits-of_bits binary64 (number_of 8 l) (number-small 8 l f) (rw (no-nan (double_of l) e) tt))
    (bytes-back 8 l h f)

-- each of them is finite
abbrev Finite : List Float → Type 0
Finite v = (k : ℕ) → k < length v → finite (get_or v k nan) ≡ true

each-to : (v : List Float) (n k : ℕ) → finite_to v n ≡ true → k < n → finite (get_or v k nan) ≡ true
unfolding finite_to
each-to v zero k e h = absurd (omega arith)
each-to v (suc n) k e h =
    let p = both-are (finite_to v n) (finite (get_or v n nan)) e in
    ⊎_elim (λ (q : k ≡ n). rw q p.1) (λ (q : k < n). each-to v n k p.0 q) (eq-or-lt_of_le (le_of_suc-le-suc h))

doubles-again : (n : ℕ) (l : List ℕ) → 8 * n ≤ length l → Bytes l → Finite (doubles_of n l) → doubles_bytes (doubles_of n l) ≡ take (8 * n) l
unfolding doubles_of doubles_bytes
doubles-again zero l h f e = refl
doubles-again (suc n) l h f e =
    let m : 8 * suc n ≡ 8 + 8 * n = omega arith in
    rw (
      double-again l (omega arith) f (e 0 (omega arith)),
      doubles-again n (drop 8 l) (rw (length-drop 8 l) (omega arith)) (bytes-drop 8 l f) (λ k j. e (suc k) (omega arith)),
      m,
      take-add 8 (8 * n) l,
    )

sample-again : (a : ℕ) (l : List ℕ) → size_of a ≤ length l → Bytes l → all_finite (sample_of (size_of a) a l).numbers ≡ true → sample_bytes (sample_of (size_of a) a l) ≡ take (size_of a) l
unfolding sample_bytes sample_of
sample-again a l h f e =
    let z : size_of a - 24 * a ≡ 0 = omega (arith, size_is a) in
    let m : size_of a ≡ 8 * (3 * a) = omega (arith, size_is a) in
    let g : all_finite (doubles_of (3 * a) l) ≡ true = rw z at e in
    rw (z, m) (doubles-again (3 * a) l (omega (arith, m)) f (λ k j. each-to (doubles_of (3 * a) l) (length (doubles_of (3 * a) l)) k g j))

-- a sample that is fine is finite
one-fine : (i : ℕ) (x : Sample) → sample_verdict i x ≡ fine → all_finite x.numbers ≡ true
unfolding sample_verdict
one-fine i x e = go (all_finite x.numbers) e
  where
    go : (b : Bool) → cond b fine (refused 55 (Some i)) ≡ fine → b ≡ true
    go true e = refl
    go false e = never _ e

pub samples-again : (a i k : ℕ) (l : List ℕ) → size_of a * k ≤ length l → Bytes l → samples_verdict i (samples_of (size_of a) a k l) ≡ fine
    → samples_bytes (samples_of (size_of a) a k l) ≡ take (size_of a * k) l
unfolding samples_of samples_bytes samples_verdict
samples-again a i zero l h f e = rw (mul-zero (size_of a))
samples-again a i (suc k) l h f e =
    let S = size_of a in
    let m = S * k in
    let g : S * k + S ≤ length l = rw (mul-suc S k) at h in
    let c : S * suc k ≡ S + S * k = mul-suc S k ∙ (omega arith) in
    let p = both-fine (sample_verdict i (sample_of S a l)) (samples_verdict (suc i) (samples_of S a k (drop S l))) e in
    rw (
      sample-again a l (omega arith) f (one-fine i (sample_of S a l) p.0),
      samples-again a (suc i) k (drop S l) (rw (length-drop S l) (omega arith)) (bytes-drop S l f) p.1,
      c,
      take-add S (S * k) l,
    )

-- ---- numbers in a row, cut into samples again

module _ (a : ℕ) where
  pub length-joined : (S k : ℕ) (l : List ℕ) → length (joined (samples_of S a k l)) ≡ 3 * a * k
  unfolding samples_of joined sample_of
  length-joined S zero l = sym (mul-zero (3 * a))
  length-joined S (suc k) l =
      length-append (doubles_of (3 * a) (drop (S - 24 * a) l)) (joined (samples_of S a k (drop S l)))
      ∙ rw (length-doubles (3 * a) (drop (S - 24 * a) l), length-joined S k (drop S l), mul-suc (3 * a) k) (let m = 3 * a * k in omega arith)

  pub given-joined : (S k : ℕ) (l : List ℕ) → given a k (joined (samples_of S a k l)) ≡ samples_of S a k l
  unfolding samples_of joined sample_of given
  given-joined S zero l = refl
  given-joined S (suc k) l =
      let ys = doubles_of (3 * a) (drop (S - 24 * a) l) in
      let n : length ys ≡ 3 * a = length-doubles (3 * a) (drop (S - 24 * a) l) in
      let r = joined (samples_of S a k (drop S l)) in
      rw (take_at ys r (3 * a) n, drop_at ys r (3 * a) n, given-joined S k (drop S l))

  -- and numbers that were cut into samples are in a row again
  pub joined-given : (k : ℕ) (xs : List Float) → length xs ≡ 3 * a * k → joined (given a k xs) ≡ xs
  unfolding joined given
  joined-given zero [] h = refl
  joined-given zero (x ∷ xs) h = absurd (omega (arith, mul-zero (3 * a)))
  joined-given (suc k) xs h =
      let m = 3 * a * k in
      let g : length xs ≡ 3 * a * k + 3 * a = h ∙ mul-suc (3 * a) k in
      rw (joined-given k (drop (3 * a) xs) (length-drop (3 * a) xs ∙ (omega arith))) (take-append-drop (3 * a) xs)
