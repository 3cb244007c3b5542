use Rattle.std.proofs.Common.{◌≡◌, sym, ap, ◌∙◌, subst, ℕ, ◌*◌, ◌+◌, ◌^◌, ◌%◌, ◌≤◌, ◌<◌, arith}
use native.Mathlib.Nat.{mod-lt}
use lib.Pow.{pow_pos}
use lib.Count.{count_leading_zeros}
use Rattle.square_root.specs.SquareRoot.{isqrt, sig_of, exp_of}
use Rattle.square_root.specs.Guess.{rounded_root}
use Rattle.square_root.proofs.Whole.{Lead, lead, eleven, shift, half, sig-lt, sig-pos, shifted, N-lo, N-hi, total, isqrt-is, pattern-at}
use Rattle.square_root.proofs.Rounds.{rounded-small}
use Rattle.square_root.proofs.pattern.Goals as goal
use Rattle.square_root.proofs.pattern.Goals.{After-from-z}

-- what is known of c and its leading zeros once the three calls are made
held : (c : After-from-z) → Lead c.significand-c.result c.from-z.result
held c =
    subst (λ (z : ℕ). Lead c.significand-c.result z) (sym c.from-z.ensures)
    (subst (λ (x : ℕ). Lead x (count_leading_zeros 64 x)) (sym c.significand-c.ensures) (lead (sig_of c.args.b) (sig-pos c.args.b c.requires.0) (sig-lt c.args.b)))

zeros : (c : After-from-z) → (11 ≤ c.from-z.result) × (c.from-z.result ≤ 63)
zeros c = eleven c.significand-c.result c.from-z.result (subst (λ (x : ℕ). x < 9007199254740992) (sym c.significand-c.ensures) (sig-lt c.args.b)) (held c)

pub overflow_sub-s : goal.overflow_sub-s
overflow_sub-s c = let z = zeros (goal.at.overflow_sub-s c).After-from-z in omega arith

pub overflow_add-result-2 : goal.overflow_add-result-2
overflow_add-result-2 c =
    let s = c.significand-c.result in
    let w = s * 2 ^ shift c.from-z.result c.exponent-k.result in
    let r : c.rounded.result ≤ 9007199254740992 = subst (λ (x : ℕ). x ≤ 9007199254740992) (sym c.rounded.ensures) (rounded-small (w % 18446744073709551616) (mod-lt w (pow_pos 64))) in
    omega arith

pub returns : goal.returns
returns c =
    let b = c.args.b in
    let s = c.significand-c.result in
    let z = c.from-z.result in
    let k = c.exponent-k.result in
    let t = shift z k in
    let w = s * 2 ^ t in
    let n = w * 17592186044416 in
    let l = held (goal.at.returns c).After-from-z in
    let zs = zeros (goal.at.returns c).After-from-z in
    let small : s < 9007199254740992 = subst (λ (x : ℕ). x < 9007199254740992) (sym c.significand-c.ensures) (sig-lt b) in
    let whole : w % 18446744073709551616 ≡ w = shifted s z k small l in
    let fits : w < 18446744073709551616 = subst (λ (x : ℕ). x < 18446744073709551616) whole (mod-lt w (pow_pos 64)) in
    let r : c.rounded.result ≡ rounded_root w = c.rounded.ensures ∙ ap rounded_root whole in
    let i = isqrt-is 54 n (N-hi w fits) in
    let e : sig_of b * 2 ^ (exp_of b + 1074) ≡ n * 4 ^ half k t =
    ap (λ (x : ℕ). x * 2 ^ (exp_of b + 1074)) (sym c.significand-c.ensures) ∙ ap (λ (x : ℕ). s * 2 ^ (x + 1074)) (sym c.exponent-k.ensures) ∙ total s z k zs.1 zs.0 in
    ap (λ (x : ℕ). (half k t + 1) * 4503599627370496 + x) r
    ∙ sym (pattern-at (sig_of b * 2 ^ (exp_of b + 1074)) n (half k t) (isqrt 54 n) e (N-lo s z k small l) (N-hi w fits) i.0 i.1)
