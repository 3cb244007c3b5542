-- The twelve small cases of document 01, and of document 02 the masses of item 9, the loads of item 3, the turns of item 6, the rotors of item 11, the plain engine of item 10 and the entries that stand of item 7: what is asked, by the definitions of the calls, and what is to be told. Definitions only.
-- "Unless said: identity origins and root rotation, fixed root, other numbers zero."
use Rattle.std.specs.Prelude.{Bool, true, false, cond, List, [], ◌∷◌, ◌++◌, map, ◌≡◌, ℕ, ◌+◌, ◌*◌, length, replicate, Float, Option, Some, None, Ok, Err}
use Rattle.std.specs.Float.{binary64}
use Rattle.std.specs.Float.Ieee.{to_bits}
use Rattle.numbers.specs.Double.{◌⊗◌, ◌⊘◌, bits, 0·0, 1·0, 2·0}
use Rattle.square_root.specs.SquareRoot.{root_of}
use Rattle.half_turn.specs.HalfTurn.{half_turn_of}
use Rattle.half_turn.specs.declared.SinCos.{SinCos}
use Rattle.numbers.specs.Vec3.{vec_by}
use Rattle.numbers.specs.declared.quaternion.Quaternion.{Quaternion}
use Rattle.refusals.specs.Refusals.{Verdict}
use Rattle.spatial.specs.Twist.{zeros_of}
use Rattle.spatial.specs.Wrench.{vector_of}
use Rattle.slots.specs.Slots.{vec3_at}
use Rattle.builder.specs.Build.{built_of}
use Rattle.arm.specs.Joint.{components, with_rotor}
use Rattle.arm.specs.Model.{rotor_of, link_of}
use Rattle.builder.specs.declared.build.Built.{Built}
use Rattle.calls.specs.Position.{Result, whole_of}
use Rattle.calls.specs.declared.position.Outcome.{Outcome}
use Rattle.calls.specs.declared.position.Outcome.TheVariants.{Open, Accepted}
use Rattle.calls.specs.declared.position.Outcome.TheVariants as outcome
use Rattle.mass_matrix.specs.MassMatrix.{mass_matrix}
use Rattle.mass_matrix.specs.declared.mass_matrix.Mode.TheVariants as matrix
use Rattle.plain_matrix.specs.PlainMatrix.{plain_call}
use Rattle.standing.specs.Standing.{changes, stands_call}
use Rattle.standing.specs.declared.changes.Changes.{Changes}
use Rattle.forward_dynamics.specs.ForwardDynamics.{forward_dynamics}
use Rattle.forward_slots.specs.Loads.{load_of}
use Rattle.forward_visits.specs.Inputs.{inputs_by}
use Rattle.forward_dynamics.specs.declared.forward_dynamics.Mode.{Mode}
use Rattle.forward_dynamics.specs.declared.forward_dynamics.Mode.TheVariants.{Fixed, Floating}

-- ---- what is told, in bit patterns of doubles

pub data Told : Type 0 where
  given : List ℕ → Told
  -- by the refusal's number, what is named, and what the numbers then are
  refused : ℕ → Option ℕ → List ℕ → Told
  -- no root, out of range, or a calculation that has not ended
  unanswered : Told

abbrev pub patterns : List Float → List ℕ
patterns v = map (to_bits binary64) v

abbrev pub of_root : Option Float → Told
of_root (Some r) = given (patterns (r ∷ []))
of_root None = unanswered

abbrev pub of_half_turn : Option SinCos → Told
of_half_turn (Some v) = given (patterns (v.sin ∷ v.cos ∷ []))
of_half_turn None = unanswered

abbrev pub of_verdict : Verdict → List Float → Told
of_verdict (Ok u) v = given (patterns v)
of_verdict (Err r) v = refused r.number r.place (patterns v)

abbrev pub of_outcome : Outcome → List Float → Told
of_outcome Open v = unanswered
of_outcome Accepted v = given (patterns v)
of_outcome (outcome.Refused r) v = refused r.number r.place (patterns v)

-- marks as numbers
abbrev pub of_marks : Verdict → List Bool → Told
of_marks (Ok u) marks = given (map (λ b. cond b 1 0) marks)
of_marks (Err r) marks = refused r.number r.place (map (λ b. cond b 1 0) marks)

-- ---- the arms

abbrev 3·0 : Float
3·0 = bits 0x4008_0000_0000_0000

abbrev 4·0 : Float
4·0 = bits 0x4010_0000_0000_0000

-- 9.80665 and 1e308
abbrev gravity : Float
gravity = bits 0x4023_9d01_3a92_a305

abbrev huge : Float
huge = bits 0x7fe1_ccf3_85eb_c8a0

abbrev zeros : ℕ → List Float
zeros n = replicate n 0·0

abbrev axis : Float → Float → Float → List Float
axis x y z = x ∷ y ∷ z ∷ []

-- a link of a mass, xx, yy and zz
abbrev link : Float → Float → Float → Float → List Float
link mass xx yy zz = mass ∷ 0·0 ∷ 0·0 ∷ 0·0 ∷ xx ∷ 0·0 ∷ 0·0 ∷ yy ∷ 0·0 ∷ zz ∷ []

abbrev weight : Float → List Float
weight mass = link mass 0·0 0·0 0·0

abbrev origin : List Float
origin = 1·0 ∷ zeros 6

-- one joint, of a kind: 0 turns, 1 slides
abbrev one_joint : ℕ → List Float → List Float → Built
one_joint kind a l = built_of 1 (0 ∷ []) (kind ∷ []) origin a (zeros 10 ++ l) (zeros 1)

-- slides on z: one that carries a mass, and two, the second on a link
abbrev z : List Float
z = axis 0·0 0·0 1·0

abbrev one_slide : Float → Built
one_slide mass = one_joint 1 z (weight mass)

-- two with rotors
abbrev geared : ℕ → Float → Float → Float → Float → Built
geared parent a b c d = built_of 2 (0 ∷ parent ∷ []) (1 ∷ 1 ∷ []) (origin ++ origin) (z ++ z) (zeros 10 ++ weight a ++ weight b) (c ∷ d ∷ [])

abbrev two_slides : ℕ → Float → Float → Built
two_slides parent a b = geared parent a b 0·0 0·0

-- a turn about z, on it a slide along x, and on that a turn about z
abbrev read : Built
read =
    let at : Float → Float → List Float = λ x y. 1·0 ∷ zeros 3 ++ x ∷ y ∷ 0·0 ∷ [] in
    built_of 3 (0 ∷ 1 ∷ 2 ∷ []) (0 ∷ 1 ∷ 0 ∷ []) (origin ++ at 1·0 2·0 ++ at 0·0 2·0) (z ++ axis 1·0 0·0 0·0 ++ z)
    (zeros 10 ++ link 1·0 0·0 0·0 1·0 ++ (3·0 ∷ 0·0 ∷ 1·0 ∷ zeros 6 ++ 4·0 ∷ []) ++ (2·0 ∷ 1·0 ∷ zeros 7 ++ 2·0 ∷ [])) (0·0 ∷ bits 0x3fe0_0000_0000_0000 ∷ 0·0 ∷ [])

-- ---- the calls

-- joint 0's axis, as it is kept
abbrev kept_axis : List Float → Told
kept_axis a = let b = one_joint 1 a (weight 0·0) in of_verdict b.verdict (components (vec3_at b.model.axes 0))

-- the masses of the root's link and of link 1, as they are kept
abbrev kept_masses : Float → Float → Told
kept_masses a b =
    let built = built_of 1 (0 ∷ []) (1 ∷ []) origin z (weight a ++ weight b) (zeros 1) in
    let links = built.model.links in
    of_verdict built.verdict ((link_of links 0).mass ∷ (link_of links 1).mass ∷ [])

-- the rotors of two joints, the second of a kind, as they are kept
abbrev kept_rotors : ℕ → Float → Float → Told
kept_rotors kind a b =
    let built = built_of 2 (0 ∷ 1 ∷ []) (1 ∷ kind ∷ []) (origin ++ origin) (z ++ z) (zeros 30) (a ∷ b ∷ []) in
    let rotors = built.model.rotors in
    of_verdict built.verdict (rotor_of rotors 0 ∷ rotor_of rotors 1 ∷ [])

-- lent to be written: ones, so that what is told was written
abbrev ones : ℕ → List Float
ones n = replicate n 1·0

abbrev output : Result → Told
output r = of_outcome r.0.outcome r.2

-- the undivided calls, at rest with every joint at 0 unless said
abbrev matrix_at : List Float → Built → Told
matrix_at q b = let n = b.model.n in output (whole_of (mass_matrix matrix.Fixed b.model q) (ones (n * 32 + 64 + n * n)) (ones (n * n)))

abbrev fixed_matrix : Built → Told
fixed_matrix b = matrix_at (zeros b.model.n) b

abbrev loaded_forward : Mode → Built → List Float → List ℕ → List Float → Told
loaded_forward mode b forces loaded loads =
    let n = b.model.n in
    output (whole_of (forward_dynamics mode b.model (inputs_by (zeros n) (zeros n) forces loaded loads)) (ones (n * 96 + 64)) (ones (length forces)))

abbrev forward : Mode → Built → List Float → Told
forward mode b forces = loaded_forward mode b forces [] []

abbrev upright : Quaternion
upright = record { w = 1·0; u = vec_by (λ i. 0·0) }

-- a load along z
abbrev along_z : Float → List Float
along_z f = zeros 5 ++ f ∷ []

-- link 1's load; and case 9 with two loads on it
abbrev load_on : List ℕ → List Float → Told
load_on loaded loads = given (patterns (vector_of (load_of loaded loads 1)))

abbrev pulled : Float → Float → Told
pulled a b = loaded_forward (Fixed upright) (one_slide 2·0) (0·0 ∷ []) (1 ∷ 1 ∷ []) (along_z a ++ along_z b)

-- the plain engine's, on a fixed root
abbrev plain_at : List Float → ℕ → Built → Told
plain_at q out b = let a = plain_call matrix.Fixed b.model q (ones out) in of_outcome a.0 a.1

abbrev plain_fixed : Built → Told
plain_fixed b = let n = b.model.n in plain_at (zeros n) (n * n) b

-- a turn on z that carries an inertia of 5, by q: its entry is 5 wherever it stands
abbrev turned_by : Float → Told
turned_by q = matrix_at (q ∷ []) (one_joint 0 z (link 0·0 0·0 0·0 (bits 0x4014_0000_0000_0000)))

-- ---- the list

-- what is asked and what is to be told, under document 01's numbers
unfoldable pub twelve : List (Told × Told)
twelve =
    -- 1: the root of 2.25 is 1.5
    (of_root (root_of (bits 0x4002_0000_0000_0000)), given (0x3ff8_0000_0000_0000 ∷ []))
    -- 2: (3, 4, 0) becomes (0.75/1.25, 1/1.25, 0)
    ∷ (kept_axis (axis 3·0 4·0 0·0), given (patterns (axis (bits 0x3fe8_0000_0000_0000 ⊘ bits 0x3ff4_0000_0000_0000) (1·0 ⊘ bits 0x3ff4_0000_0000_0000) 0·0)))
    -- 3 and 4: (1e-12, 0, 0) and (2e-12, 0, 0)
    ∷ (kept_axis (axis (bits 0x3d71_9799_812d_ea11) 0·0 0·0), refused 5 (Some 0) (0 ∷ 0 ∷ 0 ∷ []))
    ∷ (kept_axis (axis (bits 0x3d81_9799_812d_ea11) 0·0 0·0), given (0x3ff0_0000_0000_0000 ∷ 0 ∷ 0 ∷ []))
    -- 5: 2
    ∷ (fixed_matrix (one_slide 2·0), given (0x4000_0000_0000_0000 ∷ []))
    -- 6: 5, 3, 3, 3
    ∷ (fixed_matrix (two_slides 1 2·0 3·0), given (0x4014_0000_0000_0000 ∷ 0x4008_0000_0000_0000 ∷ 0x4008_0000_0000_0000 ∷ 0x4008_0000_0000_0000 ∷ []))
    -- 7: 2, +0.0, +0.0, 3
    ∷ (fixed_matrix (two_slides 0 2·0 3·0), given (0x4000_0000_0000_0000 ∷ 0 ∷ 0 ∷ 0x4008_0000_0000_0000 ∷ []))
    -- 8: 5
    ∷ (fixed_matrix (one_joint 0 (axis 0·0 0·0 (bits 0xbff0_0000_0000_0000)) (link 0·0 0·0 0·0 (bits 0x4014_0000_0000_0000))), given (0x4014_0000_0000_0000 ∷ []))
    -- 9: -9.80665
    ∷ (forward (Fixed upright) (one_slide 2·0) (0·0 ∷ []), given (0xc023_9d01_3a92_a305 ∷ []))
    -- 10: both calculations, the matrix +0.0
    ∷ (forward (Fixed upright) (one_slide 0·0) (0·0 ∷ []), refused 31 (Some 0) (0x3ff0_0000_0000_0000 ∷ []))
    ∷ (fixed_matrix (one_slide 0·0), given (0 ∷ []))
    -- 11: the output as it was
    ∷ (fixed_matrix (two_slides 1 huge huge), refused 37 None (replicate 4 0x3ff0_0000_0000_0000))
    -- 12: all six +0.0
    ∷ (forward (Floating upright zeros_of) (built_of 0 [] [] [] [] (link 4·0 1·0 1·0 1·0) []) (zeros 5 ++ 4·0 ⊗ gravity ∷ []), given (replicate 6 0))
    ∷ []

-- document 02, item 9: -3 on a link, and on the root's link too; -0.0 and +0.0 stay allowed
unfoldable pub masses : List (Told × Told)
masses =
    let -3·0 = bits 0xc008_0000_0000_0000 in
    (kept_masses 2·0 -3·0, refused 8 (Some 1) (0 ∷ 0 ∷ []))
    ∷ (kept_masses -3·0 -3·0, refused 8 (Some 0) (0 ∷ 0 ∷ []))
    ∷ (kept_masses (bits 0x8000_0000_0000_0000) 0·0, given (0x8000_0000_0000_0000 ∷ 0 ∷ []))
    ∷ []

-- document 02, item 3: loads on one link are added
unfoldable pub loads : List (Told × Told)
loads =
    let -0·0 = bits 0x8000_0000_0000_0000 in
    let 2^53 = bits 0x4340_0000_0000_0000 in
    -- without one zero; one as it stands, -0.0 too
    (load_on [] [], given (replicate 6 0))
    ∷ (load_on (0 ∷ 1 ∷ []) (along_z 3·0 ++ replicate 6 -0·0), given (replicate 6 0x8000_0000_0000_0000))
    -- in list order: 2^53, 1 and 1 come to 2^53
    ∷ (load_on (1 ∷ 1 ∷ 1 ∷ []) (along_z 2^53 ++ along_z 1·0 ++ along_z 1·0), given (replicate 5 0 ++ 0x4340_0000_0000_0000 ∷ []))
    -- a gripper's 3 and a cable's 4: -7/2 - 9.80665
    ∷ (pulled 3·0 4·0, given (0xc02a_9d01_3a92_a305 ∷ []))
    -- a sum that overflows: what the visits find
    ∷ (pulled huge huge, refused 36 (Some 0) (0x3ff0_0000_0000_0000 ∷ []))
    ∷ []

-- document 02, item 6: 1024 and the limit of a turn, each with the next double
unfoldable pub turns : List (Told × Told)
turns =
    let limit = bits 0x4130_0000_0000_0000 in
    let -limit = bits 0xc130_0000_0000_0000 in
    let beyond = bits 0x4130_0000_0000_0001 in
    (of_half_turn (half_turn_of (bits 0x4090_0000_0000_0000)), given (0x3fb4_5b52_f336_64cf ∷ 0xbfef_e60f_23a8_1f3d ∷ []))
    ∷ (of_half_turn (half_turn_of (bits 0x4090_0000_0000_0001)), given (0x3fb4_5b52_f336_44e9 ∷ 0xbfef_e60f_23a8_1f8e ∷ []))
    ∷ (of_half_turn (half_turn_of limit), given (0x3fc5_7481_ec90_fde4 ∷ 0x3fef_8c19_86ca_67fa ∷ []))
    ∷ (of_half_turn (half_turn_of -limit), given (0xbfc5_7481_ec90_fde4 ∷ 0x3fef_8c19_86ca_67fa ∷ []))
    ∷ (of_half_turn (half_turn_of beyond), unanswered)
    -- 13 begins where "out of range" does
    ∷ (turned_by limit, given (0x4014_0000_0000_0000 ∷ []))
    ∷ (turned_by -limit, given (0x4014_0000_0000_0000 ∷ []))
    ∷ (turned_by beyond, refused 13 (Some 0) (0x3ff0_0000_0000_0000 ∷ []))
    ∷ []

-- document 02, item 11: a rotor is added to D and to its joint's diagonal entry alone
unfoldable pub rotors : List (Told × Told)
rotors =
    let -0·0 = bits 0x8000_0000_0000_0000 in
    let -3·0 = bits 0xc008_0000_0000_0000 in
    let nan = bits 0x7ff8_0000_0000_0000 in
    -- a zero of either sign adds nothing, and so leaves -0.0
    (given (patterns (with_rotor 0·0 -0·0 ∷ with_rotor -0·0 -0·0 ∷ with_rotor 0·0 2·0 ∷ with_rotor 1·0 2·0 ∷ [])), given (0x8000_0000_0000_0000 ∷ 0x8000_0000_0000_0000 ∷ 0x4000_0000_0000_0000 ∷ 0x4008_0000_0000_0000 ∷ []))
    -- case 6 with rotors of 1 and 2: 6, 3, 3, 5
    ∷ (fixed_matrix (geared 1 2·0 3·0 1·0 2·0), given (0x4018_0000_0000_0000 ∷ 0x4008_0000_0000_0000 ∷ 0x4008_0000_0000_0000 ∷ 0x4014_0000_0000_0000 ∷ []))
    -- case 9 with a rotor of 2, beside one without: -(2 · 9.80665) / 4
    ∷ (forward (Fixed upright) (geared 0 2·0 1·0 2·0 0·0) (0·0 ∷ 0·0 ∷ []), given (0xc013_9d01_3a92_a305 ∷ 0xc023_9d01_3a92_a305 ∷ []))
    -- case 10 with one of 2, which is driven by 4: the motor alone is accelerated
    ∷ (forward (Fixed upright) (geared 0 0·0 1·0 2·0 -0·0) (4·0 ∷ 0·0 ∷ []), given (0x4000_0000_0000_0000 ∷ 0xc023_9d01_3a92_a305 ∷ []))
    -- what is kept: -0.0 as it stands, a fixed joint's never looked at
    ∷ (kept_rotors 1 -0·0 2·0, given (0x8000_0000_0000_0000 ∷ 0x4000_0000_0000_0000 ∷ []))
    ∷ (kept_rotors 2 3·0 nan, given (0x4008_0000_0000_0000 ∷ 0 ∷ []))
    -- what is refused: -3 on one joint and on both, and NaN before it
    ∷ (kept_rotors 0 1·0 -3·0, refused 26 (Some 1) (0 ∷ 0 ∷ []))
    ∷ (kept_rotors 0 -3·0 -3·0, refused 26 (Some 0) (0 ∷ 0 ∷ []))
    ∷ (kept_rotors 0 -3·0 nan, refused 6 (Some 1) (0 ∷ 0 ∷ []))
    ∷ []

-- document 02, item 10: the plain engine
unfoldable pub plain : List (Told × Told)
plain =
    -- cases 6, 7 and 11, and case 6 with rotors
    (plain_fixed (two_slides 1 2·0 3·0), given (0x4014_0000_0000_0000 ∷ 0x4008_0000_0000_0000 ∷ 0x4008_0000_0000_0000 ∷ 0x4008_0000_0000_0000 ∷ []))
    ∷ (plain_fixed (two_slides 0 2·0 3·0), given (0x4000_0000_0000_0000 ∷ 0 ∷ 0 ∷ 0x4008_0000_0000_0000 ∷ []))
    ∷ (plain_fixed (two_slides 1 huge huge), refused 37 None (replicate 4 0x3ff0_0000_0000_0000))
    ∷ (plain_fixed (geared 1 2·0 3·0 1·0 2·0), given (0x4018_0000_0000_0000 ∷ 0x4008_0000_0000_0000 ∷ 0x4008_0000_0000_0000 ∷ 0x4014_0000_0000_0000 ∷ []))
    -- an output of 3 numbers
    ∷ (plain_at (zeros 2) 3 (two_slides 1 2·0 3·0), refused 17 None (replicate 3 0x3ff0_0000_0000_0000))
    -- the second reader's arm (docs/READING.md): 106, -15, 5, -15, 5.5, 0, 5, 0, 2
    ∷ (plain_at (0·0 ∷ 2·0 ∷ 0·0 ∷ []) 9 read, given (0x405a_8000_0000_0000 ∷ 0xc02e_0000_0000_0000 ∷ 0x4014_0000_0000_0000 ∷ 0xc02e_0000_0000_0000 ∷ 0x4016_0000_0000_0000 ∷ 0 ∷ 0x4014_0000_0000_0000 ∷ 0 ∷ 0x4000_0000_0000_0000 ∷ []))
    ∷ []

-- document 02, item 7: an arm whose first joint carries a fixed one with a turn on it, and a slide beside them (docs/CONTRACTS.md)
abbrev stands_for : Bool → ℕ → Changes → ℕ → Told
stands_for floating n c room = let a = stands_call floating n (0 ∷ 1 ∷ 2 ∷ 1 ∷ []) (0 ∷ 2 ∷ 0 ∷ 1 ∷ []) c (replicate room false) in of_marks a.0 a.1

-- flag i alone
abbrev flag : ℕ → List Bool
flag i = replicate i false ++ true ∷ []

unfoldable pub standing : List (Told × Told)
standing =
    -- link 3 weighed again; the root's link
    (stands_for false 4 (changes (flag 3) [] [] []) 9, given (0 ∷ 0 ∷ 1 ∷ 0 ∷ 0 ∷ 1 ∷ 1 ∷ 1 ∷ 1 ∷ []))
    ∷ (stands_for false 4 (changes (flag 0) [] [] []) 9, given (replicate 9 1))
    -- joint 2 moved; joint 0, whose own frame counts for nothing
    ∷ (stands_for false 4 (changes [] (flag 2) [] []) 9, given (0 ∷ 0 ∷ 1 ∷ 0 ∷ 1 ∷ 1 ∷ 1 ∷ 1 ∷ 1 ∷ []))
    ∷ (stands_for false 4 (changes [] (flag 0) [] []) 9, given (replicate 9 1))
    -- joint 2's axis, its rotor, and both of the fixed joint
    ∷ (stands_for false 4 (changes [] [] (flag 2) []) 9, given (0 ∷ 0 ∷ 1 ∷ 0 ∷ 0 ∷ 1 ∷ 1 ∷ 1 ∷ 1 ∷ []))
    ∷ (stands_for false 4 (changes [] [] [] (flag 2)) 9, given (1 ∷ 1 ∷ 1 ∷ 1 ∷ 0 ∷ 1 ∷ 1 ∷ 1 ∷ 1 ∷ []))
    ∷ (stands_for false 4 (changes [] [] (flag 1) (flag 1)) 9, given (replicate 9 1))
    -- on a floating root, the first joint alone, with the root's link weighed again: of the base nothing is said
    ∷ (stands_for true 1 (changes (flag 0) [] [] []) 49, given (replicate 48 0 ++ 1 ∷ []))
    -- what is refused: 33 joints, and 8 marks
    ∷ (stands_for false 33 (changes [] [] [] []) 2, refused 9 None (0 ∷ 0 ∷ []))
    ∷ (stands_for false 4 (changes [] [] [] []) 8, refused 17 None (replicate 8 0))
    ∷ []

-- each is told as expected
abbrev pub Hold : List (Told × Told) → Type 0
Hold cases = map (λ c. c.0) cases ≡ map (λ c. c.1) cases
