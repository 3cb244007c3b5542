-- What a calculation's request hands in, as readers of the words of a line. Assumes nothing.
use Rattle.std.specs.Prelude.{Bool, true, false, cond, ◌||◌, List, [], ℕ, eqb, ltb, get_or, bytes_eq, codes, Float, Option, Some, None}
use Rattle.std.specs.Float.{nan, binary64}
use Rattle.std.specs.Float.Ieee.{of_bits}
use Rattle.words.specs.Read.{Reader, give, fail, given, ◌>>=◌, ◌>>◌, word, number, end}
use Rattle.words.specs.List.{items, numbers, doubles}
use Rattle.slots.specs.Slots.{vec3_at, twist_at}
use Rattle.numbers.specs.declared.quaternion.Quaternion.{Quaternion}
use Rattle.spatial.specs.declared.twist.Twist.{Twist}
use Rattle.calls.specs.declared.position.Position.{Position}
use Rattle.mass_matrix.specs.declared.mass_matrix.Mode.{Mode}
use Rattle.mass_matrix.specs.declared.mass_matrix.Mode.TheVariants as matrix
use Rattle.forward_dynamics.specs.declared.forward_dynamics.Mode.TheVariants as forward
use Rattle.forward_visits.specs.Inputs.{Inputs, inputs_by}
use Rattle.dynamics.specs.declared.calculation.Calculation.{Calculation}
use Rattle.dynamics.specs.declared.calculation.Calculation.TheVariants as of
use Rattle.readings.specs.declared.read.Kind.{Kind}
use Rattle.readings.specs.declared.read.Kind.TheVariants.{Matrix, FloatingMatrix, Forward, FloatingForward}
use Rattle.readings.specs.declared.read.Buffers.{Buffers}
use Rattle.readings.specs.declared.read.Lent.{Lent}

-- ---- the calculation

-- the request that a word names, if it makes a calculation
unfoldable pub kind_named : List ℕ → Option Kind
kind_named w =
    cond (bytes_eq w (codes "matrix")) (Some Matrix)
    (cond (bytes_eq w (codes "floating_matrix")) (Some FloatingMatrix)
    (cond (bytes_eq w (codes "forward")) (Some Forward)
    (cond (bytes_eq w (codes "floating_forward")) (Some FloatingForward)
    None)))

unfoldable pub kind : Reader Kind
kind = do
  w ← word
  given (kind_named w)

-- R, how the root is turned: w x y z
unfoldable pub rotation : Reader Quaternion
rotation = do
  l ← items (of_bits binary64) 4
  give (record { w = get_or l 0 nan; u = vec3_at l 1 })

-- V, how the root moves: angular, then linear
unfoldable pub velocity : Reader Twist
velocity = do
  l ← items (of_bits binary64) 6
  give (twist_at l 0)

-- the root of a matrix: turned by R where it floats
unfoldable pub mode : Bool → Reader Mode
mode false = give matrix.Fixed
mode true = do
  r ← rotation
  give (matrix.Floating r)

unfoldable pub calculation : Kind → Reader Calculation
calculation Matrix = do
  m ← mode false
  give (of.Matrix m)
calculation FloatingMatrix = do
  m ← mode true
  give (of.Matrix m)
calculation Forward = do
  r ← rotation
  give (of.Forward (forward.Fixed r))
calculation FloatingForward = do
  r ← rotation
  v ← velocity
  give (of.Forward (forward.Floating r v))

-- ---- its inputs: Q, or Q QD F LINKS LOADS
unfoldable pub rest : List Float → Reader Inputs
rest q = do
  qd ← doubles
  forces ← doubles
  loaded ← numbers
  loads ← doubles
  give (inputs_by q qd forces loaded loads)

abbrev pub behind_q : Calculation → List Float → Reader Inputs
behind_q (of.Matrix mode) q = give (inputs_by q [] [] [] [])
behind_q (of.Forward mode) q = rest q

unfoldable pub inputs : Calculation → Reader Inputs
inputs c = do
  q ← doubles
  behind_q c q

-- ---- what is lent, and the budgets: WS OUT PORTIONS
pub record Lengths : Type 0 where
  pub ws : ℕ
  pub out : ℕ
  pub budgets : List ℕ

unfoldable pub lengths : Reader Lengths
lengths = do
  ws ← number
  out ← number
  budgets ← numbers
  end
  cond (ltb 4096 ws || ltb 2048 out) fail (give (record { ws = ws; out = out; budgets = budgets }))

-- ---- a position

-- 0 or 1
unfoldable pub flag : Reader Bool
flag = do
  v ← number
  cond (ltb 1 v) fail (give (eqb v 1))

-- CALCULATION ROOT N A VISITS CLOSED
unfoldable pub position : Reader Position
position = do
  matrix ← flag
  floating ← flag
  n ← number
  a ← number
  visits ← number
  closed ← flag
  give (record { matrix = matrix; floating = floating; n = n; a = a; visits = visits; closed = closed })

-- ---- what the functions have read
abbrev pub no_inputs : Inputs
no_inputs = inputs_by [] [] [] [] []

abbrev pub inputs_of : Buffers → Inputs
inputs_of b = inputs_by b.q b.qd b.forces b.loaded b.loads

abbrev pub lengths_by : Lent → List ℕ → Lengths
lengths_by l budgets = record { ws = l.ws; out = l.out; budgets = budgets }
