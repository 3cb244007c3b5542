-- The checks of a mass matrix's call to 22 (document 01, "Checks"). Definitions only.
use Rattle.std.specs.Prelude.{Bool, not, ◌&&◌, List, ℕ, ◌+◌, ◌*◌, eqb, ltb, Float}
use Rattle.numbers.specs.declared.quaternion.Quaternion.{Quaternion}
use Rattle.refusals.specs.Refusals.{plain_of, or_else, Verdict}
use Rattle.arm.specs.Model.{wild_of}
use Rattle.calls.specs.Checks.{values_verdict, turns_verdict, bad_rotation}
use Rattle.calls.specs.Plan.{plan_of}
use Rattle.composites.specs.Plan.{matrix_place}

-- 13, 17, and 22 with a floating root
unfoldable pub rest_verdict : ℕ → ℕ → Bool → Quaternion → List ℕ → List Float → ℕ → Verdict
rest_verdict n side floating r kinds q out =
    or_else (turns_verdict kinds n q)
    (or_else (plain_of 17 (not (eqb out (side * side))))
    (plain_of 22 (floating && bad_rotation r)))

-- 11 and 12 before them: what a model without cause 9 is asked beside its workspace
unfoldable pub tame_verdict : ℕ → ℕ → Bool → Quaternion → List ℕ → List Float → ℕ → Verdict
tame_verdict n side floating r kinds q out = or_else (values_verdict 11 12 kinds n q) (rest_verdict n side floating r kinds q out)

-- 9 and 10 before them
unfoldable pub inputs_verdict : Bool → Quaternion → ℕ → List ℕ → List ℕ → List Float → ℕ → ℕ → Verdict
inputs_verdict floating r n parents kinds q ws out =
    let side = (plan_of floating n kinds).side in
    or_else (plain_of 9 (wild_of n parents kinds))
    (or_else (plain_of 10 (ltb ws (matrix_place n + side * side)))
    (tame_verdict n side floating r kinds q out))
