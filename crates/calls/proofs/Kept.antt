-- What both ways of a choice have, the choice has. Assumes nothing.
use mathlib.Core.Bool.{Bool, true, false, cond}
use mathlib.Core.Path.{◌≡◌, refl}

pub either_way : {S T : Type 0} (f : S → T) {t : T} (b : Bool) {x y : S} → f x ≡ t → f y ≡ t → f (cond b x y) ≡ t
either_way f true d e = d
either_way f false d e = e

-- and two choices by the same test are related where their ways are
pub chosen : {S T : Type 0} (R : S → T → Type 0) (b : Bool) {x x' : S} {y y' : T} → (b ≡ true → R x y) → (b ≡ false → R x' y') → R (cond b x x') (cond b y y')
chosen R true f g = f refl
chosen R false f g = g refl
