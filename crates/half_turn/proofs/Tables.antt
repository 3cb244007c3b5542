-- The coefficients as the code has them are those of the rule: one computation over each list. Assumes nothing.
use mathlib.Core.Path.{◌≡◌, refl}
use mathlib.Core.List.{List, [], ◌∷◌}
use lib.Ieee.{Float, binary64, of_bits, round}
use Rattle.half_turn.specs.HalfTurn.{sin_list, cos_list}

abbrev pub sin_table : List Float
sin_table =
    of_bits binary64 13818544856648471893 ∷ of_bits binary64 4575957461383581969 ∷ of_bits binary64 13774824197408792602 ∷ of_bits binary64 4523617214285662004
    ∷ of_bits binary64 13716528800881525988 ∷ of_bits binary64 4460272573143870729 ∷ of_bits binary64 13648976655441704991 ∷ of_bits binary64 4389130328383466826 ∷ []

abbrev pub cos_table : List Float
cos_table =
    of_bits binary64 13826050856027422720 ∷ of_bits binary64 4586165620538955093 ∷ of_bits binary64 13787419979223755799 ∷ of_bits binary64 4537941361671905306
    ∷ of_bits binary64 13732177094651715420 ∷ of_bits binary64 4477122120089393304 ∷ of_bits binary64 13666517717442657437 ∷ of_bits binary64 4407590220077447199 ∷ []

pub sin-is : sin_table ≡ sin_list
unfolding sin_list of_bits round
sin-is = refl

pub cos-is : cos_table ≡ cos_list
unfolding cos_list of_bits round
cos-is = refl
