use mathlib.Core.Path.{sym, ◌∙◌}
use Rattle.builder.proofs.checks.Lengths.{sized-passed}
use Rattle.builder.proofs.checks.judged.Goals as goal

pub judged_lists-requires : goal.judged_lists-requires
judged_lists-requires c =
    sized-passed _ _ _ _ _ _ _ (sym c.plain.ensures ∙ c.in_ok-plain.was) (rw c.sized-sized.ensures at (sym c.plain-2.ensures ∙ c.in_ok-plain-2.was))
