use mathlib.Core.Path.{sym, ◌∙◌}
use Rattle.builder.proofs.build.Passed.{listed}
use Rattle.builder.proofs.build.build.Goals as goal

pub filled-model-requires : goal.filled-model-requires
filled-model-requires c = listed _ _ _ _ _ _ _ (sym c.judged-verdict.ensures ∙ c.in-Ok.is)
