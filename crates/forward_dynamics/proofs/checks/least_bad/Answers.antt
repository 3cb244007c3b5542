use Rattle.std.proofs.Common.{rules, length, get_or, sym, ◌∙◌, arith}
use Rattle.std.specs.Bool.{then_some}
use Rattle.std.proofs.lemmas.Iterator.{YieldsList-from_range}
use Rattle.std.proofs.lemmas.Iterator.Adapters.{option_map_id}
use Rattle.std.proofs.lemmas.Iterator.Consumers.{min_from_yields_List, YieldsList-from_filter_map}
use Rattle.forward_dynamics.proofs.checks.Least.{least-is}
use Rattle.forward_dynamics.proofs.checks.least_bad.Goals as goal

pub returns : goal.returns
returns g c = λ cause h.
    let n = length c.args.loaded.now in
    sym (option_map_id c.min.result)
    ∙ min_from_yields_List c.filter_map.result c.min.result c.min.ensures.ran
    (YieldsList-from_filter_map _ (λ k. then_some (cause k) (get_or c.args.loaded.now k 0)) (YieldsList-from_range 0 n n (cc) (omega arith)) c.filter_map.ensures.closure (λ x r q k. search (rules, h)))
    ∙ least-is cause c.args.loaded.now n
