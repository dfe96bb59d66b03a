use Rattle.std.proofs.Common.{rules}
use Rattle.std.proofs.lemmas.Iterator.{YieldsList-from_map_by, YieldsList-from_slice}
use Rattle.std.proofs.lemmas.Iterator.Consumers.{YieldsList-at, map_from_collect}
use Rattle.notation.specs.Lines.{spoken_call}
use Rattle.planned.specs.Sessions.{call_said}
use Rattle.planned.proofs.whole.lend.Goals as goal

pub returns : goal.returns
returns c =
    map_from_collect c.collect.result c.collect.ensures.ran
    (YieldsList-from_map_by _ call_said spoken_call
    (YieldsList-at c.map.ensures.source (YieldsList-from_slice c.args.plans.now c.iter.ensures.rest))
    c.map.ensures.closure (λ x r q k. search rules))
