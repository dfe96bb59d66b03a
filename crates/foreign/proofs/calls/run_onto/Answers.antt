use Rattle.std.proofs.Common.{ap, rules}
use Rattle.ports.specs.Traces.{items_of}
use Rattle.foreign.proofs.Running.{known, runs}
use Rattle.foreign.proofs.calls.run_onto.Goals as goal

pub returns : goal.returns
returns g c =
    let strip = c.new-strip.ensures in
    runs _ _ _ _ _ _ _ _ _ c.perform-told.result _ _ _ c.left.result c.used.result
    (ap items_of c.new-feed.ensures) strip.held strip.space c.perform-told.ensures.performs
    (known c.perform-told.result c.into.result c.left.result c.used.result c.into.ensures)
    c.left.ensures c.used.ensures (search rules)
