use Rattle.std.proofs.Common.{◌/◌, length, sym, ◌∙◌, lit<, arith}
use Rattle.language.proofs.Filling.{fitting-count, length-nodes}
use Rattle.language.proofs.read.read_table.Goals as goal

pub read_nodes-requires : goal.read_nodes-requires
read_nodes-requires c =
    let table = c.args.table.now in
    let few = (fitting-count table (sym c.fits.ensures ∙ c.if-not-fits.false)).1 in
    (lit< tt, omega (arith, few, length-nodes table (length table / 8)))
