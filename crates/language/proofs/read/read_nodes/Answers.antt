use Rattle.std.proofs.Common.{◌≡◌, ◌/◌, ◌++◌, ◌∷◌, [], length, get_or, sym, ap, ◌∙◌, arith}
use Rattle.language.specs.Table.{node_at}
use Rattle.language.proofs.Filling.{length-nodes, nodes_none, nodes_more}
use Rattle.language.proofs.read.read_nodes.Goals as goal

pub loop-bytes-init : goal.loop-bytes-init
loop-bytes-init g c = c.new-nodes.ensures ∙ sym (nodes_none c.args.table.now)

pub push-requires : goal.push-requires
push-requires g c =
    let n : length c.loop-bytes.nodes ≡ c.loop-bytes.bytes-index = ap length c.loop-bytes.invariant ∙ length-nodes c.args.table.now c.loop-bytes.bytes-index in
    omega (arith, c.requires)

pub loop-bytes-preserved : goal.loop-bytes-preserved
loop-bytes-preserved g c =
    let table = c.args.table.now in
    let i = c.loop-bytes.bytes-index in
    let e = c.read_node.ensures ∙ ap (λ cs. node_at (get_or cs i []) 0) c.as_chunks.ensures.front in
    c.push.ensures.fronted ∙ ap (λ d. c.loop-bytes.nodes ++ d ∷ []) e ∙ nodes_more table (length table / 8) i c.loop-bytes.nodes (omega arith) c.loop-bytes.invariant
