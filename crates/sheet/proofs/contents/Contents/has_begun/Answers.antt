use Rattle.std.proofs.Common.{◌≡◌, ℕ, ◌-◌, ◌*◌, Bool, ◌&&◌, List, length, take, drop, sym, ap, ◌∙◌, arith, length-take-le}
use Rattle.std.specs.Str.{bytes_eq}
use Rattle.vocabulary.specs.declared.node.Node.{Node}
use Rattle.sheet.specs.Layout.{Program, table_bytes}
use Rattle.sheet.proofs.Halves.{begun_is}
use Rattle.sheet.proofs.contents.Contents.has_begun.Goals as goal

pub slice_bounds-eq-end : goal.slice_bounds-eq-end
slice_bounds-eq-end c = let h = c.requires in omega (arith, length-take-le 16 c.args.memory.now (omega arith))

pub returns-then-eq : goal.returns-then-eq
returns-then-eq c =
    let p = c.args.self.now in
    let M = c.args.memory.now in
    let room = c.requires in
    let b = begun_is p c.args.half.now c.half.result M c.header_bytes-header.result c.as_slice.result.now c.eq.result (omega arith) c.half.ensures c.if-ne.ensures c.header_bytes-header.ensures c.as_slice.ensures c.eq.ensures in
    let n : c.code_at.result - 16 ≡ 8 * length p.nodes = omega arith in
    let e : c.self.inside.nodes.now ≡ p.nodes = ap (λ (x : Program). x.nodes) c.self.view_is in
    let t = ap (λ (b : Bool). b && bytes_eq (take (8 * length p.nodes) (drop 16 M)) (table_bytes p.nodes)) c.if-eq.true in
    c.entries_match.ensures ∙ (ap (λ (k : ℕ). bytes_eq (take k (drop 16 M)) (table_bytes c.self.inside.nodes.now)) n
    ∙ (ap (λ (ns : List Node). bytes_eq (take (8 * length p.nodes) (drop 16 M)) (table_bytes ns)) e ∙ (sym t ∙ sym b)))

pub returns-else-eq : goal.returns-else-eq
returns-else-eq c =
    let p = c.args.self.now in
    let M = c.args.memory.now in
    let room = c.requires in
    let b = begun_is p c.args.half.now c.half.result M c.header_bytes-header.result c.as_slice.result.now c.eq.result (omega arith) c.half.ensures c.if-ne.ensures c.header_bytes-header.ensures c.as_slice.ensures c.eq.ensures in
    let t = ap (λ (b : Bool). b && bytes_eq (take (8 * length p.nodes) (drop 16 M)) (table_bytes p.nodes)) c.if-eq.false in
    c.if-eq.false ∙ (sym t ∙ sym b)
