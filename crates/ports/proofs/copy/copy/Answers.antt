use Rattle.std.proofs.Common.{◌≡◌, ◌+◌, ◌-◌, Some, None, Ok, Err, sym, ap, ◌∙◌, arith, w32, SFits, to_z, of_z, rules}
use Rattle.std.proofs.lemmas.Result.{err_from_is_err_and}
use Rattle.std.proofs.lemmas.Int.{to_z-of_z}
use Rattle.vocabulary.specs.declared.item.Item.TheVariants.{Reading, Fault}
use Rattle.ports.specs.declared.copy.Stop.TheVariants.{Empty, Full}
use Rattle.ports.proofs.Copying.{copied_empty, copied_fault, copied_full, copied_done, was_ok, was_err}
use Rattle.ports.proofs.copy.copy.Goals as goal

pub returns-in_err-fault-clause-copied : goal.returns-in_err-fault-clause-copied
returns-in_err-fault-clause-copied g c =
    let f = g.F.Feed in
    let s = g.S.Strip in
    let l = c.loop-done in
    let p = err_from_is_err_and c.from_residual.result c.from_residual.ensures.1 in
    let none : c.take.result ≡ None = grind arith in
    let stop : c.from_residual.result ≡ Err Empty = grind arith in
    copied_empty s.price (c.args.limit - l._done) (f.waiting l.feed) (s.held l.strip) (s.space l.strip) (omega arith) (f.waiting c.take.new.self) c.take.result c.take.ensures _ none stop ∙ l.invariant.0

pub returns-in-Fault-clause-copied : goal.returns-in-Fault-clause-copied
returns-in-Fault-clause-copied g c =
    let f = g.F.Feed in
    let s = g.S.Strip in
    let l = c.loop-done in
    let some : c.take.result ≡ Some (Fault c.in-Fault.fault) = grind arith in
    copied_fault s.price (c.args.limit - l._done) (f.waiting l.feed) (s.held l.strip) (s.space l.strip) (omega arith) (f.waiting c.take.new.self) c.take.result c.take.ensures (Err c.into.result) c.in-Fault.fault some (ap Err c.into.ensures) ∙ l.invariant.0

pub returns-in_err-map_err-in-Reading : goal.returns-in_err-map_err-in-Reading
returns-in_err-map_err-in-Reading g c =
    let f = g.F.Feed in
    let s = g.S.Strip in
    let l = c.loop-done in
    let z = c.in-Reading.reading in
    let fit : SFits w32 z = search rules in
    let e : to_z w32 (of_z w32 z) ≡ z = to_z-of_z w32 z fit in
    let some : c.take.result ≡ Some (Reading z) = grind arith in
    let p = err_from_is_err_and c.from_residual-in_err-map_err-in-Reading.result c.from_residual-in_err-map_err-in-Reading.ensures.1 in
    let w = was_err _ c.put.result c.map_err.result c.in_err-map_err-in-Reading.field-0.0 c.map_err.ensures.cases (grind arith) in
    let full = w.2 in
    let stop : c.from_residual-in_err-map_err-in-Reading.result ≡ Err (Full (to_z w32 (of_z w32 z))) = grind arith in
    record {
      copied = copied_full s.price (c.args.limit - l._done) (f.waiting l.feed) (s.held l.strip) (s.space l.strip) (omega arith) (f.waiting c.take.new.self) c.take.result c.take.ensures (to_z w32 (of_z w32 z)) (some ∙ ap (λ x. Some (Reading x)) (sym e)) (s.held c.put.new.self) (s.space c.put.new.self) c.put.result c.put.ensures.answer c.from_residual-in_err-map_err-in-Reading.result _ w.1 stop ∙ l.invariant.0;
      kept = s.goes _ _ _ l.invariant.1 c.put.ensures.kept;
    }

pub loop-done-preserved : goal.loop-done-preserved
loop-done-preserved g c =
    let f = g.F.Feed in
    let s = g.S.Strip in
    let l = c.loop-done in
    let z = c.in-Reading.reading in
    let fit : SFits w32 z = search rules in
    let e : to_z w32 (of_z w32 z) ≡ z = to_z-of_z w32 z fit in
    let some : c.take.result ≡ Some (Reading z) = grind arith in
    let placed : c.put.result ≡ Ok tt = was_ok _ c.put.result c.map_err.result tt c.map_err.ensures.cases (grind arith) in (
      copied_done s.price (c.args.limit - l._done) (f.waiting l.feed) (s.held l.strip) (s.space l.strip) (omega arith) (f.waiting c.take.new.self) c.take.result c.take.ensures (to_z w32 (of_z w32 z)) (some ∙ ap (λ x. Some (Reading x)) (sym e)) (s.held c.put.new.self) (s.space c.put.new.self) c.put.result c.put.ensures.answer (c.args.limit - (l._done + 1)) placed (omega arith)
          ∙ l.invariant.0,
      s.goes _ _ _ l.invariant.1 c.put.ensures.kept,
    )
