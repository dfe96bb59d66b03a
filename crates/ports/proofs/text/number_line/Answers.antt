use Rattle.std.proofs.Common.{◌≡◌, ◌-◌, ◌++◌, length, drop, set, true, false, pos, nat_abs, arith, w32, SFits, rules}
use lib.Signed.{lt_z}
use Rattle.std.proofs.lemmas.Int.{to_z-of_z}
use Rattle.std.proofs.lemmas.List.{length-set, length-append, length-drop}
use Rattle.ports.proofs.Spelled.{ten_digits, line_plus, line_minus, lent_line, front_long}
use Rattle.ports.proofs.text.number_line.Goals as goal

pub spell-at-requires : goal.spell-at-requires
spell-at-requires c = let d = ten_digits c.unsigned_abs.result c.unsigned_abs.type_inv in let f = front_long c.args.buffer.now 11 10 (search rules) in omega arith

pub overflow_sub-buffer : goal.overflow_sub-buffer
overflow_sub-buffer c = let d = ten_digits c.unsigned_abs.result c.unsigned_abs.type_inv in let s = c.spell-at.ensures.size in omega arith

pub overflow_sub-result : goal.overflow_sub-result
overflow_sub-result c = let d = ten_digits c.unsigned_abs.result c.unsigned_abs.type_inv in let s = c.spell-at.ensures.size in omega arith

pub returns-then-number-lt0 : goal.returns-then-number-lt0
returns-then-number-lt0 c =
    let f : SFits w32 c.args.number = c.ranges.number in
    let d = ten_digits c.unsigned_abs.result c.unsigned_abs.type_inv in
    let s = c.spell-at.ensures.size in
    let e : c.unsigned_abs.result ≡ nat_abs c.args.number = simp to_z-of_z at c.unsigned_abs.ensures.value in
    let sign : lt_z c.args.number (pos 0) ≡ true = simp to_z-of_z at c.if-number-lt0.true in
    let a = c.spell-at.auto.buffer in
    let f = front_long c.args.buffer.now 11 10 (search rules) in
    let b : length c.args.buffer.now ≡ 12 = search rules in
    let t = line_minus c.args.number c.unsigned_abs.result c.spell-at.result c.args.buffer.now c.spell-at.new.buffer sign e b (omega arith) (omega arith) c.spell-at.ensures.text in
    let l : length (set (c.spell-at.new.buffer ++ drop 11 (set c.args.buffer.now 11 10)) (c.spell-at.result - 1) 45) ≡ 12 = simp (length-set, length-append, length-drop) (omega arith) in
    lent_line (set (c.spell-at.new.buffer ++ drop 11 (set c.args.buffer.now 11 10)) (c.spell-at.result - 1) 45) _ (c.spell-at.result - 1) l t

pub returns-else-number-lt0 : goal.returns-else-number-lt0
returns-else-number-lt0 c =
    let f : SFits w32 c.args.number = c.ranges.number in
    let s = c.spell-at.ensures.size in
    let e : c.unsigned_abs.result ≡ nat_abs c.args.number = simp to_z-of_z at c.unsigned_abs.ensures.value in
    let sign : lt_z c.args.number (pos 0) ≡ false = simp to_z-of_z at c.if-number-lt0.false in
    let a = c.spell-at.auto.buffer in
    let f = front_long c.args.buffer.now 11 10 (search rules) in
    let b : length c.args.buffer.now ≡ 12 = search rules in
    let t = line_plus c.args.number c.unsigned_abs.result c.spell-at.result c.args.buffer.now c.spell-at.new.buffer sign e b (omega arith) c.spell-at.ensures.text in
    let l : length (c.spell-at.new.buffer ++ drop 11 (set c.args.buffer.now 11 10)) ≡ 12 = simp (length-set, length-append, length-drop) (omega arith) in
    lent_line (c.spell-at.new.buffer ++ drop 11 (set c.args.buffer.now 11 10)) _ c.spell-at.result l t
