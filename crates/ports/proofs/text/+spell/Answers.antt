use Rattle.std.proofs.Common.{◌+◌, ◌-◌, ◌%◌, length, ap, arith, rules}
use Rattle.std.proofs.lemmas.Fmt.{decimal_digit}
use Rattle.ports.proofs.Spelled.{digits_length, digits_some, digits_less, digits_one, digits_more, front_long}
use Rattle.ports.proofs.text.+spell.Goals as goal

pub overflow_sub-at : goal.overflow_sub-at
overflow_sub-at t c = let s = digits_some c.args.number (search rules) in omega arith

pub bounds-buffer-at : goal.bounds-buffer-at
bounds-buffer-at t c = let s = digits_some c.args.number (search rules) in omega arith

pub spell-requires : goal.spell-requires
spell-requires t c = let l = digits_less c.args.number (length c.args.buffer.now) (search rules) (search rules) c.requires in let f = front_long c.args.buffer.now (length c.args.buffer.now - 1) (48 + c.args.number % 10) (omega arith) in (search rules, omega arith)

pub returns-then-number-lt10 : goal.returns-then-number-lt10
returns-then-number-lt10 t c =
    let s = digits_some c.args.number (search rules) in
    record { text = digits_one c.args.buffer.now c.args.number c.if-number-lt10.true (omega arith); size = let e = ap length (decimal_digit c.args.number c.if-number-lt10.true) in omega arith }

pub returns-else-number-lt10 : goal.returns-else-number-lt10
returns-else-number-lt10 t c =
    let s = digits_some c.args.number (search rules) in
    let z = c.spell.ensures.size in
    let a = c.spell.auto.buffer in
    let f = front_long c.args.buffer.now (length c.args.buffer.now - 1) (48 + c.args.number % 10) (omega arith) in
    record {
      text = digits_more c.args.buffer.now c.spell.new.buffer c.args.number c.spell.result (search rules) c.if-number-lt10.false (omega arith) (omega arith) c.spell.ensures.text;
      size = let e = digits_length c.args.number (search rules) c.if-number-lt10.false in omega arith;
    }
