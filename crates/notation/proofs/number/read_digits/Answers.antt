use Rattle.std.proofs.Common.{◌≡◌, Err, rules, ◌+◌, ◌-◌, ◌*◌, ◌<◌, ◌≤◌, length, get_or, sym, subst, arith}
use Rattle.std.proofs.lemmas.Bool.{eqb-false}
use Rattle.notation.specs.declared.error.WordError.TheVariants.{OutOfRange}
use Rattle.notation.proofs.Figures.{SoFar, so_far_more, so_far_all, digit_bad, too_large, too_large_at, no_digit_at}
use Rattle.notation.proofs.number.read_digits.Goals as goal

pub returns-then-not-is_ascii_digit : goal.returns-then-not-is_ascii_digit
returns-then-not-is_ascii_digit c =
    let l = c.loop-at in
    let out = c.if-not-is_ascii_digit.ensures.cases in
    record {
      number = λ n _. digit_bad c.args.digits.now l.«at» l.number c.loop-at-test.true out n;
      fault = no_digit_at c.args.digits.now l.«at» l.number c.loop-at-test.true l.invariant.1 out c.args.most l.invariant.0 c.args.before c.saturating_add.result c.saturating_add.ensures;
    }

pub returns-in_err-number : goal.returns-in_err-number
returns-in_err-number c =
    let l = c.loop-at in
    let digit = c.if-not-is_ascii_digit.ensures.cases in
    let over : c.args.most < l.number * 10 + (get_or c.args.digits.now l.«at» 0 - 48) = search rules in
    let e : c.from_residual.result ≡ Err OutOfRange = search rules in
    record {
      number = rw e (too_large c.args.digits.now l.«at» l.number c.loop-at-test.true l.invariant.1 digit c.args.most over);
      fault = rw e (too_large_at c.args.digits.now l.«at» l.number c.loop-at-test.true l.invariant.1 digit c.args.most l.invariant.0 over c.args.before);
    }

pub loop-at-preserved : goal.loop-at-preserved
loop-at-preserved c =
    let l = c.loop-at in
    let small : c.in_ok-number.number ≤ c.args.most = search rules in
    let e : l.number * 10 + (get_or c.args.digits.now l.«at» 0 - 48) ≡ c.in_ok-number.number = search rules in
    (small, subst (SoFar c.args.digits.now (l.«at» + 1)) e (so_far_more c.args.digits.now l.«at» l.number c.loop-at-test.true l.invariant.1 c.if-not-is_ascii_digit.ensures.cases))

pub returns-clause-number : goal.returns-clause-number
returns-clause-number c =
    let some = eqb-false (length c.args.digits.now) 0 (sym c.if-is_empty.ensures) in
    (c.loop-at.invariant.0, so_far_all c.args.digits.now c.loop-at.«at» c.loop-at.number c.loop-at.invariant.1 c.loop-at-test.false (omega arith))
