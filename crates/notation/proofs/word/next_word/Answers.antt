use Rattle.std.proofs.Common.{rules, tests, ◌∙◌}
use Rattle.std.proofs.lemmas.Iterator.{YieldsList-from_slice}
use Rattle.std.proofs.lemmas.Iterator.Search.{YieldsList-from_take_while}
use Rattle.std.proofs.lemmas.Iterator.Consumers.{count_from_yields_List}
use Rattle.notation.specs.Words.{blank, solid}
use Rattle.notation.proofs.Cutting.{cut}
use Rattle.notation.proofs.word.next_word.Goals as goal

pub returns : goal.returns
returns c =
    let line = c.args.line.now in
    let text = c.split_at.result.1.now in
    let blanks = count_from_yields_List c.take_while.result c.count-blanks.result c.count-blanks.ensures.ran (YieldsList-from_take_while _ blank (YieldsList-from_slice line (cc)) c.take_while.ensures.closure c.take_while.ensures.done (λ x b q k. search (rules, tests))) in
    let solids = count_from_yields_List c.take_while-2.result c.count-solids.result c.count-solids.ensures.ran (YieldsList-from_take_while _ solid (YieldsList-from_slice text (cc)) c.take_while-2.ensures.closure c.take_while-2.ensures.done (λ x b q k. search (rules, tests))) in
    let p = cut line text c.count-blanks.result c.count-solids.result blanks c.split_at.ensures.back solids in
    record { first = c.split_at-2.ensures.front ∙ p.0; second = c.split_at-2.ensures.back ∙ p.1 }
