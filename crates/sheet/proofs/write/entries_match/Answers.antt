use Rattle.std.proofs.Common.{rules, tests, ◌≡◌, ◌*◌, ◌/◌, ℕ, length, ap, ◌∙◌, arith}
use Rattle.std.specs.Iterator.Adapters.{zip_second}
use Rattle.std.specs.List.{list_all, zip}
use Rattle.std.specs.Simd.{first_chunks}
use Rattle.std.specs.Slice.Iter.{iter_rest}
use Rattle.std.specs.Str.{bytes_eq}
use Rattle.std.proofs.lemmas.Iterator.{YieldsList-from_slice, YieldsList-from_zip}
use Rattle.std.proofs.lemmas.Iterator.Consumers.{YieldsList-at}
use Rattle.std.proofs.lemmas.Iterator.Search.{all_from_yields_List}
use Rattle.sheet.proofs.Entries.{match_all, match-length}
use Rattle.sheet.proofs.write.entries_match.Goals as goal

pub returns-then-not-is_empty : goal.returns-then-not-is_empty
returns-then-not-is_empty g c = match-length g.T.Entry.encoding g.T.Entry.eight c.args.part.now c.args.entries.now (λ e. grind arith)

pub returns : goal.returns
returns g c =
    let m = g.T.Entry in
    let part = c.args.part.now in
    let entries = c.args.entries.now in
    let chunks = c.as_chunks.result.0.now in
    let other : iter_rest (zip_second c.zip.result) ≡ entries = c.zip.ensures.second.0 in
    let all : c.all.result ≡ list_all (λ p. bytes_eq p.0 (m.encoding p.1)) (zip chunks entries) =
    all_from_yields_List (λ p. bytes_eq p.0 (m.encoding p.1)) c.all.new.self _ c.all.result c.all.ensures.ran
    (YieldsList-from_zip (YieldsList-at c.zip.ensures.first (YieldsList-from_slice chunks c.iter.ensures.rest)) (YieldsList-from_slice entries other))
    (λ x b q k. search (rules, tests)) in
    let n : length part ≡ 8 * length entries = grind arith in
    let k : length part / 8 ≡ length entries = omega arith in
    let e : chunks ≡ first_chunks 8 (length entries) part = c.as_chunks.ensures.front ∙ ap (λ (k : ℕ). first_chunks 8 k part) k in
    all ∙ (ap (λ z. list_all (λ p. bytes_eq p.0 (m.encoding p.1)) (zip z entries)) e ∙ match_all m.encoding m.eight part entries n)
