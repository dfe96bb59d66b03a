use Rattle.std.proofs.Common.{◌≡◌, ◌-◌, pos, ◌+ℤ◌, ◌*ℤ◌, sym, ap, ◌∙◌, w32, w64, SFits, rules}
use Rattle.std.proofs.lemmas.Int.{to_z-of_z}
use Rattle.vocabulary.specs.Numbers.{within32}
use Rattle.ports.specs.Ramps.{rung}
use Rattle.ports.proofs.Ramped.{by_last, wide, decided}
use Rattle.ports.proofs.ramp.fits.Goals as goal

pub returns : goal.returns
returns c =
    let s : SFits w32 c.args.start = c.ranges.start in
    let t : SFits w32 c.args.step = c.ranges.step in
    let a : c.from.result ≡ c.args.start = c.from.ensures ∙ to_z-of_z w32 c.args.start s in
    let b : c.from-3.result ≡ c.args.step = c.from-3.ensures ∙ to_z-of_z w32 c.args.step t in
    let n : c.from-2.result ≡ pos (c.args.count - 1) = c.from-2.ensures ∙ ap pos c.saturating_sub-steps.ensures in
    let last : c.from.result +ℤ (c.from-2.result *ℤ c.from-3.result) ≡ rung c.args.start c.args.step (c.args.count - 1) = cc in
    let w = wide c.args.start c.args.step (c.args.count - 1) s t (search rules) in
    let fa : SFits w64 c.from.result = search rules in
    let fn : SFits w64 c.from-2.result = search rules in
    let fs : SFits w64 c.from-3.result = search rules in
    let fp : SFits w64 (c.from-2.result *ℤ c.from-3.result) = rw (n, b) w.0 in
    let fl : SFits w64 (c.from.result +ℤ (c.from-2.result *ℤ c.from-3.result)) = rw last w.1 in
    let d = simp to_z-of_z at c.try_from.ensures in
    c.is_ok.ensures.value ∙ decided c.try_from.result (c.from.result +ℤ (c.from-2.result *ℤ c.from-3.result)) _ d ∙ ap within32 last ∙ sym (by_last c.args.start c.args.step c.args.count s)
