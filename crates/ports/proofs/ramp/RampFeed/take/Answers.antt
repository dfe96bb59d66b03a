use Rattle.std.proofs.Common.{◌≡◌, ◌+◌, ◌∷◌, ◌+ℤ◌, true, sym, ap, ◌∙◌, w32, SFits, rules, arith}
use Rattle.std.proofs.lemmas.Int.{to_z-of_z}
use Rattle.vocabulary.specs.declared.item.Item.TheVariants.{Reading}
use Rattle.ports.specs.Ramps.{ramp_items, ramp_fits}
use Rattle.ports.proofs.Ramped.{fits_next, fits_end, items_more, items_end}
use Rattle.ports.proofs.ramp.RampFeed.take.Goals as goal
use Rattle.ports.proofs.ramp.RampFeed.take.Goals.{then-left-gt0, else-left-gt0}

pub overflow_add-self : goal.overflow_add-self
overflow_add-self c =
    let r = c.args.self.now in
    let a : SFits w32 r.at = search rules in
    let s : SFits w32 r.step = search rules in
    let e : r.left ≡ c.in_ok-left.left + 1 = grind arith in
    let n = fits_next r.at r.step r.left c.in_ok-left.left r.fits e (search rules) in
    simp to_z-of_z n.0

pub invariant_of-self : goal.invariant_of-self
invariant_of-self c =
    let r = c.args.self.now in
    let a : SFits w32 r.at = search rules in
    let s : SFits w32 r.step = search rules in
    let e : r.left ≡ c.in_ok-left.left + 1 = grind arith in
    let fits : ramp_fits c.if-left-gt0.self.1.0 r.step c.in_ok-left.left ≡ true = elim c.if-left-gt0.branch [
      | then-left-gt0 w ↦
          let n = fits_next r.at r.step r.left c.in_ok-left.left r.fits e w.if-left-gt0.true in
          let t : SFits w32 (r.at +ℤ r.step) = n.0 in
          let next = simp to_z-of_z at (ap (λ x. x.1.0) w.self-is) in
          ap (λ y. ramp_fits y r.step c.in_ok-left.left) next ∙ n.1
      | else-left-gt0 w ↦ let h = w.if-left-gt0.false in fits_end c.if-left-gt0.self.1.0 r.step c.in_ok-left.left (omega arith)
    ] in
    record { fits = fits }

pub returns : goal.returns
returns c =
    let r = c.args.self.now in
    let a : SFits w32 r.at = search rules in
    let s : SFits w32 r.step = search rules in
    let e : r.left ≡ c.in_ok-left.left + 1 = grind arith in
    let items : ramp_items r.at r.step r.left ≡ Reading r.at ∷ ramp_items c.if-left-gt0.self.1.0 r.step c.in_ok-left.left = elim c.if-left-gt0.branch [
      | then-left-gt0 w ↦
          let n = fits_next r.at r.step r.left c.in_ok-left.left r.fits e w.if-left-gt0.true in
          let t : SFits w32 (r.at +ℤ r.step) = n.0 in
          let next = simp to_z-of_z at (ap (λ x. x.1.0) w.self-is) in
          items_more r.at r.step r.left c.in_ok-left.left e ∙ ap (λ y. Reading r.at ∷ ramp_items y r.step c.in_ok-left.left) (sym next)
      | else-left-gt0 w ↦ let h = w.if-left-gt0.false in items_end r.at r.step c.if-left-gt0.self.1.0 r.left c.in_ok-left.left e (omega arith)
    ] in
    simp to_z-of_z items
