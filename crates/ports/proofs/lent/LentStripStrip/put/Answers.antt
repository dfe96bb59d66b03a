use Rattle.std.proofs.Common.{◌≡◌, ◌-◌, length, refl, ◌∙◌, arith}
use Rattle.ports.proofs.Lending.{free_long, fits, long, more, whole_still, left, still}
use Rattle.ports.proofs.lent.LentStripStrip.put.Goals as goal

pub invariant_of-self-2 : goal.invariant_of-self-2
invariant_of-self-2 g c =
    let s = c.args.self.now in
    let m = s.memory.now in
    let e = g.T.Element in
    let free = c.write.new.free in
    let n = c.in_ok-self.field-0 in
    let size : length free ≡ length m - s.used = c.write.auto.free ∙ free_long m s.used in
    let f = fits e.price e.written e.said m s.used n c.args.value free s.within s.whole c.in_ok-self.ensures in
    let l = long e.price e.written e.said m s.used n c.args.value free s.within s.whole c.in_ok-self.ensures size in
    record { within = omega arith; whole = whole_still e.price e.written e.said m s.used n c.args.value free s.within s.whole c.in_ok-self.ensures size }

pub returns : goal.returns
returns g c =
    let s = c.args.self.now in
    let m = s.memory.now in
    let e = g.T.Element in
    let free = c.write.new.free in
    let n = c.in_ok-self.field-0 in
    let size : length free ≡ length m - s.used = c.write.auto.free ∙ free_long m s.used in
    let wrote = c.in_ok-self.ensures in
    let f = fits e.price e.written e.said m s.used n c.args.value free s.within s.whole c.in_ok-self.ensures in
    let b = wrote.1 in
    record {
      answer = (omega arith, more e.price e.written e.said m s.used n c.args.value free s.within s.whole c.in_ok-self.ensures size, left e.price e.written e.said m s.used n c.args.value free s.within s.whole c.in_ok-self.ensures size);
      kept = still e.price e.written e.said m s.used n c.args.value free s.within s.whole c.in_ok-self.ensures size s.memory _ refl refl refl;
    }
