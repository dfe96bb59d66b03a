use Rattle.std.proofs.Common.{◌≡◌, ◌-◌}
use Rattle.ports.specs.Copies.{copied}
use Rattle.ports.proofs.copy.copy.Given as goal

-- what is left to copy, from here, comes to what all of it comes to from the start
abbrev pub invariant-loop-done : goal.invariant-loop-done
invariant-loop-done g l =
    let f = g.F.Feed in
    let s = g.S.Strip in
    (copied s.price (l.limit - l._done) (f.waiting l.feed) (s.held l.strip) (s.space l.strip)
    ≡ copied s.price l.limit (f.waiting l.initial.feed) (s.held l.initial.strip) (s.space l.initial.strip))
    × s.keeps l.initial.strip l.strip
