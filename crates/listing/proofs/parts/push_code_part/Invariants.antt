use Rattle.std.proofs.Common.{◌≡◌, ◌++◌, drop, string_bytes}
use Rattle.listing.specs.Page.{code_lines}
use Rattle.listing.proofs.parts.push_code_part.Given as goal

abbrev pub invariant-loop-position : goal.invariant-loop-position
invariant-loop-position l = string_bytes l.text ++ code_lines l.position (drop l.position l.code) ≡ string_bytes l.initial.text ++ code_lines 0 l.code
