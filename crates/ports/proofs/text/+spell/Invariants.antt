use Rattle.ports.proofs.text.+spell.Given as goal

abbrev pub decreases-spell : goal.decreases-spell
decreases-spell l = l.number
