-- The items of a ramp: start + k * step, for each k below its count.
use Rattle.std.specs.Prelude.{ℕ, zero, suc, Bool, true, ◌&&◌, List, [], ◌∷◌, ℤ, pos, ◌+ℤ◌, ◌*ℤ◌}
use Rattle.vocabulary.specs.declared.item.Item.{Item}
use Rattle.vocabulary.specs.declared.item.Item.TheVariants.{Reading}
use Rattle.vocabulary.specs.Numbers.{within32}

-- the reading number k
abbrev pub rung : ℤ → ℤ → ℕ → ℤ
rung start step k = start +ℤ pos k *ℤ step

-- the readings from number k on, n of them
abbrev pub rungs : ℤ → ℤ → ℕ → ℕ → List Item
rungs start step k zero = []
rungs start step k (suc n) = Reading (rung start step k) ∷ rungs start step (suc k) n

-- whether each of them is within 32 bits
abbrev pub rungs_fit : ℤ → ℤ → ℕ → ℕ → Bool
rungs_fit start step k zero = true
rungs_fit start step k (suc n) = within32 (rung start step k) && rungs_fit start step (suc k) n

-- all readings of a ramp
abbrev pub ramp_items : ℤ → ℤ → ℕ → List Item
ramp_items start step count = rungs start step 0 count

-- whether all of them are within 32 bits
abbrev pub ramp_fits : ℤ → ℤ → ℕ → Bool
ramp_fits start step count = rungs_fit start step 0 count
