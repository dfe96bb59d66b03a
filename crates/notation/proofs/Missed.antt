-- An error of a word, passed on with what was wanted.
use Rattle.std.proofs.Common.{◌≡◌, Ok, Err, Result, MatchResult, IsErrAnd, refl}
use Rattle.notation.specs.declared.error.ReadError.{ReadError}
use Rattle.notation.specs.declared.error.ReadError.TheVariants.{Word}
use Rattle.notation.specs.declared.error.Wanted.{Wanted}
use Rattle.notation.specs.declared.error.WordError.{WordError}

pub missed_at : {T : Type 0} (wanted : Wanted) (post : WordError → ReadError → Type 0) (r : Result T WordError) (s : Result T ReadError) → MatchResult r (λ x. s ≡ Ok x) (λ w. IsErrAnd s (post w)) → ((w : WordError) (y : ReadError) → post w y → y ≡ Word wanted w) → (e : ReadError) → s ≡ Err e → (w : WordError) × (r ≡ Err w) × (e ≡ Word wanted w)
missed_at wanted post (Ok x) s m same e q = absurd (cc)
missed_at wanted post (Err w) (Ok x) m same e q = absurd m
missed_at wanted post (Err w) (Err d) m same e q = let f = same w d m in (w, refl, cc)
