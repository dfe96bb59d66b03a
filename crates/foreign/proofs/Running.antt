-- From a take between a feed and a strip to what the owner of samples and memory learns of it.
use Rattle.std.proofs.Common.{◌≡◌, ℕ, List, [], length, Ok, Err, Result, refl, ap, ◌∙◌, subst}
use Rattle.vocabulary.specs.declared.item.Item.{Item}
use Rattle.vocabulary.specs.declared.refusal.Refusal.{Refusal}
use Rattle.vocabulary.specs.declared.value.Plain.{Plain}
use Rattle.vocabulary.specs.World.{rules}
use Rattle.ports.specs.Kept.{overlay}
use Rattle.machine.specs.State.{Ports, ports}
use Rattle.sequencer.specs.declared.report.Report.{Report}
use Rattle.foreign.specs.declared.answers.Outcome.{Outcome}
use Rattle.foreign.specs.Answers.{outcome_of}
use Rattle.foreign.specs.Calls.{Performs, Runs}

-- an outcome, once what is left and filled is known
pub known : (r : Result Report Refusal) (told : Outcome) (left filled : ℕ) → told ≡ outcome_of r 0 0 → record told { left = left; filled = filled } ≡ outcome_of r left filled
known r told left filled e = let count : Outcome → Outcome = λ o. record o { left = left; filled = filled } in ap count e ∙ go r
  where
    go : (r : Result Report Refusal) → record (outcome_of r 0 0) { left = left; filled = filled } ≡ outcome_of r left filled
    go (Ok report) = refl
    go (Err refusal) = refl

pub runs : {X : Type 0} (price : Plain → ℕ) (written : List Plain → List X) (table : List ℕ) (fuel : ℕ)
    (items waiting : List Item) (held : List Plain) (space : ℕ) (to : Ports) (r : Result Report Refusal) (before after : List X)
    (outcome : Outcome) (left filled : ℕ) → waiting ≡ items → held ≡ [] → space ≡ length before →
    Performs (rules price) table fuel (ports waiting held space) to r →
    outcome ≡ outcome_of r left filled → left ≡ length to.feed → filled ≡ length (written to.strip) →
    after ≡ overlay (written to.strip) before → Runs price written table fuel items before after outcome
runs price written table fuel items waiting held space to r before after outcome left filled i h s p o l f m =
    let from : ports waiting held space ≡ ports items [] (length before) =
    ap (λ x. ports x held space) i ∙ ap (λ x. ports items x space) h ∙ ap (ports items []) s in
    record {
      to = to;
      answer = r;
      performs = subst (λ x. Performs (rules price) table fuel x to r) from p;
      outcome_is = o ∙ ap (λ n. outcome_of r n filled) l ∙ ap (outcome_of r (length to.feed)) f;
      memory = m;
    }
