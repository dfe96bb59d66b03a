-- A session as far as it has come: a history of the calls so far, which grows by one call at its end.
use Rattle.std.proofs.Common.{◌≡◌, ℕ, ◌+◌, ◌<◌, ◌≤◌, List, [], ◌∷◌, ◌++◌, map, length, get_or, take, None, sym, refl, ap, ◌∙◌, subst}
use mathlib.Core.List.{map-append}
use Rattle.std.proofs.lemmas.List.{take_more, take_all}
use Rattle.vocabulary.specs.World.{Rules}
use Rattle.machine.specs.State.{Ports}
use Rattle.agreement.specs.Agreement.{Agreement}
use Rattle.sequencer.specs.Model.{Model, fresh}
use Rattle.session.specs.declared.Call.{Call}
use Rattle.session.specs.declared.Answer.{Answer}
use Rattle.session.specs.Acting.{scene, Acted}
use Rattle.session.specs.History.{Moment, Chained, OneByOne}
use Rattle.session.specs.Law.{Session}
use Rattle.session.proofs.Going.{keeps}

chained_more : (entry : Ports) (ms : List Moment) (o : Ports) (m : Moment) → m.before ≡ o → Chained entry ms o → Chained entry (ms ++ (m ∷ [])) m.after
chained_more entry [] o m e c = (e ∙ sym c, refl)
chained_more entry (x ∷ ms) o m e c = (c.0, chained_more x.after ms o m e c.1)

module _ (R : Rules) where
  one_more : (first : Model) (ms : List Moment) (s s' : Model) (m : Moment) →
      Acted R m.call (scene s m.before) m.answer (scene s' m.after) → OneByOne R first ms s → OneByOne R first (ms ++ (m ∷ [])) s'
  one_more first [] s s' m a h =
      (s', subst (λ x. Acted R m.call (scene x m.before) m.answer (scene s' m.after)) (sym h) a, refl)
  one_more first (x ∷ ms) s s' m a h = (h.0, h.1, one_more h.0 ms s s' m a h.2)

  -- these calls gave these answers, from feed and strip at entry to the sequencer, feed and strip of now
  pub record SoFar (calls : List Call) (answers : List Answer) (entry : Ports) (m : Model) (o : Ports) : Type 0 where
    pub history : List Moment
    pub of_calls : map (λ x. x.call) history ≡ calls
    pub of_answers : map (λ x. x.answer) history ≡ answers
    pub chained : Chained entry history o
    pub exact : OneByOne R fresh history m

  pub called : (calls : List Call) (i : ℕ) (default : Call) (answers answers' : List Answer) (entry : Ports) (m m' : Model) (o o' : Ports) (a : Answer) →
      i < length calls → Acted R (get_or calls i default) (scene m o) a (scene m' o') → answers' ≡ answers ++ (a ∷ []) →
      SoFar (take i calls) answers entry m o → SoFar (take (i + 1) calls) answers' entry m' o'
  called calls i default answers answers' entry m m' o o' a h d e s =
      let call = get_or calls i default in
      let x : Moment = record { call = call; answer = a; before = o; after = o' } in
      record {
        history = s.history ++ (x ∷ []);
        of_calls =
            map-append (λ (y : Moment). y.call) s.history (x ∷ []) ∙ ap (λ (l : List Call). l ++ (call ∷ [])) s.of_calls
            ∙ sym (take_more calls i default h);
        of_answers =
            map-append (λ (y : Moment). y.answer) s.history (x ∷ []) ∙ ap (λ (l : List Answer). l ++ (a ∷ [])) s.of_answers ∙ sym e;
        chained = chained_more entry s.history o x refl s.chained;
        exact = one_more fresh s.history m m' x d s.exact;
      }

  pub all_called : Agreement → 512 ≤ R.limit → (calls : List Call) (i : ℕ) (answers : List Answer) (entry : Ports) (m : Model) (o : Ports) →
      length calls ≤ i → SoFar (take i calls) answers entry m o → Session R calls answers entry o
  all_called agreement limit calls i answers entry m o h s =
      let k = keeps R limit agreement s.history None fresh m entry o refl s.chained s.exact in
      record {
        history = s.history;
        of_calls = s.of_calls ∙ take_all i calls h;
        of_answers = s.of_answers;
        chained = s.chained;
        last = m;
        exact = s.exact;
        lawful = k.0;
        truthful = k.1;
      }
