-- The code of a whole program: that of its root, and the HALT.
use Rattle.std.proofs.lemmas.List.{length-reverse}
use Rattle.std.proofs.Common.{◌≡◌, ℕ, suc, arith, List, [], ◌++◌, length, Ok, Result, sym, refl, ap, ◌∙◌, subst}
use Rattle.vocabulary.specs.declared.code.Instruction.TheVariants.{Halt}
use Rattle.vocabulary.specs.declared.code.Word.{Word}
use Rattle.vocabulary.specs.declared.node.Node.{Node}
use Rattle.vocabulary.specs.declared.refusal.Refusal.{Refusal}
use Rattle.language.specs.declared.kind.Sort.TheVariants.{Command}
use Rattle.language.specs.Reading.{tree_c, tree_of}
use Rattle.language.specs.Table.{root_of}
use Rattle.language.specs.Translation.{one, code_c}
use Rattle.language.specs.Tree.{node_c, size_c}
use Rattle.language.proofs.ByKind.{is_from}
use Rattle.language.proofs.Shape.{shaped}
use Rattle.language.proofs.Sizes.{root-size}
use Rattle.translation.specs.declared.translator.Translator.{Translator}
use Rattle.translation.specs.declared.writer.Writer.{Writer}
use Rattle.translation.specs.Held.{text, visible, Added}
use Rattle.translation.specs.Translated.{nodes, next, ReadyC, TranslatedC, ProgramOf}
use Rattle.translation.proofs.Parts.{part_c}

-- the root of a translation that begins: its tree has room for all nodes
pub ready_root : (t : Translator) → text t.code ≡ [] → visible t.scope ≡ [] → ReadyC t (root_of (nodes t))
unfolding visible
ready_root t empty none =
    let ns = nodes t in
    let s : size_c (tree_c ns (root_of ns)) ≡ length ns = root-size ns t.shaped.shape in
    let e : length (text t.code) ≡ 0 = ap length empty in
    let v : length t.scope.entries ≡ 0 = sym (length-reverse t.scope.entries) ∙ ap length none in
    record {
      here = omega (arith, t.shaped.some);
      sort = is_from Command ns (root_of ns) (shaped ns t.shaped.shape).root;
      room = omega (arith, t.shaped.few);
      names = omega (arith, t.shaped.few);
    }

-- the program of a list of nodes, translated from its root
pub program_of : (t : Translator) {ns : List Node} {root : ℕ} (r : Result (List Word) Refusal) → nodes t ≡ ns → root ≡ root_of ns → ProgramOf (tree_c (nodes t) root) r → ProgramOf (tree_of ns) r
program_of t {ns} {root} r i j h = subst (λ (n : ℕ). ProgramOf (tree_c ns n) r) j (subst (λ (ns : List Node). ProgramOf (tree_c ns root) r) i h)

module _ {t u : Translator} (root : ℕ) (none : visible t.scope ≡ []) (empty : text t.code ≡ []) where
  pub program_done : {d : Writer} {n : ℕ} {w : List Word} → node_c (tree_c (nodes t) root) ≡ n → TranslatedC (tree_c (nodes t) root) t u (Ok tt) → Added u.code d (one Halt n) (suc (next u)) → w ≡ text d → ProgramOf (tree_c (nodes t) root) (Ok w)
  program_done {n = n} j q A e =
      let c = tree_c (nodes t) root in
      let q' = part_c root refl none (ap length empty) q in (
        sym q'.answer,
        e ∙ A.words ∙ ap (λ (ws : List Word). ws ++ one Halt n) (q'.wrote.words ∙ ap (λ (ws : List Word). ws ++ code_c c [] 0) empty) ∙ ap (λ (k : ℕ). code_c c [] 0 ++ one Halt k) (sym j),
      )
