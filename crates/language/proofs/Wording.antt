-- The words of a node by its kind: what the kind is called, and what is said of it beside.
use Rattle.std.proofs.Common.{◌≡◌, ℕ, ◌⊎◌, cond, List, [], ◌∷◌, ◌++◌, codes, decimal, refl, ap, subst, ⊎_elim, sym, ◌∙◌, append-nil, append_assoc}
use Rattle.std.specs.Prelude.{◌==◌}
use Rattle.std.specs.Fmt.{signed_decimal}
use Rattle.vocabulary.specs.declared.node.Node.{Node}
use Rattle.vocabulary.specs.Codes.{operation_name}
use Rattle.language.specs.declared.kind.Kind.{Kind}
use Rattle.language.specs.declared.kind.Kind.TheVariants.{Assign, Output, If, While, Block, Sequence, ProcedureCall, Constant, Variable, Procedure, Function, Pair, Number, Truth, Read, Name, Operation, FunctionCall, Choice}
use Rattle.language.specs.Kinds.{kind_number, kind_words}
use Rattle.language.specs.Reading.{form_e, form_c, form_d, number_in, operation_of}
use Rattle.language.proofs.ByKind.{with_kind}
use Rattle.language.specs.Words.{words_of}

-- what stands behind the kind's name
abbrev named : Node → List ℕ
named d = codes " " ++ decimal d.tag

abbrev with_parameter : Node → List ℕ
with_parameter d = codes " " ++ (decimal d.tag ++ (codes ", parameter " ++ decimal d.c))

abbrev beside : Kind → Node → List ℕ
beside Assign d = []
beside Output d = []
beside If d = []
beside While d = []
beside Block d = []
beside Sequence d = []
beside ProcedureCall d = named d
beside Constant d = named d
beside Variable d = named d
beside Procedure d = with_parameter d
beside Function d = with_parameter d
beside Pair d = []
beside Number d = codes " " ++ signed_decimal (number_in d)
beside Truth d = codes " " ++ cond (d.tag == 1) (codes "true") (codes "false")
beside Read d = []
beside Name d = named d
beside Operation d = codes " " ++ operation_name (operation_of d.tag)
beside FunctionCall d = named d
beside Choice d = []

by_kind : (k : Kind) (d : Node) → words_of (with_kind d (kind_number k)) ≡ kind_words k ++ beside k d
unfolding words_of form_e form_c form_d
by_kind Assign d = refl
by_kind Output d = refl
by_kind If d = refl
by_kind While d = refl
by_kind Block d = refl
by_kind Sequence d = refl
by_kind ProcedureCall d = refl
by_kind Constant d = refl
by_kind Variable d = refl
by_kind Procedure d = ap (λ l. codes "procedure " ++ l) (append_assoc (decimal d.tag) (codes ", parameter ") (decimal d.c))
by_kind Function d = ap (λ l. codes "function " ++ l) (append_assoc (decimal d.tag) (codes ", parameter ") (decimal d.c))
by_kind Pair d = refl
by_kind Number d = refl
by_kind Truth d = refl
by_kind Read d = refl
by_kind Name d = refl
by_kind Operation d = refl
by_kind FunctionCall d = refl
by_kind Choice d = refl

-- one of some kinds, as an arm for all of them says it, and what holds for each
abbrev OneOf : Kind → Kind → List Kind → Type 0
OneOf k a [] = k ≡ a
OneOf k a (b ∷ kinds) = (k ≡ a) ⊎ OneOf k b kinds

abbrev Each : (Kind → Type 0) → Kind → List Kind → Type 0
Each P a [] = P a
Each P a (b ∷ kinds) = P a × Each P b kinds

among : (P : Kind → Type 0) (k a : Kind) (kinds : List Kind) → OneOf k a kinds → Each P a kinds → P k
among P k a [] e h = subst P (sym e) h
among P k a (b ∷ kinds) e h = ⊎_elim (λ q. subst P (sym q) h.0) (λ q. among P k b kinds q h.1) e

-- the kinds with no more than a name, those with a name of the program's, and those with a parameter too; each but the first
abbrev alone : List Kind
alone = Output ∷ If ∷ While ∷ Block ∷ Sequence ∷ Pair ∷ Read ∷ Choice ∷ []

abbrev with_name : List Kind
with_name = Constant ∷ Variable ∷ Name ∷ FunctionCall ∷ []

abbrev with_both : List Kind
with_both = Function ∷ []

module _ (k : Kind) (d : Node) (e : kind_number k ≡ d.kind) where
  said : words_of d ≡ kind_words k ++ beside k d
  said = subst (λ n. words_of (with_kind d n) ≡ kind_words k ++ beside k d) e (by_kind k d)

  pub said_alone : OneOf k Assign alone → words_of d ≡ kind_words k
  said_alone i = said ∙ ap (λ l. kind_words k ++ l) (among (λ m. beside m d ≡ []) k Assign alone i (refl, (refl, (refl, (refl, (refl, (refl, (refl, (refl, refl))))))))) ∙ append-nil (kind_words k)

  pub said_named : OneOf k ProcedureCall with_name → words_of d ≡ kind_words k ++ (codes " " ++ decimal d.tag)
  said_named i = said ∙ ap (λ l. kind_words k ++ l) (among (λ m. beside m d ≡ named d) k ProcedureCall with_name i (refl, (refl, (refl, (refl, refl)))))

  pub said_with_parameter : OneOf k Procedure with_both → words_of d ≡ kind_words k ++ (codes " " ++ (decimal d.tag ++ (codes ", parameter " ++ decimal d.c)))
  said_with_parameter i = said ∙ ap (λ l. kind_words k ++ l) (among (λ m. beside m d ≡ with_parameter d) k Procedure with_both i (refl, refl))

  pub said_number : k ≡ Number → words_of d ≡ kind_words k ++ (codes " " ++ signed_decimal (number_in d))
  said_number i = said ∙ ap (λ l. kind_words k ++ l) (ap (λ m. beside m d) i)

  pub said_truth : k ≡ Truth → words_of d ≡ kind_words k ++ (codes " " ++ cond (d.tag == 1) (codes "true") (codes "false"))
  said_truth i = said ∙ ap (λ l. kind_words k ++ l) (ap (λ m. beside m d) i)

  pub said_operation : k ≡ Operation → words_of d ≡ kind_words k ++ (codes " " ++ operation_name (operation_of d.tag))
  said_operation i = said ∙ ap (λ l. kind_words k ++ l) (ap (λ m. beside m d) i)
