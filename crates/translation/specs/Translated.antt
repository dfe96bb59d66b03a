-- What the translation of a node relies on, and what it leaves.
use Rattle.std.specs.Prelude.{◌≡◌, ℕ, suc, ◌+◌, ◌*◌, ◌<◌, ◌≤◌, ◌⊎◌, List, [], ◌++◌, length, take, Ok, Err, Result}
use Rattle.std.specs.Result.{result_and}
use Rattle.vocabulary.specs.declared.code.Instruction.{Instruction}
use Rattle.vocabulary.specs.declared.code.Instruction.TheVariants.{Call, Bind, New}
use Rattle.vocabulary.specs.declared.code.Word.{Word}
use Rattle.vocabulary.specs.declared.node.Node.{Node}
use Rattle.vocabulary.specs.declared.refusal.Refusal.{Refusal}
use Rattle.vocabulary.specs.Refusals.{Verdict}
use Rattle.language.specs.declared.kind.Kind.TheVariants.{Constant, Variable, Procedure as procedure_kind, Function as function_kind}
use Rattle.language.specs.declared.name.Entry.{Entry}
use Rattle.language.specs.declared.name.Role.{Role}
use Rattle.language.specs.declared.name.Role.TheVariants.{Procedure, Function}
use Rattle.language.specs.Kinds.{kind_number}
use Rattle.language.specs.Names.{naming, names_e, names_c, names_d}
use Rattle.language.specs.Reading.{tree_e, tree_c, tree_d}
use Rattle.language.specs.Scope.{newer_of, place_of, scope_after, scope_inside}
use Rattle.language.specs.Sound.{LowerE, IsE, IsC, IsD}
use Rattle.language.specs.Table.{at}
use Rattle.language.specs.Translation.{one, program, plain_code, plain_end, code_e, code_c, code_d, behind_e, behind_c, behind_d}
use Rattle.language.specs.Tree.{Expression, Command, Declaration, size_e, size_c, size_d}
use Rattle.language.specs.Tree.Declaration.{procedure, function}
use Rattle.translation.specs.declared.scope.Scope.{Scope}
use Rattle.translation.specs.declared.translator.Translator.{Translator}
use Rattle.translation.specs.declared.writer.Writer.{Writer}
use Rattle.translation.specs.Held.{text, visible, Added, Older}

-- the nodes of a translation, and the position of its next word
abbrev pub nodes : Translator → List Node
nodes t = t.shaped.nodes.now

abbrev pub next : Translator → ℕ
next t = length (text t.code)

-- the node is there and of its sort, and its tree has room in the tables: three words and a name for each node
pub record ReadyE (t : Translator) (n : ℕ) : Type 0 where
  pub here : n < length (nodes t)
  pub sort : IsE (nodes t) n
  pub room : next t + 3 * size_e (tree_e (nodes t) n) ≤ 1537

pub record ReadyC (t : Translator) (n : ℕ) : Type 0 where
  pub here : n < length (nodes t)
  pub sort : IsC (nodes t) n
  pub room : next t + 3 * size_c (tree_c (nodes t) n) ≤ 1537
  pub names : length t.scope.entries + size_c (tree_c (nodes t) n) ≤ 512

pub record ReadyD (t : Translator) (n : ℕ) : Type 0 where
  pub here : n < length (nodes t)
  pub sort : IsD (nodes t) n
  pub room : next t + 3 * size_d (tree_d (nodes t) n) ≤ 1537
  pub names : length t.scope.entries + size_d (tree_d (nodes t) n) ≤ 512

-- a call: the node is there, its argument is an expression below it, and both have room
pub record ReadyCall (t : Translator) (n : ℕ) : Type 0 where
  pub here : n < length (nodes t)
  pub argument : LowerE (nodes t) n (at (nodes t) n).a
  pub room : next t + 3 * suc (size_e (tree_e (nodes t) (at (nodes t) n).a)) ≤ 1537

-- where the answer is acceptance, the words were added
abbrev pub Wrote : Writer → Writer → List Word → ℕ → Verdict → Type 0
Wrote c d ws p (Ok _) = Added c d ws p
Wrote c d ws p (Err e) = Unit {0}

-- from t to u the answer is the verdict v, and where it accepts, the words ws were added and the next position is p; the visible
-- names are as they were, accepted or refused
pub record Translated (v : Verdict) (ws : List Word) (p : ℕ) (t u : Translator) (r : Verdict) : Type 0 where
  pub answer : r ≡ v
  pub wrote : Wrote t.code u.code ws p r
  pub same : u.scope ≡ t.scope
  pub on : nodes u ≡ nodes t

-- an expression: the verdict on its names, and its code
pub record TranslatedE (e : Expression) (t u : Translator) (r : Verdict) : Type 0 where
  pub is : Translated (names_e e (visible t.scope)) (code_e e (visible t.scope) (next t)) (behind_e e (next t)) t u r

-- the same, of the code of its plain value
pub record TranslatedPlain (e : Expression) (t u : Translator) (r : Verdict) : Type 0 where
  pub is : Translated (names_e e (visible t.scope)) (plain_code e (code_e e (visible t.scope) (next t))) (plain_end e (behind_e e (next t))) t u r

-- a call at a node: of the routine f of that role, with an argument
pub record TranslatedCall (nd : ℕ) (role : Role) (f : ℕ) (a : Expression) (t u : Translator) (r : Verdict) : Type 0 where
  pub is : let sc = visible t.scope in Translated (result_and (naming nd role (place_of sc f)) (names_e a sc)) (code_e a sc (next t) ++ one (Call (newer_of (place_of sc f))) nd) (suc (behind_e a (next t))) t u r

-- a command
pub record TranslatedC (c : Command) (t u : Translator) (r : Verdict) : Type 0 where
  pub is : Translated (names_c c (visible t.scope)) (code_c c (visible t.scope) (next t)) (behind_c c (next t)) t u r

-- a declaration makes its names visible; those from before stay below them, accepted or refused
abbrev pub Declared : Scope → Scope → Declaration → Verdict → Type 0
Declared s u t (Ok _) = (visible u ≡ scope_after t (visible s)) × (length u.entries ≤ length s.entries + size_d t)
Declared s u t (Err e) = Unit {0}

pub record TranslatedD (d : Declaration) (t u : Translator) (r : Verdict) : Type 0 where
  pub answer : r ≡ names_d d (visible t.scope)
  pub wrote : Wrote t.code u.code (code_d d (visible t.scope) (next t)) (behind_d d (next t)) r
  pub older : Older t.scope u.scope
  pub declared : Declared t.scope u.scope d r
  pub on : nodes u ≡ nodes t

-- the kind of the declarations that end in an instruction: a constant is bound, a variable is made
abbrev pub Introduces : Instruction → ℕ → Type 0
Introduces i kind = ((i ≡ Bind) × (kind ≡ kind_number Constant)) ⊎ ((i ≡ New) × (kind ≡ kind_number Variable))

-- the kind of the declarations of a role, which enclose a body
abbrev pub Encloses : Role → ℕ → Type 0
Encloses role kind = ((role ≡ Procedure) × (kind ≡ kind_number procedure_kind)) ⊎ ((role ≡ Function) × (kind ≡ kind_number function_kind))

-- the body of a routine relies on what its declaration relies on, with two words of it written
pub record ReadyBody (t : Translator) (n : ℕ) : Type 0 where
  pub here : n < length (nodes t)
  pub sort : IsD (nodes t) n
  pub room : next t + 3 * size_d (tree_d (nodes t) n) ≤ 1539
  pub names : length t.scope.entries + size_d (tree_d (nodes t) n) ≤ 512

-- the code of the body, where the parameter is visible, and the position behind it
abbrev pub body_code : Declaration → List Entry → ℕ → List Word
body_code (procedure nd x a y) sc p = code_c a (scope_inside y sc) p
body_code (function nd x a y) sc p = code_e a (scope_inside y sc) p
body_code _ sc p = []

abbrev pub body_end : Declaration → ℕ → ℕ
body_end (procedure nd x a y) p = behind_c a p
body_end (function nd x a y) p = behind_e a p
body_end _ p = p

-- the body of the routine that d declares: the verdict on its names is that of d
pub record TranslatedBody (d : Declaration) (t u : Translator) (r : Verdict) : Type 0 where
  pub is : Translated (names_d d (visible t.scope)) (body_code d (visible t.scope) (next t)) (body_end d (next t)) t u r

-- at the end of a block or a body the n oldest names are visible again, and nothing else has changed
pub record Restored (n : ℕ) (t u : Translator) : Type 0 where
  pub entries : u.scope.entries ≡ take n t.scope.entries
  pub code : u.code ≡ t.code
  pub on : nodes u ≡ nodes t

-- the answer for a whole program: its code, where every name is visible and of its role, or the first fault of the names
abbrev pub ProgramOf : Command → Result (List Word) Refusal → Type 0
ProgramOf t (Ok code) = (names_c t [] ≡ Ok tt) × (code ≡ program t)
ProgramOf t (Err e) = names_c t [] ≡ Err e
