-- The kinds of nodes, and what each field of each kind holds.
use Rattle.std.specs.Prelude.{ℕ, Bool, true, false, cond, ◌&&◌, List, [], ◌∷◌, Some, None, Option, ◌==◌, nat_le}
use Rattle.std.specs.List.{flat_map, list_all}
use Rattle.vocabulary.specs.declared.node.Node.{Node}
use Rattle.language.specs.declared.kind.Sort.{Sort}
use Rattle.language.specs.declared.kind.Sort.TheVariants.{Command, Declaration, Expression}
use Rattle.language.specs.declared.kind.Rule.{Rule}
use Rattle.language.specs.declared.kind.Rule.TheVariants.{Unused, Name, Truth, Operator, Half, Child}
use Rattle.language.specs.declared.kind.ChildField.{ChildField}
use Rattle.language.specs.declared.kind.Field.{Field}
use Rattle.language.specs.declared.kind.Fields.{Fields}

abbrev pub within : ℕ → ℕ → ℕ → Bool
within low high k = nat_le low k && nat_le k high

-- kinds 1 to 7 are commands, 10 to 14 declarations, 20 to 26 expressions
abbrev pub is_of : Sort → ℕ → Bool
is_of Command k = within 1 7 k
is_of Declaration k = within 10 14 k
is_of Expression k = within 20 26 k

abbrev pub row : Rule → Rule → Rule → Rule → Option Fields
row tag a b c = Some (record { tag = tag; a = a; b = b; c = c })

-- the rules of a kind: of byte 1, and of the fields a, b and c
unfoldable pub fields_of : ℕ → Option Fields
fields_of k =
    -- assign, output, if, while, block, sequence, procedure call
    cond (k == 1) (row Unused (Child Expression) (Child Expression) Unused)
    (cond (k == 2) (row Unused (Child Expression) Unused Unused)
    (cond (k == 3) (row Unused (Child Expression) (Child Command) (Child Command))
    (cond (k == 4) (row Unused (Child Expression) (Child Command) Unused)
    (cond (k == 5) (row Unused (Child Declaration) (Child Command) Unused)
    (cond (k == 6) (row Unused (Child Command) (Child Command) Unused)
    (cond (k == 7) (row Name (Child Expression) Unused Unused)
    -- constant, variable, procedure, function, pair
    (cond (k == 10) (row Name (Child Expression) Unused Unused)
    (cond (k == 11) (row Name (Child Expression) Unused Unused)
    (cond (k == 12) (row Name (Child Command) Unused Name)
    (cond (k == 13) (row Name (Child Expression) Unused Name)
    (cond (k == 14) (row Unused (Child Declaration) (Child Declaration) Unused)
    -- number, truth, read, name, operation, function call, choice
    (cond (k == 20) (row Unused Unused Half Half)
    (cond (k == 21) (row Truth Unused Unused Unused)
    (cond (k == 22) (row Unused Unused Unused Unused)
    (cond (k == 23) (row Name Unused Unused Unused)
    (cond (k == 24) (row Operator (Child Expression) (Child Expression) Unused)
    (cond (k == 25) (row Name (Child Expression) Unused Unused)
    (cond (k == 26) (row Unused (Child Expression) (Child Expression) (Child Expression)) None))))))))))))))))))

-- whether a rule admits a field; that a child is lower and of its sort is asked apart
abbrev pub admits : Rule → ℕ → Bool
admits Unused v = v == 0
admits Name v = nat_le v 255
admits Truth v = nat_le v 1
admits Operator v = within 1 6 v
admits Half v = true
admits (Child s) v = true

-- the fields a, b and c of a node, each with its rule
abbrev pub field : Rule → ℕ → Field
field r v = record { rule = r; value = v }

abbrev pub rest_in : Fields → Node → List Field
rest_in r d = field r.a d.a ∷ field r.b d.b ∷ field r.c d.c ∷ []

-- all four, the tag first
abbrev pub fields_in : Fields → Node → List Field
fields_in r d = field r.tag d.tag ∷ rest_in r d

abbrev pub admits_all : Option Fields → Node → Bool
admits_all None d = false
admits_all (Some r) d = list_all (λ f. admits f.rule f.value) (fields_in r d)

-- the kind is known, and each field keeps its rule
unfoldable pub formed : Node → Bool
formed d = admits_all (fields_of d.kind) d

-- a child: the sort that is wanted, and the number of the node; only a field with such a rule holds one
abbrev pub child_in : Rule → ℕ → List ChildField
child_in Unused v = []
child_in Name v = []
child_in Truth v = []
child_in Operator v = []
child_in Half v = []
child_in (Child s) v = record { wanted = s; number = v } ∷ []

abbrev pub named : List Field → List ChildField
named fs = flat_map (λ f. child_in f.rule f.value) fs

abbrev pub children_by : Option Fields → Node → List ChildField
children_by None d = []
children_by (Some r) d = named (rest_in r d)

-- the children of a node, a before b before c
unfoldable pub children : Node → List ChildField
children d = children_by (fields_of d.kind) d
