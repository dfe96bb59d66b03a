-- What a node says, in words.
use Rattle.std.specs.Prelude.{cond, List, ℕ, ◌++◌, codes, decimal}
use Rattle.std.specs.Fmt.{signed_decimal}
use Rattle.vocabulary.specs.declared.node.Node.{Node}
use Rattle.vocabulary.specs.Codes.{operation_name}
use Rattle.language.specs.declared.kind.Sort.TheVariants.{Command, Declaration}
use Rattle.language.specs.Fields.{is_of}
use Rattle.language.specs.Reading.{FormE, FormC, FormD, form_e, form_c, form_d}
use Rattle.language.specs.Reading.FormE.{number_f, truth_f, read_f, name_f, operation_f, function_call_f, choice_f}
use Rattle.language.specs.Reading.FormC.{assign_f, output_f, when_f, while_f, block_f, sequence_f, procedure_call_f}
use Rattle.language.specs.Reading.FormD.{constant_f, variable_f, procedure_f, function_f, pair_f}

-- a form in words, by sort
abbrev pub words_e : FormE → List ℕ
words_e (number_f z) = codes "number " ++ signed_decimal z
words_e (truth_f t) = codes "truth " ++ cond t (codes "true") (codes "false")
words_e read_f = codes "read"
words_e (name_f x) = codes "name " ++ decimal x
words_e (operation_f o a b) = codes "operation " ++ operation_name o
words_e (function_call_f f a) = codes "function call " ++ decimal f
words_e (choice_f a b c) = codes "choice"

abbrev pub words_c : FormC → List ℕ
words_c (assign_f a b) = codes "assign"
words_c (output_f a) = codes "output"
words_c (when_f a b c) = codes "if"
words_c (while_f a b) = codes "while"
words_c (block_f a b) = codes "block"
words_c (sequence_f a b) = codes "sequence"
words_c (procedure_call_f f a) = codes "procedure call " ++ decimal f

abbrev pub words_d : FormD → List ℕ
words_d (constant_f x a) = codes "constant " ++ decimal x
words_d (variable_f x a) = codes "variable " ++ decimal x
words_d (procedure_f x a y) = codes "procedure " ++ decimal x ++ codes ", parameter " ++ decimal y
words_d (function_f x a y) = codes "function " ++ decimal x ++ codes ", parameter " ++ decimal y
words_d (pair_f a b) = codes "pair"

-- what a node is, in words
unfoldable pub words_of : Node → List ℕ
words_of d = cond (is_of Command d.kind) (words_c (form_c d)) (cond (is_of Declaration d.kind) (words_d (form_d d)) (words_e (form_e d)))
