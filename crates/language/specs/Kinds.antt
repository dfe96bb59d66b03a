-- The kinds by name: their numbers, and what they and the sorts are called.
use Rattle.std.specs.Prelude.{◌≡◌, ℕ, List, None, Result, MatchResult, codes}
use Rattle.language.specs.declared.kind.Kind.{Kind}
use Rattle.language.specs.declared.kind.Kind.TheVariants.{Assign, Output, If, While, Block, Sequence, ProcedureCall, Constant, Variable, Procedure, Function, Pair, Number, Truth, Read, Name, Operation, FunctionCall, Choice}
use Rattle.language.specs.declared.kind.Sort.{Sort}
use Rattle.language.specs.declared.kind.Sort.TheVariants.{Command, Declaration, Expression}
use Rattle.language.specs.declared.kind.UnknownKind.{UnknownKind}
use Rattle.language.specs.Fields.{fields_of}

-- the number of a kind in a table
abbrev pub kind_number : Kind → ℕ
kind_number Assign = 1
kind_number Output = 2
kind_number If = 3
kind_number While = 4
kind_number Block = 5
kind_number Sequence = 6
kind_number ProcedureCall = 7
kind_number Constant = 10
kind_number Variable = 11
kind_number Procedure = 12
kind_number Function = 13
kind_number Pair = 14
kind_number Number = 20
kind_number Truth = 21
kind_number Read = 22
kind_number Name = 23
kind_number Operation = 24
kind_number FunctionCall = 25
kind_number Choice = 26

-- a number read as a kind: the kind that has it, or an error where it is no kind's, so that the one table of rules has no row for it
abbrev pub Decodes : ℕ → Result Kind UnknownKind → Type 0
Decodes number r = MatchResult r (λ kind. kind_number kind ≡ number) (λ _. fields_of number ≡ None)

-- what a kind is called
abbrev pub kind_words : Kind → List ℕ
kind_words Assign = codes "assign"
kind_words Output = codes "output"
kind_words If = codes "if"
kind_words While = codes "while"
kind_words Block = codes "block"
kind_words Sequence = codes "sequence"
kind_words ProcedureCall = codes "procedure call"
kind_words Constant = codes "constant"
kind_words Variable = codes "variable"
kind_words Procedure = codes "procedure"
kind_words Function = codes "function"
kind_words Pair = codes "pair"
kind_words Number = codes "number"
kind_words Truth = codes "truth"
kind_words Read = codes "read"
kind_words Name = codes "name"
kind_words Operation = codes "operation"
kind_words FunctionCall = codes "function call"
kind_words Choice = codes "choice"

-- what a sort is called
abbrev pub sort_words : Sort → List ℕ
sort_words Command = codes "a command"
sort_words Declaration = codes "a declaration"
sort_words Expression = codes "an expression"
