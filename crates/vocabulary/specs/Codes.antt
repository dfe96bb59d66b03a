-- The numbers and the names of operations and instructions.
use Rattle.std.specs.Prelude.{◌≡◌, ◌≢◌, ℕ, true, false, List, ℤ, pos, codes, Result, MatchResult}
use Rattle.vocabulary.specs.declared.code.Operation.{Operation}
use Rattle.vocabulary.specs.declared.code.Operation.TheVariants.{Sum, Difference, Product, Quotient, Equal, Less}
use Rattle.vocabulary.specs.declared.code.UnknownOperator.{UnknownOperator}
use Rattle.vocabulary.specs.declared.code.Instruction.{Instruction}
use Rattle.vocabulary.specs.declared.code.Instruction.TheVariants.{Num, Truth, Read, Look, Deref, Op, JumpFalse, Jump, Call, Ret, IsLoc, Store, Put, Enter, Leave, Bind, New, Clos, Halt}

-- the operator number of an operation
abbrev pub operator_of : Operation → ℕ
operator_of Sum = 1
operator_of Difference = 2
operator_of Product = 3
operator_of Quotient = 4
operator_of Equal = 5
operator_of Less = 6

-- the operation with this number, or none has it
abbrev pub OperatorIn : ℕ → Result Operation UnknownOperator → Type 0
OperatorIn n r = MatchResult r (λ o. operator_of o ≡ n) (λ _. (o : Operation) → operator_of o ≢ n)

-- the opcode of an instruction
abbrev pub opcode_of : Instruction → ℕ
opcode_of (Num z) = 1
opcode_of (Truth t) = 2
opcode_of Read = 3
opcode_of (Look d) = 4
opcode_of Deref = 5
opcode_of (Op o) = 6
opcode_of (JumpFalse p) = 7
opcode_of (Jump p) = 8
opcode_of (Call d) = 9
opcode_of Ret = 10
opcode_of IsLoc = 11
opcode_of Store = 12
opcode_of Put = 13
opcode_of Enter = 14
opcode_of Leave = 15
opcode_of Bind = 16
opcode_of New = 17
opcode_of (Clos p) = 18
opcode_of Halt = 19

-- the operand of an instruction, 0 where it has none
abbrev pub operand_of : Instruction → ℤ
operand_of (Num z) = z
operand_of (Truth true) = pos 1
operand_of (Truth false) = pos 0
operand_of Read = pos 0
operand_of (Look d) = pos d
operand_of Deref = pos 0
operand_of (Op o) = pos (operator_of o)
operand_of (JumpFalse p) = pos p
operand_of (Jump p) = pos p
operand_of (Call d) = pos d
operand_of Ret = pos 0
operand_of IsLoc = pos 0
operand_of Store = pos 0
operand_of Put = pos 0
operand_of Enter = pos 0
operand_of Leave = pos 0
operand_of Bind = pos 0
operand_of New = pos 0
operand_of (Clos p) = pos p
operand_of Halt = pos 0

-- the name of an instruction in listings
abbrev pub name_of : Instruction → List ℕ
name_of (Num z) = codes "NUM"
name_of (Truth t) = codes "TRUTH"
name_of Read = codes "READ"
name_of (Look d) = codes "LOOK"
name_of Deref = codes "DEREF"
name_of (Op o) = codes "OP"
name_of (JumpFalse p) = codes "JF"
name_of (Jump p) = codes "JMP"
name_of (Call d) = codes "CALL"
name_of Ret = codes "RET"
name_of IsLoc = codes "ISLOC"
name_of Store = codes "STORE"
name_of Put = codes "PUT"
name_of Enter = codes "ENTER"
name_of Leave = codes "LEAVE"
name_of Bind = codes "BIND"
name_of New = codes "NEW"
name_of (Clos p) = codes "CLOS"
name_of Halt = codes "HALT"

-- an operation in words
abbrev pub operation_name : Operation → List ℕ
operation_name Sum = codes "sum"
operation_name Difference = codes "difference"
operation_name Product = codes "product"
operation_name Quotient = codes "quotient"
operation_name Equal = codes "equal"
operation_name Less = codes "less"
