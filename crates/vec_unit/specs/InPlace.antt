-- Operations that replace the registers of a group one after another, by the operands' registers with the same index ("V" Vector Extension
-- 1.0, sections 3.4.2 and 5.2). Element indices count through all registers: element n * r is the first of register r if a register has n
-- elements.
use Rattle.std.specs.Prelude.{ℕ, ◌+◌, ◌*◌, ◌-◌, ◌≡◌, ◌≤◌, ◌%◌, ◌^◌, ◌&&◌, ◌⊎◌, nat_le, Bool, IsTrue, List, true, ⊤}
use Rattle.std.specs.Int.{Width}
use mir.Val.{bits}
use Rattle.rv_model.specs.declared.instructions.operations.BinaryOp.{BinaryOp}
use Rattle.rv_model.specs.declared.instructions.source.Source.{Source}
use Rattle.rv_model.specs.declared.instructions.source.Source.TheVariants as source
use Rattle.rv_model.specs.declared.scalar.Scalar.{Scalar}
use Rattle.rv_model.specs.elements.Arithmetic.{binary_result}
use Rattle.rv_model.specs.elements.Elements.{Body, element}
use Rattle.rv_model.specs.elements.Formulas.{formula, immediate_value, wrap}
use Rattle.rv_model.specs.scalar.Registers.{read_register}
use Rattle.rv_model.specs.lending.GroupBounds.{HoldsBody, IsInside, SourceIsInside}
use Rattle.rv_model.specs.vector.Groups.{width_bytes, registers}
use Rattle.lane_arith.specs.SimdOperations.{is_simd}
use Rattle.vec_unit.specs.declared.operands.WithSources.{WithSources}
use Rattle.vec_unit.specs.declared.destination.Destination.{Destination}
use Rattle.vec_unit.specs.Results.{with_written}

-- a test of the elements of the group that starts with element `first`, as a test of all elements
abbrev pub test_from : ℕ → (ℕ → Bool) → ℕ → Bool
test_from first test e = nat_le first e && test (e - first)

-- numbers for the elements of that group, as numbers for all elements
abbrev pub number_from : ℕ → (ℕ → ℕ) → ℕ → ℕ
number_from first number e = number (e - first)

-- two groups of `registers` registers: no register of the first group is replaced before it is read, if those of the second are replaced
-- one after another
abbrev pub IsReadBeforeWrite : ℕ → ℕ → ℕ → Type 0
IsReadBeforeWrite read written registers = (written ≤ read) ⊎ (read + registers ≤ written)

-- the same for a second operand, if it is a vector
abbrev pub SourceIsReadFirst : Source → ℕ → ℕ → Type 0
SourceIsReadFirst (source.V vs1) written registers = IsReadBeforeWrite vs1 written registers
SourceIsReadFirst (source.X rs1) written registers = ⊤
SourceIsReadFirst (source.I imm) written registers = ⊤

-- the number of a second operand that is a scalar or an immediate; 0 if it is a vector
abbrev pub second_number : Bool → Source → Scalar → ℕ
second_number unsigned (source.V vs1) x = 0
second_number unsigned (source.X rs1) x = read_register x rs1
second_number unsigned (source.I imm) x = immediate_value unsigned imm

-- element i of the second operand; elements have k bytes, and a register has n of them. A vector starts at vs1 in the list of all
-- registers' bytes; else each element is `number`
abbrev pub second_in : ℕ → ℕ → Source → ℕ → List ℕ → ℕ → ℕ
second_in k n (source.V vs1) number bytes i = element k bytes (n * vs1 + i)
second_in k n (source.X rs1) number bytes i = number
second_in k n (source.I imm) number bytes i = number

-- the result for element i of an operation on the group that starts with register vs2 and a second operand, in the list of all registers'
-- bytes; a register has n elements
abbrev pub in_place_result : Width → ℕ → BinaryOp → ℕ → Source → ℕ → List ℕ → ℕ → ℕ
in_place_result w n op vs2 source number bytes i =
    wrap w
    (formula op w (element (width_bytes w) bytes (n * vs2 + i)) (second_in (width_bytes w) n source (number % 2 ^ bits w) bytes i))

-- the second operand has this number of registers, if it is a vector
abbrev pub SourceHasRegisters : Source → ℕ → Type 0
SourceHasRegisters (source.V vs1) registers = vs1 + registers ≤ 32
SourceHasRegisters (source.X rs1) registers = ⊤
SourceHasRegisters (source.I imm) registers = ⊤

-- the bytes of all registers after an operation on their groups has written its results to the destination
abbrev pub with_binary_results : Width → WithSources BinaryOp → Destination → Body → List ℕ → Scalar → List ℕ
with_binary_results w o destination body file x =
    with_written w destination body (binary_result (record { width = w; emul = destination.emul }) o.op o.vs2 o.source file x) file

-- an operation that SIMD instructions compute and whose results can be written one register after another. The destination's tail isn't
-- filled, and the groups are inside the register file and contain the body
pub record IsInTurn (width : Width) (o : WithSources BinaryOp) (destination : Destination) (body : Body) : Type 0 where
  pub inside : IsInside destination.vd destination.emul
  pub holds : HoldsBody width destination.emul destination.count body.end
  pub first : IsInside o.vs2 destination.emul
  pub second : SourceIsInside o.source destination.emul
  pub made : IsTrue (is_simd o.op)
  pub first_read : IsReadBeforeWrite o.vs2 destination.vd (registers destination.emul)
  pub second_read : SourceIsReadFirst o.source destination.vd (registers destination.emul)
  pub no_tail : destination.fill_tail ≡ true → body.end ≡ destination.count
