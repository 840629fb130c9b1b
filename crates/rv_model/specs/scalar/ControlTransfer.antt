-- Conditions and targets of branches and jumps (Unprivileged ISA 20191213, section 2.5, "Control Transfer Instructions").
use Rattle.std.specs.Prelude.{ℕ, ◌-◌, ◌%◌, ◌==◌, not, nat_lt, Bool, int_lt}
use Rattle.std.specs.Int.{w64, cast_signed}
use Rattle.rv_model.specs.instructions.Types.{BranchOp}
use Rattle.rv_model.specs.declared.instructions.operations.BranchOp.TheVariants.{Beq, Bne, Blt, Bge, Bltu, Bgeu}
use Rattle.rv_model.specs.instructions.Immediates.{i_immediate}
use Rattle.rv_model.specs.scalar.Arithmetic.{sum}

-- whether a branch that compares these registers is taken
abbrev pub is_taken : BranchOp → ℕ → ℕ → Bool
is_taken Beq a b = a == b
is_taken Bne a b = not (a == b)
is_taken Blt a b = int_lt (cast_signed w64 a) (cast_signed w64 b)
is_taken Bge a b = not (int_lt (cast_signed w64 a) (cast_signed w64 b))
is_taken Bltu a b = nat_lt a b
is_taken Bgeu a b = not (nat_lt a b)

-- the target of JALR: a register plus a signed immediate of 12 bits, with bit 0 cleared
abbrev pub register_target : ℕ → ℕ → ℕ
register_target base imm =
    let target = sum w64 base (i_immediate imm) in
    target - target % 2
