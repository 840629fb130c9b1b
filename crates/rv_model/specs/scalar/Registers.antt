-- The scalar registers and the program counter (Unprivileged ISA 20191213, section 2.1).
use Rattle.std.specs.Prelude.{ℕ, ◌+◌, ◌^◌, ◌%◌, ◌==◌, replicate, slice_index, slice_set, if◌then◌else◌}
use Rattle.rv_model.specs.declared.scalar.Scalar.{Scalar}

-- all registers and the program counter are 0
unfoldable pub initial_scalar : Scalar
initial_scalar = record { x = replicate 32 0; pc = 0 }

-- the value of a register
abbrev pub read_register : Scalar → ℕ → ℕ
read_register s register = slice_index s.x register

-- the registers after a write; x0 stays 0
abbrev pub with_register : ℕ → ℕ → Scalar → Scalar
with_register register value s = if register == 0 then s else record s { x = slice_set s.x register value }

-- the registers with the program counter at the next instruction, modulo 2 ^ 64
abbrev pub advanced : Scalar → Scalar
advanced s = record s { pc = (s.pc + 4) % 2 ^ 64 }
