-- Widths and values of loads and stores (Unprivileged ISA 20191213, sections 2.6 and 5.3). The least significant byte of a number is at
-- its lowest address, whether or not the address is a multiple of the size.
use Rattle.std.specs.Prelude.{ℕ}
use Rattle.std.specs.Int.{Width, w8, w16, w32, w64, byte_len, from_le_bytes}
use Rattle.rv_model.specs.instructions.Types.{LoadOp, StoreOp}
use Rattle.rv_model.specs.declared.instructions.operations.LoadOp.TheVariants.{Lb, Lh, Lw, Ld, Lbu, Lhu, Lwu}
use Rattle.rv_model.specs.declared.instructions.operations.StoreOp.TheVariants.{Sb, Sh, Sw, Sd}
use Rattle.rv_model.specs.instructions.Immediates.{sign_extended}
use Rattle.rv_model.specs.memory.Memory.{Memory, bytes_at}

-- the number of a width at an address
abbrev pub number_at : Width → Memory → ℕ → ℕ
number_at w m addr = from_le_bytes w (bytes_at m addr (byte_len w))

-- the width of a load
abbrev pub load_width : LoadOp → Width
load_width Lb = w8
load_width Lh = w16
load_width Lw = w32
load_width Ld = w64
load_width Lbu = w8
load_width Lhu = w16
load_width Lwu = w32

-- the value that a load writes: the number from memory, sign-extended or zero-extended
abbrev pub extended : LoadOp → ℕ → ℕ
extended Lb n = sign_extended 8 n
extended Lh n = sign_extended 16 n
extended Lw n = sign_extended 32 n
extended _ n = n

-- the width of a store
abbrev pub store_width : StoreOp → Width
store_width Sb = w8
store_width Sh = w16
store_width Sw = w32
store_width Sd = w64
