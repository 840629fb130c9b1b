-- Element widths, register groups, the vector length and the vector type for VLEN 256 and ELEN 64. Then the groups of instructions with
-- other element widths or multipliers than those of the vector type, and the bytes of groups as parts of the register file. Both legality
-- and execution use these definitions. See "V" Vector Extension 1.0, sections 3.1, 3.4, 3.4.2, 3.5, 5.2, 7.3, 7.9, 10.2, 11.3, 16.4 and
-- 16.6.
use Rattle.std.specs.Prelude.{ℕ, ◌*◌, ◌/◌, ◌≡◌, ◌≤◌, Option, None, MatchOption, List, max}
use Rattle.std.specs.Int.{Width, w8, w16, w32, w64, w128}
use mir.Val.{bits}
use Rattle.rv_model.specs.instructions.Types.{Eew, ExtendOp, RegisterCount}
use Rattle.rv_model.specs.declared.instructions.operations.Eew.TheVariants as width
use Rattle.rv_model.specs.vector.Types.{VLEN, Sew, E8, E16, E32, E64, Lmul, Mf8, Mf4, Mf2, M1, M2, M4, M8, VType, VLENB}
use Rattle.std.specs.Simd.Lanes.{chunk, put_chunk}
use Rattle.rv_model.specs.declared.instructions.operations.ExtendOp.TheVariants.{VzextVf8, VsextVf8, VzextVf4, VsextVf4}
use Rattle.rv_model.specs.declared.instructions.operations.RegisterCount.TheVariants.{One, Two, Four, Eight}

-- ---- element widths

-- the width of an element
abbrev pub sew_width : Sew → Width
sew_width E8 = w8
sew_width E16 = w16
sew_width E32 = w32
sew_width E64 = w64

-- the width of an element in bits
abbrev pub sew_bits : Sew → ℕ
sew_bits sew = bits (sew_width sew)

-- number of bytes of an element of a width
abbrev pub width_bytes : Width → ℕ
width_bytes w = bits w / 8

-- the element width that a load or store encodes
abbrev pub element_width : Eew → Sew
element_width width.E8 = E8
element_width width.E16 = E16
element_width width.E32 = E32
element_width width.E64 = E64

-- ---- groups, length and type

-- the group multiplier in eighths of a register
abbrev pub lmul_eighths : Lmul → ℕ
lmul_eighths Mf8 = 1
lmul_eighths Mf4 = 2
lmul_eighths Mf2 = 4
lmul_eighths M1 = 8
lmul_eighths M2 = 16
lmul_eighths M4 = 32
lmul_eighths M8 = 64

-- the type of a register group: the element width, EEW, and the multiplier, EMUL, in eighths of a register
pub record GroupType : Type 0 where
  pub width : Width
  pub emul : ℕ

-- the groups of the vector type, with SEW and LMUL
abbrev pub group_type : VType → GroupType
group_type t = record { width = sew_width t.sew; emul = lmul_eighths t.lmul }

-- number of elements of a group: EMUL x VLEN / EEW, with VLEN and EEW in bits
abbrev pub element_count : GroupType → ℕ
element_count g = g.emul * VLEN / (8 * bits g.width)

-- VLMAX
abbrev pub vlmax : VType → ℕ
vlmax t = element_count (group_type t)

-- SEW is at most LMUL x ELEN; `supported_type` of `TypeRules` tests the same
abbrev pub IsSupported : VType → Type 0
IsSupported t = sew_bits t.sew ≤ lmul_eighths t.lmul * 8

-- vl and vtype; a vtype without a type has only vill set
pub record Configuration : Type 0 where
  pub vl : ℕ
  pub vtype : Option VType

-- a valid configuration: if vill is set, the length is 0; otherwise the type is supported, and the length is at most VLMAX
abbrev pub IsConfiguration : Configuration → Type 0
IsConfiguration c = MatchOption c.vtype (c.vl ≡ 0) (λ t. IsSupported t × (c.vl ≤ vlmax t))

-- the configuration before any vector instruction: vill is set, and vl is 0
abbrev pub initial_configuration : Configuration
initial_configuration = record { vl = 0; vtype = None }

-- number of registers of a group, by its multiplier in eighths of a register; a multiplier below 1 takes one register
abbrev pub registers : ℕ → ℕ
registers emul = max 1 (emul / 8)

-- the bytes of the registers of a group
abbrev pub group_of : List ℕ → ℕ → ℕ → List ℕ
group_of file first emul = chunk (VLENB * first) (VLENB * registers emul) file

-- the register file with the bytes from register `first` on replaced
abbrev pub with_group : List ℕ → ℕ → List ℕ → List ℕ
with_group file first bytes = put_chunk (VLENB * first) file bytes

-- the bytes of one register: a group of multiplier 1
unfoldable pub register_of : List ℕ → ℕ → List ℕ
register_of file r = group_of file r 8

-- the register file with the bytes of one register replaced
unfoldable pub with_register_bytes : ℕ → List ℕ → List ℕ → List ℕ
with_register_bytes r bytes file = with_group file r bytes

-- groups with the same number of elements of another width: EMUL = EEW / SEW x LMUL
abbrev pub with_width : Width → GroupType → GroupType
with_width width g = record { width = width; emul = bits width * g.emul / bits g.width }

-- ---- operands of two widths

-- twice the width
abbrev pub doubled : Width → Width
doubled w8 = w16
doubled w16 = w32
doubled w32 = w64
doubled _ = w128  -- of w64; greater widths are excluded

-- groups of elements of twice SEW
abbrev pub wide_type : VType → GroupType
wide_type t = with_width (doubled (sew_width t.sew)) (group_type t)

-- half of the width
abbrev pub halved : Width → Width
halved w128 = w64
halved w64 = w32
halved w32 = w16
halved _ = w8  -- of w16; smaller widths are excluded

-- the divisor of SEW that gives the element width of an extension's source
abbrev pub extension_divisor : ExtendOp → ℕ
extension_divisor VzextVf8 = 8
extension_divisor VsextVf8 = 8
extension_divisor VzextVf4 = 4
extension_divisor VsextVf4 = 4
extension_divisor _ = 2

-- the element width of the source of an extension to a width
abbrev pub part_width : ExtendOp → Width → Width
part_width VzextVf8 w = halved (halved (halved w))
part_width VsextVf8 w = halved (halved (halved w))
part_width VzextVf4 w = halved (halved w)
part_width VsextVf4 w = halved (halved w)
part_width _ w = halved w

-- groups of elements of the width of an extension's source
abbrev pub part_type : ExtendOp → VType → GroupType
part_type op t = with_width (part_width op (sew_width t.sew)) (group_type t)

-- ---- widths that loads and stores encode

-- groups of elements of the width that a load or store encodes
abbrev pub access_type : VType → Eew → GroupType
access_type t width = with_width (sew_width (element_width width)) (group_type t)

-- ---- whole registers, independent of LMUL

-- one register of elements of a width
abbrev pub single_type : Width → GroupType
single_type width = record { width = width; emul = 8 }

-- number of whole registers
abbrev pub register_count : RegisterCount → ℕ
register_count One = 1
register_count Two = 2
register_count Four = 4
register_count Eight = 8

-- `count` registers of elements of a width
abbrev pub registers_type : Width → RegisterCount → GroupType
registers_type width count = record { width = width; emul = 8 * register_count count }

-- `count` registers of elements of SEW
abbrev pub whole_type : VType → RegisterCount → GroupType
whole_type t count = registers_type (sew_width t.sew) count
