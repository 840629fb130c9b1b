-- The text of a line of the log, in the form of Spike's `--log-commits`.
use Rattle.std.specs.Prelude.{ℕ, ◌+◌, ◌/◌, ◌%◌, ◌++◌, List, [], ◌∷◌, Option, Some, None, codes, decimal, flat_map, reverse, nat_lt, if◌then◌else◌}
use Rattle.hex.specs.Hex.{encode_lower}
use Rattle.rv_model.specs.commands.Printing.{hex8, hex16}
use Rattle.rv_model.specs.declared.vector.control_register.ControlRegister.TheVariants.{Vstart, Vxsat, Vxrm, Vcsr, Vl, Vtype, Vlenb}
use Rattle.rv_model.specs.vector.TypeNames.{lmul_name, sew_name}
use Rattle.rv_model.specs.declared.vector.control_register.ControlRegister.{ControlRegister}
use Rattle.rv_model.specs.declared.vector.types.VType.{VType}
use Rattle.vector_memory.specs.MovedElements.{MovedElement}
use Rattle.commit_log.specs.Lines.{Line}

-- the number of a register in two columns: a number below 10 is its digit and a space
abbrev pub two_places : ℕ → List ℕ
two_places n = if nat_lt n 10 then (48 + n) ∷ 32 ∷ [] else (48 + n / 10) ∷ (48 + n % 10) ∷ []

-- two hexadecimal digits for each byte, the last byte first
abbrev pub highest_first : List ℕ → List ℕ
highest_first bytes = encode_lower (reverse bytes)

-- a scalar register and its value
abbrev pub scalar_text : ℕ × ℕ → List ℕ
scalar_text printed = codes " x" ++ two_places printed.0 ++ codes " 0x" ++ hex16 printed.1

-- the vector type and the vector length
abbrev pub configuration_text : VType × ℕ → List ℕ
configuration_text printed = codes " " ++ sew_name printed.0.sew ++ codes " " ++ lmul_name printed.0.lmul ++ codes " l" ++ decimal printed.1

-- a vector register and its bytes
abbrev pub vector_text : ℕ × List ℕ → List ℕ
vector_text printed = codes " v" ++ two_places printed.0 ++ codes " 0x" ++ highest_first printed.1

-- the number and the name of a control register, up to its value
abbrev pub control_head : ControlRegister → List ℕ
control_head Vstart = codes " c8_vstart 0x"
control_head Vxsat = codes " c9_vxsat 0x"
control_head Vxrm = codes " c10_vxrm 0x"
control_head Vcsr = codes " c15_vcsr 0x"
control_head Vl = codes " c3104_vl 0x"
control_head Vtype = codes " c3105_vtype 0x"
control_head Vlenb = codes " c3106_vlenb 0x"

-- a control register and its value
abbrev pub control_text : ControlRegister × ℕ → List ℕ
control_text printed = control_head printed.0 ++ hex16 printed.1

-- the bytes that were stored, if there are any
abbrev pub stored_text : Option (List ℕ) → List ℕ
stored_text None = []
stored_text (Some bytes) = codes " 0x" ++ highest_first bytes

-- a moved element: its address, and the bytes stored there
abbrev pub moved_text : MovedElement → List ℕ
moved_text moved = codes " mem 0x" ++ hex16 moved.address ++ stored_text moved.stored

-- the address of an instruction, and its word
abbrev pub place_text : ℕ → ℕ → List ℕ
place_text pc word = codes "core   0: 0 0x" ++ hex16 pc ++ codes " (0x" ++ hex8 word ++ codes ")"

-- the whole line
abbrev pub line_text : Line → List ℕ
line_text l =
    place_text l.pc l.word ++ flat_map scalar_text l.scalars ++ flat_map configuration_text l.configuration
    ++ flat_map vector_text l.vectors ++ flat_map control_text l.controls ++ flat_map moved_text l.moved ++ codes "\n"
