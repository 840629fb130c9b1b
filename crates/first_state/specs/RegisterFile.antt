-- The state of a machine after the lines of a text. Each line sets one register, in order.
use Rattle.std.specs.Prelude.{ℕ, ◌+◌, ◌*◌, ◌==◌, ◌&&◌, nat_le, Bool, List, [], ◌∷◌, Option, Some, None, Result, Ok, Err, if◌then◌else◌}
use Rattle.rv_model.specs.scalar.Registers.{with_register}
use Rattle.rv_model.specs.step.Hart.{HartState, hart_state}
use Rattle.rv_model.specs.text.Lines.{pieces}
use Rattle.rv_model.specs.vector.Groups.{Configuration, lmul_eighths, sew_bits, vlmax, with_register_bytes}
use Rattle.rv_model.specs.declared.vector.types.VType.{VType}
use Rattle.rv_model.specs.declared.vector.state.VState.{VState}
use Rattle.recording.specs.declared.machine.SingleUserMachine.{SingleUserMachine}
use Rattle.rv_model.specs.memory.Memory.{Memory}
use Rattle.first_state.specs.Lines.{Setting, line_setting}
use Rattle.first_state.specs.declared.fault.RegistersFault.{RegistersFault}
use Rattle.first_state.specs.declared.fault.RegistersFault.TheVariants as fault
use Rattle.first_state.specs.declared.laying.Lengths.{Lengths}
use Rattle.first_state.specs.declared.setting.Setting.TheVariants.{Scalar, Vector, Counter, Length, Kind, Start, Rounding, Saturation}

-- the state with another vector state; `with_lengths` replaces its vector length and type
abbrev pub with_vector : VState → HartState → HartState
with_vector v s = record s { vector = v }

abbrev pub with_lengths : Configuration → HartState → HartState
with_lengths c s = with_vector (record s.vector { conf = c }) s

-- the state after a register is set; the length may be invalid for the type
abbrev pub with_setting : Setting → HartState → HartState
with_setting (Scalar register value) s = record s { scalar = with_register register value s.scalar }
with_setting (Vector register bytes) s = with_vector (record s.vector { file = with_register_bytes register bytes s.vector.file }) s
with_setting (Counter addr) s = record s { scalar = record s.scalar { pc = addr } }
with_setting (Length vl) s = with_lengths (record s.vector.conf { vl = vl }) s
with_setting (Kind vtype) s = with_lengths (record s.vector.conf { vtype = vtype }) s
with_setting (Start vstart) s = with_vector (record s.vector { vstart = vstart }) s
with_setting (Rounding mode) s = with_vector (record s.vector { vxrm = mode }) s
with_setting (Saturation flag) s = with_vector (record s.vector { vxsat = flag }) s

-- the result of a line and the lines after it: the final state, or the number of the first line that doesn't set a register to a valid
-- value
abbrev pub after_line : ℕ → Option (Option Setting) → HartState → (HartState → Result HartState ℕ) → Result HartState ℕ
after_line number None s others = Err number
after_line number (Some None) s others = others s
after_line number (Some (Some setting)) s others = others (with_setting setting s)

-- the result of lines that are numbered from `number` on
unfoldable pub laid : ℕ → List (List ℕ) → HartState → Result HartState ℕ
laid number [] s = Ok s
laid number (line ∷ lines) s = after_line number (line_setting line) s (λ next. laid (number + 1) lines next)

-- whether a vset instruction can leave this length and type: vill with length 0, or a supported type with at most VLMAX
abbrev pub is_configuration : ℕ → Option VType → Bool
is_configuration vl None = vl == 0
is_configuration vl (Some t) = nat_le (sew_bits t.sew) (lmul_eighths t.lmul * 8) && nat_le vl (vlmax t)

-- the result of all lines; the final length must be valid for the final type
abbrev pub configured : Result HartState ℕ → Result HartState RegistersFault
configured (Err number) = Err (fault.Line number)
configured (Ok s) = if is_configuration s.vector.conf.vl s.vector.conf.vtype then Ok s else Err fault.Length

abbrev pub with_registers : List ℕ → HartState → Result HartState RegistersFault
with_registers text s = configured (laid 1 (pieces text) s)

-- ---- states between lines

-- the state of a machine, with this vector length and type in place of its own
abbrev pub state_with : {M : Type 0} → (M → Memory) → SingleUserMachine M → Lengths → HartState
state_with memory machine lengths =
    hart_state machine.scalar (record machine.vectors.seat.state { conf = record { vl = lengths.vl; vtype = lengths.vtype } }) (memory machine.memory) machine.policy machine.output.items
