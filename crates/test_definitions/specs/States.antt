-- The states of the golden vectors, and what an instruction leaves of one (lab/tests/data/golden_vectors/README.md).
use Rattle.std.specs.Prelude.{ℕ, zero, suc, ◌+◌, ◌*◌, ◌/◌, ◌%◌, ◌^◌, ◌==◌, ◌≡◌, Bool, true, false, List, [], ◌∷◌, Option, Some, None, map, flat_map, if◌then◌else◌}
use Rattle.std.specs.List.{range_with_len}
use Rattle.std.specs.Option.{unwrap_or, option_map_or}
use Rattle.rv_model.specs.declared.scalar.Scalar.{Scalar}
use Rattle.rv_model.specs.declared.step.step_end.StepEnd.TheVariants as step_end
use Rattle.rv_model.specs.declared.step.step_end.Cause.TheVariants as cause
use Rattle.rv_model.specs.declared.vector.policy.Policy.{Policy}
use Rattle.rv_model.specs.declared.vector.policy.Policy.TheVariants.{Keep}
use Rattle.rv_model.specs.declared.vector.state.RoundingMode.{RoundingMode}
use Rattle.rv_model.specs.declared.vector.state.RoundingMode.TheVariants.{NearestUp}
use Rattle.rv_model.specs.declared.vector.state.VState.{VState}
use Rattle.rv_model.specs.declared.vector.types.Lmul.{Lmul}
use Rattle.rv_model.specs.declared.vector.types.Sew.{Sew}
use Rattle.rv_model.specs.declared.vector.types.VType.{VType}
use Rattle.rv_model.specs.declared.memory.Access.TheVariants.{Fetch}
use Rattle.rv_model.specs.declared.step.step_end.Cause.{Cause}
use Rattle.rv_model.specs.declared.step.step_end.StepEnd.{StepEnd}
use Rattle.rv_model.specs.memory.Memory.{Memory, can_access}
use Rattle.rv_model.specs.step.Hart.{HartState, Stepped}
use Rattle.rv_model.specs.step.Step.{step, word_at}
use Rattle.rv_model.specs.vector.Groups.{Configuration}

-- ---- the values that a case doesn't name

-- scalar register r
abbrev pub start_scalar : ℕ → ℕ
start_scalar r = if r == 0 then 0 else (r * 0x0123456789abcdef + 0x5a5a) % 2 ^ 64

-- byte k of vector register r
abbrev pub start_vector_byte : ℕ → ℕ → ℕ
start_vector_byte r k = (64 + 29 * r + 7 * k + k / 8 * r) % 256

-- ---- states

-- A state by its differences from the one in which each value has its start value. Registers are named by number. A vector register is one
-- number, with byte 0 in its low bits.
pub record State : Type 0 where
  pub policy : Policy
  pub pc : ℕ
  pub vl : ℕ
  pub vtype : Option VType
  pub vstart : ℕ
  pub vxrm : RoundingMode
  pub vxsat : Bool
  pub x : List (ℕ × ℕ)
  pub v : List (ℕ × ℕ)

-- the address of the instruction
abbrev pub code_address : ℕ
code_address = 0x10000800

abbrev pub start : State
start =
    record {
      policy = Keep;
      pc = code_address;
      vl = 0;
      vtype = None;
      vstart = 0;
      vxrm = NearestUp;
      vxsat = false;
      x = [];
      v = [];
    }

-- a vector type; the flags are for an agnostic tail and an agnostic mask
abbrev pub typed : Sew → Lmul → Bool → Bool → Option VType
typed sew lmul ta ma = Some (record { sew = sew; lmul = lmul; tail_agnostic = ta; mask_agnostic = ma })

-- the first value that a list names for a number
abbrev pub named : List (ℕ × ℕ) → ℕ → Option ℕ
named [] n = None
named (e ∷ es) n = if e.0 == n then Some e.1 else named es n

-- the `count` least significant bytes of a number, the lowest first
abbrev pub bytes_of : ℕ → ℕ → List ℕ
bytes_of zero number = []
bytes_of (suc count) number = number % 256 ∷ bytes_of count (number / 256)

abbrev pub scalars : State → List ℕ
scalars s = map (λ r. unwrap_or (named s.x r) (start_scalar r)) (range_with_len 0 32)

abbrev pub vectors : State → List ℕ
vectors s =
    flat_map (λ r. option_map_or (bytes_of 32) (named s.v r) (map (start_vector_byte r) (range_with_len 0 32))) (range_with_len 0 32)

-- the state of a hart with a memory
abbrev pub hart : Memory → State → HartState
hart m s =
    let x : Scalar = record { x = scalars s; pc = s.pc } in
    let c : Configuration = record { vl = s.vl; vtype = s.vtype } in
    let v : VState = record { file = vectors s; conf = c; vstart = s.vstart; vxrm = s.vxrm; vxsat = s.vxsat } in
    record { scalar = x; vector = v; memory = m; output = []; policy = s.policy }

-- ---- results

-- how an instruction ends, as a signal reports it
pub data End : Type 0 where
  Retired : End
  Illegal : End
  Misaligned : End
  LoadFault : ℕ → End
  StoreFault : ℕ → End
  Breakpoint : End
  Other : End

abbrev pub fault_end : Cause → ℕ → End
fault_end cause.MisalignedTarget value = Misaligned
fault_end cause.IllegalInstruction value = Illegal
fault_end cause.LoadAccess value = LoadFault value
fault_end cause.StoreAccess value = StoreFault value
fault_end cause.FetchAccess value = Other

abbrev pub end_of : StepEnd → End
end_of step_end.Ran = Retired
end_of (step_end.Fault cause pc value) = fault_end cause value
end_of step_end.Ebreak = Breakpoint
end_of _ = Other

abbrev pub result_of : Stepped → End × HartState
result_of r = (end_of r.end, r.state)

-- the memory permits a fetch of this word at the code address
pub record Fetches (m : Memory) (w : ℕ) : Type 0 where
  pub allowed : can_access Fetch m code_address 4 ≡ true
  pub word : word_at m code_address ≡ w

-- more ticks than any of these instructions takes
abbrev pub ticks : ℕ
ticks = 1000

-- an instruction: its word, the state before it, how it ends, and the state after it
pub record Case : Type 0 where
  pub word : ℕ
  pub before : State
  pub end : End
  pub after : State

-- A step of the state before ends so, and leaves the state after. The memory holds the word and anything else, and is unchanged.
abbrev pub Agrees : Case → Type 0
Agrees c = (m : Memory) → Fetches m c.word → result_of (step ticks (hart m c.before)) ≡ (c.end, hart m c.after)
