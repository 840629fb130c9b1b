-- For any instruction: a fault writes no scalar register, x0 is unchanged, and the output buffer only grows.
use Rattle.std.proofs.Common.{◌≡◌, ℕ, List, [], refl, sym, subst, append-nil, arith, Option, Some, None}
use Rattle.std.proofs.lemmas.Bool.Decides.{nat_tests}
use Rattle.rv_model.specs.declared.instructions.instruction.Instr.{Instr}
use Rattle.rv_model.specs.declared.instructions.instruction.Instr.TheVariants as instr
use Rattle.rv_model.specs.declared.instructions.vector.VectorInstr.{VectorInstr}
use Rattle.rv_model.specs.declared.instructions.access.AccessInstr.{AccessInstr}
use Rattle.rv_model.specs.declared.instructions.operations.Direction.{Direction}
use Rattle.rv_model.specs.declared.step.step_end.StepEnd.TheVariants.{Fault}
use Rattle.rv_model.specs.declared.step.memory_end.MemEnd.{MemEnd}
use Rattle.rv_model.specs.declared.step.vector_end.VEnd.{VEnd}
use Rattle.rv_model.specs.declared.step.vector_end.VEnd.TheVariants as vector_end
use Rattle.rv_model.specs.step.Hart.{HartState, Stepped, StepEnd}
use Rattle.rv_model.specs.step.Effects.{FaultsWriteNoRegister, X0Unchanged, OutputGrowsWithin, AppendsOutput}
use Rattle.rv_model.specs.legality.Legality.{is_legal}
use Rattle.rv_model.specs.memory.Memory.{bytes_at}
use Rattle.rv_model.specs.step.Step.{step, VectorStepped, access_step, accessed, after_vector, operation_step, performed, vector_executed, vector_step, vector_ticks, vset_step}
use Rattle.rv_model.specs.accesses.VectorAccess.{VectorAccess, access_of}
use Rattle.rv_model.specs.step.MemoryStep.{access_end}
use Rattle.rv_model.specs.step.WriteCall.{write_count}
use Rattle.rv_model.proofs.memory_lemmas.Memory.{length-bytes_at}
use Rattle.rv_model.proofs.step_lemmas.StepCases.{SameFirst, first-with_register, of_step, operation_is, wrote-first}
use Rattle.rv_model.specs.step.Targets.{target_at, target_of_vector}
use Rattle.rv_model.proofs.Choices.{of_either}

-- a fact about an instruction that faults
abbrev OnFault : StepEnd → Type 0 → Type 0
OnFault (Fault cause pc value) P = P
OnFault _ P = Unit {0}

-- the three laws for one step from a state
record Keeps (s : HartState) (r : Stepped) : Type 0 where
  fault : OnFault r.end (r.state.scalar ≡ s.scalar)
  first : SameFirst s.scalar r.state.scalar
  output : AppendsOutput s.output r.state.output

-- no output
nothing : (output : List ℕ) → AppendsOutput output output
nothing output = record { more = []; added = sym (append-nil output); fits = omega arith }

-- a fact about a vector instruction that doesn't complete
abbrev pub UnlessDone : VEnd → Type 0 → Type 0
UnlessDone vector_end.Done P = Unit {0}
UnlessDone _ P = P

-- a fact about an illegal vector instruction
abbrev pub IfIllegal : VEnd → Type 0 → Type 0
IfIllegal vector_end.Illegal P = P
IfIllegal _ P = Unit {0}

pub record VectorKeeps (s : HartState) (r : VectorStepped) : Type 0 where
  pub refused : UnlessDone r.end (r.state.scalar ≡ s.scalar)
  first : SameFirst s.scalar r.state.scalar
  output : r.state.output ≡ s.output
  pub illegal : IfIllegal r.end (r.state ≡ s)

-- the end of an executed load or store is never `Illegal`
access_is_legal : (d : Direction) (end : MemEnd) (P : Type 0) → IfIllegal (access_end d end) P
access_is_legal d end P = search (arith, nat_tests)

access_keeps : (limit : ℕ) (i : AccessInstr) (o : Option VectorAccess) (s : HartState) → VectorKeeps s (access_step limit i o s)
access_keeps limit i None s = record { refused = refl; first = refl; output = refl; illegal = refl }
access_keeps limit i (Some a) s =
    record {
      refused = (search (arith, nat_tests));
      first = refl;
      output = refl;
      illegal = access_is_legal a.direction (accessed limit a s).end _;
    }

operation_keeps : (i : VectorInstr) (s : HartState) → VectorKeeps s (operation_step i s)
operation_keeps i s = operation_is s (VectorKeeps s) i (record {
  sets = λ vtype length.
      record { refused = tt; first = first-with_register (target_of_vector i) (vset_step (target_of_vector i) vtype length s).state.vector.conf.vl s.scalar; output = refl; illegal = tt };
  leaves = λ scalar w file saturated. record { refused = tt; first = wrote-first (target_of_vector i) s.scalar scalar w; output = refl; illegal = tt };
  illegal = record { refused = refl; first = refl; output = refl; illegal = refl };
})

performed_keeps : (limit : ℕ) (i : Instr) (s : HartState) → VectorKeeps s (performed limit i s)
unfolding performed
performed_keeps limit (instr.Vector i) s = operation_keeps i s
performed_keeps limit (instr.Access i) s = access_keeps limit i (access_of i s.vector s.scalar) s
performed_keeps limit _ s = record { refused = refl; first = refl; output = refl; illegal = refl }

pub vector_keeps : (limit : ℕ) (i : Instr) (s : HartState) → VectorKeeps s (vector_executed limit i s)
unfolding vector_executed
vector_keeps limit i s =
    of_either (VectorKeeps s) (is_legal i s.vector.conf.vtype s.vector.vstart) _ _ (performed_keeps limit i s) (record { refused = refl; first = refl; output = refl; illegal = refl })

-- an unchanged output buffer
as_before : {old new : List ℕ} → new ≡ old → AppendsOutput old new
as_before {old} same = subst (λ (output : List ℕ). AppendsOutput old output) (sym same) (nothing old)

after_vector_keeps : (ticks : ℕ) (end : VEnd) (word : ℕ) (s s' : HartState) → UnlessDone end (s'.scalar ≡ s.scalar) → SameFirst s.scalar s'.scalar → s'.output ≡ s.output
    → Keeps s (after_vector ticks end word s')
after_vector_keeps ticks vector_end.Illegal word s s' h k same = record { fault = h; first = k; output = as_before same }
after_vector_keeps ticks (vector_end.Fault store addr) word s s' h k same = record { fault = h; first = k; output = as_before same }
after_vector_keeps ticks _ word s s' h k same = record { fault = tt; first = k; output = as_before same }

vector_step_keeps : (limit : ℕ) (i : Instr) (word : ℕ) (s : HartState) → Keeps s (vector_step limit i word s)
vector_step_keeps limit i word s =
    let done : VectorStepped = vector_executed limit i s in
    after_vector_keeps (vector_ticks limit i s) done.end word s done.state (vector_keeps limit i s).refused (vector_keeps limit i s).first (vector_keeps limit i s).output

step_keeps : (limit : ℕ) (s : HartState) → Keeps s (step limit s)
step_keeps limit s = of_step limit s (Keeps s) (record {
  fault = λ cause value. record { fault = refl; first = refl; output = nothing s.output };
  runs = λ scalar w. record { fault = tt; first = wrote-first (target_at s) s.scalar scalar w; output = nothing s.output };
  stores = λ addr bytes. record { fault = tt; first = refl; output = nothing s.output };
  controls = λ register n value. record { fault = tt; first = first-with_register (target_at s) value s.scalar; output = nothing s.output };
  puts = λ addr asked.
      let count : ℕ = write_count asked s.output in
      record {
        fault = tt;
        first = first-with_register (target_at s) count s.scalar;
        output = record { more = bytes_at s.memory addr count; added = refl; fits = omega (arith, length-bytes_at s.memory addr count) };
      };
  exits = λ status. record { fault = tt; first = refl; output = nothing s.output };
  breaks = record { fault = tt; first = refl; output = nothing s.output };
  full = record { fault = tt; first = refl; output = nothing s.output };
}) (λ i word is. vector_step_keeps limit i word s)

pub faults_write_no_register : FaultsWriteNoRegister
faults_write_no_register limit s cause pc value is = subst (λ (end : StepEnd). OnFault end ((step limit s).state.scalar ≡ s.scalar)) is (step_keeps limit s).fault

pub first_register_stays : X0Unchanged
first_register_stays limit s = (step_keeps limit s).first

pub output_grows_within : OutputGrowsWithin
output_grows_within limit s = (step_keeps limit s).output
