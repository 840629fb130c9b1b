-- After any instruction, the vector type still allows the vector length, and the permissions are unchanged.
use Rattle.std.proofs.Common.{◌≡◌, ℕ, ◌≤◌, Bool, true, false, ◌==◌, Option, Some, None, refl, sym, ap, subst, arith}
use Rattle.std.specs.Prelude.{⊤}
use Rattle.std.specs.Option.{option_map_or}
use Rattle.std.proofs.lemmas.Bool.{eqb-true, leb-true}
use Rattle.std.proofs.lemmas.Bool.Decides.{nat_tests}
use Rattle.rv_model.specs.accesses.VectorAccess.{VectorAccess, access_of}
use Rattle.rv_model.specs.declared.instructions.instruction.Instr.{Instr}
use Rattle.rv_model.specs.declared.instructions.instruction.Instr.TheVariants as instr
use Rattle.rv_model.specs.declared.instructions.vector.VectorInstr.{VectorInstr}
use Rattle.rv_model.specs.declared.instructions.access.AccessInstr.{AccessInstr}
use Rattle.rv_model.specs.declared.memory.Access.{Access}
use Rattle.rv_model.specs.declared.step.vector_end.VEnd.{VEnd}
use Rattle.rv_model.specs.declared.step.vector_end.VEnd.TheVariants as vector_end
use Rattle.rv_model.specs.declared.vector.control_register.ControlRegister.{ControlRegister}
use Rattle.rv_model.specs.declared.vector.request.RequestedLength.{RequestedLength}
use Rattle.rv_model.specs.declared.vector.state.VState.{VState}
use Rattle.rv_model.specs.declared.vector.types.Lmul.{Lmul}
use Rattle.rv_model.specs.declared.vector.types.Sew.{Sew}
use Rattle.rv_model.specs.declared.vector.types.VType.{VType}
use Rattle.rv_model.specs.legality.Legality.{is_legal}
use Rattle.rv_model.specs.memory.Memory.{Memory, can_access_byte}
use Rattle.rv_model.specs.step.Effects.{StepKeepsConfiguration, StepKeepsPermissions}
use Rattle.rv_model.specs.step.Hart.{HartState, Stepped}
use Rattle.rv_model.specs.step.Step.{step, VectorStepped, access_step, accessed, after_vector, operation_step, performed, vector_executed, vset_step}
use Rattle.rv_model.specs.vector.Groups.{Configuration, IsConfiguration, IsSupported, vlmax}
use Rattle.rv_model.proofs.vector_lemmas.Lengths.{IsLength}
use Rattle.rv_model.specs.vector.Control.{with_control}
use Rattle.rv_model.specs.vector.TypeRules.{requested, supported_type, vector_type, with_length}
use Rattle.rv_model.proofs.memory_lemmas.Memory.{is_allowed-put_bytes}
use Rattle.rv_model.proofs.step_lemmas.Cuts.{RunFacts, accessed_facts}
use Rattle.rv_model.proofs.step_lemmas.StepCases.{of_step, operation_is}
use Rattle.rv_model.proofs.Choices.{of_either, of_test}

-- ---- requested lengths

abbrev Supports : Option VType → Type 0
Supports None = ⊤
Supports (Some t) = IsSupported t

supported_parts : (sew : Option Sew) (lmul : Option Lmul) (tail mask : Bool) → Supports (supported_type sew lmul tail mask)
supported_parts sew lmul tail mask = search (arith, nat_tests, leb-true, of_test)

-- whether the old type, if there is one, has the same VLMAX as the new one
abbrev same_vlmax : Option VType → VType → Bool
same_vlmax o t = option_map_or (λ u. vlmax u == vlmax t) o false

kept_length : (o : Option VType) (vl : ℕ) (t : VType) → IsLength o vl → same_vlmax o t ≡ true → vl ≤ vlmax t
kept_length o vl t is e = search (arith, eqb-true)

length_configures : (old : Configuration) (t : VType) (length : RequestedLength) → IsConfiguration old → IsSupported t
    → IsConfiguration (with_length old t length)
length_configures old t length is supported = search (arith, nat_tests, kept_length, of_test)

type_configures : (old : Configuration) (o : Option VType) (length : RequestedLength) → IsConfiguration old → Supports o
    → IsConfiguration (option_map_or (λ t. with_length old t length) o (record { vl = 0; vtype = None }))
type_configures old o length is supported = search (arith, nat_tests, length_configures)

-- ---- shortened lengths

record Shortens (old new : Configuration) : Type 0 where
  vtype : new.vtype ≡ old.vtype
  length : new.vl ≤ old.vl

below_length : (o : Option VType) (new old : ℕ) → new ≤ old → IsLength o old → IsLength o new
below_length o new old h is = search arith

shorter : (old new : Configuration) → Shortens old new → IsConfiguration old → IsConfiguration new
shorter old new h is = search (arith, nat_tests, below_length)

-- the same accesses are allowed
abbrev AllowsAsBefore : Memory → Memory → Type 0
AllowsAsBefore old new = (access : Access) (x : ℕ) → can_access_byte access new x ≡ can_access_byte access old x

-- ---- invariants of a state

record Stays (s after : HartState) : Type 0 where
  configured : IsConfiguration s.vector.conf → IsConfiguration after.vector.conf
  allowed : AllowsAsBefore s.memory after.memory

-- the vector length and type, and the memory, are unchanged
still : (s after : HartState) → after.vector.conf ≡ s.vector.conf → after.memory ≡ s.memory → Stays s after
still s after conf memory = record {
  configured = λ is. subst (λ (c : Configuration). IsConfiguration c) (sym conf) is;
  allowed = λ access x. ap (λ (m : Memory). can_access_byte access m x) memory;
}

-- ---- vector instructions

vset_stays : (rd vtype : ℕ) (length : RequestedLength) (s : HartState) → Stays s (vset_step rd vtype length s).state
unfolding requested
vset_stays rd vtype length s = record {
  configured = λ is. type_configures s.vector.conf (vector_type vtype) length is (search (arith, nat_tests, of_either, supported_parts));
  allowed = λ access x. refl;
}

access_stays : (limit : ℕ) (i : AccessInstr) (s : HartState) (o : Option VectorAccess) → access_of i s.vector s.scalar ≡ o
    → Stays s (access_step limit i o s).state
access_stays limit i s None e = still s s refl refl
access_stays limit i s (Some a) e =
    let f : RunFacts limit a s = accessed_facts limit i a s e in
    record {
      configured = λ is. shorter s.vector.conf (accessed limit a s).vector.conf (record { vtype = f.vtype; length = f.length }) is;
      allowed = f.allowed;
    }

operation_stays : (i : VectorInstr) (s : HartState) → Stays s (operation_step i s).state
operation_stays i s = operation_is s (λ (r : VectorStepped). Stays s r.state) i (record {
  sets = λ vtype length. vset_stays _ vtype length s;
  leaves = λ scalar first file saturated. still s _ refl refl;
  illegal = still s s refl refl;
})

performed_stays : (limit : ℕ) (i : Instr) (s : HartState) → Stays s (performed limit i s).state
unfolding performed
performed_stays limit (instr.Vector i) s = operation_stays i s
performed_stays limit (instr.Access i) s = access_stays limit i s (access_of i s.vector s.scalar) refl
performed_stays limit _ s = still s s refl refl

vector_stays : (limit : ℕ) (i : Instr) (s : HartState) → Stays s (vector_executed limit i s).state
unfolding vector_executed
vector_stays limit i s =
    of_either (λ (r : VectorStepped). Stays s r.state) (is_legal i s.vector.conf.vtype s.vector.vstart) _ _
    (performed_stays limit i s) (still s s refl refl)

after_vector_stays : (ticks : ℕ) (end : VEnd) (word : ℕ) (s after : HartState) → Stays s after
    → Stays s (after_vector ticks end word after).state
after_vector_stays ticks vector_end.Done word s after h = record { configured = h.configured; allowed = h.allowed }
after_vector_stays ticks _ word s after h = h

-- ---- every instruction

control_stays : (register : ControlRegister) (n : ℕ) (v : VState) → (with_control register n v).conf ≡ v.conf
control_stays register n v = search (arith, nat_tests)

step_stays : (limit : ℕ) (s : HartState) → Stays s (step limit s).state
step_stays limit s = of_step limit s (λ (r : Stepped). Stays s r.state) (record {
  fault = λ cause value. still s s refl refl;
  runs = λ scalar first. still s _ refl refl;
  stores = λ addr bytes. record { configured = λ is. is; allowed = λ access x. is_allowed-put_bytes access s.memory addr bytes x };
  controls = λ register n value. still s _ (control_stays register n s.vector) refl;
  puts = λ addr asked. still s _ refl refl;
  exits = λ status. still s s refl refl;
  breaks = still s s refl refl;
  full = still s s refl refl;
}) (λ i word is. (search (after_vector_stays, vector_stays)))

pub step_keeps_configuration : StepKeepsConfiguration
step_keeps_configuration limit s is = (step_stays limit s).configured is

pub step_keeps_permissions : StepKeepsPermissions
step_keeps_permissions access limit s x = (step_stays limit s).allowed access x
