-- A step writes no scalar register but the target of its instruction.
use Rattle.std.proofs.Common.{◌≡◌, ap, refl, sym, subst, ℕ, zero, suc, ◌==◌, cond, List, [], ◌∷◌, Option, Some, None}
use Rattle.std.specs.Prelude.{slice_index, slice_set}
use Rattle.rv_model.specs.declared.instructions.access.AccessInstr.{AccessInstr}
use Rattle.rv_model.specs.declared.instructions.instruction.Instr.{Instr}
use Rattle.rv_model.specs.declared.instructions.instruction.Instr.TheVariants as instr
use Rattle.rv_model.specs.declared.scalar.Scalar.{Scalar}
use Rattle.rv_model.specs.declared.step.vector_end.VEnd.{VEnd}
use Rattle.rv_model.specs.declared.step.vector_end.VEnd.TheVariants as vector_end
use Rattle.rv_model.specs.accesses.VectorAccess.{VectorAccess, access_of}
use Rattle.rv_model.specs.legality.Legality.{is_legal}
use Rattle.rv_model.specs.scalar.Registers.{read_register}
use Rattle.rv_model.specs.step.Hart.{HartState, Stepped}
use Rattle.rv_model.specs.step.Step.{VectorStepped, access_step, after_vector, performed, vector_executed, vector_step, vector_ticks}
use Rattle.rv_model.specs.step.Targets.{WritesTarget, Wrote, scalar_target, target_at, target_of_vector}
use Rattle.rv_model.proofs.Choices.{of_bool, of_either}
use Rattle.rv_model.proofs.step_lemmas.StepCases.{of_step, operation_is, wrote, wrote_alone}

set_same : (xs : List ℕ) (i : ℕ) → slice_set xs i (slice_index xs i) ≡ xs
set_same [] i = refl
set_same (x ∷ xs) zero = refl
set_same (x ∷ xs) (suc i) = ap (λ (ys : List ℕ). x ∷ ys) (set_same xs i)

-- registers without a write
kept : (rd pc : ℕ) (x : Scalar) → Wrote rd x (record x { pc = pc })
kept rd pc x = record {
  value = read_register x rd;
  pc = pc;
  is = of_bool (rd == 0) (λ b. record x { pc = pc } ≡ record (cond b x (record x { x = slice_set x.x rd (slice_index x.x rd) })) { pc = pc }) (λ e. refl)
      (λ e. ap (λ (ys : List ℕ). let made : Scalar = record { x = ys; pc = pc } in made) (sym (set_same x.x rd)));
}

-- a state after a vector instruction, before the program counter advances
record Took (rd : ℕ) (s : HartState) (d : HartState) : Type 0 where
  wrote : Wrote rd s.scalar d.scalar

access_took : (rd limit : ℕ) (i : AccessInstr) (o : Option VectorAccess) (s : HartState) → Took rd s (access_step limit i o s).state
access_took rd limit i None s = record { wrote = kept rd s.scalar.pc s.scalar }
access_took rd limit i (Some a) s = record { wrote = kept rd s.scalar.pc s.scalar }

performed_took : (limit : ℕ) (i : Instr) (s : HartState) → Took (scalar_target i) s (performed limit i s).state
unfolding performed
performed_took limit (instr.Vector i) s = operation_is s (λ (d : VectorStepped). Took (target_of_vector i) s d.state) i (record {
  sets = λ vtype length. record { wrote = wrote_alone (target_of_vector i) _ s.scalar };
  leaves = λ scalar w file saturated. record { wrote = w };
  illegal = record { wrote = kept (target_of_vector i) s.scalar.pc s.scalar };
})
performed_took limit (instr.Access i) s = access_took 0 limit i (access_of i s.vector s.scalar) s
performed_took limit (instr.Scalar i) s = record { wrote = kept _ s.scalar.pc s.scalar }
performed_took limit (instr.Csr i) s = record { wrote = kept _ s.scalar.pc s.scalar }

executed_took : (limit : ℕ) (i : Instr) (s : HartState) → Took (scalar_target i) s (vector_executed limit i s).state
unfolding vector_executed
executed_took limit i s =
    of_either (λ (d : VectorStepped). Took (scalar_target i) s d.state) (is_legal i s.vector.conf.vtype s.vector.vstart) _ _
    (performed_took limit i s) (record { wrote = kept (scalar_target i) s.scalar.pc s.scalar })

moved_on : (rd pc : ℕ) (old new : Scalar) → Wrote rd old new → Wrote rd old (record new { pc = pc })
moved_on rd pc old new w = record { value = w.value; pc = pc; is = ap (λ (x : Scalar). record x { pc = pc }) w.is }

after_took : (rd ticks : ℕ) (end : VEnd) (word : ℕ) (s w : HartState) → Took rd s w → Wrote rd s.scalar (after_vector ticks end word w).state.scalar
after_took rd ticks vector_end.Done word s w t = moved_on rd _ s.scalar w.scalar t.wrote
after_took rd ticks _ word s w t = t.wrote

pub writes_target : WritesTarget
writes_target limit s = of_step limit s (λ (r : Stepped). Wrote (target_at s) s.scalar r.state.scalar) (record {
  fault = λ cause value. kept (target_at s) s.scalar.pc s.scalar;
  runs = λ scalar w. w;
  stores = λ addr bytes. kept (target_at s) _ s.scalar;
  controls = λ register n value. wrote (target_at s) value _ s.scalar;
  puts = λ addr asked. wrote (target_at s) _ _ s.scalar;
  exits = λ status. kept (target_at s) s.scalar.pc s.scalar;
  breaks = kept (target_at s) s.scalar.pc s.scalar;
  full = kept (target_at s) s.scalar.pc s.scalar;
}) (λ i word is.
    let done : VectorStepped = vector_executed limit i s in
    subst (λ (rd : ℕ). Wrote rd s.scalar (vector_step limit i word s).state.scalar) (sym is)
    (after_took (scalar_target i) (vector_ticks limit i s) done.end word s done.state (executed_took limit i s)))
