-- The step of a load or store, with ticks that are counted from the vector states before and after it.
use Rattle.std.proofs.Common.{◌≡◌, ℕ, Bool, true, false, ◌&&◌, cond, Option, Some, inl, inr, refl, sym, ◌∙◌, ap, subst, arith}
use Rattle.std.specs.Prelude.{nat_lt}
use Rattle.std.proofs.lemmas.Bool.Decides.{nat_tests}
use Rattle.rv_model.specs.declared.instructions.access.AccessInstr.{AccessInstr}
use Rattle.rv_model.specs.declared.instructions.instruction.Instr.TheVariants as instr
use Rattle.rv_model.specs.declared.step.memory_end.MemEnd.{MemEnd}
use Rattle.rv_model.specs.declared.step.memory_end.MemEnd.TheVariants.{Done, Fault, Cut}
use Rattle.rv_model.specs.declared.step.vector_end.VEnd.{VEnd}
use Rattle.rv_model.specs.declared.step.vector_end.VEnd.TheVariants as vector_end
use Rattle.rv_model.specs.declared.vector.state.VState.{VState}
use Rattle.rv_model.specs.accesses.AccessRuns.{AccessRun}
use Rattle.rv_model.specs.accesses.VectorAccess.{VectorAccess, access_of}
use Rattle.rv_model.specs.legality.Legality.{is_legal}
use Rattle.rv_model.specs.step.Hart.{HartState}
use Rattle.rv_model.specs.step.MemoryStep.{access_end}
use Rattle.rv_model.specs.step.Step.{VectorStepped, access_step, accessed, after_vector, performed, vector_ends, vector_executed, vector_step, vector_ticks}
use Rattle.rv_model.proofs.Choices.{of_option, of_test}
use Rattle.rv_model.proofs.access_lemmas.Runs.{AllOrShorter, AtEnd}
use Rattle.rv_model.proofs.step_lemmas.Cuts.{accessed_facts}
use Rattle.rv_model.proofs.step_lemmas.TicksTaken.{access_ticks, ticks_show}

choice : (known b : Bool) (x y : ℕ) → (b ≡ true → known ≡ true) → cond b x y ≡ cond (known && b) x y
choice true b x y h = refl
choice false true x y h = absurd (cc (h refl))
choice false false x y h = refl

-- the ticks that are counted as if the instruction were a fault-only-first load
abbrev pub shown_ticks : ℕ → VectorAccess → VState → VState → VEnd → ℕ
shown_ticks limit a = access_ticks limit (record a { first_only = true })

-- only a fault-only-first load reduces the length, so these ticks are those of each load or store
no_other : (limit : ℕ) (i : AccessInstr) (a : VectorAccess) (s : HartState) → access_of i s.vector s.scalar ≡ Some a
    → shown_ticks limit a s.vector (access_step limit i (Some a) s).state.vector (access_step limit i (Some a) s).end
    ≡ access_ticks limit a s.vector (access_step limit i (Some a) s).state.vector (access_step limit i (Some a) s).end
no_other limit i a s e = named (accessed limit a s).end (accessed_facts limit i a s e).done
  where
    run : AccessRun
    run = accessed limit a s

    shorter : AllOrShorter s.vector.vstart a.body.end a.first_only s.vector run → nat_lt run.vector.conf.vl s.vector.conf.vl ≡ true → a.first_only ≡ true
    shorter (inl same) less = absurd (grind (arith, nat_tests, same.0, less))
    shorter (inr h) less = h.0

    named : (end : MemEnd) → AtEnd end (AllOrShorter s.vector.vstart a.body.end a.first_only s.vector run)
        → shown_ticks limit a s.vector (access_step limit i (Some a) s).state.vector (access_end a.direction end)
        ≡ access_ticks limit a s.vector (access_step limit i (Some a) s).state.vector (access_end a.direction end)
    named Done done = choice a.first_only (nat_lt run.vector.conf.vl s.vector.conf.vl) _ _ (shorter done)
    named (Fault index addr) done = refl
    named (Cut index) done = refl

taken : (limit : ℕ) (i : AccessInstr) (a : VectorAccess) (s : HartState) → access_of i s.vector s.scalar ≡ Some a
    → is_legal (instr.Access i) s.vector.conf.vtype s.vector.vstart ≡ true
    → vector_ticks limit (instr.Access i) s
    ≡ shown_ticks limit a s.vector (access_step limit i (Some a) s).state.vector (access_step limit i (Some a) s).end
unfolding vector_executed performed
taken limit i a s e legal =
    let executed : vector_executed limit (instr.Access i) s ≡ access_step limit i (Some a) s =
    ap (λ (b : Bool). cond b (access_step limit i (access_of i s.vector s.scalar) s) (vector_ends vector_end.Illegal s)) legal
    ∙ ap (λ (o : Option VectorAccess). access_step limit i o s) e in
    ticks_show limit i a s e legal ∙ ap (λ (d : VectorStepped). access_ticks limit a s.vector d.state.vector d.end) executed
    ∙ sym (no_other limit i a s e)

module _ (limit : ℕ) (i : AccessInstr) (word : ℕ) (s : HartState) (ticks : ℕ) where
  -- `ticks` are these counted ticks
  abbrev pub Shows : VectorStepped → Type 0
  Shows d = (a : VectorAccess) → access_of i s.vector s.scalar ≡ Some a → ticks ≡ shown_ticks limit a s.vector d.state.vector d.end

  -- `ticks` are the ticks of the step; an illegal instruction takes one tick, whatever was counted
  abbrev IsStep : VectorStepped → Type 0
  IsStep d = after_vector (vector_ticks limit (instr.Access i) s) d.end word d.state ≡ after_vector ticks d.end word d.state

  step_shows : Shows (vector_executed limit (instr.Access i) s) → IsStep (vector_executed limit (instr.Access i) s)
  unfolding vector_executed performed
  step_shows =
      of_test (λ (d : VectorStepped). Shows d → IsStep d) (is_legal (instr.Access i) s.vector.conf.vtype s.vector.vstart) _ _
      (λ legal. of_option (access_of i s.vector s.scalar) (λ o. Shows (access_step limit i o s) → IsStep (access_step limit i o s)) (λ e shows. refl)
      (λ a e shows. ap (λ (n : ℕ). after_vector n (access_step limit i (Some a) s).end word (access_step limit i (Some a) s).state)
      (taken limit i a s e legal ∙ sym (shows a e))))
      (λ illegal shows. refl)

  pub counted : (after : HartState) (end : VEnd) → vector_executed limit (instr.Access i) s ≡ vector_ends end after → Shows (vector_ends end after)
      → vector_step limit (instr.Access i) word s ≡ after_vector ticks end word after
  counted after end executed shows =
      subst (λ (d : VectorStepped). Shows d → vector_step limit (instr.Access i) word s ≡ after_vector ticks d.end word d.state) executed step_shows shows
