-- The ticks of a load or store, computed from the vector states before and after it, for code that counts ticks from these states.
use Rattle.std.proofs.Common.{◌≡◌, ℕ, ◌+◌, ◌-◌, Bool, true, ◌&&◌, cond, max, Option, Some, refl, sym, ◌∙◌, ap, arith}
use Rattle.std.specs.Option.{option_map_or}
use Rattle.std.specs.Prelude.{nat_lt}
use Rattle.std.proofs.lemmas.Bool.{and_from, le-ltb, lt-ltb}
use Rattle.rv_model.specs.declared.instructions.access.AccessInstr.{AccessInstr}
use Rattle.rv_model.specs.declared.instructions.instruction.Instr.TheVariants as instr
use Rattle.rv_model.specs.declared.step.memory_end.MemEnd.{MemEnd}
use Rattle.rv_model.specs.declared.step.memory_end.MemEnd.TheVariants as memory_end
use Rattle.rv_model.specs.declared.step.vector_end.VEnd.{VEnd}
use Rattle.rv_model.specs.declared.step.vector_end.VEnd.TheVariants as vector_end
use Rattle.rv_model.specs.declared.vector.state.VState.{VState}
use Rattle.rv_model.specs.accesses.AccessRuns.{AccessRun}
use Rattle.rv_model.specs.accesses.VectorAccess.{VectorAccess, access_of}
use Rattle.rv_model.specs.legality.Legality.{is_legal}
use Rattle.rv_model.specs.step.Hart.{HartState}
use Rattle.rv_model.specs.step.MemoryStep.{access_end}
use Rattle.rv_model.specs.step.Step.{VectorStepped, access_step, accessed, performed, vector_ends, vector_executed, vector_ticks}
use Rattle.rv_model.proofs.access_lemmas.Runs.{AllOrShorter, AtEnd, AtStop, CutAt, FaultAt}
use Rattle.rv_model.proofs.step_lemmas.Cuts.{RunFacts, accessed_facts}
use Rattle.rv_model.proofs.Choices.{of_bool}

-- one tick for each index from vstart on, up to the reduced length, or up to vstart after a fault; a cut takes all ticks that are left
abbrev pub access_ticks : ℕ → VectorAccess → VState → VState → VEnd → ℕ
access_ticks limit a before after vector_end.Illegal = 1
access_ticks limit a before after vector_end.Done =
    cond (a.first_only && nat_lt after.conf.vl before.conf.vl) (after.conf.vl - before.vstart + 1) (max 1 (a.body.end - before.vstart))
access_ticks limit a before after (vector_end.Fault store addr) = after.vstart - before.vstart + 1
access_ticks limit a before after (vector_end.Cut index) = limit

module _ (limit : ℕ) (a : VectorAccess) (s : HartState) (f : RunFacts limit a s) where
  abbrev run : AccessRun
  run = accessed limit a s

  abbrev after : VState
  after = run.vector

  taken : (end : MemEnd) → AtEnd end (AllOrShorter s.vector.vstart a.body.end a.first_only s.vector run)
      → AtStop end (CutAt limit s.vector.vstart a.body.end s.vector run) (FaultAt limit s.vector.vstart a.body.end s.vector run)
      → run.reached - s.vector.vstart ≡ access_ticks limit a s.vector after (access_end a.direction end)
  taken end done stop = search (arith, and_from, le-ltb, lt-ltb, of_bool)

-- the ticks of a legal load or store
pub ticks_show : (limit : ℕ) (i : AccessInstr) (a : VectorAccess) (s : HartState) → access_of i s.vector s.scalar ≡ Some a
    → is_legal (instr.Access i) s.vector.conf.vtype s.vector.vstart ≡ true
    → vector_ticks limit (instr.Access i) s
    ≡ access_ticks limit a s.vector (vector_executed limit (instr.Access i) s).state.vector (vector_executed limit (instr.Access i) s).end
unfolding vector_executed performed
ticks_show limit i a s e legal =
    let f : RunFacts limit a s = accessed_facts limit i a s e in
    let executed : vector_executed limit (instr.Access i) s ≡ access_step limit i (Some a) s =
    ap (λ (b : Bool). cond b (access_step limit i (access_of i s.vector s.scalar) s) (vector_ends vector_end.Illegal s)) legal
    ∙ ap (λ (o : Option VectorAccess). access_step limit i o s) e in
    ap (λ (o : Option VectorAccess). option_map_or (λ a. (accessed limit a s).reached - s.vector.vstart) o 1) e
    ∙ taken limit a s f (accessed limit a s).end f.done f.stop
    ∙ same (accessed limit a s).end
    ∙ ap (λ (d : VectorStepped). access_ticks limit a s.vector d.state.vector d.end) (sym executed)
  where
    -- the tails don't affect the ticks
    same : (end : MemEnd) → access_ticks limit a s.vector (accessed limit a s).vector (access_end a.direction end)
        ≡ access_ticks limit a s.vector (access_step limit i (Some a) s).state.vector (access_end a.direction end)
    same memory_end.Done = refl
    same _ = refl
