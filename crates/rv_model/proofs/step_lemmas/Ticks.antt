-- The ticks of vector instructions: at least one, and at most those that are left. A cut takes all of them, and ticks beyond the needed
-- ones change nothing.
use Rattle.std.proofs.Common.{◌≡◌, ◌≢◌, ℕ, ◌-◌, ◌≤◌, Bool, true, false, cond, Option, Some, None, refl, sym, ap, subst, arith}
use Rattle.std.specs.Option.{option_map_or}
use Rattle.rv_model.specs.declared.instructions.instruction.Instr.{Instr}
use Rattle.rv_model.specs.declared.instructions.instruction.Instr.TheVariants as instr
use Rattle.rv_model.specs.declared.instructions.access.AccessInstr.{AccessInstr}
use Rattle.rv_model.specs.declared.instructions.operations.Direction.{Direction}
use Rattle.rv_model.specs.declared.step.memory_end.MemEnd.{MemEnd}
use Rattle.rv_model.specs.declared.step.memory_end.MemEnd.TheVariants as memory_end
use Rattle.rv_model.specs.declared.step.step_end.StepEnd.TheVariants as step_end
use Rattle.rv_model.specs.declared.step.vector_end.VEnd.{VEnd}
use Rattle.rv_model.specs.declared.step.vector_end.VEnd.TheVariants as vector_end
use Rattle.rv_model.specs.accesses.AccessRuns.{AccessRun}
use Rattle.rv_model.specs.accesses.VectorAccess.{VectorAccess, access_of}
use Rattle.rv_model.specs.legality.Legality.{is_legal}
use Rattle.rv_model.specs.step.Hart.{HartState}
use Rattle.rv_model.specs.step.MemoryStep.{access_end, after_access, filled_type}
use Rattle.rv_model.specs.step.Ticks.{TakesTicks}
use Rattle.rv_model.specs.step.Step.{VectorStepped, access_step, accessed, after_vector, performed, vector_ends, vector_executed, vector_step, vector_ticks}
use Rattle.rv_model.proofs.access_lemmas.RunsAgain.{IsUncut, directed_same}
use Rattle.rv_model.proofs.step_lemmas.Cuts.{accessed_facts, cut_at, cut_index}
use Rattle.rv_model.proofs.step_lemmas.Effects.{UnlessDone, vector_keeps}
use Rattle.rv_model.proofs.Choices.{of_option}

-- ---- at least one, and at most those that are left

ticks_within : (limit : ℕ) (i : Instr) (s : HartState) → 1 ≤ limit → (1 ≤ vector_ticks limit i s) × (vector_ticks limit i s ≤ limit)
ticks_within limit (instr.Access i) s some =
    let ticks : Option VectorAccess → ℕ = λ o. option_map_or (λ a. (accessed limit a s).reached - s.vector.vstart) o 1 in
    of_option (access_of i s.vector s.scalar) (λ o. (1 ≤ ticks o) × (ticks o ≤ limit)) (λ e. (omega arith, omega (arith, some)))
    (λ a e. let f = (accessed_facts limit i a s e).ticks some in (omega (arith, f.0), omega (arith, f.1)))
ticks_within limit _ s some = (omega arith, omega (arith, some))

-- the ticks of an instruction are those of its step
after_within : (limit ticks : ℕ) (end : VEnd) (word : ℕ) (s : HartState) → 1 ≤ limit → (1 ≤ ticks) × (ticks ≤ limit)
    → (1 ≤ (after_vector ticks end word s).ticks) × ((after_vector ticks end word s).ticks ≤ limit)
after_within limit ticks end word s some h = search arith

ticks_are_within : (limit : ℕ) (i : Instr) (word : ℕ) (s : HartState) → 1 ≤ limit
    → (1 ≤ (vector_step limit i word s).ticks) × ((vector_step limit i word s).ticks ≤ limit)
ticks_are_within limit i word s some = search (after_within, ticks_within)

-- ---- a cut

cut_takes_all_ticks : (limit : ℕ) (i : Instr) (word : ℕ) (s : HartState) → (vector_step limit i word s).end ≡ step_end.Cut
    → ((vector_step limit i word s).ticks ≡ limit) × ((vector_step limit i word s).state.scalar ≡ s.scalar)
cut_takes_all_ticks limit i word s cut =
    let done : VectorStepped = vector_executed limit i s in
    let ticks : ℕ = vector_ticks limit i s in
    let at = cut_index ticks done.end word done.state cut in
    subst (λ (end : VEnd). ((after_vector ticks end word done.state).ticks ≡ limit) × ((after_vector ticks end word done.state).state.scalar ≡ s.scalar))
    (sym at.1)
    ((cut_at limit i s at.0 at.1).ticks, subst (λ (end : VEnd). UnlessDone end (done.state.scalar ≡ s.scalar)) at.1 (vector_keeps limit i s).refused)

-- ---- more ticks

-- a vector instruction isn't cut
abbrev pub IsWhole : VEnd → Type 0
IsWhole end = (index : ℕ) → end ≢ vector_end.Cut index

uncut_access : (d : Direction) (end : MemEnd) → IsWhole (access_end d end) → IsUncut end
uncut_access d (memory_end.Cut at) h = absurd (h at refl)
uncut_access d _ h = λ index e. absurd (cc)

module _ (limit larger : ℕ) (more : limit ≤ larger) (s : HartState) where
  -- more ticks give the same result if there is no cut
  abbrev IsSame : (ℕ → VectorStepped) → Type 0
  IsSame done = IsWhole (done limit).end → done larger ≡ done limit

  accessed_same : (a : VectorAccess) → IsWhole (access_end a.direction (accessed limit a s).end) → accessed larger a s ≡ accessed limit a s
  accessed_same a whole = search (directed_same, uncut_access)

  -- the end of a load or store, by its run
  abbrev ended : AccessInstr → VectorAccess → AccessRun → VectorStepped
  ended i a run = vector_ends (access_end a.direction run.end) (after_access (filled_type i a s) a run s)

  pub executed_same : (i : Instr) → IsSame (λ limit. vector_executed limit i s)
  unfolding vector_executed performed
  executed_same i = named (is_legal i s.vector.conf.vtype s.vector.vstart) i
    where
      by_access : (i : AccessInstr) (o : Option VectorAccess) → IsSame (λ limit. access_step limit i o s)
      by_access i None whole = refl
      by_access i (Some a) whole = ap (ended i a) (accessed_same a whole)

      named : (b : Bool) (i : Instr) → IsSame (λ limit. cond b (performed limit i s) (vector_ends vector_end.Illegal s))
      named true (instr.Access i) = by_access i (access_of i s.vector s.scalar)
      named true _ = λ whole. refl
      named false _ = λ whole. refl

  -- the same for the step
  abbrev IsSameStep : ℕ → (ℕ → VectorStepped) → (ℕ → ℕ) → Type 0
  IsSameStep word done ticks =
      (after_vector (ticks limit) (done limit).end word (done limit).state).end ≢ step_end.Cut
      → after_vector (ticks larger) (done larger).end word (done larger).state ≡ after_vector (ticks limit) (done limit).end word (done limit).state

  step_same : (i : Instr) (word : ℕ) → IsSameStep word (λ limit. vector_executed limit i s) (λ limit. vector_ticks limit i s)
  unfolding vector_executed performed
  step_same i word = named (is_legal i s.vector.conf.vtype s.vector.vstart) i
    where
      whole_end : (ticks : ℕ) (end : VEnd) (state : HartState) → (after_vector ticks end word state).end ≢ step_end.Cut → IsWhole end
      whole_end ticks (vector_end.Cut at) state h = absurd (h refl)
      whole_end ticks _ state h = λ index e. absurd (cc)

      by_access : (i : AccessInstr) (o : Option VectorAccess)
          → IsSameStep word (λ limit. access_step limit i o s) (λ limit. option_map_or (λ a. (accessed limit a s).reached - s.vector.vstart) o 1)
      by_access i None uncut = refl
      by_access i (Some a) uncut =
          let run : AccessRun = accessed limit a s in
          ap (λ (run : AccessRun). after_vector (run.reached - s.vector.vstart) (ended i a run).end word (ended i a run).state)
          (accessed_same a (whole_end (run.reached - s.vector.vstart) (ended i a run).end (ended i a run).state uncut))

      named : (b : Bool) (i : Instr)
          → IsSameStep word (λ limit. cond b (performed limit i s) (vector_ends vector_end.Illegal s)) (λ limit. vector_ticks limit i s)
      named true (instr.Access i) = by_access i (access_of i s.vector s.scalar)
      named true _ = λ uncut. refl
      named false _ = λ uncut. refl

pub vector_steps_take_ticks : (i : Instr) (word : ℕ) → TakesTicks (λ limit. vector_step limit i word)
vector_steps_take_ticks i word = search (cut_takes_all_ticks, step_same, ticks_are_within)
