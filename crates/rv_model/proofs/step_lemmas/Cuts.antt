-- The index of a cut: the number of ticks after vstart. A vector instruction is never cut if this number is at least the largest number
-- of elements.
use Rattle.std.proofs.Common.{◌≡◌, ◌≢◌, ℕ, ◌+◌, ◌-◌, ◌*◌, ◌<◌, ◌≤◌, Option, Some, None, sym, ◌∙◌, subst, ap, arith}
use Rattle.std.specs.Option.{option_map, option_map_or}
use Rattle.std.specs.Prelude.{⊤}
use Rattle.std.proofs.lemmas.Bool.Decides.{nat_tests}
use Rattle.rv_model.specs.declared.instructions.instruction.Instr.{Instr}
use Rattle.rv_model.specs.declared.instructions.instruction.Instr.TheVariants as instr
use Rattle.rv_model.specs.declared.instructions.vector.VectorInstr.{VectorInstr}
use Rattle.rv_model.specs.declared.instructions.access.AccessInstr.{AccessInstr}
use Rattle.rv_model.specs.declared.instructions.operations.Direction.{Direction}
use Rattle.rv_model.specs.declared.instructions.operations.RegisterCount.{RegisterCount}
use Rattle.rv_model.specs.declared.instructions.operations.Eew.{Eew}
use Rattle.rv_model.specs.declared.step.memory_end.MemEnd.{MemEnd}
use Rattle.rv_model.specs.declared.step.step_end.StepEnd.TheVariants as step_end
use Rattle.rv_model.specs.declared.step.vector_end.VEnd.{VEnd}
use Rattle.rv_model.specs.declared.step.vector_end.VEnd.TheVariants as vector_end
use Rattle.rv_model.specs.declared.vector.sizes.TheConstants.{GROUP_BYTES, VLENB}
use Rattle.rv_model.specs.declared.vector.state.VState.{VState}
use Rattle.rv_model.specs.declared.vector.types.VType.{VType}
use Rattle.rv_model.specs.declared.scalar.Scalar.{Scalar}
use Rattle.rv_model.specs.accesses.VectorAccess.{VectorAccess, access_of, index_count, vector_access, whole_length}
use Rattle.rv_model.specs.legality.Legality.{is_legal}
use Rattle.rv_model.specs.vector.Groups.{register_count}
use Rattle.rv_model.specs.step.Hart.{HartState}
use Rattle.rv_model.specs.step.MemoryStep.{access_end}
use Rattle.rv_model.specs.step.Resumes.{StopsShort}
use Rattle.rv_model.specs.step.Step.{VectorStepped, access_step, accessed, after_vector, operation_step, performed, vector_executed, vector_ticks}
use Rattle.rv_model.proofs.access_lemmas.Runs.{AtStop, CutAt, FaultAt, Facts, run_facts, stop_means}
use Rattle.rv_model.proofs.step_lemmas.StepCases.{operation_is}
use Rattle.rv_model.proofs.Choices.{of_either}

-- ---- operations on registers are never cut and never fault

abbrev pub AtOnce : VEnd → Type 0
AtOnce (vector_end.Fault store addr) = ⊥
AtOnce (vector_end.Cut index) = ⊥
AtOnce _ = ⊤

operation_once : (i : VectorInstr) (s : HartState) → AtOnce (operation_step i s).end
operation_once i s = operation_is s (λ (r : VectorStepped). AtOnce r.end) i (record {
  sets = λ vtype length. tt;
  leaves = λ scalar first file saturated. tt;
  illegal = tt;
})

once_whole : (end : VEnd) → AtOnce end → StopsShort end → ⊥
once_whole end h stops = search (arith, nat_tests)

pub operation_whole : (i : VectorInstr) (s : HartState) → StopsShort (operation_step i s).end → ⊥
operation_whole i s = once_whole (operation_step i s).end (operation_once i s)

pub cut_short : (end : VEnd) (index : ℕ) → end ≡ vector_end.Cut index → StopsShort end
cut_short end index e = record { undone = λ q. cc; legal = λ q. cc }

-- if a step is cut, its instruction is cut
pub cut_index : (ticks : ℕ) (end : VEnd) (word : ℕ) (s : HartState) → (after_vector ticks end word s).end ≡ step_end.Cut → (index : ℕ) × (end ≡ vector_end.Cut index)
cut_index ticks end word s e = search (arith, nat_tests)

-- ---- loads and stores

-- the index of a cut is vstart plus the number of ticks, and below the number of indices; vstart becomes this index
pub record IsCutAt (limit : ℕ) (i : Instr) (s after : HartState) (index : ℕ) : Type 0 where
  pub at : index ≡ s.vector.vstart + limit
  pub more : index < index_count (vector_access i s.vector s.scalar)
  pub left : after.vector.vstart ≡ index
  pub ticks : vector_ticks limit i s ≡ limit

-- a fact about the index where a vector instruction is cut
abbrev VectorCut : VEnd → (ℕ → Type 0) → Type 0
VectorCut (vector_end.Cut index) P = P index
VectorCut _ P = ⊤

abbrev Cuts : ℕ → Instr → HartState → VectorStepped → Type 0
Cuts limit i s d = VectorCut d.end (IsCutAt limit i s d.state)

once_uncut : (end : VEnd) (P : ℕ → Type 0) → AtOnce end → VectorCut end P
once_uncut end P h = search (arith, nat_tests)

access_end_cut : (d : Direction) (end : MemEnd) (P : ℕ → Type 0) → AtStop end P (λ index. ⊤) → VectorCut (access_end d end) P
access_end_cut d end P h = search (arith, nat_tests)

-- the facts about the run of an access in a state
abbrev pub RunFacts : ℕ → VectorAccess → HartState → Type 0
RunFacts limit a s = Facts limit s.vector.vstart a.body.end a.direction a.first_only s.vector s.memory (accessed limit a s)

pub accessed_facts : (limit : ℕ) (i : AccessInstr) (a : VectorAccess) (s : HartState) → access_of i s.vector s.scalar ≡ Some a → RunFacts limit a s
accessed_facts limit i a s e = search run_facts

access_cut : (limit : ℕ) (i : AccessInstr) (s : HartState) (o : Option VectorAccess) → access_of i s.vector s.scalar ≡ o
    → Cuts limit (instr.Access i) s (access_step limit i o s)
access_cut limit i s None e = tt
access_cut limit i s (Some a) e =
    let vstart : ℕ = s.vector.vstart in
    let after : HartState = (access_step limit i (Some a) s).state in
    access_end_cut a.direction (accessed limit a s).end (IsCutAt limit (instr.Access i) s after)
    (stop_means (accessed limit a s).end (CutAt limit vstart a.body.end s.vector (accessed limit a s)) (FaultAt limit vstart a.body.end s.vector (accessed limit a s))
    (IsCutAt limit (instr.Access i) s after) (λ index. ⊤) (accessed_facts limit i a s e).stop
    (λ index at. record {
      at = at.at;
      more = subst (λ (o : Option VectorAccess). index < index_count o) (sym e) at.stopped.below;
      left = at.stopped.vstart;
      ticks =
          ap (λ (o : Option VectorAccess). option_map_or (λ a. (accessed limit a s).reached - vstart) o 1) e
          ∙ omega (arith, at.reached, at.at);
    })
    (λ index at. tt))

performed_cut : (limit : ℕ) (i : Instr) (s : HartState) → Cuts limit i s (performed limit i s)
unfolding performed
performed_cut limit i s = search (arith, nat_tests, access_cut, once_uncut, operation_once)

executed_cut : (limit : ℕ) (i : Instr) (s : HartState) → Cuts limit i s (vector_executed limit i s)
unfolding vector_executed
executed_cut limit i s = of_either (Cuts limit i s) (is_legal i s.vector.conf.vtype s.vector.vstart) _ _ (performed_cut limit i s) tt

-- a vector instruction is cut after `limit` indices, and before its last one
pub cut_at : (limit : ℕ) (i : Instr) (s : HartState) (index : ℕ) → (vector_executed limit i s).end ≡ vector_end.Cut index
    → IsCutAt limit i s (vector_executed limit i s).state index
cut_at limit i s index e =
    subst (λ (end : VEnd). VectorCut end (IsCutAt limit i s (vector_executed limit i s).state)) e (executed_cut limit i s)

-- ---- no cut with enough ticks for the largest number of elements

whole_length_below : (count : RegisterCount) (w : Eew) → whole_length count w ≤ GROUP_BYTES
whole_length_below count w = search arith

whole_bytes_below : (count : RegisterCount) → register_count count * VLENB ≤ GROUP_BYTES
whole_bytes_below count = search arith

typed_below : (o : Option VType) (make : VType → VectorAccess) → ((t : VType) → (make t).body.end ≤ GROUP_BYTES) → index_count (option_map make o) ≤ GROUP_BYTES
typed_below o make each = search arith

-- no load or store has more indices than the largest group has bytes
index_count_below : (i : Instr) (v : VState) (x : Scalar) → v.conf.vl ≤ GROUP_BYTES → index_count (vector_access i v x) ≤ GROUP_BYTES
index_count_below i v x h = search (arith, typed_below, whole_bytes_below, whole_length_below)

-- `GROUP_BYTES` ticks are enough for any vector instruction
pub uncut : (limit : ℕ) (i : Instr) (s : HartState) (index : ℕ) → s.vector.conf.vl ≤ GROUP_BYTES → GROUP_BYTES ≤ limit
    → (vector_executed limit i s).end ≢ vector_end.Cut index
uncut limit i s index few enough e =
    omega (arith, (cut_at limit i s index e).at, (cut_at limit i s index e).more, index_count_below i s.vector s.scalar few)
