-- The execution of a word, which computes.
use Rattle.std.specs.Prelude.{ℕ, ◌≡◌, true}
use Rattle.std.proofs.Common.{refl, ap, ◌∙◌}
use Rattle.rv_model.specs.declared.memory.Access.TheVariants.{Fetch}
use Rattle.rv_model.specs.elements.Arithmetic.{with_first_result, with_mask_results, with_results}
use Rattle.rv_model.specs.elements.Elements.{written, written_bits}
use Rattle.rv_model.specs.elements.PermutationResults.{with_packed}
use Rattle.rv_model.specs.instructions.Table.{scan, table}
use Rattle.rv_model.specs.legality.Legality.{is_legal, operands}
use Rattle.rv_model.specs.legality.OperandShapes.{shape_operands}
use Rattle.rv_model.specs.legality.RegisterOperands.{are_legal}
use Rattle.rv_model.specs.memory.Memory.{Memory, can_access}
use Rattle.rv_model.specs.step.Step.{HartState, executed, operation_step, performed, step, vector_executed, word_at}
use Rattle.rv_model.specs.vector.Groups.{register_of}
use Rattle.rv_model.specs.vector.TypeRules.{requested}
use Rattle.test_definitions.specs.States.{Agrees, Case, End, Fetches, code_address, hart, result_of, ticks}

-- the result of a case's word in its state before, with a memory; it computes where this is unfolded
unfoldable pub execution : Memory → Case → End × HartState
unfolding executed scan table is_legal operands shape_operands are_legal performed operation_step vector_executed requested with_results with_first_result with_mask_results with_packed written written_bits register_of
execution m c = result_of (executed ticks (scan table c.word) c.word (hart m c.before))

step_is_execution : (limit w : ℕ) (s : HartState) → can_access Fetch s.memory s.scalar.pc 4 ≡ true → word_at s.memory s.scalar.pc ≡ w
    → step limit s ≡ executed limit (scan table w) w s
unfolding step
step_is_execution limit w s allowed word = rw (allowed, word) refl

-- A step of a case is the execution of its word.
pub stepped : (c : Case) → c.before.pc ≡ code_address → (m : Memory) → Fetches m c.word
    → step ticks (hart m c.before) ≡ executed ticks (scan table c.word) c.word (hart m c.before)
stepped c at m f = step_is_execution ticks c.word (hart m c.before) (rw at f.allowed) (rw at f.word)

-- A case agrees if its execution with any memory has the case's result.
pub agrees : (c : Case) → c.before.pc ≡ code_address → ((m : Memory) → execution m c ≡ (c.end, hart m c.after)) → Agrees c
unfolding execution
agrees c at is m f = ap result_of (stepped c at m f) ∙ is m
