-- Steps of vector instructions by their legality.
use Rattle.std.proofs.Common.{◌≡◌, ◌∙◌, ℕ, Bool, true, false, Option, Some, None, ap, refl, sym}
use Rattle.std.specs.Prelude.{if◌then◌else◌, is_some}
use Rattle.std.proofs.lemmas.Bool.{false≢true}
use Rattle.rv_model.specs.accesses.VectorAccess.{access_of}
use Rattle.rv_model.specs.declared.instructions.access.AccessInstr.{AccessInstr}
use Rattle.rv_model.specs.declared.instructions.instruction.Instr.{Instr}
use Rattle.rv_model.specs.declared.instructions.instruction.Instr.TheVariants as instr
use Rattle.rv_model.specs.declared.instructions.operations.MaskUnaryOp.TheVariants.{Scan, Viota}
use Rattle.rv_model.specs.declared.instructions.operations.VectorOp.{VectorOp}
use Rattle.rv_model.specs.declared.instructions.operations.VectorOp.TheVariants.{Binary}
use Rattle.rv_model.specs.declared.instructions.source.Source.{Source}
use Rattle.rv_model.specs.declared.instructions.vector.VectorInstr.{VectorInstr}
use Rattle.rv_model.specs.declared.instructions.vector.VectorInstr.TheVariants.{SetVli, SetIvli, SetVl, Arith, MaskUnary}
use Rattle.rv_model.specs.declared.memory.Access.TheVariants.{Fetch}
use Rattle.rv_model.specs.declared.step.step_end.Cause.TheVariants.{IllegalInstruction}
use Rattle.rv_model.specs.declared.step.step_end.StepEnd.{StepEnd}
use Rattle.rv_model.specs.declared.step.step_end.StepEnd.TheVariants.{Fault}
use Rattle.rv_model.specs.declared.step.vector_end.VEnd.{VEnd}
use Rattle.rv_model.specs.declared.step.vector_end.VEnd.TheVariants as vector_end
use Rattle.rv_model.specs.declared.vector.types.VType.{VType}
use Rattle.rv_model.specs.elements.Elements.{Body}
use Rattle.rv_model.specs.instructions.Table.{scan, table}
use Rattle.rv_model.specs.legality.Legality.{is_legal}
use Rattle.rv_model.specs.memory.Memory.{can_access}
use Rattle.rv_model.specs.step.Hart.{HartState}
use Rattle.rv_model.specs.step.Step.{after_vector, arith_over, executed, fetched, is_legal_end, is_vector, operation_step, performed, step, vector_ends, vector_executed, vector_step, vector_ticks, word_at}
use Rattle.rv_model.specs.vector.Groups.{GroupType, group_type, wide_type}
use Rattle.rv_model.proofs.step_lemmas.LegalEnds.{legal_instructions_execute}
use Rattle.test_definitions.specs.StepLaws.{AccessesExist, IllegalStepsFault, LegalStepsExecute, OperationsHaveEquations, OperationsHaveTypes, OthersHaveEquations, is_legal_in, sets_length}

-- ---- the step of a fetched instruction

fetched_parts : (b : Bool) (o : Option Instr) (i : Instr) → (if b then o else None) ≡ Some i → (b ≡ true) × (o ≡ Some i)
fetched_parts true o i e = (refl, e)
fetched_parts false o i e = absurd (false≢true (ap is_some e))

step_of_fetched : (limit : ℕ) (i : Instr) (s : HartState) → fetched s.memory s.scalar.pc ≡ Some i
    → step limit s ≡ executed limit (Some i) (word_at s.memory s.scalar.pc) s
unfolding step
step_of_fetched limit i s e =
    let parts = fetched_parts (can_access Fetch s.memory s.scalar.pc 4) (scan table (word_at s.memory s.scalar.pc)) i e in
    rw (parts.0, parts.1) refl

executed_vector : (limit : ℕ) (i : Instr) (word : ℕ) (s : HartState) → is_vector i ≡ true
    → executed limit (Some i) word s ≡ vector_step limit i word s
unfolding executed
executed_vector limit (instr.Scalar i) word s vector = absurd (false≢true vector)
executed_vector limit (instr.Csr i) word s vector = absurd (false≢true vector)
executed_vector limit (instr.Vector i) word s vector = refl
executed_vector limit (instr.Access i) word s vector = refl

-- ---- legal instructions

abbrev is_illegal_fault : StepEnd → Bool
is_illegal_fault (Fault IllegalInstruction pc value) = true
is_illegal_fault _ = false

no_fault : (ticks word : ℕ) (e : VEnd) (s : HartState) → is_legal_end e ≡ true → is_illegal_fault (after_vector ticks e word s).end ≡ false
no_fault ticks word vector_end.Done s legal = refl
no_fault ticks word vector_end.Illegal s legal = absurd (false≢true legal)
no_fault ticks word (vector_end.Fault true addr) s legal = refl
no_fault ticks word (vector_end.Fault false addr) s legal = refl
no_fault ticks word (vector_end.Cut index) s legal = refl

pub legal_steps_execute : LegalStepsExecute
legal_steps_execute limit i s pc value here vector legal e =
    let word = word_at s.memory s.scalar.pc in
    let done = vector_executed limit i s in
    let is : step limit s ≡ vector_step limit i word s = step_of_fetched limit i s here ∙ executed_vector limit i word s vector in
    false≢true (
    sym (no_fault (vector_ticks limit i s) word done.end done.state (legal_instructions_execute limit i s vector legal))
    ∙ ap (λ x. is_illegal_fault x.end) (sym is) ∙ ap is_illegal_fault e
    )

-- ---- other instructions

illegal_executed : (limit : ℕ) (i : Instr) (s : HartState) → is_legal i s.vector.conf.vtype s.vector.vstart ≡ false
    → vector_executed limit i s ≡ vector_ends vector_end.Illegal s
unfolding vector_executed
illegal_executed limit i s illegal = rw illegal refl

pub illegal_steps_fault : IllegalStepsFault
illegal_steps_fault limit i s here vector illegal =
    let word = word_at s.memory s.scalar.pc in
    step_of_fetched limit i s here ∙ executed_vector limit i word s vector
    ∙ ap (λ done. after_vector (vector_ticks limit i s) done.end word done.state) (illegal_executed limit i s illegal)

-- ---- the equations of operations

arith_is_done : (t : VType) (g w : GroupType) (op : VectorOp) (source : Source) (vd vs2 : ℕ) (vm : Bool) (body : Body) (s : HartState)
    → (arith_over t g w op source vd vs2 vm body s).end ≡ vector_end.Done
arith_is_done t g w (Binary op) source vd vs2 vm body s = refl
arith_is_done t g w _ source vd vs2 vm body s = refl

pub operations_have_equations : OperationsHaveEquations
operations_have_equations (SetVli rd rs1 vtype) body t s e = absurd (false≢true (sym e))
operations_have_equations (SetIvli rd avl vtype) body t s e = absurd (false≢true (sym e))
operations_have_equations (SetVl rd rs1 rs2) body t s e = absurd (false≢true (sym e))
operations_have_equations (Arith arith vd vs2 vm) body t s e = arith_is_done t (group_type t) (wide_type t) arith.0 arith.1 vd vs2 vm body s
operations_have_equations (MaskUnary (Scan op) vd vs2 vm) body t s e = refl
operations_have_equations (MaskUnary Viota vd vs2 vm) body t s e = refl
operations_have_equations _ body t s e = refl

-- ---- types, accesses, and other kinds of instructions

not_illegal : (limit : ℕ) (i : Instr) (s : HartState) → is_vector i ≡ true → is_legal_in i s ≡ true
    → vector_executed limit i s ≡ vector_ends vector_end.Illegal s → ⊥
not_illegal limit i s vector legal e =
    false≢true (ap (λ x. is_legal_end x.end) (sym e) ∙ legal_instructions_execute limit i s vector legal)

untyped : (limit : ℕ) (i : VectorInstr) (s : HartState) → sets_length i ≡ false → is_legal_in (instr.Vector i) s ≡ true
    → s.vector.conf.vtype ≡ None → vector_executed limit (instr.Vector i) s ≡ vector_ends vector_end.Illegal s
unfolding vector_executed performed operation_step
untyped limit (SetVli rd rs1 vtype) s e legal none = absurd (false≢true (sym e))
untyped limit (SetIvli rd avl vtype) s e legal none = absurd (false≢true (sym e))
untyped limit (SetVl rd rs1 rs2) s e legal none = absurd (false≢true (sym e))
untyped limit i s e legal none = rw (legal, none) refl

pub operations_have_types : OperationsHaveTypes
operations_have_types i s e legal none = not_illegal 0 (instr.Vector i) s refl legal (untyped 0 i s e legal none)

without_access : (limit : ℕ) (i : AccessInstr) (s : HartState) → is_legal_in (instr.Access i) s ≡ true
    → access_of i s.vector s.scalar ≡ None → vector_executed limit (instr.Access i) s ≡ vector_ends vector_end.Illegal s
unfolding vector_executed performed
without_access limit i s legal none = rw (legal, none) refl

pub accesses_exist : AccessesExist
accesses_exist i s legal none = not_illegal 0 (instr.Access i) s refl legal (without_access 0 i s legal none)

pub others_have_equations : OthersHaveEquations
unfolding executed
others_have_equations limit word s = (λ i. refl, λ i. refl)
