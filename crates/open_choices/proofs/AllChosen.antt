-- With all elements of its fill, the registers after a vector operation are those under the policy `ones`.
use Rattle.std.proofs.Common.{ℕ, ◌≡◌, ◌∙◌, length, Bool, true, false, Option, Some, None, if◌then◌else◌, refl, sym, ap, arith}
use Rattle.std.specs.Option.{option_and_then}
use Rattle.std.proofs.lemmas.Bool.Decides.{nat_tests}
use Rattle.rv_model.specs.declared.instructions.instruction.Instr.TheVariants as instr
use Rattle.rv_model.specs.declared.instructions.operations.VectorOp.{VectorOp}
use Rattle.rv_model.specs.declared.instructions.source.Source.{Source}
use Rattle.rv_model.specs.declared.instructions.vector.VectorInstr.{VectorInstr}
use Rattle.rv_model.specs.declared.instructions.vector.VectorInstr.TheVariants.{SetVli, SetIvli, SetVl}
use Rattle.rv_model.specs.declared.step.step_end.StepEnd.TheVariants.{Ran}
use Rattle.rv_model.specs.declared.step.vector_end.VEnd.{VEnd}
use Rattle.rv_model.specs.declared.step.vector_end.VEnd.TheVariants.{Done, Illegal}
use Rattle.rv_model.specs.declared.vector.policy.Policy.{Policy}
use Rattle.rv_model.specs.declared.vector.policy.Policy.TheVariants.{Keep, Ones}
use Rattle.rv_model.specs.declared.vector.sizes.TheConstants.{FILE_BYTES}
use Rattle.rv_model.specs.declared.vector.types.VType.{VType}
use Rattle.rv_model.specs.elements.Bodies.{operation_body}
use Rattle.rv_model.specs.elements.Elements.{Body}
use Rattle.rv_model.specs.legality.Legality.{is_legal}
use Rattle.rv_model.specs.step.Hart.{HartState, Stepped}
use Rattle.rv_model.specs.step.Step.{VectorStepped, after_vector, arith_over, fetched, operation_step, performed, step, typed, typed_over, typed_step, vector_ends, vector_executed, vector_ticks, word_at}
use Rattle.rv_model.specs.vector.Groups.{GroupType}
use Rattle.rv_model.proofs.Choices.{of_bool}
use Rattle.open_choices.specs.Fills.{AllChosen, Fill, fill_at, fill_of, if_ran, typed_fill}
use Rattle.open_choices.specs.OpenStep.{file_under, instr_at}
use Rattle.open_choices.proofs.ChosenSteps.{after_file, by, file_is, fits, found, operation_is, overlaid_by}
use Rattle.open_choices.proofs.Filled.{Filled, typed_filled, under}
use Rattle.open_choices.proofs.OpenSteps.{same_file}
use Rattle.open_choices.proofs.Overlays.{all_taken}

-- ---- an operation with a fill retires

arith_done : (t : VType) (g w : GroupType) (op : VectorOp) (source : Source) (vd vs2 : ℕ) (vm : Bool) (body : Body) (s : HartState)
    → (arith_over t g w op source vd vs2 vm body s).end ≡ Done
arith_done t g w op source vd vs2 vm body s = search (arith, nat_tests)

typed_done : (i : VectorInstr) (b : Body) (t : VType) (s : HartState) (f : Fill) → typed_fill i b t s.scalar ≡ Some f → (typed_over i b t s).end ≡ Done
typed_done i b t s f h = search (arith, nat_tests, arith_done)

done_ran : (ticks word : ℕ) (end : VEnd) (w : HartState) → end ≡ Done → (after_vector ticks end word w).end ≡ Ran
done_ran ticks word Done w h = refl
done_ran ticks word _ w h = search (arith, nat_tests)

module _ (i : VectorInstr) (s : HartState) (is : fetched s.memory s.scalar.pc ≡ Some (instr.Vector i)) where
  abbrev IsLegal : Bool → Type 0
  IsLegal b = is_legal (instr.Vector i) s.vector.conf.vtype s.vector.vstart ≡ b

  -- an illegal operation changes nothing
  illegal_file : (p : Policy) → IsLegal false → file_under p s ≡ s.vector.file
  unfolding vector_executed
  illegal_file p no_legal =
      ap (λ (one : Stepped). one.state.vector.file) (operation_is i (under p s) is)
      ∙ after_file (vector_ticks 256 (instr.Vector i) (under p s)) (vector_executed 256 (instr.Vector i) (under p s)).end (word_at s.memory s.scalar.pc)
      (vector_executed 256 (instr.Vector i) (under p s)).state
      ∙ ap (λ (b : Bool). (if b then performed 256 (instr.Vector i) (under p s) else vector_ends Illegal (under p s)).state.vector.file) no_legal

  executed_end : IsLegal true → (vector_executed 256 (instr.Vector i) s).end ≡ (operation_step i s).end
  unfolding vector_executed performed
  executed_end legal = ap (λ (b : Bool). (if b then performed 256 (instr.Vector i) s else vector_ends Illegal s).end) legal

  ran_of : IsLegal true → (operation_step i s).end ≡ Done → (step 256 s).end ≡ Ran
  ran_of legal done =
      ap (λ (one : Stepped). one.end) (operation_is i s is)
      ∙ done_ran (vector_ticks 256 (instr.Vector i) s) (word_at s.memory s.scalar.pc) (vector_executed 256 (instr.Vector i) s).end (vector_executed 256 (instr.Vector i) s).state
      (executed_end legal ∙ done)

  -- the same registers under both policies
  abbrev Same : VectorStepped → VectorStepped → Type 0
  Same a b = a.state.vector.file ≡ b.state.vector.file

  module _ (legal : IsLegal true) (none : fill_at s ≡ None) where
    none_left : (t : VType) (f : Fill) → s.vector.conf.vtype ≡ Some t → operation_step i s ≡ typed s.vector.conf.vtype (typed_step i) s
        → typed_fill i (operation_body i t s.vector) t s.scalar ≡ Some f → ⊥
    none_left t f some op h =
        let done : (operation_step i s).end ≡ Done =
        ap (λ (d : VectorStepped). d.end) op ∙ ap (λ c. (typed c (typed_step i) s).end) some ∙ typed_done i (operation_body i t s.vector) t s f h in
        let fill : fill_of (instr_at s) s ≡ Some f =
        ap (λ o. fill_of o s) is ∙ ap (λ c. option_and_then (λ t. typed_fill i (operation_body i t s.vector) t s.scalar) c) some ∙ h in
        let all : fill_at s ≡ Some f = ap (λ e. if_ran e (fill_of (instr_at s) s)) (ran_of legal done) ∙ fill in
        let never : None ≡ Some f = sym none ∙ all in search (arith, nat_tests)

    filled_none : (t : VType) → s.vector.conf.vtype ≡ Some t → operation_step i s ≡ typed s.vector.conf.vtype (typed_step i) s
        → (o : Option Fill) → typed_fill i (operation_body i t s.vector) t s.scalar ≡ o
        → Filled o s.vector.file (typed_over i (operation_body i t s.vector) t (under Keep s)).state.vector.file (typed_over i (operation_body i t s.vector) t (under Ones s)).state.vector.file
        → Same (typed_step i t (under Keep s)) (typed_step i t (under Ones s))
    filled_none t some op None h is_same = sym is_same
    filled_none t some op (Some f) h by_fill = absurd (none_left t f some op h)

    by_type : operation_step i s ≡ typed s.vector.conf.vtype (typed_step i) s → (c : Option VType) → s.vector.conf.vtype ≡ c
        → Same (typed c (typed_step i) (under Keep s)) (typed c (typed_step i) (under Ones s))
    by_type op None c = refl
    by_type op (Some t) some =
        filled_none t some op (typed_fill i (operation_body i t s.vector) t s.scalar) refl (typed_filled s i t (operation_body i t s.vector))

same_operation : (i : VectorInstr) (s : HartState) (is : fetched s.memory s.scalar.pc ≡ Some (instr.Vector i))
    → is_legal (instr.Vector i) s.vector.conf.vtype s.vector.vstart ≡ true → fill_at s ≡ None
    → (operation_step i (under Keep s)).state.vector.file ≡ (operation_step i (under Ones s)).state.vector.file
unfolding operation_step
same_operation (SetVli rd rs1 vtype) s is legal none = refl
same_operation (SetIvli rd avl vtype) s is legal none = refl
same_operation (SetVl rd rs1 rs2) s is legal none = refl
same_operation i s is legal none = by_type i s is legal none refl s.vector.conf.vtype refl

module _ (s : HartState) (keeps : s.policy ≡ Keep) (long : length s.vector.file ≡ FILE_BYTES) (i : VectorInstr) (is : instr_at s ≡ Some (instr.Vector i)) where
  unfilled_same : fill_at s ≡ None → (step 256 s).state.vector.file ≡ file_under Ones s
  unfilled_same none =
      same_file s keeps
      ∙ of_bool (is_legal (instr.Vector i) s.vector.conf.vtype s.vector.vstart) (λ b. file_under Keep s ≡ file_under Ones s)
      (λ legal. file_is i (under Keep s) is legal ∙ same_operation i s is legal none ∙ sym (file_is i (under Ones s) is legal))
      (λ not_legal. illegal_file i s is Keep not_legal ∙ sym (illegal_file i s is Ones not_legal))

  all_of : (taken : ℕ → Bool) → ((e : ℕ) → taken e ≡ true) → (o : Option Fill) → fill_at s ≡ o → overlaid_by s keeps long taken o ≡ file_under Ones s
  all_of taken every None none = unfilled_same none
  all_of taken every (Some f) e =
      let it = found s f e in
      all_taken f s.vector.file (step 256 s).state.vector.file (file_under Ones s) (by s keeps long f it) (fits s keeps long f it) taken every

pub all_chosen : AllChosen
all_chosen s i taken keeps long is every = all_of s keeps long i is taken every (fill_at s) refl
