-- The state with any overlay of a step's fill is one that the standard allows.
use Rattle.std.proofs.Common.{ℕ, ◌≡◌, ◌∙◌, ◌+◌, ◌*◌, ◌/◌, ◌≤◌, List, length, Bool, true, false, ◌&&◌, Option, Some, None, if◌then◌else◌, max, slice_index, refl, sym, ap, subst, arith, inl, inr}
use mir.Val.{bits}
use Rattle.std.specs.Option.{option_and_then, option_map_or, unwrap_or}
use Rattle.std.specs.Prelude.{[]}
use Rattle.std.proofs.lemmas.Bool.Decides.{nat_tests}
use Rattle.rv_model.specs.declared.instructions.instruction.Instr.{Instr}
use Rattle.rv_model.specs.declared.instructions.instruction.Instr.TheVariants as instr
use Rattle.rv_model.specs.declared.instructions.vector.VectorInstr.{VectorInstr}
use Rattle.rv_model.specs.declared.instructions.vector.VectorInstr.TheVariants.{SetVli, SetIvli, SetVl}
use Rattle.rv_model.specs.declared.step.step_end.StepEnd.{StepEnd}
use Rattle.rv_model.specs.declared.step.step_end.StepEnd.TheVariants.{Ran}
use Rattle.rv_model.specs.declared.step.vector_end.VEnd.{VEnd}
use Rattle.rv_model.specs.declared.step.vector_end.VEnd.TheVariants.{Illegal}
use Rattle.rv_model.specs.declared.vector.policy.Policy.{Policy}
use Rattle.rv_model.specs.declared.vector.policy.Policy.TheVariants.{Keep, Ones}
use Rattle.rv_model.specs.declared.vector.sizes.TheConstants.{FILE_BYTES, VECTOR_REGISTERS, VLENB}
use Rattle.rv_model.specs.declared.vector.types.VType.{VType}
use Rattle.rv_model.specs.elements.Bodies.{operation_body}
use Rattle.rv_model.specs.elements.Elements.{Body}
use Rattle.rv_model.specs.legality.Legality.{is_legal, operands}
use Rattle.rv_model.specs.legality.RegisterOperands.{eew}
use Rattle.rv_model.specs.step.Changes.{written_of}
use Rattle.rv_model.specs.step.Hart.{HartState, Stepped}
use Rattle.rv_model.specs.step.Step.{VectorStepped, after_vector, executed, fetched, operation_step, performed, step, typed, typed_over, typed_step, vector_ends, vector_executed, vector_step, vector_ticks, word_at}
use Rattle.rv_model.specs.vector.Groups.{registers, width_bytes}
use Rattle.rv_model.proofs.Choices.{of_bool}
use Rattle.open_choices.specs.Fills.{ChosenIsOpen, Fill, NoneChosen, fill_at, fill_of, if_ran, is_filled, overlaid, typed_fill, with_ones}
use Rattle.open_choices.specs.OpenStep.{IsAgnostic, IsElementOf, IsOpenStep, file_under, grain, instr_at, with_choices}
use Rattle.open_choices.proofs.Destinations.{Destined, IsDestination, destined, grain_is, group_inside, group_most, group_width}
use Rattle.open_choices.proofs.Filled.{Filled, typed_filled, under}
use Rattle.open_choices.proofs.OpenSteps.{same_file, same_number, step_is_open}
use Rattle.open_choices.proofs.Overlays.{FillsBy, either_of, new_long, none_taken}

-- ---- the step of a fetched operation

fetched_step : (limit : ℕ) (i : Instr) (s : HartState) → fetched s.memory s.scalar.pc ≡ Some i → step limit s ≡ executed limit (Some i) (word_at s.memory s.scalar.pc) s
unfolding step
fetched_step limit i s = search (arith, nat_tests, of_bool)

pub after_file : (ticks : ℕ) (end : VEnd) (word : ℕ) (w : HartState) → (after_vector ticks end word w).state.vector.file ≡ w.vector.file
after_file ticks end word w = search (arith, nat_tests)

-- an illegal instruction doesn't retire
faulted : (ticks word : ℕ) (s : HartState) → (after_vector ticks Illegal word s).end ≡ Ran → ⊥
faulted ticks word s h = search (arith, nat_tests)

module _ (i : VectorInstr) where
  pub operation_is : (s : HartState) → fetched s.memory s.scalar.pc ≡ Some (instr.Vector i)
      → step 256 s ≡ vector_step 256 (instr.Vector i) (word_at s.memory s.scalar.pc) s
  unfolding executed
  operation_is s is = fetched_step 256 (instr.Vector i) s is

  legal_by : (ticks word : ℕ) (s : HartState) (b : Bool) (d : VectorStepped)
      → (after_vector ticks (if b then d else vector_ends Illegal s).end word (if b then d else vector_ends Illegal s).state).end ≡ Ran → b ≡ true
  legal_by ticks word s true d h = refl
  legal_by ticks word s false d h = absurd (faulted ticks word s h)

  legal_of : (s : HartState) → fetched s.memory s.scalar.pc ≡ Some (instr.Vector i) → (step 256 s).end ≡ Ran
      → is_legal (instr.Vector i) s.vector.conf.vtype s.vector.vstart ≡ true
  unfolding vector_executed
  legal_of s is ran =
      legal_by (vector_ticks 256 (instr.Vector i) s) (word_at s.memory s.scalar.pc) s (is_legal (instr.Vector i) s.vector.conf.vtype s.vector.vstart) (performed 256 (instr.Vector i) s)
      (ap (λ (one : Stepped). one.end) (sym (operation_is s is)) ∙ ran)

  pub executed_file : (s : HartState) → is_legal (instr.Vector i) s.vector.conf.vtype s.vector.vstart ≡ true
      → (vector_executed 256 (instr.Vector i) s).state.vector.file ≡ (operation_step i s).state.vector.file
  unfolding vector_executed performed
  executed_file s legal = ap (λ (b : Bool). (if b then performed 256 (instr.Vector i) s else vector_ends Illegal s).state.vector.file) legal

  pub file_is : (s : HartState) → fetched s.memory s.scalar.pc ≡ Some (instr.Vector i) → is_legal (instr.Vector i) s.vector.conf.vtype s.vector.vstart ≡ true
      → (step 256 s).state.vector.file ≡ (operation_step i s).state.vector.file
  file_is s is legal =
      ap (λ (one : Stepped). one.state.vector.file) (operation_is s is)
      ∙ after_file (vector_ticks 256 (instr.Vector i) s) (vector_executed 256 (instr.Vector i) s).end (word_at s.memory s.scalar.pc) (vector_executed 256 (instr.Vector i) s).state
      ∙ executed_file s legal

-- an operation with a fill isn't a vset instruction
typed_is : (i : VectorInstr) (b : Body) (t : VType) (f : Fill) (s : HartState) → typed_fill i b t s.scalar ≡ Some f → operation_step i s ≡ typed s.vector.conf.vtype (typed_step i) s
unfolding operation_step
typed_is (SetVli rd rs1 vtype) b t f s h = search (arith, nat_tests)
typed_is (SetIvli rd avl vtype) b t f s h = search (arith, nat_tests)
typed_is (SetVl rd rs1 rs2) b t f s h = search (arith, nat_tests)
typed_is _ b t f s h = refl

-- ---- a state whose step has a fill

pub record Found (s : HartState) (f : Fill) : Type 0 where
  pub operation : VectorInstr
  pub type : VType
  pub fetched_is : instr_at s ≡ Some (instr.Vector operation)
  pub ran : (step 256 s).end ≡ Ran
  pub type_is : s.vector.conf.vtype ≡ Some type
  pub fill_is : typed_fill operation (operation_body operation type s.vector) type s.scalar ≡ Some f

ran_of : (e : StepEnd) (o : Option Fill) (f : Fill) → if_ran e o ≡ Some f → (e ≡ Ran) × (o ≡ Some f)
ran_of Ran o f h = (refl, h)
ran_of _ o f h = search (arith, nat_tests)

module _ (s : HartState) (f : Fill) (ran : (step 256 s).end ≡ Ran) where
  by_type : (i : VectorInstr) → instr_at s ≡ Some (instr.Vector i) → (c : Option VType) → s.vector.conf.vtype ≡ c
      → option_and_then (λ t. typed_fill i (operation_body i t s.vector) t s.scalar) c ≡ Some f → Found s f
  by_type i is None none h = search (arith, nat_tests)
  by_type i is (Some t) some h = record { operation = i; type = t; fetched_is = is; ran = ran; type_is = some; fill_is = h }

  by_instr : (o : Option Instr) → instr_at s ≡ o → fill_of o s ≡ Some f → Found s f
  by_instr (Some (instr.Vector i)) is h = by_type i is s.vector.conf.vtype refl h
  by_instr _ is h = search (arith, nat_tests)

pub found : (s : HartState) (f : Fill) → fill_at s ≡ Some f → Found s f
found s f h =
    let both = ran_of (step 256 s).end (fill_of (instr_at s) s) f h in
    by_instr s f both.0 (instr_at s) refl both.1

-- its group is the destination of a legal instruction
module _ (s : HartState) (f : Fill) (it : Found s f) where
  abbrev i : VectorInstr
  i = it.operation

  abbrev pub b : Body
  b = operation_body it.operation it.type s.vector

  legal : is_legal (instr.Vector it.operation) s.vector.conf.vtype s.vector.vstart ≡ true
  legal = legal_of it.operation s it.fetched_is it.ran

  -- the registers under a policy
  under_is : (p : Policy) → file_under p s ≡ (typed_over i b it.type (under p s)).state.vector.file
  under_is p =
      file_is i (under p s) it.fetched_is legal ∙ ap (λ (d : VectorStepped). d.state.vector.file) (typed_is i b it.type f (under p s) it.fill_is)
      ∙ ap (λ c. (typed c (typed_step i) (under p s)).state.vector.file) it.type_is

  destination : IsDestination f (operands (instr.Vector i) (Some it.type))
  destination = subst (λ o. Destined o (operands (instr.Vector i) (Some it.type))) it.fill_is (destined i b it.type s.scalar)

  typed_legal : is_legal (instr.Vector i) (Some it.type) s.vector.vstart ≡ true
  typed_legal = ap (λ c. is_legal (instr.Vector i) c s.vector.vstart) (sym it.type_is) ∙ legal

  pub inside : f.first + registers f.group.emul ≤ VECTOR_REGISTERS
  inside = group_inside f i it.type s.vector.vstart typed_legal destination

  pub most : f.group.emul ≤ 64
  most = group_most f i it.type s.vector.vstart typed_legal destination

  pub narrow : bits f.group.width ≤ 64
  narrow = group_width f i it.type s.vector.vstart typed_legal destination

  grain_of : grain s ≡ width_bytes f.group.width
  grain_of =
      ap (λ o. max 1 (option_map_or (λ o. eew o.content / 8) (written_of (option_map_or (λ i. unwrap_or (operands i s.vector.conf.vtype) []) o [])) 1)) it.fetched_is
      ∙ ap (λ c. max 1 (option_map_or (λ o. eew o.content / 8) (written_of (unwrap_or (operands (instr.Vector i) c) [])) 1)) it.type_is
      ∙ grain_is f i it.type s.vector.vstart typed_legal destination

module _ (s : HartState) (keeps : s.policy ≡ Keep) (long : length s.vector.file ≡ FILE_BYTES) where
  abbrev now : List ℕ
  now = (step 256 s).state.vector.file

  module _ (f : Fill) (it : Found s f) where
    pub by : FillsBy f s.vector.file now (file_under Ones s)
    by =
        rw (same_file s keeps, under_is s f it Keep, under_is s f it Ones)
        (subst (λ o. Filled o s.vector.file (typed_over it.operation (b s f it) it.type (under Keep s)).state.vector.file (typed_over it.operation (b s f it) it.type (under Ones s)).state.vector.file) it.fill_is
        (typed_filled s it.operation it.type (b s f it)))

    pub fits : VLENB * f.first + VLENB * registers f.group.emul ≤ length s.vector.file
    fits = omega (arith, long, inside s f it)

    module _ (taken : ℕ → Bool) where
      abbrev new : List ℕ
      new = with_ones f (λ e. is_filled f e && taken e) now

      agnostic : (e : ℕ) → IsAgnostic s new e
      agnostic e =
          elim (either_of f s.vector.file now (file_under Ones s) by fits taken e) [
            | inl kept ↦ inl (subst (λ k. IsElementOf k (file_under Keep s) new e) (sym (grain_of s f it)) (subst (λ file. IsElementOf (width_bytes f.group.width) file new e) (same_file s keeps) kept))
            | inr filled ↦ inr (subst (λ k. IsElementOf k (file_under Ones s) new e) (sym (grain_of s f it)) filled)
          ]

      open_by : IsOpenStep s (with_choices s new (step 256 s).state.vector.conf.vl)
      open_by =
          record {
            file = new;
            left = (step 256 s).state.vector.conf.vl;
            is = refl;
            size = new_long f s.vector.file now (file_under Ones s) by fits taken;
            elements = λ e. inl (agnostic e);
            length_is = inl refl;
          }

  unfilled : with_choices s now (step 256 s).state.vector.conf.vl ≡ (step 256 s).state
  unfilled = rw (same_number (step 256 s).state.vector.conf.vl) refl

  abbrev pub overlaid_by : (ℕ → Bool) → Option Fill → List ℕ
  overlaid_by taken o = option_map_or (λ f. with_ones f (λ i. is_filled f i && taken i) now) o now

  open_of : (taken : ℕ → Bool) (o : Option Fill) → fill_at s ≡ o → IsOpenStep s (with_choices s (overlaid_by taken o) (step 256 s).state.vector.conf.vl)
  open_of taken None e = subst (IsOpenStep s) (sym unfilled) (step_is_open s keeps)
  open_of taken (Some f) e = open_by f (found s f e) taken

  agnostic_of : (taken : ℕ → Bool) (o : Option Fill) → fill_at s ≡ o → (e : ℕ) → IsAgnostic s (overlaid_by taken o) e
  agnostic_of taken None is e = inl (λ m l r. ap (λ file. slice_index file (grain s * e + m)) (same_file s keeps))
  agnostic_of taken (Some f) is e = agnostic f (found s f is) taken e

  long_of : (taken : ℕ → Bool) (o : Option Fill) → fill_at s ≡ o → length (overlaid_by taken o) ≡ length now
  long_of taken None is = refl
  long_of taken (Some f) is = let it = found s f is in new_long f s.vector.file now (file_under Ones s) (by f it) (fits f it) taken

  -- each element of the registers with an overlay is kept or all ones
  pub overlay_is_agnostic : (taken : ℕ → Bool) (e : ℕ) → IsAgnostic s (overlaid s taken) e
  overlay_is_agnostic taken e = agnostic_of taken (fill_at s) refl e

  pub overlay_long : (taken : ℕ → Bool) → length (overlaid s taken) ≡ length now
  overlay_long taken = long_of taken (fill_at s) refl

  none_of : (taken : ℕ → Bool) → ((i : ℕ) → taken i ≡ false) → (o : Option Fill) → fill_at s ≡ o → overlaid_by taken o ≡ now
  none_of taken none None e = refl
  none_of taken none (Some f) e =
      let it = found s f e in none_taken f s.vector.file now (file_under Ones s) (by f it) (fits f it) taken none

pub chosen_is_open : ChosenIsOpen
chosen_is_open s taken keeps long = open_of s keeps long taken (fill_at s) refl

pub none_chosen : NoneChosen
none_chosen s taken keeps long none =
    ap (λ file. with_choices s file (step 256 s).state.vector.conf.vl) (none_of s keeps long taken none (fill_at s) refl) ∙ unfilled s keeps long
