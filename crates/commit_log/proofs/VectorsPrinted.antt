-- A line gives the vector registers: an instruction changes only those of its destination.
use Rattle.std.proofs.Common.{◌≡◌, ◌∙◌, inl, inr, ap, refl, sym, subst, ℕ, ◌*◌, ◌++◌, ◌∷◌, [], Bool, true, cond, List, flat_map, length, Some, None}
use Rattle.std.specs.List.{filter}
use Rattle.std.specs.Option.{unwrap_or}
use Rattle.std.proofs.lemmas.List.{map-append}
use Rattle.rv_model.specs.declared.instructions.instruction.Instr.{Instr}
use Rattle.rv_model.specs.declared.instructions.instruction.Instr.TheVariants as instr
use Rattle.rv_model.specs.declared.instructions.vector.VectorInstr.{VectorInstr}
use Rattle.rv_model.specs.declared.legality.Operand.{Operand}
use Rattle.rv_model.specs.declared.memory.Access.TheVariants.{Fetch}
use Rattle.rv_model.specs.declared.step.step_end.Cause.TheVariants.{FetchAccess}
use Rattle.rv_model.specs.declared.step.vector_end.VEnd.{VEnd}
use Rattle.rv_model.specs.declared.step.vector_end.VEnd.TheVariants as vector_end
use Rattle.rv_model.specs.declared.vector.control_register.ControlRegister.{ControlRegister}
use Rattle.rv_model.specs.declared.vector.control_register.ControlRegister.TheVariants.{Vstart}
use Rattle.rv_model.specs.declared.vector.state.VState.{VState}
use Rattle.rv_model.specs.instructions.Table.{scan, table}
use Rattle.rv_model.specs.legality.Legality.{is_legal, operands}
use Rattle.rv_model.specs.memory.Memory.{can_access}
use Rattle.rv_model.specs.step.Changes.{DiffersAtMost, changes_in, is_destination, written_of}
use Rattle.rv_model.specs.step.Hart.{HartState, Stepped, faults}
use Rattle.rv_model.specs.step.Step.{VectorStepped, after_vector, executed, performed, step, vector_executed, vector_step, vector_ticks}
use Rattle.rv_model.specs.vector.Control.{with_control}
use Rattle.rv_model.specs.vector.Groups.{register_of, registers, with_register_bytes}
use Rattle.rv_model.proofs.Choices.{of_bool, of_test}
use Rattle.rv_model.proofs.step_lemmas.KeptSteps.{steps_keep_others}
use Rattle.rv_model.proofs.step_lemmas.StepCases.{by_case}
use Rattle.recording.specs.Runs.{word_of}
use Rattle.commit_log.specs.Lines.{printed_vectors}
use Rattle.commit_log.specs.Targets.{registers_of, vector_targets}
use Rattle.commit_log.specs.Printed.{VectorsArePrinted, with_vectors}
use Rattle.commit_log.proofs.LoadsPrinted.{access_printed}
use Rattle.commit_log.proofs.VectorRegions.{region_printed, same, unchanged}

-- ---- an operation: it changes no byte outside its destination

printed_then : (xs ys : List (ℕ × List ℕ)) (file : List ℕ) → with_vectors (xs ++ ys) file ≡ with_vectors ys (with_vectors xs file)
printed_then [] ys file = refl
printed_then (x ∷ xs) ys file = printed_then xs ys (with_register_bytes x.0 x.1 file)

-- the registers of those operands that are destinations
abbrev printed_of : List Operand → List ℕ
printed_of os = flat_map registers_of (filter (λ o. is_destination o.role) os)

-- if only the registers of the first destination changed
first_printed : (os : List Operand) (selected : ℕ → Bool) (old new : List ℕ) → length old ≡ 1024 → DiffersAtMost (written_of os) selected old new
    → with_vectors (printed_vectors new (printed_of os)) old ≡ new
first_printed [] selected old new long = λ is. sym is
first_printed (o ∷ os) selected old new long =
    of_bool (is_destination o.role)
    (λ b. DiffersAtMost (cond b (Some o) (written_of os)) selected old new
    → with_vectors (printed_vectors new (flat_map registers_of (cond b (o ∷ filter (λ p. is_destination p.role) os) (filter (λ p. is_destination p.role) os)))) old ≡ new)
    (λ e is.
    ap (λ (xs : List (ℕ × List ℕ)). with_vectors xs old) (map-append (λ r. (r, register_of new r)) (registers_of o) (printed_of os))
    ∙ printed_then (printed_vectors new (registers_of o)) (printed_vectors new (printed_of os)) old
    ∙ ap (with_vectors (printed_vectors new (printed_of os))) (region_printed old new o.first (o.fields * registers o.emul) long is.size is.outside)
    ∙ same new (printed_of os))
    (λ e. first_printed os selected old new long)

-- writing a control register doesn't change the vector registers
control_file : (r : ControlRegister) (n : ℕ) (v : VState) → (with_control r n v).file ≡ v.file
control_file Vstart n v = refl
control_file _ n v = refl

operation_printed : (i : VectorInstr) (s : HartState) → length s.vector.file ≡ 1024 → scan table (word_of s) ≡ Some (instr.Vector i)
    → with_vectors (printed_vectors (step 256 s).state.vector.file (vector_targets (instr.Vector i) s.vector.conf.vtype)) s.vector.file ≡ (step 256 s).state.vector.file
unfolding step
operation_printed i s long is =
    of_bool (can_access Fetch s.memory s.scalar.pc 4)
    (λ b. can_access Fetch s.memory s.scalar.pc 4 ≡ b → with_vectors (printed_vectors (step 256 s).state.vector.file (vector_targets (instr.Vector i) s.vector.conf.vtype)) s.vector.file ≡ (step 256 s).state.vector.file)
    (λ e h. first_printed (unwrap_or (operands (instr.Vector i) s.vector.conf.vtype) []) (changes_in s i) s.vector.file (step 256 s).state.vector.file long
    (steps_keep_others 256 i s long (ap (λ (b : Bool). cond b (scan table (word_of s)) None) h ∙ is)))
    (λ e h. unchanged s.vector.file (step 256 s).state.vector.file (vector_targets (instr.Vector i) s.vector.conf.vtype)
    (ap (λ (b : Bool). (cond b (executed 256 (scan table (word_of s)) (word_of s) s) (faults FetchAccess s.scalar.pc s)).state.vector.file) h))
    refl

-- ---- any other instruction

module _ (s : HartState) (i : Instr) where
  abbrev Printed : List ℕ → Type 0
  Printed file = with_vectors (printed_vectors file (vector_targets i s.vector.conf.vtype)) s.vector.file ≡ file

  after_printed : (ticks : ℕ) (end : VEnd) (word : ℕ) (w : HartState) → Printed w.vector.file → Printed (after_vector ticks end word w).state.vector.file
  after_printed ticks vector_end.Done word w is = is
  after_printed ticks _ word w is = is

  executed_printed : (limit : ℕ) → (is_legal i s.vector.conf.vtype s.vector.vstart ≡ true → Printed (performed limit i s).state.vector.file)
      → Printed (vector_executed limit i s).state.vector.file
  unfolding vector_executed
  executed_printed limit done =
      of_test (λ (d : VectorStepped). Printed d.state.vector.file) (is_legal i s.vector.conf.vtype s.vector.vstart) _ _
      done (λ e. same s.vector.file (vector_targets i s.vector.conf.vtype))

  -- from the registers after a vector instruction, if it is legal
  step_printed : scan table (word_of s) ≡ Some i → (is_legal i s.vector.conf.vtype s.vector.vstart ≡ true → Printed (performed 256 i s).state.vector.file)
      → Printed (step 256 s).state.vector.file
  step_printed is done = elim (by_case s (λ r. r.state.vector.file ≡ s.vector.file) (record {
    fault = λ cause value. refl;
    runs = λ scalar first. refl;
    stores = λ addr bytes. refl;
    controls = λ register n value. control_file register n s.vector;
    puts = λ addr asked. refl;
    exits = λ status. refl;
    breaks = refl;
    full = refl;
  })) [
    | inl t ↦
        unchanged s.vector.file (step 256 s).state.vector.file (vector_targets i s.vector.conf.vtype)
        (subst (λ (r : Stepped). r.state.vector.file ≡ s.vector.file) (sym (t.same 256)) t.holds)
    | inr v ↦
        let same_one : v.vector.instr ≡ i = cc (v.vector.is, is) in
        let d : VectorStepped = vector_executed 256 i s in
        subst (λ (r : Stepped). Printed r.state.vector.file) (sym (v.same 256 ∙ ap (λ (j : Instr). vector_step 256 j (word_of s) s) same_one))
        (after_printed (vector_ticks 256 i s) d.end (word_of s) d.state (executed_printed 256 done))
  ]

pub vectors_are_printed : VectorsArePrinted
unfolding performed
vectors_are_printed s (instr.Vector i) is configured long = operation_printed i s long is
vectors_are_printed s (instr.Access i) is configured long = step_printed s (instr.Access i) is (λ e. access_printed s configured 256 i long e)
vectors_are_printed s (instr.Scalar i) is configured long = step_printed s (instr.Scalar i) is (λ e. same s.vector.file (vector_targets (instr.Scalar i) s.vector.conf.vtype))
vectors_are_printed s (instr.Csr i) is configured long = step_printed s (instr.Csr i) is (λ e. same s.vector.file (vector_targets (instr.Csr i) s.vector.conf.vtype))
