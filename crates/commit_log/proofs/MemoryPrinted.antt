-- A line gives the memory: the bytes of each element are stored in order.
use Rattle.std.proofs.Common.{◌≡◌, ◌∙◌, ap, refl, sym, subst, ℕ, zero, suc, ◌+◌, ◌-◌, ◌*◌, ◌%◌, ◌^◌, ◌≤◌, ◌==◌, ◌&&◌, ◌||◌, Bool, true, false, cond, List, [], ◌∷◌, ◌++◌, map, min, Option, Some, None, arith}
use Rattle.std.specs.Prelude.{not, nat_le, IfSome}
use Rattle.std.specs.Int.{byte_len, w64}
use Rattle.std.specs.List.{range_with_len}
use Rattle.std.specs.Option.{option_map_or}
use Rattle.std.specs.Simd.Lanes.{chunk}
use Rattle.std.proofs.lemmas.Bool.{leb-true}
use Rattle.std.proofs.lemmas.List.{map-append}
use Rattle.rv_model.specs.declared.instructions.access.AccessInstr.{AccessInstr}
use Rattle.rv_model.specs.declared.instructions.access.AccessInstr.TheVariants.{UnitStride, WholeLoad, WholeStore}
use Rattle.rv_model.specs.declared.instructions.csr.CsrInstr.{CsrInstr}
use Rattle.rv_model.specs.declared.instructions.csr.CsrInstr.TheVariants.{Register, Immediate}
use Rattle.rv_model.specs.declared.instructions.instruction.Instr.{Instr}
use Rattle.rv_model.specs.declared.instructions.instruction.Instr.TheVariants as instr
use Rattle.rv_model.specs.declared.instructions.operations.CsrOp.{CsrOp}
use Rattle.rv_model.specs.declared.instructions.operations.Direction.{Direction}
use Rattle.rv_model.specs.declared.instructions.operations.Direction.TheVariants as direction
use Rattle.rv_model.specs.declared.instructions.operations.SystemOp.TheVariants as system
use Rattle.rv_model.specs.declared.instructions.operations.UnitOp.{UnitOp}
use Rattle.rv_model.specs.declared.instructions.operations.UnitOp.TheVariants as unit
use Rattle.rv_model.specs.declared.instructions.scalar.ScalarInstr.{ScalarInstr}
use Rattle.rv_model.specs.declared.instructions.scalar.ScalarInstr.TheVariants.{Jump, JumpRegister, Branch, Load, Store, System}
use Rattle.rv_model.specs.declared.instructions.vector.VectorInstr.{VectorInstr}
use Rattle.rv_model.specs.declared.memory.Access.TheVariants as access
use Rattle.rv_model.specs.declared.scalar.Scalar.{Scalar}
use Rattle.rv_model.specs.declared.step.memory_end.MemEnd.{MemEnd}
use Rattle.rv_model.specs.declared.step.memory_end.MemEnd.TheVariants as memory_end
use Rattle.rv_model.specs.declared.step.vector_end.VEnd.TheVariants as vector_end
use Rattle.rv_model.specs.declared.vector.control_register.ControlRegister.{ControlRegister}
use Rattle.rv_model.specs.declared.vector.state.VState.{VState}
use Rattle.rv_model.specs.accesses.AccessRuns.{access_ends, directed_run, store_run}
use Rattle.rv_model.specs.accesses.Transfers.{Moved, Plan, Transfer, end_at, memory_stored, stop_index, transfers}
use Rattle.rv_model.specs.accesses.VectorAccess.{VectorAccess, access_of, element_start, is_first_only, moved_segment, plan, unit_direction}
use Rattle.rv_model.specs.elements.Elements.{is_enabled}
use Rattle.rv_model.specs.instructions.Immediates.{s_immediate}
use Rattle.rv_model.specs.memory.Memory.{Memory, can_access, put_bytes}
use Rattle.rv_model.specs.scalar.Arithmetic.{sum}
use Rattle.rv_model.specs.scalar.ControlTransfer.{is_taken}
use Rattle.rv_model.specs.scalar.LoadsAndStores.{store_width}
use Rattle.rv_model.specs.scalar.Registers.{read_register}
use Rattle.rv_model.specs.step.Hart.{HartState, Stepped}
use Rattle.rv_model.specs.step.MemoryStep.{access_end, load_fills_masked_off}
use Rattle.rv_model.specs.step.ScalarStep.{csr_executed, csr_step, environment_call, scalar_step}
use Rattle.rv_model.specs.step.Step.{access_step, executed, operation_step, performed}
use Rattle.rv_model.specs.step.WriteCall.{output_room, write_call, write_count}
use Rattle.rv_model.specs.vector.Control.{csr_form, is_write}
use Rattle.rv_model.specs.vector.ControlRegisters.{control_register, is_read_only}
use Rattle.rv_model.proofs.Choices.{of_bool, of_either, of_option, of_test}
use Rattle.rv_model.proofs.access_lemmas.Moves.{stored-append}
use Rattle.rv_model.proofs.access_lemmas.Resumes.{stop_most}
use Rattle.rv_model.proofs.access_lemmas.Runs.{run_facts}
use Rattle.rv_model.proofs.step_lemmas.StepCases.{operation_is}
use Rattle.recording.specs.Runs.{is_counted, word_of}
use Rattle.vector_memory.specs.MovedElements.{MovedElement, element_of, moved_elements, moved_end}
use Rattle.commit_log.specs.Lines.{printed_moved}
use Rattle.commit_log.specs.Printed.{MemoryIsPrinted, with_stored}
use Rattle.commit_log.proofs.LoadsPrinted.{typed_fits}
use Rattle.commit_log.proofs.Retired.{of_counted, of_done}

-- ---- sequences of elements

stored_then : (xs ys : List MovedElement) (m : Memory) → with_stored (xs ++ ys) m ≡ with_stored ys (with_stored xs m)
stored_then [] ys m = refl
stored_then (x ∷ xs) ys m = stored_then xs ys (option_map_or (put_bytes m x.address) x.stored m)

-- elements that are loaded store nothing
loads_nothing : (d : Direction) (place : Transfer → ℕ) (file : List ℕ) (ts : List Transfer) (m : Memory) → d ≡ direction.Load
    → with_stored (map (element_of d place file) ts) m ≡ m
loads_nothing direction.Load place file [] m is = refl
loads_nothing direction.Load place file (t ∷ ts) m is = loads_nothing direction.Load place file ts m refl
loads_nothing direction.Store place file ts m is = absurd (cc)

-- the elements of a segment are stored
segment_stored : (i address size : ℕ) (place : Transfer → ℕ) (file fields : List ℕ) (m : Memory)
    → with_stored (map (element_of direction.Store place file) (map (λ f. record { index = i; field = f; size = size; kind = Moved ((address + f * size) % 2 ^ 64) }) fields)) m
    ≡ memory_stored m place file (map (λ f. record { index = i; field = f; size = size; kind = Moved ((address + f * size) % 2 ^ 64) }) fields)
unfolding memory_stored
segment_stored i address size place file [] m = refl
segment_stored i address size place file (f ∷ fields) m =
    segment_stored i address size place file fields
    (put_bytes m ((address + f * size) % 2 ^ 64) (chunk (place (record { index = i; field = f; size = size; kind = Moved ((address + f * size) % 2 ^ 64) })) size file))

plan_stored : (a : VectorAccess) (place : Transfer → ℕ) (file : List ℕ) (i : ℕ) (m : Memory)
    → with_stored (map (element_of direction.Store place file) (plan a false i)) m ≡ memory_stored m place file (plan a false i)
unfolding plan memory_stored
plan_stored a place file i m =
    let moved : List Transfer = moved_segment i (a.address i) a.size a.fields in
    of_bool (is_enabled a.body i)
    (λ b. with_stored (map (element_of direction.Store place file) (cond b moved [])) m ≡ memory_stored m place file (cond b moved []))
    (λ e. segment_stored i (a.address i) a.size place file (range_with_len 0 a.fields) m) (λ e. refl)

transfers_stored : (a : VectorAccess) (place : Transfer → ℕ) (file : List ℕ) (i n : ℕ) (m : Memory)
    → with_stored (map (element_of direction.Store place file) (transfers (plan a false) i n)) m ≡ memory_stored m place file (transfers (plan a false) i n)
unfolding transfers memory_stored
transfers_stored a place file i zero m = refl
transfers_stored a place file i (suc n) m =
    let printed : Transfer → MovedElement = element_of direction.Store place file in
    let here : List Transfer = plan a false i in
    let rest : List Transfer = transfers (plan a false) (i + 1) n in
    ap (λ (es : List MovedElement). with_stored es m) (map-append printed here rest)
    ∙ stored_then (map printed here) (map printed rest) m
    ∙ ap (with_stored (map printed rest)) (plan_stored a place file i m)
    ∙ transfers_stored a place file (i + 1) n (memory_stored m place file here)
    ∙ sym (stored-append m place file here rest)

stores_all : (d : Direction) (a : VectorAccess) (place : Transfer → ℕ) (file : List ℕ) (i n : ℕ) (m : Memory) → d ≡ direction.Store
    → with_stored (map (element_of d place file) (transfers (plan a false) i n)) m ≡ memory_stored m place file (transfers (plan a false) i n)
stores_all direction.Load a place file i n m is = absurd (cc)
stores_all direction.Store a place file i n m is = transfers_stored a place file i n m

-- ---- the memory after a store

-- a store that completes has stored the elements of all indices
store_is : (limit : ℕ) (a : VectorAccess) (v : VState) (m : Memory) → (store_run limit a v m).end ≡ memory_end.Done
    → (store_run limit a v m).memory ≡ memory_stored m (element_start a) v.file (transfers (plan a false) a.body.start (a.body.end - a.body.start))
unfolding store_run end_at
store_is limit a v m =
    let each : Plan = plan a false in
    let start : ℕ = a.body.start in
    let count : ℕ = a.body.end in
    let stop : ℕ = stop_index access.Store m each start (start + limit) count in
    let left : ℕ → Memory = λ k. memory_stored m (element_start a) v.file (transfers each start (k - start)) in
    let P : MemEnd → Type 0 = λ end. (access_ends false count v (left stop) end).end ≡ memory_end.Done → (access_ends false count v (left stop) end).memory ≡ left count in
    of_test P (nat_le count stop) _ _
    (λ e. λ h.
    let all : count ≤ stop = leb-true count stop e in
    let most : stop ≤ min count (start + limit) = stop_most access.Store m each start (start + limit) count in
    let same : stop ≡ count = omega (arith, all, most) in
    ap left same)
    (λ e. of_either P (nat_le (start + limit) stop) _ _ (λ h. absurd (cc)) (λ h. absurd (cc)))

directed_stored : (d : Direction) (limit : ℕ) (fill : Bool) (a : VectorAccess) (v : VState) (m : Memory) → d ≡ direction.Store
    → (directed_run d limit fill a v m).end ≡ memory_end.Done
    → (directed_run d limit fill a v m).memory ≡ memory_stored m (element_start a) v.file (transfers (plan a false) a.body.start (a.body.end - a.body.start))
directed_stored direction.Load limit fill a v m is h = absurd (cc)
directed_stored direction.Store limit fill a v m is h = store_is limit a v m h

-- no store shortens the vector length
unit_whole : (op : UnitOp) → unit_direction op ≡ direction.Store → is_first_only op ≡ false
unit_whole unit.Store e = refl
unit_whole _ e = absurd (cc)

abbrev IsWhole : VectorAccess → Type 0
IsWhole a = a.direction ≡ direction.Store → a.first_only ≡ false

each_whole : (i : AccessInstr) (v : VState) (x : Scalar) → IfSome (access_of i v x) IsWhole
each_whole (UnitStride op width nf vd rs1 vm) v x = typed_fits v.conf.vtype _ IsWhole (λ t e. unit_whole op)
each_whole (WholeLoad count w vd rs1) v x = λ e. refl
each_whole (WholeStore count vd rs1) v x = λ e. refl
each_whole _ v x = typed_fits v.conf.vtype _ IsWhole (λ t e store. refl)

whole_of : (i : AccessInstr) (v : VState) (x : Scalar) (a : VectorAccess) → access_of i v x ≡ Some a → IsWhole a
whole_of i v x a e = subst (λ (o : Option VectorAccess). IfSome o IsWhole) e (each_whole i v x)

done_is : (d : Direction) (end : MemEnd) → access_end d end ≡ vector_end.Done → end ≡ memory_end.Done
done_is d memory_end.Done h = refl
done_is d _ h = absurd (cc)

-- ---- each instruction

abbrev Prints : Instr → HartState → Stepped → Type 0
Prints i s r = is_counted r.end ≡ true → with_stored (printed_moved i s r.state.vector.conf.vl) s.memory ≡ r.state.memory

-- the memory is unchanged
abbrev Stays : HartState → Stepped → Type 0
Stays s r = is_counted r.end ≡ true → s.memory ≡ r.state.memory

module _ (s : HartState) where
  either : (b : Bool) (x y : Stepped) → Stays s x → Stays s y → Stays s (cond b x y)
  either b x y = of_either (Stays s) b x y

  csr_stays : (register : Option ControlRegister) (op : CsrOp) (rd source operand word : ℕ) → Stays s (csr_step register op rd source operand word s)
  csr_stays None op rd source operand word = λ h. refl
  csr_stays (Some register) op rd source operand word =
      either (is_write op source && is_read_only register) _ _ (λ h. refl) (either (is_write op source) _ _ (λ h. refl) (λ h. refl))

  write_stays : Stays s (write_call s)
  unfolding write_call
  write_stays =
      either (not (read_register s.scalar 10 == 1)) _ _ (λ h. refl)
      (either (read_register s.scalar 12 == 0) _ _ (λ h. refl)
      (either (output_room s.output == 0) _ _ (λ h. refl)
      (either (can_access access.Load s.memory (read_register s.scalar 11) (write_count (read_register s.scalar 12) s.output)) _ _ (λ h. refl) (λ h. refl))))

  scalar_prints : (i : ScalarInstr) → Prints (instr.Scalar i) s (scalar_step i s)
  unfolding environment_call
  scalar_prints (Jump rd imm) = either _ _ _ (λ h. refl) (λ h. refl)
  scalar_prints (JumpRegister rd rs1 imm) = either _ _ _ (λ h. refl) (λ h. refl)
  scalar_prints (Branch op rs1 rs2 imm) = either (is_taken op (read_register s.scalar rs1) (read_register s.scalar rs2)) _ _ (either _ _ _ (λ h. refl) (λ h. refl)) (λ h. refl)
  scalar_prints (Load op rd rs1 imm) = either _ _ _ (λ h. refl) (λ h. refl)
  scalar_prints (Store op rs1 rs2 imm) =
      of_either (Prints (instr.Scalar (Store op rs1 rs2 imm)) s)
      (can_access access.Store s.memory (sum w64 (read_register s.scalar rs1) (s_immediate imm)) (byte_len (store_width op))) _ _
      (λ h. refl) (λ (h : false ≡ true). absurd (cc))
  scalar_prints (System system.Ecall) =
      either (read_register s.scalar 17 == 93 || read_register s.scalar 17 == 94) _ _ (λ h. refl)
      (either (read_register s.scalar 17 == 64) _ _ write_stays (λ h. refl))
  scalar_prints _ = λ h. refl

  controls_print : (i : CsrInstr) (word : ℕ) → Prints (instr.Csr i) s (csr_executed i word s)
  controls_print (Register op rd rs1 csr) word = csr_stays (control_register csr) op rd rs1 (read_register s.scalar rs1) word
  controls_print (Immediate op rd imm csr) word = csr_stays (control_register csr) (csr_form op) rd imm imm word

  operation_stays : (i : VectorInstr) → s.memory ≡ (operation_step i s).state.memory
  operation_stays i =
      operation_is s (λ d. s.memory ≡ d.state.memory) i (record { sets = λ vtype length. refl; leaves = λ scalar w file saturated. refl; illegal = refl })

  loaded_prints : (limit : ℕ) (i : AccessInstr) (a : VectorAccess) → access_of i s.vector s.scalar ≡ Some a → a.direction ≡ direction.Load
      → (vl : ℕ) → with_stored (moved_elements s.vector vl a) s.memory ≡ (access_step limit i (Some a) s).state.memory
  loaded_prints limit i a e is vl =
      loads_nothing a.direction (element_start a) s.vector.file (transfers (plan a false) a.body.start (moved_end a vl - a.body.start)) s.memory is
      ∙ sym ((run_facts limit (load_fills_masked_off a s) i s.vector s.scalar s.memory a e).memory is)

  stored_prints : (limit : ℕ) (i : AccessInstr) (a : VectorAccess) → access_of i s.vector s.scalar ≡ Some a → a.direction ≡ direction.Store
      → (access_step limit i (Some a) s).end ≡ vector_end.Done → (vl : ℕ) → with_stored (moved_elements s.vector vl a) s.memory ≡ (access_step limit i (Some a) s).state.memory
  stored_prints limit i a e is h vl =
      ap (λ (b : Bool). with_stored (map (element_of a.direction (element_start a) s.vector.file) (transfers (plan a false) a.body.start (cond b vl a.body.end - a.body.start))) s.memory)
      (whole_of i s.vector s.scalar a e is)
      ∙ stores_all a.direction a (element_start a) s.vector.file a.body.start (a.body.end - a.body.start) s.memory is
      ∙ sym (directed_stored a.direction limit (load_fills_masked_off a s) a s.vector s.memory is (done_is a.direction _ h))

  moved_prints : (limit : ℕ) (i : AccessInstr) (a : VectorAccess) → access_of i s.vector s.scalar ≡ Some a → (d : Direction) → a.direction ≡ d
      → (access_step limit i (Some a) s).end ≡ vector_end.Done
      → with_stored (moved_elements s.vector (access_step limit i (Some a) s).state.vector.conf.vl a) s.memory ≡ (access_step limit i (Some a) s).state.memory
  moved_prints limit i a e direction.Load is h = loaded_prints limit i a e is _
  moved_prints limit i a e direction.Store is h = stored_prints limit i a e is h _

  access_prints : (limit : ℕ) (i : AccessInstr) → (access_step limit i (access_of i s.vector s.scalar) s).end ≡ vector_end.Done
      → with_stored (printed_moved (instr.Access i) s (access_step limit i (access_of i s.vector s.scalar) s).state.vector.conf.vl) s.memory
      ≡ (access_step limit i (access_of i s.vector s.scalar) s).state.memory
  access_prints limit i =
      of_option (access_of i s.vector s.scalar) (λ o. (access_step limit i o s).end ≡ vector_end.Done
      → with_stored (option_map_or (moved_elements s.vector (access_step limit i o s).state.vector.conf.vl) o []) s.memory ≡ (access_step limit i o s).state.memory)
      (λ e. λ h. refl) (λ a e. moved_prints limit i a e a.direction refl)

  executed_prints : (i : Instr) (word : ℕ) → Prints i s (executed 256 (Some i) word s)
  unfolding executed performed
  executed_prints (instr.Scalar i) word = scalar_prints i
  executed_prints (instr.Csr i) word = controls_print i word
  executed_prints (instr.Vector i) word = of_done s (λ v m. s.memory ≡ m) (instr.Vector i) word (λ e h. operation_stays i)
  executed_prints (instr.Access i) word =
      of_done s (λ v m. with_stored (printed_moved (instr.Access i) s v.conf.vl) s.memory ≡ m) (instr.Access i) word (λ e. access_prints 256 i)

pub memory_is_printed : MemoryIsPrinted
memory_is_printed s i is =
    of_counted s (λ (r : Stepped). with_stored (printed_moved i s r.state.vector.conf.vl) s.memory ≡ r.state.memory) (Some i) is (executed_prints s i (word_of s))
