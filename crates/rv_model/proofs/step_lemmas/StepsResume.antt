-- Each vector instruction that is cut or faults, executed again.
use Rattle.std.proofs.Common.{◌≡◌, ◌≢◌, ℕ, ◌+◌, ◌-◌, ◌≤◌, Bool, true, ◌&&◌, cond, List, Option, Some, None, refl, sym, ◌∙◌, ap, subst, arith}
use Rattle.std.specs.Option.{option_and_then, option_map_or}
use Rattle.std.specs.Prelude.{IfSome, IsSomeAnd, nat_lt}
use Rattle.std.proofs.lemmas.Bool.{lt-ltb}
use Rattle.std.proofs.lemmas.Bool.Decides.{nat_tests}
use Rattle.rv_model.specs.declared.instructions.instruction.Instr.{Instr}
use Rattle.rv_model.specs.declared.instructions.instruction.Instr.TheVariants as instr
use Rattle.rv_model.specs.declared.instructions.access.AccessInstr.{AccessInstr}
use Rattle.rv_model.specs.declared.instructions.operations.Direction.{Direction}
use Rattle.rv_model.specs.declared.step.memory_end.MemEnd.{MemEnd}
use Rattle.rv_model.specs.declared.step.memory_end.MemEnd.TheVariants as memory_end
use Rattle.rv_model.specs.declared.step.vector_end.VEnd.{VEnd}
use Rattle.rv_model.specs.declared.step.vector_end.VEnd.TheVariants as vector_end
use Rattle.rv_model.specs.declared.vector.state.VState.{VState}
use Rattle.rv_model.specs.declared.vector.types.VType.{VType}
use Rattle.rv_model.specs.accesses.AccessRuns.{AccessRun, access_run}
use Rattle.rv_model.specs.accesses.Restarts.{Extends, IsStopped, overlay}
use Rattle.rv_model.specs.accesses.VectorAccess.{VectorAccess, access_of}
use Rattle.rv_model.specs.elements.Arithmetic.{is_ones}
use Rattle.rv_model.specs.vector.Groups.{GroupType, IsConfiguration, register_of}
use Rattle.rv_model.specs.legality.Legality.{IsLegal, is_legal}
use Rattle.rv_model.specs.memory.Memory.{Memory}
use Rattle.rv_model.specs.step.Hart.{HartState}
use Rattle.rv_model.specs.step.MemoryStep.{access_end, after_access, filled_type, load_fills_masked_off, reads_memory, tail_type, with_tails}
use Rattle.rv_model.specs.step.Resumes.{KeepsOwnWord, KeepsWord, LeavesPart, StopsShort, after_ticks, finds}
use Rattle.rv_model.specs.step.Step.{VectorStepped, access_step, accessed, after_vector, performed, vector_ends, vector_executed, vector_step, vector_ticks}
use Rattle.rv_model.proofs.access_lemmas.InstructionsResume.{access_resumes}
use Rattle.rv_model.proofs.access_lemmas.Runs.{IsAgain, access_again, again_of, is_stopped, made_of, run_facts, run_is, stopped_state}
use Rattle.rv_model.proofs.legality_lemmas.Meaning.{is_legal_means}
use Rattle.rv_model.proofs.step_lemmas.Cuts.{accessed_facts, cut_at, operation_whole}
use Rattle.rv_model.proofs.Choices.{of_option, of_test}
use Rattle.rv_model.proofs.step_lemmas.StoredWords.{SameWord, run_keeps_word}

-- ---- an access that stops leaves its tail unchanged

kept_file : (g : Option GroupType) (a : VectorAccess) (end : MemEnd) (file : List ℕ) → end ≢ memory_end.Done → with_tails g a end file ≡ file
kept_file g a end file h = search (arith, nat_tests)

tails_alike : (g : Option GroupType) (a : VectorAccess) (mask : List ℕ) (start : ℕ) (address : ℕ → ℕ) (end : MemEnd) (file : List ℕ)
    → with_tails g (access_again a mask start address) end file ≡ with_tails g a end file
tails_alike g a mask start address end file = search (arith, nat_tests)

unless_done : (d : Direction) (end : MemEnd) → StopsShort (access_end d end) → end ≢ memory_end.Done
unless_done d end h e = h.undone (ap (access_end d) e)

not_illegal : (d : Direction) (end : MemEnd) → access_end d end ≢ vector_end.Illegal
not_illegal d end e = search (arith, nat_tests)

-- ---- the effect of an instruction, by the remaining ticks and the state

abbrev Does : Type 0
Does = ℕ → HartState → VectorStepped

-- whether the instruction is legal doesn't depend on vstart
abbrev IsLegalAnywhere : Instr → Type 0
IsLegalAnywhere i = (t : Option VType) (from to : ℕ) → is_legal i t from ≡ is_legal i t to

module _ (limit later : ℕ) (s : HartState) (more : Memory) where
  -- the number of completed indices in a state, plus `later`
  abbrev in_all : HartState → ℕ
  in_all part = part.vector.vstart - s.vector.vstart + later

  -- an instruction that stops with this result and is executed again
  record IsPart (i : Instr) (does : Does) (d : VectorStepped) : Type 0 where
    left : LeavesPart i s d.state
    conf : d.state.vector.conf ≡ s.vector.conf
    anywhere : IsLegalAnywhere i
    word : KeepsOwnWord d.state.vector.vstart (Some i) s → SameWord s.scalar.pc s.memory d.state.memory
    legal : (does later (finds more d.state)).end ≢ vector_end.Illegal
    same : does later (finds more d.state) ≡ does (in_all d.state) (finds (overlay s.memory more) s)
    ticks : vector_ticks (in_all d.state) i (finds (overlay s.memory more) s)
        ≡ vector_ticks later i (finds more d.state) + (d.state.vector.vstart - s.vector.vstart)

  abbrev PartIf : Instr → Does → VectorStepped → Type 0
  PartIf i does d = StopsShort d.end → Extends d.state.memory more → IsPart i does d

  abbrev Part : Instr → Does → Type 0
  Part i does = PartIf i does (does limit s)

  -- ---- a load or store, by its access

  module _ (i : AccessInstr) (a : VectorAccess) (e : access_of i s.vector s.scalar ≡ Some a)
      (legal : IsLegal (instr.Access i) s.vector.conf.vtype s.vector.vstart) (is : IsConfiguration s.vector.conf) where
    -- the run, and the state that it leaves
    abbrev run : AccessRun
    run = accessed limit a s

    abbrev part : HartState
    part = (access_step limit i (Some a) s).state

    -- the vector state at the stop
    abbrev stopped_at : VState
    stopped_at = record s.vector { file = run.vector.file; vstart = run.vector.vstart }

    abbrev found : HartState
    found = finds (overlay s.memory more) s

    abbrev fill : Bool
    fill = load_fills_masked_off a s

    module _ (stops : StopsShort (access_end a.direction run.end)) (grown : Extends run.memory more) where
      ended : run.end ≢ memory_end.Done
      ended = unless_done a.direction run.end stops

      stopped : IsStopped a s.vector run.vector
      stopped = is_stopped limit a s.vector s.memory run (accessed_facts limit i a s e) ended

      file : part.vector.file ≡ run.vector.file
      file = kept_file (filled_type i a s) a run.end run.vector.file ended

      vector : part.vector ≡ stopped_at
      vector = ap (λ (f : List ℕ). record run.vector { file = f }) file ∙ stopped_state a s.vector run.vector stopped

      again : IsAgain i s.vector s.scalar a run.vector.file run.vector.vstart
      again = again_of i s.vector s.scalar a run.vector.file run.vector.vstart e

      abbrev next : VectorAccess
      next = access_again a (register_of run.vector.file 0) run.vector.vstart again.address

      -- the continued run equals the uninterrupted one
      resumed : accessed later next (record s { vector = stopped_at; memory = more }) ≡ accessed (in_all part) a found
      resumed =
          let x = s.scalar in
          let whole : access_run limit fill i s.vector x s.memory ≡ run = run_is limit fill i s.vector x s.memory a e in
          let law =
          access_resumes i limit later fill s.vector x s.memory more legal is
          (subst (λ (r : AccessRun). r.end ≢ memory_end.Done) (sym whole) ended)
          (subst (λ (r : AccessRun). Extends r.memory more) (sym whole) grown) in
          sym (run_is later fill i stopped_at x more next again.is)
          ∙ ap (λ (v : VState). access_run later fill i v x more)
          (sym (stopped_state a s.vector run.vector stopped) ∙ ap (λ (r : AccessRun). r.vector) (sym whole))
          ∙ law
          ∙ ap (λ (r : AccessRun). access_run (r.vector.vstart - s.vector.vstart + later) fill i s.vector x (overlay s.memory more)) whole
          ∙ run_is (in_all part) fill i s.vector x (overlay s.memory more) a e

      -- the tails are the same
      tails : filled_type i next s ≡ filled_type i a s
      tails =
          let some_left : nat_lt run.vector.vstart a.body.end ≡ true = lt-ltb run.vector.vstart a.body.end stopped.below in
          let some : nat_lt a.body.start a.body.end ≡ true =
          lt-ltb a.body.start a.body.end (omega (arith, begins, stopped.from, stopped.below)) in
          ap (λ (b : Bool). option_and_then (λ (t : VType). cond (reads_memory a.direction && (is_ones s.policy && (t.tail_agnostic && b))) (tail_type i t) None) s.vector.conf.vtype)
          (some_left ∙ sym some)
        where
          begins : a.body.start ≡ s.vector.vstart
          begins = (made_of i s.vector s.scalar a e).begins

      -- the result of a load or store, by its run
      abbrev ending : Option GroupType → AccessRun → VectorStepped
      ending g r = vector_ends (access_end a.direction r.end) (after_access g a r s)

      step_next : access_step later i (Some next) (record s { vector = stopped_at; memory = more })
          ≡ ending (filled_type i next s) (accessed later next (record s { vector = stopped_at; memory = more }))
      step_next =
          let r : AccessRun = accessed later next (record s { vector = stopped_at; memory = more }) in
          ap (λ (f : List ℕ). vector_ends (access_end a.direction r.end) (record s { vector = record r.vector { file = f }; memory = r.memory }))
          (tails_alike (filled_type i next s) a (register_of run.vector.file 0) run.vector.vstart again.address r.end r.vector.file)

      step_again : access_step later i (access_of i part.vector s.scalar) (finds more part) ≡ access_step (in_all part) i (Some a) found
      step_again =
          ap (λ (v : VState). access_step later i (access_of i v s.scalar) (record s { vector = v; memory = more })) vector
          ∙ ap (λ (o : Option VectorAccess). access_step later i o (record s { vector = stopped_at; memory = more })) again.is
          ∙ step_next
          ∙ ap (λ (g : Option GroupType). ending g (accessed later next (record s { vector = stopped_at; memory = more }))) tails
          ∙ ap (ending (filled_type i a s)) resumed

      ticks_again : vector_ticks (in_all part) (instr.Access i) found
          ≡ vector_ticks later (instr.Access i) (finds more part) + (part.vector.vstart - s.vector.vstart)
      ticks_again =
          let r : AccessRun = accessed later next (record s { vector = stopped_at; memory = more }) in
          let reached : (accessed (in_all part) a found).reached ≡ r.reached = ap (λ (r : AccessRun). r.reached) (sym resumed) in
          let past : run.vector.vstart ≤ r.reached = (run_facts later fill i stopped_at s.scalar more next again.is).from in
          let here : vector_ticks (in_all part) (instr.Access i) found ≡ (accessed (in_all part) a found).reached - s.vector.vstart =
          ap (λ (o : Option VectorAccess). option_map_or (λ a. (accessed (in_all part) a found).reached - s.vector.vstart) o 1) e in
          let there : vector_ticks later (instr.Access i) (finds more part) ≡ r.reached - run.vector.vstart =
          ap (λ (v : VState). vector_ticks later (instr.Access i) (record s { vector = v; memory = more })) vector
          ∙ ap (λ (o : Option VectorAccess). option_map_or (λ b. (accessed later b (record s { vector = stopped_at; memory = more })).reached - run.vector.vstart) o 1) again.is in
          here ∙ omega (arith, reached, past, there, stopped.from)

      word_kept : IfSome (access_of i s.vector s.scalar) (KeepsWord s.scalar.pc run.vector.vstart) → SameWord s.scalar.pc s.memory run.memory
      word_kept h =
          run_keeps_word a.direction limit fill a s.vector s.memory s.scalar.pc ended
          (subst (λ (o : Option VectorAccess). IfSome o (KeepsWord s.scalar.pc run.vector.vstart)) e h)

      leaves_part : LeavesPart (instr.Access i) s part
      leaves_part = record {
        vector = subst (λ (o : Option VectorAccess). IsSomeAnd o (λ a. IsStopped a s.vector part.vector)) (sym e)
            (record {
              from = stopped.from;
              below = stopped.below;
              conf = stopped.conf;
              rounding = stopped.rounding;
              saturation = stopped.saturation;
              registers = λ store. file ∙ stopped.registers store;
            });
        rest = refl;
      }

  access_part : (i : AccessInstr) → IsLegal (instr.Access i) s.vector.conf.vtype s.vector.vstart → IsConfiguration s.vector.conf → IsLegalAnywhere (instr.Access i)
      → Part (instr.Access i) (λ n w. access_step n i (access_of i w.vector w.scalar) w)
  access_part i legal is anywhere =
      of_option (access_of i s.vector s.scalar) (λ o. PartIf (instr.Access i) (λ n w. access_step n i (access_of i w.vector w.scalar) w) (access_step limit i o s))
      (λ e stops. absurd (stops.legal refl))
      (λ a e stops grown.
      let n : ℕ = in_all (access_step limit i (Some a) s).state in
      let w : HartState = finds (overlay s.memory more) s in
      let again = step_again i a e legal is stops grown in
      record {
        left = leaves_part i a e legal is stops grown;
        conf = (stopped i a e legal is stops grown).conf;
        anywhere = anywhere;
        word = word_kept i a e legal is stops grown;
        legal = subst (λ (d : VectorStepped). d.end ≢ vector_end.Illegal) (sym again) (not_illegal a.direction (accessed n a w).end);
        same = again ∙ ap (λ (o : Option VectorAccess). access_step n i o w) (sym e);
        ticks = ticks_again i a e legal is stops grown;
      })

  -- ---- each instruction

  performed_part : (i : Instr) → IsLegal i s.vector.conf.vtype s.vector.vstart → IsConfiguration s.vector.conf → Part i (λ n w. performed n i w)
  unfolding performed is_legal
  performed_part (instr.Vector i) legal is = λ stops. absurd (operation_whole i s stops)
  performed_part (instr.Access i) legal is = access_part i legal is (λ t from to. refl)
  performed_part _ legal is = λ stops. absurd (stops.legal refl)

  executed_part : (i : Instr) → IsConfiguration s.vector.conf → Part i (λ n w. vector_executed n i w)
  unfolding vector_executed
  executed_part i is =
      let does : Does = λ n w. vector_executed n i w in
      of_test (PartIf i does) (is_legal i s.vector.conf.vtype s.vector.vstart) _ _
      (λ e stops grown.
      let w : HartState = (performed limit i s).state in
      let at : (n : ℕ) (w : HartState) → is_legal i w.vector.conf.vtype w.vector.vstart ≡ true → does n w ≡ performed n i w =
      λ n w e. ap (λ (b : Bool). cond b (performed n i w) (vector_ends vector_end.Illegal w)) e in
      let r : IsPart i (λ n w. performed n i w) (performed limit i s) =
      performed_part i ((is_legal_means i s.vector.conf.vtype s.vector.vstart).0 e) is stops grown in
      let next : does later (finds more w) ≡ performed later i (finds more w) =
      at later (finds more w)
      (ap (λ c. is_legal i c.vtype w.vector.vstart) r.conf ∙ r.anywhere s.vector.conf.vtype w.vector.vstart s.vector.vstart ∙ e) in
      record {
        left = r.left;
        conf = r.conf;
        anywhere = r.anywhere;
        word = r.word;
        legal = subst (λ (d : VectorStepped). d.end ≢ vector_end.Illegal) (sym next) r.legal;
        same = next ∙ r.same ∙ sym (at (in_all w) (finds (overlay s.memory more) s) e);
        ticks = r.ticks;
      })
      (λ e stops. absurd (stops.legal refl))

pub instruction_resumes : (limit later : ℕ) (i : Instr) (s : HartState) (more : Memory) → IsConfiguration s.vector.conf
    → StopsShort (vector_executed limit i s).end → Extends (vector_executed limit i s).state.memory more
    → vector_executed later i (finds more (vector_executed limit i s).state)
    ≡ vector_executed ((vector_executed limit i s).state.vector.vstart - s.vector.vstart + later) i (finds (overlay s.memory more) s)
instruction_resumes limit later i s more is stops grown = (executed_part limit later s more i is stops grown).same

pub instruction_stops : (limit : ℕ) (i : Instr) (s : HartState) → IsConfiguration s.vector.conf → StopsShort (vector_executed limit i s).end
    → LeavesPart i s (vector_executed limit i s).state
instruction_stops limit i s is stops = (executed_part limit 0 s (vector_executed limit i s).state.memory i is stops (λ a c e. e)).left

-- ---- ticks

after_more : (ticks more : ℕ) (end : VEnd) (word : ℕ) (s : HartState) → end ≢ vector_end.Illegal
    → after_vector (ticks + more) end word s ≡ after_ticks more (after_vector ticks end word s)
after_more ticks more end word s legal = search (arith, nat_tests)

-- a step that is cut or faults leaves the state that its instruction leaves
pub after_short : (ticks : ℕ) (end : VEnd) (word : ℕ) (s : HartState) → StopsShort end → (after_vector ticks end word s).state ≡ s
after_short ticks end word s stops = search (arith, nat_tests)

part_resumes : (limit later : ℕ) (i : Instr) (word : ℕ) (s : HartState) (more : Memory) → IsConfiguration s.vector.conf
    → StopsShort (vector_executed limit i s).end → Extends (vector_executed limit i s).state.memory more
    → vector_step ((vector_executed limit i s).state.vector.vstart - s.vector.vstart + later) i word (finds (overlay s.memory more) s)
    ≡ after_ticks ((vector_executed limit i s).state.vector.vstart - s.vector.vstart) (vector_step later i word (finds more (vector_executed limit i s).state))
part_resumes limit later i word s more is stops grown = search (arith, nat_tests, after_more, executed_part)

pub step_resumes : (limit later : ℕ) (i : Instr) (word : ℕ) (s : HartState) (more : Memory) → IsConfiguration s.vector.conf
    → StopsShort (vector_executed limit i s).end → Extends (vector_step limit i word s).state.memory more
    → vector_step ((vector_step limit i word s).state.vector.vstart - s.vector.vstart + later) i word (finds (overlay s.memory more) s)
    ≡ after_ticks ((vector_step limit i word s).state.vector.vstart - s.vector.vstart)
    (vector_step later i word (finds more (vector_step limit i word s).state))
step_resumes limit later i word s more is stops grown =
    let d : VectorStepped = vector_executed limit i s in
    let leaves_part : (vector_step limit i word s).state ≡ d.state = after_short (vector_ticks limit i s) d.end word d.state stops in
    subst (λ (part : HartState). vector_step (part.vector.vstart - s.vector.vstart + later) i word (finds (overlay s.memory more) s)
    ≡ after_ticks (part.vector.vstart - s.vector.vstart) (vector_step later i word (finds more part))) (sym leaves_part)
    (part_resumes limit later i word s more is stops (subst (λ (part : HartState). Extends part.memory more) leaves_part grown))

pub instruction_leaves_off : (limit : ℕ) (i : Instr) (s : HartState) (index : ℕ) → (vector_executed limit i s).end ≡ vector_end.Cut index
    → (index ≡ s.vector.vstart + limit) × ((vector_executed limit i s).state.vector.vstart ≡ index)
instruction_leaves_off limit i s index e = let cut = cut_at limit i s index e in (cut.at, cut.left)

-- an instruction that is cut or faults leaves the word at the program counter unchanged, if its completed part stored no byte of this
-- word
pub part_keeps_word : (limit : ℕ) (i : Instr) (s : HartState) → IsConfiguration s.vector.conf → StopsShort (vector_executed limit i s).end
    → KeepsOwnWord (vector_executed limit i s).state.vector.vstart (Some i) s
    → SameWord s.scalar.pc s.memory (vector_executed limit i s).state.memory
part_keeps_word limit i s is stops =
    (executed_part limit 0 s (vector_executed limit i s).state.memory i is stops (λ a c e. e)).word
