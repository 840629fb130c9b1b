-- The execution of a load or store by the cells of a memory.
use Rattle.std.specs.Prelude.{ℕ, ◌≡◌, Bool, List, [], Option, Some, None, map, if◌then◌else◌}
use Rattle.std.specs.FinMap.{get}
use Rattle.std.specs.Int.{byte_len, from_le_bytes, to_le_bytes, w32}
use Rattle.std.specs.Option.{option_map_or}
use Rattle.std.proofs.Common.{ap, ◌∙◌}
use Rattle.std.proofs.Math.Path.{fun_ext}
use Rattle.rv_model.specs.declared.instructions.access.AccessInstr.{AccessInstr}
use Rattle.rv_model.specs.declared.instructions.instruction.Instr.{Instr}
use Rattle.rv_model.specs.declared.instructions.instruction.Instr.TheVariants as instr
use Rattle.rv_model.specs.declared.instructions.operations.Direction.{Direction}
use Rattle.rv_model.specs.declared.instructions.operations.Direction.TheVariants as direction
use Rattle.rv_model.specs.declared.instructions.scalar.ScalarInstr.{ScalarInstr}
use Rattle.rv_model.specs.declared.instructions.scalar.ScalarInstr.TheVariants as scalar
use Rattle.rv_model.specs.declared.memory.Access.{Access}
use Rattle.rv_model.specs.declared.memory.Access.TheVariants.{Fetch, Load, Store}
use Rattle.rv_model.specs.declared.step.step_end.Cause.TheVariants.{LoadAccess, StoreAccess}
use Rattle.rv_model.specs.declared.step.vector_end.VEnd.TheVariants.{Illegal}
use Rattle.rv_model.specs.declared.step.step_end.StepEnd.TheVariants.{Cut}
use Rattle.rv_model.specs.accesses.AccessRuns.{AccessRun, load_run, store_run}
use Rattle.rv_model.specs.accesses.Transfers.{transfers}
use Rattle.rv_model.specs.accesses.VectorAccess.{VectorAccess, access_of, plan}
use Rattle.rv_model.specs.declared.vector.state.VState.{VState}
use Rattle.rv_model.specs.instructions.Immediates.{i_immediate, s_immediate}
use Rattle.rv_model.specs.instructions.Table.{scan, table}
use Rattle.rv_model.specs.legality.Legality.{is_legal, operands}
use Rattle.rv_model.specs.legality.OperandShapes.{shape_operands}
use Rattle.rv_model.specs.legality.RegisterOperands.{are_legal}
use Rattle.rv_model.specs.elements.Elements.{written}
use Rattle.rv_model.specs.vector.Groups.{register_of}
use Rattle.rv_model.specs.memory.Memory.{Memory, bytes_at, can_access, put_bytes}
use Rattle.rv_model.specs.scalar.Arithmetic.{sum}
use Rattle.rv_model.specs.scalar.LoadsAndStores.{extended, load_width, store_width}
use Rattle.rv_model.specs.scalar.Registers.{read_register}
use Rattle.rv_model.specs.step.Hart.{HartState, Stepped, ends, faults, gives, retires}
use Rattle.rv_model.specs.step.MemoryStep.{access_end, after_access, filled_type, load_fills_masked_off, tails_filled}
use Rattle.rv_model.specs.step.Step.{VectorStepped, after_vector, executed, performed, step, vector_ends, vector_executed, vector_ticks}
use Rattle.std.specs.Int.{w64}
use Rattle.test_definitions.specs.Memories.{Holds, LoadAgrees, StoreAgrees, Stored, bytes_after, cell_at, result_with}
use Rattle.test_definitions.specs.States.{Case, Fetches, code_address, hart, result_of, ticks}
use Rattle.test_definitions.proofs.Lookups.{Lookup, access_writes, addressed, bytes_by, can_access_by, can_by, get_written, load_by, load_run_by, put_all, put_bytes_by, read_by, store_by, store_run_by, written_to}
use Rattle.test_definitions.proofs.Steps.{stepped}

-- the accesses of one memory
pub record Accesses : Type 0 where
  pub can : Access → ℕ → ℕ → Bool
  pub read : ℕ → ℕ → List ℕ
  pub write : ℕ → List ℕ → Memory
  pub load : ℕ → Bool → VectorAccess → VState → AccessRun
  pub store : ℕ → VectorAccess → VState → AccessRun

-- as the definition of a step has them
abbrev defined : Memory → Accesses
defined m =
    record {
      can = λ access a n. can_access access m a n;
      read = λ a n. bytes_at m a n;
      write = λ a bs. put_bytes m a bs;
      load = λ limit fill a v. load_run limit fill a v m;
      store = λ limit a v. store_run limit a v m;
    }

-- by the cells of the memory
abbrev by_cells : Memory → Lookup → Accesses
by_cells m g =
    record {
      can = λ access a n. can_by access g a n;
      read = λ a n. read_by g a n;
      write = λ a bs. written_to m (addressed a bs);
      load = λ limit fill a v. load_by g limit fill a v m;
      store = λ limit a v. store_by g limit a v m;
    }

same_accesses : (m : Memory) → defined m ≡ by_cells m (get m)
same_accesses m =
    λ i. record {
      can = λ access a n. can_access_by access m a n i;
      read = λ a n. bytes_by m a n i;
      write = λ a bs. put_bytes_by m a bs i;
      load = λ limit fill a v. load_run_by limit fill a v m i;
      store = λ limit a v. store_run_by limit a v m i;
    }

-- ---- an instruction through these accesses

abbrev scalar_through : Accesses → ScalarInstr → HartState → Stepped
scalar_through p (scalar.Load op rd rs1 imm) s =
    let addr = sum w64 (read_register s.scalar rs1) (i_immediate imm) in
    let n = byte_len (load_width op) in
    if p.can Load addr n then gives rd (extended op (from_le_bytes (load_width op) (p.read addr n))) s else faults LoadAccess addr s
scalar_through p (scalar.Store op rs1 rs2 imm) s =
    let addr = sum w64 (read_register s.scalar rs1) (s_immediate imm) in
    if p.can Store addr (byte_len (store_width op))
    then retires s.scalar (record s { memory = p.write addr (to_le_bytes (store_width op) (read_register s.scalar rs2)) })
    else faults StoreAccess addr s
scalar_through p _ s = ends Cut s

abbrev run_through : Accesses → Direction → ℕ → VectorAccess → HartState → AccessRun
run_through p direction.Load limit a s = p.load limit (load_fills_masked_off a s) a s.vector
run_through p direction.Store limit a s = p.store limit a s.vector

abbrev access_through : Accesses → ℕ → AccessInstr → Option VectorAccess → HartState → VectorStepped
access_through p limit i None s = vector_ends Illegal s
access_through p limit i (Some a) s =
    let run = run_through p a.direction limit a s in
    vector_ends (access_end a.direction run.end) (after_access (filled_type i a s) a run s)

abbrev legal_through : Accesses → ℕ → AccessInstr → HartState → VectorStepped
legal_through p limit i s =
    if is_legal (instr.Access i) s.vector.conf.vtype s.vector.vstart
    then access_through p limit i (access_of i s.vector s.scalar) s else vector_ends Illegal s

abbrev through : Accesses → ℕ → Option Instr → ℕ → HartState → Stepped
through p limit (Some (instr.Scalar i)) word s = scalar_through p i s
through p limit (Some (instr.Access i)) word s =
    let done = legal_through p limit i s in
    after_vector (vector_ticks limit (instr.Access i) s) done.end word done.state
through p limit _ word s = ends Cut s

-- the step of a case's word through these accesses; it computes where this is unfolded
unfoldable pub execution_through : Accesses → Memory → Case → Stepped
unfolding scan table is_legal operands shape_operands are_legal plan transfers written tails_filled register_of written_to
execution_through p m c = through p ticks (scan table c.word) c.word (hart m c.before)

-- by the definition of a step
unfoldable pub execution_defined : Memory → Case → Stepped
unfolding execution_through executed performed vector_executed
execution_defined m c = executed ticks (scan table c.word) c.word (hart m c.before)

abbrev pub through_memory : Memory → Case → Stepped
through_memory m c = execution_through (defined m) m c

abbrev pub through_cells : Memory → Case → Stepped
through_cells m c = execution_through (by_cells m (cell_at c.word)) m c

-- the bytes that a store writes, by address, in their order
abbrev writes_through : Lookup → Option Instr → HartState → List (ℕ × ℕ)
writes_through g (Some (instr.Scalar (scalar.Store op rs1 rs2 imm))) s =
    let addr = sum w64 (read_register s.scalar rs1) (s_immediate imm) in
    if can_by Store g addr (byte_len (store_width op))
    then addressed addr (to_le_bytes (store_width op) (read_register s.scalar rs2)) else []
writes_through g (Some (instr.Access i)) s = option_map_or (λ a. access_writes g ticks a s.vector) (access_of i s.vector s.scalar) []
writes_through g _ s = []

abbrev pub case_writes : Memory → Case → List (ℕ × ℕ)
case_writes m c = writes_through (cell_at c.word) (scan table c.word) (hart m c.before)

-- ---- the step

-- the word that a fetch reads
abbrev pub fetched_word : ℕ → ℕ
fetched_word word = from_le_bytes w32 (read_by (cell_at word) code_address 4)

cells_are : (m : Memory) (w : ℕ) → Holds m w → get m ≡ cell_at w
cells_are m w h = fun_ext (λ (a : ℕ). h.cells a)

fetches : (m : Memory) (w : ℕ) → Holds m w → fetched_word w ≡ w → Fetches m w
fetches m w h is =
    record {
      allowed = can_access_by Fetch m code_address 4 ∙ ap (λ (g : Lookup). can_by Fetch g code_address 4) (cells_are m w h);
      word = ap (λ (bs : List ℕ). from_le_bytes w32 bs) (bytes_by m code_address 4)
          ∙ ap (λ (g : Lookup). from_le_bytes w32 (read_by g code_address 4)) (cells_are m w h) ∙ is;
    }

-- A step of a case is its execution through the cells of the memory.
pub through_step : (c : Case) → c.before.pc ≡ code_address → fetched_word c.word ≡ c.word
    → ((m : Memory) → execution_defined m c ≡ through_memory m c)
    → (m : Memory) → Holds m c.word → step ticks (hart m c.before) ≡ through_cells m c
unfolding execution_defined
through_step c at word same m h =
    stepped c at m (fetches m c.word h word) ∙ same m
    ∙ ap (λ (p : Accesses). execution_through p m c) (same_accesses m ∙ ap (λ (g : Lookup). by_cells m g) (cells_are m c.word h))

-- A load agrees if its execution through the cells has the case's result.
pub load_agrees : (c : Case) → c.before.pc ≡ code_address → fetched_word c.word ≡ c.word
    → ((m : Memory) → execution_defined m c ≡ through_memory m c)
    → ((m : Memory) → result_of (through_cells m c) ≡ (c.end, hart m c.after)) → LoadAgrees c
load_agrees c at word same is m h = ap result_of (through_step c at word same m h) ∙ is m

-- A store agrees if its execution through the cells has the case's result, and these bytes are the case's.
pub store_agrees : (c : Stored) → c.case.before.pc ≡ code_address → fetched_word c.case.word ≡ c.case.word
    → ((m : Memory) → execution_defined m c.case ≡ through_memory m c.case)
    → ((m : Memory) → result_with m (through_cells m c.case) ≡ (c.case.end, hart m c.case.after))
    → ((m : Memory) → (through_cells m c.case).state.memory ≡ written_to m (case_writes m c.case))
    → ((m : Memory) → map (λ r. read_by (put_all (cell_at c.case.word) (case_writes m c.case)) r.0 r.1) c.ranges ≡ map (bytes_after c) c.ranges)
    → StoreAgrees c
store_agrees c at word same is stored bytes =
    record {
      registers = λ m h. ap (result_with m) (through_step c.case at word same m h) ∙ is m;
      memory = λ m h.
          let es = case_writes m c.case in
          ap (λ (r : Stepped). map (λ x. bytes_at r.state.memory x.0 x.1) c.ranges) (through_step c.case at word same m h)
          ∙ ap (λ (n : Memory). map (λ x. bytes_at n x.0 x.1) c.ranges) (stored m)
          ∙ ap (λ (f : ℕ × ℕ → List ℕ). map f c.ranges) (fun_ext (λ (x : ℕ × ℕ). bytes_by (written_to m es) x.0 x.1))
          ∙ ap (λ (g : Lookup). map (λ x. read_by g x.0 x.1) c.ranges)
          (get_written m es ∙ ap (λ (g : Lookup). put_all g es) (cells_are m c.case.word h))
          ∙ bytes m;
    }
