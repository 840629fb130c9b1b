-- A step whose instruction is a vector load or store changes no byte outside its transfers and the tails that it fills.
use Rattle.std.proofs.Common.{◌≡◌, ◌∙◌, refl, subst, ap, ℕ, zero, suc, ◌+◌, ◌-◌, ◌*◌, ◌/◌, ◌<◌, ◌≤◌, ◌&&◌, Bool, false, List, [], ◌∷◌, ◌++◌, length, get_or, Option, Some, None, arith}
use Rattle.std.specs.Prelude.{All, nat_le, nat_lt}
use Rattle.std.specs.List.{AllByRecursion}
use Rattle.std.specs.Simd.Lanes.{chunk}
use Rattle.std.proofs.lemmas.List.{length-take}
use Rattle.std.proofs.lemmas.List.Elements.{All-weaker, recursion_from_All}
use Rattle.std.proofs.lemmas.Simd.{length-put_chunk}
use Rattle.std.proofs.lemmas.Bool.Decides.{nat_tests}
use Rattle.rv_model.specs.accesses.AccessRuns.{AccessInstr, AccessRun, Direction, MemEnd, VState, VectorAccess, access_ends, access_of, directed_run, load_run, store_run}
use Rattle.rv_model.specs.accesses.Transfers.{Plan, Transfer, TransferKind, memory_stored, registers_loaded, stop_index, transfers, with_element}
use Rattle.rv_model.specs.accesses.VectorAccess.{element_start, plan}
use Rattle.rv_model.specs.declared.instructions.instruction.Instr.TheVariants as instr
use Rattle.rv_model.specs.declared.instructions.operations.Direction.TheVariants as direction
use Rattle.rv_model.specs.declared.memory.Access.TheVariants.{Load, Store}
use Rattle.rv_model.specs.declared.step.memory_end.MemEnd.TheVariants.{Cut, Done, Fault}
use Rattle.rv_model.specs.elements.Formulas.{ones}
use Rattle.rv_model.specs.memory.Memory.{Memory, is_within, memory_byte}
use Rattle.rv_model.specs.step.AccessChanges.{AccessKeeps, AccessesKeepOthers, DirectionKeeps, LoadKeeps, MissesTails, StoreKeeps, body_transfers, covers, covers_memory, covers_register, is_tail}
use Rattle.rv_model.specs.step.Hart.{HartState}
use Rattle.rv_model.specs.step.MemoryStep.{filled_type, load_fills_masked_off, tails_filled, with_tails}
use Rattle.rv_model.specs.step.Step.{access_step, executed, performed}
use Rattle.rv_model.specs.vector.Groups.{GroupType, registers, width_bytes}
use Rattle.rv_model.proofs.Choices.{of_either, of_option}
use Rattle.rv_model.proofs.access_lemmas.Kept.{Beside, length-loaded, missed}
use Rattle.rv_model.proofs.access_lemmas.Resumes.{stop_most}
use Rattle.rv_model.proofs.access_lemmas.Stops.{transfers-add}
use Rattle.rv_model.proofs.element_lemmas.KeptBits.{bytes_kept, group_length}
use Rattle.rv_model.proofs.memory_lemmas.Memory.{get-put_bytes_outside, is_within_true, places}
use Rattle.rv_model.proofs.step_lemmas.KeptElements.{second_of}
use Rattle.rv_model.proofs.step_lemmas.KeptSteps.{vector_step_is}

-- ---- lists

-- an index that isn't within a range is outside it
beside_range : (a n x : ℕ) → is_within a n x ≡ false → Beside x a n
beside_range a n x h = search (arith, nat_tests, is_within_true, places)

all_first : (P : Transfer → Type 0) (xs ys : List Transfer) → AllByRecursion P (xs ++ ys) → AllByRecursion P xs
all_first P [] ys h = tt
all_first P (x ∷ xs) ys h = (h.0, all_first P xs ys h.1)

-- a property of all transfers of a body holds for those of a run that stops before the end
all_before : (P : Transfer → Type 0) (each : Plan) (start stop end : ℕ) → stop ≤ end → All P (transfers each start (end - start)) → AllByRecursion P (transfers each start (stop - start))
all_before P each start stop end before h =
    let rest : ℕ = (end - start) - (stop - start) in
    all_first P (transfers each start (stop - start)) (transfers each (start + (stop - start)) rest)
    (recursion_from_All P _ (subst (All P) (ap (transfers each start) (omega (arith, before)) ∙ transfers-add each start (stop - start) rest) h))

-- ---- memory

element_missed : (x size : ℕ) (m : Memory) (file : List ℕ) (at : ℕ) (kind : TransferKind) → covers x size kind ≡ false
    → memory_byte (with_element m (chunk at size file) kind) x ≡ memory_byte m x
unfolding memory_byte
element_missed x size m file at kind h = search (arith, beside_range, get-put_bytes_outside, length-take)

stored_missed : (x : ℕ) (place : Transfer → ℕ) (file : List ℕ) (ts : List Transfer) (m : Memory) → AllByRecursion (λ t. covers_memory x t ≡ false) ts
    → memory_byte (memory_stored m place file ts) x ≡ memory_byte m x
unfolding memory_stored
stored_missed x place file [] m h = refl
stored_missed x place file (t ∷ ts) m h =
    stored_missed x place file ts (with_element m (chunk (place t) t.size file) t.kind) h.1 ∙ element_missed x t.size m file (place t) t.kind h.0

-- ---- tails

record Filled (g : GroupType) (a : VectorAccess) (fields : ℕ) (old new : List ℕ) : Type 0 where
  size : length new ≡ length old
  bytes : (k : ℕ) → ((field : ℕ) → field < fields → is_tail g a k field ≡ false) → get_or new k 0 ≡ get_or old k 0

fills : (g : GroupType) (a : VectorAccess) (fields : ℕ) (file : List ℕ) → length file ≡ 1024 → Filled g a fields file (tails_filled g a.register fields a.body.end file)
unfolding tails_filled
fills g a zero file long = record { size = refl; bytes = λ k h. refl }
fills g a (suc fields) file long =
    let before : Filled g a fields file (tails_filled g a.register fields a.body.end file) = fills g a fields file long in
    let old : List ℕ = tails_filled g a.register fields a.body.end file in
    let vd : ℕ = a.register + fields * registers g.emul in
    record {
      size = length-put_chunk (32 * vd) old _ ∙ before.size;
      bytes = λ k h.
          bytes_kept old g vd (nat_le a.body.end) (λ i. ones g.width) k (before.size ∙ long) (λ from inside.
          second_of (is_within (32 * vd) (32 * registers g.emul) k) (nat_le a.body.end ((k - 32 * vd) / width_bytes g.width)) (h fields (omega arith))
          (is_within_true (32 * vd) (32 * registers g.emul) k from (omega (arith, from, inside, (group_length old vd g.emul (before.size ∙ long)).0))))
          ∙ before.bytes k (λ field l. h field (omega (arith, l)));
    }

record Tailed (o : Option GroupType) (a : VectorAccess) (old new : List ℕ) : Type 0 where
  size : length new ≡ length old
  bytes : (k : ℕ) → MissesTails o a k → get_or new k 0 ≡ get_or old k 0

tailed : (o : Option GroupType) (a : VectorAccess) (end : MemEnd) (file : List ℕ) → length file ≡ 1024 → Tailed o a file (with_tails o a end file)
tailed None a end file long = record { size = refl; bytes = λ k h. refl }
tailed (Some g) a Done file long = let f = fills g a a.fields file long in record { size = f.size; bytes = f.bytes }
tailed (Some g) a _ file long = record { size = refl; bytes = λ k h. refl }

-- ---- runs

-- the end of a run doesn't affect the registers and the memory
record Leaves (file : List ℕ) (m : Memory) (r : AccessRun) : Type 0 where
  registers : r.vector.file ≡ file
  memory : r.memory ≡ m

ends_leave : (first_only : Bool) (count : ℕ) (v : VState) (m : Memory) (end : MemEnd) → Leaves v.file m (access_ends first_only count v m end)
ends_leave first_only count v m Done = record { registers = refl; memory = refl }
ends_leave first_only count v m (Cut index) = record { registers = refl; memory = refl }
ends_leave first_only count v m (Fault index addr) =
    of_either (Leaves v.file m) (first_only && nat_lt 0 index) _ _ (record { registers = refl; memory = refl }) (record { registers = refl; memory = refl })

module _ (limit : ℕ) (i : AccessInstr) (a : VectorAccess) (s : HartState) (long : length s.vector.file ≡ 1024) where
  -- a property of the state after a run and its tails
  abbrev Keeps : (List ℕ → Memory → Type 0) → AccessRun → Type 0
  Keeps P r = P (with_tails (filled_type i a s) a r.end r.vector.file) r.memory

  load_keeps : (fill : Bool) → (body_transfers a s ≡ transfers (plan a fill) a.body.start (a.body.end - a.body.start)) → Keeps (LoadKeeps i a s) (load_run limit fill a s.vector s.memory)
  unfolding load_run
  load_keeps fill is =
      let stop : ℕ = stop_index Load s.memory (plan a fill) a.body.start (a.body.start + limit) a.body.end in
      let done : List Transfer = transfers (plan a fill) a.body.start (stop - a.body.start) in
      let file : List ℕ = registers_loaded s.memory (element_start a) s.vector.file done in
      let r : AccessRun = load_run limit fill a s.vector s.memory in
      let left : Leaves file s.memory r = ends_leave a.first_only a.body.end (record s.vector { file = file }) s.memory _ in
      let size : length r.vector.file ≡ length s.vector.file =
      ap (λ (f : List ℕ). length f) left.registers ∙ length-loaded s.memory (element_start a) done s.vector.file in
      let tails : Tailed (filled_type i a s) a r.vector.file (with_tails (filled_type i a s) a r.end r.vector.file) =
      tailed (filled_type i a s) a r.end r.vector.file (size ∙ long) in
      record {
        memory = left.memory;
        size = tails.size ∙ size;
        registers = λ k h outside.
            tails.bytes k outside ∙ ap (λ (f : List ℕ). get_or f k 0) left.registers
            ∙ missed s.memory (element_start a) k done s.vector.file
            (all_before _ (plan a fill) a.body.start stop a.body.end (omega (arith, stop_most Load s.memory (plan a fill) a.body.start (a.body.start + limit) a.body.end))
            (All-weaker (λ t. covers_register a k t ≡ false) _ (λ t e. beside_range (element_start a t) t.size k e) _ (subst (All (λ t. covers_register a k t ≡ false)) is h)));
      }

  no_tails : a.direction ≡ direction.Store → filled_type i a s ≡ None
  no_tails is = search (arith, nat_tests, of_option)

  store_keeps : a.direction ≡ direction.Store → (body_transfers a s ≡ transfers (plan a false) a.body.start (a.body.end - a.body.start))
      → Keeps (StoreKeeps a s) (store_run limit a s.vector s.memory)
  unfolding store_run
  store_keeps store is =
      let each : Plan = plan a false in
      let stop : ℕ = stop_index Store s.memory each a.body.start (a.body.start + limit) a.body.end in
      let done : List Transfer = transfers each a.body.start (stop - a.body.start) in
      let m : Memory = memory_stored s.memory (element_start a) s.vector.file done in
      let r : AccessRun = store_run limit a s.vector s.memory in
      let left : Leaves s.vector.file m r = ends_leave false a.body.end s.vector m _ in
      record {
        registers = ap (λ (o : Option GroupType). with_tails o a r.end r.vector.file) (no_tails store) ∙ left.registers;
        memory = λ x h.
            ap (λ (n : Memory). memory_byte n x) left.memory
            ∙ stored_missed x (element_start a) s.vector.file done s.memory
            (all_before _ each a.body.start stop a.body.end (omega (arith, stop_most Store s.memory each a.body.start (a.body.start + limit) a.body.end))
            (subst (All (λ t. covers_memory x t ≡ false)) is h));
      }

  direction_keeps : (d : Direction) → a.direction ≡ d → Keeps (DirectionKeeps d i a s) (directed_run d limit (load_fills_masked_off a s) a s.vector s.memory)
  direction_keeps d is = search (arith, nat_tests, load_keeps, store_keeps)

-- ---- steps

pub access_keeps : (limit : ℕ) (i : AccessInstr) (o : Option VectorAccess) (s : HartState) → length s.vector.file ≡ 1024 → AccessKeeps i o s (access_step limit i o s).state.vector.file (access_step limit i o s).state.memory
access_keeps limit i None s long = record { registers = refl; memory = refl }
access_keeps limit i (Some a) s long = direction_keeps limit i a s long a.direction refl

-- an unchanged state
still : (i : AccessInstr) (o : Option VectorAccess) (s : HartState) → AccessKeeps i o s s.vector.file s.memory
still i None s = record { registers = refl; memory = refl }
still i (Some a) s = still_by a.direction
  where
    still_by : (d : Direction) → DirectionKeeps d i a s s.vector.file s.memory
    still_by direction.Load = record { memory = refl; size = refl; registers = λ k h outside. refl }
    still_by direction.Store = record { registers = refl; memory = λ x h. refl }

pub accesses_keep_others : AccessesKeepOthers
unfolding executed performed
accesses_keep_others limit i s long is =
    let o : Option VectorAccess = access_of i s.vector s.scalar in
    vector_step_is (AccessKeeps i o s) limit (instr.Access i) s is (λ word. refl) (still i o s) (access_keeps limit i o s long)
