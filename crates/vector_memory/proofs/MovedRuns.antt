-- The state after a load or store, from the result of its moves and from how it ended.
use Rattle.std.proofs.Common.{◌≡◌, ℕ, ◌+◌, ◌-◌, ◌*◌, ◌%◌, ◌^◌, ◌<◌, ◌≤◌, Bool, true, false, cond, List, length, min, refl, sym, ap, ◌∙◌, arith}
use Rattle.std.proofs.Math.Nat.{mod-eq_of_lt, mul_comm}
use Rattle.std.proofs.lemmas.Bool.{le-ltb}
use Rattle.std.proofs.lemmas.Nat.{mul-le}
use Rattle.std.specs.Prelude.{nat_lt}
use Rattle.std.specs.Simd.Lanes.{chunk, put_chunk}
use Rattle.rv_model.specs.declared.instructions.operations.UnitOp.{UnitOp}
use Rattle.rv_model.specs.declared.memory.Access.TheVariants.{Load, Store}
use Rattle.rv_model.specs.declared.step.memory_end.MemEnd.{MemEnd}
use Rattle.rv_model.specs.declared.step.memory_end.MemEnd.TheVariants.{Done, Cut}
use Rattle.rv_model.specs.declared.vector.sizes.TheConstants.{FILE_BYTES, VLENB}
use Rattle.rv_model.specs.declared.vector.state.VState.{VState}
use Rattle.rv_model.specs.accesses.AccessRuns.{AccessRun, access_ends, load_run, runs_to, store_run}
use Rattle.rv_model.specs.accesses.Transfers.{Plan, end_at, memory_stored, registers_loaded, stop_index, transfers}
use Rattle.rv_model.specs.accesses.VectorAccess.{is_first_only, plan}
use Rattle.rv_model.specs.elements.Elements.{Body}
use Rattle.rv_model.specs.memory.Memory.{Memory, bytes_at, can_access, put_bytes}
use Rattle.vector_memory.specs.Blocks.{IsBlock}
use Rattle.vector_memory.specs.Moves.{IsLoaded, IsStored}
use Rattle.vector_memory.specs.Runs.{RunLeaves}
use Rattle.vector_memory.specs.SegmentRoom.{HasRoom, operation_access, place_in, segments_access}
use Rattle.vector_memory.specs.declared.blocks.Block.{Block}
use Rattle.vector_memory.specs.declared.segments.Segments.{Segments}
use Rattle.vector_memory.proofs.BlockMoves.{block_ends, loads_block, stores_block}

-- `RunLeaves` holds for a run that reached any index
pub leaves : {run : AccessRun} {end : MemEnd} {v : VState} {m : Memory} (n : ℕ) → run ≡ runs_to end n v m → RunLeaves run end v m
leaves {run} {end} {v} {m} n is = is ∙ ap (λ k. runs_to end k v m) (sym (ap (λ r. r.reached) is))

-- the transfers are the same for each operation
plan_same : (op : UnitOp) (s : Segments) (body : Body) (address : ℕ → ℕ) (fill : Bool)
    → plan (operation_access op s body address) fill ≡ plan (segments_access s body address) fill
unfolding plan
plan_same op s body address fill = refl

module _ (op : UnitOp) (limit : ℕ) (s : Segments) (body : Body) (address : ℕ → ℕ) (v : VState) (m : Memory) (how : MemEnd) where
  pub load_runs : (fill : Bool) (file : List ℕ) → IsLoaded limit fill (segments_access s body address) m v.file how file
      → load_run limit fill (operation_access op s body address) v m
      ≡ access_ends (is_first_only op) body.end (record v { file = file }) m how
  unfolding load_run
  load_runs fill file h =
      let run : Plan → AccessRun = λ each.
      let stop = stop_index Load m each body.start (body.start + limit) body.end in
      access_ends (is_first_only op) body.end
      (record v { file = registers_loaded m (place_in s) v.file (transfers each body.start (stop - body.start)) }) m
      (end_at Load m each (body.start + limit) body.end stop) in
      let each = plan (segments_access s body address) fill in
      let end : MemEnd = end_at Load m each (body.start + limit) body.end (stop_index Load m each body.start (body.start + limit) body.end) in
      ap run (plan_same op s body address fill)
      ∙ ap (λ f. access_ends (is_first_only op) body.end (record v { file = f }) m end) (sym h.value)
      ∙ ap (access_ends (is_first_only op) body.end (record v { file = file }) m) (sym h.end)

  pub store_runs : (more : Memory) → IsStored limit (segments_access s body address) v.file m how more
      → store_run limit (operation_access op s body address) v m ≡ access_ends false body.end v more how
  unfolding store_run
  store_runs more h =
      let run : Plan → AccessRun = λ each.
      let stop = stop_index Store m each body.start (body.start + limit) body.end in
      access_ends false body.end v (memory_stored m (place_in s) v.file (transfers each body.start (stop - body.start)))
      (end_at Store m each (body.start + limit) body.end stop) in
      let each = plan (segments_access s body address) false in
      let end : MemEnd = end_at Store m each (body.start + limit) body.end (stop_index Store m each body.start (body.start + limit) body.end) in
      ap run (plan_same op s body address false)
      ∙ ap (λ n. access_ends false body.end v n end) (sym h.value)
      ∙ ap (access_ends false body.end v more) (sym h.end)

-- ---- a block of all elements

-- `count` elements of one field are inside the registers
pub whole_inside : (s : Segments) (count : ℕ) → s.fields ≡ 1 → HasRoom s count → VLENB * s.register + count * s.size ≤ FILE_BYTES
whole_inside s count alone room =
    omega (arith, mul_comm count s.size, room.room, room.inside, ap (λ n. n * s.field_registers) alone)

-- a block with this address, this place and this length is the block of all elements
pub whole_is_block : (s : Segments) (body : Body) (base stride : ℕ) (b : Block)
    → body.unmasked ≡ true → s.fields ≡ 1 → stride ≡ s.size → body.start ≡ 0 → HasRoom s body.end
    → b.address ≡ base → b.place ≡ VLENB * s.register → b.length ≡ body.end * s.size → base + body.end * s.size < 2 ^ 64
    → IsBlock s body (λ i. (base + i * stride) % 2 ^ 64) body.end b
whole_is_block s body base stride b unmasked alone apart first room address place bytes end =
    let size : ℕ = s.size in
    let all : body.end - body.start ≡ body.end = omega (arith, first) in
    let same : (body.end - body.start) * size ≡ body.end * size = ap (λ n. n * size) all in
    let none : body.start * size ≡ 0 = omega (arith, ap (λ n. n * size) first) in
    record {
      order = omega (arith, first);
      contiguous = record {
        unmasked = unmasked;
        alone = alone;
        follow = λ k h.
            let less : k < body.end = omega (arith, h, all) in
            let here : base + (body.start + k) * stride ≡ b.address + k * size =
            omega (arith, address, ap (λ n. (n + k) * stride) first, ap (λ n. k * n) apart) in
            ap (λ x. x % 2 ^ 64) here
            ∙ mod-eq_of_lt (omega (arith, address, end, mul-le k size body.end size (omega (arith, less)) (omega arith)));
        end = omega (arith, address, same, end);
      };
      place = omega (arith, place, none);
      length = bytes ∙ sym same;
      inside = omega (arith, place, bytes, whole_inside s body.end alone room);
    }

-- a run that is done, if vstart was 0 before
done_leaves : {run : AccessRun} {n : ℕ} (v : VState) (m : Memory) → v.vstart ≡ 0 → run ≡ runs_to Done n (record v { vstart = 0 }) m → RunLeaves run Done v m
done_leaves {run} {n} v m none is =
    let same : run ≡ runs_to Done n v m = is ∙ ap (λ k. runs_to Done n (record v { vstart = k }) m) (sym none) in
    leaves n same

module _ (s : Segments) (body : Body) (address : ℕ → ℕ) (b : Block) (is : IsBlock s body address body.end b)
    (v : VState) (m : Memory) (limit : ℕ) (first : body.start ≡ 0) (reach : body.end ≤ limit) (none : v.vstart ≡ 0) where
  all_come : body.end ≡ min body.end (body.start + limit)
  all_come = omega (arith, first, reach)

  not_cut : cond (nat_lt body.end body.end) (Cut body.end) Done ≡ Done
  not_cut = ap (λ x. cond x (Cut body.end) Done) (le-ltb body.end body.end (omega arith))

  -- a load that moves the block is done
  pub load_done : (op : UnitOp) (fill : Bool) (file : List ℕ)
      → can_access Load m b.address b.length ≡ true → file ≡ put_chunk b.place v.file (bytes_at m b.address b.length)
      → RunLeaves (load_run limit fill (operation_access op s body address) v m) Done (record v { file = file }) m
  load_done op fill file all moved =
      let stopped = block_ends s body address body.end b is fill Load m limit all_come all in
      done_leaves (record v { file = file }) m none
      (load_runs op limit s body address v m Done fill file (record {
        end = sym (stopped.end ∙ not_cut);
        value = moved ∙ loads_block s body address body.end b is fill m v.file ∙ ap (registers_loaded m (place_in s) v.file) (sym stopped.done);
      }))

  -- a store that moves the block is done
  pub store_done : (op : UnitOp) (more : Memory)
      → can_access Store m b.address b.length ≡ true → more ≡ put_bytes m b.address (chunk b.place b.length v.file)
      → length (chunk b.place b.length v.file) ≡ b.length
      → RunLeaves (store_run limit (operation_access op s body address) v m) Done v more
  store_done op more all moved whole =
      let stopped = block_ends s body address body.end b is false Store m limit all_come all in
      done_leaves v more none
      (store_runs op limit s body address v m Done more (record {
        end = sym (stopped.end ∙ not_cut);
        value = moved ∙ stores_block s body address body.end b is false m v.file whole ∙ ap (memory_stored m (place_in s) v.file) (sym stopped.done);
      }))
