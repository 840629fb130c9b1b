-- The result of moving a block of bytes, and where an instruction that moves one stops.
use Rattle.std.proofs.Common.{◌≡◌, ℕ, zero, suc, ◌+◌, ◌-◌, ◌*◌, Bool, true, cond, List, [], ◌∷◌, length, min, refl, sym, ap, ◌∙◌, arith}
use Rattle.std.specs.Prelude.{nat_lt}
use Rattle.std.specs.Simd.Lanes.{chunk, put_chunk}
use Rattle.rv_model.specs.declared.memory.Access.{Access}
use Rattle.rv_model.specs.declared.step.memory_end.MemEnd.TheVariants.{Done, Cut}
use Rattle.rv_model.specs.accesses.Transfers.{Moved, registers_loaded, memory_stored, transfers}
use Rattle.rv_model.specs.accesses.VectorAccess.{plan}
use Rattle.rv_model.specs.elements.Elements.{Body}
use Rattle.rv_model.specs.memory.Memory.{Memory, bytes_at, can_access, put_bytes}
use Rattle.rv_model.proofs.access_lemmas.Contiguous.{block_allowed, block_loaded, block_stored, stops_all}
use Rattle.rv_model.proofs.access_lemmas.Stops.{Stopped}
use Rattle.vector_memory.specs.Blocks.{IsBlock}
use Rattle.vector_memory.specs.SegmentRoom.{segments_access, place_in}
use Rattle.vector_memory.specs.declared.blocks.Block.{Block}
use Rattle.vector_memory.specs.declared.segments.Segments.{Segments}

-- writing bytes to the place that they come from changes nothing
pub put_same : (at n : ℕ) (file : List ℕ) → put_chunk at file (chunk at n file) ≡ file
put_same at n [] = refl
put_same zero zero (x ∷ file) = refl
put_same zero (suc n) (x ∷ file) = ap (λ bytes. x ∷ bytes) (put_same zero n file)
put_same (suc at) n (x ∷ file) = ap (λ bytes. x ∷ bytes) (put_same at n file)

module _ (s : Segments) (body : Body) (address : ℕ → ℕ) (stop : ℕ) (b : Block) (is : IsBlock s body address stop b) (fill : Bool) where
  -- an instruction that moves the block stops after its last index
  pub block_ends : (access : Access) (m : Memory) (limit : ℕ) → stop ≡ min body.end (body.start + limit) → can_access access m b.address b.length ≡ true
      → Stopped access m (plan (segments_access s body address) fill) body.start (body.start + limit) body.end stop (cond (nat_lt stop body.end) (Cut stop) Done)
  block_ends access m limit e all =
      let count : body.start + (stop - body.start) ≡ stop = omega (arith, is.order) in
      stops_all access m (plan (segments_access s body address) fill) body.start (body.start + limit) body.end stop e (omega arith)
      (λ k low high. block_allowed (segments_access s body address) fill body.start (stop - body.start) b.address is.contiguous access m
      (ap (can_access access m b.address) (sym is.length) ∙ all) k low (omega (arith, high, count)))

  -- the first byte of the block in the register file
  abbrev first_byte : ℕ
  first_byte = place_in s (record { index = body.start; field = 0; size = s.size; kind = Moved b.address })

  pub loads_block : (m : Memory) (file : List ℕ)
      → put_chunk b.place file (bytes_at m b.address b.length)
      ≡ registers_loaded m (place_in s) file (transfers (plan (segments_access s body address) fill) body.start (stop - body.start))
  loads_block m file =
      let at : b.place ≡ first_byte = omega (arith, is.place) in
      ap (λ p. put_chunk p file (bytes_at m b.address b.length)) at ∙ ap (λ n. put_chunk first_byte file (bytes_at m b.address n)) is.length
      ∙ sym (block_loaded (segments_access s body address) fill body.start (stop - body.start) b.address is.contiguous m file)

  pub stores_block : (m : Memory) (file : List ℕ) → length (chunk b.place b.length file) ≡ b.length
      → put_bytes m b.address (chunk b.place b.length file)
      ≡ memory_stored m (place_in s) file (transfers (plan (segments_access s body address) fill) body.start (stop - body.start))
  stores_block m file whole =
      let at : b.place ≡ first_byte = omega (arith, is.place) in
      ap (λ p. put_bytes m b.address (chunk p b.length file)) at ∙ ap (λ n. put_bytes m b.address (chunk first_byte n file)) is.length
      ∙ sym (block_stored (segments_access s body address) fill body.start (stop - body.start) b.address is.contiguous m file
      (ap (λ p. length (chunk p ((stop - body.start) * s.size) file)) (sym at) ∙ ap (λ n. length (chunk b.place n file)) (sym is.length) ∙ whole ∙ is.length))
