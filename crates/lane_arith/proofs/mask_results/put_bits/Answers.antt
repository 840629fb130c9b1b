use Rattle.std.proofs.Common.{◌≡◌, ◌/◌, ◌%◌, ◌^◌, ◌<◌, ◌==◌, ℕ, List, arith, ap, cond, get_or, length, sym, zero-add, ◌∙◌}
use Rattle.std.proofs.lemmas.Simd.{get_or-chunk, put_chunk_whole}
use lib.Lanes.{chunk}
use Rattle.rv_model.specs.elements.Elements.{is_active, mask_bit}
use Rattle.lane_arith.proofs.MaskBytes.{register_written}
use Rattle.lane_arith.proofs.mask_results.put_bits.Goals as goal

-- a bit of the 32 bytes that the function reads
read_bit : (old : List ℕ) (i : ℕ) → length old ≡ 32 → i < 256 → mask_bit (chunk 0 32 old) i ≡ mask_bit old i
read_bit old i long h =
    ap (λ x. x / 2 ^ (i % 8) % 2 == 1) (get_or-chunk 0 32 old (i / 8) 0 (omega (arith, h)) ∙ ap (λ k. get_or old k 0) (zero-add (i / 8)))

pub returns-clause-done : goal.returns-clause-done
returns-clause-done c = λ e.
    let old : List ℕ = c.args.destination.now in
    let made : List ℕ = c.replaced_bytes.result in
    let long : length old ≡ 32 = omega (arith, c.if-destination-ne-VLENB.false) in
    rw (put_chunk_whole old made (long ∙ sym c.replaced_bytes.ensures.length))
    (register_written (is_active c.args.body.now) (mask_bit c.args.results) old made long c.replaced_bytes.ensures.length c.replaced_bytes.ensures.bytes
    (λ i h. c.replaced_bytes.ensures.bits i h ∙ ap (λ t. cond t (mask_bit c.args.results i) (mask_bit (chunk 0 32 old) i)) (c.active_bytes.ensures i h)
    ∙ ap (cond (is_active c.args.body.now i) (mask_bit c.args.results i)) (read_bit old i long h)))
