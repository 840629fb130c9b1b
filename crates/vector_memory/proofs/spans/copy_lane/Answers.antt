use Rattle.std.proofs.Common.{◌≡◌, ◌*◌, length, sym, ap, ◌∙◌, arith}
use Rattle.std.specs.Int.{bytes_low_first, w8}
use Rattle.std.specs.Simd.Lanes.{chunk, put_chunk}
use Rattle.std.proofs.lemmas.List.{take_all}
use Rattle.std.proofs.lemmas.Simd.{below_from_Fits, chunk-fits, put_chunk_whole}
use Rattle.rv_model.specs.vector.Groups.{width_bytes}
use lib.Lanes.{number_l}
use Rattle.vector_memory.proofs.BlendMoves.{number_back}
use Rattle.vector_memory.proofs.spans.copy_lane.Goals as goal

pub returns : goal.returns
returns g c =
    let k = width_bytes g.L.Lane.width in
    let source = c.args.source.now in
    let old = c.args.destination.now in
    let first : k * 0 ≡ 0 = omega arith in
    let whole : chunk (k * 0) k source ≡ source = ap (λ i. chunk i k source) first ∙ take_all k source (omega (arith, c.requires.source)) in
    let same : bytes_low_first 0 k (number_l 256 (chunk (k * 0) k source)) ≡ source =
    number_back k (chunk (k * 0) k source) (ap length whole ∙ c.requires.source)
    (below_from_Fits w8 (chunk (k * 0) k source) (chunk-fits w8 (k * 0) k source c.type_inv.source)) ∙ whole in
    c.store.ensures ∙ ap (λ n. put_chunk (k * 0) old (bytes_low_first 0 k n)) c.load.ensures
    ∙ ap (λ xs. put_chunk (k * 0) old xs) same ∙ ap (λ i. put_chunk i old source) first
    ∙ put_chunk_whole old source (c.requires.destination ∙ sym c.requires.source)
