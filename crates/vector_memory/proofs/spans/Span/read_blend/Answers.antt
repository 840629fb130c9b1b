use Rattle.std.proofs.Common.{◌≡◌, ℕ, ◌+◌, ◌*◌, ◌≤◌, List, length, false, subst, ap, ◌∙◌, arith}
use Rattle.std.specs.Simd.Lanes.{chunk, put_chunk}
use Rattle.rv_model.specs.declared.vector.sizes.TheConstants.{VLENB}
use Rattle.rv_model.specs.elements.Elements.{Body, element, is_changed, result_or_ones}
use Rattle.rv_model.specs.elements.Formulas.{ones}
use Rattle.rv_model.specs.lending.Writes.{Writes}
use Rattle.rv_model.specs.vector.Groups.{width_bytes}
use Rattle.vector_memory.proofs.BlendMoves.{blend_loaded, span_length}
use Rattle.vector_memory.proofs.SpanMoves.{part_at}
use Rattle.vector_memory.proofs.spans.Span.read_blend.Goals as goal

pub returns : goal.returns
returns g c = λ m read.
    let s = c.args.self.now.segments in
    let stop = c.args.self.now.stop in
    let b = c.args.self.now in
    let w = g.L.Lane.width in
    let k = width_bytes w in
    let fill = c.args.fill in
    let bytes = c.args.bytes.now in
    let file = c.args.file.now in
    let new = c.blend.new.destination in
    let number : ℕ → ℕ = λ i. element k bytes i in
    let place : c.place-place.result ≡ VLENB * s.register = omega (arith, c.place-place.ensures.value) in
    let count : length bytes ≡ k * stop = c.requires.length ∙ span_length b w c.requires.size c.requires.blend in
    let group : c.part_mut-group.result.now ≡ chunk (VLENB * s.register) (k * stop) file =
    c.part_mut-group.ensures.value ∙ part_at _ (VLENB * s.register) _ file place ∙ ap (λ n. chunk (VLENB * s.register) n file) count in
    let fitting : VLENB * s.register + k * stop ≤ length file = omega (arith, c.part_mut-group.ensures.whole, b.span.room.room, b.span.room.inside, ap (λ n. n * s.field_registers) c.requires.blend.alone, ap (λ n. n * stop) c.requires.size) in
    let writes = subst (λ (p : Body). Writes k (is_changed p fill false) (result_or_ones p number (ones w)) (chunk (VLENB * s.register) (k * stop) file) new) c.part.ensures
    (subst (λ (l : List ℕ). Writes k (is_changed c.part.result fill false) (result_or_ones c.part.result number (ones w)) l new) group c.blend.ensures.writes) in
    ap (λ n. put_chunk n file new) place
    ∙ blend_loaded m b w c.requires.size c.requires.blend file fitting fill bytes read c.type_inv.bytes new writes
