use Rattle.std.proofs.Common.{◌≡◌, ℕ, ◌+◌, ◌*◌, ◌<◌, ◌≤◌, Fits, List, drop, get_or, length, length-drop, length-take, false, subst, sym, ap, ◌∙◌, arith}
use Rattle.std.specs.Int.{w8}
use Rattle.std.specs.Simd.Lanes.{chunk}
use Rattle.std.proofs.Math.Nat.{mul-le-mul_left}
use Rattle.rv_model.proofs.element_lemmas.Widths.{bytes_positive}
use Rattle.rv_model.specs.declared.vector.sizes.TheConstants.{VLENB}
use Rattle.rv_model.specs.elements.Elements.{Body, element, is_changed, result_or_ones}
use Rattle.rv_model.specs.elements.Formulas.{ones}
use Rattle.rv_model.specs.lending.Writes.{Writes}
use Rattle.rv_model.specs.vector.Groups.{width_bytes}
use Rattle.vector_memory.proofs.BlendMoves.{blend_stored, span_length}
use Rattle.vector_memory.proofs.SpanMoves.{part_at}
use Rattle.vector_memory.proofs.spans.Span.write_blend.Goals as goal

pub returns : goal.returns
returns g c = λ m.
    let s = c.args.self.now.segments in
    let stop = c.args.self.now.stop in
    let b = c.args.self.now in
    let w = g.L.Lane.width in
    let k = width_bytes w in
    let bytes = c.args.bytes.now in
    let file = c.args.file.now in
    let new = c.blend.new.destination in
    let at = VLENB * s.register in
    let place : c.place-place.result ≡ VLENB * s.register = omega (arith, c.place-place.ensures.value) in
    let count : length bytes ≡ k * stop = c.requires.length ∙ span_length b w c.requires.size c.requires.blend in
    let group : c.part-group.result.now ≡ chunk (VLENB * s.register) (k * stop) file =
    c.part-group.ensures.value ∙ part_at _ (VLENB * s.register) _ file place ∙ ap (λ n. chunk (VLENB * s.register) n file) count in
    let long : length (chunk (VLENB * s.register) (k * stop) file) ≡ k * stop = sym (ap length group) ∙ omega (arith, c.part-group.ensures.len, count) in
    let some_one : 1 ≤ stop = omega (arith, b.span.some) in
    let some : 1 ≤ k * stop = omega (arith, bytes_positive w, mul-le-mul_left k some_one) in
    let fitting : VLENB * s.register + k * stop ≤ length file =
    omega (arith, long, some, length-take (k * stop) (drop (VLENB * s.register) file), length-drop (VLENB * s.register) file) in
    let writes = subst (λ (p : Body). Writes k (is_changed p false false) (result_or_ones p (λ i. element k (chunk (VLENB * s.register) (k * stop) file) i) (ones w)) bytes new) c.part.ensures
    (subst (λ (l : List ℕ). Writes k (is_changed c.part.result false false) (result_or_ones c.part.result (λ i. element k l i) (ones w)) bytes new) group c.blend.ensures.writes) in
    let below : (j : ℕ) → Fits w8 (get_or (chunk (VLENB * s.register) (k * stop) file) j 0) = λ j. record { fits = subst (λ (l : List ℕ). get_or l j 0 < 256) group (c.blend.ensures.bytes j) } in
    blend_stored m b w c.requires.size c.requires.blend file fitting bytes c.requires.length below new writes
