use Rattle.std.proofs.Common.{ℕ, ◌*◌, ◌+◌, ◌^◌, ◌%◌, ◌≤◌, ◌∙◌, ap, arith}
use Rattle.rv_model.specs.elements.Elements.{in_range}
use Rattle.rv_model.specs.vector.Groups.{width_bytes}
use Rattle.rv_model.proofs.element_lemmas.Reads.{low_bits_fit}
use Rattle.rv_model.proofs.element_lemmas.Sets.{inside_range, room_for}
use Rattle.rv_model.proofs.element_lemmas.Writes.{written_element}
use Rattle.vec_unit.proofs.operands.repeated.Goals as goal

pub returns-clause-elements : goal.returns-clause-elements
returns-clause-elements g c = λ i h.
    let k : ℕ = width_bytes g.L.Lane.width in
    let fits : k * i + k ≤ 256 = room_for k i c.args.count 256 h c.requires.room in
    written_element k (in_range 0 c.args.count) (λ e. g.L.Lane.value c.low_bits.result) _ c.fill.new.destination i c.fill.ensures
    (inside_range 0 c.args.count i (omega arith) h) (omega (arith, fits, c.told-copy))
    ∙ ap (λ n. n % 256 ^ k) c.low_bits.ensures ∙ low_bits_fit c.args.number g.L.Lane.width
