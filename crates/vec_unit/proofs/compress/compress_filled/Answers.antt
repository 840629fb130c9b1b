use Rattle.std.proofs.Common.{ℕ, List, subst}
use Rattle.rv_model.specs.elements.Elements.{element, in_range}
use Rattle.rv_model.specs.elements.Formulas.{ones}
use Rattle.rv_model.specs.elements.PermutationResults.{packed}
use Rattle.rv_model.specs.lending.Writes.{Writes}
use Rattle.rv_model.specs.vector.Groups.{width_bytes}
use Rattle.rv_model.proofs.element_lemmas.Packed.{packed_few, packed_then_filled}
use Rattle.rv_model.proofs.element_lemmas.Widths.{bytes_positive}
use Rattle.vec_unit.proofs.compress.compress_filled.Goals as goal

pub returns-then-fill_tail : goal.returns-then-fill_tail
returns-then-fill_tail g c =
    let k : ℕ = width_bytes g.L.Lane.width in
    let end : ℕ = c.args.end in
    let numbers : List ℕ = packed c.args.select.now (element k c.args.a.now) end in
    let filled : Writes k (in_range end c.args.count) (λ e. ones g.L.Lane.width) c.compress.new.destination c.fill.new.destination =
    subst (λ n. Writes k (in_range end c.args.count) (λ e. n) c.compress.new.destination c.fill.new.destination) c.all_ones.ensures c.fill.ensures in
    rw c.if-fill_tail.true
    (packed_then_filled k end c.args.count numbers (ones g.L.Lane.width) c.args.destination.now c.compress.new.destination c.fill.new.destination
    (bytes_positive g.L.Lane.width) c.requires.whole (packed_few c.args.select.now (element k c.args.a.now) end) c.compress.ensures filled)
