use Rattle.std.proofs.Common.{ℕ, ◌≡◌, ◌*◌, length, subst, ap, sym, ◌∙◌}
use Rattle.rv_model.specs.elements.Elements.{in_range}
use Rattle.rv_model.specs.lending.Writes.{Writes}
use Rattle.rv_model.specs.vector.Groups.{width_bytes, group_of}
use Rattle.rv_model.proofs.element_lemmas.Tails.{tail_is_filled}
use Rattle.vec_unit.proofs.tails.fill_tail.Goals as goal

pub returns : goal.returns
returns g c =
    let k : ℕ = width_bytes g.L.Lane.width in
    let long : length (group_of c.args.file.now c.args.vd c.args.emul) ≡ k * c.args.count =
    sym (ap length c.group_mut-group.ensures.value) ∙ (c.group_mut-group.ensures.len ∙ c.requires.holds.whole) in
    let filled : Writes k (in_range c.args.start c.args.count) (λ e. g.L.Lane.value c.all_ones.result) (group_of c.args.file.now c.args.vd c.args.emul)
    c.fill.new.destination =
    rw (← c.group_mut-group.ensures.value) c.fill.ensures in
    tail_is_filled (record { width = g.L.Lane.width; emul = c.args.emul }) c.args.vd c.args.start c.args.count c.args.file.now c.fill.new.destination
    long
    (subst (λ n. Writes k (in_range c.args.start c.args.count) (λ e. n) (group_of c.args.file.now c.args.vd c.args.emul) c.fill.new.destination)
    c.all_ones.ensures filled)
