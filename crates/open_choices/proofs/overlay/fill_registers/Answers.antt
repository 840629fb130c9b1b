use Rattle.std.proofs.Common.{ℕ, ◌&&◌, Bool, subst}
use Rattle.std.specs.Int.{Width}
use Rattle.rv_model.specs.elements.Elements.{Body}
use Rattle.rv_model.specs.elements.Formulas.{ones}
use Rattle.rv_model.specs.lending.Writes.{Writes}
use Rattle.rv_model.specs.vector.Groups.{group_of, width_bytes}
use Rattle.open_choices.specs.Fills.{Fill, is_filled, is_open}
use Rattle.open_choices.specs.Groups.{fill_of_group}
use Rattle.open_choices.proofs.OpenGroups.{ones_are}
use Rattle.open_choices.proofs.overlay.fill_registers.Goals as goal

pub returns : goal.returns
returns g c = λ same.
    let group = c.args.group.now in
    let f : Fill = fill_of_group group in
    let old = group_of c.args.file.now group.first group.emul in
    let new = c.fill_elements.new.group in
    let takes : ℕ → Bool = g.C.Choices.takes c.args.choices.now in
    ones_are f (λ i. is_filled f i && takes i) c.args.file.now new
    (subst (λ (w : Width). Writes (width_bytes w) (λ i. is_filled f i && takes i) (λ i. ones w) old new) same
    (subst (λ (b : Body). Writes (width_bytes g.L.Lane.width) (λ i. is_open b group.masked_off group.tail i && takes i) (λ i. ones g.L.Lane.width) old new) c.new-body.ensures
    (subst (λ bytes. Writes (width_bytes g.L.Lane.width) (λ i. is_open c.new-body.result group.masked_off group.tail i && takes i) (λ i. ones g.L.Lane.width) bytes new)
    c.group_mut-bytes.ensures.value c.fill_elements.ensures)))
