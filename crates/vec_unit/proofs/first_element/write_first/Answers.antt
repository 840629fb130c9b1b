use Rattle.std.proofs.Common.{◌≡◌, ◌∙◌, ◌&&◌, Bool, true, false, refl}
use Rattle.rv_model.specs.declared.vector.policy.Policy.TheVariants.{Ones}
use Rattle.rv_model.specs.declared.vector.types.Lmul.TheVariants.{M1}
use Rattle.rv_model.specs.declared.vector.types.Sew.TheVariants.{E8}
use Rattle.rv_model.specs.declared.vector.types.VType.{VType}
use Rattle.rv_model.proofs.element_lemmas.Tails.{first_result_is}
use Rattle.vec_unit.proofs.first_element.write_first.Goals as goal

-- the tail is filled only if the body has an element
some_tail : (fill some : Bool) → (fill ≡ true → some ≡ true) → (fill && some) ≡ fill
some_tail true some h = h refl
some_tail false some h = refl

pub returns : goal.returns
returns g c =
    let to = c.args.to in
    let fill : Bool = to.fill_tail in
    let t : VType = record { sew = E8; lmul = M1; tail_agnostic = fill; mask_agnostic = false } in
    let is = some_tail fill _ c.requires.tail in
    (rw (c.new-first.ensures, c.with_masked_off_unchanged.ensures, c.mask.ensures, c.from.ensures, c.start.ensures, c.end.ensures.value) at c.write_group.ensures)
    ∙ (rw is at (first_result_is g.L.Lane.width to.vd Ones t c.args.body.now (g.L.Lane.value c.args.number) c.args.file.now))
