use Rattle.std.proofs.Common.{◌∙◌, ap, refl}
use Rattle.rv_model.specs.vector.Groups.{register_of, with_group}
use Rattle.rv_model.proofs.element_lemmas.Arithmetic.{mask_results_are}
use Rattle.vec_unit.proofs.mask_operations.set_mask.Goals as goal

pub returns : goal.returns
unfolding register_of
returns c = λ body bit was.
    ap (with_group c.args.file.now c.args.vd) c.copy_from_slice.ensures.after
    ∙ mask_results_are c.args.vd body bit bit c.args.file.now c.args.mask.now (λ i h. refl) was
