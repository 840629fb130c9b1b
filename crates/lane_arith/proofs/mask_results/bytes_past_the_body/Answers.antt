use Rattle.rv_model.specs.elements.Elements.{is_active}
use Rattle.rv_model.proofs.element_lemmas.Bits.{byte_kept}
use Rattle.rv_model.proofs.element_lemmas.Sets.{active_end}
use Rattle.lane_arith.proofs.mask_results.bytes_past_the_body.Goals as goal

pub returns : goal.returns
returns g c = λ q past.
    byte_kept (is_active c.args._body.now) (g.R.MaskResults.bit c.args._results.now) q c.args._body.now.end c.args._bytes.now
    (c.type_inv._bytes q).fits (active_end c.args._body.now) past
