use Rattle.std.proofs.Common.{refl, sym, ◌∙◌}
use Rattle.lane_arith.proofs.mask_bytes.active_bytes.Goals as goal

pub returns : goal.returns
returns c = λ i h.
    rw (c.and_bytes.ensures i h, c.range_bytes-range.ensures i h, c.start.ensures, c.end.ensures.value, c.mask.ensures, sym (sym c.if-is_unmasked.false ∙ c.is_unmasked.ensures)) refl
