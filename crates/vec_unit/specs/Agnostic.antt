-- Elements that become all ones before results are written ("V" Vector Extension 1.0, section 3.4.3).
use Rattle.std.specs.Prelude.{ℕ, ◌&&◌, ◌||◌, nat_le, Bool}
use Rattle.rv_model.specs.elements.Elements.{Body, in_body}

-- elements of the body and of the tail, if the flags are set; results then replace the active ones
abbrev pub is_agnostic : Body → Bool → Bool → ℕ → Bool
is_agnostic body fill_masked_off fill_tail i = (fill_masked_off && in_body body i) || (fill_tail && nat_le body.end i)
