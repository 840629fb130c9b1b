use Rattle.std.proofs.Common.{◌*◌, ◌&&◌, nat_lt}
use Rattle.rv_model.specs.elements.Formulas.{ones}
use Rattle.rv_model.specs.lending.Writes.{Writes}
use Rattle.rv_model.specs.vector.Groups.{width_bytes}
use Rattle.open_choices.specs.Fills.{is_open}
use Rattle.open_choices.proofs.overlay.fill_elements.Given as goal

-- the elements of the chunks so far
abbrev pub invariant-loop-c : goal.invariant-loop-c
invariant-loop-c g l =
    Writes (width_bytes g.L.Lane.width)
    (λ e. (is_open l.body l.masked_off l.tail e && g.C.Choices.takes l.choices e) && nat_lt e (l.count * l.c))
    (λ e. ones g.L.Lane.width) l.initial.group l.group
