-- Return of a borrowed vector state ("V" Vector Extension 1.0, section 3; Privileged Architecture 20211203, section 3.1.6.6, the field
-- VS: a changed state is dirty).
use Rattle.std.specs.Prelude.{◌≡◌, ◌⊎◌, true}
use Rattle.rv_model.specs.declared.vector.state.Seat.{Seat}

-- the returned state is marked as dirty, or equals the borrowed one
abbrev pub IsGivenBack : Seat → Seat → Type 0
IsGivenBack lent back = (back.dirty ≡ true) ⊎ (back ≡ lent)
