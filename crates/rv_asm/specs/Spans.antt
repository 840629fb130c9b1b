-- The bits that operands can set
use Rattle.std.specs.Prelude.{ℕ, ◌+◌, List, [], ◌∷◌}
use Rattle.rv_model.specs.instructions.FixedBits.{mask_of}
use Rattle.rv_model.specs.assembler.Fields.{parts_of}
use Rattle.rv_model.specs.declared.assembler.forms.Slot.{Slot}

-- the mask of a slot's operand: ones at its bits
abbrev pub span : Slot → ℕ
span slot = mask_of 0 (parts_of slot 0)

-- the sum of the masks of slots
abbrev pub spans : List Slot → ℕ
spans [] = 0
spans (s ∷ ss) = span s + spans ss
