use Rattle.std.proofs.Common.{ℕ, ◌*◌, ◌<◌, ◌≡◌, false}
use Rattle.rv_model.specs.elements.Masks.{is_set}
use Rattle.mask_unit.proofs.set_bits.first.Given as goal

abbrev pub invariant-loop-word : goal.invariant-loop-word
invariant-loop-word l = (i : ℕ) → i < 32 * l.word → is_set l.body l.bits i ≡ false
