use Rattle.std.proofs.Common.{◌≡◌, ◌≤◌, drop}
use Rattle.rv_model.specs.text.Digits.{digits_after}
use Rattle.rv_model.specs.lending.Text.{capped}
use Rattle.rv_model.proofs.text.digits.Given as goal

abbrev pub invariant-loop-byte : goal.invariant-loop-byte
invariant-loop-byte l = (l.value ≤ l.cap) × (capped l.cap (digits_after l.radix l.value (drop l.byte-index l.word)) ≡ capped l.cap (digits_after l.radix 0 l.word))
