use Rattle.std.proofs.Common.{arith, ap, ◌∙◌, ℕ, min, ◌+◌, ◌*◌}
use Rattle.rv_model.specs.text.Digits.{digits_after}
use Rattle.rv_model.specs.lending.Text.{capped}
use Rattle.rv_model.proofs.text_lemmas.Digits.{digit_more, digit_stops, digits_end}
use Rattle.rv_model.proofs.text.digits.Goals as goal

pub returns-then-next-radix : goal.returns-then-next-radix
returns-then-next-radix c = digit_stops c.args.cap c.args.radix c.loop-byte.value c.loop-byte.byte-index c.args.word.now (capped c.args.cap (digits_after c.args.radix 0 c.args.word.now)) (omega arith) (omega arith) c.loop-byte.invariant.1

pub loop-byte-preserved : goal.loop-byte-preserved
loop-byte-preserved c = (omega arith, digit_more c.args.cap c.args.radix c.loop-byte.value c.loop-byte.byte-index c.min-value.result c.args.word.now (capped c.args.cap (digits_after c.args.radix 0 c.args.word.now)) (omega arith) (omega arith) (omega arith) (c.min-value.ensures ∙ ap (λ (d : ℕ). min (c.loop-byte.value * c.args.radix + d) c.args.cap) c.digit-next.ensures) c.loop-byte.invariant.1)

pub returns : goal.returns
returns c = digits_end c.args.cap c.args.radix c.loop-byte.value c.loop-byte.byte-index c.args.word.now (capped c.args.cap (digits_after c.args.radix 0 c.args.word.now)) (omega arith) (omega arith) c.loop-byte.invariant.1
