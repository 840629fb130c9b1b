use Rattle.std.proofs.Common.{◌≡◌, ℕ, ◌++◌, ◌/◌, ◌<◌, ap, ◌∙◌, subst, arith}
use Rattle.rv_model.specs.commands.Registers.{element_text}
use Rattle.rv_model.specs.vector.Groups.{sew_bits}
use Rattle.monitor_cmds.proofs.PrintingLaws.{whole_stays_after_a_number, bytes_and_bits_count_the_same_elements}
use Rattle.monitor_cmds.proofs.commands.registers.push_elements.Goals as goal

pub loop-index-preserved : goal.loop-index-preserved
loop-index-preserved c =
    let size : c.from-size.result / 8 ≡ sew_bits c.args.width / 8 = ap (λ (n : ℕ). n / 8) (c.from-size.ensures ∙ c.bits.ensures) in
    let IsBefore : ℕ → Type 0 = λ n. c.loop-index.index < n in
    let before : c.loop-index.index < 256 / sew_bits c.args.width = subst IsBefore (ap (λ (n : ℕ). 32 / n) size ∙ bytes_and_bits_count_the_same_elements c.args.width) c.loop-index-test.true in
    let piece = c.push_element.ensures.text ∙ ap (λ (n : ℕ). c.loop-index.reply ++ element_text n c.args.register.now c.loop-index.index) size in
    record {
      room = omega arith;
      text = whole_stays_after_a_number (element_text (sew_bits c.args.width / 8) c.args.register.now) (256 / sew_bits c.args.width) c.loop-index.index _ _ _ before piece c.loop-index.invariant.text;
    }
