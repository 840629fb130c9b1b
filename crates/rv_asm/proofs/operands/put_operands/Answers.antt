use Rattle.std.proofs.Common.{◌+◌, ◌++◌, List, ℕ, drop, get_or, sym, ap, ◌∙◌, append_assoc, arith}
use Rattle.std.proofs.lemmas.List.{append-nil}
use Rattle.rv_model.specs.declared.assembler.forms.Slot.TheVariants.{Comma}
use Rattle.rv_model.specs.assembler.Slots.{printed}
use Rattle.rv_model.specs.assembler.Fields.{value_of}
use Rattle.rv_model.specs.assembler.Table.{printed_operands}
use Rattle.rv_asm.proofs.Loop.{printed_more, printed_end}
use Rattle.rv_asm.proofs.operands.put_operands.Goals as goal

pub loop-slot-preserved : goal.loop-slot-preserved
loop-slot-preserved c =
    let slots = c.args.slots.now in
    let i = c.loop-slot.slot-index in
    let s = get_or slots i Comma in
    let out = c.loop-slot.out.bytes in
    let more = printed_operands (drop (i + 1) slots) c.args.word in
    let text = printed s (value_of s c.args.word) in
    record {
      room = omega (arith, c.put_slot.ensures.grows, c.loop-slot.invariant.room);
      text =
          ap (λ (t : List ℕ). t ++ more) (c.put_slot.ensures.bytes ∙ ap (λ (v : ℕ). out ++ printed s v) c.value_of.ensures.value)
          ∙ append_assoc out text more
          ∙ ap (λ (t : List ℕ). out ++ t) (sym (printed_more slots i c.args.word Comma c.loop-slot-test.true))
          ∙ c.loop-slot.invariant.text;
    }

pub returns : goal.returns
returns c = record {
  bytes =
      sym (append-nil c.loop-slot.out.bytes)
      ∙ ap (λ (t : List ℕ). c.loop-slot.out.bytes ++ t) (sym (printed_end c.args.slots.now c.loop-slot.slot-index c.args.word c.loop-slot-test.false))
      ∙ c.loop-slot.invariant.text;
}
