use Rattle.std.proofs.Common.{◌+◌, length, get_or, refl, arith}
use Rattle.std.proofs.lemmas.Result.{err_from_is_err_and}
use Rattle.rv_model.specs.declared.assembler.forms.Slot.TheVariants.{Comma}
use Rattle.rv_model.specs.assembler.Table.{read_operands}
use Rattle.rv_asm.specs.Places.{rest}
use Rattle.rv_asm.proofs.Loop.{goes_on, slot_refused, token_left, all_slots_read, spans_more}
use Rattle.rv_asm.proofs.operands.read_operands.Goals as goal

pub returns-in_err-value : goal.returns-in_err-value
returns-in_err-value c =
    let end = length c.args.text.now + 1 in
    let p = err_from_is_err_and c.from_residual.result c.from_residual.ensures.1 in
    rw (p.1, p.2) (slot_refused c.args.slots.now c.loop-slot.slot-index end c.loop-slot.word (get_or c.args.slots.now c.loop-slot.slot-index Comma) Comma (rest c.args.text.now c.loop-slot.at) c.in_err-value.field-0.0.column (read_operands end c.args.bits c.args.slots.now (rest c.args.text.now c.args.start)) c.loop-slot-test.true refl c.in_err-value.ensures c.loop-slot.invariant.so_far)

pub loop-slot-preserved : goal.loop-slot-preserved
loop-slot-preserved c =
    let end = length c.args.text.now + 1 in
    let slots = c.args.slots.now in
    let i = c.loop-slot.slot-index in
    let given = c.in_ok-value.ensures in
    record {
      inside = given.1;
      fits = omega (arith, c.loop-slot.invariant.fits, c.placed-word.ensures.small, spans_more slots i Comma c.loop-slot-test.true);
      so_far = goes_on slots i end c.loop-slot.word c.in_ok-value.value c.placed-word.result (get_or slots i Comma) Comma (rest c.args.text.now c.loop-slot.at) (rest c.args.text.now c.in_ok-value.after) (read_operands end c.args.bits slots (rest c.args.text.now c.args.start)) c.loop-slot-test.true refl given.0 c.placed-word.ensures.value c.loop-slot.invariant.so_far;
    }

pub returns-in-Some : goal.returns-in-Some
returns-in-Some c = rw c.fault.ensures (token_left c.args.slots.now c.loop-slot.slot-index (length c.args.text.now + 1) c.loop-slot.word (record { column = c.in-Some.token.column; text = c.in-Some.token.text.now }) (rest c.args.text.now c.loop-slot.at) (rest c.args.text.now c.in-Some.field-0-1) (read_operands (length c.args.text.now + 1) c.args.bits c.args.slots.now (rest c.args.text.now c.args.start)) c.loop-slot-test.false c.in-Some.ensures.0 c.loop-slot.invariant.so_far)

pub returns-in-None : goal.returns-in-None
returns-in-None c = all_slots_read c.args.slots.now c.loop-slot.slot-index (length c.args.text.now + 1) c.loop-slot.word (rest c.args.text.now c.loop-slot.at) (read_operands (length c.args.text.now + 1) c.args.bits c.args.slots.now (rest c.args.text.now c.args.start)) c.loop-slot-test.false c.in-None.ensures c.loop-slot.invariant.so_far
