use Rattle.std.proofs.Common.{◌≡◌, ◌≤◌, ◌+◌, ◌^◌, false, sym, ◌∙◌, refl, arith}
use Rattle.rv_model.specs.memory.Memory.{can_access_byte}
use Rattle.rv_model.proofs.memory_lemmas.Memory.{can_access_not, can_access_from}
use Rattle.user_mem.specs.Table.{memory_of}
use Rattle.user_mem.proofs.TableLaws.{not_allowed_beyond}
use Rattle.user_mem.proofs.RunLaws.{allowed_more}
use Rattle.user_mem.proofs.table.is_access_allowed.Goals as goal

pub returns-in_default : goal.returns-in_default
returns-in_default c = λ frames.
    let far : 2 ^ 64 ≤ c.args.addr + c.loop-done.done = omega (arith, c.in_default.ensures) in
    sym (can_access_not c.args.access (memory_of frames c.args.entries.now) c.args.addr c.args.len c.loop-done.done (c.args.addr + c.loop-done.done) c.loop-done-test.true refl (not_allowed_beyond c.args.access frames c.args.entries.now (c.args.addr + c.loop-done.done) c.requires.below (omega arith)))

pub returns-then-not-is_byte_allowed : goal.returns-then-not-is_byte_allowed
returns-then-not-is_byte_allowed c = λ frames.
    let refused : can_access_byte c.args.access (memory_of frames c.args.entries.now) c.in-Some.next ≡ false = sym (c.is_byte_allowed.ensures frames) ∙ c.if-not-is_byte_allowed.true in
    sym (can_access_not c.args.access (memory_of frames c.args.entries.now) c.args.addr c.args.len c.loop-done.done c.in-Some.next c.loop-done-test.true c.in-Some.ensures.1 refused)

pub loop-done-preserved : goal.loop-done-preserved
loop-done-preserved c = record {
  within = omega (arith, c.bytes_in_page-done.ensures);
  allowed = λ frames. allowed_more c.args.access frames c.args.entries.now c.args.addr c.loop-done.done c.in-Some.next c.bytes_in_page-done.result c.in-Some.ensures.1 (omega (arith, c.bytes_in_page-done.ensures))
      (sym (c.is_byte_allowed.ensures frames) ∙ c.if-not-is_byte_allowed.false) (c.loop-done.invariant.allowed frames);
}

pub returns : goal.returns
returns c = λ frames. sym (can_access_from c.args.access (memory_of frames c.args.entries.now) c.args.addr c.args.len (λ k l. c.loop-done.invariant.allowed frames k (omega arith)))
