use Rattle.std.proofs.Common.{◌∙◌, length, take, drop, ◌+◌, ◌-◌, arith}
use Rattle.user_mem.proofs.RunLaws.{page_read, part_at, part_length}
use Rattle.user_mem.proofs.TranslationLaws.{lies_accessed, lies_allowed, lies_from, lies_within}
use Rattle.user_mem.proofs.access.try_read.Goals as goal

pub overflow_add-at : goal.overflow_add-at
overflow_add-at c = record { fits = omega (arith, lies_within c.args.entries.now c.args.access c.args.addr (length c.args.buffer.now) c.in-Some.at (c.in-Some.ensures c.args.entries.now c.requires.translated) (length c.args.frames.now) c.requires.fit, c.type_inv.frames) }

pub slice_bounds-copy_from_slice-end : goal.slice_bounds-copy_from_slice-end
slice_bounds-copy_from_slice-end c = omega (arith, lies_within c.args.entries.now c.args.access c.args.addr (length c.args.buffer.now) c.in-Some.at (c.in-Some.ensures c.args.entries.now c.requires.translated) (length c.args.frames.now) c.requires.fit)

pub returns-in-Some-clause-allowed : goal.returns-in-Some-clause-allowed
returns-in-Some-clause-allowed c =
    λ _. lies_accessed c.args.entries.now c.args.access c.args.addr (length c.args.buffer.now) c.in-Some.at (c.in-Some.ensures c.args.entries.now c.requires.translated) c.args.frames.now

pub returns-in-Some-clause-value : goal.returns-in-Some-clause-value
returns-in-Some-clause-value c = λ _.
    let es = c.args.entries.now in
    let frames = c.args.frames.now in
    let access = c.args.access in
    let a = c.args.addr in
    let n = length c.args.buffer.now in
    let at = c.in-Some.at in
    let lies = (c.in-Some.ensures c.args.entries.now c.requires.translated) in
    c.copy_from_slice.ensures.after
    ∙ page_read access frames es a at n (take ((at + n) - at) (drop at frames)) lies.one_page (lies_allowed es access a n at lies frames) (lies_from es access a n at lies)
    (part_length frames at n (lies_within es access a n at lies (length frames) c.requires.fit)) (part_at frames at n)
