use Rattle.std.proofs.Common.{◌≡◌, ◌+◌, ◌-◌, ◌≤◌, length, sym, subst, arith}
use borrow.Rule.Slice.PartMut.{put_mid}
use Rattle.rv_model.specs.declared.memory.Access.TheVariants.{Store}
use Rattle.rv_model.specs.memory.Memory.{put_bytes}
use Rattle.user_mem.specs.Table.{memory_of}
use Rattle.user_mem.proofs.EditLaws.{kept, page_lent, pasted}
use Rattle.user_mem.proofs.RunLaws.{others_unwritten, part_length, run_written}
use Rattle.user_mem.proofs.TranslationLaws.{lies_allowed, lies_first, lies_from, lies_within}
use Rattle.user_mem.proofs.access.edit_page.Goals as goal

pub overflow_add-at : goal.overflow_add-at
overflow_add-at g c = record { fits = omega (arith, lies_within c.args.entries.now Store c.args.addr 4096 c.in-Some.at (c.in-Some.ensures c.args.entries.now c.requires.translated) (length c.args.frames.now) c.requires.fit) }

pub slice_bounds-edit-end : goal.slice_bounds-edit-end
slice_bounds-edit-end g c = omega (arith, lies_within c.args.entries.now Store c.args.addr 4096 c.in-Some.at (c.in-Some.ensures c.args.entries.now c.requires.translated) (length c.args.frames.now) c.requires.fit)

pub edit-next-requires : goal.edit-next-requires
edit-next-requires g c =
    let es = c.args.entries.now in
    let frames = c.args.frames.now in
    let lies = c.in-Some.ensures es c.requires.translated in
    record { end = omega (arith, part_length frames c.in-Some.at 4096 (lies_within es Store c.args.addr 4096 c.in-Some.at lies (length frames) c.requires.fit), lies.one_page) }

pub returns-in-Some-clause-changed : goal.returns-in-Some-clause-changed
returns-in-Some-clause-changed g c =
    let es = c.args.entries.now in
    let frames = c.args.frames.now in
    let a = c.args.addr in
    let at = c.in-Some.at in
    let new = c.edit-next.new.bytes in
    let n = length new in
    let count = (at + 4096) - at in
    let whole = c.in-Some.ensures es c.requires.translated in
    let within = lies_within es Store a 4096 at whole (length frames) c.requires.fit in
    let long : n ≡ 4096 = omega (arith, c.edit-next.auto.bytes, part_length frames at 4096 within) in
    let lies = lies_first es Store a 4096 at whole n (omega (arith, long)) in
    let same : count ≡ n = omega (arith, long) in
    let room : at + n ≤ length frames = omega (arith, long, within) in
    let written : memory_of (put_mid at count frames new) es ≡ put_bytes (memory_of frames es) a new =
    run_written Store frames (put_mid at count frames new) es a at new c.requires.separate (lies_allowed es Store a n at lies frames) (lies_from es Store a n at lies) lies.one_page
    (pasted frames new at count same room) (kept frames new at count same room) in
    subst (λ m. g.E.Edit.changes c.args.edit.now (memory_of frames es) c.edit-next.result m) (sym written) (c.edit-next.ensures (memory_of frames es) (page_lent es Store a at frames whole within))

pub returns-in-Some-clause-others : goal.returns-in-Some-clause-others
returns-in-Some-clause-others g c = λ other apart.
    let es = c.args.entries.now in
    let frames = c.args.frames.now in
    let a = c.args.addr in
    let at = c.in-Some.at in
    let new = c.edit-next.new.bytes in
    let n = length new in
    let count = (at + 4096) - at in
    let whole = c.in-Some.ensures es c.requires.translated in
    let within = lies_within es Store a 4096 at whole (length frames) c.requires.fit in
    let long : n ≡ 4096 = omega (arith, c.edit-next.auto.bytes, part_length frames at 4096 within) in
    let lies = lies_first es Store a 4096 at whole n (omega (arith, long)) in
    others_unwritten Store frames (put_mid at count frames new) es other a at n apart (lies_allowed es Store a n at lies frames) (lies_from es Store a n at lies) lies.one_page
    (kept frames new at count (omega (arith, long)) (omega (arith, long, within)))
