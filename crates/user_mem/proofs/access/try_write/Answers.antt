use Rattle.std.proofs.Common.{length, arith}
use Rattle.user_mem.proofs.RunLaws.{run_written, others_unwritten}
use Rattle.user_mem.proofs.TranslationLaws.{lies_accessed, lies_allowed, lies_first, lies_from, lies_within}
use Rattle.user_mem.proofs.access.try_write.Goals as goal

pub paste-requires : goal.paste-requires
paste-requires c =
    let lies = c.in-Some.ensures c.args.entries.now c.requires.translated in
    omega (arith, lies_within c.args.entries.now c.args.access c.args.addr c.room_of-room.result c.in-Some.at lies (length c.args.frames.now) c.requires.fit, c.room_of-room.ensures)

pub returns-in-Some-clause-allowed : goal.returns-in-Some-clause-allowed
returns-in-Some-clause-allowed c = λ _.
    let es = c.args.entries.now in
    let access = c.args.access in
    let a = c.args.addr in
    let n = length c.args.bytes.now in
    let at = c.in-Some.at in
    lies_accessed es access a n at (lies_first es access a c.room_of-room.result at (c.in-Some.ensures c.args.entries.now c.requires.translated) n c.room_of-room.ensures) c.args.frames.now

pub returns-in-Some-clause-value : goal.returns-in-Some-clause-value
returns-in-Some-clause-value c = λ _.
    let es = c.args.entries.now in
    let frames = c.args.frames.now in
    let a = c.args.addr in
    let n = length c.args.bytes.now in
    let at = c.in-Some.at in
    let lies = lies_first es c.args.access a c.room_of-room.result at (c.in-Some.ensures c.args.entries.now c.requires.translated) n c.room_of-room.ensures in
    run_written c.args.access frames c.paste.new.target es a at c.args.bytes.now c.requires.separate (lies_allowed es c.args.access a n at lies frames) (lies_from es c.args.access a n at lies)
    lies.one_page c.paste.ensures.pasted c.paste.ensures.kept

pub returns-in-Some-clause-others : goal.returns-in-Some-clause-others
returns-in-Some-clause-others c = λ other apart.
    let es = c.args.entries.now in
    let frames = c.args.frames.now in
    let a = c.args.addr in
    let n = length c.args.bytes.now in
    let at = c.in-Some.at in
    let lies = lies_first es c.args.access a c.room_of-room.result at (c.in-Some.ensures c.args.entries.now c.requires.translated) n c.room_of-room.ensures in
    others_unwritten c.args.access frames c.paste.new.target es other a at n apart (lies_allowed es c.args.access a n at lies frames) (lies_from es c.args.access a n at lies) lies.one_page c.paste.ensures.kept
