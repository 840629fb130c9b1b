use Rattle.std.proofs.Common.{◌∙◌, [], ap, sym, refl, length, take, drop, ◌+◌, ◌-◌, arith}
use Rattle.rv_model.specs.memory.Memory.{bytes_at, can_access}
use Rattle.rv_model.proofs.memory_lemmas.Memory.{bytes_read, can_access_from}
use Rattle.user_mem.specs.Table.{memory_of}
use Rattle.user_mem.proofs.RunLaws.{page_read, part_at, part_length}
use Rattle.user_mem.proofs.TranslationLaws.{lies_accessed, lies_allowed, lies_from, lies_within}
use Rattle.user_mem.proofs.access.lend.Goals as goal

pub overflow_add-result : goal.overflow_add-result
overflow_add-result c = record { fits = omega (arith, lies_within c.args.entries.now c.args.access c.args.addr 4096 c.in-Some.at (c.in-Some.ensures c.args.entries.now c.requires.translated) (length c.args.frames.now) c.requires.fit) }

pub slice_bounds-result-end : goal.slice_bounds-result-end
slice_bounds-result-end c = omega (arith, lies_within c.args.entries.now c.args.access c.args.addr 4096 c.in-Some.at (c.in-Some.ensures c.args.entries.now c.requires.translated) (length c.args.frames.now) c.requires.fit)

pub returns-in-Some-clause-allowed : goal.returns-in-Some-clause-allowed
returns-in-Some-clause-allowed c =
    let es = c.args.entries.now in
    let frames = c.args.frames.now in
    let a = c.args.addr in
    let at = c.in-Some.at in
    let lies = c.in-Some.ensures es c.requires.translated in
    ap (can_access c.args.access (memory_of frames es) a) (part_length frames at 4096 (lies_within es c.args.access a 4096 at lies (length frames) c.requires.fit))
    ∙ lies_accessed es c.args.access a 4096 at lies frames

pub returns-in-Some-clause-value : goal.returns-in-Some-clause-value
returns-in-Some-clause-value c =
    let es = c.args.entries.now in
    let frames = c.args.frames.now in
    let access = c.args.access in
    let a = c.args.addr in
    let at = c.in-Some.at in
    let lies = c.in-Some.ensures es c.requires.translated in
    let long = part_length frames at 4096 (lies_within es access a 4096 at lies (length frames) c.requires.fit) in
    page_read access frames es a at 4096 (take ((at + 4096) - at) (drop at frames)) lies.one_page (lies_allowed es access a 4096 at lies frames) (lies_from es access a 4096 at lies) long (part_at frames at 4096)
    ∙ ap (bytes_at (memory_of frames es) a) (sym long)

pub returns-in-None-clause-allowed : goal.returns-in-None-clause-allowed
returns-in-None-clause-allowed c = can_access_from c.args.access (memory_of c.args.frames.now c.args.entries.now) c.args.addr 0 (λ k less. absurd (omega (arith, less)))

pub returns-in-None-clause-value : goal.returns-in-None-clause-value
returns-in-None-clause-value c = bytes_read (memory_of c.args.frames.now c.args.entries.now) c.args.addr 0 [] refl (λ k less. absurd (omega (arith, less)))

pub returns-in-Some-clause-end : goal.returns-in-Some-clause-end
returns-in-Some-clause-end c =
    let es = c.args.entries.now in
    let frames = c.args.frames.now in
    let lies = c.in-Some.ensures es c.requires.translated in
    omega (arith, part_length frames c.in-Some.at 4096 (lies_within es c.args.access c.args.addr 4096 c.in-Some.at lies (length frames) c.requires.fit), lies.one_page)
