use Rattle.std.proofs.Common.{◌≤◌, ◌+◌, ◌-◌, ◌%◌, ◌∙◌, refl, arith, length, take, drop}
use Rattle.rv_model.specs.declared.memory.Access.TheVariants.{Monitor}
use Rattle.rv_model.proofs.memory_lemmas.Memory.{can_access-at, bytes_read}
use Rattle.rv_model.specs.memory.Sizes.{page_size}
use Rattle.user_mem.specs.Table.{memory_of}
use Rattle.user_mem.proofs.TableLaws.{access_below}
use Rattle.user_mem.proofs.RunLaws.{part_length, part_at, read_more}
use Rattle.user_mem.proofs.frames.copy_out.Goals as goal

pub overflow_add-next : goal.overflow_add-next
overflow_add-next c =
    let near = access_below Monitor c.args.frames.now c.args.entries.now c.args.addr (length c.args.buffer.now) c.loop-done.done c.requires.below c.requires.mapped (omega arith) in omega arith

pub index_of-start-requires-clause-mapped : goal.index_of-start-requires-clause-mapped
index_of-start-requires-clause-mapped c =
    can_access-at Monitor (memory_of c.args.frames.now c.args.entries.now) c.args.addr (length c.args.buffer.now) c.loop-done.done (c.args.addr + c.loop-done.done) c.requires.mapped (omega arith) refl

pub loop-done-preserved : goal.loop-done-preserved
loop-done-preserved c =
    let next = c.args.addr + c.loop-done.done in
    let start = c.index_of-start.result in
    let len = c.bytes_in_page-len.result in
    let fits : (c.args.addr + c.loop-done.done) % page_size + c.bytes_in_page-len.result ≤ page_size = omega (arith, c.bytes_in_page-len.ensures) in
    let room : c.index_of-start.result + c.bytes_in_page-len.result ≤ length c.args.frames.now = omega (arith, c.index_of-start.ensures.within) in
    record {
      within = omega (arith, c.bytes_in_page-len.ensures, c.paste.ensures.size);
      size = c.paste.ensures.size ∙ c.loop-done.invariant.size;
      copied =
          read_more c.args.frames.now c.args.entries.now c.args.addr c.loop-done.done next start len (take ((start + len) - start) (drop start c.args.frames.now)) c.loop-done.buffer c.paste.new.target
          refl fits
          (can_access-at Monitor (memory_of c.args.frames.now c.args.entries.now) c.args.addr (length c.args.buffer.now) c.loop-done.done next c.requires.mapped (omega arith) refl)
          c.index_of-start.ensures.place (part_length c.args.frames.now start len room) (part_at c.args.frames.now start len) c.paste.ensures.pasted c.paste.ensures.kept c.loop-done.invariant.copied;
    }

pub returns : goal.returns
returns c = bytes_read (memory_of c.args.frames.now c.args.entries.now) c.args.addr (length c.args.buffer.now) c.loop-done.buffer (omega arith) (λ j l. c.loop-done.invariant.copied j (omega arith))
