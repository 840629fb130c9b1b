use Rattle.std.proofs.Common.{ℕ, ◌≡◌, ◌≤◌, ◌+◌, ◌-◌, ◌%◌, ◌∙◌, sym, refl, ap, take, drop, arith, true, length}
use Rattle.rv_model.specs.declared.memory.Access.TheVariants.{Monitor}
use Rattle.rv_model.specs.memory.Memory.{Memory, put_bytes, can_access_byte}
use Rattle.rv_model.proofs.memory_lemmas.Memory.{can_access-at, is_allowed-put_bytes}
use Rattle.rv_model.specs.memory.Sizes.{page_size}
use Rattle.user_mem.specs.Table.{memory_of}
use Rattle.user_mem.proofs.TableLaws.{access_below}
use Rattle.user_mem.proofs.RunLaws.{part_length, part_is, run_written, others_unwritten, put_bytes_run}
use Rattle.user_mem.proofs.frames.copy_in.Goals as goal

pub loop-done-init : goal.loop-done-init
unfolding put_bytes
loop-done-init c = record { within = omega arith; size = refl; written = refl; others = λ other apart. refl }

pub overflow_add-next : goal.overflow_add-next
overflow_add-next c =
    let near = access_below Monitor c.args.frames.now c.args.entries.now c.args.addr (length c.args.bytes.now) c.loop-done.done c.requires.below c.requires.mapped (omega arith) in omega arith

-- the next byte is still mapped, because only bytes were written
mapped : goal.index_of-start-requires-clause-mapped
mapped c =
    let next = c.args.addr + c.loop-done.done in
    ap (λ (m : Memory). can_access_byte Monitor m next) c.loop-done.invariant.written
    ∙ is_allowed-put_bytes Monitor (memory_of c.args.frames.now c.args.entries.now) c.args.addr (take c.loop-done.done c.args.bytes.now) next
    ∙ can_access-at Monitor (memory_of c.args.frames.now c.args.entries.now) c.args.addr (length c.args.bytes.now) c.loop-done.done next c.requires.mapped (omega arith) refl

pub index_of-start-requires-clause-mapped : goal.index_of-start-requires-clause-mapped
index_of-start-requires-clause-mapped c = mapped c

pub loop-done-preserved : goal.loop-done-preserved
loop-done-preserved c =
    let next = c.args.addr + c.loop-done.done in
    let done = c.loop-done.done in
    let start = c.index_of-start.result in
    let len = c.bytes_in_page-len.result in
    let part = take ((done + len) - done) (drop done c.args.bytes.now) in
    let room : c.loop-done.done + c.bytes_in_page-len.result ≤ length c.args.bytes.now = omega (arith, c.bytes_in_page-len.ensures) in
    let long = part_length c.args.bytes.now done len room in
    let page : (c.args.addr + c.loop-done.done) % page_size + c.bytes_in_page-len.result ≤ page_size = omega (arith, c.bytes_in_page-len.ensures) in
    let fits = ap (λ (n : ℕ). next % page_size + n) long in
    let ok : can_access_byte Monitor (memory_of c.loop-done.frames c.args.entries.now) (c.args.addr + c.loop-done.done) ≡ true =
    ap (λ (m : Memory). can_access_byte Monitor m next) c.loop-done.invariant.written
    ∙ is_allowed-put_bytes Monitor (memory_of c.args.frames.now c.args.entries.now) c.args.addr (take done c.args.bytes.now) next
    ∙ can_access-at Monitor (memory_of c.args.frames.now c.args.entries.now) c.args.addr (length c.args.bytes.now) done next c.requires.mapped (omega arith) refl in
    record {
      within = room;
      size = c.paste.ensures.size ∙ c.loop-done.invariant.size;
      written =
          run_written Monitor c.loop-done.frames c.paste.new.target c.args.entries.now next start part c.requires.separate ok c.index_of-start.ensures.place (omega arith) c.paste.ensures.pasted c.paste.ensures.kept
          ∙ ap (λ (m : Memory). put_bytes m next part) c.loop-done.invariant.written
          ∙ sym (put_bytes_run (memory_of c.args.frames.now c.args.entries.now) c.args.addr done len c.args.bytes.now part c.loop-done.invariant.within (part_is c.args.bytes.now done len));
      others = λ other apart.
          others_unwritten Monitor c.loop-done.frames c.paste.new.target c.args.entries.now other next start (length part) apart ok c.index_of-start.ensures.place (omega arith) c.paste.ensures.kept
          ∙ c.loop-done.invariant.others other apart;
    }
