use Rattle.std.proofs.Common.{arith}
use Rattle.elf_load.proofs.UserLaws.{clear_none, clear_more, may_clear}
use Rattle.elf_load.proofs.placing.clear_mapped.Goals as goal
use Rattle.rv_model.specs.memory.Sizes.{page_size}

pub loop-done-init : goal.loop-done-init
loop-done-init g c = record { pool = clear_none c.args.pool.now c.args.user c.args.addr; some = omega arith }

pub write_mapped-requires : goal.write_mapped-requires
write_mapped-requires g c =
    may_clear c.args.pool.now c.loop-done.pool c.args.user c.args.addr c.loop-done.done c.min-size.result page_size c.args.count c.requires.known (omega arith) (omega arith) c.loop-done.invariant.pool c.requires.mapped

pub loop-done-preserved : goal.loop-done-preserved
loop-done-preserved g c = record {
  pool = clear_more c.args.pool.now c.loop-done.pool c.write_mapped.new.pool c.args.user c.args.addr c.loop-done.done c.min-size.result page_size c.requires.known (omega arith) c.loop-done.invariant.pool c.write_mapped.ensures;
  some = omega arith;
}
