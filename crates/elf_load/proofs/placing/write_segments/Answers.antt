use Rattle.std.proofs.Common.{arith}
use Rattle.elf_load.proofs.FaultLaws.{sound_headers}
use Rattle.elf_load.proofs.PoolLaws.{segments_none, segments_all}
use Rattle.elf_load.proofs.placing.write_segments.Goals as goal

pub header_count-requires : goal.header_count-requires
header_count-requires g c = (sound_headers c.args.image.now c.requires.sound).file

pub loop-number-init : goal.loop-number-init
loop-number-init g c = segments_none c.args.pool.now c.args.user c.args.image.now c.requires.blank

pub returns : goal.returns
returns g c = segments_all c.args.pool.now c.loop-number.pool c.args.user c.args.image.now c.loop-number.number (omega arith) c.loop-number.invariant
