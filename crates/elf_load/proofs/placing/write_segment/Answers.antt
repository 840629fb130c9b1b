use Rattle.std.proofs.Common.{arith}
use Rattle.elf_load.proofs.FaultLaws.{sound_headers}
use Rattle.elf_load.proofs.PoolLaws.{segment, may_write_file_part, may_clear_rest, segment_done, segment_other}
use Rattle.elf_load.proofs.placing.write_segment.Goals as goal

pub program_header-header-requires : goal.program_header-header-requires
program_header-header-requires g c = let headers = sound_headers c.args.image.now c.requires.sound in record { file = headers.file; table = headers.table c.args.number c.requires.there }

pub returns-then-header-ne-LOAD : goal.returns-then-header-ne-LOAD
returns-then-header-ne-LOAD g c =
    segment_other c.args.pool.now c.args.user c.args.image.now c.args.number c.program_header-header.result c.requires.before c.program_header-header.ensures c.if-header-ne-LOAD.true

pub file_part-requires : goal.file_part-requires
file_part-requires g c = (segment c.args.image.now c.args.number c.program_header-header.result c.program_header-header.ensures c.requires.sound c.requires.there c.if-header-ne-LOAD.false).lies_in_file

pub write_mapped-requires : goal.write_mapped-requires
write_mapped-requires g c =
    may_write_file_part c.args.pool.now c.args.user c.args.image.now c.args.number c.program_header-header.result c.file_part.result.now c.requires.before
    (segment c.args.image.now c.args.number c.program_header-header.result c.program_header-header.ensures c.requires.sound c.requires.there c.if-header-ne-LOAD.false) c.file_part.ensures.size

pub overflow_add-end : goal.overflow_add-end
overflow_add-end g c =
    let it = segment c.args.image.now c.args.number c.program_header-header.result c.program_header-header.ensures c.requires.sound c.requires.there c.if-header-ne-LOAD.false in
    omega (arith, it.fits, it.ends c.if-header-ne-LOAD.false)

pub overflow_sub-header : goal.overflow_sub-header
overflow_sub-header g c = (segment c.args.image.now c.args.number c.program_header-header.result c.program_header-header.ensures c.requires.sound c.requires.there c.if-header-ne-LOAD.false).fits

pub clear_mapped-requires-clause-mapped : goal.clear_mapped-requires-clause-mapped
clear_mapped-requires-clause-mapped g c =
    may_clear_rest c.args.pool.now c.write_mapped.new.pool c.args.user c.args.image.now c.args.number c.program_header-header.result c.file_part.result.now c.requires.known c.requires.before
    (segment c.args.image.now c.args.number c.program_header-header.result c.program_header-header.ensures c.requires.sound c.requires.there c.if-header-ne-LOAD.false) c.write_mapped.ensures

pub clear_mapped-requires-clause-bound : goal.clear_mapped-requires-clause-bound
clear_mapped-requires-clause-bound g c =
    let it = segment c.args.image.now c.args.number c.program_header-header.result c.program_header-header.ensures c.requires.sound c.requires.there c.if-header-ne-LOAD.false in
    omega (arith, it.fits, it.ends c.if-header-ne-LOAD.false)

pub returns : goal.returns
returns g c =
    segment_done c.args.pool.now c.write_mapped.new.pool _ c.args.user c.args.image.now c.args.number c.program_header-header.result c.file_part.result.now c.requires.known c.requires.before
    (segment c.args.image.now c.args.number c.program_header-header.result c.program_header-header.ensures c.requires.sound c.requires.there c.if-header-ne-LOAD.false)
    c.file_part.ensures.value c.file_part.ensures.size c.write_mapped.ensures c.clear_mapped.ensures
