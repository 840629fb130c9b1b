use Rattle.std.proofs.Common.{refl}
use Rattle.rv_asm.proofs.RowLaws.{row_facts, byte_is_ascii}
use Rattle.rv_asm.proofs.table.row_at.Goals as goal
use Rattle.rv_model.specs.lending.NameTable.{row_at, slots_at, bits_at}

pub returns : goal.returns
unfolding row_at slots_at bits_at
returns c =
    let r = row_facts c.args.row c.requires in
    record { value = refl; ascii = byte_is_ascii (row_at c.args.row).0 r.ascii; room = r.room }
