use Rattle.std.proofs.Common.{Some, sym}
use Rattle.rv_model.specs.scalar.Registers.{initial_scalar}
use Rattle.rv_model.specs.vector.State.{initial_vector}
use Rattle.commit_log.proofs.FilledRegisters.{indexed_filled, mask_filled, strided_filled, unit_filled}
use Rattle.commit_log.proofs.targets.typed_access_targets.Goals as goal

pub returns-in-UnitStride-clause-value : goal.returns-in-UnitStride-clause-value
returns-in-UnitStride-clause-value c =
    let i = c.in-UnitStride in
    rw (c.loaded.ensures.value, c.unit_direction.ensures, c.groups.ensures.value, c.emul-emul.ensures, c.bits.ensures, c.from_width.ensures, i.is)
    (sym (unit_filled initial_vector initial_scalar i.op i.width i.nf i.vd i.rs1 i.vm c.args.vtype))

pub returns-in-Strided-clause-value : goal.returns-in-Strided-clause-value
returns-in-Strided-clause-value c =
    let i = c.in-Strided in
    rw (c.loaded-in-Strided.ensures.value, c.groups-in-Strided.ensures.value, c.emul-emul-in-Strided.ensures, c.bits-in-Strided.ensures, c.from_width-in-Strided.ensures, i.is)
    (sym (strided_filled initial_vector initial_scalar i.direction i.width i.nf i.vd i.rs1 i.rs2 i.vm c.args.vtype))

pub returns-in-Indexed-clause-value : goal.returns-in-Indexed-clause-value
returns-in-Indexed-clause-value c =
    let i = c.in-Indexed in
    rw (c.loaded-in-Indexed.ensures.value, c.groups-in-Indexed.ensures.value, c.from-emul.ensures, c.eighths.ensures, i.is)
    (sym (indexed_filled initial_vector initial_scalar i.direction i.order i.width i.nf i.vd i.rs1 i.vs2 i.vm c.args.vtype))

pub returns-in-MaskAccess-clause-value : goal.returns-in-MaskAccess-clause-value
returns-in-MaskAccess-clause-value c =
    let i = c.in-MaskAccess in
    rw (c.loaded-in-MaskAccess.ensures.value, c.group.ensures.value, i.is) (sym (mask_filled initial_vector initial_scalar i.direction i.vd i.rs1 c.args.vtype))

pub returns-in-WholeLoad-clause-value : goal.returns-in-WholeLoad-clause-value
returns-in-WholeLoad-clause-value c = let i = c.in-WholeLoad in rw (i.is) (c.whole.ensures.value i.width i.rs1 (Some c.args.vtype))
