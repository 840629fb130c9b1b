use Rattle.std.proofs.Common.{◌≡◌, Some, true, subst}
use Rattle.rv_model.specs.declared.instructions.access.AccessInstr.{AccessInstr}
use Rattle.rv_model.specs.declared.instructions.access.AccessInstr.TheVariants.{Indexed}
use Rattle.rv_model.specs.declared.instructions.instruction.Instr.TheVariants as instr
use Rattle.rv_model.specs.legality.Legality.{is_legal}
use Rattle.vector_memory.proofs.Offsets.{offsets_fit}
use Rattle.vector_memory.proofs.instructions.indexed_of.Goals as goal

pub returns-in-Indexed-clause-fits : goal.returns-in-Indexed-clause-fits
returns-in-Indexed-clause-fits c =
    let i = c.in-Indexed in
    rw (c.operation.ensures, c.grouped_segments.ensures.value, c.from-size.ensures, c.bits.ensures, c.from.ensures, c.eighths.ensures, c.read.ensures, c.emul_of.ensures)
    (offsets_fit (Indexed i.direction i.order i.width i.nf i.vd i.rs1 i.vs2 i.vm) c.args.vtype c.args.state.now c.args.scalar.now
    (subst (λ (x : AccessInstr). is_legal (instr.Access x) (Some c.args.vtype) c.args.state.now.vstart ≡ true) i.is c.requires.legal)
    c.requires.length c.grouped_segments.ensures.fields)
