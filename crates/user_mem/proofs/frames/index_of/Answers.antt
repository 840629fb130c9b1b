use Rattle.std.proofs.Common.{sym, ◌∙◌}
use Rattle.rv_model.specs.declared.memory.Access.TheVariants.{Monitor}
use Rattle.user_mem.proofs.TableLaws.{entry_from_allowed}
use Rattle.user_mem.proofs.frames.index_of.Goals as goal

pub unreachable-requires : goal.unreachable-requires
unreachable-requires c =
    let some = entry_from_allowed Monitor c.args.frames.now c.args.entries.now c.args.addr c.requires.mapped in
    let e = sym some.1 ∙ sym c.locate.ensures ∙ c.in-None.is in cc
