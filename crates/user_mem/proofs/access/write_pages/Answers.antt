use Rattle.std.proofs.Common.{sym, ◌∙◌, length}
use Rattle.rv_model.proofs.memory_lemmas.Memory.{can_access_monitor}
use Rattle.user_mem.specs.Table.{memory_of}
use Rattle.user_mem.proofs.access.write_pages.Goals as goal

pub copy_in-requires-clause-mapped : goal.copy_in-requires-clause-mapped
copy_in-requires-clause-mapped c =
    can_access_monitor c.args.access (memory_of c.args.frames.now c.args.entries.now) c.args.addr (length c.args.bytes.now)
    (sym (c.is_access_allowed.ensures c.args.frames.now) ∙ c.if-not-is_access_allowed.false)
