use Rattle.std.proofs.Common.{sym}
use Rattle.user_mem.proofs.TranslationLaws.{lies_accessed}
use Rattle.user_mem.proofs.access.is_allowed.Goals as goal

pub returns-in-Some : goal.returns-in-Some
returns-in-Some c = λ frames. sym (lies_accessed c.args.entries.now c.args.access c.args.addr c.args.len _ (c.in-Some.ensures c.args.entries.now c.requires.translated) frames)
