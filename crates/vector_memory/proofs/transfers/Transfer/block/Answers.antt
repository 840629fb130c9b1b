use Rattle.std.proofs.Common.{refl, arith}
use Rattle.vector_memory.proofs.MovedRuns.{whole_is_block}
use Rattle.vector_memory.proofs.transfers.Transfer.block.Goals as goal

pub returns-clause-value : goal.returns-clause-value
returns-clause-value c = λ mask.
    let t = c.args.self.now in
    whole_is_block t.segments (record { unmasked = t.unmasked; mask = mask; start = c.args.start; end = t.count }) t.addresses.base t.addresses.stride _
    c.if-not-self.false c.if-self-ne1.false c.if-self-size.false c.if-start-ne0.false c.requires.room refl (omega arith) (omega arith)
    (omega (arith, c.in_ok-checked_add.ensures.0))
