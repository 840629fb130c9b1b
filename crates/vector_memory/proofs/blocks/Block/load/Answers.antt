use Rattle.std.proofs.Common.{◌+◌, ◌-◌, sym, ap, ◌∙◌}
use Rattle.std.specs.Simd.Lanes.{put_chunk}
use Rattle.vector_memory.proofs.BlockMoves.{put_same}
use Rattle.vector_memory.proofs.Outcomes.{when_err}
use Rattle.vector_memory.proofs.blocks.Block.load.Goals as goal

pub returns-clause-unchanged : goal.returns-clause-unchanged
returns-clause-unchanged g c = λ refused.
    let b = c.args.self.now in
    let file = c.args.file.now in
    ap (put_chunk b.place file) (when_err c.read.result (sym c.is_ok.ensures.value ∙ refused) c.read.ensures.unchanged ∙ c.part_mut-bytes.ensures.value)
    ∙ put_same b.place ((b.place + b.length) - b.place) file
