use Rattle.std.proofs.Common.{◌+◌, ◌-◌, ap, ◌∙◌}
use Rattle.std.specs.Simd.Lanes.{put_chunk}
use Rattle.vector_memory.proofs.BlockMoves.{put_same}
use Rattle.vector_memory.proofs.Outcomes.{on_err}
use Rattle.vector_memory.proofs.field_bytes.load_part.Goals as goal

pub returns-clause-unchanged : goal.returns-clause-unchanged
returns-clause-unchanged g c =
    let place = c.args.place in
    let file = c.args.file.now in
    on_err c.read.result
    (λ same. ap (put_chunk place file) (same ∙ c.part_mut-bytes.ensures.value) ∙ put_same place ((place + c.args.size) - place) file)
    c.read.ensures.unchanged
