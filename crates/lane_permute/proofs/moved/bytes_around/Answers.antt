use Rattle.std.proofs.Common.{◌-◌, get_or, replicate, ap, ◌∙◌, arith}
use lib.Lanes.{chunk, put_chunk}
use Rattle.lane_permute.proofs.MovedElements.{byte_around}
use Rattle.lane_permute.proofs.moved.bytes_around.Goals as goal

pub returns : goal.returns
returns c = λ j h behind.
    ap (λ xs. get_or xs j 0) (c.window-2.ensures ∙ ap (chunk (c.args.at - c.min-start.result) 32) (c.between_zeros.ensures ∙ ap (put_chunk 32 (replicate 96 0)) c.window.ensures))
    ∙ byte_around c.args.a.now c.args.at c.min-start.result j c.requires.whole c.requires.inside
    (omega (arith, c.min-start.ensures, c.saturating_sub.ensures)) h behind
