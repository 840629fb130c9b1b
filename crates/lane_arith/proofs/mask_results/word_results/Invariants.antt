use Rattle.std.proofs.Common.{◌+◌, ◌*◌}
use Rattle.lane_arith.proofs.MaskBits.{ShowsTo}
use Rattle.lane_arith.proofs.mask_results.word_results.Given as goal

abbrev pub invariant-loop-j : goal.invariant-loop-j
invariant-loop-j g l = ShowsTo (l.count * l.j) l.bits (λ i. g.R.MaskResults.bit l.results (32 * l.word + i))
