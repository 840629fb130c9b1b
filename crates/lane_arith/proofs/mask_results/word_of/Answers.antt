use Rattle.lane_arith.proofs.MaskWords.{bit_of_word}
use Rattle.lane_arith.proofs.mask_results.word_of.Goals as goal

pub returns : goal.returns
returns c = λ i h. rw c.load.ensures (bit_of_word c.args.mask.now c.args.word i c.requires (λ j. (c.type_inv.mask j).fits) h)
