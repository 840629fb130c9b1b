use Rattle.std.proofs.Common.{sym, ◌∙◌, mod-eq_of_lt}
use Rattle.std.proofs.lemmas.Nat.{xor_lt}
use mir.Val.{bits}
use Rattle.lane_arith.proofs.chunk.xor.Goals as goal

pub returns : goal.returns
returns g c = λ i h. c.each_xor.ensures i h ∙ sym (mod-eq_of_lt (xor_lt (bits g.L.Lane.width) _ _ (c.requires.first i h) (c.requires.second i h)))
