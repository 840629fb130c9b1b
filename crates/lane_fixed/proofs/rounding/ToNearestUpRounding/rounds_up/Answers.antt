use Rattle.lane_fixed.proofs.LowBits.{half_bit}
use Rattle.lane_fixed.proofs.rounding.ToNearestUpRounding.rounds_up.Goals as goal

pub returns : goal.returns
returns c = half_bit c.args.count c.args.number c.requires
