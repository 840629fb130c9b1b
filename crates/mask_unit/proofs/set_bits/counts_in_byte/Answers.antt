use Rattle.mask_unit.proofs.SetBits.{lower_counted}
use Rattle.mask_unit.proofs.set_bits.counts_in_byte.Goals as goal

pub returns-clause-value : goal.returns-clause-value
returns-clause-value c = λ i h. lower_counted c.args.byte c.args.before i c.requires h
