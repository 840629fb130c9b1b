use Rattle.std.proofs.Common.{◌-◌, ◌<◌, arith}
use Rattle.std.proofs.lemmas.Nat.{one_shl}
use Rattle.lane_permute.proofs.PackedBits.{shows_first}
use Rattle.lane_permute.proofs.packing.selected.Goals as goal

pub returns : goal.returns
returns c =
    let few : c.args.to - c.args.from < 64 = omega (arith, c.requires.word) in
    rw (one_shl (c.args.to - c.args.from) 64 few) (shows_first c.args.select.now c.mask_bits.result c.args.from c.args.to c.mask_bits.ensures)
