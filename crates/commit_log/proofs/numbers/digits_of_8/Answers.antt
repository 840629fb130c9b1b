use Rattle.std.proofs.Common.{sym, ap, ◌∙◌, ◌∷◌, []}
use Rattle.std.specs.Prelude.{slice_index}
use Rattle.hex.specs.Hex.{encode_lower}
use Rattle.commit_log.proofs.Digits.{digits_are, list_of_8}
use Rattle.commit_log.proofs.numbers.digits_of_8.Goals as goal

pub returns : goal.returns
returns c =
    digits_are (slice_index c.args.bytes.now 0 ∷ slice_index c.args.bytes.now 1 ∷ slice_index c.args.bytes.now 2 ∷ slice_index c.args.bytes.now 3 ∷ slice_index c.args.bytes.now 4 ∷ slice_index c.args.bytes.now 5 ∷ slice_index c.args.bytes.now 6 ∷ slice_index c.args.bytes.now 7 ∷ [])
    ((c.type_inv.bytes 0).fits, ((c.type_inv.bytes 1).fits, ((c.type_inv.bytes 2).fits, ((c.type_inv.bytes 3).fits, ((c.type_inv.bytes 4).fits, ((c.type_inv.bytes 5).fits, ((c.type_inv.bytes 6).fits, ((c.type_inv.bytes 7).fits, tt))))))))
    ∙ ap encode_lower (sym (list_of_8 c.args.bytes.now c.requires))
