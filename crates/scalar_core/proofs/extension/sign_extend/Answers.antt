use Rattle.std.proofs.Common.{arith, ap, ◌∙◌, ◌^◌, ◌-◌, ℕ, w64}
use Rattle.std.proofs.lemmas.Int.{to_z-of_z}
use Rattle.std.specs.Int.{cast_signed, cast_unsigned}
use Rattle.std.specs.Int.Signed.{shr_z, mag_shr}
use Rattle.scalar_core.proofs.SignExtension.{by_shifts}
use Rattle.scalar_core.proofs.extension.sign_extend.Goals as goal

pub returns : goal.returns
returns c =
    let q : ℕ = 2 ^ (64 - c.args.bits) in
    let top = c.cast_signed.result in
    c.cast_unsigned.ensures
    ∙ ap (λ z. cast_unsigned w64 (cast_signed w64 (cast_unsigned w64 (shr_z z q)))) (to_z-of_z w64 top (record { sfits = c.cast_signed.type_inv }))
    ∙ ap (cast_unsigned w64) (to_z-of_z w64 (shr_z top q) (record { sfits = omega (arith, mag_shr top q, c.cast_signed.type_inv) }))
    ∙ ap (λ z. cast_unsigned w64 (shr_z z q)) c.cast_signed.ensures
    ∙ by_shifts c.args.bits c.args.value c.requires.low c.requires.high c.requires.fits
