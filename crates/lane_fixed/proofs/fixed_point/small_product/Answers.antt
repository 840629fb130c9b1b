use Rattle.std.proofs.Common.{ℕ, ℤ, ◌≡◌, ◌<◌, ◌^◌, ◌∙◌, ◌*ℤ◌, w64}
use Rattle.std.proofs.lemmas.Int.{to_z-of_z}
use Rattle.std.specs.Int.{Width, cast_signed, cast_unsigned}
use Rattle.std.specs.Int.RustNames.{FitsSigned}
use mir.Val.{bits}
use Rattle.lane_fixed.proofs.WiderNumbers.{product_fits}
use Rattle.lane_fixed.proofs.fixed_point.small_product.Goals as goal

-- the product of two signed numbers fits in 64 bits, and conversions preserve it
product_kept : (w : Width) (a b : ℕ) (x y : ℤ) → bits w < 64 → a < 2 ^ bits w → b < 2 ^ bits w → x ≡ cast_signed w a → y ≡ cast_signed w b → FitsSigned w64 x → FitsSigned w64 y
    → FitsSigned w64 (cast_signed w64 (cast_unsigned w64 x) *ℤ cast_signed w64 (cast_unsigned w64 y))
    × (cast_signed w64 (cast_unsigned w64 (cast_signed w64 (cast_unsigned w64 x) *ℤ cast_signed w64 (cast_unsigned w64 y))) ≡ cast_signed w a *ℤ cast_signed w b)
product_kept w a b x y narrow h k e f fits fits_too =
    let product = product_fits w narrow a b h k in
    rw (to_z-of_z w64 x fits ∙ e, to_z-of_z w64 y fits_too ∙ f) (product, to_z-of_z w64 (cast_signed w a *ℤ cast_signed w b) product)

pub overflow_mul-result : goal.overflow_mul-result
overflow_mul-result g c =
    (product_kept g.L.Lane.width _ _ _ _ c.requires c.signed_number.ensures.bound c.signed_number-2.ensures.bound c.signed_number.ensures.value c.signed_number-2.ensures.value
    (record { sfits = c.signed_number.type_inv }) (record { sfits = c.signed_number-2.type_inv })).0

pub returns : goal.returns
returns g c =
    (product_kept g.L.Lane.width _ _ _ _ c.requires c.signed_number.ensures.bound c.signed_number-2.ensures.bound c.signed_number.ensures.value c.signed_number-2.ensures.value
    (record { sfits = c.signed_number.type_inv }) (record { sfits = c.signed_number-2.type_inv })).1
