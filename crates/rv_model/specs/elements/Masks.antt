-- Mask instructions ("V" Vector Extension 1.0, chapter 15).
use Rattle.std.specs.Prelude.{ℕ, ◌-◌, ◌^◌, ◌==◌, ◌&&◌, ◌||◌, not, nat_le, nat_lt, Bool, true, false, List, length, Option, if◌then◌else◌}
use Rattle.std.specs.List.{filter, find, range_with_len}
use Rattle.std.specs.Option.{option_map_or}
use Rattle.rv_model.specs.instructions.Types.{MaskLogicOp, MaskScanOp, MaskToScalarOp}
use Rattle.rv_model.specs.declared.instructions.operations.MaskLogicOp.TheVariants.{Vmandn, Vmand, Vmor, Vmxor, Vmorn, Vmnand, Vmnor, Vmxnor}
use Rattle.rv_model.specs.declared.instructions.operations.MaskScanOp.TheVariants.{Vmsbf, Vmsof, Vmsif}
use Rattle.rv_model.specs.declared.instructions.operations.MaskToScalarOp.TheVariants.{Vcpop, Vfirst}
use Rattle.rv_model.specs.elements.Elements.{Body, is_active, mask_bit}

-- the exclusive or of two bits
abbrev pub xor : Bool → Bool → Bool
xor a b = if a then not b else b

-- logical operations on two masks; a is the bit of vs2, b that of vs1
abbrev pub mask_logic_formula : MaskLogicOp → Bool → Bool → Bool
mask_logic_formula Vmandn a b = a && not b
mask_logic_formula Vmand a b = a && b
mask_logic_formula Vmor a b = a || b
mask_logic_formula Vmxor a b = xor a b
mask_logic_formula Vmorn a b = a || not b
mask_logic_formula Vmnand a b = not (a && b)
mask_logic_formula Vmnor a b = not (a || b)
mask_logic_formula Vmxnor a b = not (xor a b)

-- whether element i is active and its bit is set
abbrev pub is_set : Body → List ℕ → ℕ → Bool
is_set body bits i = is_active body i && mask_bit bits i

-- the number of such elements below an index
abbrev pub set_count : Body → List ℕ → ℕ → ℕ
set_count body bits n = length (filter (is_set body bits) (range_with_len 0 n))

-- the first such element
abbrev pub first_set : Body → List ℕ → Option ℕ
first_set body bits = find (is_set body bits) (range_with_len 0 body.end)

-- the result in a scalar register: the number of such elements, or the index of the first one, or -1 in 64 bits if there is none
abbrev pub mask_to_scalar_formula : MaskToScalarOp → Body → List ℕ → ℕ
mask_to_scalar_formula Vcpop body bits = set_count body bits body.end
mask_to_scalar_formula Vfirst body bits = option_map_or (λ i. i) (first_set body bits) (2 ^ 64 - 1)

-- whether the result has the bit at an index set: the bits before the first such element, those up to and including it, or its bit alone.
-- If there is none, all bits are before it.
abbrev pub mask_scan_formula : MaskScanOp → Option ℕ → ℕ → Bool
mask_scan_formula Vmsbf first i = option_map_or (nat_lt i) first true
mask_scan_formula Vmsif first i = option_map_or (nat_le i) first true
mask_scan_formula Vmsof first i = option_map_or (λ n. i == n) first false
