-- The fields of vtype, from their names in a text
use Rattle.std.specs.Prelude.{ℕ, List, Option, option_map}
use Rattle.rv_model.specs.instructions.FixedBits.{flag_bit}
use Rattle.rv_model.specs.vector.TypeNames.{lmul_name, lmuls, mask_name, with_name, policies, sew_name, sews, tail_name}
use Rattle.rv_model.specs.vector.TypeRules.{lmul_number, sew_number}

-- vsew, from the name of an element width
abbrev pub vsew : List ℕ → Option ℕ
vsew text = option_map sew_number (with_name sew_name sews text)

-- vlmul, from the name of a group multiplier
abbrev pub vlmul : List ℕ → Option ℕ
vlmul text = option_map lmul_number (with_name lmul_name lmuls text)

-- vta, from the name of a tail policy: agnostic or undisturbed
abbrev pub vta : List ℕ → Option ℕ
vta text = option_map flag_bit (with_name tail_name policies text)

-- vma, from the name of a mask policy: agnostic or undisturbed
abbrev pub vma : List ℕ → Option ℕ
vma text = option_map flag_bit (with_name mask_name policies text)
