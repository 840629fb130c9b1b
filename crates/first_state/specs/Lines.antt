-- The register that a line of text sets, and its value: the register's name and a number in hexadecimal digits, separated by spaces.
use Rattle.std.specs.Prelude.{ℕ, ◌==◌, List, [], ◌∷◌, Option, Some, None, if◌then◌else◌, codes, option_map}
use Rattle.std.specs.Option.{option_and_then}
use Rattle.rv_model.specs.commands.Arguments.{address, instruction_address, register_bytes, scalar_register, vector_register, within}
use Rattle.rv_model.specs.commands.Reading.{meaning_in}
use Rattle.rv_model.specs.text.Words.{words}
use Rattle.rv_model.specs.vector.RoundingModes.{rounding_mode}
use Rattle.rv_model.specs.vector.TypeRules.{vector_type, vtype_number}
pub use Rattle.first_state.specs.declared.setting.Setting.{Setting}
use Rattle.first_state.specs.declared.setting.Setting.TheVariants.{Scalar, Vector, Counter, Length, Kind, Start, Rounding, Saturation}

-- a number of at most `most`
abbrev pub number_up_to : ℕ → List ℕ → Option ℕ
number_up_to most word = within 0 most (address word)

-- the vector type that a number encodes as in `vtype`: vill alone, or a supported type
abbrev pub kind_numbered : ℕ → Option Setting
kind_numbered n = if n == vtype_number None then Some (Kind None) else option_map (λ t. Kind (Some t)) (vector_type n)

-- the setting of a register other than x1 to x31 and v0 to v31: None for another name, Some None for an invalid value
abbrev pub named_setting : List ℕ → List ℕ → Option (Option Setting)
named_setting name value = meaning_in (
    (codes "pc", option_map Counter (instruction_address value))
    ∷ (codes "vl", option_map Length (number_up_to 256 value))
    ∷ (codes "vtype", option_and_then kind_numbered (address value))
    ∷ (codes "vstart", option_map Start (number_up_to 255 value))
    ∷ (codes "vxrm", option_map (λ n. Rounding (rounding_mode n)) (number_up_to 3 value))
    ∷ (codes "vxsat", option_map (λ n. Saturation (n == 1)) (number_up_to 1 value)) ∷ []) name

-- the same for x1 to x31, and for v0 to v31, whose 32 bytes are given with byte 0 first
abbrev pub scalar_setting : List ℕ → Option ℕ → Option Setting
scalar_setting value None = None
scalar_setting value (Some register) = option_map (Scalar register) (address value)

abbrev pub vector_setting : List ℕ → Option ℕ → Option Setting
vector_setting value None = None
vector_setting value (Some register) = option_map (Vector register) (register_bytes value)

-- the setting of any register; None if the name or the value is invalid
abbrev pub first_of : Option Setting → Option Setting → Option Setting
first_of (Some setting) other = Some setting
first_of None other = other

abbrev pub setting_or : Option (Option Setting) → Option Setting → Option Setting
setting_or (Some setting) other = setting
setting_or None other = other

abbrev pub setting_of : List ℕ → List ℕ → Option Setting
setting_of name value =
    setting_or (named_setting name value)
    (first_of (scalar_setting value (scalar_register name)) (vector_setting value (vector_register name)))

-- the setting from a line's tokens: Some None for an empty line, and None unless there are exactly two tokens
abbrev pub words_setting : List (List ℕ) → Option (Option Setting)
words_setting [] = Some None
words_setting (name ∷ []) = None
words_setting (name ∷ value ∷ []) = option_map (λ setting. Some setting) (setting_of name value)
words_setting (name ∷ value ∷ word ∷ others) = None

unfoldable pub line_setting : List ℕ → Option (Option Setting)
line_setting line = words_setting (words line)
