-- The names of the parts of vtype in assembler text ("V" Vector Extension 1.0, section 6.1).
use Rattle.std.specs.Prelude.{ℕ, Bool, true, false, List, [], ◌∷◌, Option, find, codes, if◌then◌else◌}
use Rattle.std.specs.Str.{bytes_eq}
use Rattle.rv_model.specs.vector.Types.{Sew, E8, E16, E32, E64, Lmul, Mf8, Mf4, Mf2, M1, M2, M4, M8}

-- an element width
abbrev pub sew_name : Sew → List ℕ
sew_name E8 = codes "e8"
sew_name E16 = codes "e16"
sew_name E32 = codes "e32"
sew_name E64 = codes "e64"

-- a group multiplier
abbrev pub lmul_name : Lmul → List ℕ
lmul_name Mf8 = codes "mf8"
lmul_name Mf4 = codes "mf4"
lmul_name Mf2 = codes "mf2"
lmul_name M1 = codes "m1"
lmul_name M2 = codes "m2"
lmul_name M4 = codes "m4"
lmul_name M8 = codes "m8"

-- the tail: agnostic or undisturbed
abbrev pub tail_name : Bool → List ℕ
tail_name agnostic = if agnostic then codes "ta" else codes "tu"

-- masked-off elements: agnostic or undisturbed
abbrev pub mask_name : Bool → List ℕ
mask_name agnostic = if agnostic then codes "ma" else codes "mu"

-- all element widths, multipliers and policies
abbrev pub sews : List Sew
sews = E8 ∷ E16 ∷ E32 ∷ E64 ∷ []

abbrev pub lmuls : List Lmul
lmuls = Mf8 ∷ Mf4 ∷ Mf2 ∷ M1 ∷ M2 ∷ M4 ∷ M8 ∷ []

abbrev pub policies : List Bool
policies = true ∷ false ∷ []

-- the item whose name is this text, if there is one
abbrev pub with_name : {A : Type 0} → (A → List ℕ) → List A → List ℕ → Option A
with_name name_of all text = find (λ a. bytes_eq (name_of a) text) all
