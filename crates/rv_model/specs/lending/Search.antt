-- Search for operations by their bits, as in the functions of the decoder.
use Rattle.std.specs.Prelude.{ℕ, List, [], ◌∷◌, Option, Some, None, ◌&&◌, nat_eq, Bool, true, false, cond, if◌then◌else◌}
use Rattle.rv_model.specs.instructions.Types.{Form, Line, Major}
use Rattle.rv_model.specs.declared.instructions.operations.Major.TheVariants.{Opi, Opm}
use Rattle.rv_model.specs.instructions.Operations.{has_form}

-- whether two halves of the opcode map are the same
abbrev pub same_major : Major → Major → Bool
same_major Opi Opi = true
same_major Opm Opm = true
same_major m n = false

-- the operations of a half of the opcode map that have a form
abbrev pub those : {A : Type 0} → (A → Line) → Major → Form → List A → List A
those line m f [] = []
those line m f (op ∷ ops) =
    cond (same_major m (line op).major && has_form (line op).forms f) (op ∷ those line m f ops) (those line m f ops)

-- the first operation with these fixed bits
unfoldable pub find : {A : Type 0} → (A → ℕ) → List A → ℕ → Option A
find code [] bits = None
find code (op ∷ ops) bits = if nat_eq bits (code op) then Some op else find code ops bits

-- the first operation with this funct6 in a half of the opcode map that has this form
unfoldable pub find_at : {A : Type 0} → (A → Line) → Major → Form → ℕ → List A → Option A
find_at line m f n [] = None
find_at line m f n (op ∷ ops) =
    if same_major m (line op).major && (nat_eq n (line op).funct6 && has_form (line op).forms f) then Some op else find_at line m f n ops
