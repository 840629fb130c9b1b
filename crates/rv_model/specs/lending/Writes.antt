-- Elements and bits that a loop has written so far, as relations between lists of bytes.
use Rattle.std.specs.Prelude.{ℕ, ◌+◌, ◌*◌, ◌<◌, ◌≤◌, ◌≡◌, Bool, true, nat_lt, List, length, slice_index}
use Rattle.std.specs.Int.{from_bool}
use Rattle.rv_model.specs.elements.Elements.{Body, byte_or, byte_with_bits}

-- a list of bytes contains all of element i, which has k bytes
abbrev pub HasElement : ℕ → List ℕ → ℕ → Type 0
HasElement k bytes i = k * i + k ≤ length bytes

-- the bytes `new` are the bytes `old` with the changed elements of k bytes replaced by these numbers, modulo 2 to the width
pub record Writes (k : ℕ) (changed : ℕ → Bool) (number : ℕ → ℕ) (old new : List ℕ) : Type 0 where
  pub same_length : length new ≡ length old
  pub bytes : (e m : ℕ) → m < k → k * e + m < length old → slice_index new (k * e + m) ≡ byte_or changed number old k e m

-- the bytes `new` are the bytes `old` with the changed bits replaced
pub record WritesBits (changed bit : ℕ → Bool) (old new : List ℕ) : Type 0 where
  pub same_length : length new ≡ length old
  pub bytes : (q : ℕ) → q < length old → slice_index new q ≡ byte_with_bits changed bit old q

-- element 0 alone, if the body is not empty: an instruction with a single result writes it there
abbrev pub element_zero : Body → Body
element_zero body = record { unmasked = true; mask = body.mask; start = 0; end = from_bool (nat_lt body.start body.end) }
