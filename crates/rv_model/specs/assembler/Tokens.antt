-- The tokens of a line of assembler text: runs of lower-case letters, digits, `.` and `_`, and single bytes of any other value. Spaces
-- separate tokens. This is the project's choice, close to public RISC-V assemblers.
use Rattle.std.specs.Prelude.{ℕ, ◌+◌, Bool, false, ◌&&◌, ◌||◌, List, [], ◌∷◌, nat_le, ◌==◌, if◌then◌else◌}

-- a token, and the column of its first byte, counted from 1
pub record Token : Type 0 where
  pub column : ℕ
  pub text : List ℕ

-- whether a byte belongs to a run: a to z, 0 to 9, `.` and `_`
abbrev pub in_run : ℕ → Bool
in_run c = (nat_le 97 c && nat_le c 122) || ((nat_le 48 c && nat_le c 57) || ((c == 46) || (c == 95)))

-- whether a text starts with a byte of a run
abbrev pub begins_run : List ℕ → Bool
begins_run [] = false
begins_run (c ∷ cs) = in_run c

-- the tokens with a byte prepended to the first one
abbrev pub with_first_byte : ℕ → ℕ → List Token → List Token
with_first_byte p c [] = []
with_first_byte p c (t ∷ ts) = record { column = p; text = c ∷ t.text } ∷ ts

-- the tokens of a byte at column p followed by a text with these tokens; `more` says whether the text starts with a byte of a run
abbrev pub with_byte : ℕ → ℕ → Bool → List Token → List Token
with_byte p c more ts = if c == 32 then ts else (if in_run c && more then with_first_byte p c ts else (record { column = p; text = c ∷ [] } ∷ ts))

-- the tokens of a text whose first byte has column p
unfoldable pub tokens : ℕ → List ℕ → List Token
tokens p [] = []
tokens p (c ∷ cs) = with_byte p c (begins_run cs) (tokens (p + 1) cs)
