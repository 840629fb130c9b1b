-- The arguments of a command line: runs of bytes between spaces (byte 20 in hexadecimal).
use Rattle.std.specs.Prelude.{ℕ, ◌==◌, Bool, true, false, not, List, [], ◌∷◌, filter, reverse, if◌then◌else◌}
use Rattle.std.specs.List.{slice_split}

abbrev pub is_space : ℕ → Bool
is_space b = b == 32

abbrev pub has_bytes : List ℕ → Bool
has_bytes [] = false
has_bytes (b ∷ bs) = true

-- the pieces between the spaces, without empty ones
unfoldable pub words : List ℕ → List (List ℕ)
words line = filter has_bytes (slice_split is_space line)

-- the bytes from the first one that fails a test
abbrev pub skip_while : (ℕ → Bool) → List ℕ → List ℕ
skip_while test [] = []
skip_while test (b ∷ bs) = if test b then skip_while test bs else b ∷ bs

-- a line without the spaces at its start, and one without those at its end
unfoldable pub trim_start : List ℕ → List ℕ
trim_start line = skip_while is_space line

unfoldable pub trim_end : List ℕ → List ℕ
trim_end line = reverse (skip_while is_space (reverse line))

-- the rest of a line after its first argument
unfoldable pub after_word : List ℕ → List ℕ
after_word line = skip_while (λ b. not (is_space b)) (trim_start line)

-- the rest of a line after its first two arguments, without the spaces around it; spaces inside it are unchanged
unfoldable pub after_two_words : List ℕ → List ℕ
after_two_words line = trim_end (trim_start (after_word (after_word line)))
