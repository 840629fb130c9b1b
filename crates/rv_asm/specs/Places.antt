-- The tokens from an index of a text on, and the results of reading them
use Rattle.std.specs.Prelude.{◌≡◌, ℕ, ◌+◌, ◌≤◌, List, [], ◌∷◌, length, drop, Option, Some, None, Result, Ok, Err}
use Rattle.rv_model.specs.assembler.Tokens.{Token, tokens}
use Rattle.rv_asm.specs.declared.token.Token.{Token as Found}
use Rattle.rv_asm.specs.declared.fault.AsmFault.{AsmFault}

-- the tokens from an index on
abbrev pub rest : List ℕ → ℕ → List Token
rest text at = tokens (at + 1) (drop at text)

-- the first token and the index after it, or `None` if only spaces are left
abbrev pub Takes : List ℕ → ℕ → Option (Found × ℕ) → Type 0
Takes text at None = rest text at ≡ []
Takes text at (Some x) = (rest text at ≡ record { column = x.0.column; text = x.0.text.now } ∷ rest text x.1) × (x.1 ≤ length text)

-- the first token and the index after it, or a fault in the column after the text's end
abbrev pub TakesOne : List ℕ → ℕ → Result (Found × ℕ) AsmFault → Type 0
TakesOne text at (Ok x) = (rest text at ≡ record { column = x.0.column; text = x.0.text.now } ∷ rest text x.1) × (x.1 ≤ length text)
TakesOne text at (Err e) = (rest text at ≡ []) × (e.column ≡ length text + 1)

-- the result equals `read`: the value and the tokens after it, or the fault's column
abbrev pub Reads : List ℕ → Result (ℕ × ℕ) AsmFault → Result (ℕ × List Token) ℕ → Type 0
Reads text (Ok x) read = (read ≡ Ok (x.0, rest text x.1)) × (x.1 ≤ length text)
Reads text (Err e) read = read ≡ Err e.column

-- the result equals `read`: the word, or the fault's column
abbrev pub Answers : Result ℕ AsmFault → Result ℕ ℕ → Type 0
Answers (Ok w) read = read ≡ Ok w
Answers (Err e) read = read ≡ Err e.column
