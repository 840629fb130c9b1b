-- Parsing a command's arguments: one token after another, until none is left.
use Rattle.std.specs.Prelude.{ℕ, List, [], ◌∷◌, Option, Some, None, Result, Ok, Err, if◌then◌else◌, option_map}
use Rattle.std.specs.Option.{option_and_then}
use Rattle.std.specs.Str.{bytes_eq}
use Rattle.rv_model.specs.declared.commands.refusal.Refusal.{Refusal}
use Rattle.rv_model.specs.declared.commands.refusal.Refusal.TheVariants.{Argument}

infixl 10 ◌>>=◌
abbrev pub ◌>>=◌ : {A B : Type 0} → Option A → (A → Option B) → Option B
o >>= f = option_and_then f o

-- the first token as an argument, and the tokens after it
abbrev pub next : {A : Type 0} → (List ℕ → Option A) → List (List ℕ) → Option (A × List (List ℕ))
next meaning [] = None
next meaning (w ∷ ws) = option_map (λ a. (a, ws)) (meaning w)

-- the command, if no token is left
abbrev pub done : {A : Type 0} → A → List (List ℕ) → Option A
done c [] = Some c
done c (w ∷ ws) = None

-- a command with one argument, which `meaning` parses
unfoldable pub one_argument : {A C : Type 0} → (A → C) → (List ℕ → Option A) → List (List ℕ) → Option C
one_argument command meaning ws = do
  first ← next meaning ws
  done (command first.0) first.1

-- a command with two arguments, which `meaning` and `other` parse
unfoldable pub two_arguments : {A B C : Type 0} → (A → B → C) → (List ℕ → Option A) → (List ℕ → Option B)
    → List (List ℕ) → Option C
two_arguments command meaning other ws = do
  first ← next meaning ws
  second ← next other first.1
  done (command first.0 second.0) second.1

-- the command of a group, or E04 if an argument is wrong; if the group doesn't have the command's name, the result of the other groups
abbrev pub in_group : {A C : Type 0} → (A → C) → Option (Option A) → Result C Refusal → Result C Refusal
in_group group None others = others
in_group group (Some None) others = Err Argument
in_group group (Some (Some command)) others = Ok (group command)

-- the meaning of a token in a table; `None` if the table doesn't have the token
abbrev pub meaning_in : {A : Type 0} → List (List ℕ × A) → List ℕ → Option A
meaning_in [] word = None
meaning_in (row ∷ rows) word = if bytes_eq word row.0 then Some row.1 else meaning_in rows word
