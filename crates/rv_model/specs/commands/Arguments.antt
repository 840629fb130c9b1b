-- Arguments of commands, parsed from tokens. A function returns `None` if its token isn't a valid argument.
use Rattle.std.specs.Prelude.{ℕ, ◌+◌, ◌-◌, ◌*◌, ◌/◌, ◌%◌, ◌^◌, ◌==◌, ◌&&◌, ◌||◌, nat_lt, nat_le, Bool, true, false, List, [], ◌∷◌, length, Option, Some, None, if◌then◌else◌, codes}
use Rattle.std.specs.Option.{option_and_then}
use Rattle.std.specs.Result.{result_ok}
use Rattle.hex.specs.Hex.{decode_of}
use Rattle.rv_model.specs.commands.Reading.{meaning_in}
use Rattle.rv_model.specs.memory.Sizes.{page_size, address_end}
use Rattle.rv_model.specs.text.Digits.{digits_after}
use Rattle.rv_model.specs.declared.memory.Permissions.{Permissions}
use Rattle.rv_model.specs.vector.Types.{Policy, Sew, E8, E16, E32, E64}
use Rattle.rv_model.specs.declared.vector.policy.Policy.TheVariants.{Keep, Ones}

-- a number from low to high, both included
abbrev pub within : ℕ → ℕ → Option ℕ → Option ℕ
within low high None = None
within low high (Some n) = if nat_le low n && nat_le n high then Some n else None

-- a decimal number: digits without a sign or a leading zero
abbrev pub decimal_number : List ℕ → Option ℕ
decimal_number [] = None
decimal_number (c ∷ []) = digits_after 10 0 (c ∷ [])
decimal_number (c ∷ d ∷ cs) = if c == 48 then None else digits_after 10 0 (c ∷ d ∷ cs)

-- a decimal number from low to high, both included
abbrev pub number_between : ℕ → ℕ → List ℕ → Option ℕ
number_between low high word = within low high (decimal_number word)

-- an address: 1 to 16 hexadecimal digits, so a number below 2 ^ 64
abbrev pub address : List ℕ → Option ℕ
address word = if nat_le 1 (length word) && nat_le (length word) 16 then within 0 (2 ^ 64 - 1) (digits_after 16 0 word) else None

-- the address of an instruction: a multiple of 4
abbrev pub instruction_address : List ℕ → Option ℕ
instruction_address word = option_and_then (λ addr. if addr % 4 == 0 then Some addr else None) (address word)

-- the number of a scalar register, x1 to x31
abbrev pub scalar_register : List ℕ → Option ℕ
scalar_register [] = None
scalar_register (c ∷ digits) = if c == 120 then number_between 1 31 digits else None

-- the number of a vector register, v0 to v31
abbrev pub vector_register : List ℕ → Option ℕ
vector_register [] = None
vector_register (c ∷ digits) = if c == 118 then number_between 0 31 digits else None

-- the width of an element in bits
abbrev pub sew_argument : List ℕ → Option Sew
sew_argument word = meaning_in ((codes "8", E8) ∷ (codes "16", E16) ∷ (codes "32", E32) ∷ (codes "64", E64) ∷ []) word

-- the policy for agnostic elements: `keep` leaves them unchanged, `ones` sets them to all ones
abbrev pub policy_word : List ℕ → Option Policy
policy_word word = meaning_in ((codes "keep", Keep) ∷ (codes "ones", Ones) ∷ []) word

-- 1 to 256 bytes, two hexadecimal digits each
abbrev pub byte_string : List ℕ → Option (List ℕ)
byte_string text = if nat_lt (length text / 2) 1 || nat_lt 256 (length text / 2) then None else result_ok (decode_of text)

-- the 32 bytes of a vector register, two hexadecimal digits each, byte 0 first
abbrev pub register_bytes : List ℕ → Option (List ℕ)
register_bytes text = if length text == 64 then result_ok (decode_of text) else None

abbrev pub allowing : Bool → Bool → Bool → Permissions
allowing read write execute = record { read = read; write = write; execute = execute }

-- one of r, w, x, rw, rx, wx, rwx
abbrev pub permissions : List ℕ → Option Permissions
permissions word = meaning_in (
    (codes "r", allowing true false false) ∷ (codes "w", allowing false true false) ∷ (codes "x", allowing false false true)
    ∷ (codes "rw", allowing true true false) ∷ (codes "rx", allowing true false true) ∷ (codes "wx", allowing false true true)
    ∷ (codes "rwx", allowing true true true) ∷ []) word

-- a range of pages of memory; `first` is the address of the first one divided by the page size
pub record Pages : Type 0 where
  pub first : ℕ
  pub count : ℕ

-- whether `addr` is page-aligned and `count` pages from it end at or below the end of the address space
abbrev pub are_pages : ℕ → ℕ → Bool
are_pages addr count = (addr % page_size == 0) && nat_le (addr + page_size * count) address_end

-- `count` pages from an address, if `are_pages` holds
abbrev pub page_range : ℕ → ℕ → Option Pages
page_range addr count = if are_pages addr count then Some (record { first = addr / page_size; count = count }) else None
