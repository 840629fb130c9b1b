-- Numbers in digits, most significant first.
use Rattle.std.specs.Prelude.{ℕ, ◌+◌, ◌-◌, ◌*◌, ◌&&◌, nat_lt, nat_le, List, [], ◌∷◌, Option, Some, None, if◌then◌else◌}

-- the value of a hexadecimal digit in either case; 16 for any other byte
abbrev pub digit : ℕ → ℕ
digit c =
    if nat_le 48 c && nat_le c 57 then c - 48
    else if nat_le 97 c && nat_le c 102 then c - 87
    else if nat_le 65 c && nat_le c 70 then c - 55
    else 16

-- the number that a run of digits spells after digits with the value n; none if a byte isn't a digit of this radix
unfoldable pub digits_after : ℕ → ℕ → List ℕ → Option ℕ
digits_after radix n [] = Some n
digits_after radix n (c ∷ cs) = if nat_lt (digit c) radix then digits_after radix (n * radix + digit c) cs else None
