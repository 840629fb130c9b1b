-- Functions of the kit by index: `chunk` is a part of a list, `number_l` the number of a list of digits, `slice_split` the pieces between
-- separators. A list has 0 at an index past its end.
use Rattle.std.specs.Prelude.{ℕ, ◌+◌, ◌-◌, ◌*◌, ◌^◌, ◌≡◌, ◌<◌, ◌==◌, min, false, List, length, slice_index}
use Rattle.std.specs.List.{All, count_by, join_with_byte, range_with_len, slice_split, sum_by}
use Rattle.std.specs.Simd.Lanes.{chunk}
use lib.Lanes.{number_l}
use Rattle.rv_model.specs.elements.Elements.{element}

-- the elements `at` to `at + n - 1` of a list, or fewer if the list ends before
pub record IsPart (at n : ℕ) (xs part : List ℕ) : Type 0 where
  pub size : length part ≡ min n (length xs - at)
  pub elements : (j : ℕ) → j < n → slice_index part j ≡ slice_index xs (at + j)

abbrev pub ChunkIsPart : Type 0
ChunkIsPart = (at n : ℕ) (xs : List ℕ) → IsPart at n xs (chunk at n xs)

-- the number of n digits, digit 0 first: digit i counts base ^ i
abbrev pub digits_sum : ℕ → (ℕ → ℕ) → ℕ → ℕ
digits_sum base digit n = sum_by (λ i. digit i * base ^ i) (range_with_len 0 n)

abbrev pub NumberIsSum : Type 0
NumberIsSum = (base : ℕ) (digits : List ℕ) → number_l base digits ≡ digits_sum base (slice_index digits) (length digits)

-- element i of k bytes: byte j of it is byte k * i + j of the list
abbrev pub ElementIsSum : Type 0
ElementIsSum = (k i : ℕ) (bytes : List ℕ) → element k bytes i ≡ digits_sum 256 (λ j. slice_index bytes (k * i + j)) k

-- no byte of a list is the separator
abbrev pub Lacks : ℕ → List ℕ → Type 0
Lacks separator bytes = All (λ b. (b == separator) ≡ false) bytes

-- The pieces between separators: joined by the separator they are the text, no piece has a separator, and there is one piece more than
-- separators.
pub record IsSplit (separator : ℕ) (text : List ℕ) (pieces : List (List ℕ)) : Type 0 where
  pub joined : join_with_byte separator pieces ≡ text
  pub lacks : All (Lacks separator) pieces
  pub count : length pieces ≡ count_by (λ b. b == separator) text + 1

abbrev pub SplitIsSplit : Type 0
SplitIsSplit = (separator : ℕ) (text : List ℕ) → IsSplit separator text (slice_split (λ b. b == separator) text)

-- No other pieces are possible.
abbrev pub SplitIsUnique : Type 0
SplitIsUnique = (separator : ℕ) (text : List ℕ) (pieces : List (List ℕ)) → IsSplit separator text pieces
    → pieces ≡ slice_split (λ b. b == separator) text
