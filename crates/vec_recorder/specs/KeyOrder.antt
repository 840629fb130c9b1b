-- The order of the lines of a counts file (docs/RECORDER.md): words by address, then vector lengths by type, then jumps
use Rattle.std.specs.Prelude.{◌≡◌, ◌==◌, ◌<◌, ◌&&◌, ◌⊎◌, ℕ, Bool, List}
use Rattle.std.specs.List.{AllPairs}
use Rattle.recording.specs.declared.key.Key.{Key}
use Rattle.recording.specs.declared.key.Key.TheVariants.{Word, Length, Jump}
use Rattle.recording.specs.declared.row.Row.{Row}

-- the kind of a key, and its two numbers
abbrev pub place_of : Key → ℕ × ℕ × ℕ
place_of (Word pc word) = (0, pc, word)
place_of (Length vtype vl) = (1, vtype, vl)
place_of (Jump pc target) = (2, pc, target)

-- a key is before another, by its kind, and then by its numbers
abbrev pub IsBefore : Key → Key → Type 0
IsBefore key other =
    let a = place_of key in
    let b = place_of other in
    (a.0 < b.0) ⊎ ((a.0 ≡ b.0) × ((a.1 < b.1) ⊎ ((a.1 ≡ b.1) × (a.2 < b.2))))

-- the keys of the rows ascend, so no two rows have the same key
abbrev pub Ascend : List Row → Type 0
Ascend rows = AllPairs (λ row later. IsBefore row.key later.key) rows

-- whether two keys are the same
abbrev pub is_key : Key → Key → Bool
is_key key other =
    let a = place_of key in
    let b = place_of other in
    a.0 == b.0 && a.1 == b.1 && a.2 == b.2
