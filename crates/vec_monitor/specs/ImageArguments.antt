-- Image arguments: a name, an equals sign (byte 61) and a path
use Rattle.std.specs.Prelude.{◌≡◌, ◌≢◌, ◌<◌, ◌+◌, ℕ, length, take, drop, slice_index}
use Rattle.std.specs.Borrow.{Bor}
use Rattle.clap.specs.Walk.{Text}
use Rattle.vec_monitor.specs.declared.image_arguments.ImagePath.{ImagePath}

abbrev pub LacksEqualsSign : Text → Type 0
LacksEqualsSign word = (k : ℕ) → k < length word → slice_index word k ≢ 61

-- the name is the text before the first equals sign, and the path is the text after it
abbrev pub IsNameAndPath : Text → Text → Text → Type 0
IsNameAndPath word name path = (i : ℕ) × (i < length word) × (slice_index word i ≡ 61)
    × ((k : ℕ) → k < i → slice_index word k ≢ 61) × (name ≡ take i word) × (path ≡ drop (i + 1) word)

-- the name and the path in an image argument
abbrev pub IsPathOf : Bor Text → ImagePath → Type 0
IsPathOf word image = IsNameAndPath word.now image.name.now image.path.now
