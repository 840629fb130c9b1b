-- Constants of a run: the users, numbered from 1, the images, and the ticks of a slice.
use Rattle.std.specs.Prelude.{ℕ, List}
use Rattle.std.specs.List.{range_with_len}

-- number of users
abbrev pub user_count : ℕ
user_count = 8

-- all users, in order
abbrev pub users : List ℕ
users = range_with_len 1 user_count

-- a named file that users can load
pub record Image : Type 0 where
  pub name : List ℕ
  pub bytes : List ℕ

-- the ticks of a slice, and the images
pub record Setup : Type 0 where
  pub quantum : ℕ
  pub images : List Image
