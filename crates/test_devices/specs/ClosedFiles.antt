-- Created and closed files in memory
use Rattle.std.specs.Prelude.{◌≡◌, ◌+◌, ◌%◌, ◌^◌, ◌++◌, ◌∷◌, ℕ, List, [], false, string_bytes}
use Rattle.test_devices.specs.declared.memory_files.MemoryFile.{MemoryFile}
use Rattle.test_devices.specs.declared.memory_files.MemoryFiles.{MemoryFiles}

-- An empty file with this path was created, and no file was closed.
pub record IsCreated (old : MemoryFiles) (path : List ℕ) (file : MemoryFile) (new : MemoryFiles) : Type 0 where
  pub path_is : string_bytes file.path ≡ path
  pub empty : file.bytes.items ≡ []
  pub count : new.created ≡ (old.created + 1) % 2 ^ 64
  pub closed : new.closed ≡ old.closed
  pub lost : new.is_lost ≡ old.is_lost

-- A file was closed, and no file was created. It is the last of the closed files, unless memory ran out.
pub record IsClosed (old : MemoryFiles) (file : MemoryFile) (new : MemoryFiles) : Type 0 where
  pub count : new.created ≡ old.created
  pub before : new.is_lost ≡ false → old.is_lost ≡ false
  pub last : new.is_lost ≡ false → new.closed.items ≡ old.closed.items ++ file ∷ []
