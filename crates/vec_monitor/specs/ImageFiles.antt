-- The files of images
use Rattle.std.specs.Prelude.{◌≡◌, ◌≤◌, ℕ, List, Option, length}
use Rattle.rv_model.specs.machine.Setup.{Image as NamedImage}
use Rattle.devices.specs.KnownBytes.{AreKnownAs}
use Rattle.vec_monitor.specs.declared.image_files.ImageFile.{ImageFile}
use Rattle.vec_monitor.specs.declared.image_arguments.ImagePath.{ImagePath}

module _ {A : Type 0} where
  -- the image in a file
  abbrev pub named_file : ImageFile A → NamedImage
  named_file file = record { name = file.name.now; bytes = file.bytes.items }

  -- the file of an image has the image's name. It has all bytes of the file at the image's path, unless there are more
  -- than an image may have.
  abbrev pub IsFileOf : (List ℕ → Option (List ℕ)) → ImagePath → ImageFile A → Type 0
  IsFileOf file_bytes image file =
      (file.name.now ≡ image.name.now) × (length file.bytes.items ≤ 4194304 → AreKnownAs (file_bytes image.path.now) file.bytes.items)
