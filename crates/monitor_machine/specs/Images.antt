-- The images that a machine borrows.
use Rattle.std.specs.Prelude.{ℕ, List, map}
use Rattle.rv_model.specs.machine.Setup.{Setup, Image as NamedImage}
use Rattle.monitor_machine.specs.declared.image.Image.{Image}

-- the name and the bytes of a borrowed image
abbrev pub named_image : Image → NamedImage
named_image image = record { name = image.name.now; bytes = image.bytes.now }

abbrev pub named_images : List Image → List NamedImage
named_images images = map named_image images

-- the constants of a run: the ticks of a slice, and these images
abbrev pub setup_of : ℕ → List Image → Setup
setup_of quantum images = record { quantum = quantum; images = named_images images }
