-- The initial machine of a run, from the files that the arguments name: an image, memory and registers. The bytes of
-- files may be unspecified.
use Rattle.std.specs.Prelude.{◌≡◌, ℕ, List, [], ◌∷◌, Option, None, Some, Ok}
use Rattle.clap.specs.Walk.{Text}
use Rattle.devices.specs.KnownBytes.{AreKnownAs}
use Rattle.rv_model.specs.memory.Memory.{Memory}
use Rattle.rv_model.specs.declared.vector.policy.Policy.{Policy}
use Rattle.rv_model.specs.step.Hart.{HartState}
use Rattle.first_state.specs.RegisterFile.{with_registers}
use Rattle.first_state.specs.Loaded.{entered, load_fault, loaded}
use Rattle.first_state.specs.Placed.{in_memory, placed}
use Rattle.vec_recorder.specs.declared.memory_arguments.MemoryPath.{MemoryPath}

-- the machine of a user who has just entered, with a valid image if there is one
abbrev pub IsLoaded : (Text → Option (List ℕ)) → Policy → Option Text → HartState → Type 0
IsLoaded file_bytes policy None s = s ≡ entered policy
IsLoaded file_bytes policy (Some path) s =
    (image : List ℕ) × AreKnownAs (file_bytes path) image × (load_fault image ≡ None) × (s ≡ loaded image policy)

-- the memory after writing the bytes of all these files, each without a fault
unfoldable pub ArePlaced : (Text → Option (List ℕ)) → List MemoryPath → Memory → Memory → Type 0
ArePlaced file_bytes [] before after = after ≡ before
ArePlaced file_bytes (memory ∷ others) before after =
    (bytes : List ℕ) × AreKnownAs (file_bytes memory.path.now) bytes × ((next : Memory)
    × (placed memory.permissions memory.addr bytes before ≡ Ok next) × ArePlaced file_bytes others next after)

-- the machine after setting the registers of a valid file, if there is one
abbrev pub AreSet : (Text → Option (List ℕ)) → Option Text → HartState → HartState → Type 0
AreSet file_bytes None before after = after ≡ before
AreSet file_bytes (Some path) before after =
    (text : List ℕ) × AreKnownAs (file_bytes path) text × (with_registers text before ≡ Ok after)

-- the initial state of a run: the image, then the memory files, then the registers
pub record StartsFrom (file_bytes : Text → Option (List ℕ)) (policy : Policy) (image : Option Text) (memories : List MemoryPath) (registers : Option Text) (state : HartState) : Type 0 where
  pub first : HartState
  pub loaded_is : IsLoaded file_bytes policy image first
  pub memory : Memory
  pub placed_are : ArePlaced file_bytes memories first.memory memory
  pub laid_are : AreSet file_bytes registers (in_memory first memory) state
