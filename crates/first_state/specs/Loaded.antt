-- The initial state of a run: the machine of a user who has entered, and the state after the monitor's `load` or the fault that prevents
-- it.
use Rattle.std.specs.Prelude.{ℕ, nat_lt, List, Option, Some, None, if◌then◌else◌}
use Rattle.rv_model.specs.commands.Programs.{with_image}
use Rattle.rv_model.specs.declared.images.ElfFault.{ElfFault}
use Rattle.rv_model.specs.images.Faults.{first_fault}
use Rattle.rv_model.specs.images.Image.{memory_of_image}
use Rattle.rv_model.specs.machine.UserMachine.{initial}
use Rattle.rv_model.specs.memory.Memory.{page_count}
use Rattle.rv_model.specs.memory.Sizes.{page_quota}
use Rattle.rv_model.specs.declared.vector.policy.Policy.{Policy}
use Rattle.rv_model.specs.step.Hart.{HartState}
use Rattle.first_state.specs.declared.fault.LoadFault.{LoadFault}
use Rattle.first_state.specs.declared.fault.LoadFault.TheVariants.{Elf, Quota}

-- the state after `enter`: no memory, and all registers 0, under a policy
abbrev pub entered : Policy → HartState
entered policy = record initial.hart { policy = policy }

-- the state after `load`: the memory of an image, the image's entry as program counter, and x2 as stack pointer
abbrev pub loaded : List ℕ → Policy → HartState
loaded image policy = record (with_image image).hart { policy = policy }

-- the fault that prevents an image from being loaded: its first ELF fault, or too many pages
abbrev pub fault_of : List ℕ → Option ElfFault → Option LoadFault
fault_of image (Some fault) = Some (Elf fault)
fault_of image None = if nat_lt page_quota (page_count (memory_of_image image)) then Some Quota else None

abbrev pub load_fault : List ℕ → Option LoadFault
load_fault image = fault_of image (first_fault image)
