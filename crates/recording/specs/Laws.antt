-- Laws about the counts.
use Rattle.std.specs.Prelude.{ℕ, ◌≡◌, ◌+◌, ◌≤◌, ◌++◌, Bool, false, [], Some, flat_map, length}
use Rattle.rv_model.specs.accesses.VectorAccess.{VectorAccess, access_of}
use Rattle.rv_model.specs.declared.instructions.access.AccessInstr.{AccessInstr}
use Rattle.rv_model.specs.declared.instructions.vector.VectorInstr.{VectorInstr}
use Rattle.rv_model.specs.declared.scalar.Scalar.{Scalar}
use Rattle.rv_model.specs.declared.vector.state.VState.{VState}
use Rattle.rv_model.specs.declared.vector.types.VType.{VType}
use Rattle.rv_model.specs.elements.Bodies.{counted_body}
use Rattle.rv_model.specs.machine.UserMachine.{steps, Present}
use Rattle.rv_model.specs.step.WriteCall.{output_size, write_size}
use Rattle.rv_model.specs.vector.Groups.{register_of}
use Rattle.recording.specs.Classes.{access_class, body, is_plain, operation_class}
use Rattle.recording.specs.Machines.{taken}
use Rattle.recording.specs.Runs.{output_of, ran}

-- Without breakpoints, a run leaves the same state as the same number of steps of the monitor, with all its output in the buffer. The
-- law assumes that the buffer has room for this output and one more write of the largest size.
abbrev pub RunsAsSteps : Type 0
RunsAsSteps = (ticks : ℕ) (skip_once : Bool) (p : Present) → p.breakpoints ≡ []
    → length (p.hart.output ++ flat_map output_of (ran ticks (taken p.hart)).found) + write_size ≤ output_size
    → (steps (length (ran ticks (taken p.hart)).found) skip_once p).state.hart
    ≡ record (ran ticks (taken p.hart)).state { output = p.hart.output ++ flat_map output_of (ran ticks (taken p.hart)).found }

-- The counted body of a load or store is the body of its access, which defines the elements that it moves.
abbrev pub AccessBody : Type 0
AccessBody = (i : AccessInstr) (v : VState) (x : Scalar) (a : VectorAccess) → access_of i v x ≡ Some a
    → a.body ≡ body (access_class i) (register_of v.file 0) v.vstart v.conf

-- The counted body of any other vector instruction is the body on which the definition of its step operates. For vmv.x.s and vmv.s.x it
-- is element 0, if the step reads or writes it.
abbrev pub OperationBody : Type 0
OperationBody = (i : VectorInstr) (t : VType) (v : VState) → v.conf.vtype ≡ Some t → is_plain (operation_class i) ≡ false
    → body (operation_class i) (register_of v.file 0) v.vstart v.conf ≡ counted_body i t v
