-- The state after a vector load or store ("V" Vector Extension 1.0, sections 3.4.3, 7.4 to 7.9 and 17.1).
use Rattle.std.specs.Prelude.{ℕ, zero, suc, ◌+◌, ◌*◌, ◌&&◌, nat_le, not, Bool, true, false, List, Option, Some, None, if◌then◌else◌}
use Rattle.std.specs.Option.{option_and_then, option_map_or}
use Rattle.rv_model.specs.declared.instructions.access.AccessInstr.TheVariants.{UnitStride, Strided, Indexed}
use Rattle.rv_model.specs.declared.instructions.operations.Direction.TheVariants as direction
use Rattle.rv_model.specs.declared.step.memory_end.MemEnd.TheVariants as memory_end
use Rattle.rv_model.specs.declared.step.vector_end.VEnd.{VEnd}
use Rattle.rv_model.specs.declared.step.vector_end.VEnd.TheVariants.{Done, Fault, Cut}
use Rattle.rv_model.specs.accesses.AccessRuns.{AccessInstr, AccessRun, Direction, MemEnd, VectorAccess}
use Rattle.rv_model.specs.accesses.VectorAccess.{GroupType, VType, group_type}
use Rattle.rv_model.specs.vector.Groups.{access_type, width_bytes, group_of, registers, with_group}
use Rattle.rv_model.specs.elements.Arithmetic.{fills_masked_off, fills_tail}
use Rattle.rv_model.specs.elements.Formulas.{ones}
use Rattle.rv_model.specs.elements.Elements.{written}
use Rattle.rv_model.specs.step.Hart.{HartState}

-- whether an access reads memory
abbrev pub reads_memory : Direction → Bool
reads_memory direction.Load = true
reads_memory direction.Store = false

-- ---- elements that become all ones

-- whether the masked-off elements of a load become all ones, under the policy and the vector type
abbrev pub load_fills_masked_off : VectorAccess → HartState → Bool
load_fills_masked_off a s = option_map_or (λ t. fills_masked_off s.policy t a.body) s.vector.conf.vtype false

-- the registers after the elements from vl on become all ones, in the group that starts at vd
abbrev pub tail_filled : GroupType → ℕ → ℕ → List ℕ → List ℕ
tail_filled g vd vl file =
    with_group file vd (written (width_bytes g.width) (nat_le vl) (λ i. ones g.width) (group_of file vd g.emul))

-- the same for several fields, whose groups follow one another
unfoldable pub tails_filled : GroupType → ℕ → ℕ → ℕ → List ℕ → List ℕ
tails_filled g vd zero vl file = file
tails_filled g vd (suc fields) vl file = tail_filled g (vd + fields * registers g.emul) vl (tails_filled g vd fields vl file)

-- the group type of the fields of an access; None for whole registers and masks, whose tails are never filled
abbrev pub tail_type : AccessInstr → VType → Option GroupType
tail_type (UnitStride op width nf vd rs1 vm) t = Some (access_type t width)
tail_type (Strided direction width nf vd rs1 rs2 vm) t = Some (access_type t width)
tail_type (Indexed direction order width nf vd rs1 vs2 vm) t = Some (group_type t)
tail_type _ t = None

-- the group type whose tails a load fills, under the policy and the vector type; None if it leaves the tails unchanged
abbrev pub filled_type : AccessInstr → VectorAccess → HartState → Option GroupType
filled_type i a s =
    option_and_then (λ t. if reads_memory a.direction && fills_tail s.policy t a.body then tail_type i t else None)
    s.vector.conf.vtype

-- A load that completes fills the tails from the vector length before it, even if it shortens the length.
abbrev pub with_tails : Option GroupType → VectorAccess → MemEnd → List ℕ → List ℕ
with_tails (Some g) a memory_end.Done file = tails_filled g a.register a.fields a.body.end file
with_tails _ a end file = file

-- ---- the effect on the state of a hart

-- the state after a run, with the tails of these groups filled, if there are any
abbrev pub after_access : Option GroupType → VectorAccess → AccessRun → HartState → HartState
after_access g a run s =
    record s { vector = record run.vector { file = with_tails g a run.end run.vector.file }; memory = run.memory }

-- the end of the instruction, from the end of its accesses
abbrev pub access_end : Direction → MemEnd → VEnd
access_end direction memory_end.Done = Done
access_end direction (memory_end.Fault index addr) = Fault (not (reads_memory direction)) addr
access_end direction (memory_end.Cut index) = Cut index
