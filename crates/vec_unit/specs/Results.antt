-- Results of vector instructions in groups of elements ("V" Vector Extension 1.0, sections 3.4.3, 5.3 and 5.4).
use Rattle.std.specs.Prelude.{ℕ, ◌||◌, Bool, List}
use Rattle.std.specs.Int.{Width}
use Rattle.rv_model.specs.declared.scalar.Scalar.{Scalar}
use Rattle.rv_model.specs.declared.vector.state.VState.{VState}
use Rattle.rv_model.specs.elements.Arithmetic.{body_of, fills_masked_off, fills_tail, with_results}
use Rattle.rv_model.specs.elements.Elements.{Body}
use Rattle.rv_model.specs.vector.Groups.{GroupType, group_type}
use Rattle.vec_unit.specs.declared.destination.Agnostic.{Agnostic}
use Rattle.vec_unit.specs.declared.destination.Destination.{Destination}
use Rattle.vec_unit.specs.declared.destination.Target.{Target}

-- the bytes of all registers, with these numbers in the group of this type that starts with vd, and this treatment of agnostic elements
abbrev pub with_elements : ℕ → Agnostic → GroupType → Body → (ℕ → ℕ) → List ℕ → List ℕ
with_elements vd agnostic t body number file = with_results t vd body agnostic.fill_masked_off agnostic.fill_tail number file

-- the treatment of a destination's agnostic elements
abbrev pub agnostic_in : Destination → Agnostic
agnostic_in destination = record { fill_masked_off = destination.fill_masked_off; fill_tail = destination.fill_tail }

-- the bytes of all registers, with these numbers as elements of width w in the destination's group
abbrev pub with_written : Width → Destination → Body → (ℕ → ℕ) → List ℕ → List ℕ
with_written w destination body number file =
    with_elements destination.vd (agnostic_in destination) (record { width = w; emul = destination.emul }) body number file

-- the treatment of a body's agnostic elements, under a target's policy and vector type
abbrev pub agnostic_of : Target → Body → Agnostic
agnostic_of target body = record {
  fill_masked_off = fills_masked_off target.policy target.vtype body;
  fill_tail = fills_tail target.policy target.vtype body;
}

-- a state with these numbers in the target's group of this type; the flag says whether a result saturated
abbrev pub executed : GroupType → Target → (ℕ → ℕ) → Bool → VState → VState
executed t target number saturates state = record state {
  file = with_elements target.vd (agnostic_of target (body_of target.unmasked state)) t (body_of target.unmasked state) number state.file;
  vxsat = state.vxsat || saturates;
}

-- a state with the results of an operation of two widths in the target's group of the first type
abbrev pub performed : (GroupType → GroupType → List ℕ → Scalar → ℕ → ℕ) → (GroupType → GroupType → List ℕ → Scalar → Body → Bool)
    → GroupType → GroupType → Target → Scalar → VState → VState
performed number saturates t u target x state =
    executed t target (number t u state.file x) (saturates t u state.file x (body_of target.unmasked state)) state

-- a state with the registers after an operation under the target's vector type
abbrev pub registers_left : (ℕ → Agnostic → GroupType → Body → List ℕ → Scalar → List ℕ) → Target → Scalar → VState → VState
registers_left written target x state =
    let body = body_of target.unmasked state in
    record state { file = written target.vd (agnostic_of target body) (group_type target.vtype) body state.file x }
