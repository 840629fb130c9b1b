-- The register operands of a vector operation, by the shape of the operation ("V" Vector Extension 1.0, sections 5.2, 10.2,
-- 10.3, 11.1 to 11.12, 12, 14 and 16).
use Rattle.std.specs.Prelude.{ℕ, Bool, true, false, List, [], ◌∷◌, ◌++◌}
use Rattle.std.specs.Int.{w16}
use mir.Val.{bits}
use Rattle.rv_model.specs.instructions.Types.{VectorOp, Source}
use Rattle.rv_model.specs.declared.instructions.operations.VectorOp.TheVariants as op
use Rattle.rv_model.specs.declared.instructions.operations.PermuteOp.TheVariants.{Vrgatherei16, Vslidedown, Vslide1down}
use Rattle.rv_model.specs.legality.Types.{Operand, Mask, Elements, Role, Read, Control, Write, Apart, Free, Shape}
use Rattle.rv_model.specs.declared.legality.Shape.TheVariants.{Single, Widening, WideSource, Narrowing, Compare, Gather, GatherIndices16, Reduction, WideReduction}
use Rattle.rv_model.specs.declared.instructions.source.Source.TheVariants as source
use Rattle.rv_model.specs.vector.Types.{VType}
use Rattle.rv_model.specs.vector.Groups.{GroupType, group_type, sew_width, single_type, wide_type, with_width}

-- ---- operands

-- the fields of a segment, each a group of a type, from register r on
abbrev pub field_groups : Role → ℕ → ℕ → GroupType → Operand
field_groups role fields r g = record { role = role; first = r; content = Elements (bits g.width); emul = g.emul; fields = fields }

-- a group of a type, from register r on
abbrev pub group : Role → ℕ → GroupType → Operand
group role r g = field_groups role 1 r g

-- a register that holds a mask
abbrev pub mask : Role → ℕ → Operand
mask role r = record { role = role; first = r; content = Mask; emul = 8; fields = 1 }

-- v0, the mask of a masked instruction
abbrev pub v0 : Bool → List Operand
v0 true = []
v0 false = mask Control 0 ∷ []

-- ---- shapes

-- the shape of an operation
abbrev pub shape_of : VectorOp → Shape
shape_of (op.CarryOut o) = Compare
shape_of (op.Compare o) = Compare
shape_of (op.NarrowShift o) = Narrowing
shape_of (op.Clip o) = Narrowing
shape_of (op.Widen o) = Widening
shape_of (op.WideSource o) = WideSource
shape_of (op.WidenMultiplyAdd o) = Widening
shape_of (op.Reduce o) = Reduction
shape_of (op.WidenReduce o) = WideReduction
shape_of (op.Permute Vrgatherei16) = GatherIndices16
shape_of (op.Permute Vslidedown) = Single
shape_of (op.Permute Vslide1down) = Single
shape_of (op.Permute _) = Gather
shape_of _ = Single

-- vd
abbrev pub destination : Shape → ℕ → VType → Operand
destination Widening vd t = group Write vd (wide_type t)
destination WideSource vd t = group Write vd (wide_type t)
destination Compare vd t = mask Write vd
destination Gather vd t = group Apart vd (group_type t)
destination GatherIndices16 vd t = group Apart vd (group_type t)
destination Reduction vd t = group Free vd (single_type (sew_width t.sew))
destination WideReduction vd t = group Free vd (single_type (wide_type t).width)
destination _ vd t = group Write vd (group_type t)

-- vs2
abbrev pub first_source : Shape → ℕ → VType → Operand
first_source WideSource vs2 t = group Read vs2 (wide_type t)
first_source Narrowing vs2 t = group Read vs2 (wide_type t)
first_source _ vs2 t = group Read vs2 (group_type t)

-- vs1
abbrev pub vector_source : Shape → ℕ → VType → Operand
vector_source GatherIndices16 vs1 t = group Read vs1 (with_width w16 (group_type t))
vector_source Reduction vs1 t = group Read vs1 (single_type (sew_width t.sew))
vector_source WideReduction vs1 t = group Read vs1 (single_type (wide_type t).width)
vector_source _ vs1 t = group Read vs1 (group_type t)

-- vs1; scalar registers and immediates aren't vector registers
abbrev pub second_source : Shape → Source → VType → List Operand
second_source shape (source.V vs1) t = vector_source shape vs1 t ∷ []
second_source shape (source.X rs1) t = []
second_source shape (source.I imm) t = []

-- vd, vs2, the second source, and v0
unfoldable pub shape_operands : Shape → ℕ → ℕ → Source → Bool → VType → List Operand
shape_operands shape vd vs2 source unmasked t =
    destination shape vd t ∷ first_source shape vs2 t ∷ (second_source shape source t ++ v0 unmasked)
