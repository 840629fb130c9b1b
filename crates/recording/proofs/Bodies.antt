-- The body of a vector instruction, compared with that of its class.
use Rattle.std.proofs.Common.{◌≡◌, refl, sym, ap, ◌∙◌, true, Option, Some, None}
use Rattle.std.specs.Option.{option_map, option_map_or}
use Rattle.rv_model.specs.accesses.VectorAccess.{VectorAccess}
use Rattle.rv_model.specs.declared.instructions.access.AccessInstr.TheVariants.{UnitStride, Strided, Indexed, WholeLoad, WholeStore, MaskAccess}
use Rattle.rv_model.specs.declared.instructions.vector.VectorInstr.TheVariants.{SetVli, SetIvli, SetVl, WholeMove}
use Rattle.rv_model.specs.declared.vector.types.VType.{VType}
use Rattle.rv_model.specs.elements.Arithmetic.{body_of}
use Rattle.rv_model.specs.elements.Elements.{Body}
use Rattle.rv_model.specs.vector.Groups.{element_count, whole_type}
use Rattle.recording.specs.Laws.{AccessBody, OperationBody}

-- ---- loads and stores

-- the body of an access that equals another one
same_body : (made a : VectorAccess) → Some made ≡ Some a → a.body ≡ made.body
same_body made a is = let e : made ≡ a = cc in ap (λ (b : VectorAccess). b.body) (sym e)

-- the same for any vector type
by_type : (made : VType → VectorAccess) (b : Body) (c : Option VType) (a : VectorAccess) → ((t : VType) → (made t).body ≡ b) → option_map made c ≡ Some a → a.body ≡ b
by_type made b None a same is = cc
by_type made b (Some t) a same is = same_body (made t) a is ∙ same t

pub access_body : AccessBody
access_body (UnitStride op width nf vd rs1 vm) v x a is = by_type _ _ v.conf.vtype a (λ t. refl) is
access_body (Strided direction width nf vd rs1 rs2 vm) v x a is = by_type _ _ v.conf.vtype a (λ t. refl) is
access_body (Indexed direction order width nf vd rs1 vs2 vm) v x a is = by_type _ _ v.conf.vtype a (λ t. refl) is
access_body (WholeLoad count width vd rs1) v x a is = same_body _ a is
access_body (WholeStore count vd rs1) v x a is = same_body _ a is
access_body (MaskAccess direction vd rs1) v x a is = by_type _ _ v.conf.vtype a (λ t. refl) is

-- ---- operations

pub operation_body : OperationBody
operation_body (SetVli rd rs1 vtype) t v is has_elements = absurd (cc)
operation_body (SetIvli rd avl vtype) t v is has_elements = absurd (cc)
operation_body (SetVl rd rs1 rs2) t v is has_elements = absurd (cc)
operation_body (WholeMove count vd vs2) t v is has_elements =
    ap (λ (o : Option VType). let made : Body = record (body_of true v) { end = option_map_or (λ u. element_count (whole_type u count)) o 0 } in made) is
operation_body _ t v is has_elements = refl
