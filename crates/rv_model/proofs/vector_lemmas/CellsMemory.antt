-- A `Cells` in memory is equivalent to its contiguous bytes.
use mathlib.Core.Path.{◌≡◌, refl, sym}
use Prim.Native.Nat.{ℕ, zero, ◌+◌}
use mathlib.Core.List.{List, [], ◌∷◌}
use lib.ListN.{length}
use seplogic.Ra.Ura.{Ura}
use mir.Syntax.{Ty, Args, a_number, ty_array, ty_struct}
use base.Logic.{SProp, ent, sep, guard}
use base.Fraction.{full_share}
use base.Fml.{Fml, ftrue, fsep, feq}
use prog.Memory.{align, up}
use types.Logic.{Logic, sem}
use types.SemTy.{cells}
use types.Kit.{‵, ◌⊛◌, raw, ◌$◌, ◌∵◌, !, qed, move, drop, split, fsplit, fjoin, use1, use2, done, rewrite, feq_l, feq_i, check}
use denote.Array.{Array}
use denote.ArrayMemory.{Array-apart, Array-whole}
use denote.Builtin.{u8}
use denote.Index.{row, whole_in, whole_out}
use denote.Memory.{mem, part_at}
use denote.Param.{param, number, layout, layouts, ArrayAt}
use denote.Param.Laws.{number_array_laws, of_field}
use denote.Param.Shared.{copy_shared}
use denote.Struct.Field.{u8-field}
use denote.Struct.Laws.{u8-laws, u8-copy}
use denote.RattleType.{RattleType}
use denote.Steps.{nothing}
use denote.Struct.Declared.{shape}
use denote.Struct.Members.{Member, raw_tys}
use denote.Struct.Parts.{shape_of, Struct-left, left_Struct}
use denote.Struct.Recorded.{Recorded-part}
use denote.Struct.Struct.{Struct}
use Rattle.rv_model.specs.contracts.vector.cells.Cells.{the_row, the_type}

module _ (n : ℕ) where
  abbrev pub args : Args
  args = layouts (a_number ∷ []) (number n, tt)

  abbrev pub N : RattleType
  N = param 0 (number n)

  abbrev pub S : RattleType
  S = the_row N

  abbrev pub array_ty : Ty
  array_ty = ty_array (layout u8) n

  -- the start of the array in a struct at the offset o
  abbrev pub start : ℕ → ℕ
  start o = o + up (align array_ty) zero

  abbrev pub fields : List Member
  fields = record { row = ArrayAt u8 N; ty = array_ty } ∷ []

  abbrev pub Tuple : RattleType
  Tuple = Struct (shape_of (the_type N).name fields)

  as_tuple : (v : S.Denot) (b o : ℕ)
      → part_at S full_share v b o ≡ part_at Tuple full_share (v.bytes, tt) b o
  as_tuple v b o =
      let D = the_type N in Recorded-part (Struct (shape D)) D.D D.to D.to_one full_share v b o

  module _ {M : Type 1} {𝓤 : Ura M} (𝓛 : Logic 𝓤) (b o : ℕ) where
    open 𝓛 use {H}

    -- the rest of the struct without its field
    abbrev pub Left : SProp 𝓤
    Left = H.left full_share (ty_struct [] (raw_tys fields)) (raw_tys fields) b o

    pub elements_out : (v : S.Denot) → ent 𝓤 (sem 𝓛 ((mem S).own_at v b o))
        (guard 𝓤 (length v.bytes ≡ n) (sep 𝓤 (sem 𝓛 (cells (mem u8) v.bytes b (start o))) Left))
    elements_out v =
        let bytes = of_field u8-field u8-laws refl (copy_shared u8-field u8-copy) in
        let lone = (number_array_laws u8 bytes N refl).single in
        qed 𝓛 (‵ (part_at S full_share v b o) ∷ []) ∵
        rewrite ! 0 (λ (f : Fml). ‵ f) (as_tuple v b o) refl $
        use1 𝓛 (‵ (fsep (part_at (Array u8 n) full_share v.bytes b (start o)) ftrue) ⊛ raw Left)
        (Struct-left 𝓛 full_share (the_type N).name fields (lone, tt) (v.bytes, tt) b o) $
        split ! $ fsplit ! $ move ! (1 ∷ []) $ drop ! $
        use1 𝓛 (‵ (fsep (feq ℕ (length v.bytes) n) (row u8 full_share v.bytes b (start o))))
        (Array-apart 𝓛 u8 full_share tt n v.bytes b (start o)) $ fsplit ! $ feq_l ! (λ long.
        use1 𝓛 (‵ (cells (mem u8) v.bytes b (start o))) (whole_in 𝓛 u8 v.bytes b (start o)) $
        check ! long $ done !)

    pub elements_in : (v : S.Denot) → length v.bytes ≡ n
        → ent 𝓤 (sep 𝓤 (sem 𝓛 (cells (mem u8) v.bytes b (start o))) Left) (sem 𝓛 ((mem S).own_at v b o))
    elements_in v long =
        qed 𝓛 (‵ (cells (mem u8) v.bytes b (start o)) ∷ raw Left ∷ []) ∵
        use1 𝓛 (‵ (row u8 full_share v.bytes b (start o))) (whole_out 𝓛 u8 v.bytes b (start o)) $
        feq_i ! ℕ (length v.bytes) n long $ fjoin ! $
        use1 𝓛 (‵ (part_at (Array u8 n) full_share v.bytes b (start o)))
        (Array-whole 𝓛 u8 full_share n v.bytes b (start o)) $
        nothing ! $ move ! (1 ∷ 0 ∷ []) $ fjoin ! $
        use2 𝓛 (‵ (part_at Tuple full_share (v.bytes, tt) b o))
        (left_Struct 𝓛 full_share (the_type N).name fields (v.bytes, tt) b o) $
        rewrite ! 0 (λ (f : Fml). ‵ f) (sym (as_tuple v b o)) refl $ done !
