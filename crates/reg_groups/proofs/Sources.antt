-- Legality of a destination and sources: only pairs with the destination need a test.
use Rattle.std.proofs.Common.{◌≡◌, ℕ, Bool, true, false, ◌&&◌, ◌||◌, not, List, refl, sym, ap, subst, ◌∙◌}
use Rattle.std.proofs.Math.Bool.{and-true, or-true}
use Rattle.std.specs.Prelude.{⊤, [], ◌∷◌, ◌++◌}
use Rattle.std.specs.List.{list_all}
use Rattle.rv_model.specs.declared.instructions.source.Source.{Source}
use Rattle.rv_model.specs.declared.instructions.source.Source.TheVariants as source
use Rattle.rv_model.specs.declared.legality.Operand.{Operand}
use Rattle.rv_model.specs.declared.legality.Role.{Role}
use Rattle.rv_model.specs.declared.legality.Role.TheVariants.{Read, Control}
use Rattle.rv_model.specs.declared.legality.Shape.{Shape}
use Rattle.rv_model.specs.declared.legality.Shape.TheVariants.{GatherIndices16, WideSource}
use Rattle.rv_model.specs.declared.vector.types.VType.{VType}
use Rattle.rv_model.specs.legality.OperandShapes.{destination, first_source, mask, second_source, shape_operands, v0, vector_source}
use Rattle.rv_model.specs.legality.RegisterOperands.{allows, are_legal, is_group, may_share, overlaps}
use Rattle.reg_groups.specs.Roles.{of_vector, is_compatible_source}

-- the instruction doesn't write the registers of the operand
abbrev IsSource : Role → Type 0
IsSource Read = ⊤
IsSource Control = ⊤
IsSource _ = ⊥

abbrev AreSources : List Operand → Type 0
AreSources [] = ⊤
AreSources (x ∷ xs) = IsSource x.role × AreSources xs

source_agrees : (r q : Role) (d s : Operand) → IsSource r → (not (overlaps d s) || may_share r q d s) ≡ true
source_agrees Read q d s h = or-true _
source_agrees Control q d s h = or-true _
source_agrees _ q d s h = absurd h

source_allows : (a : Operand) (xs : List Operand) → IsSource a.role → list_all (allows a) xs ≡ true
source_allows a [] h = refl
source_allows a (x ∷ xs) h = rw (source_agrees a.role x.role a x h) (source_allows a xs h)

sources_allow : (xs all : List Operand) → AreSources xs → list_all (λ s. list_all (allows s) all) xs ≡ true
sources_allow [] all h = refl
sources_allow (x ∷ xs) all h = rw (source_allows x all h.0) (sources_allow xs all h.1)

itself_agrees : (r : Role) (d : Operand) → (not (overlaps d d) || may_share r r d d) ≡ true
itself_agrees Read d = or-true _
itself_agrees _ d = or-true _

zipped : (d : Operand) (xs : List Operand) → (list_all is_group xs && list_all (allows d) xs) ≡ list_all (is_compatible_source d) xs
zipped d [] = refl
zipped d (x ∷ xs) = pair (is_group x) _ (allows d x) _ ∙ ap (λ b. is_compatible_source d x && b) (zipped d xs)
  where
    pair : (a b x y : Bool) → ((a && b) && (x && y)) ≡ ((a && x) && (b && y))
    pair true true x y = refl
    pair true false true y = refl
    pair true false false y = refl
    pair false b x y = refl

-- a destination and sources
pub sources_legal : (d : Operand) (xs : List Operand) → AreSources xs → are_legal (d ∷ xs) ≡ (is_group d && list_all (is_compatible_source d) xs)
unfolding are_legal
sources_legal d xs h =
    rw (itself_agrees d.role d, sources_allow xs (d ∷ xs) h) (tests (is_group d) (list_all is_group xs) (list_all (allows d) xs))
    ∙ ap (λ b. is_group d && b) (zipped d xs)
  where
    tests : (g a b : Bool) → ((g && a) && (b && true)) ≡ (g && (a && b))
    tests true a b = ap (λ x. a && x) (and-true b)
    tests false a b = refl

-- v0 is a group, so only its pair with the destination needs a test
mask_compatible : (d : Operand) (unmasked : Bool) → list_all (is_compatible_source d) (v0 unmasked) ≡ (unmasked || allows d (mask Control 0))
mask_compatible d true = refl
mask_compatible d false = and-true _

mask_is_source : (unmasked : Bool) → AreSources (v0 unmasked)
mask_is_source true = tt
mask_is_source false = (tt, tt)

-- one operand and the mask
pub masked_legal : (o : Operand) (unmasked : Bool) → are_legal (o ∷ v0 unmasked) ≡ (is_group o && (unmasked || allows o (mask Control 0)))
masked_legal o unmasked = sources_legal o (v0 unmasked) (mask_is_source unmasked) ∙ ap (λ b. is_group o && b) (mask_compatible o unmasked)

-- a destination, a source and the mask
pub pair_legal : (d s : Operand) (unmasked : Bool) → s.role ≡ Read
    → are_legal (d ∷ s ∷ v0 unmasked) ≡ (is_group d && (is_compatible_source d s && (unmasked || allows d (mask Control 0))))
pair_legal d s unmasked read =
    sources_legal d (s ∷ v0 unmasked) (subst IsSource (sym read) tt, mask_is_source unmasked)
    ∙ ap (λ b. is_group d && (is_compatible_source d s && b)) (mask_compatible d unmasked)

-- one operand by itself
pub lone_legal : (o : Operand) → are_legal (o ∷ []) ≡ is_group o
lone_legal o = sources_legal o [] tt ∙ and-true (is_group o)

first_is_source : (shape : Shape) (vs2 : ℕ) (t : VType) → IsSource (first_source shape vs2 t).role
first_is_source WideSource vs2 t = tt
first_is_source _ vs2 t = tt

vector_is_source : (shape : Shape) (vs1 : ℕ) (t : VType) → IsSource (vector_source shape vs1 t).role
vector_is_source GatherIndices16 vs1 t = tt
vector_is_source _ vs1 t = tt

second_is_source : (shape : Shape) (from : Source) (t : VType) (rest : List Operand) → AreSources rest → AreSources (second_source shape from t ++ rest)
second_is_source shape (source.V vs1) t rest h = (vector_is_source shape vs1 t, h)
second_is_source shape _ t rest h = h

-- the second source, if it is a vector
second_compatible : (d : Operand) (shape : Shape) (from : Source) (t : VType) (rest : List Operand)
    → list_all (is_compatible_source d) (second_source shape from t ++ rest)
    ≡ (of_vector from (λ vs1. is_compatible_source d (vector_source shape vs1 t)) && list_all (is_compatible_source d) rest)
second_compatible d shape (source.V vs1) t rest = refl
second_compatible d shape _ t rest = refl

-- conditions of a shape on its operands
pub shape_legal : (shape : Shape) (vd vs2 : ℕ) (from : Source) (unmasked : Bool) (t : VType)
    → are_legal (shape_operands shape vd vs2 from unmasked t)
    ≡ (is_group (destination shape vd t) && (is_compatible_source (destination shape vd t) (first_source shape vs2 t)
    && (of_vector from (λ vs1. is_compatible_source (destination shape vd t) (vector_source shape vs1 t))
    && (unmasked || allows (destination shape vd t) (mask Control 0)))))
unfolding shape_operands
shape_legal shape vd vs2 from unmasked t =
    let d : Operand = destination shape vd t in
    let a : Operand = first_source shape vs2 t in
    sources_legal d (a ∷ (second_source shape from t ++ v0 unmasked))
    (first_is_source shape vs2 t, second_is_source shape from t (v0 unmasked) (mask_is_source unmasked))
    ∙ ap (λ b. is_group d && (is_compatible_source d a && b))
    (second_compatible d shape from t (v0 unmasked)
    ∙ ap (λ b. of_vector from (λ vs1. is_compatible_source d (vector_source shape vs1 t)) && b) (mask_compatible d unmasked))

-- the second of two tests may assume that the first holds
pub guarded : (g a b : Bool) → (g ≡ true → a ≡ b) → (g && a) ≡ (g && b)
guarded true a b h = h refl
guarded false a b h = refl
