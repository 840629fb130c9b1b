-- Operations on copies of operands have the same results as on the operands.
use Rattle.std.proofs.Common.{ℕ, ◌<◌, ◌≡◌, ◌∙◌, ap, List}
use Rattle.rv_model.specs.elements.Arithmetic.{group_element}
use Rattle.rv_model.specs.vector.Groups.{GroupType, width_bytes, group_of}
use Rattle.rv_model.specs.elements.Elements.{element}

-- a function of an element of a copy of a group, and of a known number
pub known_second : {A : Type 0} (u : GroupType) (made : ℕ → ℕ → A) (first file : List ℕ) (vs2 i number known : ℕ)
    → first ≡ group_of file vs2 u.emul → number ≡ known
    → made (element (width_bytes u.width) first i) number ≡ made (group_element u file vs2 i) known
known_second u made first file vs2 i number known copied same =
    ap (λ bytes. made (element (width_bytes u.width) bytes i) number) copied ∙ ap (made (group_element u file vs2 i)) same

-- a function of an element of each of two copies, the first of a group and the second of known elements
pub two_operands : {A : Type 0} (u v : GroupType) (made : ℕ → ℕ → A) (first second file : List ℕ) (vs2 end : ℕ) (known : ℕ → ℕ)
    → first ≡ group_of file vs2 u.emul
    → ((i : ℕ) → i < end → element (width_bytes v.width) second i ≡ known i)
    → (i : ℕ) → i < end
    → made (element (width_bytes u.width) first i) (element (width_bytes v.width) second i)
    ≡ made (group_element u file vs2 i) (known i)
two_operands u v made first second file vs2 end known copied same i h =
    known_second u made first file vs2 i (element (width_bytes v.width) second i) (known i) copied (same i h)

-- the same with a third operand
pub three_operands : {A B : Type 0} (u v : GroupType) (made : ℕ → ℕ → B → A) (first second file : List ℕ) (vs2 end : ℕ)
    (known : ℕ → ℕ) (given third : ℕ → B)
    → first ≡ group_of file vs2 u.emul
    → ((i : ℕ) → i < end → element (width_bytes v.width) second i ≡ known i)
    → ((i : ℕ) → given i ≡ third i)
    → (i : ℕ) → i < end
    → made (element (width_bytes u.width) first i) (element (width_bytes v.width) second i) (given i)
    ≡ made (group_element u file vs2 i) (known i) (third i)
three_operands u v made first second file vs2 end known given third copied same also i h =
    two_operands u v (λ a b. made a b (given i)) first second file vs2 end known copied same i h
    ∙ ap (made (group_element u file vs2 i) (known i)) (also i)
