-- The tests of legality are equivalent to its definition.
use Rattle.std.proofs.Common.{◌≡◌, ℕ, ◌*◌, ◌≤◌, Bool, true, false, ◌||◌, not, List, max, min, refl, arith, ◌↔◌}
use Rattle.std.specs.Prelude.{Option, IsSomeAnd, ◌≢◌, ◌⊎◌, ◌<◌}
use Rattle.std.specs.Option.{option_map_or}
use Rattle.std.specs.Bool.{Decides}
use Rattle.std.specs.Prelude.{◌%◌, nat_le, ◌==◌, ⊤, All, IsTrue}
use Rattle.std.specs.List.{list_all}
use Rattle.std.proofs.lemmas.Bool.{both_ways}
use Rattle.std.proofs.lemmas.Bool.Decides.{Decides-and, Decides-or, Decides-not, Decides-eqb, Decides-ltb, Decides-like, Decides-by_and, nat_tests}
use Rattle.rv_model.specs.declared.legality.Operand.{Operand}
use Rattle.rv_model.specs.declared.legality.Content.{Content}
use Rattle.rv_model.specs.declared.legality.Content.TheVariants.{Mask, Elements}
use Rattle.rv_model.specs.declared.instructions.instruction.Instr.{Instr}
use Rattle.rv_model.specs.declared.vector.types.VType.{VType}
use Rattle.rv_model.specs.legality.RegisterOperands.{eew, end, Overlap, AreLegal, is_group, overlaps, may_overlap, may_share, allows, are_legal}
use Rattle.rv_model.specs.legality.Legality.{operands, starts_at_zero, is_below_64, IsLegal, is_legal}
use Rattle.rv_model.specs.vector.Groups.{sew_bits, registers}
use Rattle.rv_model.specs.vector.Types.{VECTOR_REGISTERS}

decides_le : (a b : ℕ) → Decides (nat_le a b) (a ≤ b)
decides_le a b = grind (arith, nat_tests)

always : Decides true ⊤
always = (λ _. tt, λ _. refl)

never : Decides false ⊥
never = (λ h. absurd (cc), λ h. absurd h)

-- a test under a premise
decides_when : {P Q : Type 0} (p q : Bool) → Decides p P → Decides q Q → Decides (not p || q) (P → Q)
decides_when p q d e = search (arith, nat_tests, both_ways)

itself : (b : Bool) → Decides b (b ≡ true)
itself b = (λ h. h, λ h. h)

-- elements have 8 to 64 bits
abbrev IsWidth : Content → Type 0
IsWidth Mask = ⊤
IsWidth (Elements w) = (8 ≤ w) × (w ≤ 64)

-- the conditions that the test of a group checks
pub record IsGroup (o : Operand) : Type 0 where
  pub width : IsWidth o.content
  pub least : 1 ≤ o.emul
  pub most : o.emul ≤ 64
  pub together : o.emul * o.fields ≤ 64
  pub aligned : o.first % registers o.emul ≡ 0
  pub inside : end o ≤ VECTOR_REGISTERS

group_means : (o : Operand) → Decides (is_group o) (IsGroup o)
group_means o =
    let all =
    Decides-and _ _ (search (arith, nat_tests, Decides-and, always, decides_le))
    (Decides-and _ _ (decides_le 1 o.emul)
    (Decides-and _ _ (decides_le o.emul 64)
    (Decides-and _ _ (decides_le (o.emul * o.fields) 64)
    (Decides-and _ _ (Decides-eqb _ 0) (decides_le (end o) 32))))) in
    Decides-like (is_group o)
    (λ p. record { width = p.0; least = p.1.0; most = p.1.1.0; together = p.1.1.1.0; aligned = p.1.1.1.1.0; inside = p.1.1.1.1.1 })
    (λ g. (g.width, (g.least, (g.most, (g.together, (g.aligned, g.inside))))))
    all

overlap_means : (a b : Operand) → Decides (overlaps a b) (Overlap a b)
overlap_means a b = Decides-like (overlaps a b)
    (λ l. (max a.first b.first, ((omega arith, omega arith), (omega arith, omega arith))))
    (λ o. omega (arith, o.1.0.0, o.1.0.1, o.1.1.0, o.1.1.1))
    (Decides-ltb (max a.first b.first) (min (end a) (end b)))

-- which groups may overlap, as statements
abbrev pub MayOverlap : Operand → Operand → Type 0
MayOverlap d s =
    (eew d.content ≡ eew s.content)
    ⊎ (((eew d.content < eew s.content) × (d.first ≡ s.first))
    ⊎ ((eew s.content < eew d.content) × (8 ≤ s.emul) × (end d ≡ end s)))

pub may_overlap_means : (d s : Operand) → Decides (may_overlap d s) (MayOverlap d s)
may_overlap_means d s = search (arith, nat_tests, Decides-and, Decides-eqb, Decides-like, Decides-ltb, Decides-or, decides_le, end)

allows_means : (d s : Operand) → Decides (allows d s) (Overlap d s → IsTrue (may_share d.role s.role d s))
allows_means d s = decides_when (overlaps d s) (may_share d.role s.role d s) (overlap_means d s) (itself (may_share d.role s.role d s))

all_means : {X : Type 0} (p : X → Bool) (P : X → Type 0) → ((x : X) → Decides (p x) (P x)) → (xs : List X) → Decides (list_all p xs) (All P xs)
all_means p P each xs = Decides-by_and p P (list_all p) each refl (λ _ _. refl) xs

are_legal_decides : (xs : List Operand) → Decides (are_legal xs) (AreLegal xs)
unfolding are_legal
are_legal_decides xs =
    Decides-like _ (λ p. record { groups = p.0; pairs = p.1 }) (λ l. (l.groups, l.pairs))
    (Decides-and _ _ (all_means is_group (λ o. IsTrue (is_group o)) (λ o. itself (is_group o)) xs)
    (all_means (λ d. list_all (allows d) xs) (λ d. All (λ s. Overlap d s → IsTrue (may_share d.role s.role d s)) xs)
    (λ d. all_means (allows d) (λ s. Overlap d s → IsTrue (may_share d.role s.role d s)) (allows_means d) xs) xs))

-- legal operands are valid groups
pub groups_are : {xs : List Operand} → AreLegal xs → All IsGroup xs
groups_are legal = λ i d l. (group_means _).0 (legal.groups i d l)

pub are_legal_means : (xs : List Operand) → (are_legal xs ≡ true) ↔ AreLegal xs
are_legal_means xs = are_legal_decides xs

narrow_decides : (t : Option VType) → Decides (option_map_or (λ t. not (sew_bits t.sew == 64)) t false) (IsSomeAnd t (λ t. sew_bits t.sew ≢ 64))
narrow_decides t = search (arith, nat_tests, Decides-eqb, Decides-not, never)

-- the test is true exactly for the legal instructions
pub is_legal_means : (i : Instr) (t : Option VType) (vstart : ℕ) → (is_legal i t vstart ≡ true) ↔ IsLegal i t vstart
unfolding is_legal
is_legal_means i t vstart =
    Decides-like _ (λ p. record { operands = p.0; start = p.1.0; width = p.1.1 }) (λ l. (l.operands, (l.start, l.width)))
    (Decides-and _ _ (search (arith, nat_tests, are_legal_decides, never))
    (Decides-and _ _
    (decides_when (starts_at_zero i) (vstart == 0) (itself (starts_at_zero i)) (Decides-eqb vstart 0))
    (decides_when (is_below_64 i) _ (itself (is_below_64 i)) (narrow_decides t))))

-- the operands of a legal instruction are valid groups
some_groups : (o : Option (List Operand)) → IsSomeAnd o AreLegal → IsSomeAnd o (All IsGroup)
some_groups o h = search (arith, nat_tests, groups_are)

pub legal_groups : (i : Instr) (t : Option VType) (vstart : ℕ) → is_legal i t vstart ≡ true → IsSomeAnd (operands i t) (All IsGroup)
legal_groups i t vstart h = some_groups (operands i t) ((is_legal_means i t vstart).0 h).operands
