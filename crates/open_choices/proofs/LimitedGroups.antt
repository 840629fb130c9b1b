-- The elements of a group that is open only to choices of some kinds.
use Rattle.std.proofs.Common.{ℕ, ◌≡◌, ◌∙◌, List, Bool, true, false, ◌&&◌, ◌||◌, not, nat_le, nat_lt, if◌then◌else◌, refl, ap, arith}
use Rattle.std.proofs.lemmas.Bool.Decides.{nat_tests}
use Rattle.std.proofs.Math.Path.{fun_ext}
use Rattle.rv_model.specs.elements.Elements.{is_enabled}
use Rattle.open_choices.specs.declared.open_group.OpenGroup.{OpenGroup}
use Rattle.open_choices.specs.declared.seeds.Kinds.{Kinds}
use Rattle.open_choices.specs.Fills.{is_filled, with_ones}
use Rattle.open_choices.specs.Groups.{fill_of_group, limited}
use Rattle.open_choices.specs.Seeds.{has_kind}

both_kinds : (m km t kt s e l p x : Bool) → (e ≡ true → p ≡ false)
    → ((((m && km) && ((s && e) && not l)) || ((t && kt) && p)) && x) ≡ (((m && ((s && e) && not l)) || (t && p)) && (x && (if p then kt else km)))
both_kinds m km t kt s true l true x apart = absurd (differs (apart refl))
  where
    differs : true ≡ false → ⊥
    differs h = search (arith, nat_tests)
both_kinds m km false kt s e l false x apart = grind (arith, nat_tests)
both_kinds m km true kt s e l false x apart = grind (arith, nat_tests)
both_kinds true km t kt s false l true x apart = grind (arith, nat_tests)
both_kinds false km t kt s false l true x apart = grind (arith, nat_tests)

module _ (o : OpenGroup) (k : Kinds) (takes : ℕ → Bool) where
  exclusive : (i : ℕ) → nat_lt i o.end ≡ true → nat_le o.end i ≡ false
  exclusive i h = grind (arith, nat_tests)

  each : (i : ℕ) → (is_filled (fill_of_group (limited o k)) i && takes i) ≡ (is_filled (fill_of_group o) i && (takes i && has_kind k (fill_of_group o) i))
  each i =
      both_kinds o.masked_off k.masked o.tail k.tail (nat_le o.start i) (nat_lt i o.end) (is_enabled (fill_of_group o).body i) (nat_le o.end i) (takes i) (exclusive i)

  pub limited_ones : (some : OpenGroup) (old new : List ℕ) → some ≡ limited o k
      → new ≡ with_ones (fill_of_group some) (λ i. is_filled (fill_of_group some) i && takes i) old
      → new ≡ with_ones (fill_of_group o) (λ i. is_filled (fill_of_group o) i && (takes i && has_kind k (fill_of_group o) i)) old
  limited_ones some old new is made =
      made ∙ ap (λ (s : OpenGroup). with_ones (fill_of_group s) (λ i. is_filled (fill_of_group s) i && takes i) old) is
      ∙ ap (λ (set : ℕ → Bool). with_ones (fill_of_group o) set old) (fun_ext (λ (i : ℕ). each i))
