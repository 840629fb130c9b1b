-- A form reads the operands that it prints
use Rattle.std.proofs.Common.{◌≡◌, ℕ, zero, suc, ◌+◌, ◌<◌, Bool, true, false, ◌&&◌, List, [], ◌∷◌, ◌++◌, length, Result, Ok, refl, sym, ap, ◌∙◌, arith}
use Rattle.std.proofs.lemmas.Bool.{and_parts}
use Rattle.rv_model.specs.assembler.Tokens.{Token, tokens, begins_run}
use Rattle.rv_model.specs.instructions.FixedBits.{sum_of}
use Rattle.rv_model.specs.declared.assembler.forms.Slot.{Slot}
use Rattle.rv_model.specs.declared.assembler.forms.Slot.TheVariants.{Comma, Open, Close, Mask}
use Rattle.rv_model.specs.assembler.Slots.{◌>>=◌, printed}
use Rattle.rv_model.specs.assembler.Fields.{parts_of, placed, value_of}
use Rattle.rv_model.specs.assembler.Table.{read_operands, printed_operands}
use Rattle.rv_model.proofs.assembler_lemmas.Operands.{value_below}
use Rattle.rv_asm.proofs.FieldLaws.{operand_parts, sum_of-append}
use Rattle.rv_asm.proofs.SlotLaws.{Follows, slot_again}

-- a run of bytes ends where the text of these slots starts
abbrev breaks : List Slot → Bool
breaks [] = true
breaks (Comma ∷ ss) = true
breaks (Open ∷ ss) = true
breaks (Close ∷ ss) = true
breaks (Mask ∷ ss) = true
breaks (s ∷ ss) = false

abbrev no_slot : List Slot → Bool
no_slot [] = true
no_slot (s ∷ ss) = false

-- no two slots print adjacent runs, and the optional mask is last
abbrev pub is_form : List Slot → Bool
is_form [] = true
is_form (Comma ∷ ss) = is_form ss
is_form (Open ∷ ss) = is_form ss
is_form (Close ∷ ss) = is_form ss
is_form (Mask ∷ ss) = no_slot ss
is_form (s ∷ ss) = breaks ss && is_form ss

no_slot_prints_nothing : (ss : List Slot) (w : ℕ) → no_slot ss ≡ true → printed_operands ss w ≡ []
unfolding printed_operands
no_slot_prints_nothing [] w h = refl
no_slot_prints_nothing (s ∷ ss) w h = absurd cc

mask_breaks : (v : ℕ) (more : List ℕ) → v < 2 → more ≡ [] → begins_run (printed Mask v ++ more) ≡ false
mask_breaks zero more lt e = refl
mask_breaks (suc zero) more lt e = ap begins_run e
mask_breaks (suc (suc v)) more lt e = absurd (omega arith)

run_ends : (ss : List Slot) (w : ℕ) → breaks ss ≡ true → is_form ss ≡ true → begins_run (printed_operands ss w) ≡ false
unfolding printed_operands
run_ends [] w h f = refl
run_ends (Comma ∷ ss) w h f = refl
run_ends (Open ∷ ss) w h f = refl
run_ends (Close ∷ ss) w h f = refl
run_ends (Mask ∷ ss) w h f = mask_breaks (value_of Mask w) (printed_operands ss w) (value_below Mask w) (no_slot_prints_nothing ss w f)
run_ends _ w h f = absurd cc

no_slot_form : (ss : List Slot) → no_slot ss ≡ true → is_form ss ≡ true
no_slot_form [] h = refl
no_slot_form (s ∷ ss) h = absurd cc

run_follows : (ss : List Slot) (w : ℕ) → (breaks ss && is_form ss) ≡ true → (begins_run (printed_operands ss w) ≡ false) × (is_form ss ≡ true)
run_follows ss w f = let k = and_parts (breaks ss) (is_form ss) f in (run_ends ss w k.0 k.1, k.1)

follows_form : (s : Slot) (ss : List Slot) (w : ℕ) → is_form (s ∷ ss) ≡ true → Follows s (printed_operands ss w) × (is_form ss ≡ true)
follows_form Comma ss w f = (tt, f)
follows_form Open ss w f = (tt, f)
follows_form Close ss w f = (tt, f)
follows_form Mask ss w f = (no_slot_prints_nothing ss w f, no_slot_form ss f)
follows_form _ ss w f = run_follows ss w f

pub form_again : (ss : List Slot) (w p end bits : ℕ) → is_form ss ≡ true → read_operands end bits ss (tokens p (printed_operands ss w)) ≡ Ok (sum_of bits (operand_parts ss w))
unfolding read_operands printed_operands tokens
form_again [] w p end bits f = refl
form_again (s ∷ ss) w p end bits f =
    let v = value_of s w in
    let k = follows_form s ss w f in
    let first = slot_again s v p end (printed_operands ss w) (value_below s w) k.0 in
    let others = form_again ss w (p + length (printed s v)) end bits k.1 in
    ap (λ (r : Result (ℕ × List Token) ℕ). r >>= λ x. (read_operands end bits ss x.1 >>= λ n. Ok (placed s x.0 + n))) first
    ∙ ap (λ (r : Result ℕ ℕ). r >>= λ n. Ok (placed s v + n)) others
    ∙ ap (λ (n : ℕ). Ok n) (sym (sum_of-append bits (parts_of s v) (operand_parts ss w)))
