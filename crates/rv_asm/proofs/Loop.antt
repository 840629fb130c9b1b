-- Reading and printing slot after slot, as the loops do
use Rattle.std.proofs.Common.{◌≡◌, ℕ, ◌+◌, ◌≤◌, ◌<◌, List, [], ◌∷◌, ◌++◌, length, drop, get_or, Result, Ok, Err, refl, sym, ap, ◌∙◌, arith}
use Rattle.std.proofs.lemmas.List.{at_drop_more, at_drop_all}
use Rattle.rv_model.specs.assembler.Tokens.{Token}
use Rattle.rv_model.specs.declared.assembler.forms.Slot.{Slot}
use Rattle.rv_model.specs.assembler.Slots.{◌>>=◌, read, printed}
use Rattle.rv_model.specs.assembler.Fields.{placed, value_of}
use Rattle.rv_model.specs.assembler.Table.{read_operands, printed_operands}
use Rattle.rv_asm.specs.Spans.{span, spans}

swap_sums : (k p : ℕ) (given : Result ℕ ℕ) → ((given >>= λ w. Ok (k + w)) >>= λ w. Ok (p + w)) ≡ ((given >>= λ w. Ok (p + w)) >>= λ w. Ok (k + w))
swap_sums k p (Ok w) = let e : p + (k + w) ≡ k + (p + w) = omega arith in ap (λ (x : ℕ). Ok x) e
swap_sums k p (Err e) = refl

-- bits added before reading or after reading give the same word
abbrev BitsMove : ℕ → ℕ → ℕ → List Slot → List Token → Type 0
BitsMove end b k ss ts = read_operands end (b + k) ss ts ≡ (read_operands end b ss ts >>= λ w. Ok (k + w))

after_slot : (end b k : ℕ) (s : Slot) (ss : List Slot) (given : Result (ℕ × List Token) ℕ) → ((ts : List Token) → BitsMove end b k ss ts)
    → (given >>= λ x. (read_operands end (b + k) ss x.1 >>= λ w. Ok (placed s x.0 + w))) ≡ ((given >>= λ x. (read_operands end b ss x.1 >>= λ w. Ok (placed s x.0 + w))) >>= λ w. Ok (k + w))
after_slot end b k s ss (Ok x) h = ap (λ (r : Result ℕ ℕ). r >>= λ w. Ok (placed s x.0 + w)) (h x.1) ∙ swap_sums k (placed s x.0) (read_operands end b ss x.1)
after_slot end b k s ss (Err e) h = refl

pub bits_move : (end b k : ℕ) (ss : List Slot) (ts : List Token) → BitsMove end b k ss ts
unfolding read_operands
bits_move end b k [] [] = let e : b + k ≡ k + b = omega arith in ap (λ (x : ℕ). Ok x) e
bits_move end b k [] (t ∷ ts) = refl
bits_move end b k (s ∷ ss) ts = after_slot end b k s ss (read end s ts) (bits_move end b k ss)

pub goes_on : (slots : List Slot) (i end word v bits : ℕ) (s d : Slot) (ts after : List Token) (total : Result ℕ ℕ) → i < length slots → s ≡ get_or slots i d → read end s ts ≡ Ok (v, after) → bits ≡ placed s v
    → read_operands end word (drop i slots) ts ≡ total → read_operands end (word + bits) (drop (i + 1) slots) after ≡ total
unfolding read_operands
goes_on slots i end word v bits s d ts after total lt is h b so_far =
    let ss = drop (i + 1) slots in
    let head : drop i slots ≡ s ∷ ss = at_drop_more (λ (x : List Slot). x) slots i d lt ∙ ap (λ (x : Slot). x ∷ ss) (sym is) in
    let one : read_operands end word (drop i slots) ts ≡ (read end s ts >>= λ x. (read_operands end word ss x.1 >>= λ w. Ok (placed s x.0 + w))) = ap (λ (x : List Slot). read_operands end word x ts) head in
    let two : (read end s ts >>= λ x. (read_operands end word ss x.1 >>= λ w. Ok (placed s x.0 + w))) ≡ (read_operands end word ss after >>= λ w. Ok (placed s v + w)) = ap (λ (r : Result (ℕ × List Token) ℕ). r >>= λ x. (read_operands end word ss x.1 >>= λ w. Ok (placed s x.0 + w))) h in
    ap (λ (k : ℕ). read_operands end (word + k) ss after) b ∙ bits_move end word (placed s v) ss after ∙ sym (one ∙ two) ∙ so_far

pub slot_refused : (slots : List Slot) (i end word : ℕ) (s d : Slot) (ts : List Token) (e : ℕ) (total : Result ℕ ℕ) → i < length slots → s ≡ get_or slots i d → read end s ts ≡ Err e
    → read_operands end word (drop i slots) ts ≡ total → total ≡ Err e
unfolding read_operands
slot_refused slots i end word s d ts e total lt is h so_far =
    let ss = drop (i + 1) slots in
    let head : drop i slots ≡ s ∷ ss = at_drop_more (λ (x : List Slot). x) slots i d lt ∙ ap (λ (x : Slot). x ∷ ss) (sym is) in
    let one : read_operands end word (drop i slots) ts ≡ (read end s ts >>= λ x. (read_operands end word ss x.1 >>= λ w. Ok (placed s x.0 + w))) = ap (λ (x : List Slot). read_operands end word x ts) head in
    let two : (read end s ts >>= λ x. (read_operands end word ss x.1 >>= λ w. Ok (placed s x.0 + w))) ≡ Err e = ap (λ (r : Result (ℕ × List Token) ℕ). r >>= λ x. (read_operands end word ss x.1 >>= λ w. Ok (placed s x.0 + w))) h in
    sym so_far ∙ one ∙ two

pub token_left : (slots : List Slot) (i end word : ℕ) (t : Token) (ts more : List Token) (total : Result ℕ ℕ) → length slots ≤ i → ts ≡ t ∷ more
    → read_operands end word (drop i slots) ts ≡ total → total ≡ Err t.column
unfolding read_operands
token_left slots i end word t ts more total le h so_far =
    sym so_far ∙ at_drop_all (λ (x : List Slot). read_operands end word x ts) slots i le ∙ ap (λ (x : List Token). read_operands end word [] x) h

pub all_slots_read : (slots : List Slot) (i end word : ℕ) (ts : List Token) (total : Result ℕ ℕ) → length slots ≤ i → ts ≡ []
    → read_operands end word (drop i slots) ts ≡ total → total ≡ Ok word
unfolding read_operands
all_slots_read slots i end word ts total le h so_far =
    sym so_far ∙ at_drop_all (λ (x : List Slot). read_operands end word x ts) slots i le ∙ ap (λ (x : List Token). read_operands end word [] x) h

pub spans_more : (slots : List Slot) (i : ℕ) (d : Slot) → i < length slots → spans (drop i slots) ≡ span (get_or slots i d) + spans (drop (i + 1) slots)
spans_more slots i d lt = at_drop_more spans slots i d lt

pub printed_more : (slots : List Slot) (i word : ℕ) (d : Slot) → i < length slots → printed_operands (drop i slots) word ≡ printed (get_or slots i d) (value_of (get_or slots i d) word) ++ printed_operands (drop (i + 1) slots) word
unfolding printed_operands
printed_more slots i word d lt = at_drop_more (λ (ss : List Slot). printed_operands ss word) slots i d lt

pub printed_end : (slots : List Slot) (i word : ℕ) → length slots ≤ i → printed_operands (drop i slots) word ≡ []
unfolding printed_operands
printed_end slots i word le = at_drop_all (λ (ss : List Slot). printed_operands ss word) slots i le
