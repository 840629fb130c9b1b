-- Changes by a new entry
use Rattle.std.proofs.Common.{◌≡◌, ◌≢◌, ℕ, zero, suc, ◌+◌, ◌*◌, ◌/◌, ◌%◌, ◌<◌, ◌≤◌, Bool, cond, List, [], ◌∷◌, get_or, Option, Some, None, refl, sym, ◌∙◌, ap, ◌⊎◌, inl, inr, arith, ne_eqb, eq-eqb}
use Rattle.std.specs.Prelude.{nat_eq}
use Rattle.std.specs.List.{insert}
use Rattle.std.proofs.lemmas.List.Sums.{sum_by-insert, sum_by-append}
use Rattle.std.proofs.lemmas.Bool.{cases_eq, cases_lt}
use Rattle.std.specs.FinMap.{get}
use Rattle.rv_model.specs.memory.Memory.{Cell, Memory, with_pages}
use Rattle.rv_model.proofs.memory_lemmas.Memory.{same_memory, get-add_cells_within, get-add_cells_outside}
use Rattle.rv_model.specs.memory.Sizes.{page_size}
use Rattle.user_mem.specs.declared.entry.Entry.{Entry}
use Rattle.user_mem.specs.Table.{entry_at, memory_of}
use Rattle.user_mem.proofs.TableLaws.{cell_of_page, get-memory_of, memory_of_same}
use Rattle.user_mem.specs.Frames.{times_used}

-- the lookup after inserting the entry of a new page at any index
pub entry_at-insert : (es : List Entry) (i : ℕ) (e : Entry) (p : ℕ) → entry_at es e.page ≡ None → entry_at (insert es i e) p ≡ cond (nat_eq e.page p) (Some e) (entry_at es p)
entry_at-insert es zero e p h = refl
entry_at-insert [] (suc i) e p h = refl
entry_at-insert (x ∷ xs) (suc i) e p h = elim (cases_eq x.page e.page) [
  | inl same ↦
      let bad : Some x ≡ None = ap (λ (b : Bool). cond b (Some x) (entry_at xs e.page)) (sym (eq-eqb x.page e.page same)) ∙ h in absurd (cc)
  | inr differ ↦
      let rest : entry_at xs e.page ≡ None = ap (λ (b : Bool). cond b (Some x) (entry_at xs e.page)) (sym (ne_eqb x.page e.page differ)) ∙ h in
      let step = entry_at-insert xs i e p rest in
      ap (λ (o : Option Entry). cond (nat_eq x.page p) (Some x) o) step ∙ swapped (cases_eq x.page p) (cases_eq e.page p) differ
]
  where
    swapped : ((x.page ≡ p) ⊎ (x.page ≢ p)) → ((e.page ≡ p) ⊎ (e.page ≢ p)) → x.page ≢ e.page
        → cond (nat_eq x.page p) (Some x) (cond (nat_eq e.page p) (Some e) (entry_at xs p)) ≡ cond (nat_eq e.page p) (Some e) (cond (nat_eq x.page p) (Some x) (entry_at xs p))
    swapped (inl a) (inl b) d = absurd (d (a ∙ sym b))
    swapped (inr a) q d = rw (ne_eqb x.page p a) refl
    swapped (inl a) (inr b) d = rw (ne_eqb e.page p b) refl

pub times_used-insert : (f : ℕ) (es : List Entry) (i : ℕ) (e : Entry) → times_used f (insert es i e) ≡ times_used f es + cond (nat_eq e.frame f) 1 0
unfolding times_used
times_used-insert f es i e = sum_by-insert (λ e. cond (nat_eq e.frame f) 1 0) es i e

pub times_used-cons : (f : ℕ) (x : Entry) (xs : List Entry) → times_used f (x ∷ xs) ≡ cond (nat_eq x.frame f) 1 0 + times_used f xs
unfolding times_used
times_used-cons f x xs = sum_by-append (λ e. cond (nat_eq e.frame f) 1 0) (x ∷ []) xs ∙ omega arith

-- the frame of a page's entry is used
pub entry_is_used : (es : List Entry) (p : ℕ) (e : Entry) → entry_at es p ≡ Some e → 0 < times_used e.frame es
entry_is_used [] p e h = absurd (cc)
entry_is_used (x ∷ xs) p e h = elim (cases_eq x.page p) [
  | inl same ↦
      let here : Some x ≡ Some e = ap (λ (b : Bool). cond b (Some x) (entry_at xs p)) (sym (eq-eqb x.page p same)) ∙ h in
      let frame : x.frame ≡ e.frame = cc in
      let one : ◌≡◌ {A = ℕ} (cond (nat_eq x.frame e.frame) 1 0) 1 = ap (λ (b : Bool). cond b 1 0) (eq-eqb x.frame e.frame frame) in
      let sum : times_used e.frame (x ∷ xs) ≡ 1 + times_used e.frame xs = times_used-cons e.frame x xs ∙ ap (λ (n : ℕ). n + times_used e.frame xs) one in
      omega arith
  | inr differ ↦
      let rest : entry_at xs p ≡ Some e = ap (λ (b : Bool). cond b (Some x) (entry_at xs p)) (sym (ne_eqb x.page p differ)) ∙ h in
      let more = entry_is_used xs p e rest in omega (arith, times_used-cons e.frame x xs)
]

-- changing a frame that a table doesn't use leaves the table's memory unchanged
pub memory_of-unused_frame : (frames after : List ℕ) (f : ℕ) (es : List Entry)
    → ((i : ℕ) → ((i < page_size * f) ⊎ (page_size * f + page_size ≤ i)) → get_or after i 0 ≡ get_or frames i 0)
    → times_used f es ≡ 0 → memory_of after es ≡ memory_of frames es
memory_of-unused_frame frames after f es kept unused = memory_of_same frames after es (λ p e k h l.
    kept (page_size * e.frame + k) (beside e k l (λ same. let used = entry_is_used es p e h in let none : times_used e.frame es ≡ 0 = ap (λ (g : ℕ). times_used g es) same ∙ unused in omega arith)))
  where
    beside : (e : Entry) (k : ℕ) → k < page_size → e.frame ≢ f → ((page_size * e.frame + k < page_size * f) ⊎ (page_size * f + page_size ≤ page_size * e.frame + k))
    beside e k l n = elim (cases_lt e.frame f) [
      | inl below ↦ inl (omega arith)
      | inr above ↦ let more : f < e.frame = omega arith in inr (omega arith)
    ]

-- adding a page of zeros
pub memory_of-page : (frames after : List ℕ) (es new : List Entry) (e : Entry)
    → ((p : ℕ) → entry_at new p ≡ cond (nat_eq e.page p) (Some e) (entry_at es p))
    → ((k : ℕ) → k < page_size → get_or after (page_size * e.frame + k) 0 ≡ 0)
    → ((i : ℕ) → ((i < page_size * e.frame) ⊎ (page_size * e.frame + page_size ≤ i)) → get_or after i 0 ≡ get_or frames i 0)
    → times_used e.frame es ≡ 0
    → memory_of after new ≡ with_pages (memory_of frames es) e.page 1 e.permissions
unfolding with_pages
memory_of-page frames after es new e looked_up zeros kept unused = same_memory _ _ (λ x.
    get-memory_of after new x ∙ ap (cell_of_page after x) (looked_up (x / page_size)) ∙ at x (cases_eq e.page (x / page_size)))
  where
    blank : ℕ → Cell
    blank k = record { byte = 0; permissions = e.permissions }

    beside : (x : ℕ) → e.page ≢ x / page_size → ((x < page_size * e.page) ⊎ (page_size * e.page + page_size ≤ x))
    beside x n = elim (cases_lt x (page_size * e.page)) [
      | inl l ↦ inl l
      | inr g ↦ elim (cases_lt x (page_size * e.page + page_size)) [ inl l ↦ absurd (n (omega arith)) | inr h ↦ inr h ]
    ]

    at : (x : ℕ) → ((e.page ≡ x / page_size) ⊎ (e.page ≢ x / page_size)) → cell_of_page after x (cond (nat_eq e.page (x / page_size)) (Some e) (entry_at es (x / page_size))) ≡ get (with_pages (memory_of frames es) e.page 1 e.permissions) x
    at x (inl q) =
        let place : x ≡ page_size * e.page + x % page_size = omega arith in
        ap (λ (b : Bool). cell_of_page after x (cond b (Some e) (entry_at es (x / page_size)))) (eq-eqb e.page (x / page_size) q)
        ∙ ap (λ (v : ℕ). Some (record { byte = v; permissions = e.permissions })) (zeros (x % page_size) (omega arith))
        ∙ sym (get-add_cells_within (memory_of frames es) (page_size * e.page) page_size (λ _. record { byte = 0; permissions = e.permissions }) (x % page_size) x (omega arith) place)
    at x (inr n) =
        ap (λ (b : Bool). cell_of_page after x (cond b (Some e) (entry_at es (x / page_size)))) (ne_eqb e.page (x / page_size) n)
        ∙ sym (get-memory_of after es x)
        ∙ ap (λ (m : Memory). get m x) (memory_of-unused_frame frames after e.frame es kept unused)
        ∙ sym (get-add_cells_outside (memory_of frames es) (page_size * e.page) page_size (λ _. record { byte = 0; permissions = e.permissions }) x (beside x n))
