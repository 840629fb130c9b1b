-- The result of a binary search in a sorted table, and the table after inserting an entry at its index
use Rattle.std.proofs.Common.{◌≡◌, ◌≢◌, ℕ, zero, suc, ◌+◌, ◌-◌, ◌<◌, ◌≤◌, Bool, false, cond, List, [], ◌∷◌, length, get_or, Some, None, Result, Ok, Err, IfOk, IfErr, refl, sym, ◌∙◌, ap, subst, arith, ne_eqb, eq-eqb}
use Rattle.std.specs.List.{insert}
use Rattle.std.specs.List.Sorted.{IsSearchInRange, IsBinarySearchResult, IsNonDecreasingBy}
use Rattle.std.specs.Ordering.{nat_cmp, ordering_index}
use Rattle.std.proofs.lemmas.Cmp.{ranked}
use Rattle.std.proofs.lemmas.Bool.Decides.{nat_tests}
use Rattle.std.proofs.lemmas.List.Edits.{length-insert, get_or-insert_below, get_or-insert_at, get_or-insert_above}
use Rattle.user_mem.specs.declared.entry.Entry.{Entry}
use Rattle.user_mem.specs.Table.{entry_at, IsSorted, IsAt, IsGapFor}

-- a default entry, for an index past the end of a list
abbrev pub no_entry : Entry
no_entry = record { page = 0; frame = 0; permissions = record { read = false; write = false; execute = false } }

module _ (l : List Entry) (sorted : IsSorted l) (page : ℕ) where
  -- the results of comparing with a page are non-decreasing along the table, as the binary search requires
  comparisons_rise : IsNonDecreasingBy (λ e. ordering_index (nat_cmp e.page page)) l
  comparisons_rise i j d le in_range =
      let pages_rise : (get_or l i d).page ≤ (get_or l j d).page = grind (arith, sorted i j d, λ (same : i ≡ j). ap (λ (n : ℕ). (get_or l n d).page) same) in
      grind (arith, nat_tests)

  -- a search for a page returns the index of its entry, or the index to insert it at
  pub searched : (r : Result ℕ ℕ) → IsSearchInRange r (length l) → IsBinarySearchResult (λ e. nat_cmp e.page page) l r → record { found : IfOk r (IsAt l page); absent : IfErr r (IsGapFor l page) }
  searched (Ok at) in_range equal = record { found = record { in_range = in_range; has_page = λ d. ranked _ page _ (sym (equal d)) }; absent = tt }
  searched (Err at) in_range parted = record {
    found = tt;
    absent = record {
      in_range = in_range;
      lower_before = λ j d lt. ranked _ page _ (sym ((parted comparisons_rise).0 j d (omega arith) lt));
      higher_after = λ j d le lt. ranked _ page _ (sym ((parted comparisons_rise).1 j d le lt));
    };
  }

-- the lookup of a page without an entry returns `None`
pub entry_at_none : (l : List Entry) (page : ℕ) → ((j : ℕ) (d : Entry) → j < length l → (get_or l j d).page ≢ page) → entry_at l page ≡ None
entry_at_none [] page differs = refl
entry_at_none (x ∷ l) page differs =
    ap (λ (b : Bool). cond b (Some x) (entry_at l page)) (ne_eqb x.page page (differs 0 x (omega arith)))
    ∙ entry_at_none l page (λ j d lt. differs (suc j) d (omega arith))

-- the lookup of a page returns its first entry
pub entry_at_first : (l : List Entry) (page i : ℕ) (d : Entry) → i < length l → (get_or l i d).page ≡ page → ((j : ℕ) → j < i → (get_or l j d).page ≢ page) → entry_at l page ≡ Some (get_or l i d)
entry_at_first [] page i d lt same differs = absurd (omega arith)
entry_at_first (x ∷ l) page zero d lt same differs = ap (λ (b : Bool). cond b (Some x) (entry_at l page)) (eq-eqb x.page page same)
entry_at_first (x ∷ l) page (suc i) d lt same differs =
    ap (λ (b : Bool). cond b (Some x) (entry_at l page)) (ne_eqb x.page page (differs 0 (omega arith)))
    ∙ entry_at_first l page i d (omega arith) same (λ j below. differs (suc j) (omega arith))

pub entry_at_place : (l : List Entry) (page i : ℕ) (d : Entry) → IsSorted l → IsAt l page i → entry_at l page ≡ Some (get_or l i d)
entry_at_place l page i d sorted at =
    entry_at_first l page i d at.in_range (at.has_page d) (λ j lt same. omega (arith, sorted j i d lt at.in_range, at.has_page d))

pub entry_at_gap : (l : List Entry) (page i : ℕ) → IsGapFor l page i → entry_at l page ≡ None
entry_at_gap l page i gap = entry_at_none l page (λ j d lt same. grind (arith, gap.lower_before j d, gap.higher_after j d))

-- inserting an entry at its index preserves the order
pub sorted_insert : (l : List Entry) (e : Entry) (at : ℕ) → IsGapFor l e.page at → IsSorted l → IsSorted (insert l at e)
sorted_insert l e at gap sorted i j d lt in_range =
    let new = insert l at e in
    let page = λ (x : Entry). x.page in
    let length_new = length-insert l at e gap.in_range in
    let page_below : (i : ℕ) → i < at → (get_or new i d).page ≡ (get_or l i d).page = λ i below. ap page (get_or-insert_below l at e d i below gap.in_range) in
    let page_here : (i : ℕ) → i ≡ at → (get_or new i d).page ≡ e.page = λ i here. rw here (ap page (get_or-insert_at l at e d gap.in_range)) in
    let page_above : (i : ℕ) → at < i → (get_or new i d).page ≡ (get_or l (i - 1) d).page = λ i above. subst (λ q. (get_or new q d).page ≡ (get_or l (i - 1) d).page) {x = i - 1 + 1} (omega arith) (ap page (get_or-insert_above l at e d (i - 1) (omega arith) gap.in_range)) in
    grind (arith, page_below i, page_here i, page_above i, page_below j, page_here j, page_above j, sorted i j d, sorted i (j - 1) d, sorted (i - 1) (j - 1) d, gap.lower_before i d, gap.higher_after (j - 1) d)
