-- The additions of one instruction to the rows.
use Rattle.std.proofs.Common.{◌≡◌, ◌+◌, ◌-◌, refl, ℕ, Bool, true, false, List, Option, None, if◌then◌else◌, ap, ◌∙◌, sym, subst, zero-add}
use Rattle.rv_model.specs.declared.memory.Access.TheVariants.{Fetch}
use Rattle.rv_model.specs.declared.step.step_end.Cause.TheVariants.{FetchAccess}
use Rattle.rv_model.specs.declared.step.step_end.StepEnd.{StepEnd}
use Rattle.rv_model.specs.instructions.Table.{scan, table}
use Rattle.rv_model.specs.memory.Memory.{can_access}
use Rattle.rv_model.specs.step.Hart.{HartState, Stepped, ends_after, faults}
use Rattle.rv_model.specs.step.Step.{executed, step}
use Rattle.rv_model.specs.vector.Groups.{Configuration, register_of}
use Rattle.recording.specs.Classes.{Class, active_count, body, class_of, end_of, is_plain, is_unmasked, start_of, tail_end}
use Rattle.recording.specs.declared.class.Class.TheVariants.{Plain, Link, Length, Other}
use Rattle.recording.specs.declared.pre_state.PreState.{PreState}
use Rattle.recording.specs.declared.key.Key.TheVariants.{Word}
use Rattle.recording.specs.PreState.{Finds, IsRowFor}
use Rattle.recording.specs.Runs.{execution_counts, counted, is_counted, second_key, once_more, share, word_of}
use Rattle.recording.specs.Sums.{HasMore, IsRowOf, Key, Row, Sums, more_of, no_more, plain}
use Rattle.recording.proofs.ActiveElements.{all_are_active, no_elements}
use Rattle.recording.specs.CountLaws.{composed, none_more}

-- ---- the row of the word, and the row of the second key

-- the counts of an instruction, by whether it is counted
abbrev counted_if : Bool → Key → Sums → Option Key → (Sums → ℕ) → (Key → Bool) → ℕ
counted_if counts key sums beside number asked = if counts then more_of key sums number asked + once_more beside number asked else 0

both_counted : (end : StepEnd) (key : Key) (made sums : Sums) (beside : Option Key) (old mid new : List Row) → is_counted end ≡ true → made ≡ sums
    → HasMore (more_of key made) old mid → HasMore (once_more beside) mid new → HasMore (counted end key sums beside) old new
both_counted end key made sums beside old mid new counts e one two =
    subst (λ (b : Bool). HasMore (counted_if b key sums beside) old new) (sym counts)
    (composed (more_of key sums) (once_more beside) (counted_if true key sums beside) old mid new (λ number asked. refl)
    (subst (λ (a : Sums). HasMore (more_of key a) old mid) e one) two)

plain_is : (k : Class) → is_plain k ≡ true → k ≡ Plain
plain_is Plain is = refl
plain_is Link is = absurd (cc)
plain_is (Length unmasked) is = absurd (cc)
plain_is (Other extent) is = absurd (cc)

-- a plain instruction is counted only in the row of its word, independent of the state before it
plain_counted : (k : Class) (mask : List ℕ) (start ticks : ℕ) (c d : Configuration) (pc target : ℕ) (end : StepEnd) (key : Key) (made : Sums) (old new : List Row)
    → is_plain k ≡ true → is_counted end ≡ true → made ≡ plain ticks → HasMore (more_of key made) old new
    → HasMore (counted end key (execution_counts ticks (body k mask start c) (tail_end k start c)) (second_key k d pc target)) old new
plain_counted k mask start ticks c d pc target end key made old new is counts e one =
    subst (λ (j : Class). HasMore (counted end key (execution_counts ticks (body j mask start c) (tail_end j start c)) (second_key j d pc target)) old new) (sym (plain_is k is))
    (both_counted end key made (execution_counts ticks (body Plain mask start c) (tail_end Plain start c)) None old new new counts (e ∙ sym (no_elements mask start ticks)) one (none_more new))

-- a key is counted in its row, which may be new
pub counted_in : (more : (Sums → ℕ) → (Key → Bool) → ℕ) (old mid new : List Row) → HasMore no_more old mid → HasMore more mid new → HasMore more old new
counted_in more old mid new = composed no_more more more old mid new (λ number asked. zero-add (more number asked))

-- ---- counts from the values in the code

-- the mask affects the counts only if the instruction is masked
same_active : (unmasked : Bool) (mask other : List ℕ) (start end : ℕ) → (unmasked ≡ false → mask ≡ other)
    → active_count (record { unmasked = unmasked; mask = mask; start = start; end = end }) ≡ active_count (record { unmasked = unmasked; mask = other; start = start; end = end })
same_active true mask other start end same = all_are_active mask start end ∙ sym (all_are_active other start end)
same_active false mask other start end same = ap (λ (m : List ℕ). active_count (record { unmasked = false; mask = m; start = start; end = end })) (same refl)

same_sums : (k : Class) (mask other : List ℕ) (start ticks : ℕ) (c : Configuration) → (is_unmasked k ≡ false → mask ≡ other)
    → execution_counts ticks (body k mask start c) (tail_end k start c) ≡ execution_counts ticks (body k other start c) (tail_end k start c)
same_sums k mask other start ticks c same =
    let end : ℕ = end_of k start c c.vl in
    ap (λ (n : ℕ). let made : Sums = record { times = 1; ticks = ticks; active = n; masked = end - start_of k start - n; tail = tail_end k start c - end } in made)
    (same_active (is_unmasked k) mask other (start_of k start) end same)

-- a counted instruction was fetched
pub was_fetched : (s next : HartState) (ticks : ℕ) (end : StepEnd) → step 256 s ≡ ends_after ticks end next → is_counted end ≡ true
    → can_access Fetch s.memory s.scalar.pc 4 ≡ true
unfolding step
was_fetched s next ticks end made counts =
    by (can_access Fetch s.memory s.scalar.pc 4) (executed 256 (scan table (word_of s)) (word_of s) s)
    (ap (λ (o : Stepped). is_counted o.end) made ∙ counts)
  where
    by : (fetches : Bool) (one : Stepped) → is_counted (if fetches then one else faults FetchAccess s.scalar.pc s).end ≡ true → fetches ≡ true
    by true one h = refl
    by false one h = h

-- the counts of an instruction with this outcome
abbrev share_of : HartState → Stepped → Bool → ℕ → Class → List ℕ → ℕ → (Sums → ℕ) → (Key → Bool) → ℕ
share_of s one counts word k mask start =
    let c = one.state.vector.conf in
    counted_if counts (Word s.scalar.pc word) (execution_counts one.ticks (body k mask start c) (tail_end k start c)) (second_key k s.vector.conf s.scalar.pc one.state.scalar.pc)

-- the code's word, class and mask equal those of the state if they affect the counts
module _ (s : HartState) (word : ℕ) (k : Class) (mask : List ℕ) (start : ℕ) (old new : List Row)
    (class_is : k ≡ class_of (scan table word)) (mask_is : is_unmasked k ≡ false → mask ≡ register_of s.vector.file 0) (start_is : start ≡ s.vector.vstart) where
  by_state : (one : Stepped) (counts : Bool) → (counts ≡ true → word ≡ word_of s) → HasMore (share_of s one counts word k mask start) old new
      → HasMore (share_of s one counts (word_of s) (class_of (scan table (word_of s))) (register_of s.vector.file 0) s.vector.vstart) old new
  by_state one false word_is more = more
  by_state one true word_is more =
      subst (λ (w : ℕ). HasMore (share_of s one true w (class_of (scan table w)) (register_of s.vector.file 0) s.vector.vstart) old new) (word_is refl)
      (subst (λ (j : Class). HasMore (share_of s one true word j (register_of s.vector.file 0) s.vector.vstart) old new) class_is
      (subst (λ (n : ℕ). HasMore (share_of s one true word k (register_of s.vector.file 0) n) old new) start_is
      (subst (λ (sums : Sums). HasMore (counted_if true (Word s.scalar.pc word) sums (second_key k s.vector.conf s.scalar.pc one.state.scalar.pc)) old new)
      (same_sums k mask (register_of s.vector.file 0) start one.ticks one.state.vector.conf mask_is) more)))

  share_is : (next : HartState) (ticks : ℕ) (end : StepEnd) (c : Configuration) (pc : ℕ) → step 256 s ≡ ends_after ticks end next → c ≡ s.vector.conf → pc ≡ s.scalar.pc
      → (can_access Fetch s.memory s.scalar.pc 4 ≡ true → word ≡ word_of s)
      → HasMore (counted end (Word s.scalar.pc word) (execution_counts ticks (body k mask start next.vector.conf) (tail_end k start next.vector.conf)) (second_key k c pc next.scalar.pc)) old new
      → HasMore (share s) old new
  share_is next ticks end c pc made conf_is pc_is word_is more =
      let sums : Sums = execution_counts ticks (body k mask start next.vector.conf) (tail_end k start next.vector.conf) in
      subst (λ (one : Stepped). HasMore (share_of s one (is_counted one.end) (word_of s) (class_of (scan table (word_of s))) (register_of s.vector.file 0) s.vector.vstart) old new)
      (sym made)
      (by_state (ends_after ticks end next) (is_counted end) (λ counts. word_is (was_fetched s next ticks end made counts))
      (subst (λ (d : Configuration). HasMore (counted end (Word s.scalar.pc word) sums (second_key k d s.scalar.pc next.scalar.pc)) old new) conf_is
      (subst (λ (p : ℕ). HasMore (counted end (Word s.scalar.pc word) sums (second_key k c p next.scalar.pc)) old new) pc_is more)))

-- ---- counts from the saved state

pub row_for : (s : HartState) (word index : ℕ) (found : PreState) (k : Class) (rows : List Row) → (can_access Fetch s.memory s.scalar.pc 4 ≡ true → word ≡ word_of s)
    → IsRowOf (Word s.scalar.pc word) index rows → (is_plain k ≡ false → Finds k s.scalar.pc s.vector found) → k ≡ class_of (scan table word) → IsRowFor s index found rows
row_for s word index found k rows word_is row finds class =
    record {
      word = word;
      word_is = word_is;
      row = row;
      finds = subst (λ (j : Class). is_plain j ≡ false → Finds j s.scalar.pc s.vector found) class finds;
    }

pub share_not_counted : (s next : HartState) (ticks : ℕ) (end : StepEnd) (rows : List Row) → step 256 s ≡ ends_after ticks end next → is_counted end ≡ false → HasMore (share s) rows rows
share_not_counted s next ticks end rows made isnt =
    let by : Stepped → Bool → Type 0 = λ one counts. HasMore (share_of s one counts (word_of s) (class_of (scan table (word_of s))) (register_of s.vector.file 0) s.vector.vstart) rows rows in
    subst (λ (one : Stepped). by one (is_counted one.end)) (sym made) (subst (by (ends_after ticks end next)) (sym isnt) (none_more rows))

-- the counts of an instruction of this class, whose row has the index
module _ (s next : HartState) (k : Class) (index : ℕ) (found : PreState) (ticks : ℕ) (end : StepEnd) (sums : Sums) (old new : List Row) (prepared : IsRowFor s index found old)
    (class : k ≡ class_of (scan table prepared.word)) (made : step 256 s ≡ ends_after ticks end next) (counts : is_counted end ≡ true) where
  pub share_plain : is_plain k ≡ true → sums ≡ plain ticks → HasMore (more_of (Word s.scalar.pc prepared.word) sums) old new → HasMore (share s) old new
  share_plain is e one =
      let mask : List ℕ = register_of s.vector.file 0 in
      share_is s prepared.word k mask s.vector.vstart old new class (λ _. refl) refl next ticks end s.vector.conf s.scalar.pc made refl refl prepared.word_is
      (plain_counted k mask s.vector.vstart ticks next.vector.conf s.vector.conf s.scalar.pc next.scalar.pc end (Word s.scalar.pc prepared.word) sums old new is counts e one)

  pub share_found : (mid : List Row) → is_plain k ≡ false → sums ≡ execution_counts ticks (body k found.mask found.start next.vector.conf) (tail_end k found.start next.vector.conf)
      → HasMore (more_of (Word s.scalar.pc prepared.word) sums) old mid → HasMore (once_more (second_key k found.conf found.pc next.scalar.pc)) mid new → HasMore (share s) old new
  share_found mid isnt e one two =
      let finds : Finds k s.scalar.pc s.vector found =
      subst (λ (j : Class). Finds j s.scalar.pc s.vector found) (sym class) (prepared.finds (ap (λ (j : Class). is_plain j) (sym class) ∙ isnt)) in
      share_is s prepared.word k found.mask found.start old new class finds.mask_is finds.start_is next ticks end found.conf found.pc made finds.conf_is finds.pc_is prepared.word_is
      (both_counted end (Word s.scalar.pc prepared.word) sums (execution_counts ticks (body k found.mask found.start next.vector.conf) (tail_end k found.start next.vector.conf))
      (second_key k found.conf found.pc next.scalar.pc) old mid new counts e one two)
