-- The bytes of one page from an address on: consecutive bytes of one frame
use Rattle.std.proofs.Common.{◌≡◌, ℕ, ◌+◌, ◌-◌, ◌*◌, ◌/◌, ◌%◌, ◌<◌, ◌≤◌, true, false, List, length, get_or, take, drop, Option, Some, None, refl, sym, ◌∙◌, ap, ◌⊎◌, inl, inr, arith}
use Rattle.std.proofs.Math.Seq.{take-add}
use Rattle.std.specs.Option.{option_map_or}
use Rattle.std.specs.FinMap.{get}
use Rattle.std.proofs.lemmas.Bool.{cases_eq, cases_lt}
use Rattle.std.proofs.lemmas.List.{length-take-le, length-drop, get_or-take, get_or-drop}
use Rattle.rv_model.specs.declared.memory.Access.{Access}
use Rattle.rv_model.specs.declared.memory.Access.TheVariants.{Monitor}
use Rattle.rv_model.specs.memory.Memory.{Memory, permits, bytes_at, put_bytes, memory_byte, can_access_byte}
use Rattle.rv_model.proofs.memory_lemmas.Memory.{same_memory, with_byte, get-put_bytes_within, get-put_bytes_outside, put_bytes-append, bytes_read}
use Rattle.rv_model.specs.memory.Sizes.{page_size}
use Rattle.user_mem.specs.declared.entry.Entry.{Entry}
use Rattle.user_mem.specs.Table.{entry_at, memory_of, AreSeparate, AreApart}
use Rattle.user_mem.proofs.TableLaws.{cell_of_page, get-memory_of, is_allowed-memory_of, byte_at-memory_of, memory_of_same, entry_from_allowed}

-- the length of a slice, as the code takes it
pub part_length : (xs : List ℕ) (s n : ℕ) → s + n ≤ length xs → length (take ((s + n) - s) (drop s xs)) ≡ n
part_length xs s n h =
    let count : (s + n) - s ≡ n = omega arith in
    ap (λ (j : ℕ). length (take j (drop s xs))) count ∙ length-take-le n (drop s xs) (omega (arith, length-drop s xs))

pub part_at : (xs : List ℕ) (s n k : ℕ) → k < n → get_or (take ((s + n) - s) (drop s xs)) k 0 ≡ get_or xs (s + k) 0
part_at xs s n k l = get_or-take ((s + n) - s) (drop s xs) k 0 (omega arith) ∙ get_or-drop s xs k 0

pub part_is : (xs : List ℕ) (s n : ℕ) → take ((s + n) - s) (drop s xs) ≡ take n (drop s xs)
part_is xs s n = let count : (s + n) - s ≡ n = omega arith in ap (λ (j : ℕ). take j (drop s xs)) count

same_page : (x k : ℕ) → x % page_size + k < page_size → (x + k) / page_size ≡ x / page_size
same_page x k l = omega arith

-- all bytes of a page have the same permissions
pub is_allowed_in_page : (access : Access) (frames : List ℕ) (es : List Entry) (x k : ℕ) → x % page_size + k < page_size → can_access_byte access (memory_of frames es) (x + k) ≡ can_access_byte access (memory_of frames es) x
is_allowed_in_page access frames es x k l =
    is_allowed-memory_of access frames es (x + k)
    ∙ ap (λ (p : ℕ). option_map_or (λ e. permits access e.permissions) (entry_at es p) false) (same_page x k l)
    ∙ sym (is_allowed-memory_of access frames es x)

-- if the access to the next byte is allowed, so are those to the bytes after it in its page
pub allowed_more : (access : Access) (frames : List ℕ) (es : List Entry) (a done next n : ℕ) → next ≡ a + done → next % page_size + n ≤ page_size → can_access_byte access (memory_of frames es) next ≡ true
    → ((j : ℕ) → j < done → can_access_byte access (memory_of frames es) (a + j) ≡ true) → (j : ℕ) → j < done + n → can_access_byte access (memory_of frames es) (a + j) ≡ true
allowed_more access frames es a done next n here fits ok before j l = elim (cases_lt j done) [
  | inl less ↦ before j less
  | inr after ↦
      let place : a + j ≡ next + (j - done) = omega arith in
      ap (can_access_byte access (memory_of frames es)) place ∙ is_allowed_in_page access frames es next (j - done) (omega arith) ∙ ok
]

-- reading one byte of the page
run_read : (access : Access) (frames : List ℕ) (es : List Entry) (x k i : ℕ) → x % page_size + k < page_size → can_access_byte access (memory_of frames es) x ≡ true
    → ((e : Entry) → entry_at es (x / page_size) ≡ Some e → i ≡ page_size * e.frame + x % page_size) → get_or frames (i + k) 0 ≡ memory_byte (memory_of frames es) (x + k)
run_read access frames es x k i l ok place =
    let some = entry_from_allowed access frames es x ok in
    let here = place some.0 some.1 in
    let index : i + k ≡ page_size * some.0.frame + (x + k) % page_size = omega arith in
    ap (λ (j : ℕ). get_or frames j 0) index ∙ sym (byte_at-memory_of frames es (x + k) some.0 (ap (entry_at es) (same_page x k l) ∙ some.1))

-- reading a run of bytes into a buffer, after the bytes read before
pub read_more : (frames : List ℕ) (es : List Entry) (a done next start n : ℕ) (part buffer after : List ℕ) → next ≡ a + done → next % page_size + n ≤ page_size → can_access_byte Monitor (memory_of frames es) next ≡ true
    → ((e : Entry) → entry_at es (next / page_size) ≡ Some e → start ≡ page_size * e.frame + next % page_size)
    → length part ≡ n → ((k : ℕ) → k < n → get_or part k 0 ≡ get_or frames (start + k) 0)
    → ((k : ℕ) → k < length part → get_or after (done + k) 0 ≡ get_or part k 0)
    → ((i : ℕ) → ((i < done) ⊎ (done + length part ≤ i)) → get_or after i 0 ≡ get_or buffer i 0)
    → ((j : ℕ) → j < done → get_or buffer j 0 ≡ memory_byte (memory_of frames es) (a + j))
    → (j : ℕ) → j < done + n → get_or after j 0 ≡ memory_byte (memory_of frames es) (a + j)
read_more frames es a done next start n part buffer after here fits ok place long same pasted kept before j l = elim (cases_lt j done) [
  | inl less ↦ kept j (inl less) ∙ before j less
  | inr above ↦
      let at : j ≡ done + (j - done) = omega arith in
      let within : j - done < n = omega arith in
      let address : next + (j - done) ≡ a + j = omega arith in
      ap (λ (i : ℕ). get_or after i 0) at ∙ pasted (j - done) (omega arith) ∙ same (j - done) within
      ∙ run_read Monitor frames es next (j - done) start (omega arith) ok place ∙ ap (memory_byte (memory_of frames es)) address
]

-- a slice of a frame contains the bytes of the memory
pub page_read : (access : Access) (frames : List ℕ) (es : List Entry) (a start n : ℕ) (part : List ℕ) → a % page_size + n ≤ page_size → can_access_byte access (memory_of frames es) a ≡ true
    → ((e : Entry) → entry_at es (a / page_size) ≡ Some e → start ≡ page_size * e.frame + a % page_size)
    → length part ≡ n → ((k : ℕ) → k < n → get_or part k 0 ≡ get_or frames (start + k) 0) → part ≡ bytes_at (memory_of frames es) a n
page_read access frames es a start n part fits ok place long same =
    bytes_read (memory_of frames es) a n part long (λ k l. same k l ∙ run_read access frames es a k start (omega arith) ok place)

-- a byte in another frame or at an offset outside the run is outside the run's bytes
beside : (f e start o a n : ℕ) → start ≡ page_size * e + a → a + n ≤ page_size → o < page_size → (f ≡ e → ((o < a) ⊎ (a + n ≤ o))) → ((page_size * f + o < start) ⊎ (start + n ≤ page_size * f + o))
beside f e start o a n place fits small apart = elim (cases_eq f e) [
  | inl same ↦ elim (apart same) [ inl l ↦ inl (omega arith) | inr g ↦ inr (omega arith) ]
  | inr differ ↦ elim (cases_lt f e) [
    | inl below ↦ inl (omega arith)
    | inr above ↦ let more : e < f = omega arith in inr (omega arith)
  ]
]

module _ (frames after : List ℕ) (es : List Entry) (a start : ℕ) (bs : List ℕ) (e : Entry) (separate : AreSeparate es) (here : entry_at es (a / page_size) ≡ Some e)
    (place : start ≡ page_size * e.frame + a % page_size) (fits : a % page_size + length bs ≤ page_size)
    (pasted : (k : ℕ) → k < length bs → get_or after (start + k) 0 ≡ get_or bs k 0)
    (kept : (i : ℕ) → ((i < start) ⊎ (start + length bs ≤ i)) → get_or after i 0 ≡ get_or frames i 0) where
  outside : (x : ℕ) → ((x < a) ⊎ (a + length bs ≤ x)) → (o : Option Entry) → entry_at es (x / page_size) ≡ o → cell_of_page after x (entry_at es (x / page_size)) ≡ cell_of_page frames x (entry_at es (x / page_size))
  outside x far None q = ap (cell_of_page after x) q ∙ sym (ap (cell_of_page frames x) q)
  outside x far (Some f) q =
      let apart : f.frame ≡ e.frame → ((x % page_size < a % page_size) ⊎ (a % page_size + length bs ≤ x % page_size)) = λ same.
      let page = separate (x / page_size) (a / page_size) f e q here same in
      elim far [ inl l ↦ inl (omega arith) | inr g ↦ inr (omega arith) ] in
      ap (cell_of_page after x) q
      ∙ ap (λ (v : ℕ). Some (record { byte = v; permissions = f.permissions })) (kept (page_size * f.frame + x % page_size) (beside f.frame e.frame start (x % page_size) (a % page_size) (length bs) place fits (omega arith) apart))
      ∙ sym (ap (cell_of_page frames x) q)

  within : (x k : ℕ) → k < length bs → x ≡ a + k → get (memory_of after es) x ≡ get (put_bytes (memory_of frames es) a bs) x
  within x k l q =
      let page : x / page_size ≡ a / page_size = omega arith in
      let there : entry_at es (x / page_size) ≡ Some e = ap (entry_at es) page ∙ here in
      let index : page_size * e.frame + x % page_size ≡ start + k = omega arith in
      get-memory_of after es x ∙ ap (cell_of_page after x) there
      ∙ ap (λ (v : ℕ). Some (record { byte = v; permissions = e.permissions })) (ap (λ (j : ℕ). get_or after j 0) index ∙ pasted k l)
      ∙ ap (with_byte (get_or bs k 0)) (sym (ap (cell_of_page frames x) there) ∙ sym (get-memory_of frames es x))
      ∙ sym (get-put_bytes_within (memory_of frames es) a bs k x l q)

  beyond : (x : ℕ) → ((x < a) ⊎ (a + length bs ≤ x)) → get (memory_of after es) x ≡ get (put_bytes (memory_of frames es) a bs) x
  beyond x far =
      get-memory_of after es x ∙ outside x far (entry_at es (x / page_size)) refl ∙ sym (get-memory_of frames es x)
      ∙ sym (get-put_bytes_outside (memory_of frames es) a bs x far)

  -- writing bytes to a frame writes them to the memory
  run_written_at : memory_of after es ≡ put_bytes (memory_of frames es) a bs
  run_written_at = same_memory _ _ (λ x. elim (cases_lt x a) [
    | inl below ↦ beyond x (inl below)
    | inr above ↦ elim (cases_lt x (a + length bs)) [
      | inl less ↦ within x (x - a) (omega arith) (omega arith)
      | inr past ↦ beyond x (inr past)
    ]
  ])

pub run_written : (access : Access) (frames after : List ℕ) (es : List Entry) (a start : ℕ) (bs : List ℕ) → AreSeparate es → can_access_byte access (memory_of frames es) a ≡ true
    → ((e : Entry) → entry_at es (a / page_size) ≡ Some e → start ≡ page_size * e.frame + a % page_size) → a % page_size + length bs ≤ page_size
    → ((k : ℕ) → k < length bs → get_or after (start + k) 0 ≡ get_or bs k 0)
    → ((i : ℕ) → ((i < start) ⊎ (start + length bs ≤ i)) → get_or after i 0 ≡ get_or frames i 0)
    → memory_of after es ≡ put_bytes (memory_of frames es) a bs
run_written access frames after es a start bs separate ok place fits pasted kept =
    let some = entry_from_allowed access frames es a ok in
    run_written_at frames after es a start bs some.0 separate some.1 (place some.0 some.1) fits pasted kept

-- the memory of a table that shares no frame is unchanged
pub others_unwritten : (access : Access) (frames after : List ℕ) (es other : List Entry) (a start n : ℕ) → AreApart es other → can_access_byte access (memory_of frames es) a ≡ true
    → ((e : Entry) → entry_at es (a / page_size) ≡ Some e → start ≡ page_size * e.frame + a % page_size) → a % page_size + n ≤ page_size
    → ((i : ℕ) → ((i < start) ⊎ (start + n ≤ i)) → get_or after i 0 ≡ get_or frames i 0)
    → memory_of after other ≡ memory_of frames other
others_unwritten access frames after es other a start n apart ok place fits kept =
    let some = entry_from_allowed access frames es a ok in
    memory_of_same frames after other (λ p f k q l.
    kept (page_size * f.frame + k) (beside f.frame some.0.frame start k (a % page_size) n (place some.0 some.1) fits l (λ same. absurd (apart (a / page_size) p some.0 f some.1 q (sym same)))))

-- writing a run of bytes, after the bytes written before
pub put_bytes_run : (m : Memory) (a done n : ℕ) (bs part : List ℕ) → done ≤ length bs → part ≡ take n (drop done bs) → put_bytes m a (take (done + n) bs) ≡ put_bytes (put_bytes m a (take done bs)) (a + done) part
put_bytes_run m a done n bs part l e =
    ap (put_bytes m a) (take-add done n bs) ∙ put_bytes-append m a (take done bs) (take n (drop done bs))
    ∙ ap (λ (j : ℕ). put_bytes (put_bytes m a (take done bs)) (a + j) (take n (drop done bs))) (length-take-le done bs l)
    ∙ ap (put_bytes (put_bytes m a (take done bs)) (a + done)) (sym e)
