-- Consequences of `LiesAt`, and updates of a user's translations
use Rattle.std.proofs.Common.{◌≡◌, ◌≢◌, ℕ, ◌+◌, ◌*◌, ◌/◌, ◌%◌, ◌<◌, ◌≤◌, true, List, length, get_or, set, replicate, Some, refl, sym, ◌∙◌, ap, subst, inl, inr, arith, get_or-set_same, get_or-set_other}
use Rattle.std.proofs.lemmas.Bool.{cases_eq}
use Rattle.std.proofs.lemmas.List.{get_or-replicate, length-replicate}
use Rattle.rv_model.specs.declared.memory.Access.{Access}
use Rattle.rv_model.specs.memory.Memory.{can_access, can_access_byte}
use Rattle.rv_model.proofs.memory_lemmas.Memory.{can_access_from}
use Rattle.rv_model.specs.memory.Sizes.{page_size}
use Rattle.rv_model.specs.machine.Setup.{user_count}
use Rattle.user_mem.specs.declared.entry.Entry.{Entry}
use Rattle.user_mem.specs.declared.translations.Translation.{Translation}
use Rattle.user_mem.specs.declared.translations.Translations.{Translations}
use Rattle.user_mem.specs.Pool.{table_at}
use Rattle.user_mem.specs.Table.{entry_at, memory_of, FitIn, IsSorted}
use Rattle.user_mem.specs.Translations.{LiesAt, IsTranslated, AreTranslated, Translates, AllTranslate, place_count}
use Rattle.user_mem.proofs.RunLaws.{is_allowed_in_page}
use Rattle.user_mem.proofs.SearchLaws.{entry_at_first}
use Rattle.user_mem.proofs.TableLaws.{allowed_by_entry}

module _ (es : List Entry) (access : Access) (a n at : ℕ) (lies : LiesAt es access a n at) where
  pub lies_allowed : (frames : List ℕ) → can_access_byte access (memory_of frames es) a ≡ true
  lies_allowed frames = sym (allowed_by_entry access frames es a lies.entry lies.there) ∙ lies.permitted

  -- the index of the first byte, from the entry of its page
  pub lies_from : (e : Entry) → entry_at es (a / page_size) ≡ Some e → at ≡ page_size * e.frame + a % page_size
  lies_from e here =
      let same : Some lies.entry ≡ Some e = sym lies.there ∙ here in
      let entry : lies.entry ≡ e = cc in
      lies.place ∙ ap (λ (x : Entry). page_size * x.frame + a % page_size) entry

  -- all bytes may be accessed
  pub lies_accessed : (frames : List ℕ) → can_access access (memory_of frames es) a n ≡ true
  lies_accessed frames = can_access_from access (memory_of frames es) a n (λ k less. is_allowed_in_page access frames es a k (omega (arith, lies.one_page)) ∙ lies_allowed frames)

  -- the same is true of the first k bytes
  pub lies_first : (k : ℕ) → k ≤ n → LiesAt es access a k at
  lies_first k few = record {
    entry = lies.entry;
    there = lies.there;
    permitted = lies.permitted;
    place = lies.place;
    one_page = omega (arith, lies.one_page);
    fits = omega (arith, lies.fits);
  }

  -- the bytes are within the frames
  pub lies_within : (size : ℕ) → FitIn es size → at + n ≤ size
  lies_within size fit = omega (arith, fit (a / page_size) lies.entry lies.there, lies.place, lies.one_page)

-- a page satisfies the invariant in any slot but its own
elsewhere : (es : List Entry) (access : Access) (page : Translation) (number place : ℕ) → page.first ≡ page_size * number → number < place_count → number ≢ place → IsTranslated es access place page
elsewhere es access page number place first low other = record { begins = omega arith; lies = λ same. absurd (other (omega arith)) }

-- empty slots satisfy the invariant
pub none_translated : (es : List Entry) (access : Access) (zero one : Translation) → zero.first ≡ 0 → one.first ≡ page_size → AreTranslated es access (set (replicate place_count zero) 0 one)
none_translated es access zero one low high i d within = elim (cases_eq i 0) [
  | inl same ↦
      let here : get_or (set (replicate place_count zero) 0 one) i d ≡ one = ap (λ (j : ℕ). get_or (set (replicate place_count zero) 0 one) j d) same ∙ get_or-set_same (replicate place_count zero) 0 one d (omega (arith, length-replicate place_count zero)) in
      subst (λ (p : Translation). IsTranslated es access i p) (sym here) (elsewhere es access one 1 i (omega arith) (omega arith) (λ bad. omega arith))
  | inr other ↦
      let there : get_or (set (replicate place_count zero) 0 one) i d ≡ zero = get_or-set_other (replicate place_count zero) 0 i one d other ∙ get_or-replicate place_count i zero d within in
      subst (λ (p : Translation). IsTranslated es access i p) (sym there) (elsewhere es access zero 0 i (omega arith) (omega arith) (λ bad. other (sym bad)))
]

-- the lookup of an entry's page in a sorted table returns that entry
pub entry_there : (es : List Entry) (i : ℕ) (d : Entry) → IsSorted es → i < length es → entry_at es (get_or es i d).page ≡ Some (get_or es i d)
entry_there es i d sorted within = entry_at_first es (get_or es i d).page i d within refl (λ j less same. omega (arith, sorted j i d less within))

-- rebuilding one user's translations preserves the invariant
pub all_translate_one : (tables : List (List Entry)) (all : List Translations) (user : ℕ) (now : Translations) → length all ≡ user_count → user < user_count → Translates (table_at tables user) now
    → ((u : ℕ) (d : Translations) → u < user_count → u ≢ user → Translates (table_at tables u) (get_or all u d)) → AllTranslate tables (set all user now)
all_translate_one tables all user now long low here others u d within = elim (cases_eq u user) [
  | inl same ↦ subst (λ (v : ℕ). Translates (table_at tables v) (get_or (set all user now) v d)) (sym same) (subst (λ (t : Translations). Translates (table_at tables user) t) (sym (get_or-set_same all user now d (omega arith))) here)
  | inr other ↦ subst (λ (t : Translations). Translates (table_at tables u) t) (sym (get_or-set_other all user u now d other)) (others u d within other)
]
