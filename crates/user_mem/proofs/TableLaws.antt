-- The memory of a table at one address, and the effect of a write to a frame
use Rattle.std.proofs.Common.{◌≡◌, ◌≢◌, ℕ, ◌+◌, ◌*◌, ◌/◌, ◌%◌, ◌<◌, ◌≤◌, Bool, true, false, cond, List, [], ◌∷◌, get_or, Option, Some, None, refl, sym, ◌∙◌, ap, ◌⊎◌, inl, inr, arith, ne_eqb, eq-eqb}
use Rattle.std.specs.Ordering.{nat_cmp}
use Rattle.std.specs.Option.{option_map, option_map_or}
use Rattle.std.specs.FinMap.{get, get-empty}
use Rattle.std.proofs.lemmas.Bool.{cases_eq, cases_lt}
use Rattle.rv_model.specs.declared.memory.Access.{Access}
use Rattle.rv_model.specs.memory.Memory.{Cell, permits, can_access, can_access_byte, memory_byte}
use Rattle.rv_model.proofs.memory_lemmas.Memory.{same_memory, get-add_cells_within, get-add_cells_outside, can_access-at}
use Rattle.rv_model.specs.memory.Sizes.{page_size, address_end}
use Rattle.user_mem.specs.declared.entry.Entry.{Entry}
use Rattle.user_mem.specs.Table.{entry_at, cell_of_entry, memory_of, AreBelow}

-- the cell at address x of the page that an entry maps
abbrev pub cell_of_page : List ℕ → ℕ → Option Entry → Option Cell
cell_of_page frames x o = option_map (λ e. cell_of_entry frames e (x % page_size)) o

pub get-memory_of : (frames : List ℕ) (entries : List Entry) (x : ℕ) → get (memory_of frames entries) x ≡ cell_of_page frames x (entry_at entries (x / page_size))
unfolding memory_of
get-memory_of frames [] x = get-empty nat_cmp x
get-memory_of frames (e ∷ es) x = elim (cases_eq e.page (x / page_size)) [
  | inl q ↦
      let at : x ≡ page_size * e.page + x % page_size = omega arith in
      get-add_cells_within (memory_of frames es) (page_size * e.page) page_size (λ k. cell_of_entry frames e k) (x % page_size) x (omega arith) at
      ∙ ap (λ (b : Bool). cell_of_page frames x (cond b (Some e) (entry_at es (x / page_size)))) (sym (eq-eqb e.page (x / page_size) q))
  | inr n ↦
      get-add_cells_outside (memory_of frames es) (page_size * e.page) page_size (λ k. cell_of_entry frames e k) x (beside n)
      ∙ get-memory_of frames es x
      ∙ ap (λ (b : Bool). cell_of_page frames x (cond b (Some e) (entry_at es (x / page_size)))) (sym (ne_eqb e.page (x / page_size) n))
]
  where
    beside : e.page ≢ x / page_size → ((x < page_size * e.page) ⊎ (page_size * e.page + page_size ≤ x))
    beside n = elim (cases_lt x (page_size * e.page)) [
      | inl l ↦ inl l
      | inr g ↦ elim (cases_lt x (page_size * e.page + page_size)) [ inl l ↦ absurd (n (omega arith)) | inr h ↦ inr h ]
    ]

pub is_allowed-memory_of : (access : Access) (frames : List ℕ) (entries : List Entry) (x : ℕ) → can_access_byte access (memory_of frames entries) x ≡ option_map_or (λ e. permits access e.permissions) (entry_at entries (x / page_size)) false
unfolding can_access_byte
is_allowed-memory_of access frames entries x =
    ap (λ (o : Option Cell). option_map_or (λ c. permits access c.permissions) o false) (get-memory_of frames entries x)
    ∙ through (entry_at entries (x / page_size))
  where
    through : (o : Option Entry) → option_map_or (λ c. permits access c.permissions) (cell_of_page frames x o) false ≡ option_map_or (λ e. permits access e.permissions) o false
    through None = refl
    through (Some e) = refl

-- a mapped byte is the byte of its entry's frame
pub byte_at-memory_of : (frames : List ℕ) (entries : List Entry) (x : ℕ) (e : Entry) → entry_at entries (x / page_size) ≡ Some e → memory_byte (memory_of frames entries) x ≡ get_or frames (page_size * e.frame + x % page_size) 0
unfolding memory_byte
byte_at-memory_of frames entries x e h =
    ap (λ (o : Option Cell). option_map_or (λ c. c.byte) o 0) (get-memory_of frames entries x ∙ ap (cell_of_page frames x) h)

-- bytes outside the table's frames don't affect the memory
pub memory_of_same : (frames other : List ℕ) (entries : List Entry) → ((p : ℕ) (e : Entry) (k : ℕ) → entry_at entries p ≡ Some e → k < page_size → get_or other (page_size * e.frame + k) 0 ≡ get_or frames (page_size * e.frame + k) 0) → memory_of other entries ≡ memory_of frames entries
memory_of_same frames other entries h = same_memory _ _ (λ x.
    get-memory_of other entries x ∙ at x (entry_at entries (x / page_size)) refl ∙ sym (get-memory_of frames entries x))
  where
    at : (x : ℕ) (o : Option Entry) → entry_at entries (x / page_size) ≡ o → cell_of_page other x (entry_at entries (x / page_size)) ≡ cell_of_page frames x (entry_at entries (x / page_size))
    at x None q = ap (cell_of_page other x) q ∙ sym (ap (cell_of_page frames x) q)
    at x (Some e) q =
        ap (cell_of_page other x) q
        ∙ ap (λ (b : ℕ). Some (record { byte = b; permissions = e.permissions })) (h (x / page_size) e (x % page_size) q (omega arith))
        ∙ sym (ap (cell_of_page frames x) q)

pub allowed_by_entry : (access : Access) (frames : List ℕ) (entries : List Entry) (x : ℕ) (e : Entry) → entry_at entries (x / page_size) ≡ Some e → permits access e.permissions ≡ can_access_byte access (memory_of frames entries) x
allowed_by_entry access frames entries x e h =
    sym (is_allowed-memory_of access frames entries x ∙ ap (λ (o : Option Entry). option_map_or (λ e. permits access e.permissions) o false) h)

pub allowed_by_none : (access : Access) (frames : List ℕ) (entries : List Entry) (x : ℕ) → entry_at entries (x / page_size) ≡ None → false ≡ can_access_byte access (memory_of frames entries) x
allowed_by_none access frames entries x h =
    sym (is_allowed-memory_of access frames entries x ∙ ap (λ (o : Option Entry). option_map_or (λ e. permits access e.permissions) o false) h)

some_or_none : {X : Type 0} (o : Option X) → ((e : X) × (o ≡ Some e)) ⊎ (o ≡ None)
some_or_none None = inr refl
some_or_none (Some e) = inl (e, refl)

-- an address that may be accessed has an entry
pub entry_from_allowed : (access : Access) (frames : List ℕ) (entries : List Entry) (x : ℕ) → can_access_byte access (memory_of frames entries) x ≡ true → (e : Entry) × (entry_at entries (x / page_size) ≡ Some e)
entry_from_allowed access frames entries x h = elim (some_or_none (entry_at entries (x / page_size))) [
  | inl some ↦ some
  | inr none ↦ let bad = allowed_by_none access frames entries x none in absurd (cc)
]

pub allowed_below : (access : Access) (frames : List ℕ) (entries : List Entry) (x : ℕ) → AreBelow entries → can_access_byte access (memory_of frames entries) x ≡ true → x < address_end
allowed_below access frames entries x below h =
    let some = entry_from_allowed access frames entries x h in
    let page = below (x / page_size) some.0 some.1 in omega arith

pub not_allowed_beyond : (access : Access) (frames : List ℕ) (entries : List Entry) (x : ℕ) → AreBelow entries → address_end ≤ x → can_access_byte access (memory_of frames entries) x ≡ false
not_allowed_beyond access frames entries x below far = split (can_access_byte access (memory_of frames entries) x) refl
  where
    split : (b : Bool) → can_access_byte access (memory_of frames entries) x ≡ b → can_access_byte access (memory_of frames entries) x ≡ false
    split true t = let near = allowed_below access frames entries x below t in absurd (omega arith)
    split false t = t

-- ---- one step of a copy

pub access_below : (access : Access) (frames : List ℕ) (entries : List Entry) (a n k : ℕ) → AreBelow entries → can_access access (memory_of frames entries) a n ≡ true → k < n → a + k < address_end
access_below access frames entries a n k below ok l =
    allowed_below access frames entries (a + k) below (can_access-at access (memory_of frames entries) a n k (a + k) ok l refl)
