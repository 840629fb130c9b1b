-- The definitions of a memory at one address
use Rattle.std.proofs.Common.{◌≡◌, ◌≢◌, ℕ, zero, suc, ◌+◌, ◌-◌, ◌*◌, ◌<◌, ◌≤◌, Bool, true, false, cond, ◌&&◌, List, [], ◌∷◌, ◌++◌, length, get_or, Option, Some, None, refl, sym, ◌∙◌, ap, subst, ◌⊎◌, inl, inr, arith, ne_eqb, eq-eqb, add-zero, ◌||◌, rules}
use Rattle.std.specs.Prelude.{is_some, nat_lt, ◌↔◌}
use Rattle.std.specs.Ordering.{nat_cmp}
use Rattle.std.specs.Cmp.{unsigned_tied, nat_cmp_total}
use Rattle.std.specs.Option.{option_map, option_map_or}
use Rattle.std.specs.FinMap.{FinMap, get, insert, len, contains_key, get-insert, len-insert, same_map, nat_cmp-IsAntisymmetric}
use Rattle.std.proofs.lemmas.List.{ext_get_or}
use Rattle.std.proofs.lemmas.List.FromFn.{length-map-range_with_len, get_or-map-range_with_len}
use Rattle.std.proofs.lemmas.Bool.Decides.{nat_tests}
use Rattle.std.proofs.lemmas.Bool.{and_parts, and_from, cases_eq, cases_lt, cond-false, cond-true}
use Rattle.rv_model.specs.declared.memory.Access.{Access}
use Rattle.rv_model.specs.declared.memory.Access.TheVariants.{Monitor}
use Rattle.rv_model.specs.declared.memory.Permissions.{Permissions}
use Rattle.rv_model.specs.memory.Memory.{Cell, Memory, permits, can_access, bytes_at, put_byte, put_bytes, add_cells, with_pages, page_count, any_page_mapped, map_refusal, is_within, WritesBytes, MapsZeros, MapsPermissions, ReadsBytes, AllowsEachByte, memory_byte, can_access_byte}
use Rattle.rv_model.specs.declared.memory.MapRefusal.TheVariants.{Quota, AlreadyMapped}
use Rattle.rv_model.specs.memory.Sizes.{page_size, page_quota}
use Rattle.rv_model.proofs.Choices.{of_bool, of_option}

-- two memories with the same cell at each address are equal
pub same_memory : (m n : Memory) → ((x : ℕ) → get m x ≡ get n x) → m ≡ n
same_memory m n h = same_map nat_cmp_total nat_cmp-IsAntisymmetric m n h

pub get-insert_same : {X : Type 0} (m : FinMap nat_cmp X) (a : ℕ) (c : X) → get (insert m a c) a ≡ Some c
get-insert_same m a c =
    get-insert nat_cmp_total m a c a ∙ ap (λ b. cond b (Some c) (get m a)) (unsigned_tied a a ∙ eq-eqb a a refl)

pub get-insert_other : {X : Type 0} (m : FinMap nat_cmp X) (a : ℕ) (c : X) (x : ℕ) → x ≢ a → get (insert m a c) x ≡ get m x
get-insert_other m a c x h =
    get-insert nat_cmp_total m a c x ∙ ap (λ b. cond b (Some c) (get m x)) (unsigned_tied x a ∙ ne_eqb x a h)

-- a cell with another byte
abbrev pub with_byte : ℕ → Option Cell → Option Cell
with_byte b o = option_map (λ c. record { byte = b; permissions = c.permissions }) o

put_at : Memory → ℕ → ℕ → Option Cell → Memory
put_at m a b o = option_map_or (λ c. insert m a (record { byte = b; permissions = c.permissions })) o m

put_at_same : (m : Memory) (a b : ℕ) (o : Option Cell) → get m a ≡ o → get (put_at m a b o) a ≡ with_byte b o
unfolding put_at
put_at_same m a b o e = search (arith, nat_tests, get-insert_same)

put_at_other : (m : Memory) (a b x : ℕ) (o : Option Cell) → x ≢ a → get (put_at m a b o) x ≡ get m x
unfolding put_at
put_at_other m a b x o h = search (arith, nat_tests, get-insert_other)

pub get-put_byte_same : (m : Memory) (a b : ℕ) → get (put_byte m a b) a ≡ with_byte b (get m a)
unfolding put_byte put_at
get-put_byte_same m a b = put_at_same m a b (get m a) refl

pub get-put_byte_other : (m : Memory) (a b x : ℕ) → x ≢ a → get (put_byte m a b) x ≡ get m x
unfolding put_byte put_at
get-put_byte_other m a b x h = put_at_other m a b x (get m a) h

-- a write of no bytes
pub put_no_bytes : (m : Memory) (a : ℕ) → put_bytes m a [] ≡ m
unfolding put_bytes
put_no_bytes m a = refl

pub get-put_bytes_outside : (m : Memory) (a : ℕ) (bs : List ℕ) (x : ℕ) → ((x < a) ⊎ (a + length bs ≤ x)) → get (put_bytes m a bs) x ≡ get m x
unfolding put_bytes
get-put_bytes_outside m a [] x h = refl
get-put_bytes_outside m a (b ∷ bs) x h =
    let rest : ((x < a + 1) ⊎ ((a + 1) + length bs ≤ x)) = elim h [ inl l ↦ inl (omega arith) | inr g ↦ inr (omega arith) ] in
    get-put_bytes_outside (put_byte m a b) (a + 1) bs x rest ∙ get-put_byte_other m a b x (λ e. elim h [ inl l ↦ omega arith | inr g ↦ omega arith ])

pub get-put_bytes_within : (m : Memory) (a : ℕ) (bs : List ℕ) (k x : ℕ) → k < length bs → x ≡ a + k → get (put_bytes m a bs) x ≡ with_byte (get_or bs k 0) (get m x)
unfolding put_bytes
get-put_bytes_within m a [] k x h e = absurd (omega arith)
get-put_bytes_within m a (b ∷ bs) zero x h e = search (arith, get-put_byte_same, get-put_bytes_outside)
get-put_bytes_within m a (b ∷ bs) (suc k) x h e =
    search (arith, get-put_byte_other, get-put_bytes_within (put_byte m a b) (a + 1) bs k x (omega arith) (omega arith))

allowed_by : Access → Option Cell → Bool
allowed_by access o = option_map_or (λ c. permits access c.permissions) o false

allowed_by-with_byte : (access : Access) (b : ℕ) (o : Option Cell) → allowed_by access (with_byte b o) ≡ allowed_by access o
unfolding allowed_by
allowed_by-with_byte access b o = search (arith, nat_tests)

is_allowed-put_byte : (access : Access) (m : Memory) (a b x : ℕ) → can_access_byte access (put_byte m a b) x ≡ can_access_byte access m x
unfolding can_access_byte allowed_by
is_allowed-put_byte access m a b x = search (arith, nat_tests, allowed_by, allowed_by-with_byte, cases_eq, get-put_byte_other, get-put_byte_same)

-- a write of bytes leaves the permissions unchanged
pub is_allowed-put_bytes : (access : Access) (m : Memory) (a : ℕ) (bs : List ℕ) (x : ℕ) → can_access_byte access (put_bytes m a bs) x ≡ can_access_byte access m x
unfolding put_bytes
is_allowed-put_bytes access m a [] x = refl
is_allowed-put_bytes access m a (b ∷ bs) x = is_allowed-put_bytes access (put_byte m a b) (a + 1) bs x ∙ is_allowed-put_byte access m a b x

pub put_bytes-append : (m : Memory) (a : ℕ) (bs cs : List ℕ) → put_bytes m a (bs ++ cs) ≡ put_bytes (put_bytes m a bs) (a + length bs) cs
unfolding put_bytes
put_bytes-append m a [] cs = ap (λ (x : ℕ). put_bytes m x cs) (omega arith)
put_bytes-append m a (b ∷ bs) cs = search (arith, put_bytes-append (put_byte m a b) (a + 1) bs cs)

pub get-add_cells_outside : (m : Memory) (a n : ℕ) (f : ℕ → Cell) (x : ℕ) → ((x < a) ⊎ (a + n ≤ x)) → get (add_cells m a n f) x ≡ get m x
unfolding add_cells
get-add_cells_outside m a zero f x h = refl
get-add_cells_outside m a (suc n) f x h =
    let rest : ((x < a) ⊎ (a + n ≤ x)) = elim h [ inl l ↦ inl l | inr g ↦ inr (omega arith) ] in
    get-insert_other (add_cells m a n f) (a + n) (f n) x (λ e. elim h [ inl l ↦ omega arith | inr g ↦ omega arith ]) ∙ get-add_cells_outside m a n f x rest

pub get-add_cells_within : (m : Memory) (a n : ℕ) (f : ℕ → Cell) (k x : ℕ) → k < n → x ≡ a + k → get (add_cells m a n f) x ≡ Some (f k)
unfolding add_cells
get-add_cells_within m a zero f k x h e = absurd (omega arith)
get-add_cells_within m a (suc n) f k x h e = elim (cases_eq k n) [
  | inl same ↦
      subst (λ (y : ℕ). get (insert (add_cells m a n f) (a + n) (f n)) y ≡ Some (f n)) (omega arith) (get-insert_same (add_cells m a n f) (a + n) (f n))
      ∙ ap (λ (j : ℕ). Some (f j)) (sym same)
  | inr other ↦
      get-insert_other (add_cells m a n f) (a + n) (f n) x (λ q. other (omega arith)) ∙ get-add_cells_within m a n f k x (omega arith) e
]

-- new cells at unmapped addresses increase the number of cells
pub len-add_cells : (m : Memory) (a n : ℕ) (f : ℕ → Cell) → ((k : ℕ) → k < n → get m (a + k) ≡ None) → len (add_cells m a n f) ≡ len m + n
unfolding add_cells
len-add_cells m a zero f h = omega arith
len-add_cells m a (suc n) f h =
    let new : get (add_cells m a n f) (a + n) ≡ None = get-add_cells_outside m a n f (a + n) (inr (omega arith)) ∙ h n (omega arith) in
    len-insert nat_cmp_total (add_cells m a n f) (a + n) (f n)
    ∙ ap (λ (o : Option Cell). cond (is_some o) (len (add_cells m a n f)) (len (add_cells m a n f) + 1)) new
    ∙ omega (arith, len-add_cells m a n f (λ k l. h k (omega arith)))

pub length-bytes_at : (m : Memory) (a n : ℕ) → length (bytes_at m a n) ≡ n
unfolding bytes_at
length-bytes_at m a n = length-map-range_with_len (memory_byte m) a n

pub get_or-bytes_at : (m : Memory) (a n k x : ℕ) → k < n → x ≡ a + k → get_or (bytes_at m a n) k 0 ≡ memory_byte m x
unfolding bytes_at
get_or-bytes_at m a n k x h e = get_or-map-range_with_len (memory_byte m) a n k x 0 h (sym e)

pub can_access-at : (access : Access) (m : Memory) (a n k x : ℕ) → can_access access m a n ≡ true → k < n → x ≡ a + k → can_access_byte access m x ≡ true
unfolding can_access
can_access-at access m a zero k x t h e = absurd (omega arith)
can_access-at access m a (suc n) zero x t h e = search (arith, and_parts)
can_access-at access m a (suc n) (suc k) x t h e =
    can_access-at access m (a + 1) n k x (and_parts (can_access_byte access m a) _ t).1 (omega arith) (omega arith)

pub can_access_from : (access : Access) (m : Memory) (a n : ℕ) → ((k : ℕ) → k < n → can_access_byte access m (a + k) ≡ true) → can_access access m a n ≡ true
unfolding can_access
can_access_from access m a zero h = refl
can_access_from access m a (suc n) h =
    and_from _ _ (ap (can_access_byte access m) (sym (omega arith)) ∙ h 0 (omega arith))
    (can_access_from access m (a + 1) n (λ k l. let e : (a + 1) + k ≡ a + suc k = omega arith in ap (can_access_byte access m) e ∙ h (suc k) (omega arith)))

pub can_access_not : (access : Access) (m : Memory) (a n k x : ℕ) → k < n → x ≡ a + k → can_access_byte access m x ≡ false → can_access access m a n ≡ false
can_access_not access m a n k x h e refused =
    of_bool (can_access access m a n) (λ b. b ≡ false) (λ t. sym (can_access-at access m a n k x t h e) ∙ refused) (λ t. refl)

is_allowed_monitor : (access : Access) (m : Memory) (x : ℕ) → can_access_byte access m x ≡ true → can_access_byte Monitor m x ≡ true
unfolding can_access_byte
is_allowed_monitor access m x = search (arith, nat_tests, of_option)

-- the monitor may access all addresses that a program may access
pub can_access_monitor : (access : Access) (m : Memory) (a n : ℕ) → can_access access m a n ≡ true → can_access Monitor m a n ≡ true
can_access_monitor access m a n ok =
    can_access_from Monitor m a n (λ k l. is_allowed_monitor access m (a + k) (can_access-at access m a n k (a + k) ok l refl))

-- ---- how many addresses are mapped

-- ---- one step of a write and of a read

pub bytes_read : (m : Memory) (a n : ℕ) (bs : List ℕ) → length bs ≡ n → ((j : ℕ) → j < n → get_or bs j 0 ≡ memory_byte m (a + j)) → bs ≡ bytes_at m a n
bytes_read m a n bs e h =
    ext_get_or 0 bs (bytes_at m a n) (e ∙ sym (length-bytes_at m a n)) (λ j l. let g : j < n = omega arith in h j g ∙ sym (get_or-bytes_at m a n j (a + j) g refl))

-- ---- pages

-- new cells directly after other new cells
pub add_cells_more : (m : Memory) (a n k t b : ℕ) (c : Cell) → t ≡ n + k → b ≡ a + n → add_cells (add_cells m a n (λ _. c)) b k (λ _. c) ≡ add_cells m a t (λ _. c)
unfolding add_cells
add_cells_more m a n zero t b c e q = let same : n ≡ t = omega arith in ap (λ (j : ℕ). add_cells m a j (λ _. c)) same
add_cells_more m a n (suc k) zero b c e q = absurd (omega arith)
add_cells_more m a n (suc k) (suc t) b c e q =
    ap (λ (m : Memory). insert m (b + k) c) (add_cells_more m a n k t b c (omega arith) q) ∙ ap (λ (j : ℕ). insert (add_cells m a t (λ _. c)) j c) (omega arith)

pub with_pages_more : (m : Memory) (page i : ℕ) (permissions : Permissions) → with_pages (with_pages m page i permissions) (page + i) 1 permissions ≡ with_pages m page (i + 1) permissions
unfolding with_pages
with_pages_more m page i permissions = add_cells_more m (page_size * page) (page_size * i) (page_size * 1) (page_size * (i + 1)) (page_size * (page + i)) (record { byte = 0; permissions = permissions }) (omega arith) (omega arith)

pub with_pages_none : (m : Memory) (page : ℕ) (permissions : Permissions) → m ≡ with_pages m page 0 permissions
unfolding with_pages add_cells
with_pages_none m page permissions = refl

-- ---- mapped pages, and refusals of new pages

pub any_page_mapped_at : (m : Memory) (page count k : ℕ) → k < count → contains_key m (page_size * (page + k)) ≡ true → any_page_mapped m page count ≡ true
unfolding any_page_mapped
any_page_mapped_at m page zero k l h = absurd (omega arith)
any_page_mapped_at m page (suc count) zero l h = search (arith, nat_tests)
any_page_mapped_at m page (suc count) (suc k) l h =
    let rest = any_page_mapped_at m (page + 1) count k (omega arith) (ap (λ (p : ℕ). contains_key m (page_size * p)) (omega arith) ∙ h) in
    or_from_right (contains_key m (page_size * page)) (any_page_mapped m (page + 1) count) rest
  where
    or_from_right : (a b : Bool) → b ≡ true → (a || b) ≡ true
    or_from_right true b h = refl
    or_from_right false b h = h

pub any_page_mapped_none : (m : Memory) (page count : ℕ) → ((k : ℕ) → k < count → contains_key m (page_size * (page + k)) ≡ false) → any_page_mapped m page count ≡ false
unfolding any_page_mapped
any_page_mapped_none m page zero h = refl
any_page_mapped_none m page (suc count) h =
    ap (λ (b : Bool). b || any_page_mapped m (page + 1) count) (ap (λ (p : ℕ). contains_key m (page_size * p)) (sym (add-zero page)) ∙ h 0 (omega arith))
    ∙ any_page_mapped_none m (page + 1) count (λ k l.
    ap (λ (p : ℕ). contains_key m (page_size * p)) (omega arith) ∙ h (suc k) (omega arith))

pub map_refusal_quota : (m : Memory) (page count : ℕ) → page_quota < page_count m + count → map_refusal m page count ≡ Some Quota
unfolding map_refusal
map_refusal_quota m page count h = cond-true (nat_lt page_quota (page_count m + count)) _ _ (search rules)

pub map_refusal_mapped : (m : Memory) (page count : ℕ) → page_count m + count ≤ page_quota → any_page_mapped m page count ≡ true → map_refusal m page count ≡ Some AlreadyMapped
unfolding map_refusal
map_refusal_mapped m page count room h = cond-false (nat_lt page_quota (page_count m + count)) _ _ (search rules) ∙ cond-true (any_page_mapped m page count) _ _ h

pub map_refusal_none : (m : Memory) (page count : ℕ) → page_count m + count ≤ page_quota → any_page_mapped m page count ≡ false → map_refusal m page count ≡ None
unfolding map_refusal
map_refusal_none m page count room h = cond-false (nat_lt page_quota (page_count m + count)) _ _ (search rules) ∙ cond-false (any_page_mapped m page count) _ _ h

-- the condition for each refusal
pub map_refusal-Quota : (m : Memory) (page count : ℕ) → (map_refusal m page count ≡ Some Quota) ↔ (page_quota < page_count m + count)
map_refusal-Quota m page count = search (arith, nat_tests, cases_lt, map_refusal_mapped, map_refusal_none, map_refusal_quota, of_bool)

pub map_refusal-AlreadyMapped : (m : Memory) (page count : ℕ) → (map_refusal m page count ≡ Some AlreadyMapped) ↔ ((page_count m + count ≤ page_quota) × (any_page_mapped m page count ≡ true))
map_refusal-AlreadyMapped m page count = search (arith, nat_tests, cases_lt, map_refusal_mapped, map_refusal_none, map_refusal_quota, of_bool)

-- ---- addresses in ranges

byte_by : Option Cell → ℕ
byte_by o = option_map_or (λ c. c.byte) o 0

byte_by-with_byte : (b : ℕ) (o : Option Cell) → byte_by (with_byte b o) ≡ cond (allowed_by Monitor o) b (byte_by o)
unfolding byte_by allowed_by
byte_by-with_byte b o = search (arith, nat_tests)

pub is_within_true : (a n x : ℕ) → a ≤ x → x < a + n → is_within a n x ≡ true
is_within_true a n x l h = grind (arith, nat_tests)

pub is_within_false : (a n x : ℕ) → ((x < a) ⊎ (a + n ≤ x)) → is_within a n x ≡ false
is_within_false a n x h = search (arith, nat_tests)

-- an address is either in the range of n addresses from a on or outside it
pub places : (a n x : ℕ) → ((a ≤ x) × (x < a + n)) ⊎ ((x < a) ⊎ (a + n ≤ x))
places a n x = search (arith, nat_tests, cases_lt)

pub writes_bytes : WritesBytes
unfolding memory_byte can_access_byte byte_by allowed_by
writes_bytes m a bs x = elim (places a (length bs) x) [
  | inl within ↦
      ap byte_by (get-put_bytes_within m a bs (x - a) x (omega (arith, within.0, within.1)) (omega (arith, within.0))) ∙ byte_by-with_byte (get_or bs (x - a) 0) (get m x)
      ∙ ap (λ (b : Bool). cond (b && can_access_byte Monitor m x) (get_or bs (x - a) 0) (memory_byte m x)) (sym (is_within_true a (length bs) x within.0 within.1))
  | inr far ↦
      ap byte_by (get-put_bytes_outside m a bs x far)
      ∙ ap (λ (b : Bool). cond (b && can_access_byte Monitor m x) (get_or bs (x - a) 0) (memory_byte m x)) (sym (is_within_false a (length bs) x far))
]

pub maps_zeros : MapsZeros
unfolding memory_byte byte_by with_pages
maps_zeros m page count permissions x = elim (places (page_size * page) (page_size * count) x) [
  | inl within ↦
      let k : x - page_size * page < page_size * count = omega (arith, within.0, within.1) in
      let place : x ≡ page_size * page + (x - page_size * page) = omega (arith, within.0) in
      ap byte_by (get-add_cells_within m (page_size * page) (page_size * count) (λ _. record { byte = 0; permissions = permissions }) (x - page_size * page) x k place)
      ∙ ap (λ (b : Bool). cond b 0 (memory_byte m x)) (sym (is_within_true (page_size * page) (page_size * count) x within.0 within.1))
  | inr far ↦
      ap byte_by (get-add_cells_outside m (page_size * page) (page_size * count) (λ _. record { byte = 0; permissions = permissions }) x far)
      ∙ ap (λ (b : Bool). cond b 0 (memory_byte m x)) (sym (is_within_false (page_size * page) (page_size * count) x far))
]

pub maps_permissions : MapsPermissions
unfolding can_access_byte allowed_by with_pages
maps_permissions access m page count permissions x = elim (places (page_size * page) (page_size * count) x) [
  | inl within ↦
      let k : x - page_size * page < page_size * count = omega (arith, within.0, within.1) in
      let place : x ≡ page_size * page + (x - page_size * page) = omega (arith, within.0) in
      ap (allowed_by access) (get-add_cells_within m (page_size * page) (page_size * count) (λ _. record { byte = 0; permissions = permissions }) (x - page_size * page) x k place)
      ∙ ap (λ (b : Bool). cond b (permits access permissions) (can_access_byte access m x)) (sym (is_within_true (page_size * page) (page_size * count) x within.0 within.1))
  | inr far ↦
      ap (allowed_by access) (get-add_cells_outside m (page_size * page) (page_size * count) (λ _. record { byte = 0; permissions = permissions }) x far)
      ∙ ap (λ (b : Bool). cond b (permits access permissions) (can_access_byte access m x)) (sym (is_within_false (page_size * page) (page_size * count) x far))
]

pub reads_bytes : ReadsBytes
reads_bytes m a n k l = get_or-bytes_at m a n k (a + k) l refl

pub allows_each_byte : AllowsEachByte
allows_each_byte access m a n = (λ ok k l. can_access-at access m a n k (a + k) ok l refl, can_access_from access m a n)
