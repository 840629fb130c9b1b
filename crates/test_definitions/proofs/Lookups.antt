-- Loads and stores by the cells of a memory, which compute, in place of the memory itself, which doesn't.
use Rattle.std.specs.Prelude.{ℕ, ◌+◌, ◌-◌, ◌==◌, ◌≡◌, ◌++◌, Bool, true, false, not, min, nat_le, List, [], ◌∷◌, Option, map, find, replicate, if◌then◌else◌}
use Rattle.std.proofs.Common.{refl, sym, ap, subst, ◌∙◌, inl, inr, ne_eqb, eq-eqb}
use Rattle.std.proofs.Math.Path.{fun_ext}
use Rattle.std.proofs.lemmas.Bool.{cases_eq}
use Rattle.std.specs.FinMap.{get}
use Rattle.std.specs.List.{list_all, range_with_len}
use Rattle.std.specs.Option.{option_map_or, unwrap_or}
use Rattle.std.specs.Simd.Lanes.{chunk, put_chunk}
use Rattle.rv_model.specs.declared.memory.Access.{Access}
use Rattle.rv_model.specs.declared.memory.Access.TheVariants.{Load, Store}
use Rattle.rv_model.specs.declared.step.memory_end.MemEnd.{MemEnd}
use Rattle.rv_model.specs.declared.step.memory_end.MemEnd.TheVariants.{Done, Fault, Cut}
use Rattle.rv_model.specs.accesses.AccessRuns.{AccessRun, access_ends, load_run, store_run}
use Rattle.rv_model.specs.accesses.Transfers.{Moved, Ones, Plan, Transfer, TransferKind, address_of, are_allowed, bad_address, bytes_loaded, can_move, end_at, memory_stored, registers_loaded, stop_index, transfers, with_element}
use Rattle.rv_model.specs.accesses.VectorAccess.{VectorAccess, element_start, plan}
use Rattle.rv_model.specs.declared.vector.state.VState.{VState}
use Rattle.rv_model.specs.memory.Memory.{Cell, Memory, bytes_at, can_access, can_access_byte, memory_byte, permits, put_byte, put_bytes}
use Rattle.rv_model.proofs.memory_lemmas.Memory.{get-put_byte_other, get-put_byte_same, with_byte}

-- the cell at each address
abbrev pub Lookup : Type 0
Lookup = ℕ → Option Cell

-- ---- bytes

abbrev pub can_by : Access → Lookup → ℕ → ℕ → Bool
can_by access g a n = list_all (λ x. option_map_or (λ c. permits access c.permissions) (g x) false) (range_with_len a n)

abbrev pub read_by : Lookup → ℕ → ℕ → List ℕ
read_by g a n = map (λ x. option_map_or (λ c. c.byte) (g x) 0) (range_with_len a n)

pub can_access_by : (access : Access) (m : Memory) (a n : ℕ) → can_access access m a n ≡ can_by access (get m) a n
unfolding can_access can_access_byte
can_access_by access m a n = refl

pub bytes_by : (m : Memory) (a n : ℕ) → bytes_at m a n ≡ read_by (get m) a n
unfolding bytes_at memory_byte
bytes_by m a n = refl

-- ---- permissions of transfers

abbrev moves : Access → Lookup → ℕ → TransferKind → Bool
moves access g size (Moved address) = can_by access g address size
moves access g size Ones = true

can_move_by : (access : Access) (m : Memory) (size : ℕ) (kind : TransferKind) → can_move access m size kind ≡ moves access (get m) size kind
can_move_by access m size (Moved address) = can_access_by access m address size
can_move_by access m size Ones = refl

abbrev all_move : Access → Lookup → List Transfer → Bool
all_move access g ts = list_all (λ t. moves access g t.size t.kind) ts

are_allowed_by : (access : Access) (m : Memory) (ts : List Transfer) → are_allowed access m ts ≡ all_move access (get m) ts
unfolding are_allowed
are_allowed_by access m ts = ap (λ (p : Transfer → Bool). list_all p ts) (fun_ext (λ (t : Transfer). can_move_by access m t.size t.kind))

abbrev bad_by : Access → Lookup → List Transfer → ℕ
bad_by access g [] = 0
bad_by access g (t ∷ ts) = if moves access g t.size t.kind then bad_by access g ts else address_of t.kind

bad_address_by : (access : Access) (m : Memory) (ts : List Transfer) → bad_address access m ts ≡ bad_by access (get m) ts
unfolding bad_address
bad_address_by access m [] = refl
bad_address_by access m (t ∷ ts) =
    λ i. if can_move_by access m t.size t.kind i then bad_address_by access m ts i else address_of t.kind

abbrev stop_by : Access → Lookup → Plan → ℕ → ℕ → ℕ → ℕ
stop_by access g each start cut count =
    unwrap_or (find (λ i. not (all_move access g (each i))) (range_with_len start (min count cut - start))) (min count cut)

stop_index_by : (access : Access) (m : Memory) (each : Plan) (start cut count : ℕ)
    → stop_index access m each start cut count ≡ stop_by access (get m) each start cut count
unfolding stop_index
stop_index_by access m each start cut count =
    ap (λ (p : ℕ → Bool). unwrap_or (find p (range_with_len start (min count cut - start))) (min count cut))
    (fun_ext (λ (i : ℕ). ap not (are_allowed_by access m (each i))))

abbrev end_by : Access → Lookup → Plan → ℕ → ℕ → ℕ → MemEnd
end_by access g each cut count stop =
    if nat_le count stop then Done
    else if nat_le cut stop then Cut stop
    else Fault stop (bad_by access g (each stop))

end_at_by : (access : Access) (m : Memory) (each : Plan) (cut count stop : ℕ)
    → end_at access m each cut count stop ≡ end_by access (get m) each cut count stop
unfolding end_at
end_at_by access m each cut count stop =
    ap (λ (x : ℕ). if nat_le count stop then Done else if nat_le cut stop then Cut stop else Fault stop x) (bad_address_by access m (each stop))

-- ---- loads

abbrev loaded : Lookup → ℕ → TransferKind → List ℕ
loaded g size (Moved address) = read_by g address size
loaded g size Ones = replicate size 255

bytes_loaded_by : (m : Memory) (size : ℕ) (kind : TransferKind) → bytes_loaded m size kind ≡ loaded (get m) size kind
bytes_loaded_by m size (Moved address) = bytes_by m address size
bytes_loaded_by m size Ones = refl

abbrev registers_by : Lookup → (Transfer → ℕ) → List ℕ → List Transfer → List ℕ
registers_by g place file [] = file
registers_by g place file (t ∷ ts) = registers_by g place (put_chunk (place t) file (loaded g t.size t.kind)) ts

registers_loaded_by : (m : Memory) (place : Transfer → ℕ) (file : List ℕ) (ts : List Transfer)
    → registers_loaded m place file ts ≡ registers_by (get m) place file ts
unfolding registers_loaded
registers_loaded_by m place file [] = refl
registers_loaded_by m place file (t ∷ ts) =
    registers_loaded_by m place (put_chunk (place t) file (bytes_loaded m t.size t.kind)) ts
    ∙ ap (λ (bytes : List ℕ). registers_by (get m) place (put_chunk (place t) file bytes) ts) (bytes_loaded_by m t.size t.kind)

abbrev pub load_by : Lookup → ℕ → Bool → VectorAccess → VState → Memory → AccessRun
load_by g limit fill a v m =
    let each = plan a fill in
    let start = a.body.start in
    let stop = stop_by Load g each start (start + limit) a.body.end in
    access_ends a.first_only a.body.end (record v { file = registers_by g (element_start a) v.file (transfers each start (stop - start)) }) m
    (end_by Load g each (start + limit) a.body.end stop)

pub load_run_by : (limit : ℕ) (fill : Bool) (a : VectorAccess) (v : VState) (m : Memory)
    → load_run limit fill a v m ≡ load_by (get m) limit fill a v m
unfolding load_run
load_run_by limit fill a v m =
    let each = plan a fill in
    let start = a.body.start in
    let done : ℕ → AccessRun = λ stop.
    access_ends a.first_only a.body.end
    (record v { file = registers_loaded m (element_start a) v.file (transfers each start (stop - start)) }) m
    (end_at Load m each (start + limit) a.body.end stop) in
    let stop = stop_by Load (get m) each start (start + limit) a.body.end in
    ap done (stop_index_by Load m each start (start + limit) a.body.end)
    ∙ (λ i.
    access_ends a.first_only a.body.end
    (record v { file = registers_loaded_by m (element_start a) v.file (transfers each start (stop - start)) i }) m
    (end_at_by Load m each (start + limit) a.body.end stop i))

-- ---- stores

-- the memory after these bytes are written, one after another
unfoldable pub written_to : Memory → List (ℕ × ℕ) → Memory
written_to m [] = m
written_to m (e ∷ es) = written_to (put_byte m e.0 e.1) es

written_then : (m : Memory) (es fs : List (ℕ × ℕ)) → written_to (written_to m es) fs ≡ written_to m (es ++ fs)
unfolding written_to
written_then m [] fs = refl
written_then m (e ∷ es) fs = written_then (put_byte m e.0 e.1) es fs

-- the bytes of a write by address
abbrev pub addressed : ℕ → List ℕ → List (ℕ × ℕ)
addressed a [] = []
addressed a (b ∷ bs) = (a, b) ∷ addressed (a + 1) bs

pub put_bytes_by : (m : Memory) (a : ℕ) (bs : List ℕ) → put_bytes m a bs ≡ written_to m (addressed a bs)
unfolding put_bytes written_to
put_bytes_by m a [] = refl
put_bytes_by m a (b ∷ bs) = put_bytes_by (put_byte m a b) (a + 1) bs

abbrev element_writes : List ℕ → TransferKind → List (ℕ × ℕ)
element_writes bytes (Moved address) = addressed address bytes
element_writes bytes Ones = []

with_element_by : (m : Memory) (bytes : List ℕ) (kind : TransferKind) → with_element m bytes kind ≡ written_to m (element_writes bytes kind)
unfolding written_to
with_element_by m bytes (Moved address) = put_bytes_by m address bytes
with_element_by m bytes Ones = refl

-- the bytes that these transfers of a store write
abbrev pub writes_of : (Transfer → ℕ) → List ℕ → List Transfer → List (ℕ × ℕ)
writes_of place file [] = []
writes_of place file (t ∷ ts) = element_writes (chunk (place t) t.size file) t.kind ++ writes_of place file ts

memory_stored_by : (m : Memory) (place : Transfer → ℕ) (file : List ℕ) (ts : List Transfer)
    → memory_stored m place file ts ≡ written_to m (writes_of place file ts)
unfolding memory_stored written_to
memory_stored_by m place file [] = refl
memory_stored_by m place file (t ∷ ts) =
    let bytes = chunk (place t) t.size file in
    ap (λ (n : Memory). memory_stored n place file ts) (with_element_by m bytes t.kind)
    ∙ memory_stored_by (written_to m (element_writes bytes t.kind)) place file ts
    ∙ written_then m (element_writes bytes t.kind) (writes_of place file ts)

-- the bytes that an access writes
abbrev pub access_writes : Lookup → ℕ → VectorAccess → VState → List (ℕ × ℕ)
access_writes g limit a v =
    let each = plan a false in
    let start = a.body.start in
    let stop = stop_by Store g each start (start + limit) a.body.end in
    writes_of (element_start a) v.file (transfers each start (stop - start))

abbrev pub store_by : Lookup → ℕ → VectorAccess → VState → Memory → AccessRun
store_by g limit a v m =
    let each = plan a false in
    let start = a.body.start in
    let stop = stop_by Store g each start (start + limit) a.body.end in
    access_ends false a.body.end v (written_to m (access_writes g limit a v))
    (end_by Store g each (start + limit) a.body.end stop)

pub store_run_by : (limit : ℕ) (a : VectorAccess) (v : VState) (m : Memory) → store_run limit a v m ≡ store_by (get m) limit a v m
unfolding store_run
store_run_by limit a v m =
    let each = plan a false in
    let start = a.body.start in
    let done : ℕ → AccessRun = λ stop.
    access_ends false a.body.end v (memory_stored m (element_start a) v.file (transfers each start (stop - start)))
    (end_at Store m each (start + limit) a.body.end stop) in
    let stop = stop_by Store (get m) each start (start + limit) a.body.end in
    ap done (stop_index_by Store m each start (start + limit) a.body.end)
    ∙ (λ i.
    access_ends false a.body.end v (memory_stored_by m (element_start a) v.file (transfers each start (stop - start)) i)
    (end_at_by Store m each (start + limit) a.body.end stop i))

-- ---- the cells after writes

abbrev put_by : Lookup → ℕ → ℕ → Lookup
put_by g a b x = if x == a then with_byte b (g x) else g x

abbrev pub put_all : Lookup → List (ℕ × ℕ) → Lookup
put_all g [] = g
put_all g (e ∷ es) = put_all (put_by g e.0 e.1) es

put_byte_by : (m : Memory) (a b x : ℕ) → get (put_byte m a b) x ≡ put_by (get m) a b x
put_byte_by m a b x = elim (cases_eq x a) [
  | inl e ↦ rw (eq-eqb x a e) (subst (λ (y : ℕ). get (put_byte m a b) y ≡ with_byte b (get m y)) (sym e) (get-put_byte_same m a b))
  | inr n ↦ rw (ne_eqb x a n) (get-put_byte_other m a b x n)
]

pub get_written : (m : Memory) (es : List (ℕ × ℕ)) → get (written_to m es) ≡ put_all (get m) es
unfolding written_to
get_written m [] = refl
get_written m (e ∷ es) =
    get_written (put_byte m e.0 e.1) es ∙ ap (λ (g : Lookup). put_all g es) (fun_ext (λ (x : ℕ). put_byte_by m e.0 e.1 x))
