-- Results of lists of transfers, one after another.
use Rattle.std.proofs.Common.{◌≡◌, ℕ, true, List, [], ◌∷◌, ◌++◌, refl, zero, suc, ◌+◌, ◌&&◌, arith}
use Rattle.std.specs.Simd.Lanes.{chunk, put_chunk}
use Rattle.std.proofs.lemmas.List.Folds.{list_all-append}
use Rattle.std.proofs.lemmas.Bool.Decides.{nat_tests}
use Rattle.rv_model.specs.declared.memory.Access.{Access}
use Rattle.rv_model.specs.accesses.Transfers.{Transfer, TransferKind, are_allowed, bad_address, bytes_loaded, can_move, can_transfer, registers_loaded, memory_stored, with_element}
use Rattle.rv_model.specs.memory.Memory.{Memory, can_access}
use Rattle.rv_model.specs.memory.Memory as memory
use Rattle.rv_model.proofs.memory_lemmas.Memory.{is_allowed-put_bytes}

-- ---- allowed transfers

pub allowed_none : (access : Access) (m : Memory) → are_allowed access m [] ≡ true
unfolding are_allowed
allowed_none access m = refl

pub are_allowed-append : (access : Access) (m : Memory) (xs ys : List Transfer) → are_allowed access m (xs ++ ys) ≡ (are_allowed access m xs && are_allowed access m ys)
unfolding are_allowed
are_allowed-append access m xs ys = list_all-append (can_transfer access m) xs ys

-- ---- loads

pub loaded-append : (m : Memory) (place : Transfer → ℕ) (file : List ℕ) (xs ys : List Transfer) → registers_loaded m place file (xs ++ ys) ≡ registers_loaded m place (registers_loaded m place file xs) ys
unfolding registers_loaded
loaded-append m place file [] ys = refl
loaded-append m place file (t ∷ xs) ys = loaded-append m place (put_chunk (place t) file (bytes_loaded m t.size t.kind)) xs ys

pub loaded_none : (m : Memory) (place : Transfer → ℕ) (file : List ℕ) → registers_loaded m place file [] ≡ file
unfolding registers_loaded
loaded_none m place file = refl

pub loaded_one : (m : Memory) (place : Transfer → ℕ) (file : List ℕ) (t : Transfer) → registers_loaded m place file (t ∷ []) ≡ put_chunk (place t) file (bytes_loaded m t.size t.kind)
unfolding registers_loaded
loaded_one m place file t = refl

-- ---- stores

pub stored-append : (m : Memory) (place : Transfer → ℕ) (file : List ℕ) (xs ys : List Transfer) → memory_stored m place file (xs ++ ys) ≡ memory_stored (memory_stored m place file xs) place file ys
unfolding memory_stored
stored-append m place file [] ys = refl
stored-append m place file (t ∷ xs) ys = stored-append (with_element m (chunk (place t) t.size file) t.kind) place file xs ys

pub stored_none : (m : Memory) (place : Transfer → ℕ) (file : List ℕ) → memory_stored m place file [] ≡ m
unfolding memory_stored
stored_none m place file = refl

pub stored_one : (m : Memory) (place : Transfer → ℕ) (file : List ℕ) (t : Transfer) → memory_stored m place file (t ∷ []) ≡ with_element m (chunk (place t) t.size file) t.kind
unfolding memory_stored
stored_one m place file t = refl

-- ---- a store changes no permission

pub element_allows : (access : Access) (m : Memory) (bytes : List ℕ) (kind : TransferKind) (x : ℕ) → memory.can_access_byte access (with_element m bytes kind) x ≡ memory.can_access_byte access m x
element_allows access m bytes kind x = search (arith, nat_tests, is_allowed-put_bytes)

pub stored_allows : (access : Access) (m : Memory) (place : Transfer → ℕ) (file : List ℕ) (ts : List Transfer) (x : ℕ) → memory.can_access_byte access (memory_stored m place file ts) x ≡ memory.can_access_byte access m x
unfolding memory_stored
stored_allows access m place file [] x = refl
stored_allows access m place file (t ∷ ts) x =
    search (element_allows, stored_allows access (with_element m (chunk (place t) t.size file) t.kind) place file ts x)

-- two memories that allow an access at the same addresses
abbrev pub AllowTheSame : Access → Memory → Memory → Type 0
AllowTheSame access m n = (x : ℕ) → memory.can_access_byte access m x ≡ memory.can_access_byte access n x

pub can_access_same : (access : Access) (m n : Memory) (a k : ℕ) → AllowTheSame access m n → can_access access m a k ≡ can_access access n a k
unfolding can_access
can_access_same access m n a zero same = refl
can_access_same access m n a (suc k) same = let here = same a in let rest = can_access_same access m n (a + 1) k same in cc

can_move_same : (access : Access) (m n : Memory) (size : ℕ) (kind : TransferKind) → AllowTheSame access m n → can_move access m size kind ≡ can_move access n size kind
can_move_same access m n size kind same = search (arith, nat_tests, can_access_same)

pub are_allowed_same : (access : Access) (m n : Memory) (ts : List Transfer) → AllowTheSame access m n → are_allowed access m ts ≡ are_allowed access n ts
unfolding are_allowed
are_allowed_same access m n [] same = refl
are_allowed_same access m n (t ∷ ts) same = search (arith, nat_tests, can_move_same, are_allowed_same access m n ts same)

pub bad_address_same : (access : Access) (m n : Memory) (ts : List Transfer) → AllowTheSame access m n → bad_address access m ts ≡ bad_address access n ts
unfolding bad_address
bad_address_same access m n [] same = refl
bad_address_same access m n (t ∷ ts) same = search (arith, nat_tests, can_move_same, bad_address_same access m n ts same)

pub are_allowed-stored : (access : Access) (m : Memory) (place : Transfer → ℕ) (file : List ℕ) (done ts : List Transfer) → are_allowed access (memory_stored m place file done) ts ≡ are_allowed access m ts
are_allowed-stored access m place file done ts = are_allowed_same access _ m ts (stored_allows access m place file done)

pub bad_address-stored : (access : Access) (m : Memory) (place : Transfer → ℕ) (file : List ℕ) (done ts : List Transfer) → bad_address access (memory_stored m place file done) ts ≡ bad_address access m ts
bad_address-stored access m place file done ts = bad_address_same access _ m ts (stored_allows access m place file done)

pub can_access-stored : (access : Access) (m : Memory) (place : Transfer → ℕ) (file : List ℕ) (done : List Transfer) (a k : ℕ) → can_access access (memory_stored m place file done) a k ≡ can_access access m a k
can_access-stored access m place file done a k = can_access_same access _ m a k (stored_allows access m place file done)
