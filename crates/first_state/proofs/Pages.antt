-- Bytes of a mapped page are accessible, and bytes are placed in sequence.
use Rattle.std.proofs.Common.{◌≡◌, ℕ, suc, ◌+◌, ◌*◌, ◌/◌, ◌<◌, ◌≤◌, Bool, true, cond, List, ◌∷◌, length, get_or, drop, Ok, sym, ap, ◌∙◌, arith, drop-cons}
use Rattle.std.specs.Prelude.{Result}
use Rattle.std.proofs.lemmas.List.{drop_all}
use Rattle.rv_model.specs.declared.memory.Access.TheVariants.{Monitor}
use Rattle.rv_model.specs.declared.memory.Permissions.{Permissions}
use Rattle.rv_model.specs.memory.Memory.{Memory, can_access, can_access_byte, with_pages}
use Rattle.rv_model.specs.memory.Sizes.{page_size}
use Rattle.rv_model.proofs.memory_lemmas.Memory.{allows_each_byte, is_within_true, maps_permissions}
use Rattle.first_state.specs.Placed.{and_then, placed, with_byte}
use Rattle.first_state.specs.declared.fault.PlaceFault.{PlaceFault}

byte_is_there : (m : Memory) (addr x : ℕ) (allowed : Permissions) → x ≡ addr → can_access_byte Monitor (with_pages m (addr / page_size) 1 allowed) x ≡ true
byte_is_there m addr x allowed e =
    maps_permissions Monitor m (addr / page_size) 1 allowed x
    ∙ ap (λ (b : Bool). cond b true (can_access_byte Monitor m x)) (is_within_true (page_size * (addr / page_size)) (page_size * 1) x (omega (arith, e)) (omega (arith, e)))

-- a byte of a newly mapped page is accessible
pub page_is_there : (m : Memory) (addr page : ℕ) (allowed : Permissions) → page ≡ addr / page_size → can_access Monitor (with_pages m page 1 allowed) addr 1 ≡ true
page_is_there m addr page allowed e =
    ap (λ (p : ℕ). can_access Monitor (with_pages m p 1 allowed) addr 1) e
    ∙ (allows_each_byte Monitor (with_pages m (addr / page_size) 1 allowed) addr 1).1 (λ k l. byte_is_there m addr (addr + k) allowed (omega (arith, l)))

-- ---- one more byte

-- the bytes from index i on start with the byte at index i
begins_with : (i b : ℕ) (bytes : List ℕ) → i < length bytes → b ≡ get_or bytes i 0 → drop i bytes ≡ b ∷ drop (i + 1) bytes
begins_with i b bytes l is =
    let next : suc i ≡ i + 1 = omega arith in
    drop-cons bytes i 0 l ∙ ap (λ (n : ℕ). get_or bytes i 0 ∷ drop n bytes) next ∙ ap (λ (x : ℕ). x ∷ drop (i + 1) bytes) (sym is)

-- the result after one more byte, placed or refused
pub placed_next : (allowed : Permissions) (at i b : ℕ) (bytes : List ℕ) (m : Memory) (result : Result Memory PlaceFault) → i < length bytes → b ≡ get_or bytes i 0
    → with_byte allowed at b m ≡ result → placed allowed at (drop i bytes) m ≡ and_then (placed allowed (at + 1) (drop (i + 1) bytes)) result
unfolding placed
placed_next allowed at i b bytes m result l is done =
    ap (λ (bs : List ℕ). placed allowed at bs m) (begins_with i b bytes l is) ∙ ap (and_then (placed allowed (at + 1) (drop (i + 1) bytes))) done

-- no bytes remain
pub placed_all : (allowed : Permissions) (at i : ℕ) (bytes : List ℕ) (m : Memory) → length bytes ≤ i → placed allowed at (drop i bytes) m ≡ Ok m
unfolding placed
placed_all allowed at i bytes m l = ap (λ (bs : List ℕ). placed allowed at bs m) (drop_all i bytes l)
