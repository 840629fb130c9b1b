-- Laws for the per-user adapters of bytes and vector state: laws of the memories of all users, and of the shared vector unit.
use Rattle.std.specs.Prelude.{ℕ, suc, ◌+◌, ◌-◌, ◌≡◌, Bool, true, false, ◌&&◌, List, [], ◌∷◌, length, Option}
use Rattle.std.specs.FinMap.{empty, get-empty}
use Rattle.std.specs.List.{list_all, range_with_len}
use Rattle.std.specs.Option.{option_map_or}
use Rattle.std.specs.Ordering.{nat_cmp}
use Rattle.std.proofs.Common.{◌∙◌, sym, ap, inl, inr}
use Rattle.std.proofs.Math.ListN.{get_or-eq_default}
use Rattle.std.proofs.lemmas.Bool.{cases_lt}
use Rattle.rv_model.specs.declared.memory.Access.{Access}
use Rattle.rv_model.specs.memory.Memory.{Memory, Cell, permits, can_access, put_bytes, can_access_byte}
use Rattle.user_mem.specs.Users.{memory_of_user, with_memory}
pub use Rattle.lazy_context.proofs.UnitLaws.{settled_again, touched_again}
pub use Rattle.user_mem.proofs.UserLaws.{later_memory, memory_there, same_memory}

nothing_allowed : (access : Access) (addr : ℕ) → can_access_byte access empty addr ≡ false
unfolding can_access_byte
nothing_allowed access addr = ap (λ (o : Option Cell). option_map_or (λ c. permits access c.permissions) o false) (get-empty nat_cmp addr)

no_access : (access : Access) (addr n : ℕ) → can_access access empty addr (suc n) ≡ false
unfolding can_access
no_access access addr n = ap (λ (b : Bool). b && list_all (can_access_byte access empty) (range_with_len (addr + 1) n)) (nothing_allowed access addr)

outside : (memories : List Memory) (user addr : ℕ) (access : Access) (bytes : List ℕ) → memory_of_user memories user ≡ empty → can_access access (memory_of_user memories user) addr (length bytes) ≡ true → memory_of_user (with_memory memories user (put_bytes (memory_of_user memories user) addr bytes)) user ≡ put_bytes (memory_of_user memories user) addr bytes
unfolding put_bytes
outside memories user addr access [] none allowed = ap (λ (ms : List Memory). memory_of_user ms user) (same_memory memories user)
outside memories user addr access (b ∷ bs) none allowed =
    let never = no_access access addr (length bs) in
    let some : can_access access empty addr (suc (length bs)) ≡ true = sym (ap (λ (m : Memory). can_access access m addr (suc (length bs))) none) ∙ allowed in
    absurd (cc (never, some))

-- a user's memory after an allowed write
pub memory_written : (memories : List Memory) (user addr : ℕ) (access : Access) (bytes : List ℕ) → can_access access (memory_of_user memories user) addr (length bytes) ≡ true → memory_of_user (with_memory memories user (put_bytes (memory_of_user memories user) addr bytes)) user ≡ put_bytes (memory_of_user memories user) addr bytes
memory_written memories user addr access bytes allowed = elim (cases_lt (user - 1) (length memories)) [
  | inl within ↦ memory_there memories user (put_bytes (memory_of_user memories user) addr bytes) within
  | inr past ↦ outside memories user addr access bytes (get_or-eq_default memories empty past) allowed
]
