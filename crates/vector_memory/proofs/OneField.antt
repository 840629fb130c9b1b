-- The transfers of a segment with one field are those of the field.
use Rattle.std.proofs.Common.{◌≡◌, ℕ, ◌+◌, ◌*◌, ◌<◌, ◌%◌, ◌^◌, ◌↔◌, true, false, List, refl, sym, ap, ◌∙◌, arith}
use Rattle.std.specs.Prelude.{Result, Ok, Err, IsOk, IfErr}
use Rattle.std.specs.Simd.Lanes.{chunk, put_chunk}
use Rattle.std.proofs.lemmas.Bool.{false_from_ne_true, false≢true}
use Rattle.rv_model.specs.accesses.Transfers.{Transfer, are_allowed, bad_address, registers_loaded, memory_stored}
use Rattle.rv_model.specs.accesses.VectorAccess.{moved_segment}
use Rattle.rv_model.specs.declared.memory.Access.{Access}
use Rattle.rv_model.specs.memory.Memory.{Memory, bytes_at, can_access, put_bytes}
use Rattle.rv_model.proofs.access_lemmas.Segments.{allowed_field, allowed_more, bad_found, field_transfer, loaded_field, loaded_start, stored_field, stored_start}

module _ (m : Memory) (i address size : ℕ) (low : address < 2 ^ 64) where
  same : (address + 0 * size) % 2 ^ 64 ≡ address
  same = omega (arith, low)

  none_allowed : (access : Access) → are_allowed access m (moved_segment i address size 0) ≡ true
  unfolding are_allowed
  none_allowed access = refl

  pub one_allowed : {P : Type 0} (access : Access) → P ↔ (can_access access m address size ≡ true)
      → P ↔ (are_allowed access m (moved_segment i address size 1) ≡ true)
  one_allowed access p =
      let at : can_access access m ((address + 0 * size) % 2 ^ 64) size ≡ can_access access m address size = ap (λ a. can_access access m a size) same in (
        λ t. allowed_more access m i address size 0 (none_allowed access) (at ∙ p.0 t),
        λ t. p.1 (sym at ∙ allowed_field access m i address size 0 1 (omega arith) t),
      )

  pub one_fault : {T E : Type 0} (access : Access) (at : E → ℕ) (r : Result T E) → IsOk r ↔ (can_access access m address size ≡ true)
      → IfErr r (λ fault. at fault ≡ address) → IfErr r (λ fault. at fault ≡ bad_address access m (moved_segment i address size 1))
  one_fault access at (Ok x) p e = e
  one_fault access at (Err y) p e =
      let here : can_access access m ((address + 0 * size) % 2 ^ 64) size ≡ false =
      ap (λ a. can_access access m a size) same ∙ false_from_ne_true (can_access access m address size) (λ t. false≢true (p.1 t)) in
      e ∙ sym (bad_found access m i address size 0 1 (omega arith) (none_allowed access) here ∙ same)

  pub one_loaded : (place : Transfer → ℕ) (file : List ℕ) (at : ℕ) → at ≡ place (field_transfer i address size 0)
      → put_chunk at file (bytes_at m address size) ≡ registers_loaded m place file (moved_segment i address size 1)
  one_loaded place file at e = cc (e, same, loaded_start m place file i address size, loaded_field m place file i address size 0)

  pub one_stored : (place : Transfer → ℕ) (file : List ℕ) (at : ℕ) → at ≡ place (field_transfer i address size 0)
      → put_bytes m address (chunk at size file) ≡ memory_stored m place file (moved_segment i address size 1)
  one_stored place file at e = cc (e, same, stored_start m place file i address size, stored_field m place file i address size 0)
