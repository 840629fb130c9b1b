-- Outcomes of commands on memory, by the results of their tests.
use Rattle.std.proofs.Common.{◌≡◌, ℕ, List, length, ap, Bool, true, false, Option, Some, None}
use Rattle.std.specs.Prelude.{if◌then◌else◌, codes}
use Rattle.rv_model.specs.declared.commands.refusal.Refusal.TheVariants as refusal
use Rattle.rv_model.specs.declared.memory.Access.TheVariants.{Monitor}
use Rattle.rv_model.specs.declared.memory.MapRefusal.{MapRefusal}
use Rattle.rv_model.specs.declared.memory.Permissions.{Permissions}
use Rattle.rv_model.specs.commands.Arguments.{Pages}
use Rattle.rv_model.specs.commands.Memory.{why_not_mapped, mapping, maps, pokes, peek_line, peeks}
use Rattle.rv_model.specs.declared.vector.state.VState.{VState}
use Rattle.rv_model.specs.machine.UserMachine.{Outcome, refuses, replies}
use Rattle.rv_model.specs.memory.Memory.{Memory, bytes_at, can_access, put_bytes, map_refusal, with_pages}
use Rattle.monitor_machine.specs.declared.context.Context.{Context}
use Rattle.monitor_machine.specs.Parts.{Addresses, present}

-- an outcome that depends on an access to mapped pages
pub allowed : (o p : Outcome) (b : Bool) → b ≡ true → (if b then o else p) ≡ o
allowed o p b h = ap (λ (x : Bool). if x then o else p) h

pub not_allowed : (o p : Outcome) (b : Bool) → b ≡ false → (if b then o else p) ≡ p
not_allowed o p b h = ap (λ (x : Bool). if x then o else p) h

pub maps_accepted : (c : Context) (t : Addresses) (v : VState) (m : Memory) (pages : Pages) (p : Permissions) → map_refusal m pages.first pages.count ≡ None
    → maps pages p (present c t v m) ≡ replies (present c t v (with_pages m pages.first pages.count p)) (codes "ok")
maps_accepted c t v m pages p h = ap (λ (r : Option MapRefusal). mapping r pages p (present c t v m)) h

pub maps_refused : (c : Context) (t : Addresses) (v : VState) (m : Memory) (pages : Pages) (p : Permissions) (r : MapRefusal) → map_refusal m pages.first pages.count ≡ Some r
    → maps pages p (present c t v m) ≡ refuses (Some (present c t v m)) (why_not_mapped r)
maps_refused c t v m pages p r h = ap (λ (r : Option MapRefusal). mapping r pages p (present c t v m)) h

pub pokes_accepted : (c : Context) (t : Addresses) (v : VState) (m : Memory) (addr : ℕ) (bytes : List ℕ) → can_access Monitor m addr (length bytes) ≡ true
    → pokes addr bytes (present c t v m) ≡ replies (present c t v (put_bytes m addr bytes)) (codes "ok")
pokes_accepted c t v m addr bytes h =
    allowed (replies (present c t v (put_bytes m addr bytes)) (codes "ok")) (refuses (Some (present c t v m)) refusal.NotMapped) (can_access Monitor m addr (length bytes)) h

pub pokes_refused : (c : Context) (t : Addresses) (v : VState) (m : Memory) (addr : ℕ) (bytes : List ℕ) → can_access Monitor m addr (length bytes) ≡ false
    → pokes addr bytes (present c t v m) ≡ refuses (Some (present c t v m)) refusal.NotMapped
pokes_refused c t v m addr bytes h =
    not_allowed (replies (present c t v (put_bytes m addr bytes)) (codes "ok")) (refuses (Some (present c t v m)) refusal.NotMapped) (can_access Monitor m addr (length bytes)) h

pub peeks_accepted : (c : Context) (t : Addresses) (v : VState) (m : Memory) (addr count : ℕ) → can_access Monitor m addr count ≡ true
    → peeks addr count (present c t v m) ≡ replies (present c t v m) (peek_line addr (bytes_at m addr count))
peeks_accepted c t v m addr count h =
    allowed (replies (present c t v m) (peek_line addr (bytes_at m addr count))) (refuses (Some (present c t v m)) refusal.NotMapped) (can_access Monitor m addr count) h

pub peeks_refused : (c : Context) (t : Addresses) (v : VState) (m : Memory) (addr count : ℕ) → can_access Monitor m addr count ≡ false
    → peeks addr count (present c t v m) ≡ refuses (Some (present c t v m)) refusal.NotMapped
peeks_refused c t v m addr count h =
    not_allowed (replies (present c t v m) (peek_line addr (bytes_at m addr count))) (refuses (Some (present c t v m)) refusal.NotMapped) (can_access Monitor m addr count) h
