-- The first of several bytes, read or written.
use Rattle.std.proofs.Common.{◌≡◌, ℕ, zero, suc, ◌+◌, ◌*◌, ◌%◌, ◌^◌, ◌-◌, ◌<◌, ◌≤◌, true, List, refl, sym, ◌∙◌, ap, ap₂, get_or, arith}
use Rattle.std.specs.Int.{Width, w64, byte_len, byte_worth, from_le_bytes, sum_through}
use Rattle.rv_model.specs.declared.instructions.operations.LoadOp.{LoadOp}
use Rattle.rv_model.specs.declared.instructions.operations.LoadOp.TheVariants.{Ld}
use Rattle.rv_model.specs.declared.memory.Access.{Access}
use Rattle.rv_model.specs.memory.Memory.{Memory, can_access, bytes_at}
use Rattle.rv_model.specs.scalar.LoadsAndStores.{load_width, number_at}
use Rattle.rv_model.proofs.memory_lemmas.Memory.{can_access-at, can_access_from, get_or-bytes_at}

-- if n bytes may be accessed, so may fewer
pub can_access-fewer : (access : Access) (m : Memory) (a n k : ℕ) → k ≤ n → can_access access m a n ≡ true → can_access access m a k ≡ true
can_access-fewer access m a n k few all = can_access_from access m a k (λ j less. can_access-at access m a n j (a + j) all (omega arith) refl)

same_sum : (f g : ℕ → ℕ) (k : ℕ) → ((i : ℕ) → i ≤ k → f i ≡ g i) → sum_through f k ≡ sum_through g k
same_sum f g zero h = h 0 (omega arith)
same_sum f g (suc k) h = ap₂ (λ (a b : ℕ). a + b) (same_sum f g k (λ i l. h i (omega arith))) (h (suc k) (omega arith))

-- the number that bytes encode at a width depends only on the first bytes
pub number_of : (w : Width) (bs cs : List ℕ) → ((i : ℕ) → i ≤ byte_len w - 1 → get_or bs i 0 ≡ get_or cs i 0) → from_le_bytes w bs ≡ from_le_bytes w cs
number_of w bs cs h = same_sum (λ i. byte_worth i (get_or bs i 0)) (λ i. byte_worth i (get_or cs i 0)) (byte_len w - 1) (λ i l. ap (byte_worth i) (h i l))

pub load_len-le : (op : LoadOp) → (1 ≤ byte_len (load_width op)) × (byte_len (load_width op) ≤ 8)
load_len-le Ld = (omega arith, omega arith)
load_len-le _ = (omega arith, omega arith)

-- the low bits of the number of eight bytes are the number of the first bytes
pub low_number : (op : LoadOp) (bs : List ℕ) → ((i : ℕ) → get_or bs i 0 < 256) → from_le_bytes w64 bs % 2 ^ (8 * byte_len (load_width op)) ≡ from_le_bytes (load_width op) bs
low_number Ld bs below = omega (arith, below 0, below 1, below 2, below 3, below 4, below 5, below 6, below 7)
low_number _ bs below = omega (arith, below 0, below 1, below 2, below 3, below 4, below 5, below 6, below 7)

-- the bytes that a load reads are the first of the eight bytes at its address
pub load_reads : (op : LoadOp) (m : Memory) (a : ℕ) (bs : List ℕ) → bs ≡ bytes_at m a 8 → from_le_bytes (load_width op) bs ≡ number_at (load_width op) m a
load_reads op m a bs same =
    let few = load_len-le op in
    number_of (load_width op) bs (bytes_at m a (byte_len (load_width op))) (λ i l.
    ap (λ (xs : List ℕ). get_or xs i 0) same ∙ get_or-bytes_at m a 8 i (a + i) (omega (arith, few.0, few.1)) refl
    ∙ sym (get_or-bytes_at m a (byte_len (load_width op)) i (a + i) (omega (arith, few.0)) refl))
