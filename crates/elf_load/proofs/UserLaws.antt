-- Consecutive replacements of one user's memory
use Rattle.std.proofs.Common.{◌≡◌, ℕ, ◌+◌, ◌-◌, ◌<◌, ◌≤◌, List, length, take, replicate, true, refl, sym, ◌∙◌, ap, arith}
use Rattle.std.proofs.lemmas.List.{length-take-le, length-replicate}
use Rattle.rv_model.specs.declared.memory.Access.TheVariants.{Monitor}
use Rattle.rv_model.specs.memory.Memory.{Memory, can_access, put_bytes}
use Rattle.user_mem.specs.Users.{memory_of_user, with_memory}
use Rattle.user_mem.proofs.UserLaws.{later_memory, memory_there, same_memory}
use Rattle.elf_load.proofs.SegmentLaws.{put_zeros_more, put_no_zeros, may_write_part}

-- the user's memory in a pool after replacing it
pub memory_of_user-after : (memories pool : List Memory) (user : ℕ) (m : Memory) → user - 1 < length memories → pool ≡ with_memory memories user m → memory_of_user pool user ≡ m
memory_of_user-after memories pool user m l e = ap (λ (ms : List Memory). memory_of_user ms user) e ∙ memory_there memories user m l

-- two consecutive replacements
pub with_memory-after : (memories pool new : List Memory) (user : ℕ) (m n k : Memory) → user - 1 < length memories → pool ≡ with_memory memories user m → new ≡ with_memory pool user n → n ≡ k → new ≡ with_memory memories user k
with_memory-after memories pool new user m n k l before after same =
    after ∙ ap (λ (ms : List Memory). with_memory ms user n) before ∙ later_memory memories user m n ∙ ap (with_memory memories user) same

-- ---- zeros

pub clear_none : (memories : List Memory) (user a : ℕ) → memories ≡ with_memory memories user (put_bytes (memory_of_user memories user) a (replicate 0 0))
clear_none memories user a = sym (ap (with_memory memories user) (sym (put_no_zeros (memory_of_user memories user) a)) ∙ same_memory memories user)

pub clear_more : (memories pool new : List Memory) (user a done size limit : ℕ) → user - 1 < length memories → size ≤ limit
    → pool ≡ with_memory memories user (put_bytes (memory_of_user memories user) a (replicate done 0))
    → new ≡ with_memory pool user (put_bytes (memory_of_user pool user) (a + done) (take size (replicate limit 0)))
    → new ≡ with_memory memories user (put_bytes (memory_of_user memories user) a (replicate (done + size) 0))
clear_more memories pool new user a done size limit l fits before after =
    with_memory-after memories pool new user (put_bytes (memory_of_user memories user) a (replicate done 0)) (put_bytes (memory_of_user pool user) (a + done) (take size (replicate limit 0))) _ l before after
    (ap (λ (m : Memory). put_bytes m (a + done) (take size (replicate limit 0))) (memory_of_user-after memories pool user (put_bytes (memory_of_user memories user) a (replicate done 0)) l before)
    ∙ put_zeros_more (memory_of_user memories user) a done size (done + size) limit fits refl)

pub may_clear : (memories pool : List Memory) (user a done size limit count : ℕ) → user - 1 < length memories → size ≤ limit → done + size ≤ count
    → pool ≡ with_memory memories user (put_bytes (memory_of_user memories user) a (replicate done 0)) → can_access Monitor (memory_of_user memories user) a count ≡ true
    → can_access Monitor (memory_of_user pool user) (a + done) (length {A = ℕ} (take size (replicate limit 0))) ≡ true
may_clear memories pool user a done size limit count l fits within before ok =
    ap (λ (m : Memory). can_access Monitor m (a + done) (length {A = ℕ} (take size (replicate limit 0)))) (memory_of_user-after memories pool user (put_bytes (memory_of_user memories user) a (replicate done 0)) l before)
    ∙ ap (can_access Monitor (put_bytes (memory_of_user memories user) a (replicate done 0)) (a + done)) (length-take-le size (replicate limit 0) (omega (arith, length-replicate {A = ℕ} limit 0)))
    ∙ may_write_part Monitor (memory_of_user memories user) a count done size (replicate done 0) ok within
