-- Segments moved field by field, each field for all indices ("V" Vector Extension 1.0, section 7.8).
use Rattle.std.specs.Prelude.{ℕ, zero, suc, ◌+◌, ◌*◌, ◌%◌, ◌^◌, Bool, List, replicate, if◌then◌else◌}
use Rattle.std.specs.Simd.Lanes.{chunk, put_chunk}
use Rattle.rv_model.specs.declared.vector.sizes.TheConstants.{VLENB}
use Rattle.rv_model.specs.accesses.VectorAccess.{VectorAccess}
use Rattle.rv_model.specs.elements.Elements.{is_enabled}
use Rattle.rv_model.specs.memory.Memory.{Memory, bytes_at, put_bytes}

-- the first byte of a field of an index in the register file, and its address in memory
abbrev pub field_place : VectorAccess → ℕ → ℕ → ℕ
field_place a field i = VLENB * (a.register + field * a.field_registers) + i * a.size

abbrev pub field_address : VectorAccess → ℕ → ℕ → ℕ
field_address a field i = (a.address i + field * a.size) % 2 ^ 64

-- the register file after a field of an index is loaded, or set to all ones if the index is masked off and `fill` is set
unfoldable pub load_field : Memory → VectorAccess → Bool → ℕ → List ℕ → ℕ → List ℕ
load_field m a fill field file i =
    if is_enabled a.body i then put_chunk (field_place a field i) file (bytes_at m (field_address a field i) a.size)
    else if fill then put_chunk (field_place a field i) file (replicate a.size 255) else file

-- the memory after a field of an index is stored
unfoldable pub store_field : List ℕ → VectorAccess → ℕ → Memory → ℕ → Memory
store_field file a field m i =
    if is_enabled a.body i then put_bytes m (field_address a field i) (chunk (field_place a field i) a.size file) else m

-- the result of the steps for n indices from i on, in order
unfoldable pub for_each : {X : Type 0} → (X → ℕ → X) → X → ℕ → ℕ → X
for_each step x i zero = x
for_each step x i (suc n) = for_each step (step x i) (i + 1) n

-- the result of the steps for the first fields of an index, in order
unfoldable pub each_field : {X : Type 0} → (ℕ → X → ℕ → X) → ℕ → X → ℕ → X
each_field one zero x i = x
each_field one (suc f) x i = one f (each_field one f x i) i
