-- Registers of one file written over another file. If the files differ only in some registers, writing these gives the whole new file.
use Rattle.std.proofs.Common.{◌≡◌, ◌∙◌, ◌⊎◌, inl, inr, ap, refl, sym, ℕ, zero, suc, ◌+◌, ◌-◌, ◌*◌, ◌<◌, ◌≤◌, List, [], ◌∷◌, max, min, length, get_or, arith}
use Rattle.std.specs.List.{range_with_len}
use Rattle.std.specs.Simd.Lanes.{chunk, put_chunk}
use Rattle.std.proofs.lemmas.Bool.{cases_lt}
use Rattle.std.proofs.lemmas.Grind.{same_number_lists}
use Rattle.std.proofs.lemmas.List.{get_or_past}
use Rattle.std.proofs.lemmas.Simd.{get_or-chunk, get_or-put_chunk_above, get_or-put_chunk_at, get_or-put_chunk_below, length-chunk, length-put_chunk}
use Rattle.rv_model.specs.vector.Groups.{register_of, with_register_bytes}
use Rattle.vector_memory.proofs.BlockMoves.{put_same}
use Rattle.commit_log.specs.Lines.{printed_vectors}
use Rattle.commit_log.specs.Targets.{registers_from}
use Rattle.commit_log.specs.Printed.{with_vectors}

-- ---- registers written over another file

-- registers written over the file that they come from
pub same : (file rs : List ℕ) → with_vectors (printed_vectors file rs) file ≡ file
unfolding with_register_bytes register_of
same file [] = refl
same file (r ∷ rs) = ap (with_vectors (printed_vectors file rs)) (put_same (32 * r) 32 file) ∙ same file rs

-- registers written over a file that is equal to the new one
pub unchanged : (file new rs : List ℕ) → new ≡ file → with_vectors (printed_vectors new rs) file ≡ new
unchanged file new rs is = ap (λ (f : List ℕ). with_vectors (printed_vectors f rs) file) is ∙ (same file rs ∙ sym is)

-- bytes that differ only from index `low` up to index `high`
record Differs (low high : ℕ) (old new : List ℕ) : Type 0 where
  size : length new ≡ length old
  others : (k : ℕ) → (k < low) ⊎ (high ≤ k) → get_or new k 0 ≡ get_or old k 0

-- the first register has been written
first_printed : (r n : ℕ) (old new : List ℕ) → length new ≡ 1024 → r < 32 → Differs (32 * r) (32 * (r + suc n)) old new
    → Differs (32 * (r + 1)) (32 * (r + 1 + n)) (put_chunk (32 * r) old (chunk (32 * r) 32 new)) new
first_printed r n old new long inside d =
    let bytes : List ℕ = chunk (32 * r) 32 new in
    let size : length bytes ≡ 32 = length-chunk (32 * r) 32 new (omega (arith, long, inside)) in
    let old_long : length old ≡ 1024 = sym d.size ∙ long in
    record {
      size = d.size ∙ sym (length-put_chunk (32 * r) old bytes);
      others = λ k out. elim (cases_lt k (32 * r)) [
        | inl below ↦ d.others k (inl below) ∙ sym (get_or-put_chunk_below (32 * r) old bytes k 0 below)
        | inr from ↦ elim (cases_lt k (32 * r + 32)) [
          | inl before ↦
              let j : ℕ = k - 32 * r in
              let at : k ≡ 32 * r + j = omega (arith, from) in
              let small : j < 32 = omega (arith, from, before) in
              let put : get_or (put_chunk (32 * r) old bytes) (32 * r + j) 0 ≡ get_or bytes j 0 =
              get_or-put_chunk_at (32 * r) old bytes j 0 (omega (arith, small, size)) (omega (arith, size, old_long, inside)) in
              ap (λ (m : ℕ). get_or new m 0) at ∙ sym (get_or-chunk (32 * r) 32 new j 0 small) ∙ sym put
              ∙ sym (ap (λ (m : ℕ). get_or (put_chunk (32 * r) old bytes) m 0) at)
          | inr past ↦ elim out [
            | inl early ↦ absurd (omega (arith, early, past))
            | inr late ↦ d.others k (inr (omega (arith, late))) ∙ sym (get_or-put_chunk_above (32 * r) old bytes k 0 (omega (arith, size, past)))
          ]
        ]
      ];
    }

printed_over : (n r : ℕ) (old new : List ℕ) → length new ≡ 1024 → r + n ≤ max r 32 → Differs (32 * r) (32 * (r + n)) old new
    → with_vectors (printed_vectors new (range_with_len r n)) old ≡ new
unfolding with_register_bytes register_of
printed_over zero r old new long inside d =
    same_number_lists old new (sym d.size) (λ k h. elim (cases_lt k (32 * r)) [
      | inl below ↦ sym (d.others k (inl below))
      | inr from ↦ sym (d.others k (inr (omega (arith, from))))
    ])
printed_over (suc n) r old new long inside d =
    printed_over n (r + 1) (put_chunk (32 * r) old (chunk (32 * r) 32 new)) new long (omega (arith, inside))
    (first_printed r n old new long (omega (arith, inside)) d)

-- bytes that differ only in `count` registers from `vd` on
pub region_printed : (file new : List ℕ) (vd count : ℕ) → length file ≡ 1024 → length new ≡ length file
    → ((k : ℕ) → (k < 32 * vd) ⊎ (32 * (vd + count) ≤ k) → get_or new k 0 ≡ get_or file k 0)
    → with_vectors (printed_vectors new (registers_from vd count)) file ≡ new
region_printed file new vd count long size kept =
    let n : ℕ = min count (32 - vd) in
    printed_over n vd file new (size ∙ long) (omega arith) (record {
      size = size;
      others = λ k out. elim out [
        | inl below ↦ kept k (inl below)
        | inr from ↦ elim (cases_lt k 1024) [
          | inl inside ↦ kept k (inr (omega (arith, from, inside)))
          | inr past ↦ get_or_past new k 0 (omega (arith, past, size, long)) ∙ sym (get_or_past file k 0 (omega (arith, past, long)))
        ]
      ];
    })
