-- Bytes of the frames after a part of them is replaced, and the bytes that a page lends.
use Rattle.std.proofs.Common.{◌≡◌, ℕ, ◌+◌, ◌-◌, ◌<◌, ◌≤◌, ◌⊎◌, List, drop, get_or, length, take, sym, ap, ◌∙◌, inl, inr}
use Rattle.std.specs.Simd.Lanes.{put_chunk}
use Rattle.std.proofs.lemmas.Simd.{get_or-put_chunk_above, get_or-put_chunk_at, get_or-put_chunk_below, put_chunk_is}
use borrow.Rule.Slice.PartMut.{put_mid}
use Rattle.lent_bytes.specs.Lent.{IsLent}
use Rattle.rv_model.specs.declared.memory.Access.{Access}
use Rattle.rv_model.specs.memory.Memory.{bytes_at, can_access}
use Rattle.user_mem.specs.declared.entry.Entry.{Entry}
use Rattle.user_mem.specs.Table.{memory_of}
use Rattle.user_mem.specs.Translations.{LiesAt}
use Rattle.user_mem.proofs.RunLaws.{page_read, part_at, part_length}
use Rattle.user_mem.proofs.TranslationLaws.{lies_accessed, lies_allowed, lies_from}

module _ (frames bytes : List ℕ) (at n : ℕ) (long : n ≡ length bytes) (room : at + length bytes ≤ length frames) where
  replaced : put_mid at n frames bytes ≡ put_chunk at frames bytes
  replaced = ap (λ k. put_mid at k frames bytes) long ∙ sym (put_chunk_is at frames bytes room)

  pub pasted : (k : ℕ) → k < length bytes → get_or (put_mid at n frames bytes) (at + k) 0 ≡ get_or bytes k 0
  pasted k less = ap (λ xs. get_or xs (at + k) 0) replaced ∙ get_or-put_chunk_at at frames bytes k 0 less room

  pub kept : (i : ℕ) → ((i < at) ⊎ (at + length bytes ≤ i)) → get_or (put_mid at n frames bytes) i 0 ≡ get_or frames i 0
  kept i (inl low) = ap (λ xs. get_or xs i 0) replaced ∙ get_or-put_chunk_below at frames bytes i 0 low
  kept i (inr high) = ap (λ xs. get_or xs i 0) replaced ∙ get_or-put_chunk_above at frames bytes i 0 high

-- the bytes of a page are those of the memory
pub page_lent : (es : List Entry) (access : Access) (a at : ℕ) (frames : List ℕ) → LiesAt es access a 4096 at → at + 4096 ≤ length frames
    → IsLent access (memory_of frames es) a (take ((at + 4096) - at) (drop at frames))
page_lent es access a at frames lies within =
    let long = part_length frames at 4096 within in
    record {
      allowed = ap (can_access access (memory_of frames es) a) long ∙ lies_accessed es access a 4096 at lies frames;
      value =
          page_read access frames es a at 4096 (take ((at + 4096) - at) (drop at frames)) lies.one_page (lies_allowed es access a 4096 at lies frames) (lies_from es access a 4096 at lies)
          long (part_at frames at 4096) ∙ ap (bytes_at (memory_of frames es) a) (sym long);
    }
