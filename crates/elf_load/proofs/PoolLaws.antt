-- A user's memory in the pool while an image is loaded
use Rattle.std.proofs.Common.{◌≡◌, ℕ, ◌+◌, ◌-◌, ◌<◌, ◌≤◌, List, length, take, drop, replicate, None, true, false, refl, sym, ◌∙◌, ap, subst, arith}
use Rattle.std.specs.FinMap.{empty}
use Rattle.rv_model.specs.declared.images.ProgramHeader.{ProgramHeader}
use Rattle.rv_model.specs.declared.memory.Permissions.{Permissions}
use Rattle.rv_model.specs.declared.memory.Access.TheVariants.{Monitor}
use Rattle.rv_model.specs.images.Fields.{header_count, program_header}
use Rattle.rv_model.specs.images.Faults.{first_fault}
use Rattle.rv_model.specs.memory.Memory.{Memory, can_access, put_bytes, with_pages, page_count, map_refusal}
use Rattle.rv_model.specs.images.Image.{placed_headers, is_touched, permissions_of, all_pages, memory_of_image, image_byte}
use Rattle.rv_model.specs.memory.Sizes.{page_quota, page_limit}
use Rattle.user_mem.specs.Users.{memory_of_user, with_memory}
use Rattle.elf_load.specs.Pages.{IsFirst, EndsInMemory, first_placed}
use Rattle.elf_load.specs.Placing.{blank_memory, memory_after}
use Rattle.elf_load.proofs.PageLaws.{header_ends}
use Rattle.rv_model.proofs.image_lemmas.Cells.{all_pages_is_page_limit}
use Rattle.elf_load.proofs.PlacingLaws.{blank_none, blank_same, blank_more, blank_accepted, memory_after_none, memory_after_all}
use Rattle.elf_load.proofs.SegmentLaws.{file_size_fits, file_part_there, may_write, may_write_part, memory_after_other, segment_written}
use Rattle.user_mem.proofs.UserLaws.{later_memory, same_memory}
use Rattle.elf_load.proofs.UserLaws.{memory_of_user-after, with_memory-after}

-- ---- the image's pages

pub mapped_none : (memories : List Memory) (user : ℕ) (image : List ℕ) → memory_of_user memories user ≡ empty → memories ≡ with_memory memories user (blank_memory image 0)
mapped_none memories user image free = sym (ap (with_memory memories user) (sym (free ∙ blank_none image)) ∙ same_memory memories user)

pub map_accepted : (memories pool : List Memory) (user : ℕ) (image : List ℕ) (from page : ℕ) → user - 1 < length memories → pool ≡ with_memory memories user (blank_memory image from)
    → page < page_limit → IsFirst (is_touched (placed_headers image)) from page → page_count (memory_of_image image) ≤ page_quota → map_refusal (memory_of_user pool user) page 1 ≡ None
map_accepted memories pool user image from page l before low first few =
    ap (λ (m : Memory). map_refusal m page 1) (memory_of_user-after memories pool user (blank_memory image from) l before)
    ∙ blank_accepted image from page (omega (arith, all_pages_is_page_limit)) first few

pub mapped_more : (memories pool new : List Memory) (user : ℕ) (image : List ℕ) (from page : ℕ) (permissions : Permissions) → user - 1 < length memories → pool ≡ with_memory memories user (blank_memory image from)
    → page < page_limit → IsFirst (is_touched (placed_headers image)) from page → permissions ≡ permissions_of (placed_headers image) page
    → new ≡ with_memory pool user (with_pages (memory_of_user pool user) page 1 permissions) → new ≡ with_memory memories user (blank_memory image (page + 1))
mapped_more memories pool new user image from page permissions l before low first e after =
    with_memory-after memories pool new user (blank_memory image from) (with_pages (memory_of_user pool user) page 1 permissions) (blank_memory image (page + 1)) l before after
    (ap (λ (m : Memory). with_pages m page 1 permissions) (memory_of_user-after memories pool user (blank_memory image from) l before)
    ∙ ap (with_pages (blank_memory image from) page 1) e ∙ blank_more image from page (omega (arith, all_pages_is_page_limit)) first)

pub mapped_all : (memories pool : List Memory) (user : ℕ) (image : List ℕ) (from : ℕ) → pool ≡ with_memory memories user (blank_memory image from) → from ≤ page_limit
    → ((q : ℕ) → from ≤ q → is_touched (placed_headers image) q ≡ false) → pool ≡ with_memory memories user (blank_memory image all_pages)
mapped_all memories pool user image from before low none = before ∙ ap (with_memory memories user) (blank_same image from all_pages (omega (arith, all_pages_is_page_limit)) (omega arith) (λ q m k. none q m))

-- ---- one segment

-- properties of a loadable segment in an image without a fault
pub record IsSegment (image : List ℕ) (number : ℕ) (header : ProgramHeader) : Type 0 where
  pub fits : header.file_size ≤ header.memory_size
  pub ends : EndsInMemory header
  pub lies_in_file : (header.file_size ≡ 0 → ⊥) → header.offset + header.file_size ≤ length image
  pub may_write : (n : ℕ) → n ≤ header.memory_size → can_access Monitor (memory_after image number) header.address n ≡ true
  pub placed : (bs : List ℕ) → bs ≡ take header.file_size (drop header.offset image) → length bs ≡ header.file_size
      → put_bytes (put_bytes (memory_after image number) header.address bs) (header.address + header.file_size) (replicate (header.memory_size - header.file_size) 0) ≡ memory_after image (number + 1)

pub segment : (image : List ℕ) (number : ℕ) (header : ProgramHeader) → header ≡ program_header image number → first_fault image ≡ None → number < header_count image → header.kind ≡ 1 → IsSegment image number header
unfolding memory_after
segment image number header e sound l = subst (λ (h : ProgramHeader). h.kind ≡ 1 → IsSegment image number h) (sym e) (λ kind.
    let fits = file_size_fits image number sound l kind in
    record {
      fits = fits;
      ends = header_ends image number sound l;
      lies_in_file = file_part_there image number sound l kind;
      may_write = λ n few. may_write image (image_byte image (first_placed image number)) number (program_header image number).address n sound l kind (omega arith) (omega arith);
      placed = λ bs part size. segment_written image number ((program_header image number).address + (program_header image number).file_size)
          ((program_header image number).memory_size - (program_header image number).file_size) bs kind fits part size refl (omega arith);
    })

pub may_write_file_part : (memories : List Memory) (user : ℕ) (image : List ℕ) (number : ℕ) (header : ProgramHeader) (bs : List ℕ) → memory_of_user memories user ≡ memory_after image number
    → IsSegment image number header → length bs ≡ header.file_size → can_access Monitor (memory_of_user memories user) header.address (length bs) ≡ true
may_write_file_part memories user image number header bs before it size =
    ap (λ (m : Memory). can_access Monitor m header.address (length bs)) before ∙ it.may_write (length bs) (omega (arith, size, it.fits))

-- the memory after writing the segment's bytes from the file
part_written : (memories pool : List Memory) (user : ℕ) (image : List ℕ) (number : ℕ) (header : ProgramHeader) (bs : List ℕ) → user - 1 < length memories → memory_of_user memories user ≡ memory_after image number
    → pool ≡ with_memory memories user (put_bytes (memory_of_user memories user) header.address bs) → memory_of_user pool user ≡ put_bytes (memory_after image number) header.address bs
part_written memories pool user image number header bs known before after =
    memory_of_user-after memories pool user (put_bytes (memory_of_user memories user) header.address bs) known after ∙ ap (λ (m : Memory). put_bytes m header.address bs) before

pub may_clear_rest : (memories pool : List Memory) (user : ℕ) (image : List ℕ) (number : ℕ) (header : ProgramHeader) (bs : List ℕ) → user - 1 < length memories → memory_of_user memories user ≡ memory_after image number
    → IsSegment image number header → pool ≡ with_memory memories user (put_bytes (memory_of_user memories user) header.address bs)
    → can_access Monitor (memory_of_user pool user) (header.address + header.file_size) (header.memory_size - header.file_size) ≡ true
may_clear_rest memories pool user image number header bs known before it after =
    ap (λ (m : Memory). can_access Monitor m (header.address + header.file_size) (header.memory_size - header.file_size)) (part_written memories pool user image number header bs known before after)
    ∙ may_write_part Monitor (memory_after image number) header.address header.memory_size header.file_size (header.memory_size - header.file_size) bs
    (it.may_write header.memory_size (omega arith)) (omega (arith, it.fits))

pub segment_done : (memories pool new : List Memory) (user : ℕ) (image : List ℕ) (number : ℕ) (header : ProgramHeader) (bs : List ℕ) → user - 1 < length memories → memory_of_user memories user ≡ memory_after image number
    → IsSegment image number header → bs ≡ take header.file_size (drop header.offset image) → length bs ≡ header.file_size
    → pool ≡ with_memory memories user (put_bytes (memory_of_user memories user) header.address bs)
    → new ≡ with_memory pool user (put_bytes (memory_of_user pool user) (header.address + header.file_size) (replicate (header.memory_size - header.file_size) 0))
    → new ≡ with_memory memories user (memory_after image (number + 1))
segment_done memories pool new user image number header bs known before it part size first second =
    with_memory-after memories pool new user (put_bytes (memory_of_user memories user) header.address bs) _ (memory_after image (number + 1)) known first second
    (ap (λ (m : Memory). put_bytes m (header.address + header.file_size) (replicate (header.memory_size - header.file_size) 0)) (part_written memories pool user image number header bs known before first)
    ∙ it.placed bs part size)

pub segment_other : (memories : List Memory) (user : ℕ) (image : List ℕ) (number : ℕ) (header : ProgramHeader) → memory_of_user memories user ≡ memory_after image number
    → header ≡ program_header image number → (header.kind ≡ 1 → ⊥) → memories ≡ with_memory memories user (memory_after image (number + 1))
segment_other memories user image number header before e other =
    sym (ap (with_memory memories user) (sym (before ∙ memory_after_other image number (subst (λ (h : ProgramHeader). h.kind ≡ 1 → ⊥) e other))) ∙ same_memory memories user)

-- ---- all segments

pub segments_none : (memories : List Memory) (user : ℕ) (image : List ℕ) → memory_of_user memories user ≡ blank_memory image all_pages → memories ≡ with_memory memories user (memory_after image 0)
segments_none memories user image blank = sym (ap (with_memory memories user) (sym (blank ∙ memory_after_none image)) ∙ same_memory memories user)

pub segments_all : (memories pool : List Memory) (user : ℕ) (image : List ℕ) (number : ℕ) → number ≡ header_count image → pool ≡ with_memory memories user (memory_after image number) → pool ≡ with_memory memories user (memory_of_image image)
segments_all memories pool user image number all done = done ∙ ap (with_memory memories user) (memory_after_all image number all)

pub replaced_thrice : (memories free blank new : List Memory) (user : ℕ) (m n k : Memory) → free ≡ with_memory memories user m → blank ≡ with_memory free user n → new ≡ with_memory blank user k → new ≡ with_memory memories user k
replaced_thrice memories free blank new user m n k a b c =
    c ∙ ap (λ (ms : List Memory). with_memory ms user k) b ∙ later_memory free user n k ∙ ap (λ (ms : List Memory). with_memory ms user k) a ∙ later_memory memories user m k
