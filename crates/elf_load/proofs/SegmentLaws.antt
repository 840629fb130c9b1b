-- Writing a segment's bytes from the file over those of the segments before it, and the zeros after them
use Rattle.std.proofs.Common.{◌≡◌, ℕ, ◌+◌, ◌-◌, ◌/◌, ◌<◌, ◌≤◌, Bool, true, false, cond, List, length, get_or, take, drop, replicate, None, refl, sym, ◌∙◌, ap, ◌⊎◌, inl, inr, arith}
use Rattle.std.specs.Prelude.{nat_lt}
use Rattle.std.proofs.lemmas.List.{get_or-take, get_or-drop, length-replicate, get_or-replicate, take-replicate, replicate-append-replicate}
use Rattle.std.proofs.lemmas.Bool.{or_right}
use Rattle.rv_model.specs.declared.images.ProgramHeader.{ProgramHeader}
use Rattle.rv_model.specs.declared.memory.Access.{Access}
use Rattle.rv_model.specs.declared.memory.Access.TheVariants.{Monitor}
use Rattle.rv_model.specs.declared.images.ElfFault.TheVariants.{BadFileSize, BadOutside}
use Rattle.rv_model.specs.images.Fields.{header_count, program_header}
use Rattle.rv_model.specs.images.Faults.{first_fault}
use Rattle.rv_model.specs.memory.Memory.{Memory, can_access, put_bytes}
use Rattle.rv_model.specs.images.Image.{stack, placed_headers, covers, touches_page, is_touched, byte_in, all_pages, image_byte}
use Rattle.rv_model.proofs.memory_lemmas.Memory.{can_access_from, can_access-at, is_allowed-put_bytes, put_bytes-append}
use Rattle.rv_model.specs.memory.Sizes.{page_size}
use Rattle.elf_load.specs.Parts.{header_has}
use Rattle.elf_load.specs.Pages.{first_placed}
use Rattle.elf_load.specs.Placing.{memory_with, memory_after}
use Rattle.elf_load.proofs.HeaderLaws.{any_at, none_at}
use Rattle.elf_load.proofs.FaultLaws.{no_bad_header}
use Rattle.elf_load.proofs.PageLaws.{touches_at, header_ends}
use Rattle.rv_model.proofs.image_lemmas.Cells.{all_pages_is_page_limit}
use Rattle.elf_load.proofs.PlacingLaws.{byte_after, put_with, same_bytes, monitor_is_allowed}

-- ---- properties of a segment in an image without a fault

pub file_size_fits : (image : List ℕ) (number : ℕ) → first_fault image ≡ None → number < header_count image → (program_header image number).kind ≡ 1
    → (program_header image number).file_size ≤ (program_header image number).memory_size
unfolding header_has
file_size_fits image number sound l kind = let fits = none_at (header_has (length image) BadFileSize) image number l (no_bad_header image sound).0 in grind (arith, fits, kind)

pub file_part_there : (image : List ℕ) (number : ℕ) → first_fault image ≡ None → number < header_count image → (program_header image number).kind ≡ 1
    → ((program_header image number).file_size ≡ 0 → ⊥) → (program_header image number).offset + (program_header image number).file_size ≤ length image
unfolding header_has
file_part_there image number sound l kind some = let inside = none_at (header_has (length image) BadOutside) image number l (no_bad_header image sound).1 in grind (arith, inside, kind, some)

-- ---- access to a segment's addresses

touched_at : (image : List ℕ) (number x : ℕ) → number < header_count image → (program_header image number).kind ≡ 1 → (program_header image number).address ≤ x
    → x < (program_header image number).address + (program_header image number).memory_size → is_touched (placed_headers image) (x / page_size) ≡ true
unfolding is_touched
touched_at image number x l kind low high =
    or_right (touches_page (x / page_size) stack) _
    (any_at (touches_page (x / page_size)) image number l (touches_at (program_header image number) (x / page_size) kind (omega arith) (omega arith) (omega arith)))

pub may_write : (image : List ℕ) (bytes : ℕ → ℕ) (number a n : ℕ) → first_fault image ≡ None → number < header_count image → (program_header image number).kind ≡ 1
    → (program_header image number).address ≤ a → a + n ≤ (program_header image number).address + (program_header image number).memory_size
    → can_access Monitor (memory_with image bytes all_pages) a n ≡ true
may_write image bytes number a n sound l kind low high =
    can_access_from Monitor (memory_with image bytes all_pages) a n (λ k m.
    monitor_is_allowed image bytes (a + k) (let ends = header_ends image number sound l kind in omega (arith, ends, all_pages_is_page_limit)) (touched_at image number (a + k) l kind (omega arith) (omega arith)))

-- if the access to bytes is allowed, so is the access to a part of them after a write
pub may_write_part : (access : Access) (m : Memory) (a n i k : ℕ) (bs : List ℕ) → can_access access m a n ≡ true → i + k ≤ n → can_access access (put_bytes m a bs) (a + i) k ≡ true
may_write_part access m a n i k bs ok fits =
    can_access_from access (put_bytes m a bs) (a + i) k (λ j l.
    is_allowed-put_bytes access m a bs (a + i + j) ∙ can_access-at access m a n (i + j) (a + i + j) ok (omega arith) (omega arith))

-- writing zeros, then more zeros after them
pub put_zeros_more : (m : Memory) (a done size t limit : ℕ) → size ≤ limit → t ≡ done + size
    → put_bytes (put_bytes m a (replicate done 0)) (a + done) (take size (replicate limit 0)) ≡ put_bytes m a (replicate t 0)
put_zeros_more m a done size t limit l e =
    ap (put_bytes (put_bytes m a (replicate done 0)) (a + done)) (take-replicate size limit 0 l)
    ∙ ap (λ (j : ℕ). put_bytes (put_bytes m a (replicate done 0)) (a + j) (replicate size 0)) (sym (length-replicate done 0))
    ∙ sym (put_bytes-append m a (replicate done 0) (replicate size 0))
    ∙ ap (put_bytes m a) (replicate-append-replicate done size 0 ∙ ap (λ (n : ℕ). replicate n 0) (sym e))

pub put_no_zeros : (m : Memory) (a : ℕ) → m ≡ put_bytes m a (replicate 0 0)
unfolding put_bytes
put_no_zeros m a = refl

-- ---- the bytes of a segment

pub covers_within : (x : ℕ) (header : ProgramHeader) → header.kind ≡ 1 → header.address ≤ x → x < header.address + header.memory_size → covers x header ≡ true
unfolding covers
covers_within x header kind low high = grind (arith, kind, low, high)

covers_outside : (x : ℕ) (header : ProgramHeader) → ((x < header.address) ⊎ (header.address + header.memory_size ≤ x)) → covers x header ≡ false
unfolding covers
covers_outside x header (inl low) = grind (arith, low)
covers_outside x header (inr high) = grind (arith, high)

covers_other : (x : ℕ) (header : ProgramHeader) → (header.kind ≡ 1 → ⊥) → covers x header ≡ false
unfolding covers
covers_other x header other = grind (arith, other)

byte_in_file : (image : List ℕ) (x : ℕ) (header : ProgramHeader) → x - header.address < header.file_size → byte_in image x header ≡ get_or image (header.offset + (x - header.address)) 0
unfolding byte_in
byte_in_file image x header l = grind (arith, l)

byte_past_file : (image : List ℕ) (x : ℕ) (header : ProgramHeader) → header.file_size ≤ x - header.address → byte_in image x header ≡ 0
unfolding byte_in
byte_past_file image x header l = grind (arith, l)

byte_within : (image : List ℕ) (number x : ℕ) → (program_header image number).kind ≡ 1 → (program_header image number).address ≤ x → x < (program_header image number).address + (program_header image number).memory_size
    → image_byte image (first_placed image (number + 1)) x ≡ byte_in image x (program_header image number)
byte_within image number x kind low high =
    byte_after image number x
    ∙ ap (λ (b : Bool). cond b (byte_in image x (program_header image number)) (image_byte image (first_placed image number) x)) (covers_within x (program_header image number) kind low high)

byte_outside : (image : List ℕ) (number x : ℕ) → covers x (program_header image number) ≡ false → image_byte image (first_placed image (number + 1)) x ≡ image_byte image (first_placed image number) x
byte_outside image number x e =
    byte_after image number x
    ∙ ap (λ (b : Bool). cond b (byte_in image x (program_header image number)) (image_byte image (first_placed image number) x)) e

-- a program header that isn't loadable changes nothing
pub memory_after_other : (image : List ℕ) (number : ℕ) → ((program_header image number).kind ≡ 1 → ⊥) → memory_after image number ≡ memory_after image (number + 1)
unfolding memory_after
memory_after_other image number other =
    same_bytes image (image_byte image (first_placed image number)) (image_byte image (first_placed image (number + 1)))
    (λ x. sym (byte_outside image number x (covers_other x (program_header image number) other)))

-- the bytes after writing the segment's bytes from the file, before its zeros
after_file_bytes : List ℕ → ℕ → ℕ → ℕ
after_file_bytes image number x =
    cond (nat_lt x ((program_header image number).address + (program_header image number).file_size))
    (image_byte image (first_placed image (number + 1)) x) (image_byte image (first_placed image number) x)

after_file_bytes_low : (image : List ℕ) (number x : ℕ) → x < (program_header image number).address + (program_header image number).file_size → after_file_bytes image number x ≡ image_byte image (first_placed image (number + 1)) x
unfolding after_file_bytes
after_file_bytes_low image number x l = grind (arith, l)

after_file_bytes_high : (image : List ℕ) (number x : ℕ) → (program_header image number).address + (program_header image number).file_size ≤ x → after_file_bytes image number x ≡ image_byte image (first_placed image number) x
unfolding after_file_bytes
after_file_bytes_high image number x l = grind (arith, l)

get_or-part : (xs : List ℕ) (offset size k : ℕ) → k < size → get_or (take size (drop offset xs)) k 0 ≡ get_or xs (offset + k) 0
get_or-part xs offset size k l = get_or-take size (drop offset xs) k 0 l ∙ get_or-drop offset xs k 0

file_part_written : (image : List ℕ) (number : ℕ) (bs : List ℕ) → (program_header image number).kind ≡ 1 → (program_header image number).file_size ≤ (program_header image number).memory_size
    → bs ≡ take (program_header image number).file_size (drop (program_header image number).offset image) → length bs ≡ (program_header image number).file_size
    → put_bytes (memory_after image number) (program_header image number).address bs ≡ memory_with image (after_file_bytes image number) all_pages
unfolding memory_after
file_part_written image number bs kind fits e size =
    put_with image (image_byte image (first_placed image number)) (after_file_bytes image number) (program_header image number).address bs
    (λ k l. after_file_bytes_low image number ((program_header image number).address + k) (omega arith)
    ∙ byte_within image number ((program_header image number).address + k) kind (omega arith) (omega arith)
    ∙ byte_in_file image ((program_header image number).address + k) (program_header image number) (omega arith)
    ∙ ap (λ (j : ℕ). get_or image j 0) (let place : (program_header image number).offset + (((program_header image number).address + k) - (program_header image number).address) ≡ (program_header image number).offset + k = omega arith in place)
    ∙ sym (ap (λ (xs : List ℕ). get_or xs k 0) e ∙ get_or-part image (program_header image number).offset (program_header image number).file_size k (omega arith)))
    (λ x h. elim h [
      | inl low ↦ after_file_bytes_low image number x (omega arith) ∙ byte_outside image number x (covers_outside x (program_header image number) (inl low))
      | inr high ↦ after_file_bytes_high image number x (omega arith)
    ])

rest_cleared : (image : List ℕ) (number a n : ℕ) → (program_header image number).kind ≡ 1 → a ≡ (program_header image number).address + (program_header image number).file_size
    → a + n ≡ (program_header image number).address + (program_header image number).memory_size
    → put_bytes (memory_with image (after_file_bytes image number) all_pages) a (replicate n 0) ≡ memory_after image (number + 1)
unfolding memory_after
rest_cleared image number a n kind from end =
    put_with image (after_file_bytes image number) (image_byte image (first_placed image (number + 1))) a (replicate n 0)
    (λ k l. let small : k < n = omega (arith, length-replicate {A = ℕ} n 0) in
    byte_within image number (a + k) kind (omega arith) (omega arith) ∙ byte_past_file image (a + k) (program_header image number) (omega arith)
    ∙ sym (get_or-replicate n k 0 0 small))
    (λ x h. let size = length-replicate {A = ℕ} n 0 in elim h [
      | inl low ↦ sym (after_file_bytes_low image number x (omega arith))
      | inr high ↦ byte_outside image number x (covers_outside x (program_header image number) (inr (omega arith))) ∙ sym (after_file_bytes_high image number x (omega arith))
    ])

-- writing the bytes from the file and then the zeros
pub segment_written : (image : List ℕ) (number a n : ℕ) (bs : List ℕ) → (program_header image number).kind ≡ 1 → (program_header image number).file_size ≤ (program_header image number).memory_size
    → bs ≡ take (program_header image number).file_size (drop (program_header image number).offset image) → length bs ≡ (program_header image number).file_size
    → a ≡ (program_header image number).address + (program_header image number).file_size → a + n ≡ (program_header image number).address + (program_header image number).memory_size
    → put_bytes (put_bytes (memory_after image number) (program_header image number).address bs) a (replicate n 0) ≡ memory_after image (number + 1)
segment_written image number a n bs kind fits e size from end =
    ap (λ (m : Memory). put_bytes m a (replicate n 0)) (file_part_written image number bs kind fits e size) ∙ rest_cleared image number a n kind from end
