-- Loops over the program headers
use Rattle.std.proofs.Common.{◌≡◌, ℕ, zero, suc, ◌+◌, ◌<◌, Bool, true, false, List, [], ◌∷◌, ◌++◌, ◌||◌, map, refl, sym, ◌∙◌, ap, arith}
use Rattle.std.specs.List.{list_any, range_with_len}
use Rattle.std.proofs.lemmas.List.Folds.{list_any-append, list_any_at}
use Rattle.std.proofs.lemmas.List.FromFn.{length-map-range_with_len, get_or-map-range_with_len, map-range_with_len_more}
use Rattle.std.proofs.Math.Bool.{or-false}
use Rattle.std.proofs.lemmas.Bool.{false_from_ne_true, true≢false}
use Rattle.rv_model.specs.declared.images.ProgramHeader.{ProgramHeader}
use Rattle.rv_model.specs.images.Fields.{header_count, program_header, program_headers}
use Rattle.elf_load.specs.Headers.{first_headers}

pub first_headers_more : (image : List ℕ) (number : ℕ) → first_headers image (number + 1) ≡ first_headers image number ++ program_header image number ∷ []
unfolding first_headers
first_headers_more image number = map-range_with_len_more (program_header image) 0 number number (omega arith)

pub first_headers_all : (image : List ℕ) (number : ℕ) → number ≡ header_count image → first_headers image number ≡ program_headers image
unfolding first_headers program_headers
first_headers_all image number e = ap (λ (n : ℕ). map (program_header image) (range_with_len 0 n)) e

pub any_none : (p : ProgramHeader → Bool) (image : List ℕ) → list_any p (first_headers image 0) ≡ false
unfolding first_headers
any_none p image = refl

pub any_more : (p : ProgramHeader → Bool) (image : List ℕ) (number : ℕ)
    → list_any p (first_headers image (number + 1)) ≡ (list_any p (first_headers image number) || p (program_header image number))
any_more p image number =
    ap (list_any p) (first_headers_more image number)
    ∙ list_any-append p (first_headers image number) (program_header image number ∷ [])
    ∙ ap (λ (b : Bool). list_any p (first_headers image number) || b) (or-false (p (program_header image number)))

-- if one header passes a test, some header passes it
pub any_at : (p : ProgramHeader → Bool) (image : List ℕ) (number : ℕ) → number < header_count image → p (program_header image number) ≡ true → list_any p (program_headers image) ≡ true
unfolding program_headers
any_at p image number l h =
    let here = get_or-map-range_with_len (program_header image) 0 (header_count image) number number (program_header image 0) l (omega arith) in
    list_any_at p (map (program_header image) (range_with_len 0 (header_count image))) number (program_header image 0)
    (let size = length-map-range_with_len (program_header image) 0 (header_count image) in omega arith)
    (ap p here ∙ h)

-- if no header passes a test, each one fails it
pub none_at : (p : ProgramHeader → Bool) (image : List ℕ) (number : ℕ) → number < header_count image → list_any p (program_headers image) ≡ false → p (program_header image number) ≡ false
none_at p image number l h = false_from_ne_true _ (λ e. true≢false (sym (any_at p image number l e) ∙ h))

none_below : (p : ProgramHeader → Bool) (image : List ℕ) (number : ℕ) → ((k : ℕ) → k < number → p (program_header image k) ≡ false) → list_any p (first_headers image number) ≡ false
none_below p image zero h = any_none p image
none_below p image (suc number) h =
    let next : suc number ≡ number + 1 = omega arith in
    ap (λ (n : ℕ). list_any p (first_headers image n)) next ∙ any_more p image number
    ∙ ap (λ (b : Bool). b || p (program_header image number)) (none_below p image number (λ k l. h k (omega arith))) ∙ h number (omega arith)

-- if each header fails a test, no header passes it
pub none_of_all : (p : ProgramHeader → Bool) (image : List ℕ) → ((k : ℕ) → k < header_count image → p (program_header image k) ≡ false) → list_any p (program_headers image) ≡ false
none_of_all p image h = ap (list_any p) (sym (first_headers_all image (header_count image) refl)) ∙ none_below p image (header_count image) h
