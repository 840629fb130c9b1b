-- Properties of an image without a fault
use Rattle.std.proofs.Common.{◌≡◌, ℕ, zero, suc, ◌+◌, ◌*◌, ◌%◌, ◌<◌, ◌≤◌, Bool, true, false, List, [], ◌∷◌, ◌++◌, length, get_or, cond, Option, Some, None, refl, sym, ◌∙◌, ap, arith}
use Rattle.std.specs.Prelude.{find}
use Rattle.std.specs.Option.{option_or}
use Rattle.std.proofs.lemmas.List.Folds.{find-append}
use Rattle.rv_model.specs.declared.images.ElfFault.{ElfFault}
use Rattle.rv_model.specs.declared.images.ElfFault.TheVariants.{BadShort, BadHeaderTable, BadFileSize, BadOutside, BadAddress, BadEntry}
use Rattle.rv_model.specs.images.Fields.{entry_of, table_offset, header_count}
use Rattle.rv_model.specs.images.Faults.{has_fault, all_faults, first_fault}
use Rattle.elf_load.specs.Headers.{HasHeaders}
use Rattle.elf_load.specs.Parts.{header_has, any_header_has, file_faults, table_faults, segment_faults}

-- ---- the first element that passes a test

past : {X : Type 0} (b : Bool) (x : X) (rest : Option X) → cond b (Some x) rest ≡ None → (b ≡ false) × (rest ≡ None)
past true x rest e = absurd (cc)
past false x rest e = (refl, e)

none_found : {X : Type 0} (p : X → Bool) (xs : List X) (i : ℕ) (d : X) → find p xs ≡ None → i < length xs → p (get_or xs i d) ≡ false
none_found p [] i d e l = absurd (omega arith)
none_found p (x ∷ xs) zero d e l = (past (p x) x (find p xs) e).0
none_found p (x ∷ xs) (suc i) d e l = none_found p xs i d (past (p x) x (find p xs) e).1 (omega arith)

-- ---- the first fault, by part

pub first_of_parts : (image : List ℕ) (file table segment : Option ElfFault) (bad : Bool) → file ≡ find (has_fault image) file_faults → table ≡ find (has_fault image) table_faults
    → segment ≡ find (has_fault image) segment_faults → has_fault image BadEntry ≡ bad → first_fault image ≡ option_or file (option_or table (option_or segment (cond bad (Some BadEntry) None)))
unfolding first_fault
first_of_parts image file table segment bad e f g h = rw (e, f, g, sym h)
    (find-append (has_fault image) file_faults (table_faults ++ segment_faults ++ BadEntry ∷ [])
    ∙ ap (option_or (find (has_fault image) file_faults)) (find-append (has_fault image) table_faults (segment_faults ++ BadEntry ∷ [])
    ∙ ap (option_or (find (has_fault image) table_faults)) (find-append (has_fault image) segment_faults (BadEntry ∷ []))))

pub entry_is_bad : (image : List ℕ) (entry : ℕ) → entry ≡ entry_of image → (entry % 4 ≡ 0 → ⊥) → has_fault image BadEntry ≡ true
unfolding has_fault
entry_is_bad image entry e odd = grind (arith, odd, e)

pub entry_is_good : (image : List ℕ) (entry : ℕ) → entry ≡ entry_of image → entry % 4 ≡ 0 → has_fault image BadEntry ≡ false
unfolding has_fault
entry_is_good image entry e even = grind (arith, even, e)

-- ---- an image without a fault

pub sound_headers : (image : List ℕ) → first_fault image ≡ None → HasHeaders image
unfolding first_fault has_fault
sound_headers image sound = record {
  file = (let long : has_fault image BadShort ≡ false = none_found (has_fault image) all_faults 0 BadShort sound (omega arith) in grind (arith, long));
  table = λ number l. (let there : has_fault image BadHeaderTable ≡ false = none_found (has_fault image) all_faults 7 BadShort sound (omega arith) in grind (arith, there, l));
}

pub no_bad_header : (image : List ℕ) → first_fault image ≡ None
    → (any_header_has image BadFileSize ≡ false) × (any_header_has image BadOutside ≡ false) × (any_header_has image BadAddress ≡ false)
unfolding first_fault has_fault header_has
no_bad_header image sound =
    let none = none_found (has_fault image) all_faults in
    (none 9 BadShort sound (omega arith), none 10 BadShort sound (omega arith), none 11 BadShort sound (omega arith))
