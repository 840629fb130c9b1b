-- The first equals sign of an image argument
use Rattle.std.specs.Prelude.{None, nat_lt, ◌≤◌, map}
use Rattle.std.proofs.lemmas.Bool.Decides.{nat_tests}
use Rattle.std.proofs.Common.{ap₂, zero, suc, refl, ap, false, ◌≡◌, ◌≢◌, ◌<◌, ◌==◌, ◌+◌, ◌++◌, ◌∷◌, [], ℕ, List, length, subst, take, true≢false, sym, ◌∙◌, arith}
use Rattle.std.specs.Prelude.{slice_index}
use Rattle.std.specs.List.{AllZip, Any, after_first, before_first, position_or_len, slice_index_or}
use Rattle.std.proofs.lemmas.List.{get_or-map, length-map, map_more, map_push, take_more}
use Rattle.std.proofs.lemmas.Bool.{eq-eqb, eqb-true}
use Rattle.std.proofs.lemmas.List.Sums.{fails_before_first, passes_at_first}
use Rattle.std.specs.Borrow.{Bor}
use Rattle.clap.specs.Walk.{Text, texts}
use Rattle.monitor_machine.specs.Images.{named_image, named_images, setup_of}
use Rattle.monitor_machine.specs.NewFaults.{are_distinct, new_fault}
use Rattle.monitor_machine.specs.declared.image.Image.{Image}
use Rattle.vec_monitor.specs.declared.image_arguments.ImagePath.{ImagePath}
use Rattle.vec_monitor.specs.ImageFiles.{named_file}
use Rattle.vec_monitor.specs.declared.image_files.ImageFile.{ImageFile}
use Rattle.vec_monitor.specs.ImageArguments.{IsNameAndPath, IsPathOf, LacksEqualsSign}

before : (word : List ℕ) (k : ℕ) → k < position_or_len (λ b. b == 61) word → slice_index word k ≢ 61
before word k lt is = true≢false (sym (eq-eqb _ _ is) ∙ fails_before_first (λ b. b == 61) word k 0 lt)

pub lacks : (word : List ℕ) → position_or_len (λ b. b == 61) word ≡ length word → LacksEqualsSign word
lacks word is k lt = before word k (omega arith)

pub splits : (word name path : List ℕ) → name ≡ before_first (λ b. b == 61) word → path ≡ after_first (λ b. b == 61) word
    → position_or_len (λ b. b == 61) word < length word → IsNameAndPath word name path
splits word name path name_is path_is lt =
    (position_or_len (λ b. b == 61) word, lt, eqb-true _ _ (passes_at_first (λ b. b == 61) word 0 lt), before word, name_is, path_is)

-- ---- lists of arguments

pub zip_push : {A B : Type 0} (R : A → B → Type 0) (xs : List A) (ys : List B) (x : A) (y : B) → AllZip R xs ys → R x y → AllZip R (xs ++ x ∷ []) (ys ++ y ∷ [])
zip_push R [] [] x y all one = (one, tt)
zip_push R [] (z ∷ zs) x y all one = absurd all
zip_push R (z ∷ zs) [] x y all one = absurd all
zip_push R (a ∷ xs) (b ∷ ys) x y all one = (all.0, zip_push R xs ys x y all.1 one)

pub zip_next : {A B : Type 0} (R : A → B → Type 0) (xs : List A) (ys : List B) (i : ℕ) (d : A) (y : B) → i < length xs → AllZip R (take i xs) ys → R (slice_index_or xs i d) y
    → AllZip R (take (i + 1) xs) (ys ++ y ∷ [])
zip_next R xs ys i d y lt all one = subst (λ zs. AllZip R zs (ys ++ y ∷ [])) (sym (take_more xs i d lt)) (zip_push R (take i xs) ys (slice_index_or xs i d) y all one)

pub some_lacks : (arguments : List (Bor Text)) (k : ℕ) (d : Bor Text) → k < length arguments → LacksEqualsSign (slice_index_or arguments k d).now → Any LacksEqualsSign (texts arguments)
some_lacks arguments k d lt without =
    let text = (slice_index_or arguments k d).now in
    let at : slice_index_or (texts arguments) k text ≡ text = get_or-map (λ (word : Bor Text). word.now) arguments k d text lt in
    let counted : length (texts arguments) ≡ length arguments = grind (arith, length-map) in
    (k, text, omega arith, at, without)

-- if each argument has a name and a path, each has an equals sign
pub zip_lacks : (arguments : List (Bor Text)) (images : List ImagePath) → AllZip IsPathOf arguments images → (k : ℕ) (x : Text) → k < length (texts arguments)
    → slice_index_or (texts arguments) k x ≡ x → LacksEqualsSign x → ⊥
zip_lacks [] images all k x lt at lacks = absurd (omega arith)
zip_lacks (w ∷ ws) [] all k x lt at lacks = absurd all
zip_lacks (w ∷ ws) (p ∷ ps) all zero x lt at lacks =
    let here : LacksEqualsSign w.now = subst LacksEqualsSign (sym at) lacks in
    here all.0.0 all.0.1 all.0.2
zip_lacks (w ∷ ws) (p ∷ ps) all (suc k) x lt at lacks = zip_lacks ws ps all.1 k x (omega arith) at lacks

pub none_lacks : (arguments : List (Bor Text)) (images : List ImagePath) → AllZip IsPathOf arguments images → Any LacksEqualsSign (texts arguments) → ⊥
none_lacks arguments images all some = zip_lacks arguments images all some.0 some.1 some.2 some.3 some.4

pub zip_nothing : {A B : Type 0} (R : A → B → Type 0) (xs : List A) (ys : List B) → AllZip R xs ys → xs ≡ [] → ys ≡ []
zip_nothing R [] [] all e = refl
zip_nothing R [] (y ∷ ys) all e = absurd all
zip_nothing R (x ∷ xs) ys all e = cc

pub named_next : {A : Type 0} (files : List (ImageFile A)) (images after : List Image) (i : ℕ) (d : ImageFile A) (image : Image) → after ≡ images ++ image ∷ []
    → i < length files → named_images images ≡ map named_file (take i files) → image.bytes.now ≡ (slice_index_or files i d).bytes.items
    → image.name.now ≡ (slice_index_or files i d).name.now → named_images after ≡ map named_file (take (i + 1) files)
named_next files images after i d image pushed lt so_far bytes name =
    let one : named_image image ≡ named_file (slice_index_or files i d) = ap₂ (λ name bytes. record { name = name; bytes = bytes }) name bytes in
    ap named_images pushed ∙ (map_push named_image images image ∙ (ap₂ (λ xs x. xs ++ x ∷ []) so_far one ∙ sym (map_more named_file files i d lt)))

pub nothing_named : {A : Type 0} (files : List (ImageFile A)) (images : List Image) → files ≡ [] → named_images images ≡ map named_file files → named_images images ≡ []
nothing_named files images e named = named ∙ ap (map named_file) e

pub no_machine_fault : (quantum : ℕ) (images : List Image) → 1 ≤ quantum → quantum ≤ 1000 → named_images images ≡ [] → new_fault (setup_of quantum images) ≡ None
unfolding new_fault are_distinct
no_machine_fault quantum images low high e =
    let not_low : nat_lt quantum 1 ≡ false = grind (arith, nat_tests) in
    let not_high : nat_lt 1000 quantum ≡ false = grind (arith, nat_tests) in
    rw (e, not_low, not_high) refl
