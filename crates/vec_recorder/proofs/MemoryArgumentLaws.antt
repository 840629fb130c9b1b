-- Values of `--memory`, divided at their first two colons
use Rattle.std.proofs.Common.{◌≡◌, ◌∙◌, ◌<◌, ◌+◌, ◌++◌, [], ◌∷◌, ℕ, List, ap, arith, false, length, refl, subst, sym, take, true}
use Rattle.std.specs.Prelude.{None, Some}
use Rattle.std.specs.Borrow.{Bor}
use Rattle.std.specs.List.{AllZip, Any, after_first, before_first, position_or_len, slice_index_or}
use Rattle.std.proofs.lemmas.Bool.Decides.{nat_tests}
use Rattle.std.proofs.lemmas.List.{get_or-map, length-map, take_more}
use Rattle.clap.specs.Walk.{Text, texts}
use Rattle.rv_model.specs.commands.Arguments.{address, permissions}
use Rattle.vec_recorder.specs.MemoryArguments.{Parts, NamesNone, are_memory, has_colon, is_colon, parts_behind, parts_of}

pub no_colon : (word : Text) → position_or_len is_colon word ≡ length word → has_colon word ≡ false
no_colon word is = grind (arith, nat_tests)

pub a_colon : (word : Text) → position_or_len is_colon word < length word → has_colon word ≡ true
a_colon word lt = grind (arith, nat_tests)

pub undivided : (word : Text) → position_or_len is_colon word ≡ length word → NamesNone word
undivided word is = rw (no_colon word is) refl

behind : (word first rest : Text) → position_or_len is_colon word < length word → first ≡ before_first is_colon word → rest ≡ after_first is_colon word
    → parts_of word ≡ parts_behind first rest
behind word first rest lt first_is rest_is = rw (a_colon word lt, first_is, rest_is) refl

pub divided_once : (word first rest : Text) → position_or_len is_colon word < length word → first ≡ before_first is_colon word → rest ≡ after_first is_colon word
    → position_or_len is_colon rest ≡ length rest → NamesNone word
divided_once word first rest lt first_is rest_is none =
    let none_behind : parts_behind first rest ≡ None = rw (no_colon rest none) refl in
    ap are_memory (behind word first rest lt first_is rest_is ∙ none_behind)

-- a value with both colons
pub divided_twice : (word first rest second path : Text) → position_or_len is_colon word < length word → first ≡ before_first is_colon word
    → rest ≡ after_first is_colon word → position_or_len is_colon rest < length rest → second ≡ before_first is_colon rest → path ≡ after_first is_colon rest
    → parts_of word ≡ Some (record { address = first; permissions = second; path = path })
divided_twice word first rest second path lt first_is rest_is also second_is path_is =
    behind word first rest lt first_is rest_is ∙ rw (a_colon rest also, second_is, path_is) refl

pub no_address : (word : Text) (parts : Parts) → parts_of word ≡ Some parts → address parts.address ≡ None → NamesNone word
no_address word parts divided none = ap are_memory divided ∙ rw none refl

pub no_permissions : (word : Text) (parts : Parts) (addr : ℕ) → parts_of word ≡ Some parts → address parts.address ≡ Some addr
    → permissions parts.permissions ≡ None → NamesNone word
no_permissions word parts addr divided some none = ap are_memory divided ∙ rw (some, none) refl

-- ---- lists of values

zip_push : {A B : Type 0} (R : A → B → Type 0) (xs : List A) (ys : List B) (x : A) (y : B) → AllZip R xs ys → R x y → AllZip R (xs ++ x ∷ []) (ys ++ y ∷ [])
zip_push R [] [] x y all one = (one, tt)
zip_push R [] (z ∷ zs) x y all one = absurd all
zip_push R (z ∷ zs) [] x y all one = absurd all
zip_push R (a ∷ xs) (b ∷ ys) x y all one = (all.0, zip_push R xs ys x y all.1 one)

pub zip_next : {A B : Type 0} (R : A → B → Type 0) (xs : List A) (ys : List B) (i : ℕ) (d : A) (y : B) → i < length xs → AllZip R (take i xs) ys → R (slice_index_or xs i d) y
    → AllZip R (take (i + 1) xs) (ys ++ y ∷ [])
zip_next R xs ys i d y lt all one = subst (λ zs. AllZip R zs (ys ++ y ∷ [])) (sym (take_more xs i d lt)) (zip_push R (take i xs) ys (slice_index_or xs i d) y all one)

pub some_holds : (P : Text → Type 0) (arguments : List (Bor Text)) (k : ℕ) (d : Bor Text) → k < length arguments → P (slice_index_or arguments k d).now → Any P (texts arguments)
some_holds P arguments k d lt none =
    let text = (slice_index_or arguments k d).now in
    let at : slice_index_or (texts arguments) k text ≡ text = get_or-map (λ (word : Bor Text). word.now) arguments k d text lt in
    let counted : length (texts arguments) ≡ length arguments = grind (arith, length-map) in
    (k, text, omega arith, at, none)

-- if each value describes something, so does each text
pub zip_texts : {B : Type 0} (R : Text → B → Type 0) (arguments : List (Bor Text)) (named : List B) → AllZip (λ word b. R word.now b) arguments named → AllZip R (texts arguments) named
zip_texts R [] [] all = tt
zip_texts R [] (b ∷ bs) all = absurd all
zip_texts R (w ∷ ws) [] all = absurd all
zip_texts R (w ∷ ws) (b ∷ bs) all = (all.0, zip_texts R ws bs all.1)
