-- Laws of records of changes: for no instructions, and for two sequences of instructions.
use Rattle.std.proofs.Common.{◌≡◌, ◌∙◌, ◌++◌, ◌∷◌, [], ℕ, List, ap, refl, subst, sym, append_assoc}
use Rattle.rv_model.specs.step.Hart.{HartState}
use Rattle.memory_changes.specs.Changes.{Place, changes_by, changes_from, one_more, ticks_more}
use Rattle.memory_changes.specs.Recorded.{IsRecorded, number_after, ticks_after}
use Rattle.memory_changes.specs.declared.changes.Changes.{Changes}

number_then : (n : ℕ) (xs ys : List HartState) → number_after n (xs ++ ys) ≡ number_after (number_after n xs) ys
unfolding number_after
number_then n [] ys = refl
number_then n (x ∷ xs) ys = number_then (one_more n) xs ys

ticks_then : (t : ℕ) (xs ys : List HartState) → ticks_after t (xs ++ ys) ≡ ticks_after (ticks_after t xs) ys
unfolding ticks_after
ticks_then t [] ys = refl
ticks_then t (x ∷ xs) ys = ticks_then (ticks_more t x) xs ys

pub changes_then : (places : List Place) (n t : ℕ) (xs ys : List HartState)
    → changes_from places n t (xs ++ ys) ≡ changes_from places n t xs ++ changes_from places (number_after n xs) (ticks_after t xs) ys
unfolding changes_from number_after ticks_after
changes_then places n t [] ys = refl
changes_then places n t (x ∷ xs) ys =
    let here = changes_by places (one_more n) (ticks_more t x) x in
    ap (λ (l : List ℕ). here ++ l) (changes_then places (one_more n) (ticks_more t x) xs ys)
    ∙ sym (append_assoc here (changes_from places (one_more n) (ticks_more t x) xs) (changes_from places (number_after (one_more n) xs) (ticks_after (ticks_more t x) xs) ys))

pub none_changed : {K A : Type 0} (took : K → List ℕ → K → Type 0) → ((s : K) → took s [] s) → (r : Changes K A) → IsRecorded took r [] r
unfolding changes_from number_after ticks_after
none_changed took took_none r =
    record {
      places = refl;
      number = refl;
      ticks = refl;
      lines = took_none r.sink;
    }

pub more_changed : {K A : Type 0} (took : K → List ℕ → K → Type 0) → ((a b c : K) (xs ys : List ℕ) → took a xs b → took b ys c → took a (xs ++ ys) c)
    → (a b c : Changes K A) (xs ys : List HartState) → IsRecorded took a xs b → IsRecorded took b ys c → IsRecorded took a (xs ++ ys) c
more_changed took took_more a b c xs ys one two =
    record {
      places = two.places ∙ one.places;
      number = two.number ∙ (ap (λ (n : ℕ). number_after n ys) one.number ∙ sym (number_then a.number xs ys));
      ticks = two.ticks ∙ (ap (λ (t : ℕ). ticks_after t ys) one.ticks ∙ sym (ticks_then a.ticks xs ys));
      lines =
          let second : took b.sink (changes_from a.places.items (number_after a.number xs) (ticks_after a.ticks xs) ys) c.sink =
          subst (λ (l : List ℕ). took b.sink l c.sink)
          (ap (λ them. changes_from them.items b.number b.ticks ys) one.places
          ∙ (ap (λ (n : ℕ). changes_from a.places.items n b.ticks ys) one.number
          ∙ ap (λ (t : ℕ). changes_from a.places.items (number_after a.number xs) t ys) one.ticks))
          two.lines in
          subst (λ (l : List ℕ). took a.sink l c.sink) (sym (changes_then a.places.items a.number a.ticks xs ys))
          (took_more a.sink b.sink c.sink (changes_from a.places.items a.number a.ticks xs) (changes_from a.places.items (number_after a.number xs) (ticks_after a.ticks xs) ys) one.lines second);
    }
