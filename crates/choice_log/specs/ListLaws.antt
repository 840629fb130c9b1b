-- Laws of lists of choices: for no instructions, and for two sequences of instructions.
use Rattle.std.proofs.Common.{◌≡◌, ◌∙◌, ◌++◌, ◌∷◌, [], ℕ, List, ap, refl, subst, sym, append_assoc}
use Rattle.rv_model.specs.step.Hart.{HartState}
use Rattle.open_choices.specs.declared.seeds.Seed.{Seed}
use Rattle.choice_log.specs.ChoiceLines.{choice_lines, choices_from, one_more}
use Rattle.choice_log.specs.Listed.{IsListed, number_after}
use Rattle.choice_log.specs.declared.choice_log.ChoiceLog.{ChoiceLog}

number_then : (n : ℕ) (xs ys : List HartState) → number_after n (xs ++ ys) ≡ number_after (number_after n xs) ys
unfolding number_after
number_then n [] ys = refl
number_then n (x ∷ xs) ys = number_then (one_more n) xs ys

choices_then : (c : Seed) (n : ℕ) (xs ys : List HartState) → choices_from c n (xs ++ ys) ≡ choices_from c n xs ++ choices_from c (number_after n xs) ys
unfolding choices_from number_after
choices_then c n [] ys = refl
choices_then c n (x ∷ xs) ys =
    let first : List ℕ = choice_lines c (one_more n) x in
    ap (λ (l : List ℕ). first ++ l) (choices_then c (one_more n) xs ys)
    ∙ sym (append_assoc first (choices_from c (one_more n) xs) (choices_from c (number_after (one_more n) xs) ys))

module _ {K : Type 0} (Took : K → List ℕ → K → Type 0) where
  pub none_listed : ((s : K) → Took s [] s) → (a : ChoiceLog K) → IsListed Took a [] a
  unfolding choices_from number_after
  none_listed took_none a = record { seed_is = refl; number_is = refl; lines = took_none a.sink }

  pub more_listed : ((a b c : K) (xs ys : List ℕ) → Took a xs b → Took b ys c → Took a (xs ++ ys) c)
      → (a b c : ChoiceLog K) (xs ys : List HartState) → IsListed Took a xs b → IsListed Took b ys c → IsListed Took a (xs ++ ys) c
  more_listed took_more a b c xs ys one two =
      let second : Took b.sink (choices_from a.seed (number_after a.number xs) ys) c.sink =
      subst (λ (l : List ℕ). Took b.sink l c.sink)
      (ap (λ (s : Seed). choices_from s b.number ys) one.seed_is ∙ ap (λ (n : ℕ). choices_from a.seed n ys) one.number_is) two.lines in
      record {
        seed_is = two.seed_is ∙ one.seed_is;
        number_is = two.number_is ∙ (ap (λ (n : ℕ). number_after n ys) one.number_is ∙ sym (number_then a.number xs ys));
        lines = subst (λ (l : List ℕ). Took a.sink l c.sink) (sym (choices_then a.seed a.number xs ys))
            (took_more a.sink b.sink c.sink (choices_from a.seed a.number xs) (choices_from a.seed (number_after a.number xs) ys) one.lines second);
      }
