-- Laws of logs: for no instructions, and for two sequences of instructions.
use Rattle.std.proofs.Common.{◌≡◌, ◌∙◌, ◌++◌, ◌∷◌, [], ℕ, List, ap, refl, subst, sym, append-nil, append_assoc, if◌then◌else◌}
use Rattle.rv_model.specs.step.Hart.{HartState}
use Rattle.commit_log.specs.declared.log.Log.{Log}
use Rattle.commit_log.specs.declared.log.Window.{Window}
use Rattle.commit_log.specs.Logged.{Gathered, IsLogged, is_within, logged, logged_from, number_after, one_more}

number_then : (n : ℕ) (xs ys : List HartState) → number_after n (xs ++ ys) ≡ number_after (number_after n xs) ys
unfolding number_after
number_then n [] ys = refl
number_then n (x ∷ xs) ys = number_then (one_more n) xs ys

logged_then : (w : Window) (n : ℕ) (xs ys : List HartState) → logged_from w n (xs ++ ys) ≡ logged_from w n xs ++ logged_from w (number_after n xs) ys
unfolding logged_from number_after
logged_then w n [] ys = refl
logged_then w n (x ∷ xs) ys =
    let first : List ℕ = if is_within w (one_more n) then logged x else [] in
    ap (λ (l : List ℕ). first ++ l) (logged_then w (one_more n) xs ys)
    ∙ sym (append_assoc first (logged_from w (one_more n) xs) (logged_from w (number_after (one_more n) xs) ys))

module _ {K : Type 0} (Took : K → List ℕ → K → Type 0) where
  pub gathered_none : ((s : K) → Took s [] s) → (sink : K) (text : List ℕ) → Gathered Took sink text [] sink text
  gathered_none took_none sink text = record { written = []; took = took_none sink; all = sym (append-nil text) }

  pub gathered_then : ((a b c : K) (xs ys : List ℕ) → Took a xs b → Took b ys c → Took a (xs ++ ys) c)
      → (a b c : K) (s t u xs ys : List ℕ) → Gathered Took a s xs b t → Gathered Took b t ys c u → Gathered Took a s (xs ++ ys) c u
  gathered_then took_more a b c s t u xs ys one two =
      record {
        written = one.written ++ two.written;
        took = took_more a b c one.written two.written one.took two.took;
        all = append_assoc one.written two.written u
            ∙ (ap (λ (l : List ℕ). one.written ++ l) two.all
            ∙ (sym (append_assoc one.written t ys)
            ∙ (ap (λ (l : List ℕ). l ++ ys) one.all ∙ append_assoc s xs ys)));
      }

  pub none_logged : ((s : K) → Took s [] s) → (a : Log K) → IsLogged Took a [] a
  unfolding logged_from number_after
  none_logged took_none a = record { window_is = refl; number_is = refl; lines = gathered_none took_none a.sink a.text }

  pub more_logged : ((a b c : K) (xs ys : List ℕ) → Took a xs b → Took b ys c → Took a (xs ++ ys) c)
      → (a b c : Log K) (xs ys : List HartState) → IsLogged Took a xs b → IsLogged Took b ys c → IsLogged Took a (xs ++ ys) c
  more_logged took_more a b c xs ys one two =
      record {
        window_is = two.window_is ∙ one.window_is;
        number_is = two.number_is ∙ (ap (λ (n : ℕ). number_after n ys) one.number_is ∙ sym (number_then a.number xs ys));
        lines = subst (λ (l : List ℕ). Gathered Took a.sink a.text l c.sink c.text)
            (ap (λ (l : List ℕ). logged_from a.window a.number xs ++ l)
            (ap (λ (w : Window). logged_from w b.number ys) one.window_is ∙ ap (λ (n : ℕ). logged_from a.window n ys) one.number_is)
            ∙ sym (logged_then a.window a.number xs ys))
            (gathered_then took_more a.sink b.sink c.sink a.text b.text c.text (logged_from a.window a.number xs) (logged_from b.window b.number ys) one.lines two.lines);
      }
