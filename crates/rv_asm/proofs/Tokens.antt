-- The tokens of a text, from left to right
use Rattle.std.proofs.Common.{◌≡◌, ◌≢◌, ℕ, zero, suc, ◌+◌, ◌-◌, ◌<◌, ◌≤◌, Bool, true, false, cond, eqb, ◌&&◌, List, [], ◌∷◌, ◌++◌, length, get_or, take, drop, refl, sym, ap, subst, ◌∙◌, arith, inl, inr}
use Rattle.std.proofs.lemmas.Bool.{and_from, and_parts, ne_eqb, false≢true, and_right, and_left, cases_lt}
use Rattle.std.proofs.lemmas.List.{drop_more, at_drop_more, at_drop_all, take-append-drop, drop-drop, length-take, length-drop}
use Rattle.rv_model.specs.assembler.Tokens.{in_run, tokens, begins_run, with_first_byte}
use Rattle.rv_asm.specs.Places.{rest}

pub space_skipped : (text : List ℕ) (at : ℕ) → at < length text → get_or text at 0 ≡ 32 → rest text at ≡ rest text (at + 1)
unfolding tokens
space_skipped text at lt e =
    let f = λ (cs : List ℕ). tokens (at + 1) cs in
    at_drop_more f text at 0 lt ∙ rw e refl

-- each byte can be in a run
abbrev pub all_run : List ℕ → Bool
all_run [] = true
all_run (c ∷ cs) = in_run c && all_run cs

space_not_run : (c : ℕ) → in_run c ≡ true → eqb c 32 ≡ false
space_not_run c h = ne_eqb c 32 (λ e. let P : ℕ → Type 0 = λ x. in_run x ≡ true in false≢true (subst P e h))

pick_middle : {A : Type 0} (s r m : Bool) (x y z : A) → s ≡ false → r ≡ true → m ≡ true → cond s x (cond (r && m) y z) ≡ y
pick_middle false true true x y z hs hr hm = refl
pick_middle _ _ _ x y z hs hr hm = absurd cc

pick_last : {A : Type 0} (s r m : Bool) (x y z : A) → s ≡ false → (r && m) ≡ false → cond s x (cond (r && m) y z) ≡ z
pick_last true r m x y z hs hr = absurd cc
pick_last false r m x y z hs hr = rw hr refl

-- a byte is one token unless it is a space or the next byte continues its run
pub single_byte_is_token : (p c : ℕ) (more : List ℕ) → eqb c 32 ≡ false → (in_run c && begins_run more) ≡ false → tokens p (c ∷ more) ≡ record { column = p; text = c ∷ [] } ∷ tokens (p + 1) more
unfolding tokens
single_byte_is_token p c more hs hr = pick_last (eqb c 32) (in_run c) (begins_run more) (tokens (p + 1) more) (with_first_byte p c (tokens (p + 1) more)) (record { column = p; text = c ∷ [] } ∷ tokens (p + 1) more) hs hr

pub run_first : (p c : ℕ) (run more : List ℕ) → in_run c ≡ true → all_run run ≡ true → begins_run more ≡ false → tokens p ((c ∷ run) ++ more) ≡ record { column = p; text = c ∷ run } ∷ tokens (p + length (c ∷ run)) more
unfolding tokens
run_first p c [] more hc hr hm = single_byte_is_token p c more (space_not_run c hc) (and_right (in_run c) (begins_run more) hm)
run_first p c (d ∷ run) more hc hr hm =
    let parts = and_parts (in_run d) (all_run run) hr in
    let ts = tokens (p + 1) ((d ∷ run) ++ more) in
    let ind : ts ≡ record { column = p + 1; text = d ∷ run } ∷ tokens (p + 1 + length (d ∷ run)) more = run_first (p + 1) d run more parts.0 parts.1 hm in
    let here : tokens p ((c ∷ d ∷ run) ++ more) ≡ with_first_byte p c ts = pick_middle (eqb c 32) (in_run c) (in_run d) ts (with_first_byte p c ts) (record { column = p; text = c ∷ [] } ∷ ts) (space_not_run c hc) hc parts.0 in
    let count : p + 1 + length (d ∷ run) ≡ p + length (c ∷ d ∷ run) = omega arith in
    here ∙ ap (with_first_byte p c) ind ∙ ap (λ (n : ℕ). record { column = p; text = c ∷ d ∷ run } ∷ tokens n more) count

-- ---- at an index of a text

all_run_from : (text : List ℕ) (n i : ℕ) → i + n ≤ length text → ((k : ℕ) → i ≤ k → k < i + n → in_run (get_or text k 0) ≡ true) → all_run (take n (drop i text)) ≡ true
all_run_from text zero i h f = refl
all_run_from text (suc n) i h f =
    let lt : i < length text = omega arith in
    let first : in_run (get_or text i 0) ≡ true = f i (omega arith) (omega arith) in
    let others : all_run (take n (drop (i + 1) text)) ≡ true = all_run_from text n (i + 1) (omega arith) (λ k a b. f k (omega arith) (omega arith)) in
    at_drop_more (λ (cs : List ℕ). all_run (take (suc n) cs)) text i 0 lt ∙ and_from (in_run (get_or text i 0)) (all_run (take n (drop (i + 1) text))) first others

runs_on_at : (text : List ℕ) (i : ℕ) → (i < length text → in_run (get_or text i 0) ≡ false) → begins_run (drop i text) ≡ false
runs_on_at text i h =
    elim (cases_lt i (length text)) [
      | inl lt ↦ at_drop_more begins_run text i 0 lt ∙ h lt
      | inr le ↦ at_drop_all begins_run text i le
    ]

pub takes_run : (text : List ℕ) (at e : ℕ) → at < e → e ≤ length text → in_run (get_or text at 0) ≡ true → ((k : ℕ) → at < k → k < e → in_run (get_or text k 0) ≡ true) → (e < length text → in_run (get_or text e 0) ≡ false) → rest text at ≡ record { column = at + 1; text = take (e - at) (drop at text) } ∷ rest text e
takes_run text at e lt le first run ends =
    let n = e - (at + 1) in
    let c = get_or text at 0 in
    let body = take n (drop (at + 1) text) in
    let n_is : (at + 1) + n ≡ e = omega arith in
    let whole : drop at text ≡ (c ∷ body) ++ drop e text = drop_more text at 0 (omega arith) ∙ ap (λ (cs : List ℕ). c ∷ cs) (sym (take-append-drop n (drop (at + 1) text)) ∙ ap (λ (cs : List ℕ). body ++ cs) (drop-drop n (at + 1) text ∙ ap (λ (k : ℕ). drop k text) n_is)) in
    let all : all_run body ≡ true = all_run_from text n (at + 1) (omega arith) (λ k a b. run k (omega arith) (omega arith)) in
    let made = run_first (at + 1) c body (drop e text) first all (runs_on_at text e ends) in
    let len : (at + 1) + length (c ∷ body) ≡ e + 1 = omega (arith, length-take n (drop (at + 1) text), length-drop (at + 1) text) in
    let piece : c ∷ body ≡ take (e - at) (drop at text) = let k : e - at ≡ suc n = omega arith in sym (ap (λ (m : ℕ). take m (drop at text)) k ∙ ap (λ (cs : List ℕ). take (suc n) cs) (drop_more text at 0 (omega arith))) in
    ap (tokens (at + 1)) whole ∙ made ∙ ap (λ (m : ℕ). record { column = at + 1; text = c ∷ body } ∷ tokens m (drop e text)) len ∙ ap (λ (t : List ℕ). record { column = at + 1; text = t } ∷ rest text e) piece

pub takes_single : (text : List ℕ) (at : ℕ) → at < length text → get_or text at 0 ≢ 32 → in_run (get_or text at 0) ≡ false → rest text at ≡ record { column = at + 1; text = take ((at + 1) - at) (drop at text) } ∷ rest text (at + 1)
takes_single text at lt ns nr =
    let c = get_or text at 0 in
    let whole : drop at text ≡ c ∷ drop (at + 1) text = drop_more text at 0 lt in
    let k : (at + 1) - at ≡ 1 = omega arith in
    let piece : c ∷ [] ≡ take ((at + 1) - at) (drop at text) = sym (ap (λ (m : ℕ). take m (drop at text)) k ∙ ap (λ (cs : List ℕ). take 1 cs) whole) in
    ap (tokens (at + 1)) whole ∙ single_byte_is_token (at + 1) c (drop (at + 1) text) (ne_eqb c 32 ns) (and_left (in_run c) (begins_run (drop (at + 1) text)) nr) ∙ ap (λ (t : List ℕ). record { column = at + 1; text = t } ∷ rest text (at + 1)) piece

pub takes_none : (text : List ℕ) (at : ℕ) → length text ≤ at → rest text at ≡ []
unfolding tokens
takes_none text at le = at_drop_all (tokens (at + 1)) text at le
