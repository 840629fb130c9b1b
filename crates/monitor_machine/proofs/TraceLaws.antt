-- The last items of a list after items are added.
use Rattle.std.proofs.Common.{arith, ◌∙◌, ap, sym, ℕ, ◌+◌, ◌-◌, ◌≡◌, ◌++◌, ◌∷◌, [], List, length, drop}
use Rattle.std.proofs.lemmas.List.{drop-append-le, drop-drop, length-drop, length-append, append_assoc}
use Rattle.circular_buffer.specs.Buffer.{keep_last}
use Rattle.rv_model.specs.machine.UserMachine.{recorded}

-- items that are dropped first from the older ones make no difference
kept_again : {X : Type 0} (n : ℕ) (xs ys : List X) → keep_last n (keep_last n xs ++ ys) ≡ keep_last n (xs ++ ys)
kept_again n xs ys =
    let k : ℕ = length xs - n in
    let joined : keep_last n xs ++ ys ≡ drop k (xs ++ ys) = sym (drop-append-le k xs ys (omega arith)) in
    let long = length-append xs ys in
    let count : k + (length (drop k (xs ++ ys)) - n) ≡ length (xs ++ ys) - n = omega (arith, length-drop k (xs ++ ys), long) in
    ap (keep_last n) joined ∙ drop-drop (length (drop k (xs ++ ys)) - n) k (xs ++ ys) ∙ ap (λ m. drop m (xs ++ ys)) count

-- a recorded address is the last of those that remain
pub recorded_last : (xs ys : List ℕ) (addr : ℕ) → keep_last 16 (xs ++ (ys ++ addr ∷ [])) ≡ recorded (keep_last 16 (xs ++ ys)) addr
unfolding recorded
recorded_last xs ys addr =
    let older = keep_last 16 (xs ++ ys) in
    ap (keep_last 16) (sym (append_assoc xs ys (addr ∷ []))) ∙ sym (kept_again 16 (xs ++ ys) (addr ∷ []))
    ∙ ap (λ m. drop (m - 16) (older ++ addr ∷ [])) (length-append older (addr ∷ []))
