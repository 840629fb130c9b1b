-- Laws of the texts of moved elements: for no elements, for two sequences of elements, and for the room that they need.
use Rattle.std.proofs.Common.{◌≡◌, ◌∙◌, ◌+◌, ◌*◌, ◌≤◌, ◌++◌, [], ℕ, List, ap, arith, flat_map, length, sym, append-nil, append_assoc}
use Rattle.std.proofs.lemmas.List.Concat.{flat_map-append}
use Rattle.vector_memory.specs.MovedElements.{MovedElement}
use Rattle.commit_log.specs.LineTexts.{moved_text}
use Rattle.commit_log.specs.declared.text.TheConstants.{TEXT_SIZE}

pub none_moved : (text : List ℕ) → text ≡ text ++ flat_map moved_text []
none_moved text = sym (append-nil text)

pub more_moved : (a b c : List ℕ) (xs ys : List MovedElement) → b ≡ a ++ flat_map moved_text xs → c ≡ b ++ flat_map moved_text ys
    → c ≡ a ++ flat_map moved_text (xs ++ ys)
more_moved a b c xs ys one two =
    two ∙ ap (λ (l : List ℕ). l ++ flat_map moved_text ys) one ∙ append_assoc a (flat_map moved_text xs) (flat_map moved_text ys)
    ∙ ap (λ (l : List ℕ). a ++ l) (sym (flat_map-append moved_text xs ys))

pub fewer_moved : (text : List ℕ) (more count : ℕ) → length text + 42 * (count + more) ≤ TEXT_SIZE → length text + 42 * count ≤ TEXT_SIZE
fewer_moved text more count h = omega (arith, h)
