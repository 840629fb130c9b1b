-- One more register of a line, and the whole line.
use Rattle.std.proofs.Common.{◌≡◌, sym, ap, ◌∙◌, ℕ, suc, ◌+◌, ◌-◌, ◌<◌, List, ◌∷◌, ◌++◌, flat_map, append_assoc, arith}
use Rattle.std.specs.List.{range_with_len}
use Rattle.rv_model.specs.vector.Groups.{register_of}
use Rattle.commit_log.specs.LineTexts.{vector_text}
use Rattle.commit_log.specs.Lines.{printed_vectors}

-- the first of a range of numbers, and the others
range_more : (a i n : ℕ) → i < n → range_with_len (a + i) (n - i) ≡ (a + i) ∷ range_with_len (a + (i + 1)) (n - (i + 1))
range_more a i n h =
    let some : n - i ≡ suc (n - (i + 1)) = omega (arith, h) in
    let next : a + i + 1 ≡ a + (i + 1) = omega arith in
    ap (λ (k : ℕ). range_with_len (a + i) k) some ∙ ap (λ (b : ℕ). (a + i) ∷ range_with_len b (n - (i + 1))) next

pub vectors_more : (file text new whole : List ℕ) (a i n : ℕ) → i < n → new ≡ text ++ vector_text (a + i, register_of file (a + i))
    → text ++ flat_map vector_text (printed_vectors file (range_with_len (a + i) (n - i))) ≡ whole
    → new ++ flat_map vector_text (printed_vectors file (range_with_len (a + (i + 1)) (n - (i + 1)))) ≡ whole
vectors_more file text new whole a i n h put all =
    rw put
    (append_assoc text (vector_text (a + i, register_of file (a + i))) (flat_map vector_text (printed_vectors file (range_with_len (a + (i + 1)) (n - (i + 1)))))
    ∙ sym (ap (λ (rs : List ℕ). text ++ flat_map vector_text (printed_vectors file rs)) (range_more a i n h)) ∙ all)

-- ---- the whole line

pub line_pushed : (text t1 t2 t3 t4 t5 p s c v k m n : List ℕ)
    → t1 ≡ text ++ p → t2 ≡ ((t1 ++ s) ++ c) ++ v → t3 ≡ t2 ++ k → t4 ≡ t3 ++ m → t5 ≡ t4 ++ n
    → t5 ≡ text ++ ((((((p ++ s) ++ c) ++ v) ++ k) ++ m) ++ n)
line_pushed text t1 t2 t3 t4 t5 p s c v k m n e1 e2 e3 e4 e5 = rw (e5, e4, e3, e2, e1) (simp append_assoc)
