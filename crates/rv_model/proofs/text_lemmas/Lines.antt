-- The lines of an output.
use Rattle.std.proofs.Common.{◌≡◌, ℕ, ◌+◌, List, [], ◌∷◌, ◌++◌, Bool, true, false, refl, ap, ◌∙◌, append_assoc, eqb, cond, get_or, drop, arith}
use Rattle.std.specs.Prelude.{not, if◌then◌else◌, filter, map}
use Rattle.std.proofs.lemmas.Bool.{and_parts, and_from, not-true}
use Rattle.std.proofs.lemmas.Bool.Decides.{nat_tests}
use Rattle.rv_model.specs.text.Lines.{is_newline, pieces, tagged, text}
use Rattle.rv_model.proofs.text_lemmas.Newlines.{is_line, IsLine, are_lines, AreLines}
use Rattle.rv_model.specs.machine.Script.{lines}

-- a line with a newline after it is the first piece
pub pieces_at : (line rest : List ℕ) → IsLine line → pieces (line ++ 10 ∷ rest) ≡ line ∷ pieces rest
pieces_at [] rest h = refl
pieces_at (b ∷ bs) rest h =
    let two = and_parts (not (is_newline b)) (is_line bs) h in
    rw (not-true (is_newline b) two.0, pieces_at bs rest two.1) refl

-- a line without a newline after it is the only piece
pub pieces_of_line : (line : List ℕ) → IsLine line → pieces line ≡ line ∷ []
pieces_of_line [] h = refl
pieces_of_line (b ∷ bs) h =
    let two = and_parts (not (is_newline b)) (is_line bs) h in
    rw (not-true (is_newline b) two.0, pieces_of_line bs two.1) refl

shown : (b : Bool) (line : List ℕ) (ps : List (List ℕ)) (tag : ℕ) → map (λ (l : List ℕ). drop 2 l) (cond b ((tag ∷ 32 ∷ line) ∷ ps) ps) ≡ cond b (line ∷ map (λ (l : List ℕ). drop 2 l) ps) (map (λ (l : List ℕ). drop 2 l) ps)
shown b line ps tag = search (arith, nat_tests)

joined : (b : Bool) (l : List ℕ) (ls all rest : List (List ℕ)) → all ≡ cond b ls [] ++ rest → cond b (l ∷ all) all ≡ cond b (l ∷ ls) [] ++ rest
joined b l ls all rest h = search (arith, nat_tests)

abbrev of_user : ℕ → List (List ℕ) → List (List ℕ)
of_user u all = map (λ line. drop 2 line) (filter (λ line. eqb (get_or line 0 0) (48 + u)) all)

-- the first line appears only in the lines of its user
pub lines_tagged : (u tag : ℕ) (line rest : List ℕ) → is_newline tag ≡ false → IsLine line → lines u (tagged tag line ++ rest) ≡ (if eqb tag (48 + u) then line ∷ lines u rest else lines u rest)
unfolding lines
lines_tagged u tag line rest plain h =
    let all : IsLine (tag ∷ 32 ∷ line) = and_from (not (is_newline tag)) (is_line (32 ∷ line)) (ap not plain) h in
    let e : tagged tag line ++ rest ≡ (tag ∷ 32 ∷ line) ++ 10 ∷ rest = ap (λ (l : List ℕ). tag ∷ 32 ∷ l) (append_assoc line (10 ∷ []) rest) in
    ap (λ (t : List ℕ). of_user u (pieces t)) e ∙ ap (of_user u) (pieces_at (tag ∷ 32 ∷ line) rest all)
    ∙ shown (eqb tag (48 + u)) line (filter (λ l. eqb (get_or l 0 0) (48 + u)) (pieces rest)) tag

-- all lines of one tag
pub lines_text : (u tag : ℕ) (ls : List (List ℕ)) (rest : List ℕ) → is_newline tag ≡ false → AreLines ls → lines u (text tag ls ++ rest) ≡ (if eqb tag (48 + u) then ls else []) ++ lines u rest
lines_text u tag [] rest plain h = elim (eqb tag (48 + u)) as (λ b. lines u rest ≡ (if b then [] else []) ++ lines u rest) [ true ↦ refl | false ↦ refl ]
lines_text u tag (l ∷ ls) rest plain h =
    let two = and_parts (is_line l) (are_lines ls) h in
    ap (lines u) (append_assoc (tagged tag l) (text tag ls) rest)
    ∙ lines_tagged u tag l (text tag ls ++ rest) plain two.0
    ∙ joined (eqb tag (48 + u)) l ls (lines u (text tag ls ++ rest)) (lines u rest) (lines_text u tag ls rest plain two.1)
