-- Processing bytes of a script executes the lines that end in them, and leaves an unfinished line
use Rattle.std.proofs.Common.{◌≡◌, ℕ, ◌-◌, List, [], ◌∷◌, ◌++◌, length, length-append, take, refl, ap, ◌∙◌, sym, subst, append_assoc, append-nil, arith}
use Rattle.std.proofs.lemmas.Bool.{eqb-true}
use Rattle.std.proofs.Math.Seq.{take-append_seam}
use Rattle.monitor_machine.specs.MachineState.{MachineState, after_line, line_output}
use Rattle.rv_model.specs.machine.Setup.{Setup}
use Rattle.rv_model.specs.machine.Script.{World, after_all, printed_by_line, printed_by_lines, world_after}
use Rattle.rv_model.specs.text.Lines.{is_newline, pieces}
use Rattle.rv_model.proofs.Choices.{of_bool}
use Rattle.rv_model.proofs.text_lemmas.Newlines.{IsLine}
use Rattle.rv_model.proofs.text_lemmas.Lines.{pieces_at, pieces_of_line}
use Rattle.monitor_script.specs.EndedLines.{ended_lines}
use Rattle.monitor_script.specs.Feed.{Fed, longer, fed}
use Rattle.monitor_script.proofs.Feeding.{after_lines, lines_output, and_then, feed_newline, feed_other, after_clipped, output_clipped, longer_clipped, is_line_push}

-- the effect of processing bytes s with the unfinished line a: the lines that end in them, and the unfinished line
-- afterwards
pub record Leaves (m : MachineState) (a s : List ℕ) (r : Fed) : Type 0 where
  pub before : List (List ℕ)
  pub last : List ℕ
  pub all : pieces (a ++ s) ≡ before ++ last ∷ []
  pub more : (back : List ℕ) → pieces ((a ++ s) ++ 10 ∷ back) ≡ before ++ last ∷ pieces back
  pub output : r.output ≡ lines_output m before
  pub machine : r.machine ≡ after_lines m before
  pub line : r.line ≡ take 1025 last

at_end : (m : MachineState) (a : List ℕ) → IsLine a → Leaves m a [] (fed m (take 1025 a) [])
at_end m a h = record {
  before = [];
  last = a;
  all = ap pieces (append-nil a) ∙ pieces_of_line a h;
  more = λ back. ap (λ (t : List ℕ). pieces (t ++ 10 ∷ back)) (append-nil a) ∙ pieces_at a back h;
  output = refl;
  machine = refl;
  line = refl;
}

at_newline : (m : MachineState) (a s : List ℕ) → IsLine a → Leaves (after_line m a) [] s (fed (after_line m a) [] s) → Leaves m a (10 ∷ s) (and_then (record { machine = after_line m (take 1025 a); line = []; output = line_output m (take 1025 a) }) s)
at_newline m a s h ih =
    let r : MachineState → Fed = λ v. fed v [] s in
    record {
      before = a ∷ ih.before;
      last = ih.last;
      all = pieces_at a s h ∙ ap (λ (ps : List (List ℕ)). a ∷ ps) ih.all;
      more = λ back. ap pieces (append_assoc a (10 ∷ s) (10 ∷ back)) ∙ pieces_at a (s ++ 10 ∷ back) h ∙ ap (λ (ps : List (List ℕ)). a ∷ ps) (ih.more back);
      output =
          ap (λ (v : MachineState). line_output m (take 1025 a) ++ (r v).output) (after_clipped m a)
          ∙ ap (λ (t : List ℕ). t ++ (r (after_line m a)).output) (output_clipped m a)
          ∙ ap (λ (t : List ℕ). line_output m a ++ t) ih.output;
      machine = ap (λ (v : MachineState). (r v).machine) (after_clipped m a) ∙ ih.machine;
      line = ap (λ (v : MachineState). (r v).line) (after_clipped m a) ∙ ih.line;
    }

at_other : (m : MachineState) (a s : List ℕ) (b : ℕ) → Leaves m (a ++ b ∷ []) s (fed m (take 1025 (a ++ b ∷ [])) s) → Leaves m a (b ∷ s) (and_then (record { machine = m; line = longer (take 1025 a) b; output = [] }) s)
at_other m a s b ih =
    let same : (a ++ b ∷ []) ++ s ≡ a ++ b ∷ s = append_assoc a (b ∷ []) s in
    let r : List ℕ → Fed = λ l. fed m l s in
    let kept : longer (take 1025 a) b ≡ take 1025 (a ++ b ∷ []) = longer_clipped a b in
    record {
      before = ih.before;
      last = ih.last;
      all = sym (ap pieces same) ∙ ih.all;
      more = λ back. sym (ap (λ (t : List ℕ). pieces (t ++ 10 ∷ back)) same) ∙ ih.more back;
      output = ap (λ (l : List ℕ). (r l).output) kept ∙ ih.output;
      machine = ap (λ (l : List ℕ). (r l).machine) kept ∙ ih.machine;
      line = ap (λ (l : List ℕ). (r l).line) kept ∙ ih.line;
    }

leaves : (m : MachineState) (a s : List ℕ) → IsLine a → Leaves m a s (fed m (take 1025 a) s)
leaves m a [] h = at_end m a h
leaves m a (b ∷ s) h =
    of_bool (is_newline b) (λ t. Leaves m a (b ∷ s) (fed m (take 1025 a) (b ∷ s)))
    (λ e. subst (λ (f : Fed). Leaves m a (b ∷ s) (and_then f s)) (sym (feed_newline m (take 1025 a) b e))
    (subst (λ (c : ℕ). Leaves m a (c ∷ s) (and_then (record { machine = after_line m (take 1025 a); line = []; output = line_output m (take 1025 a) }) s)) (sym (eqb-true b 10 e))
    (at_newline m a s h (leaves (after_line m a) [] s refl))))
    (λ e. subst (λ (f : Fed). Leaves m a (b ∷ s) (and_then f s)) (sym (feed_other m (take 1025 a) b e)) (at_other m a s b (leaves m (a ++ b ∷ []) s (is_line_push a b h e))))

-- a script from its start
pub from_start_leaves : (m : MachineState) (s : List ℕ) → Leaves m [] s (fed m [] s)
from_start_leaves m s = leaves m [] s refl

-- the lines before the last are the ended lines
pub ended_are : (m : MachineState) (s : List ℕ) (r : Fed) (l : Leaves m [] s r) → ended_lines s ≡ l.before
unfolding ended_lines
ended_are m s r l =
    let count : length (l.before ++ l.last ∷ []) - 1 ≡ length l.before = omega (arith, length-append l.before (l.last ∷ [])) in
    ap (λ (ps : List (List ℕ)). take (length ps - 1) ps) l.all
    ∙ ap (λ (n : ℕ). take n (l.before ++ l.last ∷ [])) count
    ∙ take-append_seam l.before (l.last ∷ [])

after_all-push : (s : Setup) (w : World) (ls : List (List ℕ)) (l : List ℕ) → after_all s w (ls ++ l ∷ []) ≡ world_after s (after_all s w ls) l
after_all-push s w [] l = refl
after_all-push s w (x ∷ ls) l = after_all-push s (world_after s w x) ls l

pub printed_by_lines-append : (s : Setup) (w : World) (ls more : List (List ℕ)) → printed_by_lines s w (ls ++ more) ≡ printed_by_lines s w ls ++ printed_by_lines s (after_all s w ls) more
printed_by_lines-append s w [] more = refl
printed_by_lines-append s w (x ∷ ls) more =
    ap (λ (t : List ℕ). printed_by_line s w x ++ t) (printed_by_lines-append s (world_after s w x) ls more)
    ∙ sym (append_assoc (printed_by_line s w x) (printed_by_lines s (world_after s w x) ls) (printed_by_lines s (after_all s (world_after s w x) ls) more))

printed_by_lines-push : (s : Setup) (w : World) (ls : List (List ℕ)) (l : List ℕ) → printed_by_lines s w (ls ++ l ∷ []) ≡ printed_by_lines s w ls ++ printed_by_line s (after_all s w ls) l
printed_by_lines-push s w ls l =
    printed_by_lines-append s w ls (l ∷ []) ∙ ap (λ (t : List ℕ). printed_by_lines s w ls ++ t) (append-nil (printed_by_line s (after_all s w ls) l))

-- processing a script byte by byte and then its last line is the same as executing it line by line
pub machine_of_all : (m : MachineState) (s : List ℕ) → after_line (fed m [] s).machine (fed m [] s).line ≡ after_lines m (pieces s)
machine_of_all m s =
    let t = from_start_leaves m s in
    rw (t.line, after_clipped, t.machine)
    (ap (λ (w : World). record m { world = w }) (sym (after_all-push m.setup m.world t.before t.last)) ∙ ap (after_lines m) (sym t.all))

pub output_of_all : (m : MachineState) (s : List ℕ) → (fed m [] s).output ++ line_output (fed m [] s).machine (fed m [] s).line ≡ lines_output m (pieces s)
output_of_all m s =
    let t = from_start_leaves m s in
    rw (t.line, output_clipped, t.machine, t.output) (sym (printed_by_lines-push m.setup m.world t.before t.last) ∙ ap (lines_output m) (sym t.all))

-- each text has at least one piece
pub some_piece : (m : MachineState) (s : List ℕ) → pieces s ≡ [] → ⊥
some_piece m s none =
    let t = from_start_leaves m s in
    let e = ap length (sym t.all ∙ none) in
    omega (arith, length-append t.before (t.last ∷ []), e)
