-- A script processed byte by byte: the meaning of a truncated line, and bytes in two parts
use Rattle.std.proofs.Common.{◌≡◌, ℕ, ◌+◌, ◌<◌, inl, inr, List, [], ◌∷◌, ◌++◌, length, take, Bool, true, false, refl, ap, ◌∙◌, sym, append_assoc, arith, eqb, cond, get_or, drop, drop-cons, add-one}
use Rattle.std.specs.Prelude.{nat_lt, not}
use Rattle.std.proofs.lemmas.Bool.{cases_lt, lt-ltb, and_parts, and_from}
use Rattle.std.proofs.lemmas.List.{take_all, take-take, take_more, take-append-drop, length-take-le, take-append-le}
use Rattle.monitor_machine.specs.MachineState.{MachineState, after_line, line_output}
use Rattle.rv_model.specs.machine.Setup.{Setup}
use Rattle.rv_model.specs.text.Lines.{is_newline, text}
use Rattle.rv_model.proofs.text_lemmas.Newlines.{is_line, IsLine}
use Rattle.rv_model.specs.machine.Script.{World, Kind, kind_of, prefixed, Long, events_of, common, after_events, printed_by_events, printed_by_line, after_all, printed_by_lines, world_after}
use Rattle.monitor_script.specs.Feed.{Fed, longer, feed, fed}

-- truncating a line preserves its kind
kind_clipped : (a : List ℕ) → kind_of (take 1025 a) ≡ kind_of a
unfolding kind_of
kind_clipped a = elim (cases_lt (length a) 1025) [
  | inl short ↦ let e : take 1025 a ≡ a = take_all 1025 a (omega arith) in ap kind_of e
  | inr long ↦
      let len : length (take 1025 a) ≡ 1025 = length-take-le 1025 a long in
      let one : nat_lt 1024 (length (take 1025 a)) ≡ true = lt-ltb _ _ (omega arith) in
      let two : nat_lt 1024 (length a) ≡ true = lt-ltb _ _ (omega arith) in
      ap (λ (b : Bool). cond b Long (prefixed (take 1025 a))) one ∙ sym (ap (λ (b : Bool). cond b Long (prefixed a)) two)
]

pub output_clipped : (m : MachineState) (a : List ℕ) → line_output m (take 1025 a) ≡ line_output m a
unfolding printed_by_line
output_clipped m a = ap (λ (k : Kind). printed_by_events m.setup m.world (events_of m.setup m.world k) ++ text 42 (common m.setup m.world k)) (kind_clipped a)

world_clipped : (s : Setup) (w : World) (a : List ℕ) → world_after s w (take 1025 a) ≡ world_after s w a
unfolding world_after
world_clipped s w a = ap (λ (k : Kind). after_events s w (events_of s w k)) (kind_clipped a)

pub after_clipped : (m : MachineState) (a : List ℕ) → after_line m (take 1025 a) ≡ after_line m a
after_clipped m a = ap (λ (w : World). record m { world = w }) (world_clipped m.setup m.world a)

pub longer_clipped : (a : List ℕ) (b : ℕ) → longer (take 1025 a) b ≡ take 1025 (a ++ b ∷ [])
longer_clipped a b = elim (cases_lt (length a) 1025) [
  | inl short ↦ let e : take 1025 a ≡ a = take_all 1025 a (omega arith) in ap (λ (l : List ℕ). take 1025 (l ++ b ∷ [])) e
  | inr long ↦
      let len : length (take 1025 a) ≡ 1025 = length-take-le 1025 a long in
      take-append-le 1025 (take 1025 a) (b ∷ []) (omega arith) ∙ take-take 1025 1025 a (omega arith) ∙ sym (take-append-le 1025 a (b ∷ []) long)
]

pub is_line_push : (a : List ℕ) (b : ℕ) → IsLine a → is_newline b ≡ false → IsLine (a ++ b ∷ [])
is_line_push [] b h other = rw other refl
is_line_push (c ∷ a) b h other =
    let two = and_parts (not (is_newline c)) (is_line a) h in
    and_from (not (is_newline c)) (is_line (a ++ b ∷ [])) two.0 (is_line_push a b two.1 other)

-- the machine after all lines, and their output
abbrev pub after_lines : MachineState → List (List ℕ) → MachineState
after_lines m lines = record m { world = after_all m.setup m.world lines }

abbrev pub lines_output : MachineState → List (List ℕ) → List ℕ
lines_output m lines = printed_by_lines m.setup m.world lines

-- processing one byte, and then the others
abbrev pub and_then : Fed → List ℕ → Fed
and_then one s =
    let rest = fed one.machine one.line s in
    record { machine = rest.machine; line = rest.line; output = one.output ++ rest.output }

pub feed_newline : (m : MachineState) (line : List ℕ) (b : ℕ) → is_newline b ≡ true → feed m line b ≡ record { machine = after_line m line; line = []; output = line_output m line }
unfolding feed
feed_newline m line b e = let e' : eqb b 10 ≡ true = e in rw e' refl

pub feed_other : (m : MachineState) (line : List ℕ) (b : ℕ) → is_newline b ≡ false → feed m line b ≡ record { machine = m; line = longer line b; output = [] }
unfolding feed
feed_other m line b e = let e' : eqb b 10 ≡ false = e in rw e' refl

-- a script in two parts
pub record InTwo (r one two : Fed) : Type 0 where
  pub machine : r.machine ≡ two.machine
  pub line : r.line ≡ two.line
  pub output : r.output ≡ one.output ++ two.output

pub fed-append : (m : MachineState) (line a b : List ℕ) → InTwo (fed m line (a ++ b)) (fed m line a) (fed (fed m line a).machine (fed m line a).line b)
fed-append m line [] b = record { machine = refl; line = refl; output = refl }
fed-append m line (c ∷ a) b =
    let one : Fed = feed m line c in
    let ih = fed-append one.machine one.line a b in
    let two : Fed = fed one.machine one.line a in
    record {
      machine = ih.machine;
      line = ih.line;
      output = ap (λ (t : List ℕ). one.output ++ t) ih.output ∙ sym (append_assoc one.output two.output (fed two.machine two.line b).output);
    }

-- a machine that has processed a prefix of some bytes processes the following bytes
pub goes_on : (m0 : MachineState) (line0 whole front read : List ℕ) (m : MachineState) (line : List ℕ) → whole ≡ front ++ read → m ≡ (fed m0 line0 front).machine → line ≡ (fed m0 line0 front).line → InTwo (fed m0 line0 whole) (fed m0 line0 front) (fed m line read)
goes_on m0 line0 whole front read m line e p l = rw (e, p, l) (fed-append m0 line0 front read)

-- one more byte of some bytes
pub one_more : (m0 : MachineState) (line0 bytes : List ℕ) (i : ℕ) (m : MachineState) (line : List ℕ) → i < length bytes → m ≡ (fed m0 line0 (take i bytes)).machine → line ≡ (fed m0 line0 (take i bytes)).line → InTwo (fed m0 line0 (take (i + 1) bytes)) (fed m0 line0 (take i bytes)) (fed m line (get_or bytes i 0 ∷ []))
one_more m0 line0 bytes i m line within p l =
    goes_on m0 line0 (take (i + 1) bytes) (take i bytes) (get_or bytes i 0 ∷ []) m line (take_more bytes i 0 within) p l

-- a list of bytes is the bytes before an index, the byte at the index, and the bytes after it
pub split_at_byte : (bytes : List ℕ) (i b : ℕ) → i < length bytes → get_or bytes i 0 ≡ b → bytes ≡ take i bytes ++ b ∷ drop (i + 1) bytes
split_at_byte bytes i b within here =
    sym (take-append-drop i bytes)
    ∙ ap (λ (x : List ℕ). take i bytes ++ x) (rw (add-one) (drop-cons bytes i 0 within))
    ∙ ap (λ (c : ℕ). take i bytes ++ c ∷ drop (i + 1) bytes) here
