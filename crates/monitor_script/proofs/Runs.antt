-- A run of a script: each read, and the end
use Rattle.std.proofs.Common.{◌≡◌, ℕ, ◌+◌, ◌-◌, ◌<◌, ◌≤◌, ◌++◌, [], ◌∷◌, List, length, length-append, take, ap, ◌∙◌, sym, append_assoc, append-nil, arith, None, refl, subst}
use Rattle.std.proofs.lemmas.List.{get_or-replicate, take_all}
use Rattle.std.proofs.Math.Seq.{take-append-add}
use Rattle.monitor_machine.specs.MachineState.{MachineState, after_line, line_output}
use Rattle.rv_model.specs.machine.Script.{World, after_all, printed_by_line, printed_by_lines, whole_from, after_script, lines, own, own_from, new_world, user_machine}
use Rattle.rv_model.specs.machine.World.{Private, solo, solo_from}
use Rattle.rv_model.specs.text.Lines.{pieces}
use Rattle.rv_model.proofs.machine_lemmas.Headline.{headline, length-after_all}
use Rattle.monitor_script.specs.EndedLines.{ended_lines}
use Rattle.monitor_script.specs.FailedWrites.{CutShort}
use Rattle.monitor_script.specs.Feed.{Fed, Cut, fed}
use Rattle.monitor_script.proofs.EndedLaws.{from_start_leaves, ended_are, machine_of_all, output_of_all, some_piece}
use Rattle.monitor_script.proofs.Feeding.{InTwo, goes_on, after_clipped, output_clipped}

-- a read of no bytes
pub nothing_read : (front buffer : List ℕ) (n : ℕ) → n ≡ 0 → front ++ take n buffer ≡ front
nothing_read front buffer n zero = ap (λ (k : ℕ). front ++ take k buffer) zero ∙ append-nil front

-- the bytes read so far have been processed, and at most `left` more may follow
pub record SoFar (m0 : MachineState) (front : List ℕ) (m : MachineState) (l : List ℕ) (left : ℕ) : Type 0 where
  pub limit : length front + left ≡ 16777216
  pub machine : m ≡ (fed m0 [] front).machine
  pub line : l ≡ (fed m0 [] front).line

-- one more piece
pub so_far_more : (m0 : MachineState) (front piece : List ℕ) (m m' : MachineState) (line line' : List ℕ) (left left' : ℕ) → SoFar m0 front m line left → left' + length piece ≡ left → m' ≡ (fed m line piece).machine → line' ≡ (fed m line piece).line → SoFar m0 (front ++ piece) m' line' left'
so_far_more m0 front piece m m' line line' left left' s few p l =
    let on = goes_on m0 [] (front ++ piece) front piece m line refl s.machine s.line in
    let limit = s.limit in
    record {
      limit = omega (arith, limit, few, length-append front piece);
      machine = p ∙ sym on.machine;
      line = l ∙ sym on.line;
    }

pub output_more : (m0 : MachineState) (front piece : List ℕ) (m : MachineState) (line : List ℕ) (left : ℕ) → SoFar m0 front m line left → (fed m0 [] front).output ++ (fed m line piece).output ≡ (fed m0 [] (front ++ piece)).output
output_more m0 front piece m line left s = sym (goes_on m0 [] (front ++ piece) front piece m line refl s.machine s.line).output

-- the first 16,777,216 of the bytes read
pub first_limit : (front piece : List ℕ) (left : ℕ) → length front + left ≡ 16777216 → take 16777216 (front ++ piece) ≡ front ++ take left piece
first_limit front piece left limit =
    ap (λ (k : ℕ). take k (front ++ piece)) (sym limit) ∙ take-append-add front piece left

pub front_limit : (front : List ℕ) (left : ℕ) → length front + left ≡ 16777216 → take 16777216 front ≡ front
front_limit front left limit = take_all 16777216 front (omega (arith, limit))

-- at the end of the script
pub world_ends : (m0 : MachineState) (script : List ℕ) (m m' : MachineState) (line : List ℕ) (left : ℕ) → SoFar m0 script m line left → m' ≡ after_line m line → m'.world ≡ after_script m0.setup m0.world script
unfolding after_script
world_ends m0 script m m' line left s e =
    ap (λ (v : MachineState). v.world)
    (e ∙ ap (after_line m) s.line ∙ ap (λ (v : MachineState). after_line v (fed m0 [] script).line) s.machine ∙ machine_of_all m0 script)

pub output_ends : (m0 : MachineState) (script : List ℕ) (m : MachineState) (line : List ℕ) (left : ℕ) → SoFar m0 script m line left → (fed m0 [] script).output ++ line_output m line ≡ whole_from m0.setup m0.world script
unfolding whole_from
output_ends m0 script m line left s =
    ap (λ (x : List ℕ). (fed m0 [] script).output ++ line_output m x) s.line
    ∙ ap (λ (v : MachineState). (fed m0 [] script).output ++ line_output v (fed m0 [] script).line) s.machine
    ∙ output_of_all m0 script

-- before the end of the script
pub world_before_end : (m0 m : MachineState) (text : List ℕ) → m ≡ (fed m0 [] text).machine → m.world ≡ after_all m0.setup m0.world (ended_lines text)
world_before_end m0 m text p =
    let l = from_start_leaves m0 text in
    ap (λ (v : MachineState). v.world) (p ∙ l.machine) ∙ ap (after_all m0.setup m0.world) (sym (ended_are m0 text (fed m0 [] text) l))

pub output_before_end : (m0 : MachineState) (text : List ℕ) → (fed m0 [] text).output ≡ printed_by_lines m0.setup m0.world (ended_lines text)
output_before_end m0 text =
    let l = from_start_leaves m0 text in
    l.output ∙ ap (printed_by_lines m0.setup m0.world) (sym (ended_are m0 text (fed m0 [] text) l))

-- if the script is too long
pub world_too_long : (m0 : MachineState) (front piece : List ℕ) (m m' : MachineState) (line : List ℕ) (left : ℕ) → SoFar m0 front m line left → m' ≡ (fed m line (take left piece)).machine → m'.world ≡ after_all m0.setup m0.world (ended_lines (take 16777216 (front ++ piece)))
world_too_long m0 front piece m m' line left s p =
    let text : List ℕ = take 16777216 (front ++ piece) in
    let on = goes_on m0 [] text front (take left piece) m line (first_limit front piece left s.limit) s.machine s.line in
    world_before_end m0 m' text (p ∙ sym on.machine)

pub output_too_long : (m0 : MachineState) (front piece : List ℕ) (m : MachineState) (line : List ℕ) (left : ℕ) → SoFar m0 front m line left → (fed m0 [] front).output ++ (fed m line (take left piece)).output ≡ printed_by_lines m0.setup m0.world (ended_lines (take 16777216 (front ++ piece)))
output_too_long m0 front piece m line left s =
    let text : List ℕ = take 16777216 (front ++ piece) in
    let on = goes_on m0 [] text front (take left piece) m line (first_limit front piece left s.limit) s.machine s.line in
    sym on.output ∙ output_before_end m0 text

-- a line whose reply can't be written; `whole` is the bytes processed before the line's end
cut_at : (m0 : MachineState) (text whole : List ℕ) (more : List (List ℕ)) (Ended : Type 0) (m m' : MachineState) (line : List ℕ) (n : ℕ) (Took : List ℕ → Type 0)
    → pieces (take 16777216 text) ≡ (from_start_leaves m0 whole).before ++ (from_start_leaves m0 whole).last ∷ more → (more ≡ [] → Ended × (length text ≤ 16777216))
    → m ≡ (fed m0 [] whole).machine → line ≡ (fed m0 [] whole).line → m' ≡ after_line m line → n < length (line_output m line)
    → Took ((fed m0 [] whole).output ++ take n (line_output m line)) → CutShort m0 text Ended m'.world Took
cut_at m0 text whole more Ended m m' line n Took ps last p l e less took =
    let t = from_start_leaves m0 whole in
    let w : World = after_all m0.setup m0.world t.before in
    let same : line_output m line ≡ printed_by_line m0.setup w t.last =
    ap (line_output m) (l ∙ t.line) ∙ output_clipped m t.last ∙ ap (λ (v : MachineState). line_output v t.last) (p ∙ t.machine) in
    record {
      before = t.before;
      line = t.last;
      more = more;
      count = n;
      lines = ps;
      last = last;
      world =
          ap (λ (v : MachineState). v.world)
          (e ∙ ap (after_line m) (l ∙ t.line) ∙ after_clipped m t.last ∙ ap (λ (v : MachineState). after_line v t.last) (p ∙ t.machine));
      less = omega (arith, less, ap length same);
      output = subst Took
          (ap (λ (x : List ℕ). (fed m0 [] whole).output ++ take n x) same ∙ ap (λ (x : List ℕ). x ++ take n (printed_by_line m0.setup w t.last)) t.output) took;
    }

-- the reply to the last line
pub cut_at_end : (m0 : MachineState) (text : List ℕ) (Ended : Type 0) (m m' : MachineState) (line : List ℕ) (left n : ℕ) (Took : List ℕ → Type 0)
    → SoFar m0 text m line left → Ended → m' ≡ after_line m line → n < length (line_output m line)
    → Took ((fed m0 [] text).output ++ take n (line_output m line)) → CutShort m0 text Ended m'.world Took
cut_at_end m0 text Ended m m' line left n Took s ended e less took =
    let limit = s.limit in
    cut_at m0 text text [] Ended m m' line n Took
    (ap pieces (front_limit text left s.limit) ∙ (from_start_leaves m0 text).all) (λ none. (ended, omega (arith, limit))) s.machine s.line e less took

-- the reply to a line that ends in a piece
pub cut_in_piece : (m0 : MachineState) (front piece : List ℕ) (Ended : Type 0) (m m' : MachineState) (line : List ℕ) (left : ℕ) (Before Took : List ℕ → Type 0)
    → SoFar m0 front m line left → Cut m line (take left piece) Before m' → ((xs : List ℕ) → Before xs → Took ((fed m0 [] front).output ++ xs))
    → CutShort m0 (front ++ piece) Ended m'.world Took
cut_in_piece m0 front piece Ended m m' line left Before Took s cut joined =
    let read : List ℕ = cut.front in
    let whole : List ℕ = front ++ read in
    let one : Fed = fed m line read in
    let on : InTwo (fed m0 [] whole) (fed m0 [] front) one = goes_on m0 [] whole front read m line refl s.machine s.line in
    let t = from_start_leaves m0 whole in
    let text = first_limit front piece left s.limit ∙ ap (λ (x : List ℕ). front ++ x) cut.newline ∙ sym (append_assoc front read (10 ∷ cut.back)) in
    let out : List ℕ = (fed m0 [] front).output in
    let part : List ℕ = take cut.count (line_output one.machine one.line) in
    cut_at m0 (front ++ piece) whole (pieces cut.back) Ended one.machine m' one.line cut.count Took
    (ap pieces text ∙ t.more cut.back) (λ none. absurd (some_piece m0 cut.back none)) (sym on.machine) (sym on.line) cut.machine cut.less
    (subst Took (sym (append_assoc out one.output part) ∙ ap (λ (x : List ℕ). x ++ part) (sym on.output)) (joined (one.output ++ part) cut.output))

-- executing a script preserves the number of users, 8
pub eight_before : (m : MachineState) (now : World) (script : List ℕ) → now ≡ after_script m.setup m.world script → length now.parts ≡ 8 → length m.world.parts ≡ 8
unfolding after_script
eight_before m now script e eight = sym (length-after_all m.setup m.world (pieces script)) ∙ sym (ap (λ (w : World). length w.parts) e) ∙ eight

new_part : (u : ℕ) → 1 ≤ u → u ≤ 8 → user_machine u new_world ≡ None
unfolding new_world
new_part u low high = get_or-replicate 8 (u - 1) None None (omega arith)

-- the headline for a new machine
pub new_headline : (m : MachineState) (script : List ℕ) → length m.world.parts ≡ 8 → m.world ≡ new_world → (u : ℕ) → 1 ≤ u → u ≤ 8 → lines u (whole_from m.setup m.world script) ≡ solo m.setup (own m.setup u script)
new_headline m script eight new u low high =
    headline m.setup u m.world script low high eight
    ∙ ap (λ (w : World). solo_from m.setup (user_machine u w) (own_from m.setup u w script)) new
    ∙ ap (λ (p : Private). solo_from m.setup p (own m.setup u script)) (new_part u low high)
