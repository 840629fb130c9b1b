-- However a run ends, its output is a prefix of the output of a whole script: the bytes that the source has returned,
-- followed by those that it may still return
use Rattle.std.proofs.Common.{◌≡◌, ℕ, ◌+◌, ◌-◌, suc, List, [], ◌∷◌, ◌++◌, length, length-append, take, drop, refl, ap, ◌∙◌, sym, subst, append_assoc, append-nil, arith}
use Rattle.std.specs.Io.{StartsWith}
use Rattle.std.proofs.lemmas.List.{take-append-drop, take_all}
use Rattle.std.proofs.Math.Seq.{take-append-add, take-append_seam}
use Rattle.monitor_machine.specs.MachineState.{MachineState, line_output}
use Rattle.rv_model.specs.machine.Script.{World, after_all, printed_by_line, printed_by_lines, whole_from, world_after}
use Rattle.rv_model.specs.text.Lines.{pieces}
use Rattle.monitor_script.specs.EndedLines.{ended_lines}
use Rattle.monitor_script.specs.FailedWrites.{CutShort}
use Rattle.monitor_script.specs.Feed.{Fed, fed}
use Rattle.monitor_script.proofs.EndedLaws.{output_of_all, printed_by_lines-append}
use Rattle.monitor_script.proofs.Feeding.{fed-append}
use Rattle.monitor_script.proofs.Runs.{output_before_end}

pub begins : (xs prefix rest : List ℕ) → xs ≡ prefix ++ rest → StartsWith xs prefix
begins xs prefix rest e = ap (take (length prefix)) e ∙ take-append_seam prefix rest

-- ---- the ended lines

-- the output after that of the ended lines
after_ended : (m : MachineState) (text rest : List ℕ) → (more : List ℕ) × (whole_from m.setup m.world (text ++ rest) ≡ printed_by_lines m.setup m.world (ended_lines text) ++ more)
unfolding whole_from
after_ended m text rest =
    let one : Fed = fed m [] text in
    let both : Fed = fed m [] (text ++ rest) in
    let two : List ℕ = (fed one.machine one.line rest).output in
    let last : List ℕ = line_output both.machine both.line in (
      two ++ last,
      sym (output_of_all m (text ++ rest))
          ∙ ap (λ (t : List ℕ). t ++ last) ((fed-append m [] text rest).output ∙ ap (λ (t : List ℕ). t ++ two) (output_before_end m text))
          ∙ append_assoc (printed_by_lines m.setup m.world (ended_lines text)) two last,
    )

pub ended_begin : (m : MachineState) (text rest : List ℕ) → StartsWith (whole_from m.setup m.world (text ++ rest)) (printed_by_lines m.setup m.world (ended_lines text))
ended_begin m text rest = let after = after_ended m text rest in begins _ _ after.0 after.1

-- the first n bytes of the text, and its other bytes
first_bytes : (n : ℕ) (text rest : List ℕ) → text ++ rest ≡ take n text ++ (drop n text ++ rest)
first_bytes n text rest = ap (λ (t : List ℕ). t ++ rest) (sym (take-append-drop n text)) ∙ append_assoc (take n text) (drop n text) rest

pub first_begin : (m : MachineState) (n : ℕ) (text rest : List ℕ) → StartsWith (whole_from m.setup m.world (text ++ rest)) (printed_by_lines m.setup m.world (ended_lines (take n text)))
first_begin m n text rest =
    subst (λ (t : List ℕ). StartsWith (whole_from m.setup m.world t) (printed_by_lines m.setup m.world (ended_lines (take n text))))
    (sym (first_bytes n text rest)) (ended_begin m (take n text) (drop n text ++ rest))

-- ---- an incomplete reply

-- a prefix of a reply, after the complete output before it
part_begins : (xs before answer others rest : List ℕ) (n : ℕ) → xs ≡ (before ++ (answer ++ others)) ++ rest → StartsWith xs (before ++ take n answer)
part_begins xs before answer others rest n e =
    let left : List ℕ = drop n answer ++ (others ++ rest) in
    begins xs (before ++ take n answer) left
    (e
    ∙ append_assoc before (answer ++ others) rest
    ∙ ap (λ (t : List ℕ). before ++ t) (append_assoc answer others rest ∙ first_bytes n answer (others ++ rest))
    ∙ sym (append_assoc before (take n answer) left))

-- the ended lines, if another line follows this one
ended_with : (text line next : List ℕ) (before more : List (List ℕ)) → pieces text ≡ before ++ line ∷ next ∷ more → ended_lines text ≡ before ++ line ∷ take (length more) (next ∷ more)
unfolding ended_lines
ended_with text line next before more e =
    let ps : List (List ℕ) = line ∷ next ∷ more in
    let count : length (before ++ ps) - 1 ≡ length before + suc (length more) = omega (arith, length-append before ps) in
    ap (λ (ls : List (List ℕ)). take (length ls - 1) ls) e
    ∙ ap (λ (n : ℕ). take n (before ++ ps)) count
    ∙ take-append-add before ps (suc (length more))

-- a list is empty or non-empty
of_list : {X : Type 0} (xs : List X) (P : Type 0) → (xs ≡ [] → P) → ((y : X) (ys : List X) → xs ≡ y ∷ ys → P) → P
of_list [] P none some = none refl
of_list (y ∷ ys) P none some = some y ys refl

pub cut_short_begins : (m : MachineState) (text rest : List ℕ) (Ended : Type 0) (now : World) (Took : List ℕ → Type 0) (cut : CutShort m text Ended now Took)
    → (Ended → rest ≡ [])
    → StartsWith (whole_from m.setup m.world (text ++ rest)) (printed_by_lines m.setup m.world cut.before ++ take cut.count (printed_by_line m.setup (after_all m.setup m.world cut.before) cut.line))
unfolding whole_from
cut_short_begins m text rest Ended now Took cut none =
    let w : World = after_all m.setup m.world cut.before in
    let whole : List ℕ = whole_from m.setup m.world (text ++ rest) in
    let before : List ℕ = printed_by_lines m.setup m.world cut.before in
    let answer : List ℕ = printed_by_line m.setup w cut.line in
    let lines : (more : List (List ℕ)) → cut.more ≡ more → pieces (take 16777216 text) ≡ cut.before ++ cut.line ∷ more =
    λ more e. cut.lines ∙ ap (λ (ls : List (List ℕ)). cut.before ++ cut.line ∷ ls) e in
    let printed_so : (more : List (List ℕ)) → printed_by_lines m.setup m.world (cut.before ++ cut.line ∷ more) ≡ before ++ (answer ++ printed_by_lines m.setup (world_after m.setup w cut.line) more) =
    λ more. printed_by_lines-append m.setup m.world cut.before (cut.line ∷ more) in
    of_list cut.more (StartsWith whole (before ++ take cut.count answer))
    (λ e.
    let end = cut.last e in
    let all : text ++ rest ≡ take 16777216 text = ap (λ (t : List ℕ). text ++ t) (none end.0) ∙ append-nil text ∙ sym (take_all 16777216 text end.1) in
    part_begins whole before answer [] [] cut.count
    (ap (λ (t : List ℕ). printed_by_lines m.setup m.world (pieces t)) all ∙ ap (printed_by_lines m.setup m.world) (lines [] e) ∙ printed_so [] ∙ sym (append-nil (before ++ (answer ++ [])))))
    (λ next more e.
    let others : List (List ℕ) = take (length more) (next ∷ more) in
    let after = after_ended m (take 16777216 text) (drop 16777216 text ++ rest) in
    let ended = ended_with (take 16777216 text) cut.line next cut.before more (lines (next ∷ more) e) in
    part_begins whole before answer (printed_by_lines m.setup (world_after m.setup w cut.line) others) after.0 cut.count
    (ap (whole_from m.setup m.world) (first_bytes 16777216 text rest) ∙ after.1 ∙ ap (λ (t : List ℕ). t ++ after.0) (ap (printed_by_lines m.setup m.world) ended ∙ printed_so others)))
