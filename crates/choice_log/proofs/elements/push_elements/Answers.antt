use Rattle.std.proofs.Common.{◌∙◌, ◌++◌, [], Bool, List, ℕ, ap, append-nil, arith, flat_map, if◌then◌else◌, length, sym}
use Rattle.std.specs.List.{range_with_len}
use Rattle.open_choices.specs.Groups.{fill_of_group}
use Rattle.choice_log.specs.ChoiceLines.{element_text, is_listed, spaced}
use Rattle.choice_log.proofs.Texts.{texts_more}
use Rattle.choice_log.proofs.elements.push_elements.Goals.{then-is_listed, else-is_listed}
use Rattle.choice_log.proofs.elements.push_elements.Goals as goal

pub loop-e-preserved : goal.loop-e-preserved
loop-e-preserved c =
    let e : ℕ = c.loop-e.e in
    let listed : ℕ → Bool = is_listed c.args.tail c.args.choices.now.seed c.args.choices.now.number (fill_of_group c.args.group.now) in
    let before : List ℕ = flat_map (element_text listed) (range_with_len 0 e) in
    elim c.if-is_listed.branch [
      | then-is_listed w ↦ record {
        text = w.reply-is ∙ (w.push_element.ensures.text ∙ (ap (λ (l : List ℕ). l ++ spaced e) c.loop-e.invariant.text
            ∙ (ap (λ (b : Bool). before ++ (if b then spaced e else [])) (sym (sym c.is_listed.ensures ∙ w.if-is_listed.true)) ∙ texts_more (element_text listed) e)));
        room = let same = ap length w.reply-is in omega (arith, same, w.push_element.ensures.bound, c.loop-e.invariant.room);
      }
      | else-is_listed w ↦ record {
        text = w.reply-is ∙ (c.loop-e.invariant.text ∙ (sym (append-nil before)
            ∙ (ap (λ (b : Bool). before ++ (if b then spaced e else [])) (sym (sym c.is_listed.ensures ∙ w.if-is_listed.false)) ∙ texts_more (element_text listed) e)));
        room = let same = ap length w.reply-is in omega (arith, same, c.loop-e.invariant.room);
      }
    ]
