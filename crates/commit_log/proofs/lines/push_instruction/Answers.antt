use Rattle.std.proofs.Common.{ap, sym, subst, ◌∙◌, ◌++◌, ◌∷◌, [], ℕ, flat_map, if◌then◌else◌}
use Rattle.rv_model.specs.step.Step.{is_vector}
use Rattle.rv_model.specs.vector.Groups.{Configuration}
use Rattle.commit_log.specs.LineTexts.{configuration_text, control_text, moved_text, place_text, scalar_text, vector_text}
use Rattle.commit_log.specs.Lines.{printed_configuration, printed_controls, printed_moved, printed_scalar, printed_vectors}
use Rattle.rv_model.specs.step.Targets.{scalar_target}
use Rattle.commit_log.specs.Finds.{Retires}
use Rattle.commit_log.specs.Targets.{vector_targets}
use Rattle.commit_log.proofs.Steps.{line_pushed}
use Rattle.commit_log.proofs.lines.push_instruction.Goals as goal

pub returns-clause-text : goal.returns-clause-text
returns-clause-text c = λ word s finds retires.
    let a = c.args in
    let text = a.text.now in
    let i = a.instr.now in
    let v = a.vector.now in
    let t1 = c.push_place.new.text in
    let t3 = c.push_changes.new.text in
    let scalars = flat_map scalar_text (printed_scalar (scalar_target i) a.scalar.now) in
    let conf = flat_map configuration_text (if is_vector i then printed_configuration v.conf else []) in
    line_pushed text t1 c.push_registers.new.text t3 c.push_memory.new.text c.push.new.self
    (place_text s.scalar.pc word) scalars conf
    (flat_map vector_text (printed_vectors v.file (vector_targets i s.vector.conf.vtype)))
    (flat_map control_text (printed_controls s.vector v))
    (flat_map moved_text (printed_moved i s v.conf.vl)) (10 ∷ [])
    (c.push_place.ensures.text
    ∙ ap (λ (pc : ℕ). text ++ place_text pc a.found.now.word) finds.pc_is
    ∙ ap (λ (w : ℕ). text ++ place_text s.scalar.pc w) finds.word_is)
    (c.push_registers.ensures.text
    ∙ ap (λ (f : Configuration). ((t1 ++ scalars) ++ conf) ++ flat_map vector_text (printed_vectors v.file (vector_targets i f.vtype))) finds.controls.conf_is)
    (c.push_changes.ensures.text s.vector finds.controls)
    (c.push_memory.ensures.text word s finds (subst (λ (n : ℕ). Retires i s.vector n) (sym c.vl.ensures.value) retires)
    ∙ ap (λ (n : ℕ). t3 ++ flat_map moved_text (printed_moved i s n)) c.vl.ensures.value)
    c.push.ensures
