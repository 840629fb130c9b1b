use Rattle.std.proofs.Common.{◌+◌, ◌%◌, ◌^◌, ◌∙◌, subst, sym}
use Rattle.recording.specs.Machines.{state_of}
use Rattle.recording.specs.OpenRuns.{IsOpenAt}
use Rattle.recording.proofs.OpenChoices.{elements_leave, first_seeded, length_leaves, next_seeded, nothing_leaves, stopped, trim_leaves}
use Rattle.recording.proofs.open_chooser.OpenChooserChooser.choose.Goals as goal

pub returns-then-not-has_run-clause-state : goal.returns-then-not-has_run-clause-state
returns-then-not-has_run-clause-state g c = λ before found ticks prepared made.
    stopped found (state_of g.M.UserBytes.memory c.args.machine.now) c.args.end ticks made c.args.self.now.seed ((c.args.self.now.done + 1) % 2 ^ 64) (sym c.has_run.ensures ∙ c.if-not-has_run.true)
    ∙ first_seeded c.args.self.now.seed before.seed c.args.self.now.done before.done found prepared.0 prepared.1

pub returns-then-not-has_run-clause-next : goal.returns-then-not-has_run-clause-next
returns-then-not-has_run-clause-next g c = λ before found prepared.
    next_seeded c.args.self.now.seed before.seed c.args.self.now.done before.done prepared.0 prepared.1

pub returns-in-Nothing-clause-state : goal.returns-in-Nothing-clause-state
returns-in-Nothing-clause-state g c = λ before found ticks prepared made.
    nothing_leaves found (state_of g.M.UserBytes.memory c.args.machine.now) c.args.end ticks made c.args.self.now.seed ((c.args.self.now.done + 1) % 2 ^ 64)
    (sym c.has_run.ensures ∙ c.if-not-has_run.false) (subst (IsOpenAt found) c.in-Nothing.is prepared.2)
    ∙ first_seeded c.args.self.now.seed before.seed c.args.self.now.done before.done found prepared.0 prepared.1

pub returns-in-Nothing-clause-next : goal.returns-in-Nothing-clause-next
returns-in-Nothing-clause-next g c = λ before found prepared.
    next_seeded c.args.self.now.seed before.seed c.args.self.now.done before.done prepared.0 prepared.1

pub returns-in-Elements-clause-state : goal.returns-in-Elements-clause-state
returns-in-Elements-clause-state g c = λ before found ticks prepared made.
    elements_leave found (state_of g.M.UserBytes.memory c.args.machine.now) c.args.end ticks made c.args.self.now.seed ((c.args.self.now.done + 1) % 2 ^ 64)
    (sym c.has_run.ensures ∙ c.if-not-has_run.false) c.in-Elements.group c.choose_ones.new.file (subst (IsOpenAt found) c.in-Elements.is prepared.2) c.choose_ones.ensures
    ∙ first_seeded c.args.self.now.seed before.seed c.args.self.now.done before.done found prepared.0 prepared.1

pub returns-in-Elements-clause-next : goal.returns-in-Elements-clause-next
returns-in-Elements-clause-next g c = λ before found prepared.
    next_seeded c.args.self.now.seed before.seed c.args.self.now.done before.done prepared.0 prepared.1

pub returns-in-Length-clause-state : goal.returns-in-Length-clause-state
returns-in-Length-clause-state g c = λ before found ticks prepared made.
    length_leaves found (state_of g.M.UserBytes.memory c.args.machine.now) c.args.end ticks made c.args.self.now.seed ((c.args.self.now.done + 1) % 2 ^ 64)
    (sym c.has_run.ensures ∙ c.if-not-has_run.false) c.in-Length.rd c.in-Length.length c.choose_length.new.conf c.choose_length.new.scalar (subst (IsOpenAt found) c.in-Length.is prepared.2)
    c.choose_length.ensures.conf c.choose_length.ensures.scalar
    ∙ first_seeded c.args.self.now.seed before.seed c.args.self.now.done before.done found prepared.0 prepared.1

pub returns-in-Length-clause-next : goal.returns-in-Length-clause-next
returns-in-Length-clause-next g c = λ before found prepared.
    next_seeded c.args.self.now.seed before.seed c.args.self.now.done before.done prepared.0 prepared.1

pub returns-in-FirstOnly-clause-state : goal.returns-in-FirstOnly-clause-state
returns-in-FirstOnly-clause-state g c = λ before found ticks prepared made.
    trim_leaves found (state_of g.M.UserBytes.memory c.args.machine.now) c.args.end ticks made c.args.self.now.seed ((c.args.self.now.done + 1) % 2 ^ 64)
    (sym c.has_run.ensures ∙ c.if-not-has_run.false) c.in-FirstOnly.vstart c.choose_trim.new.conf (subst (IsOpenAt found) c.in-FirstOnly.is prepared.2) c.choose_trim.ensures
    ∙ first_seeded c.args.self.now.seed before.seed c.args.self.now.done before.done found prepared.0 prepared.1

pub returns-in-FirstOnly-clause-next : goal.returns-in-FirstOnly-clause-next
returns-in-FirstOnly-clause-next g c = λ before found prepared.
    next_seeded c.args.self.now.seed before.seed c.args.self.now.done before.done prepared.0 prepared.1
