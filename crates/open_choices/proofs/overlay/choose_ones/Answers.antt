use Rattle.open_choices.proofs.LimitedGroups.{limited_ones}
use Rattle.open_choices.proofs.overlay.choose_ones.Goals as goal

pub returns-then-is_ready : goal.returns-then-is_ready
returns-then-is_ready g c = λ ready.
    limited_ones c.args.group.now c.args.kinds (g.C.Choices.takes c.args.choices.now) c.limited-some.result c.args.file.now c.fill_group.new.file c.limited-some.ensures c.fill_group.ensures
