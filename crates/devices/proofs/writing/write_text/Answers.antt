use Rattle.std.proofs.Common.{[]}
use Rattle.devices.proofs.writing.write_text.Goals as goal

pub returns-in_default-clause-printed : goal.returns-in_default-clause-printed
returns-in_default-clause-printed g c = ([], g.met.K.Sink.took_none c.args.sink.now)

pub returns-in_default-clause-nothing : goal.returns-in_default-clause-nothing
returns-in_default-clause-nothing g c = λ _. g.met.K.Sink.took_none c.args.sink.now
