use Rattle.devices.proofs.FirstBytes.{result_first}
use Rattle.devices.proofs.reading.read_file.Goals as goal

pub returns-clause-first : goal.returns-clause-first
returns-clause-first g c =
    result_first (λ bytes. bytes.items) c.read_bytes.result c.args.most (g.I.Inputs.file_bytes c.args.inputs.now c.args.path.now) (g.I.File.Read.remaining c.in-Ok.file)
    (g.I.File.Read.remaining c.read_bytes.new.file) c.in-Ok.ensures c.read_bytes.ensures.given c.read_bytes.ensures.most c.read_bytes.ensures.whole
