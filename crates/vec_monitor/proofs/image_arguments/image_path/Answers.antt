use Rattle.std.proofs.Common.{rules, arith}
use Rattle.vec_monitor.proofs.ImageArgumentLaws.{lacks, splits}
use Rattle.vec_monitor.proofs.image_arguments.image_path.Goals as goal

pub returns-in_err-name : goal.returns-in_err-name
returns-in_err-name c =
    let none = c.in_err-name.ensures.byte (omega arith) (λ w o h. h) in
    let without = lacks c.args.word.now none in
    search (rules, without)

pub returns : goal.returns
returns c =
    let parts = c.in_ok-name.ensures.byte (omega arith) (λ w o h. h) in
    splits c.args.word.now c.in_ok-name.name.now c.in_ok-name.path.now parts.0 parts.1 parts.2
