use Rattle.std.proofs.Common.{◌∙◌, ℕ, ap, sym}
use Rattle.std.specs.Int.{byte_len}
use Rattle.rv_model.specs.declared.memory.Access.TheVariants.{Load}
use Rattle.rv_model.specs.scalar.LoadsAndStores.{extended, load_width}
use Rattle.hart.proofs.FirstBytes.{can_access-fewer, load_len-le, load_reads}
use Rattle.hart.proofs.loads_and_stores.load_value.Goals as goal

pub returns-then-try_read-clause-allowed : goal.returns-then-try_read-clause-allowed
returns-then-try_read-clause-allowed g c =
    sym (can_access-fewer Load (g.M.UserBytes.memory c.args.memory.now) c.args.addr 8 (byte_len (load_width c.args.op)) (load_len-le c.args.op).1 (c.try_read.ensures.allowed c.if-try_read.true))

pub returns-then-try_read-clause-value : goal.returns-then-try_read-clause-value
returns-then-try_read-clause-value g c = λ _.
    c.loaded.ensures
    ∙ ap (λ (n : ℕ). extended c.args.op n) (load_reads c.args.op (g.M.UserBytes.memory c.args.memory.now) c.args.addr _ (c.try_read.ensures.value c.if-try_read.true))
