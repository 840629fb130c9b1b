use Rattle.reg_groups.proofs.legality.is_legal.Goals as goal

pub returns-in-Access : goal.returns-in-Access
returns-in-Access c = rw c.in-Access.is (c.legal_access.ensures c.args.vstart)
