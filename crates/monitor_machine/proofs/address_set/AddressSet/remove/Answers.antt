use Rattle.std.proofs.Common.{◌∙◌, ap, eqb, not, rules}
use Rattle.arrayvec.proofs.ArrayVecLemmas.{filter-from_retain}
use Rattle.rv_model.specs.commands.Breakpoints.{without_address}
use Rattle.monitor_machine.proofs.address_set.AddressSet.remove.Goals as goal

pub returns : goal.returns
unfolding without_address
returns c = filter-from_retain _ (λ a. not (eqb a c.args.addr)) _ (λ x b f' y called. search rules) _ _ c.retain.ensures.filtered ∙ ap (without_address c.args.addr) c.self.view_is
