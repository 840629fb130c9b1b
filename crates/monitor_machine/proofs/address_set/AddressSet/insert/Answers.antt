use Rattle.std.proofs.Common.{◌∷◌, ◌++◌, [], ◌∙◌, ap, ap₂, append_assoc, arith, filter, length, nat_lt, rules}
use Rattle.arrayvec.proofs.ArrayVecLemmas.{filter-from_retain}
use Rattle.rv_model.specs.commands.Breakpoints.{with_address}
use Rattle.monitor_machine.proofs.AddressLaws.{of_ok, parts_fit}
use Rattle.monitor_machine.proofs.address_set.AddressSet.insert.Goals as goal

pub returns : goal.returns
unfolding with_address
returns c =
    let addr = c.args.addr in
    let old = c.self.inside.addresses.items in
    let below = filter-from_retain _ (λ a. nat_lt a addr) _ (λ x b f' y called. search rules) _ _ c.retain.ensures.filtered in
    let above = c.as_slice.ensures.value ∙ c.above-above.ensures in
    let same = ap (λ xs. length (filter (λ a. nat_lt addr a) xs)) c.self.view_is in
    of_ok c.try_extend_from_slice.result _
    (c.try_extend_from_slice.ensures.variant.1
    (omega (arith, parts_fit addr old, ap length below, ap length above, ap length c.push.ensures.items, same, ap length c.self.view_is, c.requires)))
    c.try_extend_from_slice.ensures.ok
    ∙ ap₂ (λ xs ys. xs ++ ys) (c.push.ensures.items ∙ ap (λ xs. xs ++ addr ∷ []) below) above
    ∙ append_assoc (filter (λ a. nat_lt a addr) old) (addr ∷ []) _
    ∙ ap (λ xs. filter (λ a. nat_lt a addr) xs ++ addr ∷ filter (λ a. nat_lt addr a) c.args.self.now) c.self.view_is
