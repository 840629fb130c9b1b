use Rattle.std.proofs.Common.{◌++◌, ◌∙◌, ap, ap₂, arith, filter, length, rules}
use Rattle.arrayvec.proofs.ArrayVecLemmas.{filter-from_retain}
use Rattle.monitor_machine.proofs.AddressLaws.{of_ok}
use Rattle.monitor_machine.proofs.address_set.AddressSet.above.Goals as goal

pub returns : goal.returns
returns c =
    let copied = of_ok c.try_extend_from_slice.result _ (c.try_extend_from_slice.ensures.variant.1 (omega (arith, c.as_slice.ensures.few, ap length c.new-above.ensures))) c.try_extend_from_slice.ensures.ok in
    filter-from_retain _ _ _ (λ x b f' y called. search rules) _ _ c.retain.ensures.filtered
    ∙ ap (filter _) (copied ∙ ap₂ (λ xs ys. xs ++ ys) c.new-above.ensures c.as_slice.ensures.value)
