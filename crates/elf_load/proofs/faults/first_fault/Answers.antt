use Rattle.std.proofs.Common.{refl, sym}
use Rattle.elf_load.proofs.FaultLaws.{first_of_parts, entry_is_bad, entry_is_good}
use Rattle.elf_load.proofs.faults.first_fault.Goals as goal

pub returns-in-Some : goal.returns-in-Some
returns-in-Some c = sym (first_of_parts _ _ _ _ _ c.in-Some.ensures refl refl refl)

pub returns-in-Some-table_fault : goal.returns-in-Some-table_fault
returns-in-Some-table_fault c = sym (first_of_parts _ _ _ _ _ c.in_default.ensures c.in-Some-table_fault.ensures refl refl)

pub returns-in-Some-segment_fault : goal.returns-in-Some-segment_fault
returns-in-Some-segment_fault c = sym (first_of_parts _ _ _ _ _ c.in_default.ensures c.in_default-table_fault.ensures c.in-Some-segment_fault.ensures refl)

pub returns-then-entry-ne0 : goal.returns-then-entry-ne0
returns-then-entry-ne0 c =
    sym (first_of_parts _ _ _ _ _ c.in_default.ensures c.in_default-table_fault.ensures c.in_default-segment_fault.ensures (entry_is_bad _ _ c.entry.ensures c.if-entry-ne0.true))

pub returns : goal.returns
returns c =
    sym (first_of_parts _ _ _ _ _ c.in_default.ensures c.in_default-table_fault.ensures c.in_default-segment_fault.ensures (entry_is_good _ _ c.entry.ensures c.if-entry-ne0.false))
