-- Rule sets with which the tactics determine a user's machine and the output after commands and slices.
use Rattle.monitor_machine.specs.UserAdapters.{memory_there, same_memory}
use Rattle.monitor_machine.proofs.CutLaws.{configured_as}
use Rattle.monitor_machine.proofs.GrantLaws.{one_run_count, one_run_printed, one_run_world, stops_room_is_small}
use Rattle.monitor_machine.proofs.MemoryOutcomes.{maps_accepted, maps_refused, pokes_accepted, pokes_refused}
use Rattle.monitor_machine.proofs.PartLaws.{absent_as, entered_as, unit_stays}
use Rattle.monitor_machine.proofs.ProgramOutcomes.{assembles_mapped, assembles_unmapped, loads_named, loads_unknown}
use Rattle.monitor_machine.proofs.UnusedUnit.{assembles_unused, breakpoints_unused, halts_unused, memory_unused, shows_unused}

-- the vector unit and the memories are unchanged
pub ruleset stays = (unit_stays, same_memory)

-- the user has entered, is absent, or either
pub ruleset present = (entered_as, same_memory, unit_stays)

-- also if a group's commands don't use the vector unit
pub ruleset groups = (entered_as, same_memory, memory_unused, breakpoints_unused)

pub ruleset programs = (entered_as, same_memory, assembles_unused, shows_unused)

pub ruleset telling = (entered_as, same_memory, unit_stays, halts_unused)

pub ruleset absent = (absent_as, same_memory, unit_stays)

pub ruleset either = (entered_as, absent_as, unit_stays, same_memory)

-- commands, by the results of their tests
pub ruleset entering = (memory_there, same_memory, absent_as, unit_stays)

pub ruleset leaving = (entered_as, memory_there, same_memory, unit_stays)

pub ruleset mapping = (memory_there, maps_accepted, maps_refused)

pub ruleset poking = (memory_there, pokes_accepted, pokes_refused)

pub ruleset assembling = (memory_there, assembles_unmapped, assembles_mapped)

pub ruleset loading = (entered_as, unit_stays, same_memory, loads_unknown, loads_named)

-- a slice that is granted, and one that the operator requests
pub ruleset granting = (same_memory, unit_stays, configured_as)

pub ruleset running = (stops_room_is_small, one_run_world, one_run_printed, one_run_count)
