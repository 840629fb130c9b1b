use Rattle.test_definitions.proofs.SliceBounds.{grants_are_bounded, lines_are_bounded, only_stops_end_slices, operator_lines_are_bounded, slices_are_a_thousand, slices_take_their_ticks}
use Rattle.test_definitions.proofs.slice_bounds.slices_are_bounded.Goals as goal

pub returns : goal.returns
returns c =
    record {
      slices = slices_take_their_ticks;
      stops = only_stops_end_slices;
      grants = grants_are_bounded;
      numbers = slices_are_a_thousand;
      operator = operator_lines_are_bounded;
      lines = lines_are_bounded;
    }
