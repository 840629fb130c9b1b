-- The lines that breakpoint commands print contain no newline.
use Rattle.std.proofs.Common.{ℕ, List}
use Rattle.rv_model.specs.commands.Breakpoints.{breaks_line}
use Rattle.rv_model.specs.commands.Printing.{listed}
use Rattle.rv_model.proofs.text_lemmas.Newlines.{IsLine}
use Rattle.rv_model.proofs.command_lemmas.Printing.{no_newline_in_listed}
use Rattle.rv_model.proofs.text_lemmas.Pieces.{flat_map_line}

pub no_newline_in_breaks_line : (addresses : List ℕ) → IsLine (breaks_line addresses)
unfolding breaks_line
no_newline_in_breaks_line addresses = search (flat_map_line, listed, no_newline_in_listed)
