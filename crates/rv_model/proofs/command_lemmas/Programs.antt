-- The lines that program commands print contain no newline.
use Rattle.std.proofs.Common.{ℕ, List, refl}
use Rattle.std.specs.Prelude.{codes}
use Rattle.rv_model.specs.assembler.Table.{canonical}
use Rattle.rv_model.specs.commands.Programs.{loaded_line, asm_line, dis_line, dis_lines}
use Rattle.rv_model.proofs.text_lemmas.Newlines.{IsLine, AreLines}
use Rattle.rv_model.proofs.assembler_lemmas.Lines.{canonical_line}
use Rattle.rv_model.proofs.command_lemmas.Printing.{mapped_lines}
use Rattle.rv_model.proofs.text_lemmas.Pieces.{◌▸◌, hexadecimal, short_hexadecimal, number, space}

pub no_newline_in_loaded_line : (pc pages : ℕ) → IsLine (loaded_line pc pages)
unfolding loaded_line
no_newline_in_loaded_line pc pages =
    ((codes "loaded pc=", refl) ▸ hexadecimal pc ▸ (codes " pages=", refl) ▸ number pages).1

pub no_newline_in_asm_line : (addr word : ℕ) → IsLine (asm_line addr word)
unfolding asm_line
no_newline_in_asm_line addr word = (hexadecimal addr ▸ space ▸ short_hexadecimal word).1

no_newline_in_dis_line : (addr word : ℕ) → IsLine (dis_line addr word)
unfolding dis_line
no_newline_in_dis_line addr word =
    ((asm_line addr word, no_newline_in_asm_line addr word) ▸ space ▸ (canonical word, canonical_line word)).1

pub dis_lines_are_lines : (addr count : ℕ) (shown : List ℕ) → AreLines (dis_lines addr count shown)
unfolding dis_lines
dis_lines_are_lines addr count shown = search (mapped_lines, no_newline_in_dis_line)
