-- The lines that memory commands print contain no newline.
use Rattle.std.proofs.Common.{ℕ, List, refl}
use Rattle.std.specs.Prelude.{codes}
use Rattle.rv_model.specs.commands.Memory.{peek_line}
use Rattle.rv_model.proofs.text_lemmas.Newlines.{IsLine}
use Rattle.rv_model.proofs.text_lemmas.Pieces.{Piece, ◌▸◌, hexadecimal, bytes, space}

pub no_newline_in_peek_line : (addr : ℕ) (all : List ℕ) → IsLine (peek_line addr all)
unfolding peek_line
no_newline_in_peek_line addr all = let word : Piece = (codes "peek ", refl) in (word ▸ hexadecimal addr ▸ space ▸ bytes all).1
