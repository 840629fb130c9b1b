use Rattle.rv_asm.proofs.print.+put_hex_digits.Given as goal

abbrev pub decreases-put_hex_digits : goal.decreases-put_hex_digits
decreases-put_hex_digits l = l.count
