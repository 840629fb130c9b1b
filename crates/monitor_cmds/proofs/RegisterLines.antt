-- The lines of registers, printed one after another
use Rattle.std.proofs.Common.{◌≡◌, ℕ, suc, ◌+◌, ◌-◌, ◌*◌, ◌<◌, List, ◌∷◌, ◌++◌, sym, ap, ◌∙◌, append_assoc, arith}
use Rattle.rv_model.specs.declared.scalar.Scalar.{Scalar}
use Rattle.rv_model.specs.commands.Registers.{register_line, register_lines}
use Rattle.rv_model.specs.text.Lines.{tagged, text}

-- printing the first of the remaining lines
pub register_lines_left_after_one : (tag n : ℕ) (s : Scalar) (before after whole : List ℕ) → n < 8 → after ≡ before ++ tagged tag (register_line s (4 * n))
    → before ++ text tag (register_lines (8 - n) (4 * n) s) ≡ whole
    → after ++ text tag (register_lines (8 - (n + 1)) (4 * (n + 1)) s) ≡ whole
register_lines_left_after_one tag n s before after whole lt is so_far =
    let line = register_line s (4 * n) in
    let rest = register_lines (8 - (n + 1)) (4 * (n + 1)) s in
    let one_more : 8 - n ≡ suc (8 - (n + 1)) = omega arith in
    let four_more : 4 * n + 4 ≡ 4 * (n + 1) = omega arith in
    let left : register_lines (8 - n) (4 * n) s ≡ line ∷ rest =
    ap (λ k. register_lines k (4 * n) s) one_more ∙ ap (λ i. line ∷ register_lines (8 - (n + 1)) i s) four_more in
    ap (λ bytes. bytes ++ text tag rest) is
    ∙ append_assoc before (tagged tag line) (text tag rest)
    ∙ ap (λ lines. before ++ text tag lines) (sym left)
    ∙ so_far
