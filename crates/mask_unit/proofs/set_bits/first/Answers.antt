use Rattle.std.proofs.Common.{ℕ, List, ◌+◌, ◌*◌, ◌<◌, ◌≤◌, ◌≡◌, true, arith, sym, w64}
use Rattle.std.proofs.lemmas.Bool.{and_parts}
use Rattle.std.specs.Int.{trailing_zeros}
use Rattle.rv_model.specs.elements.Elements.{Body, is_active, mask_bit}
use Rattle.rv_model.specs.elements.Masks.{is_set}
use Rattle.rv_model.proofs.element_lemmas.Sets.{active_end}
use Rattle.mask_unit.proofs.FirstBits.{first_found, first_in_word, none_found, none_in_word}
use Rattle.mask_unit.proofs.set_bits.first.Goals as goal

set_end : (body : Body) (bits : List ℕ) (i : ℕ) → is_set body bits i ≡ true → i < body.end
set_end body bits i h = active_end body i (and_parts (is_active body i) (mask_bit bits i) h).0

pub loop-word-preserved : goal.loop-word-preserved
loop-word-preserved c =
    let empty : c.set_word-set.result ≡ 0 = omega (arith, c.if-set-ne0.false) in
    none_in_word (is_set c.args.body.now c.args.bits.now) c.loop-word.word c.set_word-set.result c.set_word-set.ensures.value empty c.loop-word.invariant

pub returns-then-set-ne0 : goal.returns-then-set-ne0
returns-then-set-ne0 c =
    let test = is_set c.args.body.now c.args.bits.now in
    let set : ℕ = c.set_word-set.result in
    let some : 0 < set = omega (arith, c.if-set-ne0.true) in
    let found = first_in_word test c.loop-word.word set c.set_word-set.ensures.value some c.set_word-set.ensures.bound c.loop-word.invariant in
    let at : ℕ = 32 * c.loop-word.word + trailing_zeros w64 set in
    sym (first_found test c.args.body.now.end at (set_end c.args.body.now c.args.bits.now at found.0) found.0 found.1)

pub returns : goal.returns
returns c =
    let all : c.args.body.now.end ≤ 32 * c.loop-word.word = omega arith in
    sym (none_found (is_set c.args.body.now c.args.bits.now) c.args.body.now.end (λ i h. c.loop-word.invariant i (omega (arith, h, all))))
