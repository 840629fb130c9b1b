use Rattle.std.proofs.Common.{ℕ, ◌+◌, ◌*◌, ◌≤◌, ◌≡◌, length, List, sym, ◌∙◌, arith}
use Rattle.rv_model.specs.elements.Elements.{is_active, mask_bit}
use Rattle.rv_model.proofs.element_lemmas.Sets.{active_end}
use Rattle.lane_arith.proofs.MaskWords.{old_bit, picked, rebuild_word}
use Rattle.lane_arith.proofs.mask_results.write_words.Goals as goal

pub loop-word-preserved : goal.loop-word-preserved
loop-word-preserved g c =
    let changed = is_active c.args.body.now in
    let bit = g.R.MaskResults.bit c.args.results.now in
    let w : ℕ = c.loop-word.word in
    let old : List ℕ = c.args.destination.now in
    let mid : List ℕ = c.loop-word.destination in
    let room : 4 * w + 4 ≤ length old = omega (arith, c.loop-word-test.true, c.min-words.ensures) in
    rebuild_word changed bit w c.replaced.result old mid room c.loop-word.invariant c.store.new.bytes c.store.ensures
    (λ i h. picked (changed (32 * w + i)) (bit (32 * w + i)) (mask_bit old (32 * w + i)) _ _ (c.replaced.ensures i h) (c.active_bits-active.ensures i h)
    (λ active. c.in-Some.ensures i h (omega (arith, active_end c.args.body.now (32 * w + i) active, c.end-end.ensures.value)))
    (c.word_of.ensures i h ∙ old_bit changed bit w c.replaced.result old mid room c.loop-word.invariant i h))

pub returns-clause-bytes : goal.returns-clause-bytes
returns-clause-bytes g c = λ q h.
    let is : c.loop-word.word ≡ c.min-words.result = omega arith in
    rw (sym is) (c.loop-word.invariant.bytes q h)
