use Rattle.std.proofs.Common.{ℕ, ◌+◌, ◌*◌, ◌%◌, ◌^◌, ◌<◌, ◌≤◌, ◌≡◌, ◌==◌, ◌/◌, Bool, not, sym, ap, ◌∙◌, subst, arith, mod-eq_of_lt}
use Rattle.std.proofs.Math.Nat.{mul-suc, pow-le-pow_right}
use Rattle.rv_model.specs.vector.Groups.{width_bytes}
use Rattle.lane_arith.proofs.MaskBits.{ShowsTo, chunk_ends, place_in_word, shifted_fits, shows_more, word_chunks}
use Rattle.lane_arith.proofs.mask_results.word_results.Goals as goal

-- a 32-bit word with the bits of one more chunk
more_known : (k n lanes j word more bits : ℕ) (bit : ℕ → Bool) → n ≡ lanes → k * lanes ≡ 32 → j < 32 / n → ShowsTo (n * j) bits (λ i. bit (32 * word + i)) → more < 2 ^ lanes
    → ((i : ℕ) → i < lanes → (more / 2 ^ i % 2 == 0) ≡ not (bit (lanes * (32 / n * word + j) + i)))
    → ShowsTo (n * (j + 1)) (bits + more * 2 ^ (n * j) % 2 ^ 64) (λ i. bit (32 * word + i))
more_known k n lanes j word more bits bit count fills h was below known =
    let few : more < 2 ^ n = rw count below in
    let ends : n * j + n ≤ 32 = chunk_ends n j h in
    let cut : more * 2 ^ (n * j) % 2 ^ 64 ≡ more * 2 ^ (n * j) = mod-eq_of_lt (shifted_fits (n * j) n more (omega (arith, ends)) few) in
    let next : n * j + n ≡ n * (j + 1) = omega (arith, mul-suc n j) in
    let chunks : n * (32 / n) ≡ 32 = word_chunks k n (rw count fills) in
    let now : ShowsTo (n * j + n) (bits + more * 2 ^ (n * j)) (λ i. bit (32 * word + i)) =
    shows_more (n * j) n bits more (λ i. bit (32 * word + i)) was few
    (λ i l. known i (rw (sym count) l) ∙ ap (λ m. not (bit (m * (32 / n * word + j) + i))) (sym count) ∙ ap (λ x. not (bit x)) (place_in_word n (32 / n) word j i chunks)) in
    subst (λ m. ShowsTo m (bits + more * 2 ^ (n * j) % 2 ^ 64) (λ i. bit (32 * word + i))) next (rw cut now)

pub overflow_add-bits : goal.overflow_add-bits
overflow_add-bits g c =
    let now = more_known (width_bytes g.L.Lane.width) c.count-count.result g.L.Lane.count c.loop-j.j c.args.word c.in-Some.more c.loop-j.bits (g.R.MaskResults.bit c.args.results.now)
    c.count-count.ensures g.met.L.Lane.fills c.loop-j-test.true c.loop-j.invariant c.in-Some.ensures.bound c.in-Some.ensures.value in
    let ends : c.count-count.result * c.loop-j.j + c.count-count.result ≤ 32 = chunk_ends c.count-count.result c.loop-j.j c.loop-j-test.true in
    let short : c.count-count.result * (c.loop-j.j + 1) ≤ 64 = omega (arith, ends, mul-suc c.count-count.result c.loop-j.j) in
    let most : 2 ^ (c.count-count.result * (c.loop-j.j + 1)) ≤ 2 ^ 64 = pow-le-pow_right (omega arith) short in
    record { fits = omega (arith, now.below, most) }

pub loop-j-preserved : goal.loop-j-preserved
loop-j-preserved g c =
    more_known (width_bytes g.L.Lane.width) c.count-count.result g.L.Lane.count c.loop-j.j c.args.word c.in-Some.more c.loop-j.bits (g.R.MaskResults.bit c.args.results.now)
    c.count-count.ensures g.met.L.Lane.fills c.loop-j-test.true c.loop-j.invariant c.in-Some.ensures.bound c.in-Some.ensures.value

pub returns : goal.returns
returns g c = λ i h inside.
    let n : ℕ = c.count-count.result in
    let all : c.loop-j.j ≡ 32 / n = omega (arith, c.loop-j-test.false, c.loop-j.auto.j-end) in
    c.loop-j.invariant.shows i (rw (all, word_chunks (width_bytes g.L.Lane.width) n (rw c.count-count.ensures g.met.L.Lane.fills)) h)
