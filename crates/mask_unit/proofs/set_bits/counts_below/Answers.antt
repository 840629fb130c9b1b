use Rattle.std.proofs.Common.{ℕ, List, ◌+◌, ◌*◌, ◌%◌, ◌^◌, ◌<◌, ◌≤◌, ◌≡◌, ◌∙◌, ap, arith, count_ones, get_or, length}
use Rattle.std.proofs.Math.Nat.{mod-lt}
use Rattle.std.proofs.lemmas.Nat.{ones-le, pow_pos}
use Rattle.std.proofs.lemmas.Simd.{length-put_chunk}
use Rattle.rv_model.specs.elements.Elements.{mask_bit}
use Rattle.rv_model.specs.elements.Masks.{is_set}
use Rattle.rv_model.proofs.element_lemmas.Ranges.{count_most}
use Rattle.mask_unit.proofs.SetBits.{byte_counted, count_in_byte, passing, passing_same}
use Rattle.mask_unit.proofs.set_bits.counts_below.Goals as goal

pub overflow_cast-below : goal.overflow_cast-below
overflow_cast-below c = record { fits = omega (arith, count_most (mask_bit c.set_bytes-set.result) (8 * c.loop-q.q), c.loop-q.invariant.so_far, c.loop-q-test.true, c.end.ensures) }

pub counts_in_byte-requires : goal.counts_in_byte-requires
counts_in_byte-requires c = omega (arith, count_most (mask_bit c.set_bytes-set.result) (8 * c.loop-q.q), c.loop-q.invariant.so_far, c.loop-q-test.true, c.end.ensures)

pub overflow_add-below : goal.overflow_add-below
overflow_add-below c =
    let x : ℕ = get_or c.set_bytes-set.result c.loop-q.q 0 in
    let few : count_ones (x % 2 ^ 8) ≤ 8 = ones-le 8 (x % 2 ^ 8) (mod-lt x (pow_pos 8)) in
    record { fits = omega (arith, count_most (mask_bit c.set_bytes-set.result) (8 * c.loop-q.q), few, c.set_in_byte-below.ensures, c.loop-q.invariant.so_far, c.loop-q-test.true, c.end.ensures) }

pub loop-q-preserved : goal.loop-q-preserved
loop-q-preserved c =
    let set : List ℕ = c.set_bytes-set.result in
    let q : ℕ = c.loop-q.q in
    let room : 8 * q + 8 ≤ length c.loop-q.counts = omega (arith, c.loop-q.invariant.sized, c.loop-q-test.true, c.end.ensures) in
    let all : 8 ≤ 8 = omega arith in
    let next : 8 * q + 8 ≡ 8 * (q + 1) = omega arith in
    record {
      sized = ap length c.put_counts.ensures ∙ length-put_chunk (8 * q) c.loop-q.counts c.counts_in_byte.result ∙ c.loop-q.invariant.sized;
      so_far = ap (λ n. c.loop-q.below + n) c.set_in_byte-below.ensures ∙ count_in_byte set q c.loop-q.below 8 all c.loop-q.invariant.so_far ∙ ap (passing (mask_bit set)) next;
      written = byte_counted set q c.loop-q.below c.loop-q.counts c.counts_in_byte.result c.put_counts.new.counts c.put_counts.ensures
          c.counts_in_byte.ensures.length room c.counts_in_byte.ensures.value c.loop-q.invariant.so_far c.loop-q.invariant.written;
    }

pub returns : goal.returns
returns c = λ i h.
    let done : i < 8 * c.loop-q.q = omega (arith, h, c.loop-q-test.false, c.end.ensures.value) in
    c.loop-q.invariant.written i done
    ∙ passing_same (mask_bit c.set_bytes-set.result) (is_set c.args.body.now c.args.bits.now) i (λ j l. c.set_bytes-set.ensures j (omega (arith, h, l)))
