use Rattle.std.proofs.Common.{ℕ, ◌+◌, ◌*◌, ◌^◌, ◌<◌, ◌≡◌, Bool, true, false, cond, not, refl, sym, ap, ◌∙◌, arith}
use Rattle.std.proofs.Math.Nat.{mul-suc, mul-zero}
use mir.Val.{bits}
use Rattle.rv_model.specs.elements.Elements.{Body, element, is_active}
use Rattle.rv_model.specs.vector.Groups.{width_bytes}
use Rattle.lane_reduce.specs.AnyOrder.{AnyOrder, combination, neutral_number, total}
use Rattle.lane_reduce.proofs.Folds.{chunk_combined, total_neutral}
use Rattle.lane_reduce.proofs.Laws.{any_order}
use Rattle.lane_reduce.proofs.MovedLanes.{element_below}
use Rattle.lane_reduce.proofs.lanes.lanes_of_chunks.Goals as goal

-- a selection of two numbers below a bound is below the bound
one_below : (b : Bool) (x y p : ℕ) → x < p → y < p → cond b x y < p
one_below true x y p h k = h
one_below false x y p h k = k

pub loop-c-init : goal.loop-c-init
loop-c-init g c =
    let op = c.args.op in
    let w = g.L.Lane.width in
    let law : AnyOrder (combination op w) (neutral_number op w) (2 ^ bits w) = any_order op w in
    record {
      bound = λ i h. rw (c.neutral-lanes.ensures i h) law.within;
      so_far = total_neutral (combination op w) (neutral_number op w) (2 ^ bits w) law (g.L.Lane.lane c.neutral-lanes.result) g.L.Lane.count c.neutral-lanes.ensures
          ∙ sym (ap (total (combination op w) (neutral_number op w) _) (mul-zero g.L.Lane.count));
    }

pub combined-requires-clause-second : goal.combined-requires-clause-second
combined-requires-clause-second g c = λ i h.
    let law : AnyOrder (combination c.args.op g.L.Lane.width) (neutral_number c.args.op g.L.Lane.width) (2 ^ bits g.L.Lane.width) = any_order c.args.op g.L.Lane.width in
    rw (c.active_or_neutral.ensures i h) (one_below _ _ _ _ law.within (c.in_ok-elements.ensures.bound i h))

pub loop-c-preserved : goal.loop-c-preserved
loop-c-preserved g c =
    let op = c.args.op in
    let w = g.L.Lane.width in
    let k : ℕ = width_bytes w in
    let n : ℕ = g.L.Lane.count in
    let p : ℕ = 2 ^ bits w in
    let f = combination op w in
    let e : ℕ = neutral_number op w in
    let body : Body = c.args.body.now in
    let law : AnyOrder f e p = any_order op w in
    let number : ℕ → ℕ = element k c.args.elements.now in
    let all : ℕ → ℕ = λ i. cond (is_active body i) (number i) e in
    let was : ℕ → ℕ = g.L.Lane.lane c.loop-c.lanes in
    let now : ℕ → ℕ = g.L.Lane.lane c.in_ok-lanes.lanes in
    let taken : ℕ → ℕ = g.L.Lane.lane c.active_or_neutral.result in
    let lane : (i : ℕ) → i < n → now i ≡ f (was i) (taken i) = c.in_ok-lanes.ensures in
    let next : n * (c.loop-c.c + 1) ≡ n * c.loop-c.c + n = omega (arith, mul-suc n c.loop-c.c) in
    let count : c.count-in-loop-c.result ≡ n = c.count-in-loop-c.ensures in
    let first : c.count.result ≡ n = c.count.ensures in
    let is : (i : ℕ) → i < n → taken i ≡ all (n * c.loop-c.c + i) =
    λ i h. c.active_or_neutral.ensures i h
    ∙ ap (λ b. cond b e (g.L.Lane.lane c.in_ok-elements.elements i)) (c.active_bits-active.ensures i (rw count h) ∙ ap (λ m. not (is_active body (m * c.loop-c.c + i))) first)
    ∙ ap (λ x. cond (not (is_active body (n * c.loop-c.c + i))) e x) (c.in_ok-elements.ensures.value i h)
    ∙ turned (is_active body (n * c.loop-c.c + i)) (number (n * c.loop-c.c + i)) e in
    record {
      bound = λ i h. rw (lane i h) (law.closed (was i) (taken i));
      so_far = chunk_combined f e p law all was now (n * c.loop-c.c) n
          (λ i. one_below (is_active body i) (number i) e p (element_below w c.args.elements.now i c.type_inv.elements) law.within)
          c.loop-c.invariant.bound (λ i h. lane i h ∙ ap (f (was i)) (is i h)) c.loop-c.invariant.so_far
          ∙ ap (total f e all) (sym next);
    }
  where
    turned : (b : Bool) (x y : ℕ) → cond (not b) y x ≡ cond b x y
    turned true x y = refl
    turned false x y = refl

pub returns-clause-value : goal.returns-clause-value
returns-clause-value g c =
    let op = c.args.op in
    let w = g.L.Lane.width in
    let all : c.loop-c.c ≡ c.args.chunks = omega (arith, c.loop-c-test.false, c.loop-c.auto.c-end) in
    rw (sym all) c.loop-c.invariant.so_far
