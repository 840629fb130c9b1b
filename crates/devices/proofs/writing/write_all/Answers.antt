use Rattle.std.proofs.Common.{◌≡◌, ℕ, ◌+◌, ◌<◌, ◌++◌, List, length, take, drop, ◌-◌, ap, ◌∙◌, sym, append-nil, arith, length-drop}
use Rattle.std.proofs.lemmas.List.{take_rest}
use Rattle.std.proofs.Math.Seq.{take-add}
use Rattle.devices.proofs.Moves.{moved, on_err}
use Rattle.devices.proofs.writing.write_all.Goals as goal

pub loop-at-preserved : goal.loop-at-preserved
loop-at-preserved g c =
    let bytes : List ℕ = c.args.bytes.now in
    let at : ℕ = c.loop-at.at in
    let n : ℕ = c.in_ok-at.field-0 in
    let shown : take (length bytes - at) (drop at bytes) ≡ drop at bytes = take_rest bytes at in
    let bound = c.in_ok-at.ensures.bound in
    let both : take at bytes ++ take n (take (length bytes - at) (drop at bytes)) ≡ take (at + n) bytes =
    ap (λ (l : List ℕ). take at bytes ++ take n l) shown ∙ sym (take-add at n bytes) in
    record {
      front = moved g.K.Sink.took _ _ _ _ both (g.met.K.Sink.took_more _ _ _ _ _ c.loop-at.invariant.front c.in_ok-at.ensures.bytes);
      within = omega (arith, bound, ap length shown, length-drop at bytes);
      count = c.in_ok-at.ensures.count ∙ c.loop-at.invariant.count;
    }

pub returns-in_err-at-clause-part : goal.returns-in_err-at-clause-part
returns-in_err-at-clause-part g c =
    let at : ℕ = c.loop-at.at in
    let less : at < length c.args.bytes.now = omega arith in
    on_err c.from_residual.result (
      at,
      (less, moved g.K.Sink.took _ _ _ _ (append-nil (take at c.args.bytes.now)) (g.met.K.Sink.took_more _ _ _ _ _ c.loop-at.invariant.front c.in_err-at.ensures.kept)),
    )
