use Rattle.std.proofs.Common.{◌≡◌, ◌∙◌, ◌<◌, ◌+◌, ◌++◌, ℕ, List, ap, drop, flat_map, length, rules, sym, take}
use Rattle.devices.proofs.Moves.{moved}
use Rattle.rv_model.proofs.memory_lemmas.Memory.{length-bytes_at}
use Rattle.memory_changes.specs.Changes.{Place, change, held}
use Rattle.memory_changes.proofs.Lists.{first_more, front_is, left_is, rest_is}
use Rattle.memory_changes.proofs.lines.write_changes.Goals as goal

pub loop-place-preserved : goal.loop-place-preserved
loop-place-preserved g c = λ m is.
    let places : List Place = c.args.places.now in
    let i : ℕ = c.loop-place.place-index in
    let place : Place = c.place-item.result in
    let n = g.M.UserBytes.memory c.args.memory.now in
    let moment = c.args.moment.now in
    let lines = λ (p : Place). change moment.number moment.ticks moment.pc p.addr (held m p) (held n p) in
    let others : List ℕ = flat_map (held m) (drop (i + 1) places) in
    let before = c.loop-place.invariant m is in
    let below : i < length places = search rules in
    let len : length (held m place) ≡ place.len = length-bytes_at m place.addr place.len in
    let rest : c.loop-place.rest.now ≡ held m place ++ others =
    before.left ∙ (left_is (held m) places i place below ∙ ap (λ (p : Place). held m p ++ others) (sym c.place-item.is)) in
    let front : c.split_at.result.0.now ≡ held m place = c.split_at.ensures.front ∙ (ap (take place.len) rest ∙ front_is (held m place) others place.len len) in
    record {
      left = c.split_at.ensures.back ∙ (ap (drop place.len) rest ∙ rest_is (held m place) others place.len len);
      took = moved g.K.Sink.took _ _ _ _
          (ap (λ (l : List ℕ). flat_map lines (take i places) ++ change moment.number moment.ticks moment.pc place.addr l (held n place)) front
          ∙ (ap (λ (p : Place). flat_map lines (take i places) ++ lines p) c.place-item.is ∙ first_more lines places i place below))
          (g.met.K.Sink.took_more _ _ _ _ _ before.took c.in_ok-compare_place.ensures.line);
    }
