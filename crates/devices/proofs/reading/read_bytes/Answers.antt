use Rattle.std.proofs.Common.{◌≡◌, ◌≤◌, ◌∙◌, ℕ, List, ◌++◌, [], length, take, drop, ap, subst, sym, arith, length-append}
use Rattle.std.specs.Io.KnownBytes.{Consumes}
use Rattle.std.proofs.KnownBytes.{Consumes-nil, Consumes-trans}
use Rattle.std.proofs.lemmas.List.{take-append-le, length-take, length-take-le}
use Rattle.devices.proofs.reading.read_bytes.Goals as goal

pub loop-left-init : goal.loop-left-init
loop-left-init g c =
    let none : c.new-bytes.result.items ≡ [] = c.new-bytes.ensures.items in
    record {
      given = subst (Consumes (g.F.Read.remaining c.args.file.now) (g.F.Read.remaining c.args.file.now)) (sym none) (Consumes-nil (g.F.Read.remaining c.args.file.now));
      most = omega (arith, ap length none);
    }

pub loop-left-preserved : goal.loop-left-preserved
loop-left-preserved g c =
    let n : ℕ = c.in-Ok.count in
    let buffer : List ℕ = c.read.new.buf in
    let fits : n ≤ length buffer = c.in-Ok.ensures.bound.0 in
    let before : List ℕ = c.loop-left.bytes.items in
    let same : take n (buffer ++ drop c.min-room.result c.loop-left.piece) ≡ take n buffer = take-append-le n buffer _ fits in
    let items : c.extend_from_slice.new.self.items ≡ before ++ take n buffer = c.in_ok-extend_from_slice.ensures.items ∙ ap (λ (l : List ℕ). before ++ l) same in
    let most = c.loop-left.invariant.most in
    let within : n ≤ c.loop-left.left = omega (arith, fits, c.read.auto.buf, c.min-room.ensures, length-take c.min-room.result c.loop-left.piece) in
    let long : length (take n buffer) ≡ n = length-take-le n buffer fits in
    record {
      given = subst (Consumes (g.F.Read.remaining c.args.file.now) (g.F.Read.remaining c.read.new.self)) (sym items)
          (Consumes-trans (g.F.Read.remaining c.args.file.now) (g.F.Read.remaining c.loop-left.file) (g.F.Read.remaining c.read.new.self) before (take n buffer) c.loop-left.invariant.given c.in-Ok.ensures.bytes.0);
      most = omega (arith, most, long, within, ap length items, length-append before (take n buffer));
    }
