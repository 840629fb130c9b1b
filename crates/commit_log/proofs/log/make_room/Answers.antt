use Rattle.std.proofs.Common.{◌++◌, [], List, ℕ, ap, append-nil, arith, length, sym}
use Rattle.commit_log.proofs.log.make_room.Goals as goal

pub returns-then-has_room-clause-printed : goal.returns-then-has_room-clause-printed
returns-then-has_room-clause-printed g c =
    record { written = []; took = g.met.K.Sink.took_none c.args.sink.now; all = sym (append-nil c.args.text.now) }

pub returns-clause-printed : goal.returns-clause-printed
returns-clause-printed g c =
    record {
      written = c.args.text.now;
      took = c.in_ok-write_gathered.ensures.printed;
      all = ap (λ (l : List ℕ). c.args.text.now ++ l) c.in_ok-write_gathered.ensures.none;
    }

pub returns-clause-room : goal.returns-clause-room
returns-clause-room g c = let none = ap length c.in_ok-write_gathered.ensures.none in omega (arith, none)
