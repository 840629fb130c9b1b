use Rattle.std.proofs.Common.{◌≡◌, ℕ, suc, ◌+◌, ◌-◌, List, ◌++◌, length, length-set, ap, ◌∙◌, sym, arith, append-nil}
use Rattle.rv_model.specs.machine.Grants.{granted}
use Rattle.rv_model.specs.machine.World.{sliced}
use Rattle.rv_model.specs.machine.Script.{World, UserEvent, after_events, printed_by_events, user_machine}
use Rattle.rv_model.specs.machine.Setup.{Setup}
use Rattle.rv_model.specs.text.Lines.{text}
use Rattle.monitor_machine.specs.MachineState.{after_slice}
use Rattle.monitor_machine.specs.StopLineBounds.{stop_lines_bound}
use Rattle.monitor_machine.proofs.GrantLaws.{count_granted_on, granted_to_nobody, none_granted, printed_granted_on, world_granted_on}
use Rattle.monitor_machine.proofs.machine.Machine.grant_slices.Goals as goal

-- no program is running any more
pub returns-in_default-clause-world : goal.returns-in_default-clause-world
returns-in_default-clause-world g c =
    let setup = c.args.self.now.setup in
    let now = c.loop-granted.self-inside.users in
    let nobody = granted_to_nobody setup (c.args.count - c.loop-granted.granted) now (sym c.take_turn.ensures.user ∙ c.in_default.is) in
    c.in_default.ensures.none ∙ sym (ap (after_events setup now) nobody) ∙ c.loop-granted.invariant.world

pub returns-in_default-clause-reply : goal.returns-in_default-clause-reply
returns-in_default-clause-reply g c =
    let setup = c.args.self.now.setup in
    let now = c.loop-granted.self-inside.users in
    let nobody = granted_to_nobody setup (c.args.count - c.loop-granted.granted) now (sym c.take_turn.ensures.user ∙ c.in_default.is) in
    sym (append-nil c.loop-granted.reply) ∙ sym (ap (λ (hs : List UserEvent). c.loop-granted.reply ++ printed_by_events setup now hs) nobody) ∙ c.loop-granted.invariant.printed_by_line

pub returns-in_default-clause-count : goal.returns-in_default-clause-count
returns-in_default-clause-count g c =
    let setup = c.args.self.now.setup in
    let now = c.loop-granted.self-inside.users in
    let nobody = granted_to_nobody setup (c.args.count - c.loop-granted.granted) now (sym c.take_turn.ensures.user ∙ c.in_default.is) in
    omega (arith, ap length nobody, c.loop-granted.invariant.number)

-- one more slice
pub loop-granted-preserved : goal.loop-granted-preserved
loop-granted-preserved g c =
    let setup = c.args.self.now.setup in
    let now = c.loop-granted.self-inside.users in
    let turned = c.take_turn.new.self in
    let next = c.grant.new.self in
    let user : ℕ = c.in-Some.user in
    let left : ℕ = c.args.count - (c.loop-granted.granted + 1) in
    let one_less : c.args.count - c.loop-granted.granted ≡ suc left = omega arith in
    let quantum : c.loop-granted.self-inside.quantum ≡ setup.quantum = ap (λ (s : Setup). s.quantum) c.loop-granted.invariant.same in
    let turns = sym c.take_turn.ensures.user ∙ c.in-Some.is in
    let turn = c.in-Some.ensures.turn in
    let moved = c.grant.ensures.world ∙ ap (λ (q : ℕ). after_slice q user turned) quantum in
    record {
      same = c.loop-granted.invariant.same;
      eight =
          ap (λ (w : World). length w.parts) c.grant.ensures.world
          ∙ length-set turned.parts (user - 1) _
          ∙ ap (λ (w : World). length w.parts) turn
          ∙ c.loop-granted.invariant.eight;
      world =
          sym (world_granted_on setup left user now turned next turns turn moved)
          ∙ ap (λ (n : ℕ). after_events setup now (granted setup n now)) (sym one_less)
          ∙ c.loop-granted.invariant.world;
      printed_by_line =
          sym (printed_granted_on setup left user now turned next c.loop-granted.reply c.grant.new.reply turns turn moved (c.grant.ensures.reply ∙ ap (λ (q : ℕ). c.loop-granted.reply ++ text (48 + user) (sliced q (user_machine user turned)).lines) quantum))
          ∙ ap (λ (n : ℕ). c.loop-granted.reply ++ printed_by_events setup now (granted setup n now)) (sym one_less)
          ∙ c.loop-granted.invariant.printed_by_line;
      number = omega (arith, count_granted_on setup left user now turned next turns turn moved, ap (λ (n : ℕ). length (granted setup n now)) one_less, c.loop-granted.invariant.number);
      room = omega (arith, c.grant.ensures.bound, c.loop-granted.invariant.room, ap (λ (w : World). stop_lines_bound w.parts) turn);
    }

-- all slices were granted
pub returns-clause-world : goal.returns-clause-world
returns-clause-world g c =
    let setup = c.args.self.now.setup in
    let now = c.loop-granted.self-inside.users in
    let none_left : c.args.count - c.loop-granted.granted ≡ 0 = omega (arith, c.loop-granted-test.false) in
    sym (ap (λ (n : ℕ). after_events setup now (granted setup n now)) none_left ∙ ap (after_events setup now) (none_granted setup now)) ∙ c.loop-granted.invariant.world

pub returns-clause-reply : goal.returns-clause-reply
returns-clause-reply g c =
    let setup = c.args.self.now.setup in
    let now = c.loop-granted.self-inside.users in
    let none_left : c.args.count - c.loop-granted.granted ≡ 0 = omega (arith, c.loop-granted-test.false) in
    sym (append-nil c.loop-granted.reply)
    ∙ sym (ap (λ (n : ℕ). c.loop-granted.reply ++ printed_by_events setup now (granted setup n now)) none_left ∙ ap (λ (hs : List UserEvent). c.loop-granted.reply ++ printed_by_events setup now hs) (none_granted setup now))
    ∙ c.loop-granted.invariant.printed_by_line

pub returns-clause-count : goal.returns-clause-count
returns-clause-count g c =
    let setup = c.args.self.now.setup in
    let now = c.loop-granted.self-inside.users in
    let none_left : c.args.count - c.loop-granted.granted ≡ 0 = omega (arith, c.loop-granted-test.false) in
    omega (arith, ap (λ (n : ℕ). length (granted setup n now)) none_left, ap length (none_granted setup now), c.loop-granted.invariant.number, none_left, c.loop-granted.auto.granted-end)
