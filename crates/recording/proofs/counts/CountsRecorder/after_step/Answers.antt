use Rattle.std.proofs.Common.{◌≡◌, ℕ, List, get_or, ap, ◌∙◌, sym}
use Rattle.rv_model.specs.instructions.Table.{scan, table}
use Rattle.rv_model.specs.step.Hart.{HartState}
use Rattle.recording.specs.Classes.{class_of}
use Rattle.recording.specs.CountLaws.{one_shared}
use Rattle.recording.specs.PreState.{IsRowFor}
use Rattle.recording.specs.Machines.{state_of}
use Rattle.recording.specs.Sums.{Row}
use Rattle.recording.specs.declared.pre_state.PreState.{PreState}
use Rattle.recording.specs.declared.key.Key.TheVariants.{Word}
use Rattle.recording.proofs.Counted.{share_found, share_not_counted, share_plain}
use Rattle.recording.proofs.counts.CountsRecorder.after_step.Goals as goal

-- the class of the saved row
class_noted : (row : Row) (s : HartState) (index : ℕ) (found : PreState) (rows : List Row) (prepared : IsRowFor s index found rows) → row ≡ get_or rows index row
    → row.class ≡ class_of (scan table prepared.word)
class_noted row s index found rows prepared is = row.class_is s.scalar.pc prepared.word (ap (λ (r : Row). r.key) is ∙ prepared.row.of row)

pub returns-then-not-is_counted-clause-recorded : goal.returns-then-not-is_counted-clause-recorded
returns-then-not-is_counted-clause-recorded g c =
    let rows : List Row = c.args.self.now.table.rows.items in
    λ before found prepared made.
    one_shared found before.table.rows.items rows rows prepared.0
    (share_not_counted found (state_of g.M.UserBytes.memory c.args.machine.now) c.args.ticks c.args.end rows made (sym c.is_counted.ensures ∙ c.if-not-is_counted.true))

pub returns-then-is_plain-clause-recorded : goal.returns-then-is_plain-clause-recorded
returns-then-is_plain-clause-recorded g c =
    let rows : List Row = c.args.self.now.table.rows.items in
    λ before found prepared made.
    one_shared found before.table.rows.items rows c.count_at.new.self.rows.items prepared.0
    (share_plain found (state_of g.M.UserBytes.memory c.args.machine.now) c.index-row.result.now.class c.args.self.now.index c.args.self.now.found c.args.ticks c.args.end c.plain.result
    rows c.count_at.new.self.rows.items prepared.1
    (class_noted c.index-row.result.now found c.args.self.now.index c.args.self.now.found rows prepared.1 c.index-row.ensures) made (sym c.is_counted.ensures ∙ c.if-not-is_counted.false)
    (sym c.is_plain.ensures ∙ c.if-is_plain.true) c.plain.ensures (c.count_at.ensures (Word found.scalar.pc prepared.1.word) prepared.1.row))

pub returns-clause-recorded : goal.returns-clause-recorded
returns-clause-recorded g c =
    let rows : List Row = c.args.self.now.table.rows.items in
    λ before found prepared made.
    one_shared found before.table.rows.items rows c.count_second_key.new.table.rows.items prepared.0
    (share_found found (state_of g.M.UserBytes.memory c.args.machine.now) c.index-row.result.now.class c.args.self.now.index c.args.self.now.found c.args.ticks c.args.end c.with_elements-sums.result
    rows c.count_second_key.new.table.rows.items prepared.1
    (class_noted c.index-row.result.now found c.args.self.now.index c.args.self.now.found rows prepared.1 c.index-row.ensures) made (sym c.is_counted.ensures ∙ c.if-not-is_counted.false)
    c.count_at-2.new.self.rows.items (sym c.is_plain.ensures ∙ c.if-is_plain.false) c.with_elements-sums.ensures (c.count_at-2.ensures (Word found.scalar.pc prepared.1.word) prepared.1.row)
    c.in_ok-count_second_key.ensures.counted)
