use Rattle.std.proofs.Common.{◌≡◌, ℕ, ◌≤◌, List, length, ◌∙◌, ap, true, false, eqb}
use Rattle.monitor_script.specs.Feed.{longer}
use Rattle.monitor_script.proofs.LineBuffer.{longer_full, longer_room}
use Rattle.monitor_script.proofs.line.Line.push.Goals as goal

pub returns-then-is_full : goal.returns-then-is_full
returns-then-is_full c =
    let full : true ≡ eqb (length c.args.self.now) 1025 = cc (c.is_full.ensures.value, c.self.view_is) in
    longer_full c.args.self.now c.args.byte full

pub returns : goal.returns
returns c =
    let room : false ≡ eqb (length c.self.inside.bytes.items) 1025 = cc (c.is_full.ensures.value) in
    let le : length c.self.inside.bytes.items ≤ 1025 = c.is_full.ensures.fits in
    c.push.ensures.items ∙ longer_room c.self.inside.bytes.items c.args.byte le room ∙ ap (λ (l : List ℕ). longer l c.args.byte) c.self.view_is
