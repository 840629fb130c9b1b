use Rattle.std.proofs.Common.{◌≡◌, ◌<◌, drop, length, map, refl, subst, sym, arith}
use Rattle.std.proofs.lemmas.List.{take_at}
use Rattle.std.specs.Prelude.{IfSome}
use Rattle.user_mem.specs.Pool.{table_at, memories_of}
use Rattle.user_mem.specs.Table.{memory_of}
use Rattle.user_mem.specs.Users.{memory_of_user}
use Rattle.user_mem.proofs.ViewLaws.{memory_at, memory_of_table}
use Rattle.user_mem.proofs.pool.Pool.edit.Goals as goal

pub returns-clause-changed : goal.returns-clause-changed
returns-clause-changed g c =
    let tables = map (λ t. t.items) c.self.inside.tables in
    let i = c.index.result in
    let items = c.self.inside.frames.items in
    let frames = c.as_mut_slice.result.now in
    let after = c.edit_user.new.frames in
    let within : i < length tables = omega (arith, c.index.ensures.small, c.self.invariant.0.users) in
    let old = memory_at items frames tables c.args.user i (table_at tables i) c.args.self.now c.self.view_is c.index.ensures.value within refl c.as_mut_slice.ensures.value in
    let new = memory_of_table after tables c.args.user i (memories_of after tables) refl c.index.ensures.value within in
    let count : length after ≡ c.self.inside.frames.len = omega (arith, c.edit_user.ensures.size, c.as_mut_slice.ensures.len) in
    subst (λ fs. IfSome c.edit_user.result (λ n. g.E.Edit.changes c.args.edit.now (memory_of_user c.args.self.now c.args.user) n (memory_of_user (memories_of fs tables) c.args.user)))
    (sym (take_at after (drop (length after) items) c.self.inside.frames.len count))
    (subst (λ m. IfSome c.edit_user.result (λ n. g.E.Edit.changes c.args.edit.now m n (memory_of_user (memories_of after tables) c.args.user))) (sym old)
    (subst (λ m. IfSome c.edit_user.result (λ n. g.E.Edit.changes c.args.edit.now (memory_of frames (table_at tables i)) n m)) (sym new) c.edit_user.ensures.changed))
