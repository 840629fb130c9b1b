use Rattle.std.proofs.Common.{◌∙◌, Ok, Err, refl, sym, ap, arith, map}
use Rattle.rv_model.specs.declared.memory.MapRefusal.TheVariants.{Quota, AlreadyMapped}
use Rattle.rv_model.specs.memory.Memory.{Memory, map_refusal}
use Rattle.rv_model.proofs.memory_lemmas.Memory.{map_refusal-Quota, map_refusal-AlreadyMapped}
use Rattle.user_mem.specs.Users.{memory_of_user}
use Rattle.user_mem.proofs.ViewLaws.{memory_at, refused_for, refused_is, accepted_is}
use Rattle.user_mem.proofs.pool.Pool.map.Goals as goal

-- a refusal of the table is the refusal of the memory
refused : goal.returns-in-Some-clause-refused
refused g c =
    let seen = memory_at c.self.inside.frames.items c.self.inside.frames.items (map (λ t. t.items) c.self.inside.tables) c.args.user c.index-user.result c.user_entries.result.now c.args.self.now c.self.view_is c.index-user.ensures.value (omega (arith, c.self.invariant.0.users)) c.user_entries.ensures refl in
    ap (λ (m : Memory). map_refusal m c.args.page c.args.count) seen ∙ sym (c.refusal.ensures.value c.self.inside.frames.items) ∙ c.in-Some.is

pub returns-in-Some-clause-accepted : goal.returns-in-Some-clause-accepted
returns-in-Some-clause-accepted g c = let why = refused g c in (λ impossible. absurd (cc), λ accepted. absurd (cc))

pub returns-in-Some-clause-refused : goal.returns-in-Some-clause-refused
returns-in-Some-clause-refused g c = refused g c

pub returns-in-Some-clause-quota : goal.returns-in-Some-clause-quota
returns-in-Some-clause-quota g c =
    refused_for (Err c.in-Some.refusal) (memory_of_user c.args.self.now c.args.user) c.args.page c.args.count Quota (refused_is c.in-Some.refusal _ (refused g c)) (map_refusal-Quota (memory_of_user c.args.self.now c.args.user) c.args.page c.args.count)

pub returns-in-Some-clause-already_mapped : goal.returns-in-Some-clause-already_mapped
returns-in-Some-clause-already_mapped g c =
    refused_for (Err c.in-Some.refusal) (memory_of_user c.args.self.now c.args.user) c.args.page c.args.count AlreadyMapped (refused_is c.in-Some.refusal _ (refused g c)) (map_refusal-AlreadyMapped (memory_of_user c.args.self.now c.args.user) c.args.page c.args.count)

pub translate_user-requires-clause-others : goal.translate_user-requires-clause-others
translate_user-requires-clause-others g c = λ u d within other. rw (c.map_user.ensures.others u other) (c.self.invariant.1 u d within)

-- if the table has no refusal, neither has the memory
accepted : goal.returns-clause-accepted
accepted g c =
    let seen = memory_at c.self.inside.frames.items c.self.inside.frames.items (map (λ t. t.items) c.self.inside.tables) c.args.user c.index-user.result c.user_entries.result.now c.args.self.now c.self.view_is c.index-user.ensures.value (omega (arith, c.self.invariant.0.users)) c.user_entries.ensures refl in
    (λ _. ap (λ (m : Memory). map_refusal m c.args.page c.args.count) seen ∙ sym (c.refusal.ensures.value c.self.inside.frames.items) ∙ c.in_default.is, λ _. refl)

pub returns-clause-accepted : goal.returns-clause-accepted
returns-clause-accepted g c = accepted g c

pub returns-clause-quota : goal.returns-clause-quota
returns-clause-quota g c =
    refused_for (Ok tt) (memory_of_user c.args.self.now c.args.user) c.args.page c.args.count Quota (accepted_is _ ((accepted g c).0 refl)) (map_refusal-Quota (memory_of_user c.args.self.now c.args.user) c.args.page c.args.count)

pub returns-clause-already_mapped : goal.returns-clause-already_mapped
returns-clause-already_mapped g c =
    refused_for (Ok tt) (memory_of_user c.args.self.now c.args.user) c.args.page c.args.count AlreadyMapped (accepted_is _ ((accepted g c).0 refl)) (map_refusal-AlreadyMapped (memory_of_user c.args.self.now c.args.user) c.args.page c.args.count)
