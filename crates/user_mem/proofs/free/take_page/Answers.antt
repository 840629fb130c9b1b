use Rattle.std.proofs.Common.{length}
use Rattle.user_mem.proofs.CountLaws.{popped_is_free, free_is_unused, owners_when_taken, fewer_when_popped}
use Rattle.user_mem.proofs.free.take_page.Goals as goal

pub map_page-requires-clause-fits : goal.map_page-requires-clause-fits
map_page-requires-clause-fits c = c.requires.disjoint.fit c.in-Some.frame (popped_is_free c.args.free.now.items c.pop.new.self.items c.in-Some.frame c.in-Some.ensures.items)

pub map_page-requires-clause-unused : goal.map_page-requires-clause-unused
map_page-requires-clause-unused c = free_is_unused c.args.free.now.items c.pop.new.self.items c.in-Some.frame (length c.args.frames.now) c.args.table.now.items c.requires.disjoint c.in-Some.ensures.items

pub returns-clause-others : goal.returns-clause-others
returns-clause-others c = λ other m. c.map_page.ensures.others other (free_is_unused c.args.free.now.items c.pop.new.self.items c.in-Some.frame (length c.args.frames.now) other m c.in-Some.ensures.items)

pub returns-clause-owners : goal.returns-clause-owners
returns-clause-owners c = λ f. owners_when_taken f c.args.free.now.items c.pop.new.self.items c.in-Some.frame c.args.table.now.items c.map_page.new.table.items c.in-Some.ensures.items (c.map_page.ensures.used f)

pub returns-clause-fewer : goal.returns-clause-fewer
returns-clause-fewer c = λ f. fewer_when_popped f c.args.free.now.items c.pop.new.self.items c.in-Some.frame c.in-Some.ensures.items
