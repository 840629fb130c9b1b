use Rattle.std.proofs.Common.{◌+◌, ◌∙◌, refl, ap, arith, length}
use Rattle.rv_model.specs.memory.Memory.{Memory, with_pages}
use Rattle.user_mem.specs.Table.{memory_of}
use Rattle.rv_model.proofs.memory_lemmas.Memory.{with_pages_more, with_pages_none}
use Rattle.user_mem.proofs.CountLaws.{ShareNoFrame-fewer}
use Rattle.user_mem.proofs.free.take_pages.Goals as goal

pub loop-i-init : goal.loop-i-init
loop-i-init c = record {
  mapped = with_pages_none (memory_of c.args.frames.now c.args.table.now.items) c.args.page c.args.permissions;
  others = λ other m. refl;
  sorted = c.requires.sorted;
  below = c.requires.below;
  owners = λ f. refl;
  fewer = λ f. omega arith;
  new_pages = λ k a b. c.requires.new_pages k b;
  len = omega arith;
  left = omega arith;
  size = refl;
}

pub loop-i-preserved : goal.loop-i-preserved
loop-i-preserved c = record {
  mapped =
      c.take_page.ensures.mapped
      ∙ ap (λ (m : Memory). with_pages m (c.args.page + c.loop-i.i) 1 c.args.permissions) c.loop-i.invariant.mapped
      ∙ with_pages_more (memory_of c.args.frames.now c.args.table.now.items) c.args.page c.loop-i.i c.args.permissions;
  others = λ other m.
      c.take_page.ensures.others other (ShareNoFrame-fewer c.args.free.now.items c.loop-i.free.items (length c.args.frames.now) (length c.loop-i.frames) other c.loop-i.invariant.fewer c.loop-i.invariant.size m)
      ∙ c.loop-i.invariant.others other m;
  sorted = c.take_page.ensures.sorted;
  below = c.take_page.ensures.below (omega arith) c.loop-i.invariant.below;
  owners = λ f. c.take_page.ensures.owners f ∙ c.loop-i.invariant.owners f;
  fewer = λ f. omega (arith, c.take_page.ensures.fewer f, c.loop-i.invariant.fewer f);
  new_pages = λ k a b. c.take_page.ensures.elsewhere (c.args.page + k) (omega arith) ∙ c.loop-i.invariant.new_pages k (omega arith) b;
  len = omega arith;
  left = omega arith;
  size = c.take_page.ensures.size ∙ c.loop-i.invariant.size;
}
