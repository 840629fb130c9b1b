use Rattle.std.proofs.Common.{ℕ, ◌+◌, refl, ◌∙◌, ap, arith}
use Rattle.rv_model.specs.images.Image.{placed_headers, is_touched}
use Rattle.elf_load.proofs.PageLaws.{pages_below_next}
use Rattle.elf_load.proofs.ImageLaws.{pages_below_none, counted_all, counted_many}
use Rattle.elf_load.proofs.plan.Plan.pages.Goals as goal

pub loop-count-init : goal.loop-count-init
loop-count-init c = record { counted = pages_below_none (is_touched (placed_headers c.self.inside.image.now)); bound = omega arith }

all_counted : goal.returns-in_default-clause-count
all_counted c = counted_all c.self.inside.image.now c.args.self.now c.loop-count.from c.loop-count.count c.self.view_is c.in_default.ensures.first c.loop-count.invariant.bound c.loop-count.invariant.counted

pub returns-in_default-clause-count : goal.returns-in_default-clause-count
returns-in_default-clause-count c = all_counted c

pub returns-in_default-clause-few : goal.returns-in_default-clause-few
returns-in_default-clause-few c = (λ _. (let all = all_counted c in omega (arith, all)), λ _. refl)

pub loop-count-preserved : goal.loop-count-preserved
loop-count-preserved c = record {
  counted = pages_below_next (is_touched (placed_headers c.self.inside.image.now)) c.loop-count.from c.in-Some.page c.in-Some.ensures.first ∙ ap (λ (n : ℕ). n + 1) c.loop-count.invariant.counted;
  bound = omega (arith, c.in-Some.ensures.bound);
}

pub returns-clause-few : goal.returns-clause-few
returns-clause-few c =
    let many = counted_many c.self.inside.image.now c.args.self.now c.loop-count.from c.self.view_is c.loop-count.invariant.bound in
    (λ impossible. absurd (cc), λ few. absurd (omega (arith, many, few)))
