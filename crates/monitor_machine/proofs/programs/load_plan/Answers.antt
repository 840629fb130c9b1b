use Rattle.std.proofs.Common.{List, Err, ap, ◌∙◌, refl, sym}
use Rattle.rv_model.specs.images.Image.{memory_of_image}
use Rattle.rv_model.specs.memory.Memory.{Memory, page_count}
use Rattle.lazy_context.specs.LazyUnit.{record_of, state_of}
use Rattle.user_mem.specs.Users.{memory_of_user, with_memory}
use Rattle.monitor_machine.specs.UserAdapters.{memory_there, same_memory}
use Rattle.monitor_machine.proofs.ProgramOutcomes.{few_pages, loaded_unit, placed_next, placed_reply, too_large_next, too_large_reply, too_large_unit}
use Rattle.monitor_machine.proofs.programs.load_plan.Goals as goal

pub returns-in-Ok : goal.returns-in-Ok
returns-in-Ok g c =
    let old = c.args.parts.now in
    let memory = ap (λ (ms : List Memory). memory_of_user ms old.user) c.in-Ok.ensures.memory ∙ memory_there old.pool.now old.user (memory_of_image c.args.plan.now) c.memory_law.ensures in
    let few = few_pages (page_count (memory_of_image c.args.plan.now)) c.in-Ok.entry _ c.in-Ok.ensures.quota in
    record {
      next =
          placed_next old.context.now c.loaded-parts.result c.args.trace.now c.clear.new.self (state_of old.unit.now old.user) (state_of c.discard.new.self old.user) (memory_of_user old.pool.now old.user) (memory_of_user c.place.new.pool old.user) c.args.plan.now c.in-Ok.entry
          (few_pages (page_count (memory_of_image c.args.plan.now)) c.in-Ok.entry _ c.in-Ok.ensures.quota) c.in-Ok.ensures.entry c.loaded-parts.ensures c.clear.ensures c.discard.ensures.own memory;
      reply =
          placed_reply old.context.now c.args.trace.now (state_of old.unit.now old.user) (memory_of_user old.pool.now old.user) (memory_of_user c.place.new.pool old.user) c.args.plan.now c.in-Ok.entry c.pages.result old.user c.clear-in-Ok.new.self c.loaded_line.new.reply
          (few_pages (page_count (memory_of_image c.args.plan.now)) c.in-Ok.entry _ c.in-Ok.ensures.quota) c.in-Ok.ensures.entry memory c.pages.ensures.value c.clear-in-Ok.ensures c.loaded_line.ensures.text;
      parts =
          record {
            unit = record {
              settled = c.discard.ensures.settled old.settled;
              others_keep = c.discard.ensures.others;
              counts = c.discard.ensures.counts ∙ sym (loaded_unit old.context.now c.args.trace.now (state_of old.unit.now old.user) (memory_of_user old.pool.now old.user) old.user c.args.plan.now (record_of old.unit.now) few);
            };
            others = c.in-Ok.ensures.memory ∙ ap (λ (m : Memory). with_memory old.pool.now old.user m) (sym memory);
            user = refl;
            same_context = refl;
            same_unit = refl;
            same_pool = refl;
          };
    }

pub returns-in-Err : goal.returns-in-Err
returns-in-Err g c =
    let old = c.args.parts.now in
    let many = c.place.ensures.quota.0 (c.in-Err.is ∙ ap (λ r. Err r) c.in-Err.ensures.only_quota) in
    let same = c.in-Err.ensures.refused in
    record {
      next = too_large_next old.context.now c.args.trace.now (state_of old.unit.now old.user) (memory_of_user old.pool.now old.user) (memory_of_user c.place.new.pool old.user) c.args.plan.now many c.requires.present (ap (λ (ms : List Memory). memory_of_user ms old.user) c.in-Err.ensures.refused);
      reply = too_large_reply old.context.now c.args.trace.now (state_of old.unit.now old.user) (memory_of_user old.pool.now old.user) c.args.plan.now old.user c.refuse.new.reply many c.refuse.ensures;
      parts =
          record {
            unit = record {
              settled = old.settled;
              others_keep = λ other low apart. refl;
              counts = sym (too_large_unit old.context.now c.args.trace.now (state_of old.unit.now old.user) (memory_of_user old.pool.now old.user) old.user c.args.plan.now (record_of old.unit.now) many);
            };
            others = same ∙ sym (same_memory old.pool.now old.user) ∙ ap (λ (ms : List Memory). with_memory old.pool.now old.user (memory_of_user ms old.user)) (sym same);
            user = refl;
            same_context = refl;
            same_unit = refl;
            same_pool = refl;
          };
    }
