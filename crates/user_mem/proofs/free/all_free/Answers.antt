use Rattle.std.proofs.Common.{◌∙◌, ap, arith, rules}
use Rattle.user_mem.specs.Frames.{times_free}
use Rattle.user_mem.proofs.CountLaws.{first_frames_none, first_frames_more}
use Rattle.user_mem.proofs.free.all_free.Goals as goal

pub loop-frame-init : goal.loop-frame-init
loop-frame-init c = record { once = λ f. first_frames_none f c.new-free.result.items c.new-free.ensures; len = search rules }

pub loop-frame-preserved : goal.loop-frame-preserved
loop-frame-preserved c = record {
  once = λ f. ap (times_free f) c.push.ensures.items ∙ first_frames_more f c.loop-frame.frame c.loop-frame.free.items (c.loop-frame.invariant.once f);
  len = omega arith;
}
