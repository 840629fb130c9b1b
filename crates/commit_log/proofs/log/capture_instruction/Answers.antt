use Rattle.std.proofs.Common.{◌∙◌, refl, sym}
use Rattle.std.proofs.lemmas.Bool.{false≢true}
use Rattle.commit_log.proofs.log.capture_instruction.Goals as goal

pub returns-then-not-contains : goal.returns-then-not-contains
returns-then-not-contains g c =
    record {
      sink_is = refl;
      text_is = refl;
      window_is = refl;
      number_is = refl;
      finds = λ within fetches. absurd (false≢true (sym (sym c.contains.ensures ∙ c.if-not-contains.true) ∙ within));
    }

pub returns : goal.returns
returns g c =
    record {
      sink_is = refl;
      text_is = refl;
      window_is = refl;
      number_is = refl;
      finds = λ within fetches. c.capture_pre_state.ensures fetches;
    }
