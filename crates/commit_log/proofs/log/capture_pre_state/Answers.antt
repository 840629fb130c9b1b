use Rattle.recording.specs.Machines.{state_of}
use Rattle.commit_log.proofs.Kept.{captured_word}
use Rattle.commit_log.proofs.log.capture_pre_state.Goals as goal

pub returns : goal.returns
returns g c = λ fetches.
    captured_word (state_of g.M.UserBytes.memory c.args.machine.now) _ _ _ _ _ c.decode.ensures.row (c.word_at-word.ensures fetches) c.capture.ensures
