-- A run of a load or store continues where it stopped.
use Rattle.std.proofs.Common.{◌≡◌, ℕ, Bool, subst}
use Rattle.rv_model.specs.declared.instructions.instruction.Instr.TheVariants as instr
use Rattle.rv_model.specs.declared.instructions.access.AccessInstr.{AccessInstr}
use Rattle.rv_model.specs.declared.scalar.Scalar.{Scalar}
use Rattle.rv_model.specs.declared.vector.state.VState.{VState}
use Rattle.rv_model.specs.accesses.AccessRuns.{AccessRun, access_run}
use Rattle.rv_model.specs.accesses.Restarts.{AccessesGoOn, AccessGoesOn, GoesOn, access_from}
use Rattle.rv_model.specs.accesses.VectorAccess.{access_of, index_count}
use Rattle.rv_model.specs.legality.Legality.{IsLegal}
use Rattle.rv_model.specs.memory.Memory.{Memory}
use Rattle.rv_model.specs.vector.Groups.{IsConfiguration}
use Rattle.rv_model.proofs.access_lemmas.InstructionsResume.{access_resumes, stops_within}
use Rattle.rv_model.proofs.access_lemmas.RunsAgain.{ends_whole, larger_limit_is_same, whole_uncut}

pub accesses_go_on : AccessesGoOn
accesses_go_on i limit fill v x m legal is = record {
  part = stops_within i limit fill v x m;
  again = on limit m;
  whole =
      ends_whole AccessRun (access_from fill i x v) on (index_count (access_of i v x)) (larger_limit_is_same fill i x v)
      (λ limit m enough. whole_uncut i limit fill v x m enough) limit m;
}
  where
    on : (limit : ℕ) (m : Memory) → GoesOn (access_from fill i x v) m (access_run limit fill i v x m)
    on limit m later more follows = access_resumes i limit later fill v x m more legal is follows.0 follows.1

pub goes_on : (limit : ℕ) (fill : Bool) (i : AccessInstr) (v : VState) (x : Scalar) (m : Memory) (run : AccessRun)
    → IsLegal (instr.Access i) v.conf.vtype v.vstart → IsConfiguration v.conf → access_run limit fill i v x m ≡ run → AccessGoesOn fill i x v m run
goes_on limit fill i v x m run legal conf is = subst (AccessGoesOn fill i x v m) is (accesses_go_on i limit fill v x m legal conf)
