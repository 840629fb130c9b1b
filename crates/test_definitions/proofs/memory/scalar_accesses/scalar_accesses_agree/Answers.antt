use Rattle.std.proofs.Common.{refl}
use Rattle.test_definitions.specs.memory.ScalarAccesses.{lb, lbu, ld, lh, lhu, lw, lwu, sb, sd, sh, sw}
use Rattle.test_definitions.proofs.Accesses.{execution_defined, load_agrees, store_agrees}
use Rattle.test_definitions.proofs.memory.scalar_accesses.scalar_accesses_agree.Goals as goal

pub returns : goal.returns
unfolding execution_defined
returns c =
    record {
      lb = load_agrees lb refl refl (λ m. refl) (λ m. refl);
      lbu = load_agrees lbu refl refl (λ m. refl) (λ m. refl);
      ld = load_agrees ld refl refl (λ m. refl) (λ m. refl);
      lh = load_agrees lh refl refl (λ m. refl) (λ m. refl);
      lhu = load_agrees lhu refl refl (λ m. refl) (λ m. refl);
      lw = load_agrees lw refl refl (λ m. refl) (λ m. refl);
      lwu = load_agrees lwu refl refl (λ m. refl) (λ m. refl);
      sb = store_agrees sb refl refl (λ m. refl) (λ m. refl) (λ m. refl) (λ m. refl);
      sd = store_agrees sd refl refl (λ m. refl) (λ m. refl) (λ m. refl) (λ m. refl);
      sh = store_agrees sh refl refl (λ m. refl) (λ m. refl) (λ m. refl) (λ m. refl);
      sw = store_agrees sw refl refl (λ m. refl) (λ m. refl) (λ m. refl) (λ m. refl);
    }
