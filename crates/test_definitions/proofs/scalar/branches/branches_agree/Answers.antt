use Rattle.std.proofs.Common.{refl}
use Rattle.test_definitions.specs.scalar.Branches.{ebreak, auipc, beq, bge, bgeu, blt, bltu, bne, fence, jal, jalr, beq_misaligned, bge_misaligned, bgeu_misaligned, blt_misaligned, bltu_misaligned, bne_misaligned, jal_misaligned, jalr_misaligned}
use Rattle.test_definitions.proofs.Steps.{agrees, execution}
use Rattle.test_definitions.proofs.scalar.branches.branches_agree.Goals as goal

pub returns : goal.returns
unfolding execution
returns c =
    record {
      ebreak = agrees ebreak refl (λ m. refl);
      auipc = agrees auipc refl (λ m. refl);
      beq = agrees beq refl (λ m. refl);
      bge = agrees bge refl (λ m. refl);
      bgeu = agrees bgeu refl (λ m. refl);
      blt = agrees blt refl (λ m. refl);
      bltu = agrees bltu refl (λ m. refl);
      bne = agrees bne refl (λ m. refl);
      fence = agrees fence refl (λ m. refl);
      jal = agrees jal refl (λ m. refl);
      jalr = agrees jalr refl (λ m. refl);
      beq_misaligned = agrees beq_misaligned refl (λ m. refl);
      bge_misaligned = agrees bge_misaligned refl (λ m. refl);
      bgeu_misaligned = agrees bgeu_misaligned refl (λ m. refl);
      blt_misaligned = agrees blt_misaligned refl (λ m. refl);
      bltu_misaligned = agrees bltu_misaligned refl (λ m. refl);
      bne_misaligned = agrees bne_misaligned refl (λ m. refl);
      jal_misaligned = agrees jal_misaligned refl (λ m. refl);
      jalr_misaligned = agrees jalr_misaligned refl (λ m. refl);
    }
