use Rattle.std.proofs.Common.{refl}
use Rattle.test_definitions.specs.scalar.Scalars.{add, addi, addiw, addw, and, andi, div, divu, divuw, divw, lui, mul, mulh, mulhsu, mulhu, mulw, or, ori, rem, remu, remuw, remw, sll, slli, slliw, sllw, slt, slti, sltiu, sltu, sra, srai, sraiw, sraw, srl, srli, srliw, srlw, sub, subw, xor, xori}
use Rattle.test_definitions.proofs.Steps.{agrees, execution}
use Rattle.test_definitions.proofs.scalar.scalars.scalars_agree.Goals as goal

pub returns : goal.returns
unfolding execution
returns c =
    record {
      add = agrees add refl (λ m. refl);
      addi = agrees addi refl (λ m. refl);
      addiw = agrees addiw refl (λ m. refl);
      addw = agrees addw refl (λ m. refl);
      and = agrees and refl (λ m. refl);
      andi = agrees andi refl (λ m. refl);
      div = agrees div refl (λ m. refl);
      divu = agrees divu refl (λ m. refl);
      divuw = agrees divuw refl (λ m. refl);
      divw = agrees divw refl (λ m. refl);
      lui = agrees lui refl (λ m. refl);
      mul = agrees mul refl (λ m. refl);
      mulh = agrees mulh refl (λ m. refl);
      mulhsu = agrees mulhsu refl (λ m. refl);
      mulhu = agrees mulhu refl (λ m. refl);
      mulw = agrees mulw refl (λ m. refl);
      or = agrees or refl (λ m. refl);
      ori = agrees ori refl (λ m. refl);
      rem = agrees rem refl (λ m. refl);
      remu = agrees remu refl (λ m. refl);
      remuw = agrees remuw refl (λ m. refl);
      remw = agrees remw refl (λ m. refl);
      sll = agrees sll refl (λ m. refl);
      slli = agrees slli refl (λ m. refl);
      slliw = agrees slliw refl (λ m. refl);
      sllw = agrees sllw refl (λ m. refl);
      slt = agrees slt refl (λ m. refl);
      slti = agrees slti refl (λ m. refl);
      sltiu = agrees sltiu refl (λ m. refl);
      sltu = agrees sltu refl (λ m. refl);
      sra = agrees sra refl (λ m. refl);
      srai = agrees srai refl (λ m. refl);
      sraiw = agrees sraiw refl (λ m. refl);
      sraw = agrees sraw refl (λ m. refl);
      srl = agrees srl refl (λ m. refl);
      srli = agrees srli refl (λ m. refl);
      srliw = agrees srliw refl (λ m. refl);
      srlw = agrees srlw refl (λ m. refl);
      sub = agrees sub refl (λ m. refl);
      subw = agrees subw refl (λ m. refl);
      xor = agrees xor refl (λ m. refl);
      xori = agrees xori refl (λ m. refl);
    }
