use Rattle.std.proofs.Common.{rules, ap, ap₂, ◌≡◌, ◌∙◌, pos, false, Option}
use Rattle.std.specs.Prelude.{Some, codes}
use Rattle.clap.specs.Words.{Rule, new_rule, rule_of}
use Rattle.clap.specs.declared.builder.arg.Arg.{Arg}
use Rattle.clap.specs.declared.builder.value_parser.ValueParser.{ValueParser}
use Rattle.clap.specs.declared.builder.value_parser.ValueParser.TheVariants.{Signed}
use Rattle.vec_monitor.proofs.command_line.quantum.Goals as goal

pub returns : goal.returns
returns c =
    let range_is : c.range.result ≡ Signed (pos 1) (pos 1000) =
    rw (c.value_parser.ensures, c.new-2.ensures.start, c.new-2.ensures.end) at c.range.ensures in
    let given = c.value_parser-2.ensures.given in
    let parser_is : c.value_parser-2.result.value_parser ≡ Some (Signed (pos 1) (pos 1000)) = rw (given.2, range_is) at given.1 in
    let others = c.value_parser-2.ensures.others in
    let named_is : rule_of c.value_name.result ≡ record (new_rule (codes "quantum")) {
      long = Some (codes "quantum");
      value_names = 1;
    } = search rules in
    let local : c.value_name.result.global ≡ false = search rules in
    record {
      rule = ap rule_of c.help.ensures
          ∙ (ap rule_of others ∙ ap₂ (λ (r : Rule) (p : Option ValueParser). record r { parser = p }) named_is parser_is);
      local = ap (λ (a : Arg). a.global) c.help.ensures ∙ (ap (λ (a : Arg). a.global) others ∙ local);
    }
