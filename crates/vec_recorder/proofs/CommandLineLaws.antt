-- The program's access to clap's matches
use Rattle.std.proofs.Common.{◌≡◌, ◌∙◌, ap, refl, sym, subst, true, List, [], Option, Some, None, inl, inr}
use Rattle.std.specs.Prelude.{Result, Ok, Err, IfErr, IsErrAnd, unwrap_or, option_map}
use Rattle.std.specs.Borrow.{Bor}
use Rattle.std.specs.Option.{UnwrapsOrElse}
use Rattle.clap.specs.Words.{HasKind, IsAmong, Kinds, Text, app_of, kind_of, found_of, is_simple, matched_of, HasMatchesOf, all_of, first_of, first_value, matches_of, raw_values, rows_of}
use Rattle.clap.specs.Words.{fault_of, is_simple_and_free}
use Rattle.clap.specs.Walk.{texts}
use Rattle.clap.proofs.WalkLemmas.{first_value-rows, raw_values-rows}
use Rattle.clap.specs.declared.builder.command.Command.{Command}
use Rattle.clap.specs.declared.error.Error.{Error}
use Rattle.clap.specs.declared.parser.matches.ArgMatches.{ArgMatches}
use Rattle.vec_recorder.specs.CommandLine.{RunArguments, command_line, word_of, arguments_fault, IsFaultOf, IsRefusedFor}
use Rattle.vec_recorder.specs.declared.command_line.UsageFault.{UsageFault}
use Rattle.vec_recorder.specs.declared.command_line.UsageFault.TheVariants.{Help, Usage, NoMemory}

pub rows_by : (c : Command) (m : ArgMatches) (arguments : List Text) → app_of c ≡ command_line → HasMatchesOf (app_of c) arguments m
    → rows_of (found_of m) ≡ matches_of command_line arguments
rows_by c m arguments is matched = (matched (ap is_simple is)).0 ∙ ap (λ a. matches_of a arguments) is

pub word_read : (m : ArgMatches) (arguments : List Text) (name : Text) → rows_of (found_of m) ≡ matches_of command_line arguments
    → first_value (found_of m) name ≡ word_of name arguments
word_read m arguments name rows = first_value-rows (found_of m) name ∙ ap (first_of name) rows

pub arguments_read : (m : ArgMatches) (arguments : List Text) (name : Text) → rows_of (found_of m) ≡ matches_of command_line arguments
    → option_map raw_values (matched_of (found_of m) name) ≡ all_of name (matches_of command_line arguments)
arguments_read m arguments name rows = raw_values-rows (found_of m) name ∙ ap (all_of name) rows

-- the arguments found, or none
pub texts_in : (P : Bor (List (Bor Text)) → Type 0) (o : Option (Bor (List (Bor Text)))) (d : Bor (List (Bor Text))) (arguments : Option (List Text))
    → option_map (λ s. texts s.now) o ≡ arguments → UnwrapsOrElse o P d → ((b : Bor (List (Bor Text))) → P b → b.now ≡ []) → texts d.now ≡ unwrap_or arguments []
texts_in P None d arguments e h empty = ap texts (empty d h) ∙ ap (λ ws. unwrap_or ws []) e
texts_in P (Some s) d arguments e h empty = ap (λ (b : Bor (List (Bor Text))). texts b.now) h ∙ ap (λ ws. unwrap_or ws []) e

-- clap accepts the arguments
pub taken_by : (c : Command) (arguments : List Text) → app_of c ≡ command_line → (is_simple_and_free (app_of c) ≡ true → fault_of (app_of c) arguments ≡ []) → arguments_fault arguments ≡ []
taken_by c arguments is free = sym (ap (λ a. fault_of a arguments) is) ∙ free (ap is_simple_and_free is)

-- a usage fault from one of clap's errors, if this has one of these kinds
fault_among : (kinds : Kinds) (e : Error) (fault : UsageFault) → IsFaultOf (kind_of e) fault → HasKind kinds e → IsRefusedFor kinds fault
fault_among kinds e NoMemory is has = tt
fault_among kinds e (Help printed) is (inl none) = absurd (cc (is.0, none))
fault_among kinds e (Help printed) is (inr among) = (is.1, subst (λ k. IsAmong k kinds) (is.0 ∙ sym is.1) among)
fault_among kinds e (Usage printed) is (inl none) = absurd (is.1 none)
fault_among kinds e (Usage printed) is (inr among) = (λ help. is.0 (sym is.2 ∙ help), subst (λ k. IsAmong k kinds) (sym is.2) among)

-- clap rejects the arguments
pub refused_by : {T : Type 0} (c : Command) (arguments : List Text) (e : Error) (r : Result T UsageFault) → app_of c ≡ command_line
    → (is_simple_and_free (app_of c) ≡ true → HasKind (fault_of (app_of c) arguments) e) → IsErrAnd r (IsFaultOf (kind_of e)) → IfErr r (IsRefusedFor (arguments_fault arguments))
refused_by c arguments e (Ok _) is fails given = tt
refused_by c arguments e (Err fault) is fails given =
    fault_among (arguments_fault arguments) e fault given (subst (λ a. HasKind (fault_of a arguments) e) is (fails (ap is_simple_and_free is)))

-- values that are equal field by field
pub arguments_alike : (w : RunArguments) (policy ticks : Option Text) (memory : List Text) (registers counts : Option Text) (watch : List Text)
    (changes log from to seed kinds open_from open_to open_elements chosen image : Option Text) → policy ≡ w.policy → ticks ≡ w.ticks → memory ≡ w.memory
    → registers ≡ w.registers → counts ≡ w.counts → watch ≡ w.watch → changes ≡ w.changes → log ≡ w.log → from ≡ w.from → to ≡ w.to → seed ≡ w.seed → kinds ≡ w.kinds
    → open_from ≡ w.open_from → open_to ≡ w.open_to → open_elements ≡ w.open_elements → chosen ≡ w.chosen → image ≡ w.image
    → record {
      policy = policy;
      ticks = ticks;
      memory = memory;
      registers = registers;
      counts = counts;
      watch = watch;
      changes = changes;
      log = log;
      from = from;
      to = to;
      seed = seed;
      kinds = kinds;
      open_from = open_from;
      open_to = open_to;
      open_elements = open_elements;
      chosen = chosen;
      image = image;
    } ≡ w
arguments_alike w policy ticks memory registers counts watch changes log from to seed kinds open_from open_to open_elements chosen image p t m r n v c l f u s k a b e h i =
    rw p (rw t (rw m (rw r (rw n (rw v (rw c (rw l (rw f (rw u (rw s (rw k (rw a (rw b (rw e (rw h (rw i refl))))))))))))))))
