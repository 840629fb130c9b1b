-- The program's access to clap's matches
use Rattle.std.proofs.Common.{◌≡◌, ◌∙◌, ◌<◌, ◌≤◌, ap, subst, sym, refl, ℕ, true, false, List, [], ◌∷◌, length, map, Option, Some, None, Result, Ok, inl, inr, arith, zero, suc, pos, codes, true≢false, is_some}
use Rattle.std.specs.Prelude.{unwrap_or, option_map, slice_get}
use Rattle.std.specs.List.{All, slice_index_or}
use Rattle.std.specs.Str.{bytes_eq}
use Rattle.std.specs.Borrow.{Bor}
use Rattle.std.specs.Str.Parse.{ParsesUnsigned, digits_value, without_leading_plus}
use Rattle.std.proofs.lemmas.Slice.Eq.{bytes_eq-Decides}
use Rattle.std.proofs.lemmas.Bool.{and_parts, ne_eqb, not-true}
use Rattle.std.proofs.lemmas.List.{get_or-map, length-map}
use Rattle.std.proofs.lemmas.List.Elements.{All-get_or}
use Rattle.clap.specs.Words.{App, IsParsedFrom, IsPlain, IsPlainArg, Rule, Text, app_of, args_of, found_of, groups_of, is_simple, matched_of, one_text, reading_of, read_as, rule_of, without_minus, Accepts, HasMatchesOf, IsSignedIn, all_of, first_of, first_value, matches_of, one_of, raw_values, rows_of}
use Rattle.clap.proofs.WalkLemmas.{first_value-rows, one_text-rows, raw_values-rows}
use Rattle.clap.specs.Facts.{Entry, EntryPasses, PassesArg, HasReading, parser_of, parser_of_value}
use Rattle.clap.specs.Built.{IsAuto}
use Rattle.clap.specs.Matches.{ReadsOne}
use Rattle.clap.specs.Walk.{is_empty, is_free_arg, is_simple_arg, texts}
use Rattle.clap.specs.Words.{fault_of, is_simple_and_free}
use Rattle.clap.specs.Simple.{has_plain_fields}
use Rattle.std.specs.Option.{UnwrapsOrElse}
use Rattle.clap.proofs.CallerLemmas.{entry_by_id, same_rules_by_id}
use Rattle.clap.proofs.CallerReads.{signed_reads}
use Rattle.clap.specs.declared.builder.arg.Arg.{Arg}
use Rattle.clap.specs.declared.builder.command.Command.{Command}
use Rattle.clap.specs.declared.builder.command.Command.TheViews.{out-Command}
use Rattle.clap.specs.declared.builder.value_parser.Reading.{Reading}
use Rattle.clap.specs.declared.builder.value_parser.Reading.TheVariants.{WithoutMinus}
use Rattle.clap.specs.declared.builder.value_parser.ValueParser.{ValueParser}
use Rattle.clap.specs.declared.builder.value_parser.ValueParser.TheVariants.{Signed}
use Rattle.clap.specs.declared.parser.matches.ArgMatches.{ArgMatches}
use Rattle.clap.specs.declared.parser.matches.MatchedArg.{MatchedArg}
use Rattle.vec_monitor.specs.CommandLine.{command_line, image_rule, quantum_rule, script_rule, quantum_word, script_word, arguments_fault, IsQuantum}

-- ---- the command after building it

none_in : {X : Type 0} (xs : List X) → is_empty xs ≡ true → xs ≡ []
none_in [] e = refl
none_in (x ∷ xs) e = absurd (true≢false (sym e ∙ ne_eqb _ _ (λ z. omega arith)))

pub plain_by_rule : (a : Arg) → is_simple_arg a ≡ true → is_free_arg a ≡ true → IsPlainArg a
plain_by_rule a simple free =
    let overrides = and_parts _ _ simple in
    let defaults = and_parts _ _ overrides.1 in
    let groups = and_parts _ _ defaults.1 in
    let exclusive = and_parts _ _ free in
    let conflicts = and_parts _ _ exclusive.1 in
    (not-true _ exclusive.0, none_in _ conflicts.0, none_in _ overrides.0, none_in _ groups.0)

rules_are : (c : Command) → app_of c ≡ command_line → map rule_of (args_of c) ≡ quantum_rule ∷ script_rule ∷ image_rule ∷ []
rules_are c is = ap (λ (a : App). a.top.rules) is

rule_at : (c : Command) → app_of c ≡ command_line → (k : ℕ) (d : Arg) → k < length (args_of c)
    → rule_of (slice_index_or (args_of c) k d) ≡ slice_index_or (quantum_rule ∷ script_rule ∷ image_rule ∷ []) k quantum_rule
rule_at c is k d lt = sym (get_or-map rule_of (args_of c) k d quantum_rule lt) ∙ ap (λ rs. slice_index_or rs k quantum_rule) (rules_are c is)

three : (c : Command) → app_of c ≡ command_line → length (args_of c) ≡ 3
three c is =
    let counted : length (args_of c) ≡ length (map rule_of (args_of c)) = grind (arith, length-map) in
    counted ∙ ap length (rules_are c is)

simple_at : (k : ℕ) → (slice_index_or (quantum_rule ∷ script_rule ∷ image_rule ∷ []) k quantum_rule).is_simple ≡ true
simple_at (suc (suc (suc k))) = refl
simple_at _ = refl

free_at : (k : ℕ) → (slice_index_or (quantum_rule ∷ script_rule ∷ image_rule ∷ []) k quantum_rule).is_free ≡ true
free_at (suc (suc (suc k))) = refl
free_at _ = refl

pub plain : (c : Command) → app_of c ≡ command_line → IsPlain c
plain c is =
    let settings : has_plain_fields (out-Command c) ≡ true = ap (λ (a : App). a.top.is_plain) is in (
      λ k d lt. plain_by_rule (slice_index_or (args_of c) k d)
          (ap (λ (r : Rule). r.is_simple) (rule_at c is k d lt) ∙ simple_at k)
          (ap (λ (r : Rule). r.is_free) (rule_at c is k d lt) ∙ free_at k),
      none_in _ (and_parts _ _ settings).0,
    )

pub local : (c : Command) → app_of c ≡ command_line → (out-Command c).has_globals ≡ false
local c is =
    let settings : has_plain_fields (out-Command c) ≡ true = ap (λ (a : App). a.top.is_plain) is in
    not-true _ (and_parts _ _ (and_parts _ _ (and_parts _ _ settings).1).1).0

-- no other argument has the id of the first
alone_at : (j : ℕ) → (slice_index_or (quantum_rule ∷ script_rule ∷ image_rule ∷ []) j quantum_rule).id ≡ codes "quantum" → j < 3 → j ≡ 0
alone_at zero e lt = refl
alone_at (suc (suc (suc j))) e lt = absurd (omega arith)
alone_at _ e lt = absurd (true≢false (sym (ap (λ id. bytes_eq id (codes "quantum")) e)))

id_at : (c : Command) → app_of c ≡ command_line → (k : ℕ) (d : Arg) → k < length (args_of c)
    → (slice_index_or (args_of c) k d).id.now ≡ (slice_index_or (quantum_rule ∷ script_rule ∷ image_rule ∷ []) k quantum_rule).id
id_at c is k d lt = ap (λ (r : Rule). r.id) (rule_at c is k d lt)

pub alone : (c : Command) → app_of c ≡ command_line → (d : Arg) → (j : ℕ) (e : Arg) → j < length (args_of c)
    → bytes_eq (slice_index_or (args_of c) j e).id.now (slice_index_or (args_of c) 0 d).id.now ≡ true → j ≡ 0
alone c is d j e lt same =
    let first : 0 < length (args_of c) = rw (three c is) (omega arith) in
    let ids : (slice_index_or (args_of c) j e).id.now ≡ (slice_index_or (args_of c) 0 d).id.now = (bytes_eq-Decides _ _).0 same in
    alone_at j (sym (id_at c is j e lt) ∙ (ids ∙ id_at c is 0 d first)) (subst (λ n. j < n) (three c is) lt)

-- ---- the matches of the quantum

-- an argument of the built command with the id of `--quantum` has the parser of `--quantum`
quantum_rules : (c : Command) (m : ArgMatches) → app_of c ≡ command_line → (p : IsParsedFrom c m) → (j : ℕ) (x : Arg) → j < length (args_of p.built)
    → slice_index_or (args_of p.built) j x ≡ x → (w : Text) → w ≡ codes "quantum" → bytes_eq x.id.now w ≡ true
    → parser_of x ≡ Signed (pos 1) (pos 1000)
quantum_rules c m is p j x lt at w key same =
    let first : 0 < length (args_of c) = rw (three c is) (omega arith) in
    let a = slice_index_or (args_of c) 0 x in
    let id_is : a.id.now ≡ codes "quantum" = id_at c is 0 x first in
    let parser_is : a.value_parser ≡ Some (Signed (pos 1) (pos 1000)) = ap (λ (r : Rule). r.parser) (rule_at c is 0 x first) in
    let own : IsAuto a → ⊥ = λ auto. elim auto [
      | inl h ↦ true≢false (ap (λ id. bytes_eq id (codes "quantum")) (sym id_is ∙ h))
      | inr h ↦ true≢false (ap (λ id. bytes_eq id (codes "quantum")) (sym id_is ∙ h))
    ] in
    let ids : bytes_eq x.id.now a.id.now ≡ true = subst (λ id. bytes_eq x.id.now id ≡ true) (key ∙ sym id_is) same in
    let rules = same_rules_by_id c m p 0 x first (alone c is x) own j x lt at ids in
    ap parser_of_value (rules.parser (Signed (pos 1) (pos 1000)) parser_is)

-- a value that `--quantum` accepts is in its range
passes_quantum : (c : Command) (m : ArgMatches) → app_of c ≡ command_line → (p : IsParsedFrom c m) → (w v : Text) → w ≡ codes "quantum"
    → PassesArg p.built w v → IsSignedIn (pos 1) (pos 1000) v
passes_quantum c m is p w v key pass =
    subst (λ (q : ValueParser). Accepts pass.1.ignore_case q v) (quantum_rules c m is p pass.0 pass.1 pass.2 pass.3 w key pass.4.0) pass.4.1

reads_quantum : (c : Command) (m : ArgMatches) → app_of c ≡ command_line → (p : IsParsedFrom c m) → (w : Text) (how : Reading) → w ≡ codes "quantum"
    → HasReading p.built w how → how ≡ WithoutMinus
reads_quantum c m is p w how key has =
    sym has.4.1 ∙ ap reading_of (quantum_rules c m is p has.0 has.1 has.2 has.3 w key has.4.0)

first_given : (how : Reading) (vs : List (Bor Text)) (t : Text) (Q : Text → Type 0) → option_map (λ s. read_as how s.now) (slice_get vs 0) ≡ Some t
    → All (λ v. Q v.now) vs → (v : Text) × (t ≡ read_as how v) × Q v
first_given how [] t Q e all = absurd (true≢false (sym (ap is_some e)))
first_given how (v ∷ vs) t Q e all = (v.now, sym (ap (λ o. unwrap_or o t) e), All-get_or (λ s. Q s.now) (v ∷ vs) 0 v (omega arith) all)

-- the text matched for `--quantum` comes from an accepted value
pub given_quantum : (c : Command) (m : ArgMatches) → app_of c ≡ command_line → (p : IsParsedFrom c m) → (t : Text)
    → one_text (found_of m) (codes "quantum") ≡ Some t → (v : Text) × (t ≡ without_minus v) × IsSignedIn (pos 1) (pos 1000) v
given_quantum c m is p t given = go (matched_of (found_of m) (codes "quantum")) refl
  where
    no_groups : groups_of p.built ≡ []
    no_groups = (p.from.plain (plain c is)).1

    at_entry : (x : MatchedArg) (e : Entry) → e.1 ≡ x → e.0.now ≡ codes "quantum" → EntryPasses p.built e
        → option_map (λ s. read_as x.reading s.now) (slice_get x.vals.items 0) ≡ Some t
        → (v : Text) × (t ≡ without_minus v) × IsSignedIn (pos 1) (pos 1000) v
    at_entry x e same key pass at =
        let no_group : e.1.is_group ≡ true → ⊥ = λ g. elim (pass.3 g) [
          | inl empty ↦ true≢false (ap (λ id. bytes_eq id (codes "quantum")) (sym key ∙ empty))
          | inr lots ↦
              let bad : 0 < 0 = rw no_groups at lots in
              omega arith
        ] in
        let how : e.1.reading ≡ WithoutMinus = elim pass.4 [
          | inl g ↦ absurd (no_group g)
          | inr h ↦ reads_quantum c m is p e.0.now e.1.reading key h
        ] in
        let all : All (λ v. IsSignedIn (pos 1) (pos 1000) v.now) e.1.vals.items = elim pass.0 [
          | inl g ↦ absurd (no_group g)
          | inr vals ↦ λ k d lt. passes_quantum c m is p e.0.now _ key (vals k d lt)
        ] in
        let at_x : option_map (λ s. read_as e.1.reading s.now) (slice_get e.1.vals.items 0) ≡ Some t = rw same at in
        let v = first_given e.1.reading e.1.vals.items t (IsSignedIn (pos 1) (pos 1000)) at_x all in
        (v.0, v.1 ∙ ap (λ (r : Reading). read_as r v.0) how, v.2)

    go : (o : Option MatchedArg) → matched_of (found_of m) (codes "quantum") ≡ o → (v : Text) × (t ≡ without_minus v) × IsSignedIn (pos 1) (pos 1000) v
    go None e =
        let none : one_text (found_of m) (codes "quantum") ≡ None = rw e refl in
        absurd (true≢false (sym (ap is_some (sym none ∙ given))))
    go (Some x) e =
        let parsed = p.parsed (p.from.globals ∙ local c is) in
        let got = entry_by_id (EntryPasses p.built) (found_of m).entries.items (codes "quantum") x parsed.values e in
        at_entry x got.0 got.1 ((bytes_eq-Decides _ _).0 got.2) got.3 (rw e at given)

-- the number parsed for `--quantum`, or 100 without a text
pub quantum_read : (E : Type 0) (G : Text → Result ℕ E → Type 0) (c : Command) (m : ArgMatches) (arguments : List Text) → app_of c ≡ command_line → IsParsedFrom c m
    → rows_of (found_of m) ≡ matches_of command_line arguments
    → ((t : Text) (x : Result ℕ E) → G t x → ParsesUnsigned 16 10 t x)
    → (r : Option ℕ) (n : ℕ) → (one_text (found_of m) (codes "quantum") ≡ None → r ≡ None)
    → ((t : Text) → one_text (found_of m) (codes "quantum") ≡ Some t → ReadsOne G t r)
    → n ≡ unwrap_or r 100
    → IsQuantum (quantum_word arguments) n × (1 ≤ n) × (n ≤ 1000)
quantum_read E G c m arguments is p rows only r n none value read = go (one_text (found_of m) (codes "quantum")) refl
  where
    word_is : one_text (found_of m) (codes "quantum") ≡ quantum_word arguments
    word_is = one_text-rows (found_of m) (codes "quantum") ∙ ap (one_of (codes "quantum")) rows

    spelled : (t : Text) (k : ℕ) → ReadsOne G t (Some k) → k ≡ digits_value 10 (without_leading_plus t)
    spelled t k g = (only t (Ok k) g).1

    go : (o : Option Text) → one_text (found_of m) (codes "quantum") ≡ o → IsQuantum (quantum_word arguments) n × (1 ≤ n) × (n ≤ 1000)
    go None e =
        let hundred : n ≡ 100 = read ∙ ap (λ o. unwrap_or o 100) (none e) in
        (subst (λ o. IsQuantum o n) (sym e ∙ word_is) hundred, omega arith, omega arith)
    go (Some t) e =
        let v = given_quantum c m is p t e in
        let parsed = value t e in
        let number = signed_reads E G 16 1 1000 v.0 r (subst (λ u. ReadsOne G u r) v.1 parsed) only (omega arith) v.2 in
        let n_is : n ≡ number.0 = read ∙ ap (λ o. unwrap_or o 100) number.1 in
        let spells = spelled t number.0 (subst (ReadsOne G t) number.1 parsed) in
        (subst (λ o. IsQuantum o n) (sym e ∙ word_is) (n_is ∙ spells), omega arith, omega arith)

-- ---- the arguments for the script and the images

pub rows_by : (c : Command) (m : ArgMatches) (arguments : List Text) → app_of c ≡ command_line → HasMatchesOf (app_of c) arguments m
    → rows_of (found_of m) ≡ matches_of command_line arguments
rows_by c m arguments is matched = (matched (ap is_simple is)).0 ∙ ap (λ a. matches_of a arguments) is

pub script_read : (m : ArgMatches) (arguments : List Text) → rows_of (found_of m) ≡ matches_of command_line arguments
    → first_value (found_of m) (codes "script") ≡ script_word arguments
script_read m arguments rows = first_value-rows (found_of m) (codes "script") ∙ ap (first_of (codes "script")) rows

pub images_read : (m : ArgMatches) (arguments : List Text) → rows_of (found_of m) ≡ matches_of command_line arguments
    → option_map raw_values (matched_of (found_of m) (codes "image")) ≡ all_of (codes "image") (matches_of command_line arguments)
images_read m arguments rows = raw_values-rows (found_of m) (codes "image") ∙ ap (all_of (codes "image")) rows

-- the arguments found, or none
pub images_in : (P : Bor (List (Bor Text)) → Type 0) (o : Option (Bor (List (Bor Text)))) (d : Bor (List (Bor Text))) (arguments : Option (List Text))
    → option_map (λ s. texts s.now) o ≡ arguments → UnwrapsOrElse o P d → ((b : Bor (List (Bor Text))) → P b → b.now ≡ []) → texts d.now ≡ unwrap_or arguments []
images_in P None d arguments e h empty = ap texts (empty d h) ∙ ap (λ ws. unwrap_or ws []) e
images_in P (Some s) d arguments e h empty = ap (λ (b : Bor (List (Bor Text))). texts b.now) h ∙ ap (λ ws. unwrap_or ws []) e

-- clap accepts the arguments
pub taken_by : (c : Command) (arguments : List Text) → app_of c ≡ command_line → (is_simple_and_free (app_of c) ≡ true → fault_of (app_of c) arguments ≡ []) → arguments_fault arguments ≡ []
taken_by c arguments is free = sym (ap (λ a. fault_of a arguments) is) ∙ free (ap is_simple_and_free is)
