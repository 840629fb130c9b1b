-- The line of one instruction, as `after_step` records it.
use Rattle.std.proofs.Common.{◌≡◌, ◌∙◌, ◌++◌, ◌∷◌, [], ℕ, Bool, true, false, List, Option, None, Some, ap, refl, subst, sym, append-nil, append_assoc, if◌then◌else◌}
use Rattle.std.proofs.lemmas.Bool.{and_parts, false≢true}
use Rattle.std.specs.Option.{option_map_or}
use Rattle.std.specs.Prelude.{◌&&◌}
use Rattle.recording.proofs.Counted.{was_fetched}
use Rattle.recording.specs.Runs.{is_counted, word_of}
use Rattle.rv_model.specs.declared.instructions.instruction.Instr.{Instr}
use Rattle.rv_model.specs.declared.scalar.Scalar.{Scalar}
use Rattle.rv_model.specs.declared.step.step_end.StepEnd.{StepEnd}
use Rattle.rv_model.specs.declared.vector.state.VState.{VState}
use Rattle.rv_model.specs.instructions.Table.{scan, table}
use Rattle.rv_model.specs.step.Hart.{HartState, Stepped, ends_after}
use Rattle.rv_model.specs.step.Step.{executed, step}
use Rattle.commit_log.specs.Finds.{Finds, Retires}
use Rattle.commit_log.specs.declared.pre_state.PreState.{PreState}
use Rattle.commit_log.specs.declared.log.Log.{Log}
use Rattle.commit_log.specs.declared.log.Window.{Window}
use Rattle.commit_log.specs.LineTexts.{line_text}
use Rattle.commit_log.specs.Lines.{instruction_line}
use Rattle.commit_log.proofs.Retired.{Retired, of_counted, steps_retire}
use Rattle.commit_log.specs.Logged.{Gathered, IsLogged, IsNoted, is_within, line_by, logged, logged_from, number_after, one_more}

-- a line that is appended to the buffered text
pub line_added : {K : Type 0} (Took : K → List ℕ → K → Type 0) (sink after : K) (text mid new line : List ℕ) → Gathered Took sink text [] after mid → new ≡ mid ++ line
    → Gathered Took sink text line after new
line_added Took sink after text mid new line room added =
    record {
      written = room.written;
      took = room.took;
      all = ap (λ (l : List ℕ). room.written ++ l) added
          ∙ (sym (append_assoc room.written mid line) ∙ ap (λ (l : List ℕ). l ++ line) (room.all ∙ append-nil text));
    }

-- the state saved for the word that the code reads is the state saved for the word of `s`
pub captured_word : (s : HartState) (word : ℕ) (i : Option Instr) (x : Scalar) (v : VState) (f : PreState) → i ≡ scan table word → word ≡ word_of s
    → Finds word i x v f → Finds (word_of s) (scan table (word_of s)) x v f
captured_word s word i x v f instr_is word_is finds =
    subst (λ (w : ℕ). Finds w (scan table w) x v f) word_is (subst (λ (o : Option Instr). Finds word o x v f) instr_is finds)

-- an instruction that completed has a word in the instruction table
was_instruction : (s next : HartState) (ticks : ℕ) (end : StepEnd) → step 256 s ≡ ends_after ticks end next → is_counted end ≡ true
    → scan table (word_of s) ≡ None → ⊥
unfolding executed
was_instruction s next ticks end made counts none =
    of_counted s (λ (r : Stepped). ⊥) None none (λ h. absurd (false≢true h)) (ap (λ (o : Stepped). is_counted o.end) made ∙ counts)

-- the bytes that one instruction adds
abbrev added : Window → ℕ → HartState → List ℕ
added w number s = if is_within w (one_more number) then logged s else []

both_of : (within counts : Bool) (line : List ℕ) → (if within then if counts then line else [] else []) ≡ (if counts && within then line else [])
both_of within true line = refl
both_of true false line = refl
both_of false false line = refl

module _ {K : Type 0} (Took : K → List ℕ → K → Type 0) (before old : Log K) (s next : HartState) (end : StepEnd) (ticks : ℕ) (prepared : IsNoted before s old)
    (made : step 256 s ≡ ends_after ticks end next) where
  counts_are : (is_counted end && is_within old.window old.number) ≡ (is_counted (step 256 s).end && is_within before.window (one_more before.number))
  counts_are = rw (prepared.window_is, prepared.number_is, made) refl

  -- its line, if it has one
  line_where : (b : Bool) → (is_counted end && is_within old.window old.number) ≡ b → added before.window before.number s ≡ (if b then line_by s (step 256 s) else [])
  line_where b is =
      both_of (is_within before.window (one_more before.number)) (is_counted (step 256 s).end) (line_by s (step 256 s))
      ∙ ap (λ (c : Bool). if c then line_by s (step 256 s) else []) (sym counts_are ∙ is)

  -- the log after these bytes, which are those of the instruction
  logged_by : (bytes : List ℕ) (new : Log K) → new.window ≡ old.window → new.number ≡ old.number → Gathered Took old.sink old.text bytes new.sink new.text
      → added before.window before.number s ≡ bytes → IsLogged Took before (s ∷ []) new
  unfolding logged_from number_after
  logged_by bytes new window number gathered is =
      record {
        window_is = window ∙ prepared.window_is;
        number_is = number ∙ prepared.number_is;
        lines = subst (λ (sink : K). Gathered Took sink before.text (logged_from before.window before.number (s ∷ [])) new.sink new.text) prepared.sink_is
            (subst (λ (text : List ℕ). Gathered Took old.sink text (logged_from before.window before.number (s ∷ [])) new.sink new.text) prepared.text_is
            (subst (λ (l : List ℕ). Gathered Took old.sink old.text l new.sink new.text) (sym is ∙ sym (append-nil (added before.window before.number s))) gathered));
      }

  pub none_kept : ((k : K) → Took k [] k) → (is_counted end && is_within old.window old.number) ≡ false → IsLogged Took before (s ∷ []) old
  none_kept took_none isnt =
      logged_by [] old refl refl (record { written = []; took = took_none old.sink; all = sym (append-nil old.text) })
      (line_where false isnt)

  pub line_kept : (new : Log K) → (is_counted end && is_within old.window old.number) ≡ true → new.window ≡ old.window → new.number ≡ old.number
      → ((i : Instr) (word : ℕ) (t : HartState) → Finds word (Some i) t.scalar t.vector old.found → Retires i t.vector next.vector.conf.vl
      → Gathered Took old.sink old.text (line_text (instruction_line i word t next.scalar next.vector)) new.sink new.text)
      → IsLogged Took before (s ∷ []) new
  line_kept new holds window number gathered =
      let both = and_parts (is_counted end) (is_within old.window old.number) holds in
      let finds = prepared.finds both.1 (was_fetched s next ticks end made both.0) in
      by (scan table (word_of s)) refl finds
    where
      by : (o : Option Instr) → scan table (word_of s) ≡ o → Finds (word_of s) o s.scalar s.vector old.found → IsLogged Took before (s ∷ []) new
      by None e finds = absurd (was_instruction s next ticks end made (and_parts (is_counted end) (is_within old.window old.number) holds).0 e)
      by (Some i) e finds =
          let retired = subst (λ (o : Stepped). Retired i s o) made (steps_retire s i e) (and_parts (is_counted end) (is_within old.window old.number) holds).0 in
          logged_by (line_text (instruction_line i (word_of s) s next.scalar next.vector)) new window number (gathered i (word_of s) s finds retired)
          (line_where true holds
          ∙ (ap (λ (o : Stepped). line_by s o) made
          ∙ ap (λ (o : Option Instr). option_map_or (λ j. line_text (instruction_line j (word_of s) s next.scalar next.vector)) o []) e))
