-- The counts of a run that starts with empty rows, its records, and the files of its initial machine
use Rattle.std.proofs.Common.{◌≡◌, ◌∙◌, ◌<◌, ◌+◌, ◌++◌, [], ◌∷◌, ℕ, zero, suc, Bool, true, false, List, ap, ap₂, append-nil, arith, drop, length, refl, subst, sym, take, Option, Result, Ok, Err, flat_map}
use Rattle.std.specs.Prelude.{IfOk, IsPermutation, ◌%◌, ◌^◌, ⊤, if◌then◌else◌}
use Rattle.std.specs.List.{slice_index_or, sum_by}
use Rattle.std.proofs.lemmas.List.Sums.{sum_by-cons}
use Rattle.std.proofs.lemmas.List.{drop_all, drop_more}
use Rattle.std.proofs.lemmas.List.Sorted.{sum_by-IsPermutation}
use Rattle.clap.specs.Walk.{Text}
use Rattle.choice_log.specs.ChoiceLines.{choices_from}
use Rattle.choice_log.specs.Listed.{IsListed}
use Rattle.choice_log.specs.declared.choice_log.ChoiceLog.{ChoiceLog}
use Rattle.commit_log.specs.Logged.{IsLogged, logged_from}
use Rattle.commit_log.specs.declared.log.Log.{Log}
use Rattle.commit_log.specs.declared.log.Window.{Window}
use Rattle.first_state.specs.Loaded.{entered}
use Rattle.first_state.specs.OwnMemory.{own_memory}
use Rattle.first_state.specs.declared.own_bytes.OwnBytes.{OwnBytes}
use Rattle.memory_changes.specs.Changes.{changes_from}
use Rattle.memory_changes.specs.declared.place.Place.{Place}
use Rattle.memory_changes.specs.Recorded.{IsRecorded}
use Rattle.memory_changes.specs.declared.changes.Changes.{Changes}
use Rattle.memory_changes.proofs.Lists.{first_more}
use Rattle.open_choices.specs.declared.seeds.Seed.{Seed}
use Rattle.recording.specs.Classes.{class_of}
use Rattle.recording.specs.Machines.{state_of}
use Rattle.recording.specs.Runs.{is_counted, second_key, once_more, ran_by, share, shares, word_of as found_word}
use Rattle.recording.specs.Sums.{HasMore, is_word, part_of, total}
use Rattle.recording.specs.Totals.{AddsUp, counted_ticks, times_of}
use Rattle.recording.specs.declared.class.Class.{Class}
use Rattle.recording.specs.declared.class.Class.TheVariants as class
use Rattle.recording.specs.declared.key.Key.{Key}
use Rattle.recording.specs.declared.machine.SingleUserMachine.{SingleUserMachine}
use Rattle.recording.specs.declared.row.Row.{Row}
use Rattle.recording.specs.declared.sums.Sums.{Sums}
use Rattle.rv_model.specs.declared.step.step_end.StepEnd.{StepEnd}
use Rattle.rv_model.specs.declared.vector.policy.Policy.{Policy}
use Rattle.rv_model.specs.instructions.Table.{scan, table}
use Rattle.rv_model.specs.memory.Memory.{Memory}
use Rattle.rv_model.specs.step.Hart.{HartState}
use Rattle.rv_model.specs.step.Step.{step}
use Rattle.rv_model.specs.vector.Groups.{Configuration}
use Rattle.vec_recorder.specs.InitialMachine.{ArePlaced, StartsFrom}
use Rattle.vec_recorder.specs.RecordLines.{last_line, row_line}
use Rattle.vec_recorder.specs.Recorded.{AreCountsOf, Recorded, end_of}
use Rattle.vec_recorder.specs.declared.memory_arguments.MemoryPath.{MemoryPath}

-- ---- the initial machine

-- a statement about a machine that was created
pub when_created : {T E : Type 0} (P : T → Type 0) (r : Result T E) (x : T) → r ≡ Ok x → IfOk r P → P x
when_created P r x is holds = subst (λ it. IfOk it P) is holds

-- a machine of a user who has just entered with a policy has this policy
pub entered_with : {A E : Type 0} (r : Result (SingleUserMachine (OwnBytes A)) E) (policy : Policy) → IfOk r (λ machine. state_of own_memory machine ≡ entered policy)
    → IfOk r (λ machine. (state_of own_memory machine ≡ entered machine.policy) × (machine.policy ≡ policy))
entered_with (Err e) policy is = tt
entered_with (Ok machine) policy is =
    let same : machine.policy ≡ policy = ap (λ (s : HartState). s.policy) is in
    (is ∙ ap entered (sym same), same)

-- the initial state with another name of the policy and of the memory files
pub starts_as : (file_bytes : Text → Option (List ℕ)) (policy policy' : Policy) (image : Option Text) (memories memories' : List MemoryPath) (registers : Option Text)
    (state : HartState) → policy ≡ policy' → memories ≡ memories' → StartsFrom file_bytes policy image memories registers state
    → StartsFrom file_bytes policy' image memories' registers state
starts_as file_bytes policy policy' image memories memories' registers state same them begins =
    subst (λ it. StartsFrom file_bytes it image memories' registers state) same
    (subst (λ it. StartsFrom file_bytes policy image it registers state) them begins)

-- ---- lines

-- the output after one more row
pub line_taken : (rows : List Row) (i : ℕ) (row : Row) (shown after before : List ℕ) → i < length rows → shown ≡ after → after ≡ before ++ row_line row
    → before ≡ [] → row ≡ slice_index_or rows i row → flat_map row_line (take i rows) ++ shown ≡ flat_map row_line (take (i + 1) rows)
line_taken rows i row shown after before lt shown_is after_is empty at =
    let line : shown ≡ row_line (slice_index_or rows i row) =
    shown_is ∙ (after_is ∙ (ap (λ (b : List ℕ). b ++ row_line row) empty ∙ ap row_line at)) in
    ap (λ (l : List ℕ). flat_map row_line (take i rows) ++ l) line ∙ first_more row_line rows i row lt

-- ---- counts

-- one count, in sorted rows
counted_of : (found : List HartState) (old rows sorted : List Row) (number : Sums → ℕ) (asked : Key → Bool) → old ≡ [] → IsPermutation rows sorted
    → total number asked rows % 2 ^ 64 ≡ (total number asked old + shares found number asked) % 2 ^ 64
    → total number asked sorted % 2 ^ 64 ≡ shares found number asked % 2 ^ 64
counted_of found old rows sorted number asked nothing same more =
    let none : 0 + shares found number asked ≡ shares found number asked = omega arith in
    ap (λ n. n % 2 ^ 64) (sum_by-IsPermutation (part_of number asked) rows sorted same)
    ∙ (more ∙ (ap (λ them. (total number asked them + shares found number asked) % 2 ^ 64) nothing ∙ ap (λ n. n % 2 ^ 64) none))

pub counted : (found : List HartState) (old rows sorted : List Row) → old ≡ [] → HasMore (shares found) old rows → IsPermutation rows sorted → AreCountsOf found sorted
counted found old rows sorted nothing more same = λ asked.
    let each = more asked in
    record {
      times = counted_of found old rows sorted (λ s. s.times) asked nothing same each.times;
      ticks = counted_of found old rows sorted (λ s. s.ticks) asked nothing same each.ticks;
      active = counted_of found old rows sorted (λ s. s.active) asked nothing same each.active;
      masked = counted_of found old rows sorted (λ s. s.masked) asked nothing same each.masked;
      tail = counted_of found old rows sorted (λ s. s.tail) asked nothing same each.tail;
    }

-- the last line, from the final state of a run and its counts
last_is : (next : ℕ → HartState → HartState) (ticks times spent : ℕ) (s left : HartState) (end : Option StepEnd) → left ≡ (ran_by next ticks s).state → end ≡ (ran_by next ticks s).end
    → times ≡ shares (ran_by next ticks s).found (λ sums. sums.times) is_word % 2 ^ 64 → spent ≡ shares (ran_by next ticks s).found (λ sums. sums.ticks) is_word % 2 ^ 64
    → last_line left.scalar.pc end times spent ≡ end_of next ticks s
last_is next ticks times spent s left end left_is stops times_are ticks_are = rw (left_is, stops, times_are, ticks_are) refl

pub end_is : (next : ℕ → HartState → HartState) (ticks : ℕ) (s left : HartState) (rows : List Row) (end : Option StepEnd) → AreCountsOf (ran_by next ticks s).found rows → left ≡ (ran_by next ticks s).state
    → end ≡ (ran_by next ticks s).end
    → last_line left.scalar.pc end (total (λ sums. sums.times) is_word rows % 2 ^ 64) (total (λ sums. sums.ticks) is_word rows % 2 ^ 64) ≡ end_of next ticks s
end_is next ticks s left rows end counts left_is stops = last_is next ticks _ _ s left end left_is stops (counts is_word).times (counts is_word).ticks

-- ---- the totals of all instructions

-- a key counted in addition to the word's key isn't a word's key
none_beside : (number : Sums → ℕ) (k : Class) (c : Configuration) (pc target : ℕ) → once_more (second_key k c pc target) number is_word ≡ 0
none_beside number class.Plain c pc target = refl
none_beside number class.Link c pc target = refl
none_beside number _ c pc target = refl

of_arguments : (counts : Bool) (n beside : ℕ) → beside ≡ 0 → (if counts then n + beside else 0) ≡ (if counts then n else 0)
of_arguments true n beside none = omega (arith, none)
of_arguments false n beside none = refl

word_times : (s : HartState) → times_of s ≡ share s (λ sums. sums.times) is_word
word_times s = sym (of_arguments (is_counted (step 256 s).end) _ _ (none_beside (λ sums. sums.times) (class_of (scan table (found_word s))) s.vector.conf s.scalar.pc (step 256 s).state.scalar.pc))

word_ticks : (s : HartState) → counted_ticks s ≡ share s (λ sums. sums.ticks) is_word
word_ticks s = sym (of_arguments (is_counted (step 256 s).end) _ _ (none_beside (λ sums. sums.ticks) (class_of (scan table (found_word s))) s.vector.conf s.scalar.pc (step 256 s).state.scalar.pc))

same_sum : (f g : HartState → ℕ) → ((s : HartState) → f s ≡ g s) → (states : List HartState) → sum_by f states ≡ sum_by g states
same_sum f g same [] = refl
same_sum f g same (s ∷ states) =
    sum_by-cons f s states ∙ (ap₂ (λ (a b : ℕ). a + b) (same s) (same_sum f g same states) ∙ sym (sum_by-cons g s states))

wrapped : (n old sum all : ℕ) → n < 2 ^ 64 → old ≡ 0 → sum ≡ all → n % 2 ^ 64 ≡ (old + sum) % 2 ^ 64 → n ≡ all % 2 ^ 64
wrapped n old sum all small none same is = omega (arith, small, none, same, is)

-- the last line, from the totals
pub end_by_totals : (next : ℕ → HartState → HartState) (ticks times spent old_times old_spent : ℕ) (s left : HartState) (end : Option StepEnd) → times < 2 ^ 64 → spent < 2 ^ 64 → old_times ≡ 0 → old_spent ≡ 0
    → AddsUp times_of old_times (ran_by next ticks s).found times → AddsUp counted_ticks old_spent (ran_by next ticks s).found spent
    → left ≡ (ran_by next ticks s).state → end ≡ (ran_by next ticks s).end → last_line left.scalar.pc end times spent ≡ end_of next ticks s
end_by_totals next ticks times spent old_times old_spent s left end few little no_times no_ticks times_are ticks_are left_is stops =
    let all = (ran_by next ticks s).found in
    let one = wrapped times old_times (sum_by times_of all) (shares all (λ sums. sums.times) is_word) few no_times (same_sum _ _ word_times all) times_are in
    let two = wrapped spent old_spent (sum_by counted_ticks all) (shares all (λ sums. sums.ticks) is_word) little no_ticks (same_sum _ _ word_ticks all) ticks_are in
    last_is next ticks times spent s left end left_is stops one two

-- ---- changes

-- the lines of the changes, and then another text
pub changes_printed : {F A : Type 0} (took : F → List ℕ → F → Type 0) → ((a b c : F) (xs ys : List ℕ) → took a xs b → took b ys c → took a (xs ++ ys) c)
    → (first new : Changes F A) (file after : F) (places : List Place) (found : List HartState) (printed last : List ℕ) → first.sink ≡ file → first.places.items ≡ places
    → first.number ≡ 0 → first.ticks ≡ 0 → IsRecorded took first found new → printed ≡ last → took new.sink printed after → took file (changes_from places 0 0 found ++ last) after
changes_printed took more first new file after places found printed last sink_is places_are number_is ticks_are recorded last_is end =
    let lines : took first.sink (changes_from places 0 0 found) new.sink =
    let lines = recorded.lines in rw (places_are, number_is, ticks_are) at lines in
    subst (λ f. took f (changes_from places 0 0 found ++ last) after) sink_is
    (more first.sink new.sink after (changes_from places 0 0 found) last lines (subst (λ (l : List ℕ). took new.sink l after) last_is end))

-- ---- logs

-- the lines of a log, including those still in the buffer, and then another text
pub log_printed : {F : Type 0} (took : F → List ℕ → F → Type 0) → ((a b c : F) (xs ys : List ℕ) → took a xs b → took b ys c → took a (xs ++ ys) c)
    → (first new : Log F) (file mid after : F) (window : Window) (found : List HartState) (printed last : List ℕ) → first.sink ≡ file → first.window ≡ window
    → first.number ≡ 0 → first.text ≡ [] → IsLogged took first found new → took new.sink new.text mid → printed ≡ last → took mid printed after
    → took file (logged_from window 0 found ++ last) after
log_printed took more first new file mid after window found printed last sink_is window_is number_is text_is logged gathered last_is end =
    let printed_all = logged.lines in
    let lines : printed_all.written ++ new.text ≡ logged_from window 0 found =
    let all = printed_all.all in rw (text_is, window_is, number_is) at all in
    let written : took first.sink (logged_from window 0 found) mid =
    subst (λ (l : List ℕ). took first.sink l mid) lines (more first.sink new.sink mid printed_all.written new.text printed_all.took gathered) in
    subst (λ f. took f (logged_from window 0 found ++ last) after) sink_is
    (more first.sink mid after (logged_from window 0 found) last written (subst (λ (l : List ℕ). took mid l after) last_is end))

-- ---- choices

-- no byte of none
none_of : (n : ℕ) → ◌≡◌ {A = List ℕ} (take n []) []
none_of zero = refl
none_of (suc n) = refl

-- the lines of the choices, and then none
pub choices_printed : {F : Type 0} (took : F → List ℕ → F → Type 0) → ((a b c : F) (xs ys : List ℕ) → took a xs b → took b ys c → took a (xs ++ ys) c)
    → (first new : ChoiceLog F) (file after : F) (seed : Seed) (found : List HartState) (n : ℕ) → first.sink ≡ file → first.seed ≡ seed → first.number ≡ 0
    → IsListed took first found new → took new.sink (take n []) after → took file (choices_from seed 0 found) after
choices_printed took more first new file after seed found n sink_is seed_is number_is listed end =
    let lines : took first.sink (choices_from seed 0 found) new.sink =
    let lines = listed.lines in rw (seed_is, number_is) at lines in
    let none : choices_from seed 0 found ++ take n [] ≡ choices_from seed 0 found =
    ap (λ (l : List ℕ). choices_from seed 0 found ++ l) (none_of n) ∙ append-nil (choices_from seed 0 found) in
    subst (λ f. took f (choices_from seed 0 found) after) sink_is
    (subst (λ (l : List ℕ). took first.sink l after) none (more first.sink new.sink after (choices_from seed 0 found) (take n []) lines end))

-- a run, whatever is said of it
pub any_run : (file_bytes : Text → Option (List ℕ)) (arguments : List Text) (Ran : Option Seed → ℕ → List Place → Window → HartState → Type 0) → Recorded file_bytes arguments Ran
    → Recorded file_bytes arguments (λ _ _ _ _ _. ⊤)
any_run file_bytes arguments Ran recorded =
    let by = recorded.run in
    record {
      accepted = recorded.accepted;
      run = record {
        policy = by.policy;
        ticks = by.ticks;
        memories = by.memories;
        places = by.places;
        window = by.window;
        seed = by.seed;
        values = by.values;
        run = record { state = by.run.state; begins = by.run.begins; run = tt };
      };
    }

-- ---- memory files

-- one file, and then the others
one_placed : (file_bytes : Text → Option (List ℕ)) (memory : MemoryPath) (others : List MemoryPath) (before next after : Memory)
    → ArePlaced file_bytes (memory ∷ []) before next → ArePlaced file_bytes others next after → ArePlaced file_bytes (memory ∷ others) before after
unfolding ArePlaced
one_placed file_bytes memory others before next after one rest =
    (one.0, one.1, (one.2.0, one.2.1, subst (λ m. ArePlaced file_bytes others m after) one.2.2 rest))

pub next_placed : (file_bytes : Text → Option (List ℕ)) (memories : List MemoryPath) (i : ℕ) (d : MemoryPath) (before next after : Memory) → i < length memories
    → ArePlaced file_bytes (slice_index_or memories i d ∷ []) before next → ArePlaced file_bytes (drop (i + 1) memories) next after
    → ArePlaced file_bytes (drop i memories) before after
next_placed file_bytes memories i d before next after lt one rest =
    subst (λ (them : List MemoryPath). ArePlaced file_bytes them before after) (sym (drop_more memories i d lt))
    (one_placed file_bytes (slice_index_or memories i d) (drop (i + 1) memories) before next after one rest)

-- no file is left
pub none_left : (file_bytes : Text → Option (List ℕ)) (memories : List MemoryPath) (m : Memory) → ArePlaced file_bytes (drop (length memories) memories) m m
unfolding ArePlaced
none_left file_bytes memories m = rw (drop_all (length memories) memories (omega arith)) refl
