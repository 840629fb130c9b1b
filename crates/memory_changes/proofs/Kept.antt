-- The changes of one instruction, as `after_step` records them.
use Rattle.std.proofs.Common.{◌≡◌, ◌∙◌, ◌+◌, ◌%◌, ◌^◌, ◌∷◌, [], ℕ, List, ap, append-nil, flat_map, subst, sym}
use Rattle.rv_model.specs.declared.step.step_end.StepEnd.{StepEnd}
use Rattle.rv_model.specs.memory.Memory.{Memory}
use Rattle.rv_model.specs.step.Hart.{HartState, Stepped, ends_after}
use Rattle.rv_model.specs.step.Step.{step}
use Rattle.memory_changes.specs.Changes.{Place, changes_at, changes_by, changes_from, held, one_more, ticks_more}
use Rattle.memory_changes.specs.Recorded.{IsNoted, IsRecorded, number_after, ticks_after}
use Rattle.memory_changes.specs.declared.changes.Changes.{Changes}

pub kept : {K A : Type 0} (took : K → List ℕ → K → Type 0) (before old new : Changes K A) (s next : HartState) (end : StepEnd) (ticks : ℕ) → IsNoted before s old
    → step 256 s ≡ ends_after ticks end next → new.places ≡ old.places → new.number ≡ one_more old.number → new.ticks ≡ (old.ticks + ticks) % 2 ^ 64
    → ((m : Memory) → old.before.items ≡ flat_map (held m) old.places.items → took old.sink (changes_at new.number new.ticks old.pc m next.memory old.places.items) new.sink)
    → IsRecorded took before (s ∷ []) new
unfolding changes_from number_after ticks_after
kept took before old new s next end ticks prepared made places number spent lines =
    let u : new.ticks ≡ ticks_more before.ticks s =
    spent ∙ (ap (λ (t : ℕ). (t + ticks) % 2 ^ 64) prepared.ticks ∙ ap (λ (o : Stepped). (before.ticks + o.ticks) % 2 ^ 64) (sym made)) in
    let n : new.number ≡ one_more before.number = number ∙ ap one_more prepared.number in
    let line : changes_at new.number new.ticks old.pc s.memory next.memory old.places.items ≡ changes_from before.places.items before.number before.ticks (s ∷ []) =
    rw (n, u, prepared.pc, prepared.places)
    (ap (λ (o : Stepped). changes_at (one_more before.number) (ticks_more before.ticks s) s.scalar.pc s.memory o.state.memory before.places.items) (sym made)
    ∙ sym (append-nil (changes_by before.places.items (one_more before.number) (ticks_more before.ticks s) s))) in
    record {
      places = places ∙ prepared.places;
      number = n;
      ticks = u;
      lines = subst (λ (l : List ℕ). took before.sink l new.sink) line
          (subst (λ sink. took sink (changes_at new.number new.ticks old.pc s.memory next.memory old.places.items) new.sink) prepared.sink (lines s.memory prepared.bytes));
    }

-- a property of two slices holds for the lists that they borrow from
pub of_slices : {K : Type 0} (took : K → List ℕ → K → Type 0) (sink new : K) (lines : Memory → List Place → List ℕ) (bytes items : List ℕ) (them places : List Place) → bytes ≡ items
    → them ≡ places → ((m : Memory) → bytes ≡ flat_map (held m) them → took sink (lines m them) new) → (m : Memory) → items ≡ flat_map (held m) places
    → took sink (lines m places) new
of_slices took sink new lines bytes items them places bytes_are are printed m is =
    subst (λ (ps : List Place). took sink (lines m ps) new) are (printed m (bytes_are ∙ (is ∙ ap (λ (ps : List Place). flat_map (held m) ps) (sym are))))
