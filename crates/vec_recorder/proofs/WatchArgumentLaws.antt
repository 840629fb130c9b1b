-- Values of `--watch`, divided at their first colon
use Rattle.std.proofs.Common.{◌≡◌, ◌∙◌, ◌<◌, ◌≤◌, ℕ, ap, false, length, refl, sym, true}
use Rattle.std.specs.Prelude.{Bool, ◌&&◌, ◌↔◌, IfSome, IsSome, MatchOption, None, Some, Option, is_some}
use Rattle.std.specs.List.{after_first, before_first, position_or_len}
use Rattle.clap.specs.Walk.{Text}
use Rattle.rv_model.specs.commands.Arguments.{address, number_between}
use Rattle.vec_recorder.specs.MemoryArguments.{has_colon, is_colon}
use Rattle.memory_changes.specs.declared.place.Place.{Place}
use Rattle.vec_recorder.specs.WatchArguments.{IsPlaceOf, NamesNoPlace}
use Rattle.vec_recorder.proofs.MemoryArgumentLaws.{a_colon, no_colon}

second_false : (a b c : Bool) → b ≡ false → (a && b && c) ≡ false
second_false false b c e = refl
second_false true false c e = refl
second_false true true c e = absurd cc

third_false : (a b c : Bool) → c ≡ false → (a && b && c) ≡ false
third_false false b c e = refl
third_false true false c e = refl
third_false true true c e = e

pub undivided : (word : Text) → position_or_len is_colon word ≡ length word → NamesNoPlace word
undivided word is = rw (no_colon word is) refl

pub no_address : (word first : Text) → first ≡ before_first is_colon word → address first ≡ None → NamesNoPlace word
no_address word first is none = second_false (has_colon word) _ _ (ap (λ w. is_some (address w)) (sym is) ∙ ap is_some none)

pub no_length : (word rest : Text) → rest ≡ after_first is_colon word → number_between 1 256 rest ≡ None → NamesNoPlace word
no_length word rest is none = third_false (has_colon word) _ _ (ap (λ w. is_some (number_between 1 256 w)) (sym is) ∙ ap is_some none)

never : {A : Type 0} → false ≡ true → A
never e = absurd cc

-- a value with an address and a length
pub place_made : (word first second : Text) (addr len : ℕ) (place : Option Place) → position_or_len is_colon word < length word → first ≡ before_first is_colon word
    → second ≡ after_first is_colon word → address first ≡ Some addr → number_between 1 256 second ≡ Some len → (0 < len) × (len ≤ 256)
    → (IsSome place ↔ ((0 < len) × (len ≤ 256))) → IfSome place (λ p. (p.addr ≡ addr) × (p.len ≡ len)) → MatchOption place (NamesNoPlace word) (IsPlaceOf word)
place_made word first second addr len None lt first_is second_is addr_is len_is within some value = never (some.1 within)
place_made word first second addr len (Some place) lt first_is second_is addr_is len_is within some value =
    record {
      divided = a_colon word lt;
      address_is = ap address (sym first_is) ∙ (addr_is ∙ ap Some (sym value.0));
      length_is = ap (number_between 1 256) (sym second_is) ∙ (len_is ∙ ap Some (sym value.1));
    }
