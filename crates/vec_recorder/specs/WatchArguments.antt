-- Values of `--watch`: an address, a colon (byte 58), and a length in decimal digits, from 1 to 256
use Rattle.std.specs.Prelude.{◌≡◌, ◌&&◌, Bool, false, true, Some, is_some}
use Rattle.std.specs.Borrow.{Bor}
use Rattle.std.specs.List.{after_first, before_first}
use Rattle.clap.specs.Walk.{Text}
use Rattle.rv_model.specs.commands.Arguments.{address, number_between}
use Rattle.memory_changes.specs.declared.place.Place.{Place}
use Rattle.vec_recorder.specs.MemoryArguments.{has_colon, is_colon}

-- A value describes this range: its parts are the address and the length.
pub record IsPlaceOf (word : Text) (place : Place) : Type 0 where
  pub divided : has_colon word ≡ true
  pub address_is : address (before_first is_colon word) ≡ Some place.addr
  pub length_is : number_between 1 256 (after_first is_colon word) ≡ Some place.len

abbrev pub IsPlaceAt : Bor Text → Place → Type 0
IsPlaceAt word place = IsPlaceOf word.now place

-- whether the value has a colon, an address and a length
abbrev pub is_place : Text → Bool
is_place word = has_colon word && is_some (address (before_first is_colon word)) && is_some (number_between 1 256 (after_first is_colon word))

-- this value is malformed
abbrev pub NamesNoPlace : Text → Type 0
NamesNoPlace word = is_place word ≡ false
