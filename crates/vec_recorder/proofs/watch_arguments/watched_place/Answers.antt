use Rattle.std.proofs.Common.{ap, arith, rules, sym, ◌≡◌, ◌∙◌}
use Rattle.std.specs.Prelude.{None}
use Rattle.rv_model.specs.commands.Arguments.{address as address_of, number_between}
use Rattle.vec_recorder.proofs.WatchArgumentLaws.{no_address, no_length, place_made, undivided}
use Rattle.vec_recorder.proofs.watch_arguments.watched_place.Goals as goal

pub returns-in_err-first : goal.returns-in_err-first
returns-in_err-first c =
    let none = undivided c.args.word.now (c.in_err-first.ensures.byte (omega arith) (λ w o h. h)) in
    search (rules, none)

pub returns-in_err-addr : goal.returns-in_err-addr
returns-in_err-addr c =
    let parts = c.in_ok-first.ensures.byte (omega arith) (λ w o h. h) in
    let is : address_of c.in_ok-first.first.now ≡ None = ap address_of (sym c.as_bytes.ensures.value) ∙ (sym c.address.ensures ∙ c.in_err-addr.was) in
    let none = no_address c.args.word.now _ parts.0 is in
    search (rules, none)

pub returns-in_err-len : goal.returns-in_err-len
returns-in_err-len c =
    let parts = c.in_ok-first.ensures.byte (omega arith) (λ w o h. h) in
    let is : number_between 1 256 c.in_ok-first.second.now ≡ None =
    ap (number_between 1 256) (sym c.as_bytes-2.ensures.value) ∙ (sym c.length_number.ensures.value ∙ c.in_err-len.was) in
    let none = no_length c.args.word.now _ parts.1 is in
    search (rules, none)

pub returns : goal.returns
returns c =
    let parts = c.in_ok-first.ensures.byte (omega arith) (λ w o h. h) in
    place_made c.args.word.now c.in_ok-first.first.now c.in_ok-first.second.now _ _ c.new.result parts.2 parts.0 parts.1
    (ap address_of (sym c.as_bytes.ensures.value) ∙ (sym c.address.ensures ∙ c.in_ok-addr.was))
    (ap (number_between 1 256) (sym c.as_bytes-2.ensures.value) ∙ (sym c.length_number.ensures.value ∙ c.in_ok-len.was))
    c.in_ok-len.ensures.bound c.new.ensures.some c.new.ensures.value
