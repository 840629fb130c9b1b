use Rattle.std.proofs.Common.{ap, arith, refl, rules, sym, ◌≡◌, ◌∙◌}
use Rattle.std.specs.Prelude.{None}
use Rattle.rv_model.specs.commands.Arguments.{address as address_of, permissions as permissions_of}
use Rattle.vec_recorder.proofs.MemoryArgumentLaws.{divided_once, divided_twice, no_address, no_permissions, undivided}
use Rattle.vec_recorder.proofs.memory_arguments.memory_path.Goals as goal

pub returns-in_err-addr : goal.returns-in_err-addr
returns-in_err-addr c =
    let none = undivided c.args.word.now (c.in_err-addr.ensures.byte (omega arith) (λ w o h. h)) in
    search (rules, none)

pub returns-in_err-allowed : goal.returns-in_err-allowed
returns-in_err-allowed c =
    let first = c.in_ok-addr.ensures.byte (omega arith) (λ w o h. h) in
    let none = divided_once c.args.word.now c.in_ok-addr.addr.now c.in_ok-addr.rest.now first.2 first.0 first.1
    (c.in_err-allowed.ensures.byte (omega arith) (λ w o h. h)) in
    search (rules, none)

pub returns-in_err-address : goal.returns-in_err-address
returns-in_err-address c =
    let first = c.in_ok-addr.ensures.byte (omega arith) (λ w o h. h) in
    let second = c.in_ok-allowed.ensures.byte (omega arith) (λ w o h. h) in
    let divided = divided_twice c.args.word.now c.in_ok-addr.addr.now c.in_ok-addr.rest.now c.in_ok-allowed.allowed.now c.in_ok-allowed.path.now
    first.2 first.0 first.1 second.2 second.0 second.1 in
    let is : address_of c.in_ok-addr.addr.now ≡ None =
    ap address_of (sym c.as_bytes.ensures.value) ∙ (sym c.address.ensures ∙ c.in_err-address.was) in
    let none = no_address c.args.word.now _ divided is in
    search (rules, none)

pub returns-in_err-permissions : goal.returns-in_err-permissions
returns-in_err-permissions c =
    let first = c.in_ok-addr.ensures.byte (omega arith) (λ w o h. h) in
    let second = c.in_ok-allowed.ensures.byte (omega arith) (λ w o h. h) in
    let divided = divided_twice c.args.word.now c.in_ok-addr.addr.now c.in_ok-addr.rest.now c.in_ok-allowed.allowed.now c.in_ok-allowed.path.now
    first.2 first.0 first.1 second.2 second.0 second.1 in
    let addr_is = ap address_of (sym c.as_bytes.ensures.value) ∙ (sym c.address.ensures ∙ c.in_ok-address.was) in
    let is : permissions_of c.in_ok-allowed.allowed.now ≡ None =
    ap permissions_of (sym c.as_bytes-2.ensures.value) ∙ (sym c.permissions.ensures ∙ c.in_err-permissions.was) in
    let none = no_permissions c.args.word.now _ _ divided addr_is is in
    search (rules, none)

pub returns : goal.returns
returns c =
    let first = c.in_ok-addr.ensures.byte (omega arith) (λ w o h. h) in
    let second = c.in_ok-allowed.ensures.byte (omega arith) (λ w o h. h) in
    record {
      parts = record { address = c.in_ok-addr.addr.now; permissions = c.in_ok-allowed.allowed.now; path = c.in_ok-allowed.path.now };
      divided = divided_twice c.args.word.now c.in_ok-addr.addr.now c.in_ok-addr.rest.now c.in_ok-allowed.allowed.now c.in_ok-allowed.path.now
          first.2 first.0 first.1 second.2 second.0 second.1;
      address_is = ap address_of (sym c.as_bytes.ensures.value) ∙ (sym c.address.ensures ∙ c.in_ok-address.was);
      permissions_are = ap permissions_of (sym c.as_bytes-2.ensures.value) ∙ (sym c.permissions.ensures ∙ c.in_ok-permissions.was);
      path_is = refl;
    }
