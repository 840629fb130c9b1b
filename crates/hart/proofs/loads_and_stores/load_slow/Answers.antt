use Rattle.std.proofs.Common.{◌≡◌, ◌∙◌, ap, subst, refl, true, ℕ, get_or, arith, Ok}
use Rattle.std.specs.Int.{byte_len}
use Rattle.rv_model.specs.declared.memory.Access.TheVariants.{Load}
use Rattle.rv_model.specs.memory.Memory.{bytes_at, can_access}
use Rattle.rv_model.specs.scalar.LoadsAndStores.{extended, load_width}
use Rattle.hart.proofs.FirstBytes.{load_len-le, number_of}
use Rattle.hart.proofs.loads_and_stores.load_slow.Goals as goal

pub returns : goal.returns
returns g c =
    let m = g.M.UserBytes.memory c.args.memory.now in
    let len = c.load_len.ensures.len in
    let few = load_len-le c.args.op in
    rw (subst (λ (n : ℕ). can_access Load m c.args.addr n ≡ true) len (c.in_ok-read_first.ensures.ok.0 refl))
    (ap Ok (c.loaded.ensures ∙ ap (λ (n : ℕ). extended c.args.op n) (number_of (load_width c.args.op) _ (bytes_at m c.args.addr (byte_len (load_width c.args.op))) (λ i l.
    c.in_ok-read_first.ensures.value i (omega (arith, few.0, len)) ∙ ap (λ (k : ℕ). get_or (bytes_at m c.args.addr k) i 0) len))))
