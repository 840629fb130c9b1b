-- A slice that is granted, followed by a slice of more ticks.
use Rattle.std.proofs.Common.{◌≡◌, ℕ, ◌+◌, List, [], ◌∷◌, ◌++◌, append_assoc, refl, ap, ◌∙◌, sym, true, false, Bool, if◌then◌else◌, Some, None}
use Rattle.rv_model.specs.declared.vector.state.VState.{VState}
use Rattle.rv_model.specs.machine.Cuts.{IsConfigured}
use Rattle.rv_model.specs.machine.World.{Outcome, Private, sliced}
use Rattle.rv_model.specs.machine.Script.{user_machine}
use Rattle.rv_model.specs.memory.Memory.{Memory}
use Rattle.rv_model.specs.text.Lines.{tagged, text}
use Rattle.rv_model.specs.vector.Groups.{IsConfiguration}
use Rattle.rv_model.proofs.machine_lemmas.Cuts.{cuts_are_invisible}
use Rattle.monitor_machine.specs.declared.context.Context.{Context}
use Rattle.monitor_machine.specs.MachineState.{MachineState, SlicesAddUp}
use Rattle.monitor_machine.specs.Parts.{Addresses, present, private_of}

-- a machine is configured if its user's vector state is, whether or not the user has entered
pub configured_as : (c : Context) (t : Addresses) (v : VState) (m : Memory) → IsConfiguration v.conf
    → IsConfigured (private_of c t v m)
configured_as c t v m is = entered c.entered
  where
    entered : (b : Bool) → IsConfigured (if b then Some (present c t v m) else None)
    entered true = is
    entered false = tt

text-append : (tag : ℕ) (xs ys : List (List ℕ)) → text tag (xs ++ ys) ≡ text tag xs ++ text tag ys
text-append tag [] ys = refl
text-append tag (x ∷ xs) ys =
    ap (λ (bytes : List ℕ). tagged tag x ++ bytes) (text-append tag xs ys)
    ∙ sym (append_assoc (tagged tag x) (text tag xs) (text tag ys))

-- the sum of a slice and the next one, from the private machine and the output of the first one
pub slices_add_up : (before now : MachineState) (u : ℕ) (printed : List ℕ) → IsConfigured (user_machine u before.world)
    → user_machine u now.world ≡ (sliced before.setup.quantum (user_machine u before.world)).next
    → printed ≡ text (48 + u) (sliced before.setup.quantum (user_machine u before.world)).lines
    → SlicesAddUp before u now printed
slices_add_up before now u printed is moved prints later keeps =
    let quantum : ℕ = before.setup.quantum in
    let first : Outcome = sliced quantum (user_machine u before.world) in
    let rest : Outcome = sliced later first.next in
    let whole = cuts_are_invisible quantum later (user_machine u before.world) is keeps in (
      sym whole.0 ∙ ap (λ (p : Private). (sliced later p).next) (sym moved),
      ap (λ (lines : List (List ℕ)). text (48 + u) lines) (sym whole.1)
          ∙ text-append (48 + u) first.lines rest.lines
          ∙ ap (λ (bytes : List ℕ). bytes ++ text (48 + u) rest.lines) (sym prints)
          ∙ ap (λ (p : Private). printed ++ text (48 + u) (sliced later p).lines) (sym moved),
    )
