-- Outcomes of commands on programs, by the results of their tests.
use Rattle.std.proofs.Common.{◌≡◌, ◌↔◌, ℕ, ◌+◌, ◌*◌, ◌<◌, ◌≤◌, List, [], ◌∷◌, ◌++◌, sym, ap, ◌∙◌, inl, inr, Bool, true, false, Option, Some, None, Result, Ok, Err, lt-ltb, le-ltb}
use Rattle.std.specs.Prelude.{if◌then◌else◌}
use Rattle.std.proofs.lemmas.Bool.{cases_lt}
use Rattle.std.specs.Int.{to_le_bytes, w32}
use Rattle.rv_model.specs.declared.commands.refusal.Refusal.TheVariants as refusal
use Rattle.rv_model.specs.declared.images.ElfFault.{ElfFault}
use Rattle.rv_model.specs.declared.memory.Access.TheVariants.{Monitor}
use Rattle.rv_model.specs.declared.memory.MapRefusal.{MapRefusal}
use Rattle.rv_model.specs.assembler.Table.{spelled}
use Rattle.rv_model.specs.commands.Printing.{refused}
use Rattle.rv_model.specs.commands.Programs.{image_named, loaded_line, loading, loading_named, loads, asm_line, assembling, assembles, dis_lines, shows_instructions, with_image}
use Rattle.rv_model.specs.images.Faults.{first_fault}
use Rattle.rv_model.specs.images.Fields.{entry_of}
use Rattle.rv_model.specs.images.Image.{memory_of_image}
use Rattle.rv_model.specs.machine.Setup.{Image}
use Rattle.rv_model.specs.declared.vector.state.VState.{VState}
use Rattle.rv_model.specs.machine.VectorUnit.{VectorUnit, unit_after_uses, unit_discarded}
use Rattle.rv_model.specs.machine.UserMachine.{Outcome, Drops, refuses, replies}
use Rattle.rv_model.specs.memory.Memory.{Memory, bytes_at, can_access, put_bytes, page_count}
use Rattle.rv_model.specs.memory.Sizes.{page_quota}
use Rattle.rv_model.specs.text.Lines.{text}
use Rattle.rv_model.specs.vector.State.{initial_vector}
use Rattle.monitor_machine.specs.declared.context.Context.{Context}
use Rattle.monitor_machine.specs.Parts.{Addresses, loaded_context, present, private_of}
use Rattle.monitor_machine.proofs.MemoryOutcomes.{allowed, not_allowed}
use Rattle.monitor_machine.proofs.PartLaws.{entered_as}

-- the address isn't mapped
pub assembles_unmapped : (c : Context) (t : Addresses) (v : VState) (m : Memory) (addr : ℕ) (text : List ℕ) → can_access Monitor m addr 4 ≡ false
    → assembles addr text (present c t v m) ≡ refuses (Some (present c t v m)) refusal.NotMapped
assembles_unmapped c t v m addr text h =
    not_allowed (assembling addr (spelled text) (present c t v m)) (refuses (Some (present c t v m)) refusal.NotMapped) (can_access Monitor m addr 4) h

-- the address is mapped, and the text spells an instruction or none
pub assembles_mapped : (c : Context) (t : Addresses) (v : VState) (m : Memory) (addr : ℕ) (text : List ℕ) (r : Result ℕ ℕ) → can_access Monitor m addr 4 ≡ true → spelled text ≡ r
    → assembles addr text (present c t v m) ≡ assembling addr r (present c t v m)
assembles_mapped c t v m addr text r h k =
    allowed (assembling addr (spelled text) (present c t v m)) (refuses (Some (present c t v m)) refusal.NotMapped) (can_access Monitor m addr 4) h
    ∙ ap (λ (r : Result ℕ ℕ). assembling addr r (present c t v m)) k

-- the instructions of mapped pages
abbrev shown : Context → Addresses → VState → Memory → ℕ → ℕ → Outcome
shown c t v m addr count = record { next = Some (present c t v m); lines = dis_lines addr count (bytes_at m addr (4 * count)); uses = [] }

pub shows_accepted : (c : Context) (t : Addresses) (v : VState) (m : Memory) (addr count : ℕ) → can_access Monitor m addr (4 * count) ≡ true
    → shows_instructions addr count (present c t v m)
    ≡ record { next = Some (present c t v m); lines = dis_lines addr count (bytes_at m addr (4 * count)); uses = [] }
shows_accepted c t v m addr count h =
    allowed (shown c t v m addr count) (refuses (Some (present c t v m)) refusal.NotMapped) (can_access Monitor m addr (4 * count)) h

pub shows_refused : (c : Context) (t : Addresses) (v : VState) (m : Memory) (addr count : ℕ) → can_access Monitor m addr (4 * count) ≡ false
    → shows_instructions addr count (present c t v m) ≡ refuses (Some (present c t v m)) refusal.NotMapped
shows_refused c t v m addr count h =
    not_allowed (shown c t v m addr count) (refuses (Some (present c t v m)) refusal.NotMapped) (can_access Monitor m addr (4 * count)) h

-- no image has the name
pub loads_unknown : (images : List Image) (c : Context) (t : Addresses) (v : VState) (m : Memory) (name : List ℕ) → image_named images name ≡ None
    → loads images name (present c t v m) ≡ refuses (Some (present c t v m)) refusal.ImageName
loads_unknown images c t v m name h = ap (λ (image : Option (List ℕ)). loading_named image (present c t v m)) h

-- an image has the name, and has a fault or none
pub loads_named : (images : List Image) (c : Context) (t : Addresses) (v : VState) (m : Memory) (name image : List ℕ) (fault : Option ElfFault) → image_named images name ≡ Some image → first_fault image ≡ fault
    → loads images name (present c t v m) ≡ loading image fault (present c t v m)
loads_named images c t v m name image fault h k =
    ap (λ (i : Option (List ℕ)). loading_named i (present c t v m)) h ∙ ap (λ (f : Option ElfFault). loading image f (present c t v m)) k

-- an image without a fault has too many pages, or doesn't
abbrev loads_by : Context → Addresses → VState → Memory → List ℕ → Bool → Outcome
loads_by c t v m image many =
    if many then refuses (Some (present c t v m)) refusal.Quota
    else record (replies (with_image image) (loaded_line (entry_of image) (page_count (memory_of_image image)))) { uses = Drops ∷ [] }

pub loading_too_large : (c : Context) (t : Addresses) (v : VState) (m : Memory) (image : List ℕ) → page_quota < page_count (memory_of_image image)
    → loading image None (present c t v m) ≡ refuses (Some (present c t v m)) refusal.Quota
loading_too_large c t v m image many = ap (loads_by c t v m image) (lt-ltb page_quota (page_count (memory_of_image image)) many)

pub loading_accepted : (c : Context) (t : Addresses) (v : VState) (m : Memory) (image : List ℕ) → page_count (memory_of_image image) ≤ page_quota
    → loading image None (present c t v m)
    ≡ record (replies (present (loaded_context (entry_of image)) [] initial_vector (memory_of_image image)) (loaded_line (entry_of image) (page_count (memory_of_image image)))) { uses = Drops ∷ [] }
loading_accepted c t v m image few = ap (loads_by c t v m image) (le-ltb page_quota (page_count (memory_of_image image)) few)

-- an image that is placed has at most 256 pages
pub few_pages : (n entry : ℕ) (r : MapRefusal) → (let placed : Result ℕ MapRefusal = Ok entry in placed ≡ Err r) ↔ (page_quota < n) → n ≤ page_quota
few_pages n entry r h = elim (cases_lt page_quota n) [
  | inl many ↦ absurd (let never = h.1 many in cc never)
  | inr few ↦ few
]

-- a placed image gives the machine that `load` gives
pub placed_next : (c c' : Context) (t t' : Addresses) (v v' : VState) (m m' : Memory) (image : List ℕ) (entry : ℕ) → page_count (memory_of_image image) ≤ page_quota
    → entry ≡ entry_of image → c' ≡ loaded_context entry → t' ≡ [] → v' ≡ initial_vector → m' ≡ memory_of_image image → private_of c' t' v' m' ≡ (loading image None (present c t v m)).next
placed_next c c' t t' v v' m m' image entry few at context trace vector memory =
    rw (context, at, trace, vector, memory) (sym (ap (λ (o : Outcome). o.next) (loading_accepted c t v m image few)))

-- and its line is the one that `load` prints
pub placed_reply : (c : Context) (t : Addresses) (v : VState) (m m' : Memory) (image : List ℕ) (entry pages user : ℕ) (before after : List ℕ) → page_count (memory_of_image image) ≤ page_quota
    → entry ≡ entry_of image → m' ≡ memory_of_image image → pages ≡ page_count m' → before ≡ [] → after ≡ before ++ text (48 + user) (loaded_line entry pages ∷ []) → after ≡ text (48 + user) (loading image None (present c t v m)).lines
placed_reply c t v m m' image entry pages user before after few at memory counted clear printed =
    rw (printed, clear, at, counted, memory) (sym (ap (λ (o : Outcome). text (48 + user) o.lines) (loading_accepted c t v m image few)))

-- if an image is too large, the machine is unchanged, and the refusal is printed
pub too_large_next : (c : Context) (t : Addresses) (v : VState) (m m' : Memory) (image : List ℕ) → page_quota < page_count (memory_of_image image) → c.entered ≡ true → m' ≡ m
    → private_of c t v m' ≡ (loading image None (present c t v m)).next
too_large_next c t v m m' image many entered same =
    ap (private_of c t v) same ∙ entered_as c t v m entered ∙ sym (ap (λ (o : Outcome). o.next) (loading_too_large c t v m image many))

pub too_large_reply : (c : Context) (t : Addresses) (v : VState) (m : Memory) (image : List ℕ) (user : ℕ) (after : List ℕ) → page_quota < page_count (memory_of_image image)
    → after ≡ text (48 + user) (refused refusal.Quota ∷ []) → after ≡ text (48 + user) (loading image None (present c t v m)).lines
too_large_reply c t v m image user after many printed =
    printed ∙ sym (ap (λ (o : Outcome). text (48 + user) o.lines) (loading_too_large c t v m image many))

-- the vector unit after an image without a fault is placed, and after one that is too large
pub loaded_unit : (c : Context) (t : Addresses) (v : VState) (m : Memory) (user : ℕ) (image : List ℕ) (unit : VectorUnit)
    → page_count (memory_of_image image) ≤ page_quota
    → unit_after_uses user (loading image None (present c t v m)).uses unit ≡ unit_discarded user unit
loaded_unit c t v m user image unit few =
    ap (λ (o : Outcome). unit_after_uses user o.uses unit) (loading_accepted c t v m image few)

pub too_large_unit : (c : Context) (t : Addresses) (v : VState) (m : Memory) (user : ℕ) (image : List ℕ) (unit : VectorUnit)
    → page_quota < page_count (memory_of_image image)
    → unit_after_uses user (loading image None (present c t v m)).uses unit ≡ unit
too_large_unit c t v m user image unit many =
    ap (λ (o : Outcome). unit_after_uses user o.uses unit) (loading_too_large c t v m image many)
