-- The result of the program's run: the files that it reads, and the machine that it creates
use Rattle.std.proofs.Common.{◌≡◌, ◌≢◌, ◌∙◌, ℕ, List, [], ◌∷◌, ◌++◌, append-nil, Bool, true, false, Option, Some, None, Result, Ok, Err, ◌⊎◌, inl, inr, ap, subst, sym, refl, length, map, not, ◌&&◌, ◌||◌, nat_le, nat_lt, if◌then◌else◌, is_some, true≢false, leb-true, length-append, arith, ◌<◌}
use Rattle.std.specs.Borrow.{Bor}
use Rattle.std.specs.Io.{StartsWith}
use Rattle.std.specs.Io.KnownBytes.{Consumes, IsAtEnd, Keeps}
use Rattle.std.specs.List.{AllZip, Any, list_all}
use Rattle.std.specs.Option.{option_map_or}
use Rattle.std.specs.Prelude.{⊤, IfErr, IfOk, IsErrAnd, IsOk}
use Rattle.std.proofs.KnownBytes.{Consumes-whole, Keeps-refl}
use Rattle.std.proofs.lemmas.Bool.{and_parts}
use Rattle.clap.specs.Walk.{Text, texts}
use Rattle.monitor_machine.specs.Images.{named_images, setup_of}
use Rattle.monitor_machine.specs.MachineState.{MachineState}
use Rattle.monitor_machine.specs.NewFaults.{are_distinct, is_name, new_fault}
use Rattle.monitor_machine.specs.declared.image.Image.{Image}
use Rattle.monitor_machine.specs.declared.new_fault.NewFault.{NewFault}
use Rattle.monitor_machine.specs.declared.new_fault.NewFault.TheVariants as new_faults
use Rattle.monitor_script.specs.declared.script.RunFault.{RunFault}
use Rattle.monitor_script.specs.declared.script.RunFault.TheVariants.{Read, TooLong, Write}
use Rattle.rv_model.specs.machine.Script.{World, new_world, whole, whole_from}
use Rattle.rv_model.specs.machine.Setup.{Image as NamedImage, Setup}
use Rattle.vec_monitor.specs.CommandLine.{image_arguments, quantum_word, script_word, arguments_fault, IsQuantum}
use Rattle.vec_monitor.specs.ImageFiles.{named_file, IsFileOf}
use Rattle.vec_monitor.specs.ImageArguments.{IsNameAndPath, IsPathOf, LacksEqualsSign}
use Rattle.devices.specs.Device.{Rose}
use Rattle.devices.specs.KnownBytes.{AreKnownAs}
use Rattle.vec_monitor.specs.ProgramRuns.{IsImageOf, OutputPrefix, RanOptions, RanScript, RanArguments}
use Rattle.vec_monitor.specs.Statuses.{IsRunFault, IsTooLong, IsUnread, MayBeRefused, machine_fault, program_status}
use Rattle.vec_monitor.specs.declared.image_files.ImageFile.{ImageFile}
use Rattle.vec_monitor.specs.declared.image_arguments.ImagePath.{ImagePath}
use Rattle.vec_monitor.specs.declared.program_fault.ProgramFault.{ProgramFault}
use Rattle.vec_monitor.specs.declared.program_fault.ProgramFault.TheVariants.{Run}
use Rattle.monitor_script.proofs.Prefixes.{begins}

-- ---- known bytes

-- the bytes read up to the end are the known ones
pub all_was_known : (known before after : Option (List ℕ)) (bytes : List ℕ) → before ≡ known → Consumes before after bytes → IsAtEnd after → AreKnownAs known bytes
all_was_known known before after bytes same given end =
    subst (λ it. AreKnownAs it bytes) same (Consumes-whole before after bytes (λ xs. bytes ≡ xs) given end refl)

-- the known bytes after those that a reader returned; there are none if the reader reached the end
rest_of : (known after : Option (List ℕ)) (text : List ℕ) → Consumes known after text → (rest : List ℕ) × AreKnownAs known (text ++ rest) × (IsAtEnd after → rest ≡ [])
rest_of None after text given = ([], tt, λ end. refl)
rest_of (Some xs) None text given = absurd given
rest_of (Some xs) (Some rest) text given = (rest, sym given, λ end. end)

-- ---- the output

-- the output of a run that has read some text
pub put_out : (m : MachineState) (known after : Option (List ℕ)) (text output : List ℕ) (took : List ℕ → Type 0) → m.world ≡ new_world → Consumes known after text → took output
    → ((rest : List ℕ) → (IsAtEnd after → rest ≡ []) → StartsWith (whole_from m.setup m.world (text ++ rest)) output) → OutputPrefix took m.setup known
put_out m known after text output took new given taken prefix =
    let rest = rest_of known after text given in
    (text ++ rest.0, rest.1, (output, taken, subst (λ (w : World). StartsWith (whole_from m.setup w (text ++ rest.0)) output) new (prefix rest.0 rest.2)))

-- the output of a whole script
pub put_out_all : (took : List ℕ → Type 0) (setup : Setup) (known : Option (List ℕ)) → RanScript took setup known → OutputPrefix took setup known
put_out_all took setup known ran =
    (ran.script, ran.read, (ran.output, ran.taken, begins (whole setup ran.script) ran.output [] (sym (append-nil ran.output ∙ ran.all))))

-- no output
pub put_out_none : (took : List ℕ → Type 0) (setup : Setup) (known : Option (List ℕ)) → took [] → OutputPrefix took setup known
put_out_none took setup None none = ([], tt, ([], none, refl))
put_out_none took setup (Some xs) none = (xs, refl, ([], none, refl))

-- ---- a run that ended with a fault

-- its exit status is 3 or 5
run_statuses : (fault : RunFault) → (program_status (Run fault) ≡ 3) ⊎ (program_status (Run fault) ≡ 5)
run_statuses Read = inl refl
run_statuses TooLong = inl refl
run_statuses Write = inr refl

-- therefore statements about other exit statuses don't concern it
pub other_status : {T : Type 0} (G : Type 0) (r : Result T ProgramFault) (stopped : RunFault) (Q : ℕ → Type 0) → IsErrAnd r (λ fault. fault ≡ Run stopped) → (Q 3 → ⊥) → (Q 5 → ⊥) → IfErr r (λ fault. Q (program_status fault) → G)
other_status G (Ok x) stopped Q is three five = tt
other_status G (Err fault) stopped Q is three five = λ q. absurd (elim (run_statuses stopped) [
  | inl e ↦ three (subst Q (ap program_status is ∙ e) q)
  | inr e ↦ five (subst Q (ap program_status is ∙ e) q)
])

-- ---- a run of a machine that was just created

-- a statement about a created machine
pub of_created : {T E : Type 0} (P : T → Type 0) (r : Result T E) (x : T) → r ≡ Ok x → IfOk r P → P x
of_created P r x is holds = subst (λ it. IfOk it P) is holds

pub was_created : {T E : Type 0} (r : Result T E) (x : T) → r ≡ Ok x → IsOk r
was_created r x is = subst IsOk (sym is) refl

-- a machine that isn't created has exit status 4 or 6
machine_statuses : (refused : NewFault) → (program_status (machine_fault refused) ≡ 4) ⊎ (program_status (machine_fault refused) ≡ 6)
machine_statuses new_faults.Quantum = inl refl
machine_statuses new_faults.ImageCount = inl refl
machine_statuses new_faults.ImageName = inl refl
machine_statuses new_faults.ImageSize = inl refl
machine_statuses new_faults.NoMemory = inr refl

-- the output is as before, unless the script failed
pub unused_unless : {T : Type 0} (Unused Failed : Type 0) (Unread : RunFault → Type 0) (r : Result T ProgramFault) (created : Result MachineState NewFault) → IfErr r (IsRunFault created Unused Failed Unread)
    → IfErr r (λ fault. (program_status fault ≡ 2) ⊎ ((program_status fault ≡ 4) ⊎ (program_status fault ≡ 6)) → Unused)
unused_unless Unused Failed Unread (Ok x) created is = tt
unused_unless Unused Failed Unread (Err fault) created (inl refused) = λ _. refused.2.1
unused_unless {T = T} Unused Failed Unread (Err fault) created (inr stopped) =
    other_status {T = T} Unused (Err fault) stopped.0 (λ status. (status ≡ 2) ⊎ ((status ≡ 4) ⊎ (status ≡ 6))) stopped.1
    (λ q. elim q [ inl e ↦ omega (arith, e) | inr q ↦ elim q [ inl e ↦ omega (arith, e) | inr e ↦ omega (arith, e) ] ])
    (λ q. elim q [ inl e ↦ omega (arith, e) | inr q ↦ elim q [ inl e ↦ omega (arith, e) | inr e ↦ omega (arith, e) ] ])

-- no such fault is one of the arguments
pub no_usage : {T : Type 0} (G Unused Failed : Type 0) (Unread : RunFault → Type 0) (r : Result T ProgramFault) (created : Result MachineState NewFault) → IfErr r (IsRunFault created Unused Failed Unread)
    → IfErr r (λ fault. program_status fault ≡ 2 → G)
no_usage G Unused Failed Unread (Ok x) created is = tt
no_usage G Unused Failed Unread (Err fault) created (inl refused) = λ two. absurd (elim (machine_statuses refused.0) [
  | inl e ↦ omega (arith, sym e ∙ (sym (ap program_status refused.2.0) ∙ two))
  | inr e ↦ omega (arith, sym e ∙ (sym (ap program_status refused.2.0) ∙ two))
])
no_usage {T = T} G Unused Failed Unread (Err fault) created (inr stopped) =
    other_status {T = T} G (Err fault) stopped.0 (λ status. status ≡ 2) stopped.1 (λ e. omega (arith, e)) (λ e. omega (arith, e))

-- no such fault is one of the images, if only memory can be lacking
pub no_image_fault : {T : Type 0} (Unused Failed : Type 0) (Unread : RunFault → Type 0) (r : Result T ProgramFault) (created : Result MachineState NewFault)
    → IfErr created (λ refused. refused ≡ new_faults.NoMemory) → IfErr r (IsRunFault created Unused Failed Unread) → IfErr r (λ fault. program_status fault ≢ 4)
no_image_fault Unused Failed Unread (Ok x) created only is = tt
no_image_fault Unused Failed Unread (Err fault) created only (inl refused) = λ four.
    let memory : refused.0 ≡ new_faults.NoMemory = subst (λ it. IfErr it (λ refused. refused ≡ new_faults.NoMemory)) refused.1 only in
    omega (arith, sym (ap (λ it. program_status (machine_fault it)) memory) ∙ (sym (ap program_status refused.2.0) ∙ four))
no_image_fault {T = T} Unused Failed Unread (Err fault) created only (inr stopped) =
    other_status {T = T} ⊥ (Err fault) stopped.0 (λ status. status ≡ 4) stopped.1 (λ e. omega (arith, e)) (λ e. omega (arith, e))

-- the only fault of a script with exit status 5
write_of : (stopped : RunFault) → program_status (Run stopped) ≡ 5 → stopped ≡ Write
write_of Read e = absurd (omega (arith, e))
write_of TooLong e = absurd (omega (arith, e))
write_of Write e = refl

-- such a fault has exit status 5 only after a failed write
pub write_failed : {T : Type 0} (Unused Failed : Type 0) (Unread : RunFault → Type 0) (r : Result T ProgramFault) (created : Result MachineState NewFault) → IfErr r (IsRunFault created Unused Failed Unread)
    → IfErr r (λ fault. program_status fault ≡ 5 → Failed)
write_failed Unused Failed Unread (Ok x) created is = tt
write_failed Unused Failed Unread (Err fault) created (inl refused) = λ five. absurd (elim (machine_statuses refused.0) [
  | inl e ↦ omega (arith, sym e ∙ (sym (ap program_status refused.2.0) ∙ five))
  | inr e ↦ omega (arith, sym e ∙ (sym (ap program_status refused.2.0) ∙ five))
])
write_failed Unused Failed Unread (Err fault) created (inr stopped) = λ five. stopped.2.0 (write_of stopped.0 (sym (ap program_status stopped.1) ∙ five))

-- a fault of the script with exit status 3 says that it wasn't read or is too long
unread_of : (before now : ℕ) (known : Option (List ℕ)) (stopped : RunFault) → program_status (Run stopped) ≡ 3 → IsUnread before now known stopped → Rose before now ⊎ IsTooLong known
unread_of before now known Read e unread = inl unread
unread_of before now known TooLong e unread = inr unread
unread_of before now known Write e unread = absurd (omega (arith, e))

pub script_unread : {T : Type 0} (Unused Failed : Type 0) (before now : ℕ) (known : Option (List ℕ)) (r : Result T ProgramFault) (created : Result MachineState NewFault)
    → IfErr r (IsRunFault created Unused Failed (IsUnread before now known)) → IfErr r (λ fault. program_status fault ≡ 3 → Rose before now ⊎ IsTooLong known)
script_unread Unused Failed before now known (Ok x) created is = tt
script_unread Unused Failed before now known (Err fault) created (inl refused) = λ three. absurd (elim (machine_statuses refused.0) [
  | inl e ↦ omega (arith, sym e ∙ (sym (ap program_status refused.2.0) ∙ three))
  | inr e ↦ omega (arith, sym e ∙ (sym (ap program_status refused.2.0) ∙ three))
])
script_unread Unused Failed before now known (Err fault) created (inr stopped) =
    λ three. unread_of before now known stopped.0 (sym (ap program_status stopped.1) ∙ three) stopped.2.1

-- the bytes that a reader returned are at most those that are known
pub too_long : (known after : Option (List ℕ)) (text : List ℕ) → Consumes known after text → 16777216 < length text → IsTooLong known
too_long None after text given long = tt
too_long (Some xs) None text given long = absurd given
too_long (Some xs) (Some rest) text given long =
    let longer : 16777216 < length (text ++ rest) = grind (arith, length-append) in
    subst (λ (l : List ℕ). 16777216 < length l) (sym given) longer

-- the fault of a run, from what it says of each
pub unread_from : {T : Type 0} (r : Result T RunFault) (before now : ℕ) (known after : Option (List ℕ)) → (r ≡ Err Read → Rose before now)
    → (r ≡ Err TooLong → (text : List ℕ) × (Consumes known after text × (16777216 < length text))) → IfErr r (IsUnread before now known)
unread_from (Ok x) before now known after rose long = tt
unread_from (Err Read) before now known after rose long = rose refl
unread_from (Err TooLong) before now known after rose long =
    let text = long refl in
    too_long known after text.0 text.1.0 text.1.1
unread_from (Err Write) before now known after rose long = tt

-- a fault with exit status 2, from the images of accepted arguments
pub usage_of : {T : Type 0} (r : Result T ProgramFault) (arguments images : List Text) → arguments_fault arguments ≡ [] → images ≡ image_arguments arguments
    → IfErr r (λ fault. program_status fault ≡ 2 → Any LacksEqualsSign images) → IfErr r (λ fault. program_status fault ≡ 2 → MayBeRefused arguments)
usage_of (Ok x) arguments images accepted are usage = tt
usage_of (Err fault) arguments images accepted are usage = λ two. inr (accepted, subst (λ (them : List Text). Any LacksEqualsSign them) are (usage two))

-- ---- bytes that a reader keeps

known_by : (known held : Option (List ℕ)) (xs : List ℕ) → Keeps known held → AreKnownAs held xs → AreKnownAs known xs
known_by None held xs kept is = tt
known_by (Some ys) None xs kept is = absurd kept
known_by (Some ys) (Some zs) xs kept is = is ∙ kept

pub kept_by_path : (file_bytes : Text → Option (List ℕ)) (script : Option Text) (known held : Option (List ℕ)) → Keeps known held → Keeps (option_map_or file_bytes script known) (option_map_or file_bytes script held)
kept_by_path file_bytes None known held kept = kept
kept_by_path file_bytes (Some path) known held kept = Keeps-refl (file_bytes path)

pub ran_by : (took : List ℕ → Type 0) (setup : Setup) (known held : Option (List ℕ)) → Keeps known held → RanScript took setup held → RanScript took setup known
ran_by took setup known held kept ran =
    record { script = ran.script; output = ran.output; read = known_by known held ran.script kept ran.read; not_too_long = ran.not_too_long; taken = ran.taken; all = ran.all; each_user = ran.each_user }

-- a run with an output whose bytes are unspecified, and with the input of a process
pub any_output : (file_bytes : Text → Option (List ℕ)) (known held : Option (List ℕ)) (arguments : List Text) (took : List ℕ → Type 0) → Keeps known held
    → RanArguments file_bytes held arguments (RanScript took) → RanArguments file_bytes known arguments (RanScript (λ _. ⊤))
any_output file_bytes known held arguments took kept ran =
    let by = ran.run in
    let script = ran_by took by.setup (option_map_or file_bytes (script_word arguments) known) (option_map_or file_bytes (script_word arguments) held) (kept_by_path file_bytes (script_word arguments) known held kept) by.run in
    record {
      accepted = ran.accepted;
      quantum = ran.quantum;
      ticks = ran.ticks;
      run = record {
        setup = by.setup;
        ticks = by.ticks;
        files = by.files;
        faultless = by.faultless;
        run = record { script = script.script; output = script.output; read = script.read; not_too_long = script.not_too_long; taken = tt; all = script.all; each_user = script.each_user };
      };
    }

-- ---- images

last_test : {X : Type 0} (a b c d : Bool) (w x y z : X) → (if a then Some w else if b then Some x else if c then Some y else if not d then Some z else None) ≡ None → d ≡ true
last_test false false false true w x y z e = refl
last_test _ _ _ _ w x y z e = absurd (true≢false (ap is_some e))

abbrev is_small : NamedImage → Bool
is_small image = nat_le (length image.bytes) 4194304

pub images_are_small : (setup : Setup) → new_fault setup ≡ None → list_all is_small setup.images ≡ true
unfolding new_fault
images_are_small setup faultless =
    last_test (nat_lt setup.quantum 1 || nat_lt 1000 setup.quantum) (nat_lt 16 (length setup.images))
    (not (list_all (λ image. is_name image.name) setup.images && are_distinct setup.images)) (list_all is_small setup.images)
    new_faults.Quantum new_faults.ImageCount new_faults.ImageName new_faults.ImageSize faultless

-- the images of small files, for each argument
pub images_of_arguments : {A : Type 0} (file_bytes : Text → Option (List ℕ)) (arguments : List (Bor Text)) (paths : List ImagePath) (files : List (ImageFile A))
    → AllZip IsPathOf arguments paths → AllZip (IsFileOf file_bytes) paths files → list_all is_small (map named_file files) ≡ true
    → AllZip (IsImageOf file_bytes) (texts arguments) (map named_file files)
images_of_arguments file_bytes [] [] [] split read small = tt
images_of_arguments file_bytes [] [] (f ∷ fs) split read small = absurd read
images_of_arguments file_bytes [] (p ∷ ps) files split read small = absurd split
images_of_arguments file_bytes (w ∷ ws) [] files split read small = absurd split
images_of_arguments file_bytes (w ∷ ws) (p ∷ ps) [] split read small = absurd read
images_of_arguments file_bytes (w ∷ ws) (p ∷ ps) (f ∷ fs) split read small =
    let parts = and_parts _ _ small in
    let named : IsNameAndPath w.now f.name.now p.path.now = subst (λ name. IsNameAndPath w.now name p.path.now) (sym read.0.0) split.0 in
    ((p.path.now, named, read.0.1 (leb-true _ _ parts.0)), images_of_arguments file_bytes ws ps fs split.1 read.1 parts.1)

-- ---- from the options and the arguments

-- the arguments, paths, files and images, each passed from one function to the next
pub ran_options : {A : Type 0} (file_bytes : Text → Option (List ℕ)) (input_bytes : Option (List ℕ)) (quantum : ℕ) (script : Option Text) (arguments arguments' : List (Bor Text)) (paths paths' : List ImagePath) (files files' : List (ImageFile A)) (images images' : List Image)
    (machine : MachineState) (Ran : Setup → Option (List ℕ) → Type 0) → arguments' ≡ arguments → AllZip IsPathOf arguments' paths → paths' ≡ paths → AllZip (IsFileOf file_bytes) paths' files → files' ≡ files → named_images images ≡ map named_file files' → images' ≡ images
    → new_fault (setup_of quantum images') ≡ None → machine ≡ record { setup = setup_of quantum images'; world = new_world } → (machine.world ≡ new_world → Ran machine.setup (option_map_or file_bytes script input_bytes))
    → RanOptions file_bytes input_bytes quantum script (texts arguments) Ran
ran_options file_bytes input_bytes quantum script arguments arguments' paths paths' files files' images images' machine Ran arguments_are split paths_are read files_are borrowed images_are faultless made ran =
    let setup : Setup = setup_of quantum images' in
    let named : named_images images' ≡ map named_file files = ap named_images images_are ∙ (borrowed ∙ ap (map named_file) files_are) in
    let small : list_all is_small (map named_file files) ≡ true = subst (λ them. list_all is_small them ≡ true) named (images_are_small setup faultless) in
    record {
      setup = setup;
      ticks = refl;
      files = subst (AllZip (IsImageOf file_bytes) (texts arguments)) (sym named)
          (images_of_arguments file_bytes arguments paths files (subst (λ them. AllZip IsPathOf them paths) arguments_are split)
          (subst (λ them. AllZip (IsFileOf file_bytes) them files) paths_are read) small);
      faultless = faultless;
      run = subst (λ (m : MachineState). Ran m.setup (option_map_or file_bytes script input_bytes)) made (ran (ap (λ (m : MachineState). m.world) made));
    }

pub ran_arguments : (file_bytes : Text → Option (List ℕ)) (input_bytes : Option (List ℕ)) (arguments : List Text) (quantum : ℕ) (script : Option Text) (images : List Text) (Ran : Setup → Option (List ℕ) → Type 0)
    → arguments_fault arguments ≡ [] → IsQuantum (quantum_word arguments) quantum → script ≡ script_word arguments → images ≡ image_arguments arguments → RanOptions file_bytes input_bytes quantum script images Ran
    → RanArguments file_bytes input_bytes arguments Ran
ran_arguments file_bytes input_bytes arguments quantum script images Ran accepted ticks script_is images_are ran =
    let by_script = subst (λ it. RanOptions file_bytes input_bytes quantum it images Ran) script_is ran in
    record {
      accepted = accepted;
      quantum = quantum;
      ticks = ticks;
      run = subst (λ them. RanOptions file_bytes input_bytes quantum (script_word arguments) them Ran) images_are by_script;
    }
