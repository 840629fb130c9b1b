-- The parts of each vector load or store, the index where its run stops, and the result.
use Rattle.std.proofs.Common.{◌≡◌, ◌≢◌, ℕ, ◌+◌, ◌-◌, ◌<◌, ◌≤◌, Bool, true, ◌&&◌, List, max, ◌⊎◌, inl, inr, Option, Some, None, refl, sym, ◌∙◌, ap, subst, arith}
use Rattle.std.specs.Option.{option_map}
use Rattle.std.specs.Prelude.{IfSome, nat_lt, ⊤}
use Rattle.std.proofs.lemmas.Bool.{and_parts, leb-true}
use Rattle.std.proofs.lemmas.Bool.Decides.{nat_tests}
use Rattle.rv_model.specs.declared.instructions.access.AccessInstr.{AccessInstr}
use Rattle.rv_model.specs.declared.instructions.access.AccessInstr.TheVariants.{MaskAccess, Indexed, Strided, UnitStride, WholeLoad, WholeStore}
use Rattle.rv_model.specs.declared.instructions.operations.Direction.{Direction}
use Rattle.rv_model.specs.declared.instructions.operations.Direction.TheVariants as direction
use Rattle.rv_model.specs.declared.memory.Access.{Access}
use Rattle.rv_model.specs.declared.scalar.Scalar.{Scalar}
use Rattle.rv_model.specs.declared.step.memory_end.MemEnd.{MemEnd}
use Rattle.rv_model.specs.declared.step.memory_end.MemEnd.TheVariants.{Cut, Done, Fault}
use Rattle.rv_model.specs.declared.vector.state.VState.{VState}
use Rattle.rv_model.specs.declared.vector.types.VType.{VType}
use Rattle.rv_model.specs.accesses.AccessRuns.{AccessRun, access_ends, access_run, directed_run, load_run, run_or_nothing, runs_to, store_run}
use Rattle.rv_model.specs.accesses.Restarts.{AccessStopIndex, IsStopped, StopIndex}
use Rattle.rv_model.specs.accesses.Transfers.{Plan, end_at, stop_index}
use Rattle.rv_model.specs.accesses.VectorAccess.{VectorAccess, access_of, indexed_access, mask_length, strided_access, unit_access, unmasked_access}
use Rattle.rv_model.specs.vector.Groups.{access_type, group_type, register_of}
use Rattle.rv_model.specs.memory.Memory.{Memory, can_access_byte}
use Rattle.rv_model.proofs.access_lemmas.Moves.{stored_allows}
use Rattle.rv_model.proofs.access_lemmas.Resumes.{stop_from, stop_most}
use Rattle.rv_model.proofs.Choices.{of_option, of_test}

-- ---- each access

-- it starts at vstart; one that may reduce the vector length has vl indices
pub record Made (v : VState) (a : VectorAccess) : Type 0 where
  pub begins : a.body.start ≡ v.vstart
  pub shortens : a.first_only ≡ true → a.body.end ≡ v.conf.vl

typed_made : (o : Option VType) (make : VType → VectorAccess) (P : VectorAccess → Type 0) → ((t : VType) → P (make t)) → IfSome (option_map make o) P
typed_made o make P each = search (arith, nat_tests)

each_made : (i : AccessInstr) (v : VState) (x : Scalar) → IfSome (access_of i v x) (Made v)
each_made (WholeLoad count w vd rs1) v x = record { begins = refl; shortens = λ is. absurd (cc) }
each_made (WholeStore count vd rs1) v x = record { begins = refl; shortens = λ is. absurd (cc) }
each_made (MaskAccess d vd rs1) v x = typed_made v.conf.vtype _ (Made v) (λ t. record { begins = refl; shortens = λ is. absurd (cc) })
each_made _ v x = typed_made v.conf.vtype _ (Made v) (λ t. record { begins = refl; shortens = λ is. refl })

pub made_of : (i : AccessInstr) (v : VState) (x : Scalar) (a : VectorAccess) → access_of i v x ≡ Some a → Made v a
made_of i v x a e = subst (λ (o : Option VectorAccess). IfSome o (Made v)) e (each_made i v x)

-- ---- the same access from another index on, with the mask and the addresses at that time

abbrev pub access_again : VectorAccess → List ℕ → ℕ → (ℕ → ℕ) → VectorAccess
access_again a mask start address = record a { body = record a.body { mask = mask; start = start }; address = address }

-- an instruction that is executed again has this access
pub record IsAgain (i : AccessInstr) (v : VState) (x : Scalar) (a : VectorAccess) (file : List ℕ) (start : ℕ) : Type 0 where
  pub address : ℕ → ℕ
  pub is : access_of i (record v { file = file; vstart = start }) x ≡ Some (access_again a (register_of file 0) start address)

-- the same for an instruction that needs a vector type
typed_again : (i : AccessInstr) (v : VState) (x : Scalar) (a : VectorAccess) (file : List ℕ) (start : ℕ) (make : VType → VectorAccess) (address : VType → ℕ → ℕ)
    → access_of i (record v { file = file; vstart = start }) x ≡ option_map (λ t. access_again (make t) (register_of file 0) start (address t)) v.conf.vtype
    → option_map make v.conf.vtype ≡ Some a → IsAgain i v x a file start
typed_again i v x a file start make address is =
    of_option v.conf.vtype
    (λ o. access_of i (record v { file = file; vstart = start }) x ≡ option_map (λ t. access_again (make t) (register_of file 0) start (address t)) o
    → option_map make o ≡ Some a → IsAgain i v x a file start)
    (λ e is made. absurd (cc))
    (λ t e is made. record { address = address t; is = is ∙ ap (option_map (λ a. access_again a (register_of file 0) start (address t))) made }) is

pub again_of : (i : AccessInstr) (v : VState) (x : Scalar) (a : VectorAccess) (file : List ℕ) (start : ℕ) → access_of i v x ≡ Some a
    → IsAgain i v x a file start
again_of (UnitStride op w nf vd rs1 vm) v x a file start =
    typed_again (UnitStride op w nf vd rs1 vm) v x a file start _ (λ t. (unit_access op (access_type t w) nf vd rs1 vm v x).address) refl
again_of (Strided d w nf vd rs1 rs2 vm) v x a file start =
    typed_again (Strided d w nf vd rs1 rs2 vm) v x a file start _ (λ t. (strided_access d (access_type t w) nf vd rs1 rs2 vm v x).address) refl
again_of (Indexed d order w nf vd rs1 vs2 vm) v x a file start =
    typed_again (Indexed d order w nf vd rs1 vs2 vm) v x a file start _
    (λ t. (indexed_access d (group_type t) (access_type t w) nf vd rs1 vs2 vm (record v { file = file; vstart = start }) x).address) refl
again_of (MaskAccess d vd rs1) v x a file start =
    typed_again (MaskAccess d vd rs1) v x a file start _ (λ t. (unmasked_access d (mask_length v.conf.vl) 1 1 vd rs1 v x).address) refl
again_of _ v x a file start = λ e. record { address = a.address; is = ap (option_map (λ b. access_again b (register_of file 0) start b.address)) e }

-- ---- the index where transfers stop

-- a fact about the index where transfers are cut, and one about the index where they fault
abbrev pub AtStop : MemEnd → (ℕ → Type 0) → (ℕ → Type 0) → Type 0
AtStop Done C F = ⊤
AtStop (Cut index) C F = C index
AtStop (Fault index addr) C F = F index

pub stop_means : (end : MemEnd) (C F D G : ℕ → Type 0) → AtStop end C F → ((index : ℕ) → C index → D index) → ((index : ℕ) → F index → G index)
    → AtStop end D G
stop_means end C F D G h cut fault = search (arith, nat_tests)

-- the end of at most `limit` indices from `start` on, of `count` in all
abbrev EndIs : ℕ → ℕ → ℕ → MemEnd → Type 0
EndIs limit start count Done = count ≤ start + limit
EndIs limit start count (Cut index) = (index ≡ start + limit) × (index < count)
EndIs limit start count (Fault index addr) = (start ≤ index) × (index < start + limit) × (index < count)

end_is : (kind : Access) (m : Memory) (each : Plan) (limit start count : ℕ)
    → EndIs limit start count (end_at kind m each (start + limit) count (stop_index kind m each start (start + limit) count))
unfolding end_at
end_is kind m each limit start count = search (arith, nat_tests, leb-true, of_test, stop_from, stop_most)

-- ---- the result of a run

-- a run that stops early: vstart is the index where it stops, and the vector type and length are unchanged
pub record StoppedAt (start count : ℕ) (v : VState) (run : AccessRun) (index : ℕ) : Type 0 where
  pub from : start ≤ index
  pub below : index < count
  pub vstart : run.vector.vstart ≡ index
  pub conf : run.vector.conf ≡ v.conf

pub record CutAt (limit start count : ℕ) (v : VState) (run : AccessRun) (index : ℕ) : Type 0 where
  pub stopped : StoppedAt start count v run index
  pub at : index ≡ start + limit
  pub reached : run.reached ≡ index

pub record FaultAt (limit start count : ℕ) (v : VState) (run : AccessRun) (index : ℕ) : Type 0 where
  pub stopped : StoppedAt start count v run index
  pub before : index < start + limit
  pub reached : run.reached ≡ index + 1

-- a complete run reached all of its indices, or it reduced the vector length to the last index that it reached
abbrev pub AllOrShorter : ℕ → ℕ → Bool → VState → AccessRun → Type 0
AllOrShorter start count first_only v run =
    ((run.vector.conf.vl ≡ v.conf.vl) × (run.reached ≡ max (start + 1) count))
    ⊎ ((first_only ≡ true) × ((start ≤ run.vector.conf.vl) × ((run.vector.conf.vl < v.conf.vl) × (run.reached ≡ run.vector.conf.vl + 1))))

-- a fact about complete transfers
abbrev pub AtEnd : MemEnd → Type 0 → Type 0
AtEnd Done P = P
AtEnd _ P = ⊤

pub record Facts (limit start count : ℕ) (d : Direction) (first_only : Bool) (v : VState) (m : Memory) (run : AccessRun) : Type 0 where
  pub stop : AtStop run.end (CutAt limit start count v run) (FaultAt limit start count v run)
  pub done : AtEnd run.end (AllOrShorter start count first_only v run)
  pub from : start ≤ run.reached
  pub ticks : 1 ≤ limit → (start < run.reached) × (run.reached ≤ start + limit)
  pub vtype : run.vector.conf.vtype ≡ v.conf.vtype
  pub length : run.vector.conf.vl ≤ v.conf.vl
  pub rounding : run.vector.vxrm ≡ v.vxrm
  pub saturation : run.vector.vxsat ≡ v.vxsat
  pub registers : d ≡ direction.Store → run.vector.file ≡ v.file
  pub memory : d ≡ direction.Load → run.memory ≡ m
  pub allowed : (kind : Access) (x : ℕ) → can_access_byte kind run.memory x ≡ can_access_byte kind m x

module _ (limit start count : ℕ) (d : Direction) (known : Bool) (v : VState) (m : Memory) where
  ends_facts : (first_only : Bool) (file : List ℕ) (after : Memory) (end : MemEnd) → (first_only ≡ true → known ≡ true) → start ≡ v.vstart
      → (first_only ≡ true → count ≡ v.conf.vl) → (d ≡ direction.Store → file ≡ v.file) → (d ≡ direction.Load → after ≡ m)
      → ((kind : Access) (x : ℕ) → can_access_byte kind after x ≡ can_access_byte kind m x) → EndIs limit start count end
      → Facts limit start count d known v m (access_ends first_only count (record v { file = file }) after end)
  ends_facts first_only file after end first begins shortens registers memory allowed is = by_end end is
    where
      Of : AccessRun → Type 0
      Of run = Facts limit start count d known v m run

      -- a run that changes only vl and vstart of the configuration
      left : (end : MemEnd) (reached vl vstart : ℕ) → vl ≤ v.conf.vl → start ≤ reached
          → (1 ≤ limit → (start < reached) × (reached ≤ start + limit))
          → (let run : AccessRun = runs_to end reached (record v { file = file; conf = record v.conf { vl = vl }; vstart = vstart }) after in
          AtStop end (CutAt limit start count v run) (FaultAt limit start count v run) → AtEnd end (AllOrShorter start count known v run) → Of run)
      left end reached vl vstart length from ticks stop done = record {
        stop = stop;
        done = done;
        from = from;
        ticks = ticks;
        vtype = refl;
        length = length;
        rounding = refl;
        saturation = refl;
        registers = registers;
        memory = memory;
        allowed = allowed;
      }

      by_end : (end : MemEnd) → EndIs limit start count end → Of (access_ends first_only count (record v { file = file }) after end)
      by_end Done is =
          left Done (max (v.vstart + 1) count) v.conf.vl 0 (omega arith) (omega (arith, begins)) (λ some. (omega (arith, begins), omega (arith, begins, is, some)))
          tt (inl (refl, ap (λ (n : ℕ). max (n + 1) count) (sym begins)))
      by_end (Cut index) is =
          left (Cut index) index v.conf.vl index (omega arith) (omega (arith, is.0)) (λ some. (omega (arith, is.0, some), omega (arith, is.0)))
          (record { stopped = record { from = omega (arith, is.0); below = is.1; vstart = refl; conf = refl }; at = is.0; reached = refl }) tt
      by_end (Fault index addr) is =
          let ticks : 1 ≤ limit → (start < index + 1) × (index + 1 ≤ start + limit) = λ some. (omega (arith, is.0), omega (arith, is.1)) in
          of_test Of (first_only && nat_lt 0 index) _ _
          (λ e.
          let only = (and_parts first_only (nat_lt 0 index) e).0 in
          left Done (index + 1) index 0 (omega (arith, is.2, shortens only)) (omega (arith, is.0)) ticks tt
          (inr (first only, (is.0, (omega (arith, is.2, shortens only), refl)))))
          (λ e. left (Fault index addr) (index + 1) v.conf.vl index (omega arith) (omega (arith, is.0)) ticks
          (record { stopped = record { from = is.0; below = is.2; vstart = refl; conf = refl }; before = is.1; reached = refl }) tt)

module _ (limit : ℕ) (fill : Bool) (a : VectorAccess) (v : VState) (m : Memory) (made : Made v a) where
  load_facts : Facts limit a.body.start a.body.end direction.Load a.first_only v m (load_run limit fill a v m)
  unfolding load_run
  load_facts = search (arith, nat_tests, end_is, ends_facts)

  store_facts : Facts limit a.body.start a.body.end direction.Store a.first_only v m (store_run limit a v m)
  unfolding store_run
  store_facts = search (arith, nat_tests, end_is, ends_facts, stored_allows)

  directed_facts : (d : Direction) → Facts limit a.body.start a.body.end d a.first_only v m (directed_run d limit fill a v m)
  directed_facts d = search (arith, nat_tests, load_facts, store_facts)

pub run_facts : (limit : ℕ) (fill : Bool) (i : AccessInstr) (v : VState) (x : Scalar) (m : Memory) (a : VectorAccess) → access_of i v x ≡ Some a
    → Facts limit v.vstart a.body.end a.direction a.first_only v m (directed_run a.direction limit fill a v m)
run_facts limit fill i v x m a e =
    subst (λ (n : ℕ). Facts limit n a.body.end a.direction a.first_only v m (directed_run a.direction limit fill a v m)) (made_of i v x a e).begins
    (directed_facts limit fill a v m (made_of i v x a e) a.direction)

-- ---- the run of an instruction is that of its access

pub run_is : (limit : ℕ) (fill : Bool) (i : AccessInstr) (v : VState) (x : Scalar) (m : Memory) (a : VectorAccess) → access_of i v x ≡ Some a
    → access_run limit fill i v x m ≡ directed_run a.direction limit fill a v m
unfolding access_run
run_is limit fill i v x m a e = ap (λ (o : Option VectorAccess). run_or_nothing limit fill o v m) e

-- a property of the run of each access, and of the empty run, holds for the run of an instruction
pub of_access : (limit : ℕ) (fill : Bool) (i : AccessInstr) (v : VState) (x : Scalar) (m : Memory) (P : Option VectorAccess → AccessRun → Type 0)
    → P None (runs_to Done (v.vstart + 1) v m)
    → ((a : VectorAccess) → access_of i v x ≡ Some a → P (Some a) (directed_run a.direction limit fill a v m))
    → P (access_of i v x) (access_run limit fill i v x m)
unfolding access_run
of_access limit fill i v x m P nothing each = of_option (access_of i v x) (λ o. P o (run_or_nothing limit fill o v m)) (λ e. nothing) each

-- ---- the index where it stops

leaves_off : (limit count : ℕ) (d : Direction) (first_only : Bool) (v : VState) (m : Memory) (run : AccessRun) → Facts limit v.vstart count d first_only v m run → StopIndex limit v run
leaves_off limit count d first_only v m run f = search (arith, nat_tests)

pub access_leaves_off : AccessStopIndex
access_leaves_off i limit fill v x m =
    of_access limit fill i v x m (λ o run. StopIndex limit v run)
    (record { cut = λ index e. absurd (cc); fault = λ index addr e. absurd (cc) })
    (λ a e. leaves_off limit a.body.end a.direction a.first_only v m _ (run_facts limit fill i v x m a e))

-- ---- the state where it stops

stops_at : (end : MemEnd) (P : ℕ → Type 0) → AtStop end P P → end ≢ Done → (index : ℕ) × P index
stops_at end P h ended = search (arith, nat_tests)

pub is_stopped : (limit : ℕ) (a : VectorAccess) (v : VState) (m : Memory) (run : AccessRun) → Facts limit v.vstart a.body.end a.direction a.first_only v m run
    → run.end ≢ Done → IsStopped a v run.vector
is_stopped limit a v m run f ended =
    let n : ℕ = a.body.end in
    let at =
    stops_at run.end (StoppedAt v.vstart n v run)
    (stop_means run.end (CutAt limit v.vstart n v run) (FaultAt limit v.vstart n v run) (StoppedAt v.vstart n v run) (StoppedAt v.vstart n v run)
    f.stop (λ index h. h.stopped) (λ index h. h.stopped)) ended in
    record {
      from = omega (arith, at.1.from, at.1.vstart);
      below = omega (arith, at.1.below, at.1.vstart);
      conf = at.1.conf;
      rounding = f.rounding;
      saturation = f.saturation;
      registers = f.registers;
    }

-- the state where it stops differs only in the registers and vstart
pub stopped_state : (a : VectorAccess) (v w : VState) → IsStopped a v w → w ≡ record v { file = w.file; vstart = w.vstart }
stopped_state a v w h = λ j. record w { conf = h.conf j; vxrm = h.rounding j; vxsat = h.saturation j }
