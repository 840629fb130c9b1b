-- `part_mut` borrows a range of the array as a slice. The borrow checker has no write-back clause for a part of a `[u8; N]`, so this
-- proof follows the code step by step.
use mathlib.Core.Path.{◌≡◌, refl, sym, ap, ◌∙◌}
use Prim.Native.Nat.{ℕ, ◌+◌, ◌-◌, ◌^◌, ◌<◌, ◌≤◌}
use native.Mathlib.Nat.{mul-one}
use native.Mathlib.Omega.{arith}
use mathlib.Core.List.{List, [], ◌∷◌, ◌++◌}
use seplogic.Ra.Ura.{Ura}
use mir.Syntax.{Fn, named, w64}
use mir.MapTy.{inst_fn}
use mir.Val.{Val, vptr, vint}
use base.Logic.{SProp, ent, sep, ex}
use base.Fml.{Fml, Lft, GName, Share, ftrue, flft}
use prog.Memory.{Memory, size}
use prog.Routine.{Routine}
use prog.Wp.{Calls, Loops, WpFn, Tables}
use types.Logic.{Logic, sem}
use types.Mut.{open_ref}
use contract.BorrowLft.{◌⊑◌}
use contract.Lifetimes.{AllOutlive}
use contract.Monad.{Fun}
use contract.Running.{tables, tables_of}
use sound.WpLaws.{WpFn-mono}
use types.Kit.{Item, ‵, ◌⊛◌, raw, given, some, later, ◌$◌, ◌∵◌, !, qed, by, move, keep, drop, split, split3, join, learn, fsplit, fsplit3, fjoin, use1, use2, await, pick, suffices, frame, done, updating, group, now, show, rewrite}
use denote.Array.{Array}
use denote.Builtin.{RefMutOf, usize, u8}
use denote.Exit.{yes, no}
use denote.Follow.{follows}
use denote.Memory.{mem}
use denote.Param.{number, layout}
use denote.Plain.{uint_vals, uint_Tells}
use denote.RattleType.{owns}
use denote.Ref.{MutBor, MutRef, mut_vals, mut_Tells}
use denote.Signature.{plain}
use denote.Steps.{nothing}
use denote.Triple.Clauses.{Clauses, Ended, closing}
use denote.Triple.Entry.{on_entry}
use denote.Triple.Spec.{Meets, triple_of}
use denote.Triple.Table.{entered}
use denote.Triple.Walked.{says, Stays, stay_dropped, walk_of, ends_at, walked, Goes-dropped, Goes-spent_ref, walk_Meets}
use lib.Lanes.{put_chunk}
use lib.LanesLaws.{length-put, put_is}
use lib.ListN.{length, take, drop as drop_list, take-append-drop, length-drop}
use types.SemTy.{cells}
use types.Part.{agg}
use types.Run.{stop, fld, addr, bin, and_then, no_more, returns, enter}
use types.ByLocal.{alloc_all, pass_all, free_all, look_at, get, through, sets}
use denote.FollowSlice.{lends_Elements}
use denote.Slice.{MutSlice, Room, slice_val}
use borrow.Table.Elements.{at, at_byte, cut_app, join_app, length-take-le}
use Rattle.rv_model.proofs.vector_lemmas.CellsMemory.{args, S, start, Left, elements_out, elements_in}
use Rattle.rv_model.specs.contracts.vector.cells.Cells.part_mut as F
use Rattle.rv_model.specs.contracts.vector.cells.Cells.part_mut.Key.{name as #self}
use Rattle.rv_model.proofs.vector.cells.Cells.part_mut.Statement as stated
use Rattle.rv_model.proofs.vector.cells.Cells.part_mut.Code as code

module _ (n : ℕ) where
  abbrev function : Fn
  function = inst_fn (args n) code.function

  abbrev ended : Ended
  ended = F.ended (number n)

  abbrev stayed : Stays ended.signature.params ended.kept
  stayed = (
    stay_dropped (RefMutOf (0 ∷ []) tt (plain (λ _. S n)) (λ _. tt)) no,
    (stay_dropped (plain (λ _. usize)) yes, (stay_dropped (plain (λ _. usize)) yes, tt)),
  )

module _ (n : ℕ) {M : Type 1} {𝓤 : Ura M} (𝓛 : Logic 𝓤) where
  open 𝓛 use {H, A}

  module _ (κ : Lft) (q : Share) (b o : ℕ) (γ : GName) (d : (S n).Denot) (from to : ℕ) where
    abbrev p : ℕ
    p = start n o

    abbrev count : ℕ
    count = to - from

    abbrev front : List ℕ
    front = take from d.bytes

    abbrev part : List ℕ
    part = take count (drop_list from d.bytes)

    abbrev back : List ℕ
    back = drop_list count (drop_list from d.bytes)

    abbrev after : List ℕ → (S n).Denot
    after ws = record { bytes = put_chunk from d.bytes ws }

    abbrev elements : List ℕ → ℕ → Fml
    elements ws = cells (mem u8) ws b

    abbrev past : ℕ → ℕ → ℕ
    past i = at i (mem u8).size

    abbrev Rest : SProp 𝓤
    Rest = sep 𝓤 (sem 𝓛 (elements front p)) (sep 𝓤 (sem 𝓛 (elements back (past (past p (length front)) (length part)))) (Left n 𝓛 b o))

    put : from ≤ to → to ≤ n → length d.bytes ≡ n → (ws : List ℕ) → length ws ≡ length part
        → ent 𝓤 (sep 𝓤 (sem 𝓛 (elements ws (past p (length front)))) Rest) (sem 𝓛 ((mem (S n)).own_at (after ws) b o))
    put order within long ws e =
        let cut = length-drop from d.bytes in
        let many : length part ≡ count = length-take-le count (drop_list from d.bytes) (omega arith) in
        let same : (after ws).bytes ≡ front ++ (ws ++ back) =
        put_is from d.bytes ws (omega arith) ∙ ap (λ k. front ++ (ws ++ drop_list k (drop_list from d.bytes))) (e ∙ many) in
        qed 𝓛 (‵ (elements ws (past p (length front))) ∷ (‵ (elements front p) ⊛ ‵ (elements back (past (past p (length front)) (length part))) ⊛ raw (Left n 𝓛 b o)) ∷ []) ∵
        move ! (1 ∷ []) $ split3 ! $ move ! (3 ∷ 1 ∷ []) $
        rewrite ! 1 (λ (k : ℕ). ‵ (elements back (past (past p (length front)) k))) (sym e) refl $
        use2 𝓛 (‵ (elements (ws ++ back) (past p (length front)))) (join_app 𝓛 (mem u8) ws back b (past p (length front))) $
        move ! (1 ∷ 0 ∷ []) $
        use2 𝓛 (‵ (elements (front ++ (ws ++ back)) p)) (join_app 𝓛 (mem u8) front (ws ++ back) b p) $
        rewrite ! 0 (λ (l : List ℕ). ‵ (elements l p)) (sym same) refl $
        by ! (elements_in n 𝓛 b o (after ws) (length-put from d.bytes ws ∙ long))

    abbrev Lent : GName → SProp 𝓤
    Lent δ = sep 𝓤 (sem 𝓛 ((MutSlice (named 0) κ u8).own_val (record { ref_ptr = (b, from + p); ghost_name = δ; now = part }) (slice_val (b, from + p) count ∷ []))) (sep 𝓤 (A.lft κ q) (sem 𝓛 (follows (S n) (Array u8 0) γ δ after)))

    abbrev lent : ℕ → ℕ → GName → Item 𝓤
    lent a k δ = ‵ ((MutSlice (named 0) κ u8).own_val (record { ref_ptr = (b, a); ghost_name = δ; now = part }) (slice_val (b, a) k ∷ [])) ⊛ ‵ (flft κ q) ⊛ ‵ (follows (S n) (Array u8 0) γ δ after)

    lends : from ≤ to → to ≤ n → n < 2 ^ 63 → (vs : List Val)
        → ent 𝓤 (sep 𝓤 (sem 𝓛 ((MutRef (named 0) κ (S n)).own_val (record { ref_ptr = (b, o); ghost_name = γ; now = d }) vs)) (A.lft κ q)) (H.⇛ (ex 𝓤 Lent))
    lends order within small vs =
        qed 𝓛 (‵ ((MutRef (named 0) κ (S n)).own_val (record { ref_ptr = (b, o); ghost_name = γ; now = d }) vs) ∷ ‵ (flft κ q) ∷ []) ∵
        updating ! $ fsplit3 ! $ drop ! $ open_ref ! tt (mem (S n)) {b = b} {o = o} $
        use1 𝓛 (given (length d.bytes ≡ n) (‵ (elements d.bytes p) ⊛ raw (Left n 𝓛 b o))) (elements_out n 𝓛 b o d) $
        learn ! (λ long. split ! $
        let cut = length-drop from d.bytes in
        let many : length part ≡ count = length-take-le count (drop_list from d.bytes) (omega arith) in
        let before : length front ≡ from = length-take-le from d.bytes (omega arith) in
        let place : past p (length front) ≡ from + p = at_byte p (length front) ∙ ap (λ k. k + p) before in
        let room : Room u8 (length part) = (omega arith, omega (arith, mul-one (length part))) in
        rewrite ! 0 (λ (l : List ℕ). ‵ (elements l p)) (sym (take-append-drop from d.bytes)) refl $
        use1 𝓛 (‵ (elements front p) ⊛ ‵ (elements (drop_list from d.bytes) (past p (length front)))) (cut_app 𝓛 (mem u8) front (drop_list from d.bytes) b p) $
        split ! $ move ! (1 ∷ []) $
        rewrite ! 0 (λ (l : List ℕ). ‵ (elements l (past p (length front)))) (sym (take-append-drop count (drop_list from d.bytes))) refl $
        use1 𝓛 (‵ (elements part (past p (length front))) ⊛ ‵ (elements back (past (past p (length front)) (length part)))) (cut_app 𝓛 (mem u8) part back b (past p (length front))) $
        split ! $
        -- [the part; the bytes after it; the bytes before it; the rest of the struct; the open borrow, in three parts]
        move ! (1 ∷ 3 ∷ []) $ join ! $ move ! (2 ∷ 0 ∷ []) $ join ! $ move ! (2 ∷ 3 ∷ 4 ∷ 1 ∷ 0 ∷ []) $ group ! 5 $
        use1 𝓛 (later (some (lent (past p (length front)) (length part))))
        (lends_Elements 𝓛 (S n) u8 after (named 0) κ q b o b (past p (length front)) γ part room Rest (put order within long) ((S n).coded.code d) ((S n).coded.code d)) $
        await ! tt $ pick ! (λ δ. rewrite ! 0 (λ (a : ℕ). lent a (length part) δ) place refl $ rewrite ! 0 (λ (k : ℕ). lent (from + p) k δ) many refl $ now ! $ show ! Lent δ $ done !))

  module _ (at_mem : Memory → SProp 𝓤) (run : Routine → Fun 𝓤) where
    abbrev clauses : Clauses 𝓤 (ended n)
    clauses = F.clauses (number n) 𝓛 at_mem run

    module _ (C : Calls 𝓤 H) (Λ : Loops 𝓤 H) (κ κN : Lft) (q qN : Share)
        (bd : AllOutlive 2 (ended n).signature.outlives (κ, (κN, tt))) (b o : ℕ) (γ : GName)
        (d : (S n).Denot) (from to : ℕ) where
      abbrev self : MutBor (S n).Denot
      self = record { ref_ptr = (b, o); ghost_name = γ; now = d }

      abbrev bound : (walk_of 𝓛 (ended n) (stayed n) clauses).Ghost
      bound = (((κ, (κN, tt)), (q, (qN, tt)), bd, (self, (from, (to, tt))), (mut_vals self, (vint w64 from ∷ [], (vint w64 to ∷ [], tt)))), tt)

      walk : from ≤ to → to ≤ n → from < 2 ^ 64 → to < 2 ^ 64 → n < 2 ^ 63
          → ent 𝓤 (on_entry 𝓛 (ended n).signature (κ, (κN, tt)) (q, (qN, tt)) (self, (from, (to, tt))) (mut_vals self, (vint w64 from ∷ [], (vint w64 to ∷ [], tt)))) (WpFn 𝓤 H C Λ (function n) (vptr b o ∷ vint w64 from ∷ vint w64 to ∷ []) ((walk_of 𝓛 (ended n) (stayed n) clauses).post bound))
      walk order within ff ft small =
          qed 𝓛 ((‵ (flft κ q) ⊛ ‵ (flft κN qN) ⊛ ‵ ftrue) ∷ ‵ (owns (MutRef (named 0) κ (S n) ∷ usize ∷ usize ∷ []) (self, (from, (to, tt))) (mut_vals self, (vint w64 from ∷ [], (vint w64 to ∷ [], tt)))) ∷ []) ∵
          enter ! C Λ (function n) (vptr b o ∷ vint w64 from ∷ vint w64 to ∷ []) _ $
          alloc_all ! (λ l. pass_all ! refl ((tt, tt), ((tt, record { fits = ff }), ((tt, record { fits = ft }), tt))) $
          let fc : to - from < 2 ^ 64 = omega arith in
          sets ! (addr ! (through ! refl (fld ! refl (stop !)))) refl (tt, tt) $
          sets ! (bin ! (get ! refl) (get ! refl) tt) refl (tt, tt) $
          sets ! (bin ! (get ! refl) (get ! refl) order) refl (tt, record { fits = fc }) $
          sets ! (addr ! (through ! refl (stop !))) refl (tt, tt) $
          sets ! (agg ! (and_then ! (get ! refl) (and_then ! (get ! refl) (no_more !)))) refl (tt, (tt, (record { fits = fc }, tt))) $
          split ! $ move ! (2 ∷ []) $ fsplit ! $ move ! (0 ∷ 2 ∷ []) $
          use2 𝓛 (later (some (lent κ q b o γ d from to (from + start n o) (to - from)))) (lends κ q b o γ d from to order within small (mut_vals self)) $
          await ! tt $ pick ! (λ δ.
          returns ! (look_at ! 0 refl) $ free_all ! refl $ keep ! (0 ∷ 2 ∷ []) $ split3 ! $
          suffices ! _ (ends_at 𝓛 (ended n) (stayed n) clauses bound (slice_val (b, from + start n o) (to - from)) (record { ref_ptr = (b, from + start n o); ghost_name = δ; now = take (to - from) (drop_list from d.bytes) }) (tt, (tt, (tt, tt))) (tt, (tt, (tt, tt)))) $
          nothing ! $ nothing ! $ fjoin ! $ nothing ! $ fjoin ! $ nothing ! $ fjoin ! $ join ! $ move ! (1 ∷ 3 ∷ []) $ join ! $ join ! $ frame ! $ says ! refl $ done !))

    meets : (𝓣 : Tables 𝓤 H) → Meets 𝓛 (ended n).signature (WpFn 𝓤 H 𝓣.C 𝓣.Λ (function n)) (closing 𝓛 (ended n) clauses)
    meets 𝓣 =
        walk_Meets 𝓛 (ended n) (stayed n) (Goes-spent_ref 𝓛 2 (0 ∷ []) tt (plain (λ _. S n)), (Goes-dropped 𝓛 2 (plain (λ _. usize)) yes (λ κs x f. refl), (Goes-dropped 𝓛 2 (plain (λ _. usize)) yes (λ κs x f. refl), tt))) clauses (WpFn 𝓤 H 𝓣.C 𝓣.Λ (function n)) (WpFn-mono 𝓤 H 𝓛.laws 𝓣 (function n))
        (walked 𝓛 (ended n) (stayed n) clauses (WpFn 𝓤 H 𝓣.C 𝓣.Λ (function n)) (λ κs. (mut_vals, (uint_vals w64, (uint_vals w64, tt)))) (λ κs. (mut_Tells (named 0) κs.0 (S n), (uint_Tells w64, (uint_Tells w64, tt))))
        (λ κs qs bounds a g are.
        qed 𝓛 (raw (on_entry 𝓛 (ended n).signature κs qs a (mut_vals a.0, (vint w64 a.1.0 ∷ [], (vint w64 a.1.1.0 ∷ [], tt)))) ∷ (given (κs.1.0 ⊑ []) (‵ ftrue) ⊛ given (size (layout (S n)) < 2 ^ 63) (‵ ftrue) ⊛ given (a.1.0 ≤ a.1.1.0) (‵ ftrue) ⊛ given (a.1.1.0 ≤ n) (‵ ftrue)) ∷ []) ∵
        move ! (1 ∷ []) $ split3 ! $ drop ! $ learn ! (λ fits. drop ! $ split ! $ learn ! (λ order. drop ! $ learn ! (λ within. drop ! $
        by ! (walk 𝓣.C 𝓣.Λ κs.0 κs.1.0 qs.0 qs.1.0 bounds a.0.ref_ptr.0 a.0.ref_ptr.1 a.0.ghost_name a.0.now a.1.0 a.1.1.0 order within are.1.0.1 are.1.1.0.1 (omega arith)))))))

pub part_mut_spec : {M : Type 1} → stated.statement M
unfolding tables_of
part_mut_spec 𝓤 𝓛 𝓜 𝓡 wired n fits =
    let 𝓣 : Tables 𝓤 𝓛.H = tables_of 𝓤 𝓛.H 𝓜 (tables 𝓤 𝓛.H 𝓜 𝓡 𝓡.env) in
    entered 𝓤 𝓛.H (triple_of 𝓛 (ended n).signature (F.spec (number n) 𝓛 𝓜.mem 𝓡.returns)) 𝓣.C 𝓣.Λ (#self (args n)) (function n) (code.unfolded 𝓤 𝓛.H 𝓜 𝓡 wired (number n, tt))
    (meets n 𝓛 𝓜.mem 𝓡.returns 𝓣)
