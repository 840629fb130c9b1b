use Rattle.std.proofs.Common.{◌≡◌, ◌∙◌, ◌+◌, ◌-◌, ◌*◌, ◌%◌, ◌^◌, ◌++◌, ◌∷◌, [], ℕ, List, ap, refl, subst, map, arith, zero-add}
use Rattle.std.specs.List.{range_with_len}
use Rattle.std.proofs.lemmas.Bool.Decides.{nat_tests}
use Rattle.std.proofs.lemmas.List.{map-append}
use Rattle.std.proofs.lemmas.List.FromFn.{map-range_with_len_more}
use Rattle.rv_model.specs.accesses.Transfers.{Moved, Transfer}
use Rattle.rv_model.specs.accesses.VectorAccess.{moved_segment}
use Rattle.rv_model.specs.declared.instructions.operations.Direction.{Direction}
use Rattle.vector_memory.specs.MovedElements.{HasSeen, MovedElement, element_of, moved_element}
use Rattle.vector_memory.specs.SegmentRoom.{place_in}
use Rattle.vector_memory.specs.declared.segments.Segments.{Segments}
use Rattle.vector_memory.proofs.ShownElements.{room_for, seen_more, seen_none}
use Rattle.vector_memory.proofs.segments.Segments.show.Goals as goal

module _ (d : Direction) (s : Segments) (file : List ℕ) (index address : ℕ) where
  abbrev shown : ℕ → List MovedElement
  shown n = map (element_of d (place_in s) file) (moved_segment index address s.size n)

  abbrev field : ℕ → Transfer
  field f = record { index = index; field = f; size = s.size; kind = Moved ((address + f * s.size) % 2 ^ 64) }

  -- one more field
  field_more : (n : ℕ) → shown (n + 1) ≡ shown n ++ element_of d (place_in s) file (field n) ∷ []
  field_more n =
      ap (map (element_of d (place_in s) file)) (map-range_with_len_more field 0 n n (zero-add n))
      ∙ map-append (element_of d (place_in s) file) (map field (range_with_len 0 n)) (field n ∷ [])

pub loop-field-init : goal.loop-field-init
loop-field-init g c = seen_none g.V.Viewer.saw g.V.Viewer.has_room g.met.V.Viewer.fewer c.args.viewer.now 0 (g.met.V.Viewer.saw_none c.args.viewer.now)

pub see-requires-clause-size : goal.see-requires-clause-size
see-requires-clause-size g c = omega (arith, c.part-bytes.ensures.len, c.requires.room.size)

pub see-requires-clause-room : goal.see-requires-clause-room
see-requires-clause-room g c =
    c.loop-field.invariant.left 1
    (room_for g.V.Viewer.has_room g.met.V.Viewer.fewer c.args.viewer.now (1 + c.loop-field.field) c.args.self.now.fields (grind (arith, nat_tests, c.loop-field-test.true)) c.requires.viewer)

pub loop-field-preserved : goal.loop-field-preserved
loop-field-preserved g c =
    let a = c.args in
    let f : ℕ = c.loop-field.field in
    let size : c.place-at.result + a.self.now.size - c.place-at.result ≡ a.self.now.size = omega arith in
    let is : element_of a.direction (place_in a.self.now) a.file.now (field a.direction a.self.now a.file.now a.index a.address f) ≡ moved_element a.direction c.field_address.result c.part-bytes.result.now =
    rw (c.field_address.ensures, c.part-bytes.ensures.value, size, c.place-at.ensures.value) refl in
    seen_more g.V.Viewer.saw g.V.Viewer.has_room g.met.V.Viewer.fewer g.met.V.Viewer.saw_more _ _ _ f 1 (f + 1) _ _ _ (omega arith)
    (field_more a.direction a.self.now a.file.now a.index a.address f ∙ ap (λ (e : MovedElement). shown a.direction a.self.now a.file.now a.index a.address f ++ e ∷ []) is)
    c.loop-field.invariant (record { seen = c.see.ensures.seen; left = c.see.ensures.left })

pub returns : goal.returns
returns g c =
    let a = c.args in
    let last : c.loop-field.field ≡ a.self.now.fields = omega arith in
    subst (λ (n : ℕ). HasSeen g.V.Viewer.saw g.V.Viewer.has_room n a.viewer.now (shown a.direction a.self.now a.file.now a.index a.address n) c.loop-field.viewer) last c.loop-field.invariant
