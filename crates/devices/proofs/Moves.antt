-- Bytes that a device returned or accepted, and the result of a write
use Rattle.std.proofs.Common.{◌≡◌, ℕ, List, subst, Result, Ok, Err}
use Rattle.std.specs.Result.{OnErr}

-- equal lists of bytes are interchangeable
pub moved : {D : Type 0} (R : D → List ℕ → D → Type 0) (a b : D) (xs ys : List ℕ) → xs ≡ ys → R a xs b → R a ys b
moved R a b xs ys e h = subst (λ (l : List ℕ). R a l b) e h

pub on_err : {T E P : Type 0} (r : Result T E) → P → OnErr r P
on_err (Ok x) h = tt
on_err (Err e) h = h
