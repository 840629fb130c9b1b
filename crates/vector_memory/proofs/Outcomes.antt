-- Properties of results known to be `Ok` or `Err`, and of a list that repeats one number.
use Rattle.std.proofs.Common.{◌≡◌, ℕ, zero, suc, ◌≤◌, ◌∷◌, take, refl, ap, arith}
use Rattle.std.specs.Prelude.{Result, Ok, Err, IsOk, OnErr, OnOk, false, is_ok, replicate}

-- the property of an `Ok` result
pub when_ok : {T E : Type 0} {P : Type 0} (r : Result T E) → IsOk r → OnOk r P → P
when_ok (Ok x) well p = p
when_ok (Err y) well p = absurd (cc)

-- the first n of m equal numbers
pub take-replicate : (x n m : ℕ) → n ≤ m → take n (replicate m x) ≡ replicate n x
take-replicate x zero m h = refl
take-replicate x (suc n) zero h = absurd (omega (arith, h))
take-replicate x (suc n) (suc m) h = ap (λ xs. x ∷ xs) (take-replicate x n m (omega (arith, h)))

-- a consequence of the property of an `Err` result
pub on_err : {T E : Type 0} {P Q : Type 0} (r : Result T E) → (P → Q) → OnErr r P → OnErr r Q
on_err (Ok x) f p = p
on_err (Err y) f p = f p

-- a consequence of the property of an `Ok` result
pub on_ok : {T E : Type 0} {P Q : Type 0} (r : Result T E) → (P → Q) → OnOk r P → OnOk r Q
on_ok (Ok x) f p = f p
on_ok (Err y) f p = p

-- the property of an `Err` result
pub when_err : {T E : Type 0} {P : Type 0} (r : Result T E) → is_ok r ≡ false → OnErr r P → P
when_err (Ok x) none p = absurd (cc)
when_err (Err y) none p = p
