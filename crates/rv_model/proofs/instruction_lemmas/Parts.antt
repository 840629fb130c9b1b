-- Words as sums of parts without common bits
use Rattle.std.proofs.Common.{◌≡◌, refl, ap, ap₂, ◌∙◌, sym, ℕ, ◌+◌, ◌-◌, ◌*◌, ◌/◌, ◌%◌, ◌^◌, ◌<◌, List, [], ◌∷◌, Bool, true, nat_eq, ◌&&◌, min, max, arith, add-zero, zero-add}
use Rattle.std.specs.Int.Bits.{bit_and, and_comm, and_zero_r, or_disjoint, and_high, and_zero_l}
use Rattle.std.proofs.lemmas.Nat.Bits.{same_from_bits, bit_at_and, bit_at_or}
use Rattle.std.proofs.lemmas.Nat.{and_assoc, and_mask, pow_pos}
use Rattle.std.proofs.lemmas.Bool.{and_parts, eqb-true}
use Rattle.std.proofs.Math.Nat.{mul-div_cancel, mod-eq_of_lt}
use Rattle.rv_model.specs.instructions.FixedBits.{Part, part, sum_of, mask_of}
use Rattle.rv_model.specs.lending.ListedBits.{AllFit}

-- a mask of the bits of a part
abbrev pub part_mask : Part → ℕ
part_mask p = 2 ^ (p.len + p.low) - 2 ^ p.low

abbrev pub put : Part → ℕ
put p = p.value * 2 ^ p.low

-- no part has a bit in f
abbrev pub clear : ℕ → List Part → Bool
clear f [] = true
clear f (p ∷ ps) = nat_eq (bit_and f (part_mask p)) 0 && clear f ps

-- no two parts share a bit, and no part has a bit in m
abbrev pub share_none : ℕ → List Part → Bool
share_none m [] = true
share_none m (p ∷ ps) =
    nat_eq (bit_and (mask_of m ps) (part_mask p)) 0 && (nat_eq (bit_and (part_mask p) m) 0 && (clear (part_mask p) ps && share_none m ps))

-- each part's bits of the word are the part's value
abbrev pub Reads : ℕ → List Part → Type 0
Reads word [] = Unit {0}
Reads word (p ∷ ps) = (word / 2 ^ p.low % 2 ^ p.len ≡ p.value) × Reads word ps

min_max : (x y z : ℕ) → min x (max y z) ≡ max (min x y) (min x z)
min_max x y z = omega arith

none_shared : (n a b : ℕ) → bit_and a b ≡ 0 → bit_and (bit_and n a) (bit_and n b) ≡ 0
none_shared n a b h =
    and_assoc (bit_and n b) n a
    ∙ ap (bit_and n) (ap (bit_and a) (and_comm n b) ∙ sym (and_assoc n a b) ∙ ap (λ x. bit_and x n) h ∙ and_zero_l n)
    ∙ and_zero_r n

pub and_sum : (n a b : ℕ) → bit_and a b ≡ 0 → bit_and n (a + b) ≡ bit_and n a + bit_and n b
and_sum n a b h =
    ap (bit_and n) (sym (or_disjoint a b h))
    ∙ (search (bit_at_and, bit_at_or, min_max, same_from_bits))
    ∙ or_disjoint (bit_and n a) (bit_and n b) (none_shared n a b h)

sum_and : (a b n : ℕ) → bit_and a b ≡ 0 → bit_and (a + b) n ≡ bit_and a n + bit_and b n
sum_and a b n h = and_comm (a + b) n ∙ and_sum n a b h ∙ ap₂ (λ (x y : ℕ). x + y) (and_comm n a) (and_comm n b)

-- a number within f shares no bit with k if f doesn't
off : (y f k : ℕ) → bit_and y f ≡ y → bit_and f k ≡ 0 → bit_and y k ≡ 0
off y f k inside h = ap (λ z. bit_and z k) (sym inside) ∙ and_assoc k y f ∙ ap (bit_and y) h ∙ and_zero_r y

apart_from_places : (x y m f : ℕ) → bit_and x m ≡ x → bit_and y f ≡ y → bit_and m f ≡ 0 → bit_and x y ≡ 0
apart_from_places x y m f hx hy h =
    and_comm x y ∙ off y f x hy (and_comm f x ∙ off x m f hx h)

put_inside : (p : Part) → p.value < 2 ^ p.len → bit_and (put p) (part_mask p) ≡ put p
put_inside p room =
    and_high (put p) p.len p.low
    ∙ ap (λ x. x % 2 ^ p.len * 2 ^ p.low) (mul-div_cancel p.value (pow_pos p.low))
    ∙ ap (λ x. x * 2 ^ p.low) (mod-eq_of_lt room)

-- the facts that the test `share_none` implies
record Step (m : ℕ) (p : Part) (ps : List Part) : Type 0 where
  new : bit_and (mask_of m ps) (part_mask p) ≡ 0
  fixed : bit_and (part_mask p) m ≡ 0
  others : clear (part_mask p) ps ≡ true
  rest : share_none m ps ≡ true

step_of : (m : ℕ) (p : Part) (ps : List Part) → share_none m (p ∷ ps) ≡ true → Step m p ps
step_of m p ps h =
    let a : (nat_eq (bit_and (mask_of m ps) (part_mask p)) 0 ≡ true) × ((nat_eq (bit_and (part_mask p) m) 0 && (clear (part_mask p) ps && share_none m ps)) ≡ true) = and_parts (nat_eq (bit_and (mask_of m ps) (part_mask p)) 0) (nat_eq (bit_and (part_mask p) m) 0 && (clear (part_mask p) ps && share_none m ps)) h in
    let b : (nat_eq (bit_and (part_mask p) m) 0 ≡ true) × ((clear (part_mask p) ps && share_none m ps) ≡ true) = and_parts (nat_eq (bit_and (part_mask p) m) 0) (clear (part_mask p) ps && share_none m ps) a.1 in
    let c : (clear (part_mask p) ps ≡ true) × (share_none m ps ≡ true) = and_parts (clear (part_mask p) ps) (share_none m ps) b.1 in
    record { new = eqb-true (bit_and (mask_of m ps) (part_mask p)) 0 a.0; fixed = eqb-true (bit_and (part_mask p) m) 0 b.0; others = c.0; rest = c.1 }

pub inside_mask : (code m : ℕ) → bit_and code m ≡ code → (ps : List Part) → share_none m ps ≡ true → AllFit ps
    → bit_and (sum_of code ps) (mask_of m ps) ≡ sum_of code ps
inside_mask code m within [] h fit = within
inside_mask code m within (p ∷ ps) h fit =
    let s : Step m p ps = step_of m p ps h in
    let x : ℕ = sum_of code ps in
    let y : ℕ = put p in
    let ih : bit_and x (mask_of m ps) ≡ x = inside_mask code m within ps s.rest fit.1 in
    let iy : bit_and y (part_mask p) ≡ y = put_inside p fit.0 in
    let xy : bit_and x y ≡ 0 = apart_from_places x y (mask_of m ps) (part_mask p) ih iy s.new in
    and_sum (x + y) (mask_of m ps) (part_mask p) s.new
    ∙ ap₂ (λ (a b : ℕ). a + b)
    (sum_and x y (mask_of m ps) xy ∙ ap₂ (λ (a b : ℕ). a + b) ih (off y (part_mask p) (mask_of m ps) iy (and_comm (part_mask p) (mask_of m ps) ∙ s.new)) ∙ add-zero x)
    (sum_and x y (part_mask p) xy ∙ ap₂ (λ (a b : ℕ). a + b) (off x (mask_of m ps) (part_mask p) ih s.new) iy ∙ zero-add y)

-- a further part leaves the other bits unchanged
leaves : (code m : ℕ) → bit_and code m ≡ code → (p : Part) (ps : List Part) → Step m p ps → p.value < 2 ^ p.len
    → AllFit ps → (k : ℕ) → bit_and (part_mask p) k ≡ 0 → bit_and (sum_of code ps + put p) k ≡ bit_and (sum_of code ps) k
leaves code m within p ps s room fit k h =
    let iy : bit_and (put p) (part_mask p) ≡ put p = put_inside p room in
    sum_and (sum_of code ps) (put p) k (apart_from_places (sum_of code ps) (put p) (mask_of m ps) (part_mask p) (inside_mask code m within ps s.rest fit) iy s.new)
    ∙ ap (λ z. bit_and (sum_of code ps) k + z) (off (put p) (part_mask p) k iy h)
    ∙ add-zero (bit_and (sum_of code ps) k)

-- the fixed bits of a sum are the code
pub fixed_bits : (code m : ℕ) → bit_and code m ≡ code → (ps : List Part) → share_none m ps ≡ true → AllFit ps
    → bit_and (sum_of code ps) m ≡ code
fixed_bits code m within [] h fit = within
fixed_bits code m within (p ∷ ps) h fit =
    leaves code m within p ps (step_of m p ps h) fit.0 fit.1 m (step_of m p ps h).fixed ∙ fixed_bits code m within ps (step_of m p ps h).rest fit.1

times_back : (a k : ℕ) → a * 2 ^ k / 2 ^ k ≡ a
times_back a k = mul-div_cancel a (pow_pos k)

same_field : (w u low len : ℕ) → bit_and w (2 ^ (len + low) - 2 ^ low) ≡ bit_and u (2 ^ (len + low) - 2 ^ low)
    → w / 2 ^ low % 2 ^ len ≡ u / 2 ^ low % 2 ^ len
same_field w u low len e =
    sym (times_back (w / 2 ^ low % 2 ^ len) low)
    ∙ ap (λ x. x / 2 ^ low) (sym (and_high w len low) ∙ e ∙ and_high u len low)
    ∙ times_back (u / 2 ^ low % 2 ^ len) low

keep_reads : (w u : ℕ) (qs : List Part) → ((k : ℕ) → bit_and u k ≡ bit_and u k) → (f : ℕ)
    → ((k : ℕ) → bit_and f k ≡ 0 → bit_and w k ≡ bit_and u k) → clear f qs ≡ true → Reads u qs → Reads w qs
keep_reads w u [] r f same h all = tt
keep_reads w u (q ∷ qs) r f same h all =
    let a : (nat_eq (bit_and f (part_mask q)) 0 ≡ true) × (clear f qs ≡ true) = and_parts (nat_eq (bit_and f (part_mask q)) 0) (clear f qs) h in
    (same_field w u q.low q.len (same (part_mask q) (eqb-true (bit_and f (part_mask q)) 0 a.0)) ∙ all.0, keep_reads w u qs r f same a.1 all.1)

-- each part's bits of a sum are the part's value
pub reads : (code m : ℕ) → bit_and code m ≡ code → (ps : List Part) → share_none m ps ≡ true → clear m ps ≡ true
    → AllFit ps → Reads (sum_of code ps) ps
reads code m within [] h c fit = tt
reads code m within (p ∷ ps) h c fit =
    let s : Step m p ps = step_of m p ps h in
    let x : ℕ = sum_of code ps in
    let y : ℕ = put p in
    let ih : bit_and x (mask_of m ps) ≡ x = inside_mask code m within ps s.rest fit.1 in
    let xy : bit_and x y ≡ 0 = apart_from_places x y (mask_of m ps) (part_mask p) ih (put_inside p fit.0) s.new in
    let head : bit_and (x + y) (part_mask p) ≡ bit_and y (part_mask p) = sum_and x y (part_mask p) xy ∙ ap (λ z. z + bit_and y (part_mask p)) (off x (mask_of m ps) (part_mask p) ih s.new) ∙ zero-add (bit_and y (part_mask p)) in
    let cs : (nat_eq (bit_and m (part_mask p)) 0 ≡ true) × (clear m ps ≡ true) = and_parts (nat_eq (bit_and m (part_mask p)) 0) (clear m ps) c in (
      same_field (x + y) y p.low p.len head ∙ ap (λ z. z % 2 ^ p.len) (times_back p.value p.low) ∙ mod-eq_of_lt fit.0,
      keep_reads (x + y) x ps (λ k. refl) (part_mask p) (leaves code m within p ps s fit.0 fit.1) s.others (reads code m within ps s.rest cs.1 fit.1),
    )

-- the same parts, with their values in a word
abbrev pub of_word : ℕ → List Part → List Part
of_word word [] = []
of_word word (p ∷ ps) = part p.low p.len (word / 2 ^ p.low % 2 ^ p.len) ∷ of_word word ps

pub masked : (word m : ℕ) (ps : List Part) → share_none m ps ≡ true
    → sum_of (bit_and word m) (of_word word ps) ≡ bit_and word (mask_of m ps)
masked word m [] h = refl
masked word m (p ∷ ps) h =
    ap₂ (λ (a b : ℕ). a + b) (masked word m ps (step_of m p ps h).rest) (sym (and_high word p.len p.low))
    ∙ sym (and_sum word (mask_of m ps) (part_mask p) (step_of m p ps h).new)

-- a word is the sum of its parts
pub rebuilt : (word m : ℕ) (ps : List Part) → word < 2 ^ 32 → share_none m ps ≡ true → mask_of m ps ≡ 2 ^ 32 - 1
    → sum_of (bit_and word m) (of_word word ps) ≡ word
rebuilt word m ps small h all = masked word m ps h ∙ ap (bit_and word) all ∙ and_mask word 32 ∙ mod-eq_of_lt small
