-- A pair of tables is a table.
use Rattle.std.proofs.Common.{◌≡◌, ℕ, ◌+◌, ◌-◌, ◌*◌, ◌/◌, ◌%◌, ◌^◌, ◌<◌, ◌≤◌, Bool, true, false, cond, ◌&&◌, ltb, leb, List, length, get_or, sym, refl, ap, ◌∙◌, ap₂, ⊎_elim, mul_comm, mul-le-mul, mul-zero, arith}
use native.Mathlib.Nat.{mul-mul-mul_comm, pow-le-pow_right}
use Rattle.std.proofs.lemmas.Nat.{div-mul-add, mod-mul-add, div-add-mod', mod_below, div_below, mul-le, mul-add-lt, pow-add}
use Rattle.std.proofs.lemmas.List.{get_or_past}
use Rattle.std.proofs.lemmas.Bool.{and_parts, and_from, leb-true, ltb-true, ltb-false, cases_lt}
use Rattle.table.specs.Meaning.{Meaning, Proper}
use Rattle.table.specs.Faithful.{Faithful, listed}
use Rattle.table.specs.OneState.{one_state, one_state_targets}
use Rattle.table.proofs.Targets.{place_of, listed_at, target_inside}
use Rattle.table.proofs.Counted.{counted_length, counted_at, counted_past}
use Rattle.table.proofs.OneState.{one_faithful}
use Rattle.combining.specs.Pair.{fits, side_by_side, both, pair, crossed, pair_targets}
use Rattle.combining.specs.Crossing.{Crossing}

-- Two tests are the same where each follows from the other.
same_test : (a b : Bool) → (a ≡ true → b ≡ true) → (b ≡ true → a ≡ true) → a ≡ b
same_test true b to from = sym (to refl)
same_test false true to from = from refl
same_test false false to from = refl

-- A product that something is below has no factor 0.
some_factor : (k m n : ℕ) → k < m * n → 0 < n
some_factor k m n h = ⊎_elim (λ p. p) (λ z. let e : n ≡ 0 = omega arith in absurd (omega (arith, ap (λ x. m * x) e, mul-zero m))) (cases_lt 0 n)

-- The targets of both: how many there are, where each leads, and what they reach.
pub crossed_length : (n : ℕ) (xs ys : List ℕ) → length (crossed n xs ys) ≡ length xs * length ys
crossed_length n xs ys = counted_length _ _

pub crossed_at : (n : ℕ) (xs ys : List ℕ) (k : ℕ) → k < length xs * length ys → get_or (crossed n xs ys) k 0 ≡ get_or xs (k / length ys) 0 * n + get_or ys (k % length ys) 0
crossed_at n xs ys k h = counted_at _ _ k h

pub crossing : (n : ℕ) (f g : ℕ → List ℕ) (s r : ℕ) → r ≡ length (f (s / n)) * length (g (s % n)) → Crossing n f g s r
crossing n f g s r e = record {
  product = e;
  count = e ∙ sym (crossed_length n (f (s / n)) (g (s % n)));
  target = λ k h. crossed_at n (f (s / n)) (g (s % n)) k (omega arith);
  past = λ k h. counted_past _ _ k (omega arith);
}

module _ (n t : ℕ) (xs ys : List ℕ) (small : (k : ℕ) → k < length ys → get_or ys k 0 < n) where
  crossed_reached : listed t (crossed n xs ys) ≡ true → (listed (t / n) xs && listed (t % n) ys) ≡ true
  crossed_reached h =
      let (k, l, e) = place_of t (crossed n xs ys) h in
      let m : ℕ = length ys in
      let lt : k < length xs * m = omega (arith, crossed_length n xs ys) in
      let some : 0 < m = some_factor k (length xs) m lt in
      let x : ℕ = get_or xs (k / m) 0 in
      let y : ℕ = get_or ys (k % m) 0 in
      let below : y < n = small (k % m) (mod_below k m some) in
      let to : t ≡ x * n + y = sym e ∙ crossed_at n xs ys k lt in
      and_from (listed (t / n) xs) (listed (t % n) ys)
      (ap (λ z. listed z xs) (ap (λ z. z / n) to ∙ div-mul-add x n y below) ∙ listed_at xs (k / m) (div_below k m (length xs) some lt))
      (ap (λ z. listed z ys) (ap (λ z. z % n) to ∙ mod-mul-add x n y below) ∙ listed_at ys (k % m) (mod_below k m some))

  crossed_reaches : (listed (t / n) xs && listed (t % n) ys) ≡ true → listed t (crossed n xs ys) ≡ true
  crossed_reaches h =
      let p = and_parts (listed (t / n) xs) (listed (t % n) ys) h in
      let (i, li, ei) = place_of (t / n) xs p.0 in
      let (j, lj, ej) = place_of (t % n) ys p.1 in
      let m : ℕ = length ys in
      let k : ℕ = i * m + j in
      let lt : k < length xs * m = omega (arith, mul-add-lt i m j (length xs) li lj, mul_comm m (length xs)) in
      let x : get_or xs (k / m) 0 ≡ t / n = ap (λ z. get_or xs z 0) (div-mul-add i m j lj) ∙ ei in
      let y : get_or ys (k % m) 0 ≡ t % n = ap (λ z. get_or ys z 0) (mod-mul-add i m j lj) ∙ ej in
      let to : get_or (crossed n xs ys) k 0 ≡ t = crossed_at n xs ys k lt ∙ ap₂ (λ u v. u * n + v) x y ∙ div-add-mod' t n in
      ap (λ z. listed z (crossed n xs ys)) (sym to) ∙ listed_at (crossed n xs ys) k (omega (arith, crossed_length n xs ys))

  pub crossed_listed : listed t (crossed n xs ys) ≡ (listed (t / n) xs && listed (t % n) ys)
  crossed_listed = same_test _ _ crossed_reached crossed_reaches

-- The limits, one by one.
pub fits_parts : (A B : Meaning) → fits A B ≡ true → (A.states * B.states ≤ 1024) × (A.atoms + B.atoms ≤ 16) × (A.fairs + B.fairs ≤ 4)
fits_parts A B e =
    let p = and_parts (leb (A.states * B.states) 1024) _ e in
    let q = and_parts (leb (A.atoms + B.atoms) 16) _ p.1 in
    (leb-true _ _ p.0, leb-true _ _ q.0, leb-true _ _ q.1)

-- The sets of both are sets of their states, and as many as in the two tables.
module _ (A B : Meaning) (c d : ℕ) (f g : ℕ → ℕ → Bool) (g_inside : (j s : ℕ) → g j s ≡ true → (j < d) × (s < B.states)) where
  side_inside : (j s : ℕ) → side_by_side A B c f g j s ≡ true → (j < c + d) × (s < A.states * B.states)
  side_inside j s h =
      let p = and_parts (ltb s (A.states * B.states)) _ h in
      (by (ltb j c) refl p.1, ltb-true _ _ p.0)
    where
      by : (b : Bool) → ltb j c ≡ b → cond b (f j (s / B.states)) (g (j - c) (s % B.states)) ≡ true → j < c + d
      by true e h = omega (arith, ltb-true j c e)
      by false e h = omega (arith, ltb-false j c e, (g_inside (j - c) (s % B.states) h).0)

module _ (A B : Meaning) (f g : ℕ → List ℕ) (fA : Faithful A f) (fB : Faithful B g) where
  first_below : (s : ℕ) → s < A.states * B.states → s / B.states < A.states
  first_below s h = div_below s B.states A.states fB.proper.some_state h

  second_below : (s : ℕ) → s % B.states < B.states
  second_below s = mod_below s B.states fB.proper.some_state

  -- State s / n of A with state s mod n of B is state s.
  from_parts : (s : ℕ) → s / B.states < A.states → s < A.states * B.states
  from_parts s h =
      omega (arith, div-add-mod' s B.states, mul-add-lt (s / B.states) B.states (s % B.states) A.states h (second_below s), mul_comm A.states B.states)

  both_exact : (s t : ℕ) → listed t (crossed B.states (f (s / B.states)) (g (s % B.states))) ≡ (both A B).moves s t
  both_exact s t =
      crossed_listed B.states t (f (s / B.states)) (g (s % B.states)) (target_inside B g fB (s % B.states))
      ∙ ap₂ (λ x y. x && y) (fA.exact (s / B.states) (t / B.states)) (fB.exact (s % B.states) (t % B.states))

  both_few : (s : ℕ) → length (crossed B.states (f (s / B.states)) (g (s % B.states))) ≤ A.states * B.states * 16 ^ (A.fairs + B.fairs)
  both_few s =
      omega (
        arith,
        crossed_length B.states (f (s / B.states)) (g (s % B.states)),
        mul-le-mul (fA.few (s / B.states)) (fB.few (s % B.states)),
        mul-mul-mul_comm A.states (16 ^ A.fairs) B.states (16 ^ B.fairs),
        ap (λ z. A.states * B.states * z) (pow-add 16 A.fairs B.fairs),
      )

  both_start : (s : ℕ) × ((both A B).starts s ≡ true)
  both_start =
      let (x, a) = fA.proper.some_start in
      let (y, b) = fB.proper.some_start in
      let below : y < B.states = fB.proper.start_inside y b in
      (x * B.states + y, and_from _ _ (ap A.starts (div-mul-add x B.states y below) ∙ a) (ap B.starts (mod-mul-add x B.states y below) ∙ b))

  both_onward : (s : ℕ) → s < A.states * B.states → (t : ℕ) × ((both A B).moves s t ≡ true)
  both_onward s h =
      let n : ℕ = B.states in
      let (x, a) = fA.proper.onward (s / n) (first_below s h) in
      let (y, b) = fB.proper.onward (s % n) (second_below s) in
      let below : y < n = fB.proper.inside (s % n) y b in
      (x * n + y, and_from _ _ (ap (A.moves (s / n)) (div-mul-add x n y below) ∙ a) (ap (B.moves (s % n)) (mod-mul-add x n y below) ∙ b))

  both_proper : fits A B ≡ true → Proper (both A B)
  both_proper e =
      let limits = fits_parts A B e in
      record {
        some_state = mul-le 1 1 A.states B.states fA.proper.some_state fB.proper.some_state;
        few_states = limits.0;
        few_atoms = limits.1;
        some_fair = omega (arith, fA.proper.some_fair);
        few_fairs = limits.2;
        some_start = both_start;
        onward = both_onward;
        inside = λ s t h. from_parts t (fA.proper.inside _ _ (and_parts (A.moves (s / B.states) (t / B.states)) _ h).0);
        from_inside = λ s t h. from_parts s (fA.proper.from_inside _ _ (and_parts (A.moves (s / B.states) (t / B.states)) _ h).0);
        start_inside = λ s h. from_parts s (fA.proper.start_inside _ (and_parts (A.starts (s / B.states)) _ h).0);
        atom_inside = side_inside A B A.atoms B.atoms A.atom B.atom fB.proper.atom_inside;
        fair_inside = side_inside A B A.fairs B.fairs A.fair B.fair fB.proper.fair_inside;
      }

  pair_by : (b : Bool) → fits A B ≡ b → Faithful (cond b (both A B) one_state) (λ s. cond b (crossed B.states (f (s / B.states)) (g (s % B.states))) (one_state_targets s))
  pair_by true e = record { proper = both_proper e; exact = both_exact; few = both_few }
  pair_by false e = one_faithful

-- A table's moves are few enough to multiply their counts, and its states to number pairs of them.
pub few_moves : (M : Meaning) (f : ℕ → List ℕ) → Faithful M f → (s : ℕ) → length (f s) ≤ 67108864
few_moves M f h s =
    omega (arith, h.few s, mul-le M.states (16 ^ M.fairs) 1024 (16 ^ 4) h.proper.few_states (pow-le-pow_right {n = 16} (omega arith) {i = M.fairs} {j = 4} h.proper.few_fairs))

pub small_target : (M : Meaning) (f : ℕ → List ℕ) → Faithful M f → (s k : ℕ) → get_or (f s) k 0 < 1024
small_target M f h s k =
    ⊎_elim (λ l. omega (arith, target_inside M f h s k l, h.proper.few_states)) (λ l. omega (arith, get_or_past (f s) k 0 l)) (cases_lt k (length (f s)))

pub pair_faithful : (A B : Meaning) (f g : ℕ → List ℕ) → Faithful A f → Faithful B g → Faithful (pair A B) (pair_targets A B f g)
pair_faithful A B f g fA fB = pair_by A B f g fA fB (fits A B) refl
