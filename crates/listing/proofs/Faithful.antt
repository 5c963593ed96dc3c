-- A lawful listed table is a table: its targets are exactly its moves, and all bounds are kept.
use Rattle.std.proofs.Common.{◌≡◌, ℕ, zero, suc, ◌+◌, ◌-◌, ◌^◌, ◌<◌, ◌≤◌, Bool, true, false, eqb, List, [], ◌∷◌, ◌++◌, length, get_or, sym, refl, ap, ◌∙◌, subst, inl, inr, ⊎_elim, arith}
use mathlib.Core.Bool.{false≢true}
use native.Mathlib.Nat.{pow-le-pow_right}
use Rattle.std.proofs.lemmas.Nat.{mul-le}
use Rattle.std.proofs.lemmas.List.{get_or_past}
use Rattle.std.proofs.lemmas.Bool.{cases_lt, or_cases, eqb-true}
use Rattle.stateset.specs.Sets.{none}
use Rattle.table.specs.Meaning.{Proper}
use Rattle.table.specs.Faithful.{Faithful, listed}
use Rattle.table.proofs.Targets.{listed_at}
use Rattle.listing.specs.declared.section.Parts.{Parts}
use Rattle.fault.proofs.Order.{was_ok}
use Rattle.listing.specs.Read.{passes}
use Rattle.listing.specs.Parts.{listed_in}
use Rattle.listing.proofs.Passed.{Passed, passed_of, lawful_of}
use Rattle.listing.specs.Listed.{Listed, Lawful, Sized, Climbs, Rising, meaning_of, targets_of}

-- A flag that is true lies within its list.
flag_inside : (flags : List Bool) (s : ℕ) → get_or flags s false ≡ true → s < length flags
flag_inside flags s e = ⊎_elim (λ l. l) (λ l. absurd (false≢true (sym (get_or_past flags s false l) ∙ e))) (cases_lt s (length flags))

flag_in : (n : ℕ) (sets : List (List Bool)) → Sized n sets → (j s : ℕ) → get_or (get_or sets j []) s false ≡ true → (j < length sets) × (s < n)
flag_in n [] z j s e = absurd (false≢true e)
flag_in n (x ∷ sets) (l, z) zero s e = (omega arith, subst (λ m. s < m) l (flag_inside x s e))
flag_in n (x ∷ sets) (l, z) (suc j) s e = let both = flag_in n sets z j s e in (omega (arith, both.0), both.1)

sized_front : (n : ℕ) (xs ys : List (List Bool)) → Sized n (xs ++ ys) → Sized n xs × Sized n ys
sized_front n [] ys z = (tt, z)
sized_front n (x ∷ xs) ys (l, z) = let both = sized_front n xs ys z in ((l, both.0), both.1)

some_flag : (flags : List Bool) → none flags ≡ false → (s : ℕ) × (get_or flags s false ≡ true)
some_flag [] e = absurd (false≢true (sym e))
some_flag (true ∷ flags) e = (0, refl)
some_flag (false ∷ flags) e = let (s, p) = some_flag flags e in (suc s, p)

-- Strictly rising states: each is a state, and there are no more of them than states.
climbs_below : (n low : ℕ) (row : List ℕ) → Climbs n low row → (t : ℕ) → listed t row ≡ true → t < n
climbs_below n low [] c t e = absurd (false≢true e)
climbs_below n low (x ∷ row) (l, lt, c) t e = elim (or_cases (eqb t x) _ e) [
  | inl q ↦ omega (arith, eqb-true t x q)
  | inr r ↦ climbs_below n (x + 1) row c t r
]

climbs_few : (n low : ℕ) (row : List ℕ) → Climbs n low row → length row ≤ n - low
climbs_few n low [] c = omega arith
climbs_few n low (x ∷ row) (l, lt, c) = let more = climbs_few n (x + 1) row c in omega arith

-- One row of a lawful table; outside of the states the row is empty.
row_of : (n : ℕ) (rows : List (List ℕ)) → Rising n rows → (s : ℕ) → s < length rows → (1 ≤ length (get_or rows s [])) × Climbs n 0 (get_or rows s [])
row_of n [] r s h = absurd (omega arith)
row_of n (row ∷ rows) (some, c, r) zero h = (some, c)
row_of n (row ∷ rows) (some, c, r) (suc s) h = row_of n rows r s (omega arith)

row_climbs : (n : ℕ) (rows : List (List ℕ)) → Rising n rows → (s : ℕ) → Climbs n 0 (get_or rows s [])
row_climbs n [] r s = tt
row_climbs n (row ∷ rows) (some, c, r) zero = c
row_climbs n (row ∷ rows) (some, c, r) (suc s) = row_climbs n rows r s

row_inside : (rows : List (List ℕ)) (s t : ℕ) → listed t (get_or rows s []) ≡ true → s < length rows
row_inside rows s t e = ⊎_elim (λ l. l) (λ l. absurd (false≢true (sym (ap (listed t) (get_or_past rows s [] l)) ∙ e))) (cases_lt s (length rows))

module _ (t : Listed) (w : Lawful t) where
  proper : Proper (meaning_of t)
  proper = record {
    some_state = w.some_state;
    few_states = w.few_states;
    few_atoms = w.few_atoms;
    some_fair = w.some_fair;
    few_fairs = w.few_fairs;
    some_start = some_flag t.starts w.some_start;
    onward = λ s lt.
        let row = row_of t.size t.rows w.rising s (omega (arith, w.row_each)) in
        (get_or (get_or t.rows s []) 0 0, listed_at (get_or t.rows s []) 0 (omega (arith, row.0)));
    inside = λ s u h. climbs_below t.size 0 (get_or t.rows s []) (row_climbs t.size t.rows w.rising s) u h;
    from_inside = λ s u h. omega (arith, row_inside t.rows s u h, w.row_each);
    start_inside = λ s h. omega (arith, flag_inside t.starts s h, w.starts_sized);
    atom_inside = flag_in t.size t.atoms (sized_front t.size t.atoms t.fairs w.sets_sized).0;
    fair_inside = flag_in t.size t.fairs (sized_front t.size t.atoms t.fairs w.sets_sized).1;
  }

  pub lawful_faithful : Faithful (meaning_of t) (targets_of t)
  lawful_faithful = record {
    proper = proper;
    exact = λ s u. refl;
    few = λ s.
        let row = climbs_few t.size 0 (get_or t.rows s []) (row_climbs t.size t.rows w.rising s) in
        let one : 1 ≤ 16 ^ length t.fairs = pow-le-pow_right {n = 16} (omega arith) {i = 0} {j = length t.fairs} (omega arith) in
        omega (arith, mul-le t.size 1 t.size (16 ^ length t.fairs) (omega arith) one);
  }

-- The table of parts is a table.
pub parts_passed : (p : Parts) → Passed p.states p.atoms p.fairness_sets p.body.now
unfolding passes
parts_passed p = passed_of p.states p.atoms p.fairness_sets p.body.now (was_ok _ p.passed)

pub parts_faithful : (p : Parts) → Faithful (meaning_of (listed_in p)) (targets_of (listed_in p))
parts_faithful p = lawful_faithful (listed_in p) (lawful_of p.states p.atoms p.fairness_sets p.body.now (parts_passed p))
