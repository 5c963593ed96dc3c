-- What one turn of the loops of the reader keeps.
use Rattle.std.proofs.Common.{◌≡◌, ℕ, suc, ◌+◌, ◌-◌, ◌*◌, ◌/◌, ◌<◌, ◌≤◌, true, false, cond, List, [], ◌∷◌, ◌++◌, length, get_or, take, drop, Ok, Err, sym, ap, ◌∙◌, subst, ap₂, add-one, arith}
use Rattle.std.proofs.Math.Nat.{add-div_left, div-eq_of_lt}
use Rattle.std.proofs.lemmas.Bool.{cond-true, cond-false}
use Rattle.std.proofs.lemmas.List.{at_drop_more, drop-drop, drop-map, take-map, take_at, drop_at, length-append, length-take-le, length-drop}
use Rattle.fault.specs.declared.Cause.TheVariants.{StrayBit}
use Rattle.fault.specs.Faults.{fault}
use Rattle.stateset.specs.Sets.{clear}
use Rattle.fault.specs.declared.Fault.{Fault}
use Rattle.fault.specs.Checks.{Checked, then}
use Rattle.listing.specs.Numbers.{numbers}
use Rattle.listing.specs.Rows.{dealt, last_of, Rises}
use Rattle.listing.specs.Check.{sets_check, row_check, rows_check}
use Rattle.listing.proofs.Dealing.{length_numbers, rises_to}

-- A set of k bytes, and those behind it.
module _ (n k place : ℕ) (sets x rest : List ℕ) (some : 0 < k) (cut : sets ≡ x ++ rest) (size : length x ≡ k) where
  set_turn : sets_check n k (length sets / k) place sets ≡ cond (clear n x) (sets_check n k (length rest / k) (place + k) rest) (Err (fault StrayBit place))
  set_turn =
      let long : length sets ≡ k + length rest = ap length cut ∙ length-append x rest ∙ ap (λ l. l + length rest) size in
      let many : length sets / k ≡ suc (length rest / k) = ap (λ l. l / k) long ∙ add-div_left (length rest) some ∙ add-one (length rest / k) in
      let front : take k sets ≡ x = ap (take k) cut ∙ take_at x rest k size in
      let back : drop k sets ≡ rest = ap (drop k) cut ∙ drop_at x rest k size in
      ap (λ m. sets_check n k m place sets) many
      ∙ ap₂ (λ y ys. cond (clear n y) (sets_check n k (length rest / k) (place + k) ys) (Err (fault StrayBit place))) front back

  pub sets_on : clear n x ≡ true → sets_check n k (length sets / k) place sets ≡ sets_check n k (length rest / k) (place + k) rest
  sets_on ok = set_turn ∙ cond-true (clear n x) _ _ ok

  pub sets_stop : clear n x ≡ false → sets_check n k (length sets / k) place sets ≡ Err (fault StrayBit place)
  sets_stop bad = set_turn ∙ cond-false (clear n x) _ _ bad

pub sets_end : (n k place : ℕ) (sets : List ℕ) → length sets < k → sets_check n k (length sets / k) place sets ≡ Ok tt
sets_end n k place sets short = ap (λ m. sets_check n k m place sets) (div-eq_of_lt short)

-- The count of state i, and those behind it.
module _ (cs : List (List ℕ)) (i : ℕ) (h : i < length cs) (v : ℕ) (is : v ≡ get_or (get_or cs i []) 0 0 + get_or (get_or cs i []) 1 0 * 256) (first : ℕ) where
  -- Count i, and those behind it.
  next : numbers (drop i cs) ≡ v ∷ numbers (drop (i + 1) cs)
  next = at_drop_more numbers cs i [] h ∙ ap (λ c. c ∷ numbers (drop (i + 1) cs)) (sym is)

  rises_on : Rises first (numbers (drop i cs)) → (first < v) × Rises v (numbers (drop (i + 1) cs))
  rises_on r = subst (Rises first) next r

  pub last_on : last_of first (numbers (drop i cs)) ≡ last_of v (numbers (drop (i + 1) cs))
  last_on = ap (last_of first) next

  -- The counts go on rising, up to the last of them.
  pub rise_on : Rises first (numbers (drop i cs)) → (first < v) × Rises v (numbers (drop (i + 1) cs)) × (v ≤ last_of first (numbers (drop i cs)))
  rise_on r = let rest = rises_on r in (rest.0, rest.1, omega (arith, last_on, rises_to v (numbers (drop (i + 1) cs)) rest.1))

  module _ (n from : ℕ) (ts : List (List ℕ)) (low : first < v) (room : v ≤ length ts) where
    abbrev left : List ℕ
    left = drop first (numbers ts)

    abbrev row : List ℕ
    row = numbers (take (v - first) (drop first ts))

    abbrev rest : Checked
    rest = rows_check n (from + 2 * v) (dealt v (numbers (drop (i + 1) cs)) (drop v (numbers ts)))

    -- The rows that are left: that of state i, and those behind it.
    turn : rows_check n (from + 2 * first) (dealt first (numbers (drop i cs)) left) ≡ then (row_check n 0 (from + 2 * first) row) rest
    turn =
        let is_row : take (v - first) left ≡ row = ap (take (v - first)) (drop-map _ first ts) ∙ take-map _ (v - first) (drop first ts) in
        let many : length (take (v - first) left) ≡ v - first = length-take-le (v - first) left (omega (arith, length-drop first (numbers ts), length_numbers ts)) in
        let place : from + 2 * first + 2 * length (take (v - first) left) ≡ from + 2 * v = omega arith in
        let behind : drop (v - first) left ≡ drop v (numbers ts) = drop-drop (v - first) first (numbers ts) ∙ ap (λ k. drop k (numbers ts)) (omega arith) in
        ap (λ es. rows_check n (from + 2 * first) (dealt first es left)) next
        ∙ ap₂ then (ap (row_check n 0 (from + 2 * first)) is_row) (ap₂ (λ p us. rows_check n p (dealt v (numbers (drop (i + 1) cs)) us)) place behind)

    pub rows_on : row_check n 0 (from + 2 * first) row ≡ Ok tt → rows_check n (from + 2 * first) (dealt first (numbers (drop i cs)) left) ≡ rest
    rows_on ok = turn ∙ ap (λ r. then r rest) ok

    pub rows_stop : (e : Fault) → row_check n 0 (from + 2 * first) row ≡ Err e → rows_check n (from + 2 * first) (dealt first (numbers (drop i cs)) left) ≡ Err e
    rows_stop e bad = turn ∙ ap (λ r. then r rest) bad
