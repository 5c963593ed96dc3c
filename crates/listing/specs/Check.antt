-- The checks of a listed table's parts.
use Rattle.std.specs.Prelude.{ℕ, zero, suc, ◌+◌, ◌*◌, cond, ◌&&◌, List, [], ◌∷◌, length, take, drop, Ok, Err, nat_le, nat_lt}
use Rattle.fault.specs.declared.Cause.TheVariants.{StrayBit, MoveCounts, Targets}
use Rattle.fault.specs.Faults.{fault}
use Rattle.fault.specs.Checks.{Checked, between, then}
use Rattle.stateset.specs.Sets.{clear}

-- The first of m sets of n states, each of k bytes, that has a bit at n or above.
abbrev pub sets_check : (n k m place : ℕ) → List ℕ → Checked
sets_check n k zero place bytes = Ok tt
sets_check n k (suc m) place bytes = cond (clear n (take k bytes)) (sets_check n k m (place + k) (drop k bytes)) (Err (fault StrayBit place))

-- The first count that is not above the one before it, or is above 16,384.
abbrev pub counts_check : (last place : ℕ) → List ℕ → Checked
counts_check last place [] = Ok tt
counts_check last place (c ∷ cs) = cond (between (last + 1) 16384 c) (counts_check c (place + 2) cs) (Err (fault MoveCounts place))

-- The first target of a row that is below `low`, which is one above its predecessor, or is no state.
abbrev pub row_check : (n low place : ℕ) → List ℕ → Checked
row_check n low place [] = Ok tt
row_check n low place (t ∷ ts) = cond (nat_le low t && nat_lt t n) (row_check n (t + 1) (place + 2) ts) (Err (fault Targets place))

-- The same of all rows, one after another.
abbrev pub rows_check : (n place : ℕ) → List (List ℕ) → Checked
rows_check n place [] = Ok tt
rows_check n place (row ∷ rows) = then (row_check n 0 place row) (rows_check n (place + 2 * length row) rows)
