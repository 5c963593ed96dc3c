-- Rows of sets, each of k bytes.
use Rattle.std.specs.Prelude.{ℕ, zero, suc, ◌+◌, ◌/◌, Bool, List, [], ◌∷◌, ◌++◌, take, drop}
use Rattle.stateset.specs.Sets.{number, set_of}

-- How many bytes a set of n states takes.
abbrev pub width : ℕ → ℕ
width n = (n + 7) / 8

-- A set as k bytes, eight states a byte.
abbrev pub pack : ℕ → List Bool → List ℕ
pack zero states = []
pack (suc k) states = number (take 8 states) ∷ pack k (drop 8 states)

-- Sets one after another; the first m sets of n states in a row of bytes, and what follows them.
abbrev pub put_sets : ℕ → List (List Bool) → List ℕ
put_sets k [] = []
put_sets k (s ∷ ss) = pack k s ++ put_sets k ss

abbrev pub sets_of : (n k m : ℕ) → List ℕ → List (List Bool)
sets_of n k zero bytes = []
sets_of n k (suc m) bytes = set_of n (take k bytes) ∷ sets_of n k m (drop k bytes)

abbrev pub past : (k m : ℕ) → List ℕ → List ℕ
past k zero bytes = bytes
past k (suc m) bytes = past k m (drop k bytes)
