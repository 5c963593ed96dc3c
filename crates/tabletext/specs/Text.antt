-- A table as text.
use Rattle.std.specs.Prelude.{ℕ, zero, suc, Bool, cond, List, [], ◌++◌, length, codes, decimal, slice_index}
use Rattle.table.specs.Meaning.{Meaning}
use Rattle.tabletext.specs.declared.Set.{Set}
use Rattle.tabletext.specs.declared.Set.TheVariants.{Start, Atom, Fairness}

-- What f gives for each number below n, one after another.
unfoldable pub each_below : ℕ → (ℕ → List ℕ) → List ℕ
each_below zero f = []
each_below (suc n) f = each_below n f ++ f n

abbrev pub newline : List ℕ
newline = codes "\n"

-- A number in a row of numbers.
abbrev pub spaced : ℕ → List ℕ
spaced x = codes " " ++ decimal x

-- Which states a set has.
abbrev pub member : Meaning → Set → ℕ → Bool
member M Start s = M.starts s
member M (Atom j) s = M.atom j s
member M (Fairness i) s = M.fair i s

-- The states of a set, rising.
abbrev pub member_text : Meaning → Set → ℕ → List ℕ
member_text M X s = cond (member M X s) (spaced s) []

abbrev pub members_text : Meaning → Set → List ℕ
members_text M X = each_below M.states (member_text M X)

-- How the line of a set begins.
abbrev pub name_text : Set → List ℕ
name_text Start = codes "start"
name_text (Atom j) = codes "atom " ++ (decimal j ++ codes ":")
name_text (Fairness i) = codes "fairness " ++ (decimal i ++ codes ":")

abbrev pub set_line : Meaning → Set → List ℕ
set_line M X = name_text X ++ (members_text M X ++ newline)

-- The targets of a state, in the order of its moves; the line of the state.
abbrev pub targets_text : List ℕ → List ℕ
targets_text ts = each_below (length ts) (λ k. spaced (slice_index ts k))

abbrev pub row_line : (ℕ → List ℕ) → ℕ → List ℕ
row_line targets s = (decimal s ++ codes " ->") ++ (targets_text (targets s) ++ newline)

-- The three counts, a line each.
abbrev pub counts_text : Meaning → List ℕ
counts_text M = codes "states " ++ (decimal M.states ++ (codes "\natoms " ++ (decimal M.atoms ++ (codes "\nfairness sets " ++ (decimal M.fairs ++ newline)))))

-- A line an atom, a line a fairness set, a line a state.
abbrev pub atoms_text : Meaning → List ℕ
atoms_text M = each_below M.atoms (λ j. set_line M (Atom j))

abbrev pub fairness_text : Meaning → List ℕ
fairness_text M = each_below M.fairs (λ i. set_line M (Fairness i))

abbrev pub rows_text : Meaning → (ℕ → List ℕ) → List ℕ
rows_text M targets = each_below M.states (row_line targets)

-- The counts, the start states, the atoms, the fairness sets, and the moves.
abbrev pub table_text : Meaning → (ℕ → List ℕ) → List ℕ
table_text M targets = counts_text M ++ (set_line M Start ++ (atoms_text M ++ (fairness_text M ++ rows_text M targets)))
