-- A listed table, what it means, and how it lies in bytes.
use Rattle.std.specs.Prelude.{◌≡◌, ℕ, ◌+◌, ◌/◌, ◌%◌, ◌<◌, ◌≤◌, Bool, true, false, List, [], ◌∷◌, ◌++◌, length, slice_index_or}
use Rattle.stateset.specs.Sets.{none}
use Rattle.table.specs.Meaning.{Meaning}
use Rattle.table.specs.Faithful.{listed}
use Rattle.listing.specs.Numbers.{put16s}
use Rattle.listing.specs.Sets.{width, put_sets}
use Rattle.listing.specs.Rows.{counts, all_of}

-- A count of states; the start set, the atoms and the fairness sets, each a flag a state; and for each state the states
-- that it moves to.
pub record Listed : Type 0 where
  pub size : ℕ
  pub starts : List Bool
  pub atoms : List (List Bool)
  pub fairs : List (List Bool)
  pub rows : List (List ℕ)

-- What it means: its lists read by number.
abbrev pub meaning_of : Listed → Meaning
meaning_of t = record {
  states = t.size;
  starts = λ s. slice_index_or t.starts s false;
  atoms = length t.atoms;
  atom = λ j s. slice_index_or (slice_index_or t.atoms j []) s false;
  fairs = length t.fairs;
  fair = λ i s. slice_index_or (slice_index_or t.fairs i []) s false;
  moves = λ s u. listed u (slice_index_or t.rows s []);
}

abbrev pub targets_of : Listed → ℕ → List ℕ
targets_of t s = slice_index_or t.rows s []

-- One start state that moves to itself, without atoms, its one fairness set full.
abbrev pub one_listed : Listed
one_listed = record { size = 1; starts = true ∷ []; atoms = []; fairs = (true ∷ []) ∷ []; rows = (0 ∷ []) ∷ [] }

-- Each set has a flag a state.
abbrev pub Sized : ℕ → List (List Bool) → Type 0
Sized n [] = Unit {0}
Sized n (s ∷ ss) = (length s ≡ n) × Sized n ss

-- States that rise strictly from `low`.
abbrev pub Climbs : ℕ → ℕ → List ℕ → Type 0
Climbs n low [] = Unit {0}
Climbs n low (t ∷ ts) = (low ≤ t) × (t < n) × Climbs n (t + 1) ts

-- Each state has a move, and its targets are states that rise strictly.
abbrev pub Rising : ℕ → List (List ℕ) → Type 0
Rising n [] = Unit {0}
Rising n (row ∷ rows) = (1 ≤ length row) × Climbs n 0 row × Rising n rows

-- The listed tables that have a layout.
pub record Lawful (t : Listed) : Type 0 where
  pub some_state : 1 ≤ t.size
  pub few_states : t.size ≤ 1024
  pub few_atoms : length t.atoms ≤ 16
  pub some_fair : 1 ≤ length t.fairs
  pub few_fairs : length t.fairs ≤ 4
  pub starts_sized : length t.starts ≡ t.size
  pub sets_sized : Sized t.size (t.atoms ++ t.fairs)
  pub row_each : length t.rows ≡ t.size
  pub rising : Rising t.size t.rows
  pub few_moves : length (all_of t.rows) ≤ 16384
  pub some_start : none t.starts ≡ false

-- The layout: the counts of states (16 bits), atoms and fairness sets (a byte each); the start set, the atoms and the
-- fairness sets; for each state the count of moves up to and with it; the targets. Counts and targets have 16 bits.
abbrev pub body : Listed → List ℕ
body t = put_sets (width t.size) (t.starts ∷ (t.atoms ++ t.fairs)) ++ (put16s (counts 0 t.rows) ++ put16s (all_of t.rows))

abbrev pub encode : Listed → List ℕ
encode t = (t.size % 256) ∷ (t.size / 256) ∷ length t.atoms ∷ length t.fairs ∷ body t
