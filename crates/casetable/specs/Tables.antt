-- The table of a case file: its sections read one after another, and put together.
use Rattle.std.specs.Prelude.{ℕ, cond, List, length, Ok, Err, Result, ◌==◌}
use Rattle.fault.specs.declared.Cause.TheVariants.{PairLimits}
use Rattle.fault.specs.declared.Fault.{Fault}
use Rattle.fault.specs.Faults.{fault, moved_by}
use Rattle.fault.specs.Checks.{need, given, mapped, ◌>>=◌}
use Rattle.table.specs.Meaning.{Meaning}
use Rattle.listing.specs.Listed as listed
use Rattle.listing.specs.Read as listed_section
use Rattle.circuit.specs.Table as circuit
use Rattle.circuit.specs.Read as register_section
use Rattle.combining.specs.Pair.{fits, pair, pair_targets}
use Rattle.combining.specs.Renaming.{renamed}
use Rattle.wiring.specs.Lists.{list_of, entries_check}
use Rattle.casefile.specs.declared.Kind.{Kind}
use Rattle.casefile.specs.declared.Kind.TheVariants.{ListedTable, RegisterTable}
use Rattle.casefile.specs.Contents.{Part, Laid, contents_of}

-- A table as it is told: what it means, and the targets of each state in the order of its moves.
pub record Told : Type 0 where
  pub meaning : Meaning
  pub targets : ℕ → List ℕ

abbrev pub told : Meaning → (ℕ → List ℕ) → Told
told M targets = record { meaning = M; targets = targets }

-- A reading of a part that begins at `from`, with its fault told of the whole.
abbrev pub moved : {A : Type 0} → ℕ → Result A Fault → Result A Fault
moved from (Ok x) = Ok x
moved from (Err e) = Err (moved_by from e)

-- The table that a section lays out.
abbrev pub section_of : Kind → List ℕ → Result Told Fault
section_of ListedTable bytes = mapped (λ t. told (listed.meaning_of t) (listed.targets_of t)) (listed_section.read_of bytes)
section_of RegisterTable bytes = mapped (λ c. told (circuit.meaning_of c) (circuit.targets_of c)) (register_section.read_of bytes)

abbrev pub table_at : Kind → Part → Result Told Fault
table_at k p = moved p.at (section_of k p.bytes)

-- Two tables side by side, within the limits of a table.
abbrev pub side_by_side : Told → Told → Result Told Fault
side_by_side A B = given (need (fits A.meaning B.meaning) (fault PairLimits 0))
    (told (pair A.meaning B.meaning) (pair_targets A.meaning B.meaning A.targets B.targets))

-- The first table with the second, if there is one: a second section of length 0 is absent.
abbrev pub with_second : Laid → Told → Result Told Fault
with_second l A = cond (length l.second.bytes == 0) (Ok A) (table_at l.second_kind l.second >>= side_by_side A)

-- The table behind a wiring list, each entry of which names one of its atoms.
abbrev pub behind : Part → Told → Result Told Fault
behind p t = moved p.at (list_of p.bytes >>= λ list.
    given (entries_check t.meaning.atoms list) (told (renamed list t.meaning) t.targets))

-- The table that the sections of a file lay out; and that of the file.
abbrev pub table_of : Laid → Result Told Fault
table_of l = do
  first ← table_at l.first_kind l.first
  table ← with_second l first
  behind l.wiring table

abbrev pub table_in : List ℕ → Result Told Fault
table_in file = contents_of file >>= table_of
