-- The listed table that a section lays out, or the first fault of the section.
use Rattle.std.specs.Prelude.{ℕ, suc, ◌+◌, ◌*◌, Bool, cond, not, List, [], ◌∷◌, ◌++◌, length, take, drop, Err, Result, ◌==◌, nat_le, nat_lt, slice_index}
use Rattle.fault.specs.declared.Cause.TheVariants.{TableCounts, Targets, NoStart}
use Rattle.fault.specs.declared.Fault.{Fault}
use Rattle.fault.specs.Faults.{fault}
use Rattle.fault.specs.Checks.{Checked, between, need, first_of, is_ok, given}
use Rattle.stateset.specs.Sets.{none, set_of}
use Rattle.listing.specs.Numbers.{u16s}
use Rattle.listing.specs.Sets.{width, sets_of, past}
use Rattle.listing.specs.Rows.{dealt, last_of}
use Rattle.listing.specs.Listed.{Listed}
use Rattle.listing.specs.Check.{sets_check, counts_check, rows_check}

-- With n states, a atoms and b fairness sets, what follows the four leading bytes is: the start set, the other sets, ..
abbrev pub others : (n a b : ℕ) → List ℕ → List (List Bool)
others n a b rest = sets_of n (width n) (a + b) (drop (width n) rest)

-- .. the counts of moves, 16 bits a state, ..
abbrev pub count_bytes : (n a b : ℕ) → List ℕ → List ℕ
count_bytes n a b rest = take (2 * n) (past (width n) (suc (a + b)) rest)

-- .. and the targets, 16 bits each.
abbrev pub target_bytes : (n a b : ℕ) → List ℕ → List ℕ
target_bytes n a b rest = drop (2 * n) (past (width n) (suc (a + b)) rest)

abbrev pub table_of : (n a b : ℕ) → List ℕ → Listed
table_of n a b rest = record {
  size = n;
  starts = set_of n (take (width n) rest);
  atoms = take a (others n a b rest);
  fairs = drop a (others n a b rest);
  rows = dealt 0 (u16s (count_bytes n a b rest)) (u16s (target_bytes n a b rest));
}

-- The counts are in their ranges, and the section is long enough for what they announce.
abbrev pub size_checks : (n a b long : ℕ) → List Checked
size_checks n a b long =
    need (between 1 1024 n) (fault TableCounts 0)
    ∷ need (nat_le a 16) (fault TableCounts 2)
    ∷ need (between 1 4 b) (fault TableCounts 3)
    ∷ need (nat_le (suc (a + b) * width n + 2 * n) long) (fault TableCounts 0)
    ∷ []

-- The counts of moves rise, the targets fill the section, and each row of targets rises.
abbrev pub move_checks : (n place : ℕ) (counts targets : List ℕ) → List Checked
move_checks n place counts targets =
    counts_check 0 place (u16s counts)
    ∷ need (length targets == 2 * last_of 0 (u16s counts)) (fault Targets 0)
    ∷ rows_check n (place + 2 * n) (dealt 0 (u16s counts) (u16s targets))
    ∷ []

-- All checks in their order. Places are offsets in the section: the sets begin at 4.
abbrev pub checks : (n a b : ℕ) → List ℕ → List Checked
checks n a b rest =
    size_checks n a b (length rest)
    ++ (sets_check n (width n) (suc (a + b)) 4 rest
    ∷ (move_checks n (4 + suc (a + b) * width n) (count_bytes n a b rest) (target_bytes n a b rest)
    ++ (need (not (none (set_of n (take (width n) rest)))) (fault NoStart 4)
    ∷ [])))

abbrev pub body_check : (n a b : ℕ) → List ℕ → Checked
body_check n a b rest = first_of (checks n a b rest)

unfoldable pub passes : (n a b : ℕ) → List ℕ → Bool
passes n a b rest = is_ok (body_check n a b rest)

-- The table, where every check passes.
abbrev pub read_body : (n a b : ℕ) → List ℕ → Result Listed Fault
read_body n a b rest = given (body_check n a b rest) (table_of n a b rest)

-- The four leading bytes give the counts; a section that is shorter has that fault before all others.
abbrev pub read_of : List ℕ → Result Listed Fault
read_of section = cond (nat_lt (length section) 4) (Err (fault TableCounts 0))
    (read_body (slice_index section 0 + slice_index section 1 * 256) (slice_index section 2) (slice_index section 3) (drop 4 section))
