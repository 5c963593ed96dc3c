-- What the functions of the reader tell each other; no promise of the crate speaks of it.
use Rattle.std.specs.Prelude.{ℕ, suc, ◌+◌, ◌*◌, ◌≤◌, List, [], ◌∷◌, length, ◌==◌}
use Rattle.fault.specs.declared.Cause.TheVariants.{Targets}
use Rattle.fault.specs.Faults.{fault}
use Rattle.fault.specs.Checks.{Checked, need}
use Rattle.listing.specs.Numbers.{u16s}
use Rattle.listing.specs.Sets.{width}
use Rattle.listing.specs.Rows.{dealt, last_of}
use Rattle.listing.specs.Check.{counts_check, rows_check}

-- The checks of the moves, of counts that are numbers already.
abbrev pub number_checks : (n place : ℕ) (counts targets : List ℕ) → List Checked
number_checks n place counts targets =
    counts_check 0 place counts
    ∷ need (length targets == 2 * last_of 0 counts) (fault Targets 0)
    ∷ rows_check n (place + 2 * n) (dealt 0 counts (u16s targets))
    ∷ []

-- Counts within their ranges, and room for what they announce.
pub record Sizes (n a b long : ℕ) : Type 0 where
  pub some_state : 1 ≤ n
  pub few_states : n ≤ 1024
  pub few_atoms : a ≤ 16
  pub some_fair : 1 ≤ b
  pub few_fairs : b ≤ 4
  pub room : suc (a + b) * width n + 2 * n ≤ long
