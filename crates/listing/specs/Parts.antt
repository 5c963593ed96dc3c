-- A section cut into its parts, as the reader answers it.
use Rattle.std.specs.Prelude.{◌≡◌, suc, ◌+◌, Bool, true, List, length}
use Rattle.listing.specs.declared.section.Parts.{Parts}
use Rattle.listing.specs.Sets.{width, sets_of}
use Rattle.listing.specs.Listed.{Listed}
use Rattle.listing.specs.Numbers.{pairs}
use Rattle.listing.specs.Read.{table_of, count_bytes, target_bytes, passes}

-- The listed table that some parts hold.
abbrev pub listed_in : Parts → Listed
listed_in p = table_of p.states p.atoms p.fairness_sets p.body.now

-- All sets that they hold: the start set, the atoms, the fairness sets.
abbrev pub sets_in : Parts → List (List Bool)
sets_in p = sets_of p.states (width p.states) (suc (p.atoms + p.fairness_sets)) p.body.now

-- Parts that were read: they pass every check, count the sets of the table that they hold, and have the bytes of the counts and of
-- the targets, two by two.
pub record Formed (p : Parts) : Type 0 where
  pub passed : passes p.states p.atoms p.fairness_sets p.body.now ≡ true
  pub atoms : p.atoms ≡ length (listed_in p).atoms
  pub fairs : p.fairness_sets ≡ length (listed_in p).fairs
  pub counts : p.counts.now ≡ pairs (count_bytes p.states p.atoms p.fairness_sets p.body.now)
  pub targets : p.targets.now ≡ pairs (target_bytes p.states p.atoms p.fairness_sets p.body.now)
