-- What is made of tables of the same meaning means the same.
use Rattle.std.specs.Prelude.{ℕ, List}
use Rattle.table.specs.Meaning.{Meaning, Proper}
use Rattle.table.specs.Same.{SameMeaning}
use Rattle.combining.specs.Pair.{pair}
use Rattle.combining.specs.Renaming.{renamed}

-- A and C mean the same, B and D mean the same: then the pair of A and B means what the pair of C and D means.
abbrev pub PairsAgree : Type 0
PairsAgree = (A B C D : Meaning) → Proper A → Proper B → Proper C → Proper D → SameMeaning A C → SameMeaning B D → SameMeaning (pair A B) (pair C D)

-- M and N mean the same: then so do their renamings by one list, which may name atoms that they have not.
abbrev pub RenamingsAgree : Type 0
RenamingsAgree = (list : List ℕ) (M N : Meaning) → Proper M → Proper N → SameMeaning M N → SameMeaning (renamed list M) (renamed list N)
