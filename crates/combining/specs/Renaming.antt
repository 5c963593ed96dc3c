-- A table with its atoms numbered anew.
use Rattle.std.specs.Prelude.{ℕ, ◌&&◌, List, length, nat_lt, slice_index}
use Rattle.table.specs.Meaning.{Meaning}

-- Atom j is the atom below whose number is entry j of the list, and holds nowhere if that is absent; the rest is as below.
abbrev pub renamed : List ℕ → Meaning → Meaning
renamed list M = record {
  states = M.states;
  starts = M.starts;
  atoms = length list;
  atom = λ j s. nat_lt j (length list) && M.atom (slice_index list j) s;
  fairs = M.fairs;
  fair = M.fair;
  moves = M.moves;
}
