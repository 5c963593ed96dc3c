-- The table that a circuit is.
use Rattle.std.specs.Prelude.{ℕ, ◌^◌, Bool, cond, ◌&&◌, List, [], ◌∷◌, map, length, nat_eq, nat_le, nat_lt, slice_index}
use Rattle.fault.specs.Checks.{between}
use Rattle.stateset.specs.Sets.{number}
use Rattle.table.specs.Meaning.{Meaning}
use Rattle.table.specs.Moves.{some_below}
use Rattle.table.specs.Counted.{counted}
use Rattle.circuit.specs.Circuit.{Circuit, registers}
use Rattle.circuit.specs.Values.{value, values}

-- A state for each content of the registers.
abbrev pub size : Circuit → ℕ
size c = 2 ^ registers c

-- Value v, read in a state with every input false.
abbrev pub holds : Circuit → ℕ → ℕ → Bool
holds c v s = nat_lt s (size c) && value (values c s 0) v

-- The state whose register q is the value named for it.
abbrev pub target : Circuit → ℕ → ℕ → ℕ
target c s k = number (map (value (values c s k)) c.next)

-- A state is in a set where the set's value is true; a set that is not there has value 0, which is false. A state has a
-- move for each content of the inputs.
abbrev pub meaning_of : Circuit → Meaning
meaning_of c = record {
  states = size c;
  starts = holds c c.start;
  atoms = length c.atoms;
  atom = λ j. holds c (slice_index c.atoms j);
  fairs = length c.fairs;
  fair = λ i. holds c (slice_index c.fairs i);
  moves = λ s t. nat_lt s (size c) && some_below (2 ^ c.inputs) (λ k. nat_eq t (target c s k));
}

abbrev pub targets_of : Circuit → ℕ → List ℕ
targets_of c s = cond (nat_lt s (size c)) (counted (2 ^ c.inputs) (target c s)) []

-- The bounds within which a circuit is a table.
unfoldable pub usable : Circuit → Bool
usable c =
    nat_le (registers c) 10
    && (nat_le c.inputs 4
    && (nat_le (length c.gates) 200
    && (nat_le (length c.atoms) 16
    && (between 1 4 (length c.fairs)
    && some_below (size c) (holds c c.start)))))

-- A circuit without registers is one state. With one gate, of false and false, value 1 is true: that is the start set and
-- the one fairness set.
abbrev pub one_circuit : Circuit
one_circuit = record { inputs = 0; gates = record { left = 0; right = 0 } ∷ []; next = []; start = 1; atoms = []; fairs = 1 ∷ [] }
