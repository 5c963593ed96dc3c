-- The values of a circuit.
use Rattle.std.specs.Prelude.{ℕ, Bool, false, not, ◌&&◌, List, [], ◌∷◌, ◌++◌, slice_index_or}
use Rattle.stateset.specs.Sets.{bits}
use Rattle.circuit.specs.Circuit.{Gate, Circuit, registers}

-- Value v of a row of values; one that is not there is false.
abbrev pub value : List Bool → ℕ → Bool
value vs v = slice_index_or vs v false

-- 1 minus the product of two values.
abbrev pub nand : Bool → Bool → Bool
nand x y = not (x && y)

-- The values so far, and then that of each gate, whose operands are among those before it.
abbrev pub with_gates : List Bool → List Gate → List Bool
with_gates vs [] = vs
with_gates vs (g ∷ gs) = with_gates (vs ++ nand (value vs g.left) (value vs g.right) ∷ []) gs

-- All values in state s with the inputs of move k: false; register q, which is bit q of s; input p, which is bit p of k; the
-- gates.
abbrev pub values : Circuit → ℕ → ℕ → List Bool
values c s k = with_gates (false ∷ (bits (registers c) s ++ bits c.inputs k)) c.gates
