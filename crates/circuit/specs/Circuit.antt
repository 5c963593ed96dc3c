-- A circuit of registers, inputs and gates, and how it lies in bytes.
use Rattle.std.specs.Prelude.{ℕ, ◌+◌, List, [], ◌∷◌, ◌++◌, length}

-- A gate has two operands, each the number of a value.
pub record Gate : Type 0 where
  pub left : ℕ
  pub right : ℕ

-- A count of inputs; the gates; for each register the number of the value that it takes next; and the numbers of the values
-- that tell the start set, each atom and each fairness set.
pub record Circuit : Type 0 where
  pub inputs : ℕ
  pub gates : List Gate
  pub next : List ℕ
  pub start : ℕ
  pub atoms : List ℕ
  pub fairs : List ℕ

abbrev pub registers : Circuit → ℕ
registers c = length c.next

-- How many values there are: false, the registers, the inputs, the gates.
abbrev pub count : Circuit → ℕ
count c = 1 + registers c + c.inputs + length c.gates

-- Gates as bytes, two each, and the gates again.
abbrev pub put_gates : List Gate → List ℕ
put_gates [] = []
put_gates (g ∷ gs) = g.left ∷ g.right ∷ put_gates gs

abbrev pub gates_of : List ℕ → List Gate
gates_of [] = []
gates_of (x ∷ []) = []
gates_of (x ∷ y ∷ bytes) = record { left = x; right = y } ∷ gates_of bytes

-- The layout, all single bytes: the counts of registers, inputs, gates, atoms and fairness sets; the gates; the value
-- numbers of the registers, the start set, the atoms and the fairness sets.
abbrev pub names : Circuit → List ℕ
names c = c.next ++ (c.start ∷ (c.atoms ++ c.fairs))

abbrev pub encode : Circuit → List ℕ
encode c = registers c ∷ c.inputs ∷ length c.gates ∷ length c.atoms ∷ length c.fairs ∷ (put_gates c.gates ++ names c)
