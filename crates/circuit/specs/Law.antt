-- What holds of every circuit, in the words of its parts; and that reading and laying out are inverse.
use Rattle.std.specs.Prelude.{◌≡◌, ℕ, ◌+◌, ◌-◌, ◌*◌, ◌/◌, ◌%◌, ◌^◌, ◌<◌, ◌≤◌, Bool, true, false, cond, List, [], ◌∷◌, length, All, Ok, ◌==◌, slice_index, slice_index_or}
use Rattle.table.specs.Moves.{some_below}
use Rattle.circuit.specs.Circuit.{Gate, Circuit, registers, count, names, encode}
use Rattle.circuit.specs.Values.{value, values}
use Rattle.circuit.specs.Table.{size, holds, target}
use Rattle.circuit.specs.Read.{read_of}

-- Every number is below the limit; every operand of a gate is below the gate, the first of which has number `limit`.
abbrev pub AllBelow : ℕ → List ℕ → Type 0
AllBelow limit xs = All (λ x. x < limit) xs

abbrev pub GatesBelow : ℕ → List Gate → Type 0
GatesBelow limit [] = Unit {0}
GatesBelow limit (g ∷ gs) = (g.left < limit) × (g.right < limit) × GatesBelow (limit + 1) gs

-- The circuits that have a layout.
pub record Lawful (c : Circuit) : Type 0 where
  pub some_register : 1 ≤ registers c
  pub few_registers : registers c ≤ 10
  pub few_inputs : c.inputs ≤ 4
  pub few_gates : length c.gates ≤ 200
  pub few_atoms : length c.atoms ≤ 16
  pub some_fair : 1 ≤ length c.fairs
  pub few_fairs : length c.fairs ≤ 4
  pub gates : GatesBelow (1 + registers c + c.inputs) c.gates
  pub names : AllBelow (count c) (names c)
  pub some_start : some_below (size c) (holds c c.start) ≡ true

-- What is accepted is the layout of the circuit that was read, and that circuit is lawful.
abbrev pub AcceptedIsLayout : Type 0
AcceptedIsLayout = (bytes : List ℕ) (c : Circuit) → read_of bytes ≡ Ok c → (encode c ≡ bytes) × Lawful c

-- The layout of every lawful circuit is accepted, and read as that circuit.
abbrev pub LayoutIsAccepted : Type 0
LayoutIsAccepted = (c : Circuit) → Lawful c → read_of (encode c) ≡ Ok c

-- Bit q of a number; a value as a number.
abbrev pub bit : ℕ → ℕ → Bool
bit x q = x / 2 ^ q % 2 == 1

abbrev pub digit : Bool → ℕ
digit b = cond b 1 0

abbrev pub no_gate : Gate
no_gate = record { left = 0; right = 0 }

-- In state s with the inputs of move k: value 0 is false; then come the registers, the bits of the state; the inputs, the
-- bits of the move's number; the gates, each 1 minus the product of its operands; and register q of the target is the
-- value named for it.
pub record ValuesTold (c : Circuit) (s k : ℕ) : Type 0 where
  pub false_first : value (values c s k) 0 ≡ false
  pub registers_next : (q : ℕ) → q < registers c → value (values c s k) (1 + q) ≡ bit s q
  pub inputs_next : (p : ℕ) → p < c.inputs → value (values c s k) (1 + registers c + p) ≡ bit k p
  pub gates_last : (j : ℕ) → j < length c.gates → digit (value (values c s k) (1 + registers c + c.inputs + j)) ≡ 1 - digit (value (values c s k) (slice_index_or c.gates j no_gate).left) * digit (value (values c s k) (slice_index_or c.gates j no_gate).right)
  pub target_bits : (q : ℕ) → q < registers c → bit (target c s k) q ≡ value (values c s k) (slice_index c.next q)

abbrev pub ValuesAre : Type 0
ValuesAre = (c : Circuit) → Lawful c → (s k : ℕ) → ValuesTold c s k
