-- Reading the parts of a circuit is the inverse of laying them out.
use Rattle.std.proofs.Common.{◌≡◌, ℕ, suc, ◌+◌, ◌-◌, ◌*◌, ◌<◌, List, [], ◌∷◌, length, drop, refl, ap, ◌∙◌, add-one, arith}
use Rattle.std.proofs.lemmas.List.{take-append-drop, drop_more, length-take-le, length-drop}
use Rattle.circuit.specs.Circuit.{Gate, put_gates, gates_of, names}
use Rattle.circuit.specs.Read.{Counts, gate_bytes, name_bytes, circuit_of, announced}

pub length_gates : (bs : List ℕ) (m : ℕ) → length bs ≡ 2 * m → length (gates_of bs) ≡ m
length_gates [] m h = omega arith
length_gates (x ∷ []) m h = absurd (omega arith)
length_gates (x ∷ y ∷ bs) m h = let more = length_gates bs (m - 1) (omega arith) in omega arith

pub length_put : (gs : List Gate) → length (put_gates gs) ≡ 2 * length gs
length_put [] = refl
length_put (g ∷ gs) = omega (arith, length_put gs)

pub gates_put : (gs : List Gate) → gates_of (put_gates gs) ≡ gs
gates_put [] = refl
gates_put (g ∷ gs) = ap (λ more. g ∷ more) (gates_put gs)

pub put_gates_of : (bs : List ℕ) (m : ℕ) → length bs ≡ 2 * m → put_gates (gates_of bs) ≡ bs
put_gates_of [] m h = refl
put_gates_of (x ∷ []) m h = absurd (omega arith)
put_gates_of (x ∷ y ∷ bs) m h = ap (λ more. x ∷ y ∷ more) (put_gates_of bs (m - 1) (omega arith))

module _ (n : Counts) (rest : List ℕ) where
  -- The numbers of the values, cut and put together again.
  pub names_again : n.registers < length (name_bytes n rest) → names (circuit_of n rest) ≡ name_bytes n rest
  names_again l =
      rw (take-append-drop n.atoms, ← add-one n.registers, ← drop_more (name_bytes n rest) n.registers 0 l) (take-append-drop n.registers (name_bytes n rest))

  -- The lengths of the parts, in a section of the length that its counts announce.
  module _ (long : length rest ≡ announced n) where
    pub names_long : length (name_bytes n rest) ≡ n.registers + 1 + (n.atoms + n.fairs)
    names_long = length-drop (2 * n.gates) rest ∙ omega arith

    pub gate_bytes_long : length (gate_bytes n rest) ≡ 2 * n.gates
    gate_bytes_long = length-take-le (2 * n.gates) rest (omega arith)

    pub gates_long : length (circuit_of n rest).gates ≡ n.gates
    gates_long = length_gates (gate_bytes n rest) n.gates gate_bytes_long

    pub next_long : length (circuit_of n rest).next ≡ n.registers
    next_long = length-take-le n.registers (name_bytes n rest) (omega (arith, names_long))

    after_long : length (drop (suc n.registers) (name_bytes n rest)) ≡ n.atoms + n.fairs
    after_long = length-drop (suc n.registers) (name_bytes n rest) ∙ omega (arith, names_long)

    pub atoms_long : length (circuit_of n rest).atoms ≡ n.atoms
    atoms_long = length-take-le n.atoms (drop (suc n.registers) (name_bytes n rest)) (omega (arith, after_long))

    pub fairs_long : length (circuit_of n rest).fairs ≡ n.fairs
    fairs_long = length-drop n.atoms (drop (suc n.registers) (name_bytes n rest)) ∙ omega (arith, after_long)
