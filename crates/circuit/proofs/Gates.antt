-- The values of a circuit, one by one.
use Rattle.std.proofs.Common.{◌≡◌, ℕ, zero, suc, ◌+◌, ◌-◌, ◌*◌, ◌<◌, Bool, true, false, List, [], ◌∷◌, ◌++◌, length, get_or, sym, refl, ap, ◌∙◌, ap₂, arith, length-append}
use Rattle.std.proofs.lemmas.List.{get_or_append_left, get_or-append_right, get_or_push, length_push}
use Rattle.stateset.specs.Sets.{bits}
use Rattle.stateset.proofs.Flags.{length_bits, bits_at}
use Rattle.circuit.specs.Circuit.{Gate, Circuit, registers}
use Rattle.circuit.specs.Values.{value, nand, with_gates, values}
use Rattle.circuit.specs.Law.{GatesBelow, bit, digit, no_gate}

-- A gate leaves the values before it as they are.
pub gates_keep : (vs : List Bool) (gs : List Gate) (v : ℕ) → v < length vs → value (with_gates vs gs) v ≡ value vs v
gates_keep vs [] v h = refl
gates_keep vs (g ∷ gs) v h =
    let x : Bool = nand (value vs g.left) (value vs g.right) in
    gates_keep (vs ++ x ∷ []) gs v (omega (arith, length_push vs x)) ∙ get_or_append_left vs (x ∷ []) false v h

-- Gate j is 1 minus the product of its operands, all read among the values of the whole circuit.
pub gate_at : (vs : List Bool) (gs : List Gate) (j : ℕ) → GatesBelow (length vs) gs → j < length gs
    → value (with_gates vs gs) (length vs + j) ≡ nand (value (with_gates vs gs) (get_or gs j no_gate).left) (value (with_gates vs gs) (get_or gs j no_gate).right)
gate_at vs [] j below h = absurd (omega arith)
gate_at vs (g ∷ gs) zero (l, r, more) h =
    let x : Bool = nand (value vs g.left) (value vs g.right) in
    let e : length vs + 0 ≡ length vs = omega arith in
    ap (value (with_gates vs (g ∷ gs))) e
    ∙ gates_keep (vs ++ x ∷ []) gs (length vs) (omega (arith, length_push vs x))
    ∙ get_or_push vs x false (length vs) refl
    ∙ sym (ap₂ nand (gates_keep vs (g ∷ gs) g.left l) (gates_keep vs (g ∷ gs) g.right r))
gate_at vs (g ∷ gs) (suc j) (l, r, more) h =
    let x : Bool = nand (value vs g.left) (value vs g.right) in
    let long = length_push vs x in
    let e : length vs + suc j ≡ length (vs ++ x ∷ []) + j = omega arith in
    let m : length vs + 1 ≡ length (vs ++ x ∷ []) = omega arith in
    ap (value (with_gates vs (g ∷ gs))) e ∙ gate_at (vs ++ x ∷ []) gs j (rw m at more) (omega arith)

module _ (c : Circuit) (s k : ℕ) where
  -- The values before the gates.
  abbrev pub first_values : List Bool
  first_values = false ∷ (bits (registers c) s ++ bits c.inputs k)

  pub first_length : length first_values ≡ 1 + registers c + c.inputs
  first_length = omega (arith, length-append (bits (registers c) s) (bits c.inputs k), length_bits (registers c) s, length_bits c.inputs k)

  pub value_zero : value (values c s k) 0 ≡ false
  value_zero = gates_keep first_values c.gates 0 (omega (arith, first_length))

  pub value_register : (q : ℕ) → q < registers c → value (values c s k) (1 + q) ≡ bit s q
  value_register q h =
      let e : 1 + q ≡ suc q = omega arith in
      gates_keep first_values c.gates (1 + q) (omega (arith, first_length))
      ∙ ap (value first_values) e
      ∙ get_or_append_left (bits (registers c) s) (bits c.inputs k) false q (omega (arith, length_bits (registers c) s))
      ∙ bits_at (registers c) s q h

  pub value_input : (p : ℕ) → p < c.inputs → value (values c s k) (1 + registers c + p) ≡ bit k p
  value_input p h =
      let e : 1 + registers c + p ≡ suc (registers c + p) = omega arith in
      let d : registers c + p - registers c ≡ p = omega arith in
      gates_keep first_values c.gates (1 + registers c + p) (omega (arith, first_length))
      ∙ ap (value first_values) e
      ∙ get_or-append_right (bits (registers c) s) (bits c.inputs k) (registers c) (registers c + p) false (length_bits (registers c) s) (omega arith)
      ∙ ap (λ i. get_or (bits c.inputs k) i false) d
      ∙ bits_at c.inputs k p h

  pub value_gate : (j : ℕ) → GatesBelow (1 + registers c + c.inputs) c.gates → j < length c.gates
      → digit (value (values c s k) (1 + registers c + c.inputs + j)) ≡ 1 - digit (value (values c s k) (get_or c.gates j no_gate).left) * digit (value (values c s k) (get_or c.gates j no_gate).right)
  value_gate j below h =
      ap digit (ap (λ n. value (values c s k) (n + j)) (sym first_length) ∙ gate_at first_values c.gates j (rw first_length below) h)
      ∙ product (value (values c s k) (get_or c.gates j no_gate).left) (value (values c s k) (get_or c.gates j no_gate).right)
    where
      product : (x y : Bool) → digit (nand x y) ≡ 1 - digit x * digit y
      product true true = refl
      product true false = refl
      product false true = refl
      product false false = refl
