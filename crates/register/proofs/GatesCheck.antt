-- The check of the gates, gate by gate.
use Rattle.std.proofs.Common.{◌≡◌, ℕ, ◌+◌, ◌*◌, ◌<◌, ltb, List, [], map, length, get_or, drop, ◌∙◌, arith}
use Rattle.std.proofs.lemmas.List.{at_drop_more}
use Rattle.fault.specs.declared.Cause.TheVariants.{ValueNumber}
use Rattle.fault.specs.Faults.{fault}
use Rattle.fault.specs.Checks.{need, then}
use Rattle.circuit.specs.Read.{gates_check}
use Rattle.register.specs.Parts.{gate_in}

module _ (known i : ℕ) (gates : List (List ℕ)) where
  abbrev operand : ℕ → ℕ
  operand j = get_or (get_or gates i []) j 0

  pub gates_more : i < length gates
      → gates_check (known + i) (5 + 2 * i) (map gate_in (drop i gates))
      ≡ then (need (ltb (operand 0) (known + i)) (fault ValueNumber (5 + 2 * i)))
      (then (need (ltb (operand 1) (known + i)) (fault ValueNumber (6 + 2 * i)))
      (gates_check (known + (i + 1)) (5 + 2 * (i + 1)) (map gate_in (drop (i + 1) gates))))
  gates_more h =
      let p : 5 + 2 * i + 1 ≡ 6 + 2 * i = omega arith in
      let q : 5 + 2 * i + 2 ≡ 5 + 2 * (i + 1) = omega arith in
      let k : known + i + 1 ≡ known + (i + 1) = omega arith in
      at_drop_more (λ gs. gates_check (known + i) (5 + 2 * i) (map gate_in gs)) gates i [] h
      ∙ (λ j. then (need (ltb (operand 0) (known + i)) (fault ValueNumber (5 + 2 * i))) (then (need (ltb (operand 1) (known + i)) (fault ValueNumber (p j))) (gates_check (k j) (q j) (map gate_in (drop (i + 1) gates)))))
