-- What reading a section tells: a circuit within the bounds of a table, or a fault at a place within the longest file.
use Rattle.std.proofs.Common.{◌≡◌, ℕ, ◌+◌, ◌*◌, ◌<◌, ◌≤◌, Bool, true, false, cond, ltb, leb, List, [], ◌∷◌, length, drop, Some, None, Ok, Err, IfErr, Result, refl, ap, arith}
use Rattle.std.proofs.lemmas.Bool.{ltb-true, leb-true, and_parts, eqb-true}
use Rattle.fault.specs.declared.Cause.{Cause}
use Rattle.fault.specs.declared.Cause.TheVariants.{TableCounts, ValueNumber}
use Rattle.fault.specs.declared.Fault.{Fault}
use Rattle.fault.specs.Faults.{fault}
use Rattle.fault.specs.Checks.{need, first_of, first_past, none_past, or_else}
use Rattle.fault.proofs.Order.{need_true, all_from, first_append}
use Rattle.fault.proofs.Near.{Near, AllNear, need_near, then_near, first_near, given_near}
use Rattle.circuit.specs.Circuit.{Gate, Circuit, names}
use Rattle.circuit.specs.Table.{usable, one_circuit}
use Rattle.circuit.specs.Read.{Counts, counts_of, circuit_of, announced, size_checks, value_checks, gates_check, body_check, read_of}
use Rattle.circuit.proofs.Codec.{names_again, names_long, gates_long, next_long}
use Rattle.circuit.proofs.Inverse.{accepted_is_layout, lawful_usable}
use Rattle.circuit.proofs.OneState.{one_usable}

pub usable_read : (bytes : List ℕ) → usable (or_else one_circuit (read_of bytes)) ≡ true
usable_read bytes = at (read_of bytes) refl
  where
    at : (r : Result Circuit Fault) → read_of bytes ≡ r → usable (or_else one_circuit r) ≡ true
    at (Ok c) e = lawful_usable c (accepted_is_layout bytes c e).1
    at (Err f) e = one_usable

gates_near : (limit place : ℕ) (gs : List Gate) → place + 2 * length gs ≤ 65536 → Near (gates_check limit place gs)
gates_near limit place [] h = tt
gates_near limit place (g ∷ gs) h =
    then_near (need (ltb g.left limit) (fault ValueNumber place)) _ (need_near _ _ (omega arith)) (λ _.
    then_near (need (ltb g.right limit) (fault ValueNumber (place + 1))) _ (need_near _ _ (omega arith)) (λ _.
    gates_near (limit + 1) (place + 2) gs (omega arith)))

past_near : (c : Cause) (from limit : ℕ) (xs : List ℕ) → from + length xs ≤ 65536 → Near (none_past c from (first_past limit xs))
past_near c from limit xs h = at _ _ (ltb-true _ (length xs))
  where
    at : (n : ℕ) (b : Bool) → (b ≡ true → n < length xs) → Near (none_past c from (cond b (Some n) None))
    at n true inside = omega (arith, inside refl)
    at n false inside = tt

sizes_near : (n : Counts) (long : ℕ) → Near (first_of (size_checks n long))
sizes_near n long = first_near (size_checks n long) (
  need_near _ _ (omega arith),
  λ _. (need_near _ _ (omega arith), λ _. (need_near _ _ (omega arith), λ _. (need_near _ _ (omega arith), λ _. (need_near _ _ (omega arith), λ _. (need_near _ _ (omega arith), λ _. tt))))),
)

values_near : (n : Counts) (rest : List ℕ) → first_of (size_checks n (length rest)) ≡ Ok tt → AllNear (value_checks (circuit_of n rest))
values_near n rest ok =
    let c : Circuit = circuit_of n rest in
    let all = all_from (size_checks n (length rest)) ok in
    let few_registers = leb-true n.registers 10 (and_parts (leb 1 n.registers) _ (need_true _ _ all.0)).1 in
    let few_gates = leb-true n.gates 200 (need_true _ _ all.1.1.0) in
    let few_atoms = leb-true n.atoms 16 (need_true _ _ all.1.1.1.0) in
    let few_fairs = leb-true n.fairs 4 (and_parts (leb 1 n.fairs) _ (need_true _ _ all.1.1.1.1.0)).1 in
    let long = eqb-true (length rest) (announced n) (need_true _ _ all.1.1.1.1.1.0) in
    let gates_are = gates_long n rest long in
    let next_are = next_long n rest long in
    let names_are = names_long n rest long in
    (gates_near _ 5 c.gates (omega arith), λ _. (past_near _ _ _ (names c) (omega (arith, ap length (names_again n rest (omega arith)))), λ _. (need_near _ _ (omega arith), λ _. tt)))

body_near : (n : Counts) (rest : List ℕ) → Near (body_check n rest)
body_near n rest = rw (first_append (size_checks n (length rest)) (value_checks (circuit_of n rest)))
    (then_near _ _ (sizes_near n (length rest)) (λ ok. first_near (value_checks (circuit_of n rest)) (values_near n rest ok)))

pub read_near : (bytes : List ℕ) → IfErr (read_of bytes) (λ e. e.place ≤ 65536)
read_near bytes = at (ltb (length bytes) 5) _ (given_near _ (circuit_of (counts_of bytes) (drop 5 bytes)) (body_near (counts_of bytes) (drop 5 bytes)))
  where
    at : (b : Bool) (r : Result Circuit Fault) → Near r → Near (cond b (Err (fault TableCounts 0)) r)
    at true r h = omega arith
    at false r h = h
