-- A circuit within its bounds is a table: its targets are exactly its moves.
use Rattle.std.proofs.Common.{◌≡◌, ℕ, ◌*◌, ◌^◌, ◌<◌, ◌≤◌, Bool, true, false, cond, ◌&&◌, eqb, ltb, List, [], map, length, get_or, sym, refl, ap, ◌∙◌, ⊎_elim, arith, pow_mono}
use mathlib.Core.Bool.{false≢true}
use native.Mathlib.Nat.{pow-le-pow_right}
use lib.ListN.{length-map}
use Rattle.std.proofs.lemmas.Nat.{pow_pos, mul-le}
use Rattle.std.proofs.lemmas.List.{get_or_past}
use Rattle.std.proofs.lemmas.Bool.{and_parts, and_from, leb-true, ltb-true, lt-ltb, eqb-true, eq-eqb, cases_lt}
use Rattle.stateset.proofs.Numbers.{number_small}
use Rattle.table.specs.Meaning.{Proper}
use Rattle.table.specs.Faithful.{Faithful, listed}
use Rattle.table.specs.Moves.{some_below}
use Rattle.table.specs.Counted.{counted}
use Rattle.table.proofs.Below.{then_some, found_below}
use Rattle.table.proofs.Counted.{counted_length, listed_counted}
use Rattle.circuit.specs.Circuit.{Circuit, registers}
use Rattle.circuit.specs.Values.{value, values}
use Rattle.circuit.specs.Table.{size, holds, target, meaning_of, targets_of, usable}
use Rattle.circuit.proofs.Gates.{value_zero}

pub record Usable (c : Circuit) : Type 0 where
  pub few_registers : registers c ≤ 10
  pub few_inputs : c.inputs ≤ 4
  pub few_gates : length c.gates ≤ 200
  pub few_atoms : length c.atoms ≤ 16
  pub some_fair : 1 ≤ length c.fairs
  pub few_fairs : length c.fairs ≤ 4
  pub some_start : some_below (size c) (holds c c.start) ≡ true

pub usable_told : (c : Circuit) → usable c ≡ true → Usable c
unfolding usable
usable_told c e =
    let r = and_parts _ _ e in
    let h = and_parts _ _ r.1 in
    let g = and_parts _ _ h.1 in
    let a = and_parts _ _ g.1 in
    let b = and_parts _ _ a.1 in
    let f = and_parts _ _ b.0 in
    record {
      few_registers = leb-true _ _ r.0;
      few_inputs = leb-true _ _ h.0;
      few_gates = leb-true _ _ g.0;
      few_atoms = leb-true _ _ a.0;
      some_fair = leb-true _ _ f.0;
      few_fairs = leb-true _ _ f.1;
      some_start = b.1;
    }

module _ (c : Circuit) where
  pub target_below : (s k : ℕ) → target c s k < size c
  target_below s k = rw (length-map c.next (value (values c s k))) at (number_small (map (value (values c s k)) c.next))

  -- Value 0 holds nowhere, so what is not there holds nowhere.
  absent : (names : List ℕ) (j s : ℕ) → holds c (get_or names j 0) s ≡ true → (j < length names) × (s < size c)
  absent names j s e =
      let p = and_parts (ltb s (size c)) (value (values c s 0) (get_or names j 0)) e in
      (⊎_elim (λ l. l) (λ l. absurd (false≢true (sym (ap (value (values c s 0)) (get_or_past names j 0 l) ∙ value_zero c s 0) ∙ p.1))) (cases_lt j (length names)), ltb-true s (size c) p.0)

  reached : (t s : ℕ) (b : Bool) → listed t (cond b (counted (2 ^ c.inputs) (target c s)) []) ≡ (b && some_below (2 ^ c.inputs) (λ k. eqb t (target c s k)))
  reached t s true = listed_counted t (2 ^ c.inputs) (target c s)
  reached t s false = refl

  few_moves : Usable c → (s : ℕ) (b : Bool) → length (cond b (counted (2 ^ c.inputs) (target c s)) []) ≤ size c * 16 ^ length c.fairs
  few_moves u s true =
      omega (
        arith,
        counted_length (2 ^ c.inputs) (target c s),
        pow_mono {i = c.inputs} {j = 4} u.few_inputs,
        mul-le 1 16 (size c) (16 ^ length c.fairs) (pow_pos (registers c)) (pow-le-pow_right {n = 16} (omega arith) {i = 1} {j = length c.fairs} u.some_fair),
      )
  few_moves u s false = omega arith

  proper : Usable c → Proper (meaning_of c)
  proper u = record {
    some_state = pow_pos (registers c);
    few_states = pow_mono {i = registers c} {j = 10} u.few_registers;
    few_atoms = u.few_atoms;
    some_fair = u.some_fair;
    few_fairs = u.few_fairs;
    some_start = let (s, lt, e) = found_below _ _ u.some_start in (s, e);
    onward = λ s h. (target c s 0, and_from _ _ (lt-ltb s (size c) h) (then_some (2 ^ c.inputs) _ 0 (pow_pos c.inputs) (eq-eqb (target c s 0) (target c s 0) refl)));
    inside = λ s t m. let (k, lt, e) = found_below (2 ^ c.inputs) (λ k. eqb t (target c s k)) (and_parts (ltb s (size c)) _ m).1 in omega (arith, eqb-true t (target c s k) e, target_below s k);
    from_inside = λ s t m. ltb-true s (size c) (and_parts _ _ m).0;
    start_inside = λ s h. ltb-true s (size c) (and_parts _ _ h).0;
    atom_inside = absent c.atoms;
    fair_inside = absent c.fairs;
  }

  pub circuit_faithful : usable c ≡ true → Faithful (meaning_of c) (targets_of c)
  circuit_faithful e =
      let u = usable_told c e in
      record { proper = proper u; exact = λ s t. reached t s (ltb s (size c)); few = λ s. few_moves u s (ltb s (size c)) }
