-- A section that passes its checks is the layout of a lawful circuit, and every such layout passes.
use Rattle.std.proofs.Common.{◌≡◌, ℕ, suc, ◌+◌, ◌*◌, Bool, true, false, not, cond, ltb, leb, List, [], ◌∷◌, ◌++◌, map, length, get_or, take, drop, Some, None, Ok, Err, sym, refl, ap, ◌∙◌, subst, ap₂, arith, length-append, add-one}
use lib.ListN.{length-map}
use Rattle.std.proofs.lemmas.List.Sums.{prefix_len_passes, prefix_len_is}
use Rattle.std.proofs.lemmas.Bool.Decides.{nat_tests}
use Rattle.std.proofs.Math.Seq.{drop-append-add}
use Rattle.std.proofs.lemmas.Grind.{common_steps}
use Rattle.std.proofs.lemmas.List.{take-append-drop, take_at, drop_at, get_or-map}
use Rattle.std.proofs.lemmas.Bool.{and_parts, and_from, leb-true, le-leb, ltb-true, lt-ltb, eqb-true, eq-eqb, cond-false, le-ltb}
use Rattle.fault.specs.declared.Cause.{Cause}
use Rattle.fault.specs.declared.Cause.TheVariants.{ValueNumber}
use Rattle.fault.specs.Faults.{fault}
use Rattle.fault.specs.Checks.{Checked, need, first_past, none_past, given, first_of}
use Rattle.fault.proofs.Order.{then_ok, need_true, need_from, all_from, from_all, go}
use Rattle.circuit.specs.Circuit.{Gate, Circuit, registers, put_gates, names, encode}
use Rattle.circuit.specs.Values.{value, values}
use Rattle.circuit.specs.Table.{usable}
use Rattle.circuit.specs.Read.{Counts, gate_bytes, circuit_of, announced, gates_check, value_checks, checks, body_check, read_body, read_of}
use Rattle.circuit.specs.Law.{AllBelow, GatesBelow, Lawful, AcceptedIsLayout, LayoutIsAccepted, ValuesAre}
use Rattle.stateset.proofs.Numbers.{number_bit}
use Rattle.circuit.proofs.Gates.{value_zero, value_register, value_input, value_gate}
use Rattle.circuit.proofs.Codec.{length_put, gates_put, put_gates_of, names_again, names_long, gate_bytes_long, gates_long, next_long, atoms_long, fairs_long}

-- The check of the value numbers, both ways.
not_past : (c : Cause) (from i : ℕ) (b : Bool) → none_past c from (cond b (Some i) None) ≡ Ok tt → b ≡ false
not_past c from i true e = cc
not_past c from i false e = refl

all_below : (c : Cause) (limit from : ℕ) (xs : List ℕ) → none_past c from (first_past limit xs) ≡ Ok tt → AllBelow limit xs
all_below c limit from xs e = λ k d l.
    let none = not_past c from _ _ e in
    grind (arith, nat_tests, prefix_len_passes (λ x. not (leb limit x)) xs k d)

below_all : (c : Cause) (limit from : ℕ) (xs : List ℕ) → AllBelow limit xs → none_past c from (first_past limit xs) ≡ Ok tt
below_all c limit from xs h =
    let all = prefix_len_is (λ x. not (leb limit x)) xs (length xs) 0 (omega arith) (λ k l. grind (arith, nat_tests, h k 0 l)) (λ l. absurd (omega arith)) in
    ap (none_past c from) (cond-false _ _ None (le-ltb _ (length xs) (omega arith)))

gates_below : (limit place : ℕ) (gs : List Gate) → gates_check limit place gs ≡ Ok tt → GatesBelow limit gs
gates_below limit place [] e = tt
gates_below limit place (g ∷ gs) e =
    let p = then_ok (need (ltb g.left limit) (fault ValueNumber place)) _ e in
    let q = then_ok (need (ltb g.right limit) (fault ValueNumber (place + 1))) _ p.1 in
    (ltb-true g.left limit (need_true _ _ p.0), ltb-true g.right limit (need_true _ _ q.0), gates_below (limit + 1) (place + 2) gs q.1)

below_gates : (limit place : ℕ) (gs : List Gate) → GatesBelow limit gs → gates_check limit place gs ≡ Ok tt
below_gates limit place [] h = refl
below_gates limit place (g ∷ gs) (l, r, h) =
    go _ _ (need_from _ _ (lt-ltb g.left limit l))
    ∙ go _ _ (need_from _ _ (lt-ltb g.right limit r))
    ∙ below_gates (limit + 1) (place + 2) gs h

-- A lawful circuit is within the bounds of a table.
pub lawful_usable : (c : Circuit) → Lawful c → usable c ≡ true
unfolding usable
lawful_usable c w = grind (arith, nat_tests)

-- A body that passes: its circuit is lawful, and its layout is the body.
module _ (n : Counts) (rest : List ℕ) (ok : body_check n rest ≡ Ok tt) where
  abbrev c : Circuit
  c = circuit_of n rest

  long : length rest ≡ announced n
  long = let all = all_from (checks n rest) ok in eqb-true _ _ (need_true _ _ all.1.1.1.1.1.0)

  pub lawful_of : Lawful c
  lawful_of =
      let all = all_from (checks n rest) ok in
      let regs = and_parts (leb 1 n.registers) (leb n.registers 10) (need_true _ _ all.0) in
      let fair = and_parts (leb 1 n.fairs) (leb n.fairs 4) (need_true _ _ all.1.1.1.1.0) in
      let last = all.1.1.1.1.1.1 in
      record {
        some_register = omega (arith, next_long n rest long, leb-true 1 n.registers regs.0);
        few_registers = omega (arith, next_long n rest long, leb-true n.registers 10 regs.1);
        few_inputs = leb-true n.inputs 4 (need_true _ _ all.1.0);
        few_gates = omega (arith, gates_long n rest long, leb-true n.gates 200 (need_true _ _ all.1.1.0));
        few_atoms = omega (arith, atoms_long n rest long, leb-true n.atoms 16 (need_true _ _ all.1.1.1.0));
        some_fair = omega (arith, fairs_long n rest long, leb-true 1 n.fairs fair.0);
        few_fairs = omega (arith, fairs_long n rest long, leb-true n.fairs 4 fair.1);
        gates = gates_below _ _ _ last.0;
        names = all_below _ _ _ _ last.1.0;
        some_start = need_true _ _ last.1.1.0;
      }

  pub layout_of : encode c ≡ n.registers ∷ n.inputs ∷ n.gates ∷ n.atoms ∷ n.fairs ∷ rest
  layout_of =
      let gates_are = put_gates_of (gate_bytes n rest) n.gates (gate_bytes_long n rest long) in
      let names_are = names_again n rest (omega (arith, names_long n rest long)) in
      let body : put_gates c.gates ++ names c ≡ rest = ap₂ (λ x y. x ++ y) gates_are names_are ∙ take-append-drop (2 * n.gates) rest in
      λ i. next_long n rest long i ∷ n.inputs ∷ gates_long n rest long i ∷ atoms_long n rest long i ∷ fairs_long n rest long i ∷ body i

-- A section that is long enough for its leading bytes.
read_long : (n : Counts) (rest : List ℕ) → read_of (n.registers ∷ n.inputs ∷ n.gates ∷ n.atoms ∷ n.fairs ∷ rest) ≡ read_body n rest
read_long n rest = cond-false (ltb (length (n.registers ∷ n.inputs ∷ n.gates ∷ n.atoms ∷ n.fairs ∷ rest)) 5) _ _ (le-ltb _ 5 (omega arith))

given_ok : {A : Type 0} (r : Checked) (x y : A) → given r x ≡ Ok y → (r ≡ Ok tt) × (x ≡ y)
given_ok (Ok tt) x y e = (refl, cc)
given_ok (Err f) x y e = absurd cc

accepted_body : (n : Counts) (rest : List ℕ) (d : Circuit) → read_body n rest ≡ Ok d → (encode d ≡ n.registers ∷ n.inputs ∷ n.gates ∷ n.atoms ∷ n.fairs ∷ rest) × Lawful d
accepted_body n rest d e =
    let p = given_ok (body_check n rest) (circuit_of n rest) d e in
    (ap encode (sym p.1) ∙ layout_of n rest p.0, subst Lawful p.1 (lawful_of n rest p.0))

pub accepted_is_layout : AcceptedIsLayout
accepted_is_layout (r ∷ h ∷ g ∷ a ∷ b ∷ rest) d e =
    let n : Counts = record { registers = r; inputs = h; gates = g; atoms = a; fairs = b } in
    accepted_body n rest d (sym (read_long n rest) ∙ e)
accepted_is_layout _ d e = absurd cc

-- The layout of a lawful circuit, read again.
module _ (c : Circuit) (w : Lawful c) where
  abbrev body : List ℕ
  body = put_gates c.gates ++ names c

  abbrev counts : Counts
  counts = record { registers = registers c; inputs = c.inputs; gates = length c.gates; atoms = length c.atoms; fairs = length c.fairs }

  gates_first : take (2 * length c.gates) body ≡ put_gates c.gates
  gates_first = take_at (put_gates c.gates) (names c) (2 * length c.gates) (length_put c.gates)

  names_after : drop (2 * length c.gates) body ≡ names c
  names_after = drop_at (put_gates c.gates) (names c) (2 * length c.gates) (length_put c.gates)

  abbrev tail : List ℕ
  tail = c.start ∷ (c.atoms ++ c.fairs)

  start_after : get_or (names c) (registers c) 0 ≡ c.start
  start_after = grind (arith, common_steps)

  rest_after : drop (suc (registers c)) (names c) ≡ c.atoms ++ c.fairs
  rest_after = rw (← add-one (registers c)) (drop-append-add c.next tail 1)

  read_again : circuit_of counts body ≡ c
  read_again = simp (names_after, gates_first, gates_put, start_after, rest_after, take_at c.next tail (registers c) refl, take_at c.atoms c.fairs (length c.atoms) refl, drop_at c.atoms c.fairs (length c.atoms) refl)

  body_long : length body ≡ announced counts
  body_long = omega (arith, length-append (put_gates c.gates) (names c), length_put c.gates, length-append c.next tail, length-append c.atoms c.fairs)

  passes : body_check counts body ≡ Ok tt
  passes =
      go _ _ (need_from _ _ (and_from _ _ (le-leb _ _ w.some_register) (le-leb _ _ w.few_registers)))
      ∙ go _ _ (need_from _ _ (le-leb _ _ w.few_inputs))
      ∙ go _ _ (need_from _ _ (le-leb _ _ w.few_gates))
      ∙ go _ _ (need_from _ _ (le-leb _ _ w.few_atoms))
      ∙ go _ _ (need_from _ _ (and_from _ _ (le-leb _ _ w.some_fair) (le-leb _ _ w.few_fairs)))
      ∙ go _ _ (need_from _ _ (eq-eqb _ _ body_long))
      ∙ ap (λ x. first_of (value_checks x)) read_again
      ∙ from_all (value_checks c) (below_gates _ _ _ w.gates, (below_all _ _ _ _ w.names, (need_from _ _ w.some_start, tt)))

pub layout_is_accepted : LayoutIsAccepted
layout_is_accepted c w = read_long (counts c w) (body c w) ∙ ap (λ r. given r (circuit_of (counts c w) (body c w))) (passes c w) ∙ ap Ok (read_again c w)

-- The values of a lawful circuit.
pub values_are : ValuesAre
values_are c w s k = record {
  false_first = value_zero c s k;
  registers_next = value_register c s k;
  inputs_next = value_input c s k;
  gates_last = λ j h. value_gate c s k j w.gates h;
  target_bits = λ q h.
      number_bit (map (value (values c s k)) c.next) q (omega (arith, length-map c.next (value (values c s k))))
      ∙ get_or-map (value (values c s k)) c.next q 0 false h;
}
