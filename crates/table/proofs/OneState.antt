-- The one-state table is a table.
use Rattle.std.proofs.Common.{◌≡◌, ℕ, ◌*◌, ◌^◌, ◌≤◌, Bool, true, false, cond, ◌&&◌, ◌||◌, eqb, List, [], ◌∷◌, length, refl, arith}
use mathlib.Core.Bool.{false≢true}
use Rattle.std.proofs.lemmas.Bool.{and_parts, and_from, eqb-true, eq-eqb}
use Rattle.table.specs.Faithful.{Faithful, listed}
use Rattle.table.specs.OneState.{one_state, one_state_targets}

reached : (b : Bool) (t : ℕ) → listed t (cond b (0 ∷ []) []) ≡ (b && eqb t 0)
reached true t = or_false (eqb t 0)
  where
    or_false : (c : Bool) → (c || false) ≡ c
    or_false true = refl
    or_false false = refl
reached false t = refl

one_move : (b : Bool) → length (cond {A = List ℕ} b (0 ∷ []) []) ≤ 1 * 16 ^ 1
one_move true = omega arith
one_move false = omega arith

pub one_faithful : Faithful one_state one_state_targets
one_faithful = record {
  proper = record {
    some_state = omega arith;
    few_states = omega arith;
    few_atoms = omega arith;
    some_fair = omega arith;
    few_fairs = omega arith;
    some_start = (0, refl);
    onward = λ s h. (0, and_from (eqb s 0) true (eq-eqb s 0 (omega arith)) refl);
    inside = λ s t m. omega (arith, eqb-true t 0 (and_parts (eqb s 0) (eqb t 0) m).1);
    from_inside = λ s t m. omega (arith, eqb-true s 0 (and_parts (eqb s 0) (eqb t 0) m).0);
    start_inside = λ s h. omega (arith, eqb-true s 0 h);
    atom_inside = λ j s h. absurd (false≢true h);
    fair_inside = λ i s h. let p = and_parts (eqb i 0) (eqb s 0) h in (omega (arith, eqb-true i 0 p.0), omega (arith, eqb-true s 0 p.1));
  };
  exact = λ s t. reached (eqb s 0) t;
  few = λ s. one_move (eqb s 0);
}
