-- Pairs of tables of the same meaning mean the same.
use Rattle.std.proofs.Common.{◌≡◌, ℕ, ◌+◌, ◌-◌, ◌*◌, ◌/◌, ◌%◌, ◌<◌, ◌≤◌, Bool, true, false, cond, ◌&&◌, ltb, leb, refl, ap, ◌∙◌, ap₂, true≢false, arith}
use mathlib.Core.Bool.{false≢true}
use Rattle.std.proofs.lemmas.Nat.{mod_below, div_below}
use Rattle.std.proofs.lemmas.Bool.{ltb-true, ltb-false}
use Rattle.table.specs.Meaning.{Meaning}
use Rattle.table.specs.Same.{SameMeaning}
use Rattle.table.specs.OneState.{one_state}
use Rattle.combining.specs.Pair.{fits, side_by_side, both}
use Rattle.combining.specs.Agree.{PairsAgree}

one_same : SameMeaning one_state one_state
one_same = record {
  states = refl;
  starts = λ s h. refl;
  atoms = refl;
  atom = λ j s i h. refl;
  fairs = refl;
  fair = λ i s j h. refl;
  moves = λ s t h k. refl;
}

module _ (A B C D : Meaning) (some : 1 ≤ B.states) (Ac : SameMeaning A C) (BD : SameMeaning B D) where
  -- What holds of the parts of a state, by A and B or by C and D.
  at_first : {X : Type 0} (F G : ℕ → X) (s : ℕ) → s < A.states * B.states → ((x : ℕ) → x < A.states → F x ≡ G x) → F (s / B.states) ≡ G (s / D.states)
  at_first F G s h e = e (s / B.states) (div_below s B.states A.states some h) ∙ ap (λ n. G (s / n)) BD.states

  at_second : {X : Type 0} (F G : ℕ → X) (s : ℕ) → ((x : ℕ) → x < B.states → F x ≡ G x) → F (s % B.states) ≡ G (s % D.states)
  at_second F G s e = e (s % B.states) (mod_below s B.states some) ∙ ap (λ n. G (s % n)) BD.states

  same_states : A.states * B.states ≡ C.states * D.states
  same_states = ap₂ (λ x y. x * y) Ac.states BD.states

  same_fits : fits A B ≡ fits C D
  same_fits = ap₂ (λ x y. leb x 1024 && y) same_states
      (ap₂ (λ x y. leb x 16 && leb y 4) (ap₂ (λ x y. x + y) Ac.atoms BD.atoms) (ap₂ (λ x y. x + y) Ac.fairs BD.fairs))

  module _ (a b c : ℕ) (ac : a ≡ c) (f g p q : ℕ → ℕ → Bool)
      (fp : (j s : ℕ) → j < a → s < A.states → f j s ≡ p j s)
      (gq : (j s : ℕ) → j < b → s < B.states → g j s ≡ q j s) where
    same_sides : (j s : ℕ) → j < a + b → s < A.states * B.states → side_by_side A B a f g j s ≡ side_by_side C D c p q j s
    same_sides j s i h = ap₂ (λ x y. ltb s x && y) same_states (by (ltb j a) refl ∙ ap (λ n. cond (ltb j n) (p j (s / D.states)) (q (j - n) (s % D.states))) ac)
      where
        by : (t : Bool) → ltb j a ≡ t → cond t (f j (s / B.states)) (g (j - a) (s % B.states)) ≡ cond t (p j (s / D.states)) (q (j - a) (s % D.states))
        by true e = at_first (f j) (p j) s h (λ x l. fp j x (ltb-true j a e) l)
        by false e = at_second (g (j - a)) (q (j - a)) s (λ x l. gq (j - a) x (omega (arith, ltb-false j a e)) l)

  both_same : SameMeaning (both A B) (both C D)
  both_same = record {
    states = same_states;
    starts = λ s h. ap₂ (λ x y. x && y) (at_first A.starts C.starts s h Ac.starts) (at_second B.starts D.starts s BD.starts);
    atoms = ap₂ (λ x y. x + y) Ac.atoms BD.atoms;
    atom = same_sides A.atoms B.atoms C.atoms Ac.atoms A.atom B.atom C.atom D.atom Ac.atom BD.atom;
    fairs = ap₂ (λ x y. x + y) Ac.fairs BD.fairs;
    fair = same_sides A.fairs B.fairs C.fairs Ac.fairs A.fair B.fair C.fair D.fair Ac.fair BD.fair;
    moves = λ s t h k. ap₂ (λ x y. x && y)
        (at_first (λ x. A.moves x (t / B.states)) (λ x. C.moves x (t / D.states)) s h (λ x l. at_first (A.moves x) (C.moves x) t k (λ y m. Ac.moves x y l m)))
        (at_second (λ x. B.moves x (t % B.states)) (λ x. D.moves x (t % D.states)) s (λ x l. at_second (B.moves x) (D.moves x) t (λ y m. BD.moves x y l m)));
  }

  same_by : (t u : Bool) → t ≡ u → SameMeaning (cond t (both A B) one_state) (cond u (both C D) one_state)
  same_by true true e = both_same
  same_by true false e = absurd (true≢false e)
  same_by false true e = absurd (false≢true e)
  same_by false false e = one_same

pub pairs_agree : PairsAgree
pairs_agree A B C D pA pB pC pD Ac BD = same_by A B C D pB.some_state Ac BD (fits A B) (fits C D) (same_fits A B C D pB.some_state Ac BD)
