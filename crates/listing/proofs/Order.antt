-- The checks in their order, at the offsets that the code has.
use Rattle.std.proofs.Common.{◌≡◌, ℕ, zero, suc, ◌+◌, ◌-◌, ◌*◌, ◌/◌, ◌<◌, cond, not, List, [], ◌∷◌, ◌++◌, length, take, drop, Ok, Err, sym, refl, ap, ◌∙◌, ap₂, suc-mul, add-one, arith}
use Rattle.std.proofs.Math.Nat.{mul-div_left}
use Rattle.std.proofs.lemmas.List.{take_rest, drop-drop, take-take, drop-take, length-take-le}
use Rattle.fault.specs.declared.Cause.TheVariants.{StrayBit, NoStart}
use Rattle.fault.specs.Faults.{fault}
use Rattle.fault.specs.Checks.{Checked, need, then, first_of, given}
use Rattle.fault.specs.declared.Fault.{Fault}
use Rattle.fault.proofs.Order.{first_append}
use Rattle.stateset.specs.Sets.{none, set_of, clear}
use Rattle.stateset.proofs.Pairs.{in_pairs as two_by_two}
use Rattle.listing.specs.Numbers.{u16s, numbers, pairs}
use Rattle.listing.specs.Sets.{width, past}
use Rattle.listing.specs.Check.{sets_check}
use Rattle.listing.specs.Read.{count_bytes, target_bytes, table_of, size_checks, move_checks, body_check, read_body}
use Rattle.listing.specs.Inner.{number_checks, Sizes}

past_drop : (k m : ℕ) (bs : List ℕ) → past k m bs ≡ drop (m * k) bs
past_drop k zero bs = ap (λ i. drop i bs) {x = 0} {y = 0 * k} (omega arith)
past_drop k (suc m) bs = past_drop k m (drop k bs) ∙ drop-drop (m * k) k bs ∙ ap (λ i. drop i bs) (omega (arith, suc-mul m k))

-- Only the sets themselves are looked at.
sets_part : (n k m place : ℕ) (bs : List ℕ) → sets_check n k m place (take (m * k) bs) ≡ sets_check n k m place bs
sets_part n k zero place bs = refl
sets_part n k (suc m) place bs =
    let e : suc m * k ≡ k + m * k = omega (arith, suc-mul m k) in
    ap₂ (λ x y. cond (clear n x) (sets_check n k m (place + k) y) (Err (fault StrayBit place)))
    (take-take k (suc m * k) bs (omega arith))
    (ap (λ i. drop k (take i bs)) e ∙ drop-take k (m * k) bs)
    ∙ ap (λ r. cond (clear n (take k bs)) r (Err (fault StrayBit place))) (sets_part n k m (place + k) (drop k bs))

-- The numbers of a row of bytes that is cut into pairs.
abbrev pub in_pairs : List ℕ → List ℕ
in_pairs bs = numbers (pairs bs)

pub numbers_are : (bs : List ℕ) → in_pairs bs ≡ u16s bs
numbers_are bs = two_by_two _ u16s refl (λ x. refl) (λ x y xs. refl) bs

-- The four steps of the reader.
abbrev pub made : (sizes sets moves start : Checked) → Checked
made sizes sets moves start = then sizes (then sets (then moves (then start (Ok tt))))

module _ (n a b : ℕ) (rest : List ℕ) where
  -- Where the counts and the targets begin in the body.
  abbrev pub counts_from : ℕ
  counts_from = (a + b + 1) * width n

  abbrev pub targets_from : ℕ
  targets_from = counts_from + 2 * n

  after_sets : past (width n) (suc (a + b)) rest ≡ drop counts_from rest
  after_sets = past_drop (width n) (suc (a + b)) rest ∙ ap (λ m. drop (m * width n) rest) (sym (add-one (a + b)))

  pub counts_are : take (targets_from - counts_from) (drop counts_from rest) ≡ count_bytes n a b rest
  counts_are =
      let e : targets_from - counts_from ≡ 2 * n = omega arith in
      ap₂ take e (sym after_sets)

  pub targets_are : take (length rest - targets_from) (drop targets_from rest) ≡ target_bytes n a b rest
  targets_are = take_rest rest targets_from ∙ sym (drop-drop (2 * n) counts_from rest) ∙ ap (drop (2 * n)) (sym after_sets)

  -- The same as numbers, two bytes each.
  pub counted : in_pairs (take (targets_from - counts_from) (drop counts_from rest)) ≡ u16s (count_bytes n a b rest)
  counted = numbers_are _ ∙ ap u16s counts_are

  pub targeted : in_pairs (take (length rest - targets_from) (drop targets_from rest)) ≡ u16s (target_bytes n a b rest)
  targeted = numbers_are _ ∙ ap u16s targets_are

  -- The checks as the code makes them.
  abbrev pub sets_made : Checked
  sets_made = sets_check n (width n) (length (take counts_from rest) / width n) 4 (take counts_from rest)

  abbrev pub moves_made : Checked
  moves_made = first_of (number_checks n (4 + counts_from) (in_pairs (take (targets_from - counts_from) (drop counts_from rest))) (take (length rest - targets_from) (drop targets_from rest)))

  abbrev pub start_made : Checked
  start_made = need (not (none (set_of n (take (width n) rest)))) (fault NoStart 4)

  -- One after another they are all the checks.
  pub in_order : Sizes n a b (length rest) → made (first_of (size_checks n a b (length rest))) sets_made moves_made start_made ≡ body_check n a b rest
  in_order s =
      let m : suc (a + b) ≡ a + b + 1 = omega arith in
      let some : 0 < width n = omega (arith, s.some_state) in
      let long : length (take counts_from rest) / width n ≡ a + b + 1 = ap (λ l. l / width n) (length-take-le counts_from rest (omega (arith, s.room, ap (λ i. i * width n) m))) ∙ mul-div_left (a + b + 1) some in
      let sets : sets_made ≡ sets_check n (width n) (suc (a + b)) 4 rest = ap (λ i. sets_check n (width n) i 4 (take counts_from rest)) long ∙ sets_part n (width n) (a + b + 1) 4 rest ∙ ap (λ i. sets_check n (width n) i 4 rest) (sym m) in
      let moves : moves_made ≡ first_of (move_checks n (4 + suc (a + b) * width n) (count_bytes n a b rest) (target_bytes n a b rest)) =
      ap₂ (λ cs ts. first_of (number_checks n (4 + counts_from) cs ts)) counted targets_are
      ∙ ap (λ i. first_of (move_checks n (4 + i * width n) (count_bytes n a b rest) (target_bytes n a b rest))) (sym m) in
      let later : List Checked = move_checks n (4 + suc (a + b) * width n) (count_bytes n a b rest) (target_bytes n a b rest) in
      let start : List Checked = start_made ∷ [] in
      ap₂ (λ x y. made (first_of (size_checks n a b (length rest))) x y start_made) sets moves
      ∙ ap (λ r. then (first_of (size_checks n a b (length rest))) (then (sets_check n (width n) (suc (a + b)) 4 rest) r)) (sym (first_append later start))
      ∙ sym (first_append (size_checks n a b (length rest)) (sets_check n (width n) (suc (a + b)) 4 rest ∷ (later ++ start)))

  -- What they come to is what the checks come to.
  pub told : Sizes n a b (length rest) → (sizes sets moves start r : Checked) → sizes ≡ first_of (size_checks n a b (length rest)) → sets ≡ sets_made → moves ≡ moves_made → start ≡ start_made → made sizes sets moves start ≡ r → body_check n a b rest ≡ r
  told s sizes sets moves start r e1 e2 e3 e4 e = sym (in_order s) ∙ sym (λ i. made (e1 i) (e2 i) (e3 i) (e4 i)) ∙ e

  pub refused : (f : Fault) → body_check n a b rest ≡ Err f → Err f ≡ read_body n a b rest
  refused f e = sym (ap (λ c. given c (table_of n a b rest)) e)
