-- What the parts of a section answer is what its table means.
use Rattle.std.proofs.Common.{◌≡◌, ℕ, suc, ◌+◌, ◌-◌, ◌*◌, ◌<◌, ◌≤◌, false, List, [], ◌∷◌, length, get_or, take, drop, sym, ap, ◌∙◌, subst, ap₂, suc-mul, add-one, arith}
use Rattle.std.proofs.lemmas.Nat.{mul-le}
use Rattle.std.proofs.lemmas.List.{get_or-drop, get_or_past, take-map, drop-map}
use Rattle.stateset.specs.Sets.{bit_at, unpack}
use Rattle.stateset.proofs.Flags.{unpack_bit}
use Rattle.listing.specs.declared.section.Parts.{Parts}
use Rattle.listing.specs.Numbers.{u16s, numbers}
use Rattle.listing.specs.Sets.{width}
use Rattle.listing.specs.Rows.{dealt, last_of, Rises}
use Rattle.listing.specs.Listed.{meaning_of, targets_of}
use Rattle.listing.specs.Read.{count_bytes, target_bytes, others}
use Rattle.listing.specs.Parts.{listed_in, sets_in, Formed}
use Rattle.listing.proofs.Passed.{Passed, atoms_counted, fairs_counted, counts_long, targets_long, length_dealt}
use Rattle.listing.proofs.Dealing.{length_numbers}
use Rattle.listing.proofs.Faithful.{parts_passed}
use Rattle.listing.proofs.Order.{numbers_are}
use Rattle.listing.proofs.Places.{set_at, flag_below, flag_past, row_bounds, row_at}

module _ (p : Parts) where
  abbrev n : ℕ
  n = p.states

  abbrev a : ℕ
  a = p.atoms

  abbrev b : ℕ
  b = p.fairness_sets

  abbrev rest : List ℕ
  rest = p.body.now

  -- The counts and the targets, as numbers.
  abbrev cs : List ℕ
  cs = numbers p.counts.now

  abbrev ts : List ℕ
  ts = numbers p.targets.now

  passed : Passed n a b rest
  passed = parts_passed p

  pub few_states : n ≤ 1024
  few_states = passed.few_states

  pub few_sets : a + b ≤ 20
  few_sets = omega (arith, passed.few_atoms, passed.few_fairs)

  pub atoms_are : a ≡ (meaning_of (listed_in p)).atoms
  atoms_are = atoms_counted n a b rest

  pub fairs_are : b ≡ (meaning_of (listed_in p)).fairs
  fairs_are = fairs_counted n a b rest

  -- All that is promised of parts that were read holds of each, since their type keeps it.
  pub formed : Formed p
  formed = record { passed = p.passed; atoms = atoms_are; fairs = fairs_are; counts = p.counted; targets = p.targeted }

  -- Set j, of all sets, lies within the body, and its flags are the set's.
  pub set_room : (j : ℕ) → j < suc (a + b) → j * width n + width n ≤ length rest
  set_room j h = omega (arith, mul-le (suc j) (width n) (suc (a + b)) (width n) (omega arith) (omega arith), suc-mul j (width n), passed.room)

  pub set_small : (j : ℕ) → j < suc (a + b) → j * width n ≤ 2560
  set_small j h = omega (arith, mul-le j (width n) 20 128 (omega (arith, few_sets)) (omega (arith, few_states)))

  pub set_flag : (j s : ℕ) → j < suc (a + b) → s < n → bit_at (take (j * width n + width n - j * width n) (drop (j * width n) rest)) s ≡ get_or (get_or (sets_in p) j []) s false
  set_flag j s h l =
      let e : j * width n + width n - j * width n ≡ width n = omega arith in
      sym (unpack_bit (take (j * width n + width n - j * width n) (drop (j * width n) rest)) s)
      ∙ ap (λ i. get_or (unpack (take i (drop (j * width n) rest))) s false) e
      ∙ sym (ap (λ flags. get_or flags s false) (set_at n (width n) (suc (a + b)) j rest h) ∙ flag_below n s (take (width n) (drop (j * width n) rest)) l)

  pub set_past : (j s : ℕ) → j < suc (a + b) → n ≤ s → false ≡ get_or (get_or (sets_in p) j []) s false
  set_past j s h l = sym (ap (λ flags. get_or flags s false) (set_at n (width n) (suc (a + b)) j rest h) ∙ flag_past n s (take (width n) (drop (j * width n) rest)) l)

  -- The fairness sets follow the start set and the atoms.
  pub fair_is : (i s : ℕ) → get_or (get_or (sets_in p) (1 + a + i) []) s false ≡ (meaning_of (listed_in p)).fair i s
  fair_is i s =
      let e : 1 + a + i ≡ suc (a + i) = omega arith in
      ap (λ flags. get_or flags s false) (ap (λ k. get_or (sets_in p) k []) e ∙ sym (get_or-drop a (others n a b rest) i []))

  pub fair_none : (i s : ℕ) → b ≤ i → false ≡ (meaning_of (listed_in p)).fair i s
  fair_none i s h = sym (ap (λ flags. get_or flags s false) (get_or_past (drop a (others n a b rest)) i [] (omega (arith, fairs_are))))

  counted : cs ≡ u16s (count_bytes n a b rest)
  counted = ap numbers p.counted ∙ numbers_are (count_bytes n a b rest)

  targeted : ts ≡ u16s (target_bytes n a b rest)
  targeted = ap numbers p.targeted ∙ numbers_are (target_bytes n a b rest)

  -- The counts of moves: one a state, rising, the last of them the count of targets.
  rise : Rises 0 cs
  rise = subst (Rises 0) (sym counted) passed.rise

  many : length cs ≡ n
  many = ap length counted ∙ counts_long n a b rest passed

  full : last_of 0 cs ≡ length ts
  full = ap (last_of 0) counted ∙ sym (targets_long n a b rest passed) ∙ sym (ap length targeted)

  rows_are : dealt 0 cs ts ≡ (listed_in p).rows
  rows_are = ap₂ (dealt 0) counted targeted

  pub count_room : (s : ℕ) → s < n → s < length p.counts.now
  count_room s h = omega (arith, many, length_numbers p.counts.now)

  -- How many moves the states below s have.
  abbrev pub before : ℕ → ℕ
  before s = get_or (0 ∷ cs) s 0

  -- Where a row of targets lies, and that it is the row of the table.
  pub row_room : (s : ℕ) → s < n → (before s ≤ before (s + 1)) × (before (s + 1) ≤ length p.targets.now)
  row_room s h =
      let bounds = row_bounds 0 cs s rise (omega (arith, many)) in
      let e : before (s + 1) ≡ get_or cs s 0 = ap before (add-one s) in
      (omega (arith, bounds.1, e), omega (arith, bounds.2, e, full, length_numbers p.targets.now))

  pub row_is : (s : ℕ) → s < n → numbers (take (before (s + 1) - before s) (drop (before s) p.targets.now)) ≡ targets_of (listed_in p) s
  row_is s h =
      let e : before (s + 1) ≡ get_or cs s 0 = ap before (add-one s) in
      let z : before s ≡ before s - 0 = omega arith in
      sym (take-map _ (before (s + 1) - before s) (drop (before s) p.targets.now))
      ∙ ap (take (before (s + 1) - before s)) (sym (drop-map _ (before s) p.targets.now))
      ∙ ap₂ (λ end from. take (end - before s) (drop from ts)) e z
      ∙ sym (row_at 0 cs ts s rise (omega (arith, many)))
      ∙ ap (λ rows. get_or rows s []) rows_are

  -- What is no state has no moves.
  pub row_none : (s : ℕ) → n ≤ s → [] ≡ targets_of (listed_in p) s
  row_none s h = sym (ap (λ rows. get_or rows s []) (sym rows_are) ∙ get_or_past _ s [] (omega (arith, length_dealt 0 cs ts, many)))
