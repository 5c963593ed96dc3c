-- What the checks show of a section that passes them: its table is lawful.
use Rattle.std.proofs.Common.{◌≡◌, ℕ, zero, suc, ◌+◌, ◌-◌, ◌*◌, ◌≤◌, true, false, ltb, leb, List, [], ◌∷◌, length, take, drop, Ok, sym, refl, ap, ◌∙◌, suc-mul, arith}
use Rattle.std.proofs.lemmas.List.{take-append-drop, length-take-le, length-drop}
use Rattle.std.proofs.lemmas.Bool.{and_parts, and_from, leb-true, ltb-true, eqb-true, not-true}
use Rattle.fault.proofs.Order.{then_ok, need_true, cond_ok, all_from}
use Rattle.stateset.specs.Sets.{unpack, none, set_of, clear}
use Rattle.stateset.proofs.Flags.{length_unpack}
use Rattle.listing.specs.Numbers.{u16s}
use Rattle.listing.specs.Sets.{width, sets_of, past}
use Rattle.listing.specs.Rows.{dealt, last_of, Rises}
use Rattle.listing.specs.Listed.{Sized, Climbs, Rising, Lawful}
use Rattle.listing.specs.Check.{sets_check, row_check, rows_check}
use Rattle.listing.specs.Read.{others, count_bytes, target_bytes, table_of, checks, body_check}
use Rattle.listing.proofs.Codec.{clears, all_dealt}
use Rattle.listing.proofs.Dealing.{length_u16s, rises_to, counts_rise, counts_few}

sets_clear : (n k m place : ℕ) (bs : List ℕ) → sets_check n k m place bs ≡ Ok tt → clears n k m bs ≡ true
sets_clear n k zero place bs e = refl
sets_clear n k (suc m) place bs e =
    let p = cond_ok _ _ _ _ e in
    and_from (clear n (take k bs)) (clears n k m (drop k bs)) p.0 (sets_clear n k m (place + k) (drop k bs) p.1)

-- The facts that the checks leave behind.
pub record Passed (n a b : ℕ) (rest : List ℕ) : Type 0 where
  pub some_state : 1 ≤ n
  pub few_states : n ≤ 1024
  pub few_atoms : a ≤ 16
  pub some_fair : 1 ≤ b
  pub few_fairs : b ≤ 4
  pub room : suc (a + b) * width n + 2 * n ≤ length rest
  pub fine : clears n (width n) (suc (a + b)) rest ≡ true
  pub rise : Rises 0 (u16s (count_bytes n a b rest))
  pub few : last_of 0 (u16s (count_bytes n a b rest)) ≤ 16384
  pub fill : length (target_bytes n a b rest) ≡ 2 * last_of 0 (u16s (count_bytes n a b rest))
  pub climb : rows_check n (4 + suc (a + b) * width n + 2 * n) (dealt 0 (u16s (count_bytes n a b rest)) (u16s (target_bytes n a b rest))) ≡ Ok tt
  pub start : none (set_of n (take (width n) rest)) ≡ false

pub passed_of : (n a b : ℕ) (rest : List ℕ) → body_check n a b rest ≡ Ok tt → Passed n a b rest
passed_of n a b rest e =
    let all = all_from (checks n a b rest) e in
    let states = and_parts _ _ (need_true _ _ all.0) in
    let fairs = and_parts _ _ (need_true _ _ all.1.1.0) in
    let moves = all.1.1.1.1.1 in
    record {
      some_state = leb-true 1 n states.0;
      few_states = leb-true n 1024 states.1;
      few_atoms = leb-true a 16 (need_true _ _ all.1.0);
      some_fair = leb-true 1 b fairs.0;
      few_fairs = leb-true b 4 fairs.1;
      room = leb-true _ _ (need_true _ _ all.1.1.1.0);
      fine = sets_clear n (width n) (suc (a + b)) 4 rest all.1.1.1.1.0;
      rise = counts_rise 0 _ (u16s (count_bytes n a b rest)) moves.0;
      few = counts_few 0 _ (u16s (count_bytes n a b rest)) (omega arith) moves.0;
      fill = eqb-true _ _ (need_true _ _ moves.1.0);
      climb = moves.1.1.0;
      start = not-true _ (need_true _ _ moves.1.1.1.0);
    }

-- Sets of n states.
sets_sized : (n k m : ℕ) (bs : List ℕ) → m * k ≤ length bs → n ≤ 8 * k → Sized n (sets_of n k m bs)
sets_sized n k zero bs room fit = tt
sets_sized n k (suc m) bs room fit =
    let r : m * k + k ≤ length bs = omega (arith, suc-mul m k) in
    let one : length (take k bs) ≡ k = length-take-le k bs (omega arith) in
    (length-take-le n (unpack (take k bs)) (omega (arith, length_unpack (take k bs))), sets_sized n k m (drop k bs) (simp length-drop (omega arith)) fit)

pub length_sets : (n k m : ℕ) (bs : List ℕ) → length (sets_of n k m bs) ≡ m
length_sets n k zero bs = refl
length_sets n k (suc m) bs = ap suc (length_sets n k m (drop k bs))

-- The counts of atoms and of fairness sets are those of the table.
pub atoms_counted : (n a b : ℕ) (rest : List ℕ) → a ≡ length (table_of n a b rest).atoms
atoms_counted n a b rest = sym (length-take-le a (others n a b rest) (omega (arith, length_sets n (width n) (a + b) (drop (width n) rest))))

pub fairs_counted : (n a b : ℕ) (rest : List ℕ) → b ≡ length (table_of n a b rest).fairs
fairs_counted n a b rest = sym (length-drop a (others n a b rest) ∙ omega (arith, length_sets n (width n) (a + b) (drop (width n) rest)))

pub length_past : (k m : ℕ) (bs : List ℕ) → length (past k m bs) ≡ length bs - m * k
length_past k zero bs = omega arith
length_past k (suc m) bs = length_past k m (drop k bs) ∙ simp length-drop (omega (arith, suc-mul m k))

-- Rows of targets.
pub length_dealt : (last : ℕ) (cs ts : List ℕ) → length (dealt last cs ts) ≡ length cs
length_dealt last [] ts = refl
length_dealt last (c ∷ cs) ts = ap suc (length_dealt c cs (drop (c - last) ts))

row_climbs : (n low place : ℕ) (row : List ℕ) → row_check n low place row ≡ Ok tt → Climbs n low row
row_climbs n low place [] e = tt
row_climbs n low place (t ∷ ts) e =
    let p = cond_ok _ _ _ _ e in
    let both = and_parts (leb low t) (ltb t n) p.0 in
    (leb-true low t both.0, ltb-true t n both.1, row_climbs n (t + 1) (place + 2) ts p.1)

rows_rise : (n place last : ℕ) (cs ts : List ℕ) → Rises last cs → last_of last cs ≤ last + length ts → rows_check n place (dealt last cs ts) ≡ Ok tt → Rising n (dealt last cs ts)
rows_rise n place last [] ts r h e = tt
rows_rise n place last (c ∷ cs) ts (l, r) h e =
    let p = then_ok (row_check n 0 place (take (c - last) ts)) _ e in
    let up = rises_to c cs r in
    let long = length-take-le (c - last) ts (omega arith) in
    (omega arith, row_climbs n 0 place (take (c - last) ts) p.0, rows_rise n (place + 2 * length (take (c - last) ts)) c cs (drop (c - last) ts) r (simp length-drop (omega arith)) p.1)

module _ (n a b : ℕ) (rest : List ℕ) (p : Passed n a b rest) where
  abbrev cs : List ℕ
  cs = u16s (count_bytes n a b rest)

  abbrev ts : List ℕ
  ts = u16s (target_bytes n a b rest)

  pub counts_long : length cs ≡ n
  counts_long =
      let left = length_past (width n) (suc (a + b)) rest in
      length_u16s (count_bytes n a b rest) n (length-take-le (2 * n) (past (width n) (suc (a + b)) rest) (omega (arith, p.room)))

  pub targets_long : length ts ≡ last_of 0 cs
  targets_long = length_u16s (target_bytes n a b rest) (last_of 0 cs) p.fill

  pub lawful_of : Lawful (table_of n a b rest)
  lawful_of =
      let room = p.room in
      let each : suc (a + b) * width n ≡ (a + b) * width n + width n = suc-mul (a + b) (width n) in
      let first : length (take (width n) rest) ≡ width n = length-take-le (width n) rest (omega arith) in
      let many = length_sets n (width n) (a + b) (drop (width n) rest) in
      record {
        some_state = p.some_state;
        few_states = p.few_states;
        few_atoms = omega (arith, length-take-le a (others n a b rest) (omega arith), p.few_atoms);
        some_fair = omega (arith, length-drop a (others n a b rest), p.some_fair);
        few_fairs = omega (arith, length-drop a (others n a b rest), p.few_fairs);
        starts_sized = length-take-le n (unpack (take (width n) rest)) (omega (arith, length_unpack (take (width n) rest)));
        sets_sized = rw (take-append-drop a (others n a b rest)) (sets_sized n (width n) (a + b) (drop (width n) rest) (simp length-drop (omega arith)) (omega arith));
        row_each = length_dealt 0 cs ts ∙ counts_long;
        rising = rows_rise n (4 + suc (a + b) * width n + 2 * n) 0 cs ts p.rise (omega (arith, targets_long)) p.climb;
        few_moves = omega (arith, ap length (all_dealt 0 cs ts p.rise (omega (arith, targets_long))), targets_long, p.few);
        some_start = p.start;
      }
