-- The fault of a section, if it has one, is at a place within the longest file.
use Rattle.std.proofs.Common.{◌≡◌, ℕ, zero, suc, ◌+◌, ◌-◌, ◌*◌, ◌≤◌, Bool, true, false, cond, not, ltb, leb, List, [], ◌∷◌, ◌++◌, length, get_or, take, drop, Ok, Err, Result, IfErr, suc-mul, arith}
use Rattle.std.proofs.lemmas.Bool.{leb-true, and_parts, eqb-true}
use Rattle.std.proofs.lemmas.Nat.{mul-le}
use Rattle.std.proofs.lemmas.List.{length-append, length-take, length-take-le, length-drop}
use Rattle.fault.specs.declared.Cause.TheVariants.{TableCounts, NoStart}
use Rattle.fault.specs.declared.Fault.{Fault}
use Rattle.fault.specs.Faults.{fault}
use Rattle.fault.specs.Checks.{Checked, need, first_of}
use Rattle.fault.proofs.Order.{need_true, all_from, first_append}
use Rattle.fault.proofs.Near.{Near, AllNear, need_near, cond_near, then_near, first_near, given_near}
use Rattle.stateset.specs.Sets.{none, set_of, clear}
use Rattle.listing.specs.Numbers.{u16s}
use Rattle.listing.specs.Sets.{width, past}
use Rattle.listing.specs.Rows.{dealt, all_of, last_of}
use Rattle.listing.specs.Check.{sets_check, counts_check, row_check, rows_check}
use Rattle.listing.specs.Read.{count_bytes, target_bytes, table_of, size_checks, move_checks, body_check, read_body, read_of}
use Rattle.listing.specs.Listed.{Listed}
use Rattle.listing.specs.Inner.{number_checks}
use Rattle.listing.proofs.Dealing.{length_u16s, counts_few}
use Rattle.listing.proofs.Passed.{length_past}

sets_near : (n k m place : ℕ) (bs : List ℕ) → place + m * k ≤ 65536 → Near (sets_check n k m place bs)
sets_near n k zero place bs h = tt
sets_near n k (suc m) place bs h = cond_near (clear n (take k bs)) _ _ (sets_near n k m (place + k) (drop k bs) (omega (arith, suc-mul m k))) (omega arith)

counts_near : (last place : ℕ) (cs : List ℕ) → place + 2 * length cs ≤ 65536 → Near (counts_check last place cs)
counts_near last place [] h = tt
counts_near last place (c ∷ cs) h = cond_near _ _ _ (counts_near c (place + 2) cs (omega arith)) (omega arith)

row_near : (n low place : ℕ) (ts : List ℕ) → place + 2 * length ts ≤ 65536 → Near (row_check n low place ts)
row_near n low place [] h = tt
row_near n low place (t ∷ ts) h = cond_near _ _ _ (row_near n (t + 1) (place + 2) ts (omega arith)) (omega arith)

rows_near : (n place : ℕ) (rows : List (List ℕ)) → place + 2 * length (all_of rows) ≤ 65536 → Near (rows_check n place rows)
rows_near n place [] h = tt
rows_near n place (row ∷ rows) h =
    let l = length-append row (all_of rows) in
    then_near (row_check n 0 place row) _ (row_near n 0 place row (omega arith)) (λ _. rows_near n (place + 2 * length row) rows (omega arith))

-- No more targets are dealt out than there are.
dealt_few : (last : ℕ) (cs ts : List ℕ) → length (all_of (dealt last cs ts)) ≤ length ts
dealt_few last [] ts = omega arith
dealt_few last (c ∷ cs) ts =
    let more = dealt_few c cs (drop (c - last) ts) in
    omega (arith, more, length-append (take (c - last) ts) (all_of (dealt c cs (drop (c - last) ts))), length-take (c - last) ts, length-drop (c - last) ts)

moves_near : (n place : ℕ) (cs bs : List ℕ) → length cs ≤ n → place + 2 * n ≤ 32768 → AllNear (number_checks n place cs bs)
moves_near n place cs bs h room = (
  counts_near 0 place cs (omega arith),
  λ counts. (
    need_near _ _ (omega arith),
    λ full. (
      rows_near n (place + 2 * n) (dealt 0 cs (u16s bs)) (
          let few = counts_few 0 place cs (omega arith) counts in
          let long = length_u16s bs (last_of 0 cs) (eqb-true _ _ (need_true _ _ full)) in
          omega (arith, few, long, dealt_few 0 cs (u16s bs))),
      λ _. tt,
    ),
  ),
)

module _ (n a b : ℕ) (rest : List ℕ) where
  sizes_near : Near (first_of (size_checks n a b (length rest)))
  sizes_near = first_near (size_checks n a b (length rest)) (
    need_near _ _ (omega arith),
    λ _. (need_near _ _ (omega arith), λ _. (need_near _ _ (omega arith), λ _. (need_near _ _ (omega arith), λ _. tt))),
  )

  abbrev moves : List Checked
  moves = move_checks n (4 + suc (a + b) * width n) (count_bytes n a b rest) (target_bytes n a b rest)

  abbrev start : List Checked
  start = need (not (none (set_of n (take (width n) rest)))) (fault NoStart 4) ∷ []

  rest_near : first_of (size_checks n a b (length rest)) ≡ Ok tt → Near (first_of (sets_check n (width n) (suc (a + b)) 4 rest ∷ (moves ++ start)))
  rest_near ok =
      let sizes = all_from (size_checks n a b (length rest)) ok in
      let few_states = leb-true n 1024 (and_parts (leb 1 n) _ (need_true _ _ sizes.0)).1 in
      let few_atoms = leb-true a 16 (need_true _ _ sizes.1.0) in
      let few_fairs = leb-true b 4 (and_parts (leb 1 b) _ (need_true _ _ sizes.1.1.0)).1 in
      let room = leb-true _ (length rest) (need_true _ _ sizes.1.1.1.0) in
      let small : suc (a + b) * width n ≤ 21 * 128 = mul-le (suc (a + b)) (width n) 21 128 (omega arith) (omega arith) in
      let left = length_past (width n) (suc (a + b)) rest in
      let many = length_u16s (count_bytes n a b rest) n (length-take-le (2 * n) (past (width n) (suc (a + b)) rest) (omega arith)) in
      then_near (sets_check n (width n) (suc (a + b)) 4 rest) _ (sets_near n (width n) (suc (a + b)) 4 rest (omega arith)) (λ _.
      rw (first_append moves start) (then_near (first_of moves) _ (first_near moves (moves_near n _ (u16s (count_bytes n a b rest)) (target_bytes n a b rest) (omega arith) (omega arith))) (λ _.
      first_near start (need_near _ _ (omega arith), λ _. tt))))

  body_near : Near (body_check n a b rest)
  body_near = rw (first_append (size_checks n a b (length rest)) (sets_check n (width n) (suc (a + b)) 4 rest ∷ (moves ++ start))) (then_near _ _ sizes_near rest_near)

  pub read_body_near : Near (read_body n a b rest)
  read_body_near = given_near (body_check n a b rest) (table_of n a b rest) body_near

pub read_near : (bytes : List ℕ) → IfErr (read_of bytes) (λ e. e.place ≤ 65536)
read_near bytes = at (ltb (length bytes) 4) _ (read_body_near (get_or bytes 0 0 + get_or bytes 1 0 * 256) (get_or bytes 2 0) (get_or bytes 3 0) (drop 4 bytes))
  where
    at : (b : Bool) (r : Result Listed Fault) → Near r → Near (cond b (Err (fault TableCounts 0)) r)
    at true r h = omega arith
    at false r h = h
