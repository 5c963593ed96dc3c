-- Reading a listed table and laying it out are inverse.
use Rattle.std.proofs.Common.{◌≡◌, ℕ, zero, suc, ◌+◌, ◌*◌, ◌/◌, ◌%◌, ◌≤◌, Bool, true, cond, not, ◌&&◌, ltb, leb, List, [], ◌∷◌, ◌++◌, length, take, drop, Ok, Err, Result, sym, refl, ap, ◌∙◌, subst, ap₂, suc-mul, arith}
use Rattle.std.proofs.lemmas.List.{take-append-drop, take_at, drop_at, length-append, length-take-le, length-drop}
use Rattle.std.proofs.lemmas.Bool.{and_parts, and_from, le-leb, le-ltb, lt-ltb, eq-eqb, cond-true, cond-false}
use Rattle.fault.specs.declared.Cause.TheVariants.{TableCounts}
use Rattle.fault.specs.declared.Fault.{Fault}
use Rattle.fault.specs.Faults.{fault}
use Rattle.stateset.specs.Sets.{Bytes, none, set_of, clear}
use Rattle.listing.specs.Numbers.{put16s, u16s}
use Rattle.listing.specs.Sets.{width, pack, put_sets, sets_of, past}
use Rattle.listing.specs.Rows.{counts, all_of, dealt, last_of, Rises}
use Rattle.listing.specs.Listed.{Listed, Lawful, Climbs, Rising, body, encode}
use Rattle.fault.specs.Checks.{Checked, then, between, given}
use Rattle.listing.specs.Check.{sets_check, counts_check, row_check, rows_check}
use Rattle.listing.specs.Read.{others, count_bytes, target_bytes, table_of, checks, body_check, read_body}
use Rattle.listing.specs.Layout.{AcceptedIsLayout, LayoutIsAccepted}
use Rattle.listing.proofs.Dealing.{length_u16s}
use Rattle.listing.proofs.Codec.{clears, u16s_put, put_u16s, put_sets_of, sets_of_put, counts_dealt, all_dealt, dealt_counts, bytes_take, bytes_drop, length_pack}
use Rattle.listing.proofs.Passed.{Passed, passed_of, lawful_of, length_sets, length_past}
use Rattle.fault.proofs.Order.{need_from, from_all}

given_ok : (r : Checked) (t u : Listed) → given r t ≡ Ok u → (r ≡ Ok tt) × (t ≡ u)
given_ok (Ok tt) t u e = (refl, cc)
given_ok (Err f) t u e = let z : ◌≡◌ {A = ℕ} 0 1 = cc in absurd (omega arith)

bytes_past : (k m : ℕ) (bs : List ℕ) → Bytes bs → Bytes (past k m bs)
bytes_past k zero bs b = b
bytes_past k (suc m) bs b = bytes_past k m (drop k bs) (bytes_drop k bs b)

-- The moves are laid out as they were read
moves_back : (n : ℕ) (bs : List ℕ) → 2 * n ≤ length bs → Bytes bs → Rises 0 (u16s (take (2 * n) bs)) → length (drop (2 * n) bs) ≡ 2 * last_of 0 (u16s (take (2 * n) bs))
    → put16s (counts 0 (dealt 0 (u16s (take (2 * n) bs)) (u16s (drop (2 * n) bs)))) ++ put16s (all_of (dealt 0 (u16s (take (2 * n) bs)) (u16s (drop (2 * n) bs)))) ≡ bs
moves_back n bs h b r e =
    let cs = u16s (take (2 * n) bs) in
    let ts = u16s (drop (2 * n) bs) in
    let long = length_u16s (drop (2 * n) bs) (last_of 0 (u16s (take (2 * n) bs))) e in
    ap₂ (λ x y. put16s x ++ put16s y) (counts_dealt 0 (u16s (take (2 * n) bs)) (u16s (drop (2 * n) bs)) r (omega arith)) (all_dealt 0 (u16s (take (2 * n) bs)) (u16s (drop (2 * n) bs)) r (omega arith))
    ∙ ap₂ (λ x y. x ++ y) (put_u16s (take (2 * n) bs) n (length-take-le (2 * n) bs h) (bytes_take (2 * n) bs b)) (put_u16s (drop (2 * n) bs) (last_of 0 (u16s (take (2 * n) bs))) e (bytes_drop (2 * n) bs b))
    ∙ take-append-drop (2 * n) bs

body_back : (n a b : ℕ) (rest : List ℕ) → Bytes rest → Passed n a b rest → body (table_of n a b rest) ≡ rest
body_back n a b rest bytes p =
    let room = p.room in
    let left = length_past (width n) (suc (a + b)) rest in
    ap₂ (λ ss ms. put_sets (width n) (set_of n (take (width n) rest) ∷ ss) ++ ms)
    (take-append-drop a (others n a b rest))
    (moves_back n (past (width n) (suc (a + b)) rest) (omega arith) (bytes_past (width n) (suc (a + b)) rest bytes) p.rise p.fill)
    ∙ put_sets_of n (width n) (suc (a + b)) rest (omega arith) bytes p.fine

no_ok : {X : Type 0} (f : Fault) (x : X) → ◌≡◌ {A = Result X Fault} (Err f) (Ok x) → ⊥
no_ok f x e = let z : ◌≡◌ {A = ℕ} 0 1 = cc in omega arith

-- Of a section that is long enough for its leading bytes, the rest decides.
long_enough : {A : Type 0} (x y a b : ℕ) (rest : List ℕ) (r : Result A Fault) → cond (ltb (length (x ∷ y ∷ a ∷ b ∷ rest)) 4) (Err (fault TableCounts 0)) r ≡ r
long_enough x y a b rest r = cond-false _ _ r (le-ltb (length (x ∷ y ∷ a ∷ b ∷ rest)) 4 (omega arith))

pub accepted_is_layout : AcceptedIsLayout
accepted_is_layout [] t bytes e = absurd (no_ok _ t e)
accepted_is_layout (x ∷ []) t bytes e = absurd (no_ok _ t e)
accepted_is_layout (x ∷ y ∷ []) t bytes e = absurd (no_ok _ t e)
accepted_is_layout (x ∷ y ∷ a ∷ []) t bytes e = absurd (no_ok _ t e)
accepted_is_layout (x ∷ y ∷ a ∷ b ∷ rest) t (p, (q, (_, (_, bytes)))) e =
    let n : ℕ = x + y * 256 in
    let g = given_ok _ _ _ (sym (long_enough x y a b rest _) ∙ e) in
    let passed = passed_of (x + y * 256) a b rest g.0 in
    let low : (x + y * 256) % 256 ≡ x = omega arith in
    let high : (x + y * 256) / 256 ≡ y = omega arith in
    let many = length_sets (x + y * 256) (width (x + y * 256)) (a + b) (drop (width (x + y * 256)) rest) in
    let atoms : length (take a (others (x + y * 256) a b rest)) ≡ a = length-take-le a (others (x + y * 256) a b rest) (omega arith) in
    let fairs : length (drop a (others (x + y * 256) a b rest)) ≡ b = length-drop a (others (x + y * 256) a b rest) ∙ omega arith in (
      ap encode (sym g.1) ∙ ap₂ (λ u us. u ∷ us) low (ap₂ (λ u us. u ∷ us) high (ap₂ (λ u us. u ∷ us) atoms (ap₂ (λ u us. u ∷ us) fairs (body_back (x + y * 256) a b rest bytes passed)))),
      subst Lawful g.1 (lawful_of (x + y * 256) a b rest passed),
    )

-- A lawful table passes
clear_sets : (n k m place : ℕ) (bs : List ℕ) → clears n k m bs ≡ true → sets_check n k m place bs ≡ Ok tt
clear_sets n k zero place bs e = refl
clear_sets n k (suc m) place bs e =
    let p = and_parts (clear n (take k bs)) (clears n k m (drop k bs)) e in
    cond-true (clear n (take k bs)) (sets_check n k m (place + k) (drop k bs)) _ p.0 ∙ clear_sets n k m (place + k) (drop k bs) p.1

counts_pass : (n last place : ℕ) (ms : List (List ℕ)) → Rising n ms → last + length (all_of ms) ≤ 16384 → counts_check last place (counts last ms) ≡ Ok tt
counts_pass n last place [] r h = refl
counts_pass n last place (m ∷ ms) (some, _, more) h =
    let l = length-append m (all_of ms) in
    cond-true (between (last + 1) 16384 (last + length m)) (counts_check (last + length m) (place + 2) (counts (last + length m) ms)) _ (and_from _ _ (le-leb (last + 1) (last + length m) (omega arith)) (le-leb (last + length m) 16384 (omega arith)))
    ∙ counts_pass n (last + length m) (place + 2) ms more (omega arith)

row_pass : (n low place : ℕ) (m : List ℕ) → Climbs n low m → row_check n low place m ≡ Ok tt
row_pass n low place [] c = refl
row_pass n low place (t ∷ ts) (l, h, more) =
    cond-true (leb low t && ltb t n) (row_check n (t + 1) (place + 2) ts) _ (and_from (leb low t) (ltb t n) (le-leb low t l) (lt-ltb t n h)) ∙ row_pass n (t + 1) (place + 2) ts more

rows_pass : (n place : ℕ) (ms : List (List ℕ)) → Rising n ms → rows_check n place ms ≡ Ok tt
rows_pass n place [] r = refl
rows_pass n place (m ∷ ms) (_, climbs, more) = ap (λ x. then x (rows_check n (place + 2 * length m) ms)) (row_pass n 0 place m climbs) ∙ rows_pass n (place + 2 * length m) ms more

length_put16s : (xs : List ℕ) → length (put16s xs) ≡ 2 * length xs
length_put16s [] = refl
length_put16s (x ∷ xs) = let more = length_put16s xs in omega arith

length_counts : (last : ℕ) (ms : List (List ℕ)) → length (counts last ms) ≡ length ms
length_counts last [] = refl
length_counts last (m ∷ ms) = ap suc (length_counts (last + length m) ms)

last_counts : (last : ℕ) (ms : List (List ℕ)) → last_of last (counts last ms) ≡ last + length (all_of ms)
last_counts last [] = omega arith
last_counts last (m ∷ ms) = let more = last_counts (last + length m) ms in omega (arith, length-append m (all_of ms))

length_put_sets : (k : ℕ) (ss : List (List Bool)) → length (put_sets k ss) ≡ length ss * k
length_put_sets k [] = omega arith
length_put_sets k (s ∷ ss) = length-append (pack k s) (put_sets k ss) ∙ omega (arith, length_put_sets k ss, length_pack k s, suc-mul (length ss) k)

body_read : (t : Listed) → Lawful t → read_body t.size (length t.atoms) (length t.fairs) (body t) ≡ Ok t
body_read t w =
    let n : ℕ = t.size in
    let a : ℕ = length t.atoms in
    let b : ℕ = length t.fairs in
    let k : ℕ = width t.size in
    let ss : List (List Bool) = t.starts ∷ (t.atoms ++ t.fairs) in
    let cs : List ℕ = counts 0 t.rows in
    let ts : List ℕ = all_of t.rows in
    let tail : List ℕ = put16s cs ++ put16s ts in
    let read = sets_of_put n k ss tail (w.starts_sized, w.sets_sized) (omega arith) in
    let len : length ss ≡ suc (a + b) = ap suc (length-append t.atoms t.fairs) in
    let sets : sets_of n k (suc (a + b)) (body t) ≡ ss = ap (λ m. sets_of n k m (body t)) (sym len) ∙ read.sets in
    let left : past k (suc (a + b)) (body t) ≡ tail = ap (λ m. past k m (body t)) (sym len) ∙ read.left in
    let fine : clears n k (suc (a + b)) (body t) ≡ true = ap (λ m. clears n k m (body t)) (sym len) ∙ read.fine in
    let first : set_of n (take k (body t)) ≡ t.starts = cc in
    let more : others n a b (body t) ≡ t.atoms ++ t.fairs = cc in
    let many : length (put16s cs) ≡ 2 * n = length_put16s cs ∙ ap (λ i. 2 * i) (length_counts 0 t.rows ∙ w.row_each) in
    let cut : count_bytes n a b (body t) ≡ put16s cs = ap (take (2 * n)) left ∙ take_at (put16s cs) (put16s ts) (2 * n) many in
    let es : u16s (count_bytes n a b (body t)) ≡ cs = ap u16s cut ∙ u16s_put cs in
    let gs : target_bytes n a b (body t) ≡ put16s ts = ap (drop (2 * n)) left ∙ drop_at (put16s cs) (put16s ts) (2 * n) many in
    let moves : dealt 0 (u16s (count_bytes n a b (body t))) (u16s (target_bytes n a b (body t))) ≡ t.rows = ap₂ (dealt 0) es (ap u16s gs ∙ u16s_put ts) ∙ dealt_counts 0 t.rows in
    let atoms : take a (others n a b (body t)) ≡ t.atoms = ap (take a) more ∙ take_at t.atoms t.fairs a refl in
    let fairs : drop a (others n a b (body t)) ≡ t.fairs = ap (drop a) more ∙ drop_at t.atoms t.fairs a refl in
    let same : table_of n a b (body t) ≡ t = λ i. record { size = n; starts = first i; atoms = atoms i; fairs = fairs i; rows = moves i } in
    let size : length (body t) ≡ suc (a + b) * k + (2 * n + length (put16s ts)) = length-append (put_sets k ss) tail ∙ ap₂ (λ x y. x + y) (length_put_sets k ss ∙ ap (λ m. m * k) len) (length-append (put16s cs) (put16s ts) ∙ ap (λ x. x + length (put16s ts)) many) in
    let fill : length (target_bytes n a b (body t)) ≡ 2 * last_of 0 (u16s (count_bytes n a b (body t))) = ap length gs ∙ length_put16s ts ∙ ap (λ i. 2 * i) (sym (ap (last_of 0) es ∙ last_counts 0 t.rows ∙ omega arith)) in
    let passes : body_check n a b (body t) ≡ Ok tt = from_all (checks n a b (body t)) (
      need_from _ _ (and_from _ _ (le-leb 1 n w.some_state) (le-leb n 1024 w.few_states)),
      (
        need_from _ _ (le-leb a 16 w.few_atoms),
        (
          need_from _ _ (and_from _ _ (le-leb 1 b w.some_fair) (le-leb b 4 w.few_fairs)),
          (
            need_from _ _ (le-leb (suc (a + b) * k + 2 * n) (length (body t)) (omega (arith, size))),
            (
              clear_sets n k (suc (a + b)) 4 (body t) fine,
              (
                ap (counts_check 0 (4 + suc (a + b) * k)) es ∙ counts_pass n 0 (4 + suc (a + b) * k) t.rows w.rising (omega (arith, w.few_moves)),
                (
                  need_from _ _ (eq-eqb (length (target_bytes n a b (body t))) (2 * last_of 0 (u16s (count_bytes n a b (body t)))) fill),
                  (
                    ap (rows_check n (4 + suc (a + b) * k + 2 * n)) moves ∙ rows_pass n (4 + suc (a + b) * k + 2 * n) t.rows w.rising,
                    (need_from _ _ (ap not (ap none first ∙ w.some_start)), tt),
                  ),
                ),
              ),
            ),
          ),
        ),
      ),
    ) in
    ap₂ given passes same

pub layout_is_accepted : LayoutIsAccepted
layout_is_accepted t w =
    let e : t.size % 256 + t.size / 256 * 256 ≡ t.size = omega arith in
    long_enough (t.size % 256) (t.size / 256) (length t.atoms) (length t.fairs) (body t) _
    ∙ ap (λ n. read_body n (length t.atoms) (length t.fairs) (body t)) e
    ∙ body_read t w
