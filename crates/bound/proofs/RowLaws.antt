-- Words of sets and of tallies: sets of 16 units, a word and the tally it holds, and rows of words with one unit more out in the weeks of its
-- overhaul, a week at a time.
-- Assumes nothing.
use Prim.Native.Nat.{ℕ, ◌+◌, ◌*◌, ◌-◌, ◌/◌, ◌%◌, ◌^◌, ◌≤◌, ◌<◌}
use mathlib.Core.Path.{◌≡◌, refl, sym, ◌∙◌, ap, subst}
use mathlib.Core.Bool.{Bool, true, false, ◌&&◌, ◌||◌}
use mathlib.Core.List.{List}
use mathlib.Core.Logic.{⊎_elim}
use native.Mathlib.Decide.{ℕ_discrete}
use native.Mathlib.Nat.{eq-or-lt_of_le, mul-le-mul_right, div-eq_of_lt}
use native.Mathlib.Omega.{arith}
use lib.Dec.{eqb}
use lib.ListN.{length, get_or, set, replicate, length-set, length-replicate}
use lib.Pow.{pow_mono}
use lib.Seq.{get_or-set_same, get_or-set_other}
use borrow.Author.Tests.{ne_eqb}
use Rattle.sums.specs.Sum.{sum_to, counts_one, shifted}
use Rattle.sums.specs.Range.{some_to, first_to}
use Rattle.sums.specs.NumSet.{NumSet, only_in, power, number_of, has, with}
use Rattle.sums.specs.Table.{entry}
use Rattle.sums.proofs.LogicLaws.{or_last_false, and_last_false, and_last_true, same_test, not_so}
use Rattle.sums.proofs.SumLaws.{sum_zero, sum_cut}
use Rattle.sums.proofs.RangeLaws.{none_at_lem, first_is}
use Rattle.sums.proofs.LoopLaws.{zeros_at}
use Rattle.sums.proofs.NumSetLaws.{sum_over, number_below, number_own, zero_has}
use Rattle.sets.specs.Sets.{SETS}
use Rattle.model.specs.Problem.{Problem}
use Rattle.model.specs.Rules.{headcount}
use Rattle.model.specs.Schedule.{in_span, out_in}
use Rattle.model.specs.Commitment.{out_cost}
use Rattle.model.proofs.DomainLaws.{permits_from, permits_ends, span_from, span_below, span_of}
use Rattle.model.proofs.FileLaws.{ranged, fair}
use Rattle.instance.specs.declared.file.File.{File}
use Rattle.instance.specs.File.{problem}
use Rattle.commitment.specs.declared.Tally.{Tally}
use Rattle.commitment.specs.Tally.{Tallies}
use Rattle.commitment.proofs.TallyLaws.{tally_none}
use Rattle.blame.specs.Placed.{out_of, partly}
use Rattle.blame.proofs.PlacedLaws.{out_none, partly_all}
use Rattle.bound.specs.Rows.{COUNTS, MOST_OUT, tally_of, word_of, Packs, RowJoins, Rows, RowsDue, RowsWith}

-- ---- sets of 16 units

-- a number below 2^16 has no place from 16 on
pub high_none : (x i : ℕ) → x < SETS → 16 ≤ i → has x i ≡ false
unfolding has
high_none x i l h =
    let m : 2 ^ 16 ≤ 2 ^ i = pow_mono h in
    let s : x < 2 ^ i = omega arith in
    ap (λ (z : ℕ). eqb (z % 2) 1) (div-eq_of_lt s)

-- a number without a place from 16 on is below 2^16
pub set_small : (r : ℕ) → r < 4294967296 → ((i : ℕ) → 16 ≤ i → has r i ≡ false) → r < SETS
unfolding number_of only_in shifted
set_small r l none =
    let own : number_of 32 (has r) ≡ r = number_own 32 r (omega arith) in
    let cut : sum_to 32 (only_in (has r) power) ≡ sum_to 16 (only_in (has r) power) + sum_to 16 (shifted 16 (only_in (has r) power))
    = sum_cut 16 16 (only_in (has r) power) in
    let zero : sum_to 16 (shifted 16 (only_in (has r) power)) ≡ 0
    = sum_zero 16 (shifted 16 (only_in (has r) power)) (λ k h. rw (none (16 + k) (omega arith))) in
    omega (arith, own, cut, zero, number_below 16 (has r))

-- a set that is not empty has a member
pub record Member (r : ℕ) : Type 0 where
  pub unit : ℕ
  pub holds : has r unit ≡ true

-- the first of its places
pub some_member : (r : ℕ) → r < 4294967296 → (r ≡ 0 → ⊥) → Member r
unfolding number_of only_in
some_member r l ne = go (some_to 32 (has r)) refl
  where
    go : (b : Bool) → some_to 32 (has r) ≡ b → Member r
    go true e = record { unit = first_to 32 (has r); holds = (first_is 32 (has r) e).holds }
    go false e =
        let own : number_of 32 (has r) ≡ r = number_own 32 r (omega arith) in
        let none : sum_to 32 (only_in (has r) power) ≡ 0 = sum_zero 32 (only_in (has r) power) (λ k h. rw (none_at_lem 32 (has r) e k h)) in
        absurd (ne (omega (arith, own, none)))

-- one unit more of the first 16
pub joined_small : (x r i : ℕ) → x < SETS → r < 4294967296 → i < 16 → ((k : ℕ) → has r k ≡ (has x k || eqb k i)) → r < SETS
joined_small x r i l b h e =
    set_small r b (λ k m. e k ∙ rw (high_none x k l m, ne_eqb k i (λ q. omega arith)))

-- ---- a word and its tally

-- the word of a tally holds it
pub word_tally : (y : Tally) (r : ℕ) → Packs y → r ≡ word_of y → tally_of r ≡ y
unfolding word_of
word_tally y r g e =
    let a : r % SETS ≡ y.out = omega (arith, g.few, g.many, e) in
    let q : r / SETS ≡ y.cost.0 * COUNTS + y.count = omega (arith, g.few, e) in
    let b : r / SETS % COUNTS ≡ y.count = rw q (omega (arith, g.many)) in
    let c : r / SETS / COUNTS ≡ y.cost.0 = omega (arith, g.few, g.many, e) in
    rw (a, b, c)

-- how many are out, and what they cost in a week
module _ (file : File) (out : NumSet) where
  -- no more than 16
  pub count_small : headcount (problem file) out ≤ 16
  unfolding headcount counts_one
  count_small =
      let p = problem file in
      let b = sum_over p.units 1 out counts_one (λ i d. omega arith) in
      omega (arith, (ranged file.words.now file.filed.passed).units_most)

  -- no more than 16 times the dearest
  pub out_small : (t : ℕ) → t < file.layout.weeks → out_cost (problem file) t out ≤ MOST_OUT
  unfolding out_cost
  out_small t h =
      let p = problem file in
      let g = ranged file.words.now file.filed.passed in
      let b = sum_over p.units 250000 out (p.maint t) (λ i d. g.maint_most t i (omega (arith, file.filed.weeks_are)) d) in
      omega (arith, mul-le-mul_right 250000 g.units_most)

-- the tally that was read from a word is a right one
pub tally_read : (p : Problem) (t word : ℕ) (y : Tally) → y ≡ tally_of word → Tallies p t (tally_of word) → Tallies p t y
tally_read p t word y e w = subst (Tallies p t) (sym e) w

module _ (file : File) (t i word : ℕ) (y z : Tally) (h : t < file.layout.weeks) (hi : i < file.layout.units) (e : y ≡ tally_of word)
    (b : z.out < 4294967296) (w : Tallies (problem file) t z) (j : (k : ℕ) → has z.out k ≡ (has y.out k || eqb k i)) where
  read_joined : (k : ℕ) → has z.out k ≡ (has (word % SETS) k || eqb k i)
  read_joined k = j k ∙ rw e

  -- the tally of a word with one unit more fits into a word
  pub packs_joined : Packs z
  packs_joined = record {
    few = joined_small (word % SETS) z.out i (omega arith) b (omega (arith, file.filed.units_most)) read_joined;
    many = omega (arith, w.many, count_small file (has z.out));
    cheap = omega (arith, w.sum, out_small file (has z.out) t h);
  }

  -- which holds it
  pub word_tallies : (r : ℕ) → r ≡ word_of z → Tallies (problem file) t (tally_of r)
  word_tallies r q = subst (Tallies (problem file) t) (sym (word_tally z r packs_joined q)) w

  -- with that unit
  pub word_joins : (r : ℕ) → r ≡ word_of z → RowJoins word i r
  word_joins r q = record { sets = λ k. ap (λ (x : Tally). has x.out k) (word_tally z r packs_joined q) ∙ read_joined k }

-- ---- rows before any unit is placed

-- words of 0 are the tallies of nobody
pub rows_none : (p : Problem) (starts : ℕ → ℕ) (rows : List ℕ) → rows ≡ replicate 52 0 → Rows p (out_of p (has 0) starts) rows
rows_none p starts rows e = record {
  long = ap (λ (xs : List ℕ). length xs) e ∙ length-replicate {A = ℕ} 52 0;
  tallies = λ t l. subst (λ (x : ℕ). Tallies p t (tally_of x)) (sym (zero t)) (tally_none p t);
  sets = λ t l i. ap (λ (x : ℕ). has (x % SETS) i) (zero t) ∙ (zero_has i ∙ sym (out_none p (has 0) starts t i (zero_has i)));
}
  where
    zero : (t : ℕ) → get_or rows t 0 ≡ 0
    zero t = ap (λ (xs : List ℕ). get_or xs t 0) e ∙ zeros_at 52 t

-- ---- a unit to be placed

module _ (file : File) (rows starts : List ℕ) (j : ℕ) (d : RowsDue (problem file) rows (entry starts) j) where
  -- it is one of the file's
  pub due_unit : j < file.layout.units
  due_unit = omega (arith, d.unit, file.filed.units_are)

  -- one of 16
  pub due_few : j < 16
  due_few = omega (arith, due_unit, file.filed.units_most)

  -- its start counts from 1
  pub due_some : 1 ≤ get_or starts j 0
  unfolding entry
  due_some = omega (arith, permits_from (problem file) j (entry starts j) d.permits, (fair file.words.now file.filed.passed).from_one j d.unit)

  -- its overhaul ends in the season
  pub due_ends : (weeks : ℕ) → weeks ≡ (problem file).duration j → get_or starts j 0 - 1 + weeks ≤ file.layout.weeks
  unfolding entry
  due_ends weeks e = omega (arith, due_some, permits_ends (problem file) j (entry starts j) d.permits, file.filed.weeks_are)

  -- the rows hold the tallies of its weeks
  pub due_tally : (first k weeks : ℕ) → first + weeks ≤ file.layout.weeks → k < weeks → Tallies (problem file) (first + k) (tally_of (get_or rows (first + k) 0))
  due_tally first k weeks e b = d.tallies (first + k) (omega (arith, file.filed.weeks_are))

-- ---- rows with one unit more, a week at a time

-- the rows as they were, with unit j out in k weeks from week first on
pub record RowsTo (p : Problem) (rows : List ℕ) (j first k : ℕ) (next : List ℕ) : Type 0 where
  pub long : length next ≡ 52
  pub tallies : (t : ℕ) → t < p.weeks → Tallies p t (tally_of (get_or next t 0))
  pub sets : (t : ℕ) → t < p.weeks → (i : ℕ)
      → has (get_or next t 0 % SETS) i ≡ (has (get_or rows t 0 % SETS) i || (eqb i j && in_span (first + 1) k t))

-- none yet
pub rows_start : (p : Problem) (rows : List ℕ) (starts : ℕ → ℕ) (j first : ℕ) → RowsDue p rows starts j → RowsTo p rows j first 0 rows
rows_start p rows starts j first d = record {
  long = d.long;
  tallies = d.tallies;
  sets = λ t l i.
      let x : in_span (first + 1) 0 t ≡ false = not_so (in_span (first + 1) 0 t)
      (λ e. omega (arith, span_from (first + 1) 0 t e, span_below (first + 1) 0 t e)) in
      sym (rw (x, and_last_false (eqb i j)) (or_last_false (has (get_or rows t 0 % SETS) i)));
}

-- one week more
pub rows_next : (file : File) (rows next : List ℕ) (j first k weeks r : ℕ) → RowsTo (problem file) rows j first k next
    → first + weeks ≤ file.layout.weeks → k < weeks → Tallies (problem file) (first + k) (tally_of r) → RowJoins (get_or rows (first + k) 0) j r
    → RowsTo (problem file) rows j first (k + 1) (set next (first + k) r)
rows_next file rows next j first k weeks r h end b w g = record {
  long = length-set next (first + k) r ∙ h.long;
  tallies = λ t d. tallies t d (ℕ_discrete t (first + k));
  sets = λ t d i. sets t d i (ℕ_discrete t (first + k));
}
  where
    p : Problem
    p = problem file

    same : get_or (set next (first + k) r) (first + k) 0 ≡ r
    same = get_or-set_same next (first + k) r 0 (omega (arith, h.long, file.filed.weeks_most))

    other : (t : ℕ) → (t ≡ first + k → ⊥) → get_or (set next (first + k) r) t 0 ≡ get_or next t 0
    other t ne = get_or-set_other next (first + k) t r 0 ne

    below : (t : ℕ) → (t ≡ first + k → ⊥) → t + 1 < first + 1 + (k + 1) → t + 1 < first + 1 + k
    below t ne h = ⊎_elim (λ (e : t ≡ first + k). absurd (ne e)) (λ (m : t < first + k). omega arith) (eq-or-lt_of_le (omega arith))

    tallies : (t : ℕ) → t < p.weeks → Dec (t ≡ first + k) → Tallies p t (tally_of (get_or (set next (first + k) r) t 0))
    tallies t d (yes e) =
        subst (λ (z : ℕ). Tallies p z (tally_of (get_or (set next (first + k) r) z 0))) (sym e)
        (subst (λ (x : ℕ). Tallies p (first + k) (tally_of x)) (sym same) w)
    tallies t d (no e) = subst (λ (x : ℕ). Tallies p t (tally_of x)) (sym (other t e)) (h.tallies t d)

    sets : (t : ℕ) → t < p.weeks → (i : ℕ) → Dec (t ≡ first + k)
        → has (get_or (set next (first + k) r) t 0 % SETS) i ≡ (has (get_or rows t 0 % SETS) i || (eqb i j && in_span (first + 1) (k + 1) t))
    sets t d i (yes e) =
        let x : in_span (first + 1) (k + 1) (first + k) ≡ true = span_of (first + 1) (k + 1) (first + k) (omega arith) (omega arith) in
        rw (e, same, x, and_last_true (eqb i j)) (g.sets i)
    sets t d i (no e) =
        let x : in_span (first + 1) (k + 1) t ≡ in_span (first + 1) k t
        = same_test (in_span (first + 1) (k + 1) t) (in_span (first + 1) k t)
        (λ s. span_of (first + 1) k t (span_from (first + 1) (k + 1) t s) (below t e (span_below (first + 1) (k + 1) t s)))
        (λ s. span_of (first + 1) (k + 1) t (span_from (first + 1) k t s) (omega (arith, span_below (first + 1) k t s))) in
        rw (other t e, x) (h.sets t d i)

-- all weeks of its overhaul
pub rows_ended : (file : File) (rows starts next : List ℕ) (j k weeks : ℕ) → RowsDue (problem file) rows (entry starts) j
    → weeks ≡ (problem file).duration j → k ≤ weeks → weeks ≤ k → RowsTo (problem file) rows j (get_or starts j 0 - 1) k next
    → RowsWith (problem file) rows (entry starts) j next
unfolding out_in entry
rows_ended file rows starts next j k weeks d e a b h = record {
  long = h.long;
  tallies = h.tallies;
  sets = λ t m i.
      let q : k ≡ (problem file).duration j = omega arith in
      let s : get_or starts j 0 - 1 + 1 ≡ get_or starts j 0 = omega (arith, due_some file rows starts j d) in
      h.sets t m i ∙ rw (q, s);
}

-- one unit more is placed
pub rows_joined : (p : Problem) (rows : List ℕ) (b : NumSet) (starts : ℕ → ℕ) (j : ℕ) (next : List ℕ) → Rows p (out_of p b starts) rows
    → RowsWith p rows starts j next → Rows p (out_of p (with b j) starts) next
unfolding partly out_in
rows_joined p rows b starts j next h w = record {
  long = w.long;
  tallies = w.tallies;
  sets = λ t m i. w.sets t m i ∙ rw (h.sets t m i) (partly_all p b starts j t i);
}

-- ---- a row word read

pub row_units_of : (word : ℕ) (y : Tally) → y ≡ tally_of word → y.out ≡ word % SETS
row_units_of word y e = ap (λ (x : Tally). x.out) e

pub row_count_of : (word : ℕ) (y : Tally) → y ≡ tally_of word → y.count ≡ word / SETS % COUNTS
row_count_of word y e = ap (λ (x : Tally). x.count) e
