-- What weeks are worth with nobody out, and all OFF costs and prices, a turn of each loop at a time.
-- Assumes nothing.
use Prim.Native.Nat.{ℕ, ◌+◌, ◌*◌, ◌≤◌, ◌<◌}
use mathlib.Core.Path.{◌≡◌, sym, ◌∙◌, ap₂, subst}
use mathlib.Core.Bool.{true}
use mathlib.Core.List.{List}
use native.Mathlib.Nat.{mul-le-mul_right}
use native.Mathlib.Decide.{ℕ_discrete}
use native.Mathlib.Omega.{arith}
use lib.ListN.{get_or, set}
use lib.Seq.{get_or-set_same, get_or-set_other}
use mir.Syntax.{w32}
use mir.Val.{Fits}
use Rattle.sums.specs.Sum.{sum_to, added, transposed, row_sum}
use Rattle.sums.specs.NumSet.{has}
use Rattle.sums.proofs.SumLaws.{sum_same, sum_at_most, sum_added, exchange}
use Rattle.model.specs.Domain.{permitted}
use Rattle.model.proofs.DomainLaws.{permits_ends}
use Rattle.model.proofs.FileLaws.{fair}
use Rattle.instance.specs.declared.file.File.{File}
use Rattle.instance.specs.File.{problem}
use Rattle.instance.specs.Filed.{Filed}
use Rattle.overhaul.specs.Off.{off_weeks}
use Rattle.blame.specs.Priced.{price_sum, off_sum}
use Rattle.tables.specs.Tables.{START_COSTS, ROOT_VALUES, TOTAL, MOST_PRICE, MOST_OFF, price_in, least_in, excess_in, root_in, total_in, unit_total, Priced, Begins}
use Rattle.tables.proofs.TableLaws.{price_most, begins_put, begins_prices, begins_priced}
use Rattle.relaxation.specs.Relaxed.{Value, MemoTrue}
use Rattle.dual.specs.Dual.{Costs, Dual}
use Rattle.dual.specs.Made.{CostsMade, RootsMade}

-- ---- all OFF costs and all prices

-- unit by unit they are the sum week by week
total_is : (file : File) (us : List ℕ) → Priced (problem file) us
    → sum_to file.layout.units (unit_total us file.layout.weeks) ≡ off_sum (problem file) + price_sum (problem file) (price_in us)
unfolding unit_total off_sum price_sum off_weeks row_sum added
total_is file us priced =
    let p = problem file in
    rw (← file.filed.units_are, ← file.filed.weeks_are)
    (sum_same p.units (unit_total us p.weeks) (added (row_sum p.weeks (transposed p.off)) (row_sum p.weeks (transposed (price_in us)))) each
    ∙ sum_added p.units (row_sum p.weeks (transposed p.off)) (row_sum p.weeks (transposed (price_in us)))
    ∙ ap₂ (λ (a b : ℕ). a + b) (sym (exchange p.weeks p.units p.off)) (sym (exchange p.weeks p.units (price_in us))))
  where
    each : (i : ℕ) → i < (problem file).units
        → unit_total us (problem file).weeks i ≡ added (row_sum (problem file).weeks (transposed (problem file).off)) (row_sum (problem file).weeks (transposed (price_in us))) i
    each i few = rw (priced.offs.each i few)

-- no unit has more than 52 weeks OFF and 52 prices
total_most : (file : File) (us : List ℕ) → Priced (problem file) us
    → sum_to file.layout.units (unit_total us file.layout.weeks) ≤ file.layout.units * (MOST_OFF + 52 * MOST_PRICE)
unfolding unit_total transposed
total_most file us priced = sum_at_most file.layout.units (MOST_OFF + 52 * MOST_PRICE) (unit_total us file.layout.weeks) each
  where
    each : (i : ℕ) → i < file.layout.units → unit_total us file.layout.weeks i ≤ MOST_OFF + 52 * MOST_PRICE
    each i few =
        omega (
          arith,
          priced.offs.small i (omega (arith, file.filed.units_are)),
          sum_at_most file.layout.weeks MOST_PRICE (transposed (price_in us) i) (λ t m. price_most us t i priced.prices),
          mul-le-mul_right MOST_PRICE file.filed.weeks_most,
        )

-- ---- what weeks are worth

-- no week yet
pub roots_start : (file : File) (us xs : List ℕ) → CostsMade file us file.layout.units xs → RootsMade file us 0 xs
roots_start file us xs made = record { made = made; roots = record { each = λ t b. absurd (omega arith) } }

-- all units' costs stay where a word behind them is written
costs_beside : (file : File) (us xs : List ℕ) (k v : ℕ) → ROOT_VALUES ≤ k → CostsMade file us file.layout.units xs
    → CostsMade file us file.layout.units (set xs k v)
unfolding least_in excess_in
costs_beside file us xs k v far h = record {
  priced = h.priced;
  begins = begins_put START_COSTS us xs k v h.begins (omega arith);
  costs = record {
    exact = λ i s m e.
        let few = start_few i s m e in
        omega (
          arith,
          h.costs.exact i s m e,
          other (START_COSTS + i * 64) (omega (arith, f.units_most)),
          other (START_COSTS + i * 64 + s) (omega (arith, f.units_most)),
        );
    small = λ i m. omega (arith, h.costs.small i m, other (START_COSTS + i * 64) (omega (arith, f.units_most)));
  };
}
  where
    f : Filed file.words.now file.layout
    f = file.filed

    other : (n : ℕ) → n < ROOT_VALUES → get_or (set xs k v) n 0 ≡ get_or xs n 0
    other n m = get_or-set_other xs k n v 0 (λ z. omega arith)

    start_few : (i s : ℕ) → i < file.layout.units → permitted (problem file) i s ≡ true → s ≤ 52
    start_few i s m e =
        omega (
          arith,
          permits_ends (problem file) i s e,
          (fair file.words.now f.passed).some_weeks i (omega (arith, f.units_are)),
          f.weeks_are,
          f.weeks_most,
        )

-- one more
pub roots_next : (file : File) (us xs : List ℕ) (t v : ℕ) → RootsMade file us t xs → t < file.layout.weeks
    → Value (problem file) (price_in us) t (has 0) v → RootsMade file us (t + 1) (set xs (ROOT_VALUES + t) v)
unfolding root_in
roots_next file us xs t v h more w = record {
  made = costs_beside file us xs (ROOT_VALUES + t) v (omega arith) h.made;
  roots = record { each = λ q m. by q m (ℕ_discrete q t) };
}
  where
    by : (q : ℕ) → q < t + 1 → Dec (q ≡ t) → Value (problem file) (price_in us) q (has 0) (get_or (set xs (ROOT_VALUES + t) v) (ROOT_VALUES + q) 0)
    by q m (yes e) = rw (e, get_or-set_same xs (ROOT_VALUES + t) v 0 (omega (arith, h.made.begins.long, file.filed.weeks_most))) w
    by q m (no e) = rw (get_or-set_other xs (ROOT_VALUES + t) (ROOT_VALUES + q) v 0 (λ z. e (omega arith))) (h.roots.each q (omega arith))

-- all of them
pub roots_ended : (file : File) (us xs : List ℕ) (t n : ℕ) → RootsMade file us t xs → t ≤ n → n ≤ t → RootsMade file us n xs
roots_ended file us xs t n h a b = let e : t ≡ n = omega arith in rw e at h

-- ---- all of it

module _ (file : File) (us xs : List ℕ) (v : ℕ) (h : RootsMade file us file.layout.weeks xs) where
  begins : Begins START_COSTS us (set xs TOTAL v)
  begins = begins_put START_COSTS us xs TOTAL v h.made.begins (omega arith)

  same : price_in (set xs TOTAL v) ≡ price_in us
  same = begins_prices START_COSTS us (set xs TOTAL v) begins (omega arith)

  -- the total is a word
  pub total_fits : v ≡ sum_to file.layout.units (unit_total us file.layout.weeks) → Fits w32 v
  total_fits is = record {
    fits = omega (arith, file.filed.units_most, total_most file us h.made.priced, mul-le-mul_right (MOST_OFF + 52 * MOST_PRICE) file.filed.units_most);
  }

  -- with it in its place the table has all its parts
  pub dual_of : v ≡ sum_to file.layout.units (unit_total us file.layout.weeks) → Dual (problem file) (set xs TOTAL v)
  unfolding root_in total_in
  dual_of is = record {
    priced = begins_priced file START_COSTS us (set xs TOTAL v) begins (omega arith) h.made.priced;
    costs = rw same (subst (λ (n : ℕ). Costs (problem file) (price_in us) n (set xs TOTAL v)) (sym file.filed.units_are)
        (costs_beside file us xs TOTAL v (omega arith) h.made).costs);
    roots = rw same (record {
      each = λ t m.
          rw (get_or-set_other xs TOTAL (ROOT_VALUES + t) v 0 (λ z. omega (arith, file.filed.weeks_most, file.filed.weeks_are)))
          (h.roots.each t (omega (arith, file.filed.weeks_are)));
    });
    total = get_or-set_same xs TOTAL v 0 (omega (arith, h.made.begins.long)) ∙ rw same (is ∙ total_is file us h.made.priced);
  }

  -- a memo recalls at its prices
  pub recalls_of : (memo : List ℕ) → MemoTrue (problem file) (price_in us) memo → MemoTrue (problem file) (price_in (set xs TOTAL v)) memo
  recalls_of memo r = rw same r
