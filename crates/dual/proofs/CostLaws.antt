-- What overhauls cost at prices, a turn of each loop at a time: a week more of an overhaul, the least of a unit's permitted starts, and a table of
-- what each unit costs from each start.
-- Assumes nothing.
use Prim.Native.Nat.{ℕ, min, suc, ◌+◌, ◌*◌, ◌-◌, ◌≤◌, ◌<◌}
use mathlib.Core.Path.{◌≡◌, sym, ◌∙◌, ap, subst}
use mathlib.Core.Bool.{Bool, true, false}
use mathlib.Core.List.{List}
use native.Mathlib.Decide.{ℕ_discrete}
use native.Mathlib.Omega.{arith}
use lib.ListN.{length, get_or, set}
use lib.Seq.{get_or-set_same, get_or-set_other}
use Rattle.sums.specs.Logic.{if}
use Rattle.sums.specs.Sum.{sum_to, added, transposed, shifted}
use Rattle.sums.specs.NumSet.{NumSet, only_in, parts}
use Rattle.sums.proofs.SumLaws.{sum_same, sum_added}
use Rattle.sums.proofs.LoopLaws.{sum_next, sum_ended}
use Rattle.model.specs.Problem.{Problem}
use Rattle.model.specs.Domain.{permitted}
use Rattle.model.specs.Schedule.{in_span}
use Rattle.model.specs.Words.{problem_of}
use Rattle.model.proofs.DomainLaws.{permits_ends}
use Rattle.model.proofs.FileLaws.{fair}
use Rattle.instance.specs.declared.file.File.{File}
use Rattle.instance.specs.File.{problem}
use Rattle.overhaul.specs.Range.{StartRange}
use Rattle.overhaul.specs.Off.{off_weeks}
use Rattle.overhaul.proofs.StartLaws.{range_in, range_at}
use Rattle.overhaul.proofs.SpanLaws.{span_sum_lem}
use Rattle.overhaul.proofs.UpkeepLaws.{start_some, ends_within}
use Rattle.blame.specs.Priced.{priced}
use Rattle.tables.specs.Tables.{TABLES, START_COSTS, price_in, off_in, least_in, excess_in, Priced}
use Rattle.tables.proofs.TableLaws.{begins_put}
use Rattle.dual.specs.Dual.{MOST_OVERHAUL, MOST_SPAN, span_sum, LeastFrom}
use Rattle.dual.specs.Made.{UnitAt, StartAt, CostsMade, CostsTo}

-- ---- an overhaul

-- what unit i costs in a week, its price included
abbrev pub priced_week : (ws us : List ℕ) → ℕ → ℕ → ℕ
priced_week ws us i = added (transposed (problem_of ws).maint i) (transposed (price_in us) i)

-- one more week
pub priced_next : (ws us : List ℕ) (i a k s c v m r : ℕ) → s ≡ sum_to k (shifted a (priced_week ws us i)) → c ≡ (problem_of ws).maint (a + k) i
    → v ≡ price_in us (a + k) i → m ≡ c + v → r ≡ s + m → r ≡ sum_to (k + 1) (shifted a (priced_week ws us i))
unfolding shifted added transposed
priced_next ws us i a k s c v m r hs hc hv hm hr = sum_next (shifted a (priced_week ws us i)) k s m r hs (omega arith) hr

-- and what it would cost OFF
pub inside_next : (ws : List ℕ) (i a k s v r : ℕ) → s ≡ sum_to k (shifted a (transposed (problem_of ws).off i)) → v ≡ (problem_of ws).off (a + k) i
    → r ≡ s + v → r ≡ sum_to (k + 1) (shifted a (transposed (problem_of ws).off i))
unfolding shifted transposed
inside_next ws i a k s v r = sum_next (shifted a (transposed (problem_of ws).off i)) k s v r

-- all its weeks
pub span_ended : (file : File) (g : ℕ → ℕ) (i start k d r : ℕ) → StartAt file i start → d ≡ (problem file).duration i → k ≤ d → d ≤ k → r ≡ sum_to k (shifted (start - 1) g) → r ≡ span_sum (problem file) i start g
unfolding span_sum
span_ended file g i start k d r at is m n t =
    let p = problem file in
    let f = file.filed in
    let h = at.unit in
    let e = at.permits in
    let s : start ≡ suc (start - 1) = omega (arith, start_some file i start h e) in
    let b : start - 1 + p.duration i ≤ p.weeks = omega (arith, ends_within file i start h e d is, f.weeks_are) in
    sum_ended (shifted (start - 1) g) k d r t m n
    ∙ ap (λ (z : ℕ). sum_to z (shifted (start - 1) g)) is
    ∙ sym (span_sum_lem (start - 1) (p.duration i) g p.weeks b)
    ∙ ap (λ (z : ℕ). span_sum p i z g) (sym s)

-- one term in a set and another elsewhere, or the other everywhere: they differ by both over the set
parts_shifted : (n : ℕ) (a : NumSet) (g f : ℕ → ℕ) → sum_to n (parts a g f) + sum_to n (only_in a f) ≡ sum_to n (only_in a g) + sum_to n f
unfolding parts only_in added
parts_shifted n a g f =
    sym (sum_added n (parts a g f) (only_in a f))
    ∙ sum_same n (added (parts a g f) (only_in a f)) (added (only_in a g) f) (λ k l. go k (a k))
    ∙ sum_added n (only_in a g) f
  where
    go : (k : ℕ) (b : Bool) → if b (g k) (f k) + if b (f k) 0 ≡ if b (g k) 0 + f k
    go k true = omega arith
    go k false = omega arith

-- so an overhaul with OFF in all other weeks comes from sums over its own weeks and OFF in all
priced_shifted : (p : Problem) (u : ℕ → ℕ → ℕ) (i s : ℕ) → priced p u i s + span_sum p i s (transposed p.off i)
    ≡ span_sum p i s (added (transposed p.maint i) (transposed u i)) + off_weeks p i
unfolding priced span_sum off_weeks
priced_shifted p u i s =
    parts_shifted p.weeks (in_span s (p.duration i)) (added (transposed p.maint i) (transposed u i)) (transposed p.off i)

-- as the code adds and takes off
pub priced_is : (file : File) (us : List ℕ) (i s c o a q r : ℕ) → StartAt file i s → Priced (problem file) us
    → c ≡ span_sum (problem file) i s (priced_week file.words.now us i) → o ≡ off_in us i → a ≡ c + o → q ≡ span_sum (problem file) i s (transposed (problem file).off i) → r ≡ a - q → r ≡ priced (problem file) (price_in us) i s
priced_is file us i s c o a q r at priced ec eo ea eq er =
    omega (arith, priced_shifted (problem file) (price_in us) i s, priced.offs.each i (omega (arith, at.unit, file.filed.units_are)))

-- no more than the weeks of the overhaul and OFF in all of them
pub priced_small : (file : File) (us : List ℕ) (i s c o a q r : ℕ) → StartAt file i s → Priced (problem file) us → c ≤ MOST_SPAN
    → o ≡ off_in us i → a ≡ c + o → r ≡ a - q → r ≤ MOST_OVERHAUL
priced_small file us i s c o a q r at priced few eo ea er =
    let unit : i < (problem file).units = omega (arith, at.unit, file.filed.units_are) in
    omega (arith, priced.offs.small i unit)

-- ---- the least of a unit's starts

-- a loop over the permitted starts of unit i, from a to below b, stands at s
pub record StartsTo (p : Problem) (i a b s : ℕ) : Type 0 where
  pub range : StartRange p i a (b - 1)
  pub some : 1 ≤ b
  pub from : a ≤ s

-- at the first
pub starts_begin : (p : Problem) (i a b : ℕ) → StartRange p i a b → StartsTo p i a (b + 1) a
starts_begin p i a b g = record {
  range = let e : b ≡ b + 1 - 1 = omega arith in subst (StartRange p i a) e g;
  some = omega arith;
  from = omega arith;
}

module _ (p : Problem) (i a b s : ℕ) (h : StartsTo p i a b s) where
  -- where it stands is one of them
  pub starts_permit : s < b → permitted p i s ≡ true
  starts_permit l = range_in p i a (b - 1) s h.range h.from (omega arith)

  -- at the next
  pub starts_next : StartsTo p i a b (s + 1)
  starts_next = record { range = h.range; some = h.some; from = omega (arith, h.from) }

  -- behind the last there is none
  pub starts_ended : b ≤ s → (q : ℕ) → permitted p i q ≡ true → q < s
  starts_ended l q e = omega (arith, h.some, (range_at p i a (b - 1) q h.range e).1)

-- the permitted starts of unit i below s cost at least v
pub record LeastTo (p : Problem) (u : ℕ → ℕ → ℕ) (i s v : ℕ) : Type 0 where
  pub below : (q : ℕ) → q < s → permitted p i q ≡ true → v ≤ priced p u i q
  pub small : v ≤ MOST_OVERHAUL

-- none yet
pub least_start : (p : Problem) (u : ℕ → ℕ → ℕ) (i a b : ℕ) → StartRange p i a b → LeastTo p u i a MOST_OVERHAUL
least_start p u i a b g = record { below = λ q l e. absurd (omega (arith, (range_at p i a b q g e).0)); small = omega arith }

-- one more: the smaller of the two
pub least_next : (p : Problem) (u : ℕ → ℕ → ℕ) (i s v c r : ℕ) → LeastTo p u i s v → c ≡ priced p u i s → r ≡ min v c → LeastTo p u i (s + 1) r
least_next p u i s v c r h e less = record { below = λ q l t. by q l t (ℕ_discrete q s); small = omega (arith, h.small, less) }
  where
    by : (q : ℕ) → q < s + 1 → permitted p i q ≡ true → Dec (q ≡ s) → r ≤ priced p u i q
    by q l t (yes z) = rw z (omega (arith, e, less))
    by q l t (no z) = omega (arith, less, h.below q (omega arith) t)

-- all of them
pub least_ended : (p : Problem) (u : ℕ → ℕ → ℕ) (i a b s v : ℕ) → StartsTo p i a b s → LeastTo p u i s v → b ≤ s → LeastFrom p u i v
least_ended p u i a b s v g h l = record { below = λ q t. h.below q (starts_ended p i a b s g l q t) t }

-- never more than an overhaul of 52 weeks can cost
pub least_most : (p : Problem) (u : ℕ → ℕ → ℕ) (i s v : ℕ) → LeastTo p u i s v → v ≤ MOST_OVERHAUL
least_most p u i s v h = h.small

-- the next start of a unit
pub least_at : (file : File) (us : List ℕ) (i a b s : ℕ) → UnitAt file us i → StartsTo (problem file) i a b s → s < b → StartAt file i s
least_at file us i a b s at h more = record { unit = at.unit; permits = starts_permit (problem file) i a b s h more }

-- it costs no less than the least
pub least_above : (p : Problem) (u : ℕ → ℕ → ℕ) (i s c v : ℕ) → LeastFrom p u i v → permitted p i s ≡ true → c ≡ priced p u i s → v ≤ c
least_above p u i s c v h e is = omega (arith, h.below s e)

-- by so much it costs more
pub least_rest : (p : Problem) (u : ℕ → ℕ → ℕ) (i s c v : ℕ) → LeastFrom p u i v → permitted p i s ≡ true → c ≡ priced p u i s
    → v + (c - v) ≡ priced p u i s
least_rest p u i s c v h e is = omega (arith, h.below s e)

-- ---- a table of all units' costs

-- nothing yet
pub costs_start : (file : File) (us xs : List ℕ) → Priced (problem file) us → xs ≡ us → CostsMade file us 0 xs
costs_start file us xs priced same = record {
  priced = priced;
  begins = record { long = ap (length {A = ℕ}) same ∙ priced.long; same = λ k l. ap (λ (ys : List ℕ). get_or ys k 0) same };
  costs = record { exact = λ i s l. absurd (omega arith); small = λ i l. absurd (omega arith) };
}

module _ (file : File) (us : List ℕ) (i : ℕ) (unit : i < file.layout.units) where
  abbrev p : Problem
  p = problem file

  -- there are 16 units at most
  in_table : i < 16
  in_table = omega (arith, unit, file.filed.units_most)

  -- a permitted start is one of 52
  start_few : (k q : ℕ) → k < file.layout.units → permitted p k q ≡ true → q ≤ 52
  start_few k q m e =
      omega (arith, permits_ends p k q e, (fair file.words.now file.filed.passed).some_weeks k (omega (arith, file.filed.units_are)), file.filed.weeks_are, file.filed.weeks_most)

  -- what is written from unit i's place on leaves the units below it
  keeps : (table : List ℕ) (place v : ℕ) → START_COSTS + i * 64 ≤ place → CostsMade file us i table → CostsMade file us i (set table place v)
  unfolding least_in excess_in
  keeps table place v low made = record {
    priced = made.priced;
    begins = begins_put START_COSTS us table place v made.begins (omega arith);
    costs = record {
      exact = λ k q m e.
          let few = start_few k q (omega (arith, unit)) e in
          let one = other (START_COSTS + k * 64) (omega arith) in
          let two = other (START_COSTS + k * 64 + q) (omega arith) in
          omega (arith, one, two, made.costs.exact k q m e);
      small = λ k m. omega (arith, other (START_COSTS + k * 64) (omega arith), made.costs.small k m);
    };
  }
    where
      other : (n : ℕ) → n < START_COSTS + i * 64 → get_or (set table place v) n 0 ≡ get_or table n 0
      other n m = get_or-set_other table place n v 0 (λ z. omega arith)

-- its least is written
pub put_least : (file : File) (us table : List ℕ) (i a b least : ℕ) → CostsMade file us i table → i < file.layout.units
    → StartRange (problem file) i a b → LeastFrom (problem file) (price_in us) i least → least ≤ MOST_OVERHAUL
    → CostsTo file us i least a (set table (START_COSTS + i * 64) least)
unfolding least_in
put_least file us table i a b least made unit g under small =
    let f = file.filed in
    record {
      made = keeps file us i unit table (START_COSTS + i * 64) least (omega arith) made;
      unit = unit;
      low = get_or-set_same table (START_COSTS + i * 64) least 0 (omega (arith, in_table file us i unit, made.begins.long));
      few = small;
      under = under;
      exact = λ q m e. absurd (omega (arith, (range_at (problem file) i a b q g e).0));
    }

module _ (file : File) (us : List ℕ) (i least s : ℕ) (table : List ℕ) (t : CostsTo file us i least s table) where
  -- the next start
  pub put_at_lem : permitted (problem file) i s ≡ true → StartAt file i s
  put_at_lem e = record { unit = t.unit; permits = e }

  -- its place lies in the table
  put_within : permitted (problem file) i s ≡ true → START_COSTS + i * 64 + s < TABLES
  put_within e = omega (arith, start_few file us i t.unit i s t.unit e, in_table file us i t.unit)

  -- the least is one
  pub put_under : LeastFrom (problem file) (price_in us) i least
  put_under = t.under

  -- what it costs more is written
  pub put_next : (v : ℕ) → permitted (problem file) i s ≡ true → least + v ≡ priced (problem file) (price_in us) i s
      → CostsTo file us i least (s + 1) (set table (START_COSTS + i * 64 + s) v)
  unfolding least_in excess_in
  put_next v is e = record {
    made = keeps file us i t.unit table (START_COSTS + i * 64 + s) v (omega arith) t.made;
    unit = t.unit;
    low = get_or-set_other table (START_COSTS + i * 64 + s) (START_COSTS + i * 64) v 0 (λ z. omega (arith, start_one)) ∙ t.low;
    few = t.few;
    under = t.under;
    exact = λ q k g. by q k g (ℕ_discrete q s);
  }
    where
      start_one : 1 ≤ s
      start_one = start_some file i s t.unit is

      here : get_or (set table (START_COSTS + i * 64 + s) v) (START_COSTS + i * 64 + s) 0 ≡ v
      here = get_or-set_same table (START_COSTS + i * 64 + s) v 0 (omega (arith, t.made.begins.long, put_within is))

      by : (q : ℕ) → q < s + 1 → permitted (problem file) i q ≡ true → Dec (q ≡ s)
          → least + get_or (set table (START_COSTS + i * 64 + s) v) (START_COSTS + i * 64 + q) 0 ≡ priced (problem file) (price_in us) i q
      by q k g (yes z) = rw z (omega (arith, here))
      by q k g (no z) =
          let o = get_or-set_other table (START_COSTS + i * 64 + s) (START_COSTS + i * 64 + q) v 0 (λ w. z (omega arith)) in
          omega (arith, o, t.exact q (omega arith) g)

  -- all its starts
  pub put_ended : (a b : ℕ) → StartsTo (problem file) i a b s → b ≤ s → CostsMade file us (i + 1) table
  put_ended a b g m = record {
    priced = t.made.priced;
    begins = t.made.begins;
    costs = record { exact = λ k q n e. by k q n e (ℕ_discrete k i); small = λ k n. least_few k n (ℕ_discrete k i) };
  }
    where
      by : (k q : ℕ) → k < i + 1 → permitted (problem file) k q ≡ true → Dec (k ≡ i)
          → least_in table k + excess_in table k q ≡ priced (problem file) (price_in us) k q
      by k q n e (yes z) =
          let own : permitted (problem file) i q ≡ true = subst (λ (x : ℕ). permitted (problem file) x q ≡ true) z e in
          rw z (omega (arith, t.low, t.exact q (starts_ended (problem file) i a b s g m q own) own))
      by k q n e (no z) = t.made.costs.exact k q (omega arith) e

      least_few : (k : ℕ) → k < i + 1 → Dec (k ≡ i) → least_in table k ≤ MOST_OVERHAUL
      least_few k n (yes z) = rw z (omega (arith, t.low, t.few))
      least_few k n (no z) = t.made.costs.small k (omega arith)

-- all units
pub costs_ended : (file : File) (us xs : List ℕ) (i n : ℕ) → CostsMade file us i xs → i ≤ n → n ≤ i → CostsMade file us n xs
costs_ended file us xs i n made a b = let e : i ≡ n = omega arith in rw e at made
