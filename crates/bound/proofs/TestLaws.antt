-- A unit's start tested on the weeks of its overhaul, a week at a time.
-- Assumes nothing.
use Prim.Native.Nat.{ℕ, ◌+◌, ◌-◌, ◌%◌, ◌≤◌, ◌<◌}
use mathlib.Core.Path.{◌≡◌, sym, ◌∙◌, ap, subst, fun_ext}
use mathlib.Core.Bool.{Bool, true, false, ◌&&◌, ◌||◌}
use mathlib.Core.List.{List}
use mathlib.Core.Logic.{◌⊎◌, inl, inr}
use native.Mathlib.Decide.{ℕ_discrete}
use native.Mathlib.Nat.{mul-le-mul_right}
use native.Mathlib.Omega.{arith}
use lib.Dec.{eqb}
use lib.ListN.{length, get_or, set}
use Rattle.std.proofs.Common.{Ok, Err}
use Rattle.sums.specs.Logic.{if}
use Rattle.sums.specs.Sum.{added, transposed}
use Rattle.sums.specs.NumSet.{NumSet, parts, has, with}
use Rattle.sums.specs.Table.{entry}
use Rattle.sums.proofs.LogicLaws.{and_of, and_left, and_right}
use Rattle.sums.proofs.SumLaws.{sum_at_most}
use Rattle.sums.proofs.NumSetLaws.{with_at, with_old, with_back}
use Rattle.sets.specs.Sets.{SETS}
use Rattle.model.specs.Problem.{Problem}
use Rattle.model.specs.Domain.{permitted}
use Rattle.model.specs.Schedule.{out_in, in_span}
use Rattle.model.specs.Commitment.{NO_RUN, full_least}
use Rattle.model.specs.Plan.{Compatible}
use Rattle.model.proofs.DomainLaws.{permits_from, permits_ends, span_of}
use Rattle.model.proofs.FileLaws.{ranged, fair}
use Rattle.instance.specs.declared.file.File.{File}
use Rattle.instance.specs.File.{problem}
use Rattle.instance.specs.declared.Euro.{Euro}
use Rattle.blame.specs.Placed.{out_of, partly}
use Rattle.blame.specs.Priced.{priced, unit_bound, lower_bound}
use Rattle.blame.proofs.PlacedLaws.{partly_none, partly_all, partly_here, partly_else}
use Rattle.tables.specs.Tables.{price_in, least_in}
use Rattle.tables.proofs.TableLaws.{price_most}
use Rattle.relaxation.specs.Relaxed.{WeekAt, MemoTrue}
use Rattle.dual.specs.declared.Node.{Node}
use Rattle.dual.specs.Blame.{placed_after, with_bound}
use Rattle.dual.specs.Dual.{MOST_OVERHAUL, Dual, Bounds}
use Rattle.dual.proofs.BoundsLaws.{week_more, bounds_week}
use Rattle.bound.specs.Tests.{WeekDue, Shuts, WeekShuts, WeekHolds, WeekTested, TestedTo, WeeksTested, Tested}
use Rattle.bound.specs.Tests.{MOST_BOUND, StartPermitted, OverhaulWeeks, StartDue, WeeksDue}

-- ---- what a bound comes to at most

module _ (file : File) (us : List ℕ) (d : Dual (problem file) us) where
  abbrev prob : Problem
  prob = problem file

  -- an overhaul at prices, from any start
  priced_small : (i s : ℕ) → i < prob.units → priced prob (price_in us) i s ≤ MOST_OVERHAUL
  unfolding priced parts added transposed
  priced_small i s h =
      let terms = parts (in_span s (prob.duration i)) (added (transposed prob.maint i) (transposed (price_in us) i)) (transposed prob.off i) in
      let b = sum_at_most prob.weeks 4444304 terms (λ t b. week t b (in_span s (prob.duration i) t)) in
      omega (arith, b, mul-le-mul_right 4444304 (ranged file.words.now file.filed.passed).weeks_most)
    where
      week : (t : ℕ) → t < (problem file).weeks → (c : Bool)
          → if c ((problem file).maint t i + price_in us t i) ((problem file).off t i) ≤ 4444304
      week t b true = omega (arith, (ranged file.words.now file.filed.passed).maint_most t i b h, price_most us t i d.priced.prices)
      week t b false = omega (arith, (ranged file.words.now file.filed.passed).off_most t i b h)

  -- a unit's part
  unit_small : (b : NumSet) (starts : ℕ → ℕ) (i : ℕ) → i < prob.units → unit_bound prob (price_in us) b starts (least_in us) i ≤ MOST_OVERHAUL
  unfolding unit_bound
  unit_small b starts i h = go (b i)
    where
      go : (c : Bool) → if c (priced (problem file) (price_in us) i (starts i)) (least_in us i) ≤ MOST_OVERHAUL
      go true = priced_small i (starts i) h
      go false = d.costs.small i h

  -- all units and weeks
  pub bounds_small : (b : NumSet) (starts : ℕ → ℕ) (xs : List ℕ) (sum : ℕ) → Bounds prob us b starts xs sum → sum ≤ MOST_BOUND
  unfolding lower_bound
  bounds_small b starts xs sum h =
      let g = ranged file.words.now file.filed.passed in
      let a = sum_at_most prob.units MOST_OVERHAUL (unit_bound prob (price_in us) b starts (least_in us)) (unit_small b starts) in
      let c = sum_at_most prob.weeks NO_RUN (entry xs) h.values.small in
      omega (arith, h.under, a, c, mul-le-mul_right MOST_OVERHAUL g.units_most, mul-le-mul_right NO_RUN g.weeks_most)

-- ---- the weeks of an overhaul

-- the starts of the units placed, and the node's own, are permitted
pub with_permits : (p : Problem) (b : NumSet) (starts : ℕ → ℕ) (j : ℕ) → ((i : ℕ) → b i ≡ true → permitted p i (starts i) ≡ true)
    → permitted p j (starts j) ≡ true → (i : ℕ) → with b j i ≡ true → permitted p i (starts i) ≡ true
with_permits p b starts j others own i e = go (with_back b j i e)
  where
    go : (b i ≡ true) ⊎ (i ≡ j) → permitted p i (starts i) ≡ true
    go (inl h) = others i h
    go (inr z) = subst (λ (k : ℕ). permitted p k (starts k) ≡ true) (sym z) own

-- a permitted start and its overhaul
module _ (file : File) (node : Node) (h : StartPermitted (problem file) node) where
  -- the unit is one of the file's
  pub permitted_unit : node.unit < file.layout.units
  permitted_unit = omega (arith, h.unit, file.filed.units_are)

  -- and of 16
  pub permitted_few : node.unit < 16
  permitted_few = omega (arith, permitted_unit, file.filed.units_most)

  -- the start counts from 1
  pub permitted_some : 1 ≤ get_or node.starts node.unit 0
  unfolding entry
  permitted_some =
      omega (arith, permits_from (problem file) node.unit (entry node.starts node.unit) h.permits, (fair file.words.now file.filed.passed).from_one node.unit h.unit)

  -- its weeks lie in the season
  pub weeks_of : (weeks : ℕ) → weeks ≡ (problem file).duration node.unit
      → OverhaulWeeks (problem file) node (get_or node.starts node.unit 0 - 1) (get_or node.starts node.unit 0 - 1 + weeks)
  unfolding entry
  weeks_of weeks e = record {
    start = omega (arith, permitted_some);
    last = ap (λ (x : ℕ). get_or node.starts node.unit 0 - 1 + x) e;
    season = omega (arith, permitted_some, permits_ends (problem file) node.unit (entry node.starts node.unit) h.permits);
  }

  -- so their end fits a word
  pub weeks_fit : (weeks : ℕ) → weeks ≡ (problem file).duration node.unit → get_or node.starts node.unit 0 - 1 + weeks < 18446744073709551616
  weeks_fit weeks e = omega (arith, (weeks_of weeks e).season, file.filed.weeks_are, file.filed.weeks_most)

-- the unit is due at a permitted start
pub due_permitted : (file : File) (us rows : List ℕ) (node : Node) (xs memo : List ℕ) → StartDue file us rows node xs memo
    → StartPermitted (problem file) node
due_permitted file us rows node xs memo d = record { unit = d.due.unit; permits = d.due.permits }

-- no week yet
pub tested_start : (file : File) (us rows : List ℕ) (node : Node) (xs memo : List ℕ) (first end : ℕ)
    → StartDue file us rows node xs memo → OverhaulWeeks (problem file) node first end
    → TestedTo (problem file) us (has node.placed) (entry node.starts) node.unit first xs node.bound.0
tested_start file us rows node xs memo first end d w = record {
  compatible = λ t m. subst (Compatible p) (same t) (d.standing.compatible t m);
  served = λ t m. subst (λ (a : NumSet). full_least p t a < NO_RUN) (same t) (d.standing.served t m);
  bounds = d.bounds;
}
  where
    p : Problem
    p = problem file

    none : first + 1 - entry node.starts node.unit ≡ 0
    none = omega (arith, w.start)

    same : (t : ℕ) → out_of (problem file) (has node.placed) (entry node.starts) t
        ≡ partly (problem file) (has node.placed) (entry node.starts) node.unit (first + 1 - entry node.starts node.unit) t
    same t =
        sym (ap (λ (n : ℕ). partly p (has node.placed) (entry node.starts) node.unit n t) none ∙ fun_ext (partly_none p (has node.placed) (entry node.starts) node.unit t))

-- the next week is tested, at the bound so far
pub weeks_due : (file : File) (us rows : List ℕ) (node next : Node) (xs memo : List ℕ) (first end t : ℕ) (ys memo' : List ℕ) (r : Euro)
    → StartDue file us rows node xs memo → OverhaulWeeks (problem file) node first end → first ≤ t → t < end
    → TestedTo (problem file) us (has node.placed) (entry node.starts) node.unit t ys r.0 → MemoTrue (problem file) (price_in us) memo'
    → next ≡ with_bound node r → WeeksDue file us rows next t ys memo'
weeks_due file us rows node next xs memo first end t ys memo' r d w from more tested recalls e =
    subst (λ (n : Node). WeeksDue file us rows n t ys memo') (sym e) (record {
      dual = d.dual;
      due = d.due;
      standing = d.standing;
      from = omega (arith, w.start);
      before = omega (arith, w.start, w.last);
      season = omega (arith, w.season, file.filed.weeks_are);
      tested = tested;
      recalls = recalls;
    })

-- they do not end before they begin
pub weeks_rise : (p : Problem) (node : Node) (first end : ℕ) → OverhaulWeeks p node first end → first ≤ end
weeks_rise p node first end w = omega (arith, w.last)

-- and there are 52 at most
pub weeks_few : (file : File) (us rows : List ℕ) (node : Node) (xs memo : List ℕ) (first end : ℕ) → StartDue file us rows node xs memo
    → OverhaulWeeks (problem file) node first end → end ≤ 52
weeks_few file us rows node xs memo first end d w = omega (arith, w.season, file.filed.weeks_are, file.filed.weeks_most)

-- the bound comes to what is wanted before all weeks are tested
pub tested_reached : (p : Problem) (us : List ℕ) (a : NumSet) (starts : ℕ → ℕ) (j t : ℕ) (xs : List ℕ) (r : Euro) (wanted : ℕ) → TestedTo p us a starts j t xs r.0
    → wanted ≤ r.0 → Tested p us a starts j wanted xs (Ok r)
tested_reached p us a starts j t xs r wanted h le = (h.bounds, λ less. absurd (omega arith))

-- all weeks: one unit more stands
pub tested_ended : (file : File) (us rows : List ℕ) (node : Node) (xs memo : List ℕ) (first end t wanted : ℕ) (ys : List ℕ) (r : Euro)
    → StartDue file us rows node xs memo → OverhaulWeeks (problem file) node first end → t ≤ end → end ≤ t
    → TestedTo (problem file) us (has node.placed) (entry node.starts) node.unit t ys r.0
    → Tested (problem file) us (has node.placed) (entry node.starts) node.unit wanted ys (Ok r)
tested_ended file us rows node xs memo first end t wanted ys r d w a b h = (
  h.bounds,
  λ less. record {
    permits = with_permits p (has node.placed) (entry node.starts) node.unit d.standing.permits d.due.permits;
    compatible = λ q m. subst (Compatible p) (all q) (h.compatible q m);
    served = λ q m. subst (λ (x : NumSet). full_least p q x < NO_RUN) (all q) (h.served q m);
  },
)
  where
    p : Problem
    p = problem file

    whole : t + 1 - entry node.starts node.unit ≡ (problem file).duration node.unit
    whole = omega (arith, w.start, w.last)

    all : (q : ℕ) → partly (problem file) (has node.placed) (entry node.starts) node.unit (t + 1 - entry node.starts node.unit) q
        ≡ out_of (problem file) (placed_after node) (entry node.starts) q
    all q =
        ap (λ (n : ℕ). partly p (has node.placed) (entry node.starts) node.unit n q) whole ∙ fun_ext (partly_all p (has node.placed) (entry node.starts) node.unit q)

-- a week more, taken over from the node with the bound so far
pub tested_more : (p : Problem) (us : List ℕ) (node next : Node) (r₀ r : Euro) (t : ℕ) (xs : List ℕ) → next ≡ with_bound node r₀
    → WeeksTested p us (has next.placed) (entry next.starts) next.unit t xs (Ok r)
    → TestedTo p us (has node.placed) (entry node.starts) node.unit (t + 1) xs r.0
tested_more p us node next r₀ r t xs is h = subst (λ (n : Node). TestedTo p us (has n.placed) (entry n.starts) n.unit (t + 1) xs r.0) is h

-- and one that is a dead end
pub tested_shut : (p : Problem) (us : List ℕ) (node next : Node) (r₀ : Euro) (t wanted b : ℕ) (xs : List ℕ) → next ≡ with_bound node r₀
    → WeeksTested p us (has next.placed) (entry next.starts) next.unit t xs (Err b)
    → Tested p us (has node.placed) (entry node.starts) node.unit wanted xs (Err b)
tested_shut p us node next r₀ t wanted b xs is h = subst (λ (n : Node). Shuts p (placed_after n) (entry n.starts) b) is h

-- ---- one week

module _ (file : File) (us rows : List ℕ) (node : Node) (t : ℕ) (xs memo : List ℕ) (d : WeeksDue file us rows node t xs memo) where
  abbrev p : Problem
  p = problem file

  abbrev a : NumSet
  a = has node.placed

  abbrev starts : ℕ → ℕ
  starts = entry node.starts

  abbrev j : ℕ
  j = node.unit

  in_season : t < (problem file).weeks
  in_season = omega (arith, d.season, file.filed.weeks_are)

  -- the week, with the table
  pub week_at : WeekAt file us t
  week_at = record { week = d.season; priced = d.dual.priced }

  -- its unit is one of the file's
  pub week_unit : node.unit < file.layout.units
  week_unit = omega (arith, d.due.unit, file.filed.units_are)

  -- its value has a place among 52
  pub week_in : t < 52
  week_in = omega (arith, d.season, file.filed.weeks_most)

  pub week_long : length xs ≡ 52
  week_long = d.tested.bounds.values.long

  -- and the bound is small
  pub week_bound : node.bound.0 ≤ MOST_BOUND
  week_bound = bounds_small file us d.dual (placed_after node) starts xs node.bound.0 d.tested.bounds

  -- a row's units, as a set
  row_set : has (get_or rows t 0 % SETS) ≡ out_of (problem file) (has node.placed) (entry node.starts) t
  row_set = fun_ext (d.due.tallied.sets t in_season)

  -- what the week's test asks
  pub week_due : WeekDue (problem file) t (get_or rows t 0)
  unfolding out_of
  week_due = record {
    tally = d.due.tallied.tallies t in_season;
    within = λ i o. d.due.within i (and_left (a i) (out_in p starts t i) (sym (d.due.tallied.sets t in_season i) ∙ o));
    compatible = subst (Compatible p) (sym row_set) (d.standing.compatible t in_season);
  }

  -- unit j is out in it
  own_out : in_span (entry node.starts node.unit) ((problem file).duration node.unit) t ≡ true
  own_out = span_of (starts j) (p.duration j) t d.from d.before

  -- units that may not be out together in it: their starts are a dead end
  blamed_shut : (b : ℕ) → WeekShuts (problem file) (has (get_or rows t 0 % SETS)) node.unit t b
      → Shuts (problem file) (placed_after node) (entry node.starts) b
  unfolding out_of out_in
  blamed_shut b s = record {
    blames = λ limit. record { closed = s.shuts.closed starts (λ i q. outs i (here i q)) limit; within = λ i q. placed i (here i q) };
  }
    where
      -- placed and out, or the node's own
      here : (i : ℕ) → has b i ≡ true
          → ((has node.placed i && out_in (problem file) (entry node.starts) t i) ≡ true) ⊎ (i ≡ node.unit)
      here i q = with_back (out_of p a starts t) j i (sym (ap (λ (x : Bool). x || eqb i j) (d.due.tallied.sets t in_season i)) ∙ s.within i q)

      outs : (i : ℕ) → ((has node.placed i && out_in (problem file) (entry node.starts) t i) ≡ true) ⊎ (i ≡ node.unit)
          → out_in (problem file) (entry node.starts) t i ≡ true
      outs i (inl c) = and_right (a i) (out_in p starts t i) c
      outs i (inr z) = subst (λ (x : ℕ). out_in p starts t x ≡ true) (sym z) own_out

      placed : (i : ℕ) → ((has node.placed i && out_in (problem file) (entry node.starts) t i) ≡ true) ⊎ (i ≡ node.unit) → placed_after node i ≡ true
      placed i (inl c) = with_old a j i (and_left (a i) (out_in p starts t i) c)
      placed i (inr z) = subst (λ (x : ℕ). with a j x ≡ true) (sym z) (with_at a j)

  -- a week that fails
  pub week_shut : (b : ℕ) → WeekTested (problem file) (price_in us) node.unit t (get_or rows t 0) (Err b)
      → Shuts (problem file) (placed_after node) (entry node.starts) b
  week_shut b h = blamed_shut b h

  module _ (r : Euro) (h : WeekTested (problem file) (price_in us) node.unit t (get_or rows t 0) (Ok r)) where
    holds : WeekHolds (problem file) (price_in us) (out_of (problem file) (has node.placed) (entry node.starts) t) node.unit t r.0
    holds = subst (λ (a : NumSet). WeekHolds p (price_in us) a j t r.0) row_set h

    -- its value is small
    pub week_small : r.0 ≤ NO_RUN
    week_small = holds.small

    abbrev k : ℕ
    k = t + 1 - entry node.starts node.unit

    next : t + 1 + 1 - entry node.starts node.unit ≡ t + 1 - entry node.starts node.unit + 1
    next = omega (arith, d.from)

    here : with (out_of (problem file) (has node.placed) (entry node.starts) t) node.unit
        ≡ partly (problem file) (has node.placed) (entry node.starts) node.unit (t + 1 + 1 - entry node.starts node.unit) t
    here = sym (ap (λ (n : ℕ). partly p a starts j n t) next ∙ fun_ext (λ i. partly_here p a starts j k t i (omega (arith, d.from))))

    else : (q : ℕ) → (q ≡ t → ⊥) → partly (problem file) (has node.placed) (entry node.starts) node.unit (t + 1 - entry node.starts node.unit) q
        ≡ partly (problem file) (has node.placed) (entry node.starts) node.unit (t + 1 + 1 - entry node.starts node.unit) q
    else q ne =
        sym (ap (λ (n : ℕ). partly p a starts j n q) next ∙ fun_ext (λ i. partly_else p a starts j k q i (λ z. ne (omega (arith, d.from)))))

    compatible : (q : ℕ) → q < (problem file).weeks → Dec (q ≡ t)
        → Compatible (problem file) (partly (problem file) (has node.placed) (entry node.starts) node.unit (t + 1 + 1 - entry node.starts node.unit) q)
    compatible q m (yes z) =
        subst (λ (x : ℕ). Compatible p (partly p a starts j (t + 1 + 1 - starts j) x)) (sym z) (subst (Compatible p) here holds.compatible)
    compatible q m (no z) = subst (Compatible p) (else q z) (d.tested.compatible q m)

    served : (q : ℕ) → q < (problem file).weeks → Dec (q ≡ t)
        → full_least (problem file) q (partly (problem file) (has node.placed) (entry node.starts) node.unit (t + 1 + 1 - entry node.starts node.unit) q) < NO_RUN
    served q m (yes z) =
        subst (λ (x : ℕ). full_least p x (partly p a starts j (t + 1 + 1 - starts j) x) < NO_RUN) (sym z)
        (subst (λ (a : NumSet). full_least p t a < NO_RUN) here holds.serves)
    served q m (no z) = subst (λ (a : NumSet). full_least p q a < NO_RUN) (else q z) (d.tested.served q m)

    -- who is out in that week, the node's unit among them, is out by the starts placed with it
    out_too : (i : ℕ) → i < (problem file).units → with (out_of (problem file) (has node.placed) (entry node.starts) t) node.unit i ≡ true
        → out_of (problem file) (placed_after node) (entry node.starts) t i ≡ true
    unfolding out_of out_in
    out_too i m o = go (with_back (out_of p a starts t) j i o)
      where
        go : ((has node.placed i && in_span (entry node.starts i) ((problem file).duration i) t) ≡ true) ⊎ (i ≡ node.unit)
            → (placed_after node i && in_span (entry node.starts i) ((problem file).duration i) t) ≡ true
        go (inl c) =
            and_of (with a j i) (in_span (starts i) (p.duration i) t) (with_old a j i (and_left (a i) (in_span (starts i) (p.duration i) t) c))
            (and_right (a i) (in_span (starts i) (p.duration i) t) c)
        go (inr z) = rw z (and_of (with a j j) (in_span (starts j) (p.duration j) t) (with_at a j) own_out)

    put : (x : ℕ) → x ≡ node.bound.0 + r.0 - get_or xs t 0
        → TestedTo (problem file) us (has node.placed) (entry node.starts) node.unit (t + 1) (set xs t r.0) x
    unfolding entry
    put x ex = record {
      compatible = λ q m. compatible q m (ℕ_discrete q t);
      served = λ q m. served q m (ℕ_discrete q t);
      bounds = bounds_week p us (with a j) starts xs node.bound.0 t r.0 d.tested.bounds in_season
          (omega (arith, file.filed.weeks_are, file.filed.weeks_most))
          (week_more p (price_in us) t (with (out_of p a starts t) j) (out_of p (with a j) starts t) r.0 out_too holds.least)
          holds.small x ex;
    }

    -- one week more, that holds
    pub week_next : (x : ℕ) (ys : List ℕ) → x ≡ node.bound.0 + r.0 - get_or xs t 0 → ys ≡ set xs t r.0
        → TestedTo (problem file) us (has node.placed) (entry node.starts) node.unit (t + 1) ys x
    week_next x ys ex ey = subst (λ (zs : List ℕ). TestedTo p us a starts j (t + 1) zs x) (sym ey) (put x ex)
