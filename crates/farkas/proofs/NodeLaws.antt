-- A node of a week of the free plant: what it comes to at least, when it is done with, and what its two children leave.
-- Assumes nothing.
use Prim.Native.Nat.{ℕ, min, suc, ◌+◌, ◌-◌, ◌*◌, ◌≤◌, ◌<◌}
use mathlib.Core.Path.{◌≡◌, refl, sym, ◌∙◌, ap, subst}
use mathlib.Core.Bool.{Bool, true, false, ◌||◌}
use mathlib.Core.List.{List}
use mathlib.Core.Logic.{◌⊎◌, inl, inr}
use native.Mathlib.Nat.{mul-le-mul}
use native.Mathlib.Decide.{dec_lt}
use native.Mathlib.Omega.{arith}
use Rattle.sums.specs.Sum.{sum_to}
use Rattle.sums.specs.NumSet.{NumSet, only_in, complement, has}
use Rattle.sums.specs.Table.{entry}
use Rattle.sums.proofs.LogicLaws.{true_false, not_so}
use Rattle.model.specs.Problem.{Problem}
use Rattle.model.specs.Rules.{output, headcount}
use Rattle.model.specs.Pairs.{apart}
use Rattle.model.specs.Plan.{Compatible}
use Rattle.instance.specs.declared.file.File.{File}
use Rattle.instance.specs.File.{problem}
use Rattle.tables.specs.Tables.{MOST_PRICE, MOST_WEEK_PRICES, price_in, partners_in}
use Rattle.farkas.specs.declared.week.FreeNode.{FreeNode}
use Rattle.farkas.specs.declared.week.FreeWeek.{FreeWeek}
use Rattle.blame.specs.Free.{WeekFree}
use Rattle.blame.proofs.PairLaws.{compatible_clear}
use Rattle.farkas.specs.Choices.{OPEN, TOP, CAPS, NO_WEEK, MayBeOut, SumsDue, AtRoot, Floor, never_in, FreeAt, Savable, NodeDue, NodeAt, TryAt, StayDue, NodeFloor, NodeDone, NodeOpen, Stays, barred, Leaves, OutTried}
use Rattle.farkas.proofs.FloorLaws.{sum_without, floor_less, floor_bars, floor_short, floor_open, floor_crews, floor_turn}

-- ---- what is saved

-- as many of the highest price as there are crews fit a word
pub crews_fit : (crews top r : ℕ) → crews ≤ 16 → r ≡ top → top ≤ MOST_PRICE → crews * r < 18446744073709551616
crews_fit crews top r few is low = omega (arith, mul-le-mul few low, ap (λ (n : ℕ). crews * n) is)

pub saves_least : (xs : List ℕ) (k crews all top r : ℕ) → all ≡ entry xs (OPEN + k) → top ≡ entry xs (TOP + k) → r ≡ min all (crews * top)
    → Savable xs k crews r
saves_least xs k crews all top r e f h = record { either = by (dec_lt all (crews * top)) }
  where
    by : Dec (all < crews * top) → (r ≡ entry xs (OPEN + k)) ⊎ (r ≡ crews * entry xs (TOP + k))
    by (yes l) = inl (omega (arith, e, h, l))
    by (no l) = inr (omega (arith, h, l) ∙ ap (λ (n : ℕ). crews * n) f)

module _ (file : File) (us xs : List ℕ) (k : ℕ) (y : FreeNode) where
  -- the highest price is in its range
  pub top_small : NodeDue file us xs k y → entry xs (TOP + k) ≤ MOST_PRICE
  top_small due = due.sums.low k due.units

  -- all prices but those that can be saved
  pub bound_floor : (all saved s r : ℕ) → NodeDue file us xs k y → all ≡ entry xs k → Savable xs k y.crews saved → s ≡ y.score.0 + all → r ≡ s - saved
      → NodeFloor (problem file) us k y r
  bound_floor all saved s r due is savable total e = record { floor = by savable.either }
    where
      p : Problem
      p = problem file

      sum : entry xs k ≡ sum_to k (price_in us y.week)
      sum = due.sums.prices k due.units

      by : (saved ≡ entry xs (OPEN + k)) ⊎ (saved ≡ y.crews * entry xs (TOP + k))
          → Floor p (price_in us) y.week k y.need.0 y.crews (has y.bar) y.score.0 r
      by (inl a) =
          floor_open p (price_in us) y.week k y.need.0 y.crews y.score.0 (has y.bar) (never_in xs) due.never r
          (omega (arith, a, is, sum, due.sums.leaving k due.units))
      by (inr b) =
          floor_crews p (price_in us) y.week k y.need.0 y.crews y.score.0 (has y.bar) (never_in xs) due.never r (entry xs (TOP + k))
          (λ i h. due.sums.top k i due.units h) (omega (arith, b, is, sum))

  pub bound_small : (all saved s r : ℕ) → NodeDue file us xs k y → all ≡ entry xs k → s ≡ y.score.0 + all → r ≡ s - saved → r ≤ MOST_WEEK_PRICES
  bound_small all saved s r due is total e = let h = due.small in omega arith

-- ---- a node that is done with

module _ (file : File) (us xs : List ℕ) (k : ℕ) (y : FreeNode) (low : FreeWeek) where
  -- the capacities left fall short
  pub seen_short : (caps : ℕ) → NodeDue file us xs k y → caps ≡ entry xs (CAPS + k) → caps < y.need.0 → NodeDone (problem file) us k y low low
  seen_short caps due is short = record {
    floor = record { floor = floor_short (problem file) (price_in us) y.week (omega (arith, due.sums.caps k due.units)) };
    less = omega arith;
  }

-- ---- a unit stays or is out

-- with unit i out its partners are barred too
pub leave_made : (file : File) (us : List ℕ) (i : ℕ) (y : FreeNode) (set bar out : ℕ) → FreeAt file us y.week → i < file.layout.units
    → 0 < y.crews → set ≡ partners_in us i → ((k : ℕ) → has bar k ≡ (has y.bar k || has set k))
    → Leaves (problem file) i y (record { week = y.week; need = y.need; crews = y.crews - 1; bar = bar; out = out; score = y.score })
unfolding barred
leave_made file us i y set bar out at unit crew is joins = record {
  week = refl;
  need = refl;
  crews = omega arith;
  bar = λ j. joins j ∙ ap (λ (b : Bool). has y.bar j || b) (rw is ((at.priced.partners.each i (omega (arith, file.filed.units_are))).sets j));
  score = refl;
}

-- the same facts, open and closed
pub node_open : (file : File) (us xs : List ℕ) (k : ℕ) (y : FreeNode) → NodeAt file us xs k y → NodeDue file us xs k y
unfolding NodeAt
node_open file us xs k y at = at

module _ (file : File) (us xs : List ℕ) (i k : ℕ) (y : FreeNode) where
  -- the highest unit of a node
  pub try_due : (low found : FreeWeek) → NodeAt file us xs k y → NodeOpen k y low found → i ≡ k - 1
      → TryAt file us xs i y
  unfolding NodeAt
  try_due low found at seen is =
      let some = seen.more in
      record {
        at = at.at;
        unit = let h = at.units in omega arith;
        node = subst (λ (n : ℕ). NodeDue file us xs n y) (top some) at;
        crew = seen.crew;
      }
    where
      top : 0 < k → k ≡ suc i
      top some = omega arith

  -- the units left fall
  pub falls_out : (low found : FreeWeek) (n : ℕ) → NodeOpen k y low found → i ≡ k - 1 → 2 * k ≡ n → 2 * i + 1 < n
  falls_out low found n seen is e = let some = seen.more in omega arith

  pub falls_stay : (low found : FreeWeek) (n : ℕ) → NodeOpen k y low found → i ≡ k - 1 → 2 * k ≡ n → 2 * i < n
  falls_stay low found n seen is e = let some = seen.more in omega arith

-- ---- the children of a node

module _ (file : File) (us xs : List ℕ) (i : ℕ) (y z : FreeNode) where
  -- the prices of the units below i, and of unit i
  prices_next : TryAt file us xs i y → entry xs (suc i) ≡ entry xs i + price_in us y.week i
  unfolding NodeAt sum_to
  prices_next at =
      let due = at.node in
      let h = at.unit in
      due.sums.prices (suc i) (omega arith) ∙ ap (λ (n : ℕ). n + price_in us y.week i) (sym (due.sums.prices i (omega arith)))

  -- unit i is out: what walking on asks
  pub node_leaves : TryAt file us xs i y → Leaves (problem file) i y z → NodeAt file us xs i z
  unfolding NodeAt barred
  node_leaves at h = record {
    at = rw h.week at.at;
    units = let u = at.unit in omega arith;
    sums = rw h.week at.node.sums;
    never = λ j n. h.bar j ∙ ap (λ (b : Bool). b || apart (problem file) i j) (at.node.never j n);
    few = let f = at.node.few in omega (arith, h.crews);
    small = let s = at.node.small in omega (arith, h.score, prices_next at);
  }

  -- unit i stays
  pub node_stays : (k : ℕ) (low found : FreeWeek) → NodeAt file us xs k y → NodeOpen k y low found → i ≡ k - 1
      → Stays (problem file) us i y z → NodeAt file us xs i z
  unfolding NodeAt
  node_stays k low found node seen is h =
      let at = try_due file us xs i k y low found node seen is in
      let u = at.unit in
      let s = at.node.small in
      record {
        at = rw h.week at.at;
        units = omega arith;
        sums = rw h.week at.node.sums;
        never = λ j n. rw h.bar (at.node.never j n);
        few = rw h.crews at.node.few;
        small = omega (arith, h.score, prices_next at);
      }

-- what staying asks
pub stay_due : (file : File) (us xs : List ℕ) (i k : ℕ) (y : FreeNode) (low found : FreeWeek) → NodeAt file us xs k y
    → NodeOpen k y low found → i ≡ k - 1 → StayDue file us i y
unfolding NodeAt
stay_due file us xs i k y low found node seen is =
    let at = try_due file us xs i k y low found node seen is in
    let s = at.node.small in
    record { at = at.at; unit = at.unit; small = omega arith }

module _ (p : Problem) (us : List ℕ) (i : ℕ) (y : FreeNode) where
  -- unit i need not be tried out: it is barred, or saves nothing
  pub tried_barred : (low : FreeWeek) (b : Bool) → b ≡ has y.bar i → b ≡ true → OutTried p us i y low low
  tried_barred low b is e = record { floor = record { floor = λ free pays. true_false (sym e ∙ is ∙ free) }; less = omega arith }

  pub tried_free : (low : FreeWeek) (n : ℕ) → n ≡ price_in us y.week i → n ≡ 0 → OutTried p us i y low low
  tried_free low n is e = record { floor = record { floor = λ free pays. absurd (omega arith) }; less = omega arith }

  -- it was tried
  pub tried_out : (z : FreeNode) (low found : FreeWeek) → Leaves p i y z → NodeDone p us i z low found → OutTried p us i y low found
  tried_out z low found h done = record {
    floor = record { floor = λ free pays. floor_bars p (price_in us) y.week h.bar (placed (omega (arith, h.crews))) };
    less = done.less;
  }
    where
      v : ℕ
      v = found.value.0

      placed : z.crews ≡ y.crews - 1 → Floor p (price_in us) y.week i y.need.0 (y.crews - 1) (has z.bar) y.score.0 v
      placed crews =
          subst (λ (n : ℕ). Floor p (price_in us) y.week i y.need.0 (y.crews - 1) (has z.bar) n v) h.score
          (subst (λ (n : ℕ). Floor p (price_in us) y.week i y.need.0 n (has z.bar) z.score.0 v) crews
          (subst (λ (n : ℕ). Floor p (price_in us) y.week i n z.crews (has z.bar) z.score.0 v) h.need
          (subst (λ (n : ℕ). Floor p (price_in us) n i z.need.0 z.crews (has z.bar) z.score.0 v) h.week done.floor.floor)))

  -- what it comes to where the unit stays
  stays_floor : (z : FreeNode) (v : ℕ) → Stays p us i y z → NodeFloor p us i z v
      → Floor p (price_in us) y.week i (y.need.0 - p.capacity y.week i) y.crews (has y.bar) (y.score.0 + price_in us y.week i) v
  stays_floor z v h f =
      subst (λ (n : ℕ). Floor p (price_in us) y.week i (y.need.0 - p.capacity y.week i) y.crews (has n) (y.score.0 + price_in us y.week i) v) h.bar
      (subst (λ (n : ℕ). Floor p (price_in us) y.week i (y.need.0 - p.capacity y.week i) y.crews (has z.bar) n v) h.score
      (subst (λ (n : ℕ). Floor p (price_in us) y.week i (y.need.0 - p.capacity y.week i) n (has z.bar) z.score.0 v) h.crews
      (subst (λ (n : ℕ). Floor p (price_in us) y.week i n z.crews (has z.bar) z.score.0 v) h.need
      (subst (λ (n : ℕ). Floor p (price_in us) n i z.need.0 z.crews (has z.bar) z.score.0 v) h.week f.floor))))

  -- both were tried
  pub node_done : (z : FreeNode) (k : ℕ) (low first second found : FreeWeek) → NodeOpen k y low first → i ≡ k - 1
      → OutTried p us i y first second → Stays p us i y z → NodeDone p us i z second found → NodeDone p us k y low found
  node_done z k low first second found seen at out h done =
      let some = seen.more in
      let a = out.less in
      let b = done.less in
      subst (λ (n : ℕ). NodeDone p us n y low found) (top some) (record {
        floor = record {
          floor = floor_turn p (price_in us) y.week i y.need.0 y.crews y.score.0 found.value.0 (has y.bar)
              (stays_floor z found.value.0 h done.floor)
              (λ free pays. floor_less p (price_in us) y.week done.less (out.floor.floor free pays));
        };
        less = omega (arith, seen.same);
      })
    where
      top : 0 < k → suc i ≡ k
      top some = omega arith

-- ---- a whole week

module _ (file : File) (us xs : List ℕ) (t : ℕ) (y : FreeNode) where
  -- the root is a node of all units
  pub root_due : SumsDue file us t xs file.layout.units → AtRoot (problem file) t xs y → NodeAt file us xs file.layout.units y
  unfolding NodeAt never_in
  root_due due root = record {
    at = rw root.week due.at;
    units = omega arith;
    sums = rw root.week due.sums;
    never = λ i e. rw root.bar e;
    few = root.few;
    small = let m = file.filed.units_most in omega (arith, root.score, due.sums.few file.layout.units (omega arith));
  }

  -- what it comes to is what the week does
  pub week_free : (low found : FreeWeek) → SumsDue file us t xs file.layout.units → AtRoot (problem file) t xs y → NodeDone (problem file) us file.layout.units y low found
      → WeekFree (problem file) (price_in us) t found.value.0
  unfolding output headcount never_in
  week_free low found due root done = record {
    below = λ out c enough. omega (arith, done.floor.floor.below out (may out c enough), root.score, prices out);
  }
    where
      p : Problem
      p = problem file

      units : p.units ≡ file.layout.units
      units = file.filed.units_are

      prices : (out : NumSet) → sum_to file.layout.units (only_in (complement out) (price_in us y.week)) ≡ sum_to p.units (only_in (complement out) (price_in us t))
      prices out = rw (root.week, units) refl

      never_free : (out : NumSet) → p.demand t ≤ sum_to p.units (only_in (complement out) (p.capacity t)) → (i : ℕ) → i < p.units → out i ≡ true
          → has y.bar i ≡ false
      never_free out enough i h e = not_so (has y.bar i) (λ n.
          omega (arith, due.never.short i (subst (λ (b : ℕ). has b i ≡ true) root.bar n), sum_without p.units out (p.capacity t) i h e))

      may : (out : NumSet) → Compatible p out → p.demand t ≤ sum_to p.units (only_in (complement out) (p.capacity t))
          → MayBeOut p y.week file.layout.units y.need.0 y.crews (has y.bar) out
      may out c enough = record {
        enough = rw (root.week, sym units, root.need) enough;
        few = rw (sym units, root.crews) c.crewed;
        free = λ i h e. never_free out enough i (omega (arith, units)) e;
        clear = λ i j h m e f. compatible_clear p out i j c e f;
      }

-- and it is no more than what is given where nobody may be out
pub week_most : (p : Problem) (us : List ℕ) (k : ℕ) (y : FreeNode) (out fuel : ℕ) (found : FreeWeek)
    → NodeDone p us k y (record { value = record { 0 = NO_WEEK }; out = out; fuel = fuel }) found → found.value.0 ≤ NO_WEEK
week_most p us k y out fuel found done = done.less
