-- What is known of a set of units out, at the start and with a unit more, and what it says of the bound.
-- Assumes nothing.
use Prim.Native.Nat.{ℕ, ◌+◌, ◌≤◌, ◌<◌}
use mathlib.Core.Path.{◌≡◌, refl, sym, ◌∙◌, ap, subst}
use mathlib.Core.Bool.{Bool, true, false, ◌||◌}
use mathlib.Core.List.{List}
use mathlib.Core.Logic.{◌⊎◌, inl, inr}
use native.Mathlib.Nat.{mul-le-mul_right}
use native.Mathlib.Decide.{ℕ_discrete}
use native.Mathlib.Omega.{arith}
use lib.Dec.{eqb}
use lib.ListN.{get_or}
use Rattle.sums.specs.NumSet.{NumSet, has}
use Rattle.sums.proofs.LogicLaws.{true_false, not_so}
use Rattle.model.specs.declared.Layout.{Layout}
use Rattle.model.specs.Problem.{Problem}
use Rattle.model.specs.Words.{problem_of}
use Rattle.model.specs.Plan.{Compatible}
use Rattle.model.specs.Commitment.{NO_RUN, full_least}
use Rattle.instance.specs.declared.file.File.{File}
use Rattle.instance.specs.File.{problem}
use Rattle.instance.specs.Filed.{Filed}
use Rattle.memo.specs.Memo.{Right}
use Rattle.relaxation.specs.declared.WeekNode.{WeekNode}
use Rattle.tables.specs.Tables.{MOST_PRICE, MOST_WEEK_PRICES, price_in, partners_in, Priced}
use Rattle.states.specs.declared.WeekTask.{WeekTask}
use Rattle.states.specs.Weeks.{OutKnown, WeekDue}
use Rattle.relaxation.specs.Relaxed.{WeekAt}
use Rattle.relaxation.specs.Choosing.{MOST_VALUE, prices_not_out, Floor, Lowers, NoGain, Needless, NeedlessUnits, CrewsLeft, NodeKnown, PricesLeft, PricesLeftAtLeast, Skipped, Child, WithUnit, Beginning, RootNode, Choosing}
use Rattle.relaxation.proofs.OutLaws.{Joins, joins_it, joins_old, joins_other, not_out_less, not_out_joined, headcount_joined, needless_more}
use Rattle.relaxation.proofs.LeftLaws.{not_out_small, left_all, left_all_small, spare_start}
use Rattle.relaxation.proofs.ShutLaws.{more_of, shut_joined}
use Rattle.relaxation.proofs.FloorLaws.{floor_cut, floor_own, pass_needless, floor_joined, floor_full}

-- ---- a unit passed over

module _ (left : List ℕ) (i low : ℕ) (y : WeekNode) (b : Bool) (is : b ≡ has y.shut i) where
  -- it is shut
  pub over_shut : b ≡ true → (true ≡ true → Skipped left i y low) × (true ≡ false → has y.shut i ≡ false)
  over_shut e = (λ z. record { why = inl (sym is ∙ e) }, λ z. true_false z)

  -- or the prices up to it do not pay, by the result of that test
  pub over_dear : (r : Bool) → b ≡ false → (r ≡ true → NoGain low (get_or left (i + 1) 0) y.value.0)
      → (r ≡ true → Skipped left i y low) × (r ≡ false → has y.shut i ≡ false)
  over_dear r e h = (λ z. record { why = inr (h z) }, λ z. sym is ∙ e)

-- ---- what is known

-- the prices left are no more than 16
beginning_rest : (file : File) (xs left : List ℕ) (t out cost : ℕ) → Beginning file xs left t out cost
    → (get_or left file.layout.units 0 ≡ prices_not_out (price_in xs) t (has out) (problem file).units) × (get_or left file.layout.units 0 ≤ MOST_WEEK_PRICES)
beginning_rest file xs left t out cost b =
    let f = file.filed in (
      left_all (price_in xs) t file.layout.units (has out) left b.sums ∙ ap (prices_not_out (price_in xs) t (has out)) (sym f.units_are),
      left_all_small file xs left t (has out) b.at.priced b.sums,
    )

-- so the sum with the cheapest run fits
pub beginning_small : (file : File) (xs left : List ℕ) (t out cost : ℕ) → Beginning file xs left t out cost
    → cost + get_or left file.layout.units 0 < 18446744073709551616
beginning_small file xs left t out cost b = omega (arith, b.small, (beginning_rest file xs left t out cost b).1)

-- just these units
pub begun_of : (file : File) (xs left : List ℕ) (t out cost : ℕ) (y : WeekNode) → Beginning file xs left t out cost → y.week ≡ t
    → y.out ≡ out → y.rest.0 ≡ get_or left file.layout.units 0 → y.value.0 ≡ cost + y.rest.0 → CrewsLeft (problem file) (has y.out) y.room
    → NeedlessUnits (problem file) (price_in xs) t (has y.out) (problem file).units y.shut → RootNode (problem file) (price_in xs) t out cost y
begun_of file xs left t out cost y b week same is sum room shut =
    let rest = beginning_rest file xs left t out cost b in
    record {
      known = record {
        rest = rw week (is ∙ rest.0 ∙ ap (λ (o : ℕ). prices_not_out (price_in xs) t (has o) (problem file).units) (sym same));
        value = rw week (sum ∙ ap (λ (c : ℕ). c + y.rest.0) (b.is ∙ ap (λ (o : ℕ). full_least (problem file) t (has o)) (sym same)));
        small = omega (arith, b.small, rest.1);
        room = room;
        shut = rw week shut;
      };
      week = week;
      same = same;
      value = sum ∙ ap (λ (x : ℕ). cost + x) (is ∙ rest.0);
    }

module _ (file : File) (xs : List ℕ) (i : ℕ) (y : WeekNode) (h : i < file.layout.units) (priced : Priced (problem file) xs)
    (known : NodeKnown (problem file) (price_in xs) y) where
  in_units : i < (problem file).units
  in_units = omega (arith, file.filed.units_are)

  -- the rest is no more than 16 prices
  pub rest_small : y.rest.0 ≤ MOST_WEEK_PRICES
  rest_small =
      let few : (problem file).units ≤ 16 = omega (arith, file.filed.units_are, file.filed.units_most) in
      omega (arith, known.rest, not_out_small xs y.week (has y.out) (problem file).units priced.prices, mul-le-mul_right MOST_PRICE few)

  module _ (tried : has y.shut i ≡ false) where
    not_in : has y.out i ≡ false
    not_in = not_so (has y.out i) (λ e. true_false (sym (known.shut.own i in_units e) ∙ tried))

    -- a unit to be tried is not out: its price is part of the rest
    pub price_in_lem : price_in xs y.week i ≤ y.rest.0
    price_in_lem =
        let q : NumSet = λ k. has y.out k || eqb k i in
        let j : Joins (has y.out) i q = λ k. refl in
        omega (arith, known.rest, not_out_joined (price_in xs) y.week (has y.out) q i (problem file).units in_units not_in j)

    module _ (out cost : ℕ) (z : WeekNode) (join : (k : ℕ) → has out k ≡ (has y.out k || eqb k i)) (e : cost ≡ full_least (problem file) y.week (has out)) (small : cost ≤ NO_RUN)
        (child : Child (price_in xs y.week i) (partners_in xs i) i y out cost z) where
      joined : Joins (has y.out) i (has z.out)
      joined = rw child.out_is join

      -- of the set with it
      pub known_child : NodeKnown (problem file) (price_in xs) z
      known_child =
          let p = problem file in
          record {
            rest = rw child.week (omega (
              arith,
              known.rest,
              child.rest,
              not_out_joined (price_in xs) y.week (has y.out) (has z.out) i p.units in_units not_in joined,
            ));
            value = rw (child.week, child.out_is) (child.value ∙ ap (λ (c : ℕ). c + z.rest.0) e);
            small = omega (arith, child.value, child.rest, rest_small);
            room = record {
              most = omega (arith, known.room.most, child.room, headcount_joined p (has y.out) (has z.out) i in_units not_in joined);
            };
            shut = rw child.week (record {
              needless =
                  shut_joined p (price_in xs) y.week (has z.out) i y.shut (partners_in xs i) z.shut
                  (λ k m s. needless_more p (price_in xs) y.week (has y.out) (has z.out) k (joins_old (has y.out) (has z.out) i joined) (known.shut.needless k m s))
                  in_units (joins_it (has y.out) (has z.out) i joined) (priced.partners.each i in_units) child.shut;
              own = λ k m s. by k m s (ℕ_discrete k i);
            });
          }
        where
          by : (k : ℕ) → k < (problem file).units → has z.out k ≡ true → Dec (k ≡ i) → has z.shut k ≡ true
          by k m s (yes q) = more_of y.shut (partners_in xs i) z.shut i child.shut k (inr q)
          by k m s (no q) =
              more_of y.shut (partners_in xs i) z.shut i child.shut k
              (inl (known.shut.own k m (sym (joins_other (has y.out) (has z.out) i joined k q) ∙ s)))

      -- as a whole
      pub known_with : WithUnit (problem file) (price_in xs) i y z
      known_with = record { known = known_child; week = child.week; sets = joined }

-- the table of prices left serves the set with it too
spare_with : (p : Problem) (u : ℕ → ℕ → ℕ) (i n : ℕ) (left : List ℕ) (y z : WeekNode) → PricesLeftAtLeast u y.week (has y.out) n left → WithUnit p u i y z
    → PricesLeftAtLeast u z.week (has z.out) n left
spare_with p u i n left y z spare more = rw more.week (record {
  enough = λ k m. omega (
    arith,
    spare.enough k m,
    not_out_less u y.week (has y.out) (has z.out) k (λ j l. joins_old (has y.out) (has z.out) i more.sets j),
  );
  small = spare.small;
})

-- a unit that is not passed over
pub with_open : (b : Bool) (s i : ℕ) → (b ≡ false → has s i ≡ false) → b ≡ false → has s i ≡ false
with_open b s i h e = h e

-- ---- a choice that goes on

-- from the set to start from
pub choosing_start : (file : File) (xs left memo : List ℕ) (t out cost : ℕ) (y : WeekNode) → WeekAt file xs t → Right (problem file) memo
    → PricesLeft (price_in xs) t (has out) file.layout.units left → RootNode (problem file) (price_in xs) t out cost y → Choosing file xs left y memo
choosing_start file xs left memo t out cost y here right table begun = record {
  at = rw begun.week here;
  right = right;
  known = begun.known;
  spare = rw begun.week (spare_start xs left t file.layout.units out y.out here.priced.prices file.filed.units_most table begun.same);
}

-- where the prices left are made
pub beginning_of : (file : File) (xs left : List ℕ) (t out cost : ℕ) → WeekAt file xs t → PricesLeft (price_in xs) t (has out) file.layout.units left
    → cost ≡ full_least (problem file) t (has out) → cost < NO_RUN → Beginning file xs left t out cost
beginning_of file xs left t out cost at table is small = record { at = at; sums = table; is = is; small = small }

-- with a memo that has changed
pub choosing_on : (file : File) (xs left memo memo' : List ℕ) (y : WeekNode) → Choosing file xs left y memo → Right (problem file) memo'
    → Choosing file xs left y memo'
choosing_on file xs left memo memo' y c right = record { at = c.at; right = right; known = c.known; spare = c.spare }

-- with unit i out as well
pub choosing_with : (file : File) (xs left memo memo' : List ℕ) (i : ℕ) (y z : WeekNode) → Choosing file xs left y memo
    → WithUnit (problem file) (price_in xs) i y z → Right (problem file) memo' → Choosing file xs left z memo'
choosing_with file xs left memo memo' i y z c more right = record {
  at = rw more.week c.at;
  right = right;
  known = more.known;
  spare = spare_with (problem file) (price_in xs) i file.layout.units left y z c.spare more;
}

-- ---- what it says of the bound

module _ (ws xs : List ℕ) (y : WeekNode) (known : NodeKnown (problem_of ws) (price_in xs) y) where
  -- no best so far is more than the set itself
  pub low_small : (low : ℕ) → low ≤ y.value.0 → low ≤ MOST_VALUE
  low_small low h = omega (arith, known.small)

  worth : y.value.0 ≡ full_least (problem_of ws) y.week (has y.out) + prices_not_out (price_in xs) y.week (has y.out) (problem_of ws).units
  worth = omega (arith, known.value, known.rest)

  -- the set itself
  pub choose_start : (low : ℕ) → low ≤ y.value.0 → Floor (problem_of ws) (price_in xs) y.week (has y.out) 0 low
  choose_start low h = floor_own (problem_of ws) (price_in xs) y.week (has y.out) low (omega (arith, worth))

  module _ (l : Layout) (k : ℕ) (f : Filed ws l) (deep : k ≤ l.units) where
    deep_in : k ≤ (problem_of ws).units
    deep_in = omega (arith, f.units_are)

    -- the crews allow no more
    pub choose_full : (low : ℕ) → low ≤ y.value.0 → y.room ≡ 0 → Floor (problem_of ws) (price_in xs) y.week (has y.out) k low
    choose_full low h z =
        floor_full (problem_of ws) (price_in xs) y.week (has y.out) k low deep_in (omega (arith, known.room.most)) (choose_start low h)

    -- the prices left do not pay
    pub choose_cut : (left : List ℕ) → PricesLeftAtLeast (price_in xs) y.week (has y.out) l.units left → (low : ℕ) (b : Bool)
        → (b ≡ true → NoGain low (get_or left k 0) y.value.0) → b ≡ true → Floor (problem_of ws) (price_in xs) y.week (has y.out) k low
    choose_cut left spare low b h e = by (h e).why
      where
        by : (low ≡ 0) ⊎ (low + get_or left k 0 ≤ y.value.0) → Floor (problem_of ws) (price_in xs) y.week (has y.out) k low
        by (inl z) = record { below = λ x r c reach s. omega (arith, z) }
        by (inr c) =
            floor_cut (problem_of ws) (price_in xs) y.week (has y.out) k low (get_or left k 0) deep_in (spare.enough k deep)
            (omega (arith, worth, c))

  -- a unit passed over
  pub choose_over : (left : List ℕ) (l : Layout) (i low : ℕ) → Filed ws l → i < l.units → PricesLeftAtLeast (price_in xs) y.week (has y.out) l.units left
      → (b : Bool) → (b ≡ true → Skipped left i y low) → b ≡ true → Lowers (problem_of ws) (price_in xs) y.week (has y.out) i low low
  choose_over left l i low f h spare b over e = record { less = omega arith; next = by (over e).why }
    where
      by : (has y.shut i ≡ true) ⊎ NoGain low (get_or left (i + 1) 0) y.value.0 → Floor (problem_of ws) (price_in xs) y.week (has y.out) i low
          → Floor (problem_of ws) (price_in xs) y.week (has y.out) (i + 1) low
      by (inl s) floor =
          let m : i < (problem_of ws).units = omega (arith, f.units_are) in
          pass_needless (problem_of ws) (price_in xs) y.week (has y.out) i low floor m (known.shut.needless i m s)
      by (inr c) floor = choose_cut l (i + 1) f (omega arith) left spare low true (λ z. c) refl

-- a unit tried
pub choose_tried : (p : Problem) (u : ℕ → ℕ → ℕ) (i low r : ℕ) (y z : WeekNode) → WithUnit p u i y z → r ≤ low → Floor p u z.week (has z.out) i r
    → Lowers p u y.week (has y.out) i low r
choose_tried p u i low r y z more l high = record {
  less = l;
  next = λ floor. floor_joined p u y.week (has y.out) i low floor (has z.out) r more.sets l (rw more.week at high);
}

-- so one unit more
pub choose_next : (p : Problem) (u : ℕ → ℕ → ℕ) (t i low r : ℕ) (o : NumSet) → Floor p u t o i low → Lowers p u t o i low r → Floor p u t o (i + 1) r
choose_next p u t i low r o floor lowers = lowers.next floor

-- all units tried
pub choose_ended : (p : Problem) (u : ℕ → ℕ → ℕ) (t i k low : ℕ) (o : NumSet) → Floor p u t o i low → i ≤ k → k ≤ i → Floor p u t o k low
choose_ended p u t i k low o floor l m = let e : i ≡ k = omega arith in subst (λ (n : ℕ). Floor p u t o n low) e floor

-- ---- the same week by three states

-- the units that need no try, as the search over states knows them
out_known : (p : Problem) (u : ℕ → ℕ → ℕ) (y : WeekNode) → NodeKnown p u y → OutKnown p u y.week (has y.out) y.shut y.room
out_known p u y k = record {
  own = k.shut.own;
  free = λ out c sub i l s o. by out c sub i l o (k.shut.needless i l s);
  crews = k.room.most;
}
  where
    by : (out : NumSet) → Compatible p out → ((i : ℕ) → i < p.units → has y.out i ≡ true → out i ≡ true) → (i : ℕ) → i < p.units
        → out i ≡ true → Needless p u y.week (has y.out) i → (has y.out i ≡ true) ⊎ (u y.week i ≡ 0)
    by out c sub i l o (inl e) = inl e
    by out c sub i l o (inr (inl e)) = inr e
    by out c sub i l o (inr (inr b)) = absurd (b.never out c sub o)

pub states_due : (file : File) (xs : List ℕ) (y : WeekNode) (w : WeekTask) → WeekAt file xs y.week
    → NodeKnown (problem file) (price_in xs) y → w.week ≡ y.week → w.out ≡ y.out → w.shut ≡ y.shut → w.room ≡ y.room
    → w.most.0 ≡ y.value.0 → WeekDue file xs w
states_due file xs y w at known e f g h m = record {
  week = rw e at.week;
  priced = at.priced;
  known = rw (e, f, g, h) (out_known (problem file) (price_in xs) y known);
  small = omega (arith, m, known.small);
}
