-- The lower bound of the starts of some units: it closes them where it comes to the limit; a unit placed, a week worth more and a unit dropped
-- change it.
-- Assumes nothing.
use Prim.Native.Nat.{ℕ, suc, ◌+◌, ◌-◌, ◌≤◌, ◌<◌}
use mathlib.Core.Path.{◌≡◌, refl, sym, ◌∙◌, ap, subst}
use mathlib.Core.Bool.{Bool, true, false, not, ◌&&◌}
use mathlib.Core.List.{List}
use native.Mathlib.Decide.{ℕ_discrete}
use native.Mathlib.Omega.{arith}
use lib.Dec.{eqb}
use lib.ListN.{get_or, set, length-set}
use lib.Seq.{get_or-set_same, get_or-set_other}
use borrow.Author.Tests.{eq-eqb, ne_eqb}
use Rattle.sums.specs.Logic.{if}
use Rattle.sums.specs.Sum.{sum_to, added, shifted}
use Rattle.sums.specs.NumSet.{NumSet, only_in, has, with}
use Rattle.sums.specs.Table.{entry}
use Rattle.sums.proofs.LogicLaws.{true_false, and_of, and_left, and_right}
use Rattle.sums.proofs.SumLaws.{sum_mono, sum_same, sum_added}
use Rattle.sums.proofs.NumSetLaws.{zero_has, with_at, with_old, with_else}
use Rattle.model.specs.Problem.{Problem, Fair}
use Rattle.model.specs.Domain.{permitted}
use Rattle.model.specs.Schedule.{in_span, out_in}
use Rattle.model.specs.Commitment.{NO_RUN}
use Rattle.model.proofs.DomainLaws.{permits_from, permits_ends}
use Rattle.overhaul.proofs.SpanLaws.{span_sum_lem}
use Rattle.blame.specs.Closed.{Closed}
use Rattle.blame.specs.Placed.{out_of}
use Rattle.blame.specs.Priced.{priced, unit_bound, lower_bound, LeastPriced, WeekLeast}
use Rattle.blame.proofs.BoundLaws.{priced_closed}
use Rattle.blame.proofs.PlacedLaws.{sum_one, out_agree}
use Rattle.tables.specs.Tables.{price_in, least_in, excess_in, root_in, total_in}
use Rattle.dual.specs.Dual.{Costs, Roots, Dual, Bounds}
use Rattle.dual.specs.Blame.{gain_in, loss_of, PutBack}

-- ---- sets of units out

module _ (p : Problem) (u : ℕ → ℕ → ℕ) where
  -- a value holds with more units out
  pub week_more : (t : ℕ) (a b : NumSet) (v : ℕ) → ((i : ℕ) → i < p.units → a i ≡ true → b i ≡ true) → WeekLeast p u t a v → WeekLeast p u t b v
  week_more t a b v more h = record { below = λ out r c sup s. h.below out r c (λ i l e. sup i l (more i l e)) s }

  -- and with nobody out it holds for all
  pub week_none : (t : ℕ) (b : NumSet) (v : ℕ) → WeekLeast p u t (has 0) v → WeekLeast p u t b v
  week_none t b v h = week_more t (has 0) b v (λ i l e. true_false (sym e ∙ zero_has i)) h

-- more units, more out
out_more : (p : Problem) (b c : NumSet) (starts : ℕ → ℕ) (t i : ℕ) → (b i ≡ true → c i ≡ true) → out_of p b starts t i ≡ true
    → out_of p c starts t i ≡ true
unfolding out_of
out_more p b c starts t i more e =
    and_of (c i) (out_in p starts t i) (more (and_left (b i) (out_in p starts t i) e)) (and_right (b i) (out_in p starts t i) e)

-- ---- a bound that comes to the limit

-- the starts of its units are a dead end
pub bounds_closed : (p : Problem) (us : List ℕ) (b : NumSet) (starts : ℕ → ℕ) (xs : List ℕ) (sum limit : ℕ) → Fair p → Dual p us
    → Bounds p us b starts xs sum → limit + total_in us ≤ sum → Closed p b starts limit
bounds_closed p us b starts xs sum limit fair d h le =
    priced_closed p (price_in us) b starts (least_in us) (entry xs) limit fair least h.values.least (omega (arith, d.total, h.under))
  where
    least : LeastPriced p (price_in us) (least_in us)
    least = record { below = λ i s l e. omega (arith, d.costs.exact i s l e) }

-- ---- a unit placed

module _ (p : Problem) (us : List ℕ) (b : NumSet) (starts : ℕ → ℕ) (xs : List ℕ) (j sum : ℕ) (c : Costs p (price_in us) p.units us)
    (unit : j < p.units) (permits : permitted p j (starts j) ≡ true) (fresh : b j ≡ false) where
  -- the bound rises by what its start costs above the least
  pub bounds_placed : Bounds p us b starts xs sum → Bounds p us (with b j) starts xs (sum + excess_in us j (starts j))
  unfolding lower_bound unit_bound
  bounds_placed h = record {
    values = record {
      long = h.values.long;
      least = λ t l. week_more p (price_in us) t (out_of p b starts t) (out_of p (with b j) starts t) (entry xs t)
          (λ i _. out_more p b (with b j) starts t i (with_old b j i)) (h.values.least t l);
      small = h.values.small;
    };
    under = omega (arith, h.under, one, old, new, c.exact j (starts j) unit permits);
  }
    where
      before : ℕ → ℕ
      before = unit_bound p (price_in us) b starts (least_in us)

      after : ℕ → ℕ
      after = unit_bound p (price_in us) (with b j) starts (least_in us)

      same : (k : ℕ) → k < p.units → (k ≡ j → ⊥) → before k ≡ after k
      same k l ne = ap (λ (x : Bool). if x (priced p (price_in us) k (starts k)) (least_in us k)) (sym (with_else b j k ne))

      one : sum_to p.units after + before j ≡ sum_to p.units before + after j
      one = sum_one p.units j before after unit same

      old : before j ≡ least_in us j
      old = rw fresh

      new : after j ≡ priced p (price_in us) j (starts j)
      new = rw (with_at b j)

-- ---- other starts

-- only the starts of the units placed count
pub bounds_agree : (p : Problem) (us : List ℕ) (b : NumSet) (starts other : ℕ → ℕ) (xs : List ℕ) (sum : ℕ)
    → ((i : ℕ) → b i ≡ true → starts i ≡ other i) → Bounds p us b starts xs sum → Bounds p us b other xs sum
unfolding lower_bound unit_bound
bounds_agree p us b starts other xs sum same h = record {
  values = record {
    long = h.values.long;
    least = λ t l. week_more p (price_in us) t (out_of p b starts t) (out_of p b other t) (entry xs t)
        (λ i _ e. sym (out_agree p b starts other same t i) ∙ e) (h.values.least t l);
    small = h.values.small;
  };
  under = omega (
    arith,
    h.under,
    sum_same p.units (unit_bound p (price_in us) b starts (least_in us)) (unit_bound p (price_in us) b other (least_in us)) (λ i _. part i (b i) refl),
  );
}
  where
    part : (i : ℕ) (c : Bool) → b i ≡ c
        → if c (priced p (price_in us) i (starts i)) (least_in us i) ≡ if c (priced p (price_in us) i (other i)) (least_in us i)
    part i true e = ap (priced p (price_in us) i) (same i e)
    part i false e = refl

-- ---- a week worth more

module _ (p : Problem) (us : List ℕ) (b : NumSet) (starts : ℕ → ℕ) (xs : List ℕ) (sum t v : ℕ) where
  -- the bound changes by as much
  pub bounds_week : Bounds p us b starts xs sum → t < p.weeks → p.weeks ≤ 52 → WeekLeast p (price_in us) t (out_of p b starts t) v → v ≤ NO_RUN
      → (r : ℕ) → r ≡ sum + v - entry xs t → Bounds p us b starts (set xs t v) r
  unfolding lower_bound entry
  bounds_week h l few w s r e = record {
    values = record {
      long = length-set xs t v ∙ h.values.long;
      least = λ k m. least k m (ℕ_discrete k t);
      small = λ k m. small k m (ℕ_discrete k t);
    };
    under = omega (arith, h.under, one, same);
  }
    where
      same : get_or (set xs t v) t 0 ≡ v
      same = get_or-set_same xs t v 0 (omega (arith, h.values.long))

      other : (k : ℕ) → (k ≡ t → ⊥) → get_or (set xs t v) k 0 ≡ get_or xs k 0
      other k ne = get_or-set_other xs t k v 0 ne

      one : sum_to p.weeks (entry (set xs t v)) + get_or xs t 0 ≡ sum_to p.weeks (entry xs) + get_or (set xs t v) t 0
      one = sum_one p.weeks t (entry xs) (entry (set xs t v)) l (λ k m ne. sym (other k ne))

      least : (k : ℕ) → k < p.weeks → Dec (k ≡ t) → WeekLeast p (price_in us) k (out_of p b starts k) (get_or (set xs t v) k 0)
      least k m (yes q) =
          subst (λ (z : ℕ). WeekLeast p (price_in us) z (out_of p b starts z) (get_or (set xs t v) z 0)) (sym q)
          (subst (WeekLeast p (price_in us) t (out_of p b starts t)) (sym same) w)
      least k m (no q) = subst (WeekLeast p (price_in us) k (out_of p b starts k)) (sym (other k q)) (h.values.least k m)

      small : (k : ℕ) → k < p.weeks → Dec (k ≡ t) → get_or (set xs t v) k 0 ≤ NO_RUN
      small k m (yes q) = rw q (omega (arith, same))
      small k m (no q) = omega (arith, other k q, h.values.small k m)

-- ---- a unit dropped

module _ (p : Problem) (us : List ℕ) (b c : NumSet) (starts : ℕ → ℕ) (xs ys : List ℕ) (i sum : ℕ) (fair : Fair p)
    (cs : Costs p (price_in us) p.units us) (rs : Roots p (price_in us) p.weeks us) (unit : i < p.units) (permits : permitted p i (starts i) ≡ true)
    (without : (k : ℕ) → c k ≡ (b k && not (eqb k i))) (back : PutBack p us starts i xs ys) where
  -- the others stay
  stays : (k : ℕ) → (k ≡ i → ⊥) → b k ≡ c k
  stays k ne = sym (without k ∙ rw (ne_eqb k i ne) (and_true (b k)))
    where
      and_true : (a : Bool) → (a && true) ≡ a
      and_true true = refl
      and_true false = refl

  gone : c i ≡ false
  gone = without i ∙ rw (eq-eqb i i refl) (and_false (b i))
    where
      and_false : (a : Bool) → (a && false) ≡ false
      and_false true = refl
      and_false false = refl

  -- a week of its overhaul has its value with nobody out, another the value that it had
  value : (t : ℕ) → t < p.weeks → (o : Bool) → out_in p starts t i ≡ o → WeekLeast p (price_in us) t (out_of p b starts t) (entry xs t)
      → WeekLeast p (price_in us) t (out_of p c starts t) (entry ys t)
  unfolding out_of
  value t l true e w = subst (WeekLeast p (price_in us) t (out_of p c starts t)) (sym (back.inside t l e)) (week_none p (price_in us) t (out_of p c starts t) (root_in us t)
      (rs.each t l).least)
  value t l false e w =
      subst (WeekLeast p (price_in us) t (out_of p c starts t)) (sym (back.outside t l e))
      (week_more p (price_in us) t (out_of p b starts t) (out_of p c starts t) (entry xs t) (λ k m. kept k) w)
    where
      kept : (k : ℕ) → out_of p b starts t k ≡ true → out_of p c starts t k ≡ true
      kept k o = go (ℕ_discrete k i)
        where
          both : (b k && out_in p starts t k) ≡ true
          both = o

          go : Dec (k ≡ i) → out_of p c starts t k ≡ true
          go (yes q) =
              true_false (sym (and_right (b k) (out_in p starts t k) both) ∙ (ap (out_in p starts t) q ∙ e))
          go (no q) = out_more p b c starts t k (λ z. sym (stays k q) ∙ z) o

  small : (t : ℕ) → t < p.weeks → (o : Bool) → out_in p starts t i ≡ o → entry xs t ≤ NO_RUN → entry ys t ≤ NO_RUN
  small t l true e w = omega (arith, back.inside t l e, (rs.each t l).small)
  small t l false e w = omega (arith, back.outside t l e)

  -- what the weeks lose
  weeks_lose : sum_to p.weeks (entry xs) ≤ sum_to p.weeks (entry ys) + sum_to (p.duration i) (shifted (starts i - 1) (gain_in us xs))
  unfolding added only_in gain_in out_in
  weeks_lose =
      let one : starts i ≡ suc (starts i - 1) = omega (arith, permits_from p i (starts i) permits, fair.from_one i unit) in
      let span = span_sum_lem (starts i - 1) (p.duration i) (gain_in us xs) p.weeks (omega (arith, permits_ends p i (starts i) permits)) in
      let mono = sum_mono p.weeks (entry xs) (added (entry ys) gain) (λ t l. week t l (in_span (starts i) (p.duration i) t) refl) in
      let sums = sum_added p.weeks (entry ys) gain in
      let same : sum_to p.weeks gain ≡ sum_to p.weeks (only_in (in_span (suc (starts i - 1)) (p.duration i)) (gain_in us xs))
      = ap (λ (s : ℕ). sum_to p.weeks (only_in (in_span s (p.duration i)) (gain_in us xs))) one in
      omega (arith, span, mono, sums, same)
    where
      gain : ℕ → ℕ
      gain = only_in (in_span (starts i) (p.duration i)) (gain_in us xs)

      week : (t : ℕ) → t < p.weeks → (o : Bool) → in_span (starts i) (p.duration i) t ≡ o → entry xs t ≤ added (entry ys) gain t
      week t l true e = rw e (omega (arith, back.inside t l e))
      week t l false e = omega (arith, back.outside t l e)

  -- what the units lose
  units_lose : sum_to p.units (unit_bound p (price_in us) b starts (least_in us))
      ≤ sum_to p.units (unit_bound p (price_in us) c starts (least_in us)) + excess_in us i (starts i)
  unfolding unit_bound
  units_lose =
      let one = sum_one p.units i (unit_bound p (price_in us) c starts (least_in us)) (unit_bound p (price_in us) b starts (least_in us)) unit
      (λ k l ne. others k ne) in
      omega (arith, one, without_it, with_it (b i) refl)
    where
      others : (k : ℕ) → (k ≡ i → ⊥) → unit_bound p (price_in us) c starts (least_in us) k ≡ unit_bound p (price_in us) b starts (least_in us) k
      others k ne = ap (λ (x : Bool). if x (priced p (price_in us) k (starts k)) (least_in us k)) (sym (stays k ne))

      without_it : unit_bound p (price_in us) c starts (least_in us) i ≡ least_in us i
      without_it = rw gone

      with_it : (x : Bool) → b i ≡ x → unit_bound p (price_in us) b starts (least_in us) i ≤ least_in us i + excess_in us i (starts i)
      with_it true e = rw e (omega (arith, cs.exact i (starts i) unit permits))
      with_it false e = rw e (omega arith)

  -- so the bound loses no more than that
  pub bounds_dropped : Bounds p us b starts xs sum → Bounds p us c starts ys (sum - loss_of p us starts xs i)
  unfolding lower_bound loss_of
  bounds_dropped h = record {
    values = record {
      long = back.long;
      least = λ t l. value t l (out_in p starts t i) refl (h.values.least t l);
      small = λ t l. small t l (out_in p starts t i) refl (h.values.small t l);
    };
    under = omega (arith, h.under, weeks_lose, units_lose);
  }
