-- The bound before any unit is placed: the least of all overhauls, and what the weeks are worth with nobody out, a turn of each loop at a time.
-- Assumes nothing.
use Prim.Native.Nat.{ℕ, ◌+◌, ◌*◌, ◌≤◌, ◌<◌}
use mathlib.Core.Path.{◌≡◌, refl, sym, ◌∙◌, ap, subst, fun_ext}
use mathlib.Core.Bool.{true, false}
use mathlib.Core.List.{List}
use native.Mathlib.Decide.{ℕ_discrete}
use native.Mathlib.Omega.{arith}
use lib.ListN.{length, get_or, set, length-set}
use Rattle.sums.specs.Sum.{sum_to}
use Rattle.sums.specs.Range.{list_to}
use Rattle.sums.specs.NumSet.{NumSet, has}
use Rattle.sums.specs.Table.{entry}
use Rattle.sums.proofs.LogicLaws.{true_false}
use Rattle.sums.proofs.SumLaws.{sum_same}
use Rattle.sums.proofs.RangeLaws.{list_length, list_at}
use Rattle.sums.proofs.NumSetLaws.{zero_has}
use Rattle.sums.proofs.LoopLaws.{sum_next, place_next}
use Rattle.model.specs.Problem.{Problem}
use Rattle.model.specs.Commitment.{NO_RUN, full_least}
use Rattle.model.proofs.FileLaws.{fair}
use Rattle.instance.specs.declared.file.File.{File}
use Rattle.instance.specs.File.{problem}
use Rattle.blame.specs.Closed.{Closed}
use Rattle.blame.specs.Placed.{out_of}
use Rattle.blame.specs.Priced.{unit_bound, lower_bound, WeekLeast}
use Rattle.blame.proofs.PairLaws.{compatible_none}
use Rattle.blame.proofs.ClosedLaws.{demand_closed}
use Rattle.blame.proofs.PlacedLaws.{out_none}
use Rattle.tables.specs.Tables.{START_COSTS, price_in, least_in, excess_in, root_in, total_in}
use Rattle.dual.specs.Dual.{Bounds}
use Rattle.dual.proofs.BoundsLaws.{week_none, bounds_closed}
use Rattle.bound.specs.Tests.{MOST_LEAST, AllStand, AllBlame, RootValues, RootDue}

-- what all overhauls cost at least
pub least_next : (us : List ℕ) (i s v r : ℕ) → s ≡ sum_to i (least_in us) → v ≡ excess_in us i 0 → r ≡ s + v → r ≡ sum_to (i + 1) (least_in us)
unfolding least_in excess_in
least_next us i s v r hs hv hr =
    let z : START_COSTS + i * 64 + 0 ≡ START_COSTS + i * 64 = omega arith in
    sum_next (least_in us) i s v r hs (hv ∙ ap (λ (k : ℕ). get_or us k 0) z) hr

-- of all units
pub least_ended : (file : File) (us : List ℕ) (i units r : ℕ) → units ≡ file.layout.units → i ≤ units → units ≤ i
    → r ≡ sum_to i (least_in us) → r ≡ sum_to (problem file).units (least_in us)
least_ended file us i units r e a b h =
    let q : i ≡ (problem file).units = omega (arith, file.filed.units_are) in h ∙ ap (λ (n : ℕ). sum_to n (least_in us)) q

-- the first n weeks have a run with nobody out, and with the least of all overhauls they come to r
pub record RootTo (p : Problem) (us : List ℕ) (n r : ℕ) : Type 0 where
  pub served : (t : ℕ) → t < n → root_in us t < NO_RUN
  pub sums : r ≡ sum_to p.units (least_in us) + sum_to n (root_in us)
  pub small : r ≤ MOST_LEAST + n * NO_RUN

-- no week yet
pub root_start : (p : Problem) (us : List ℕ) (r : ℕ) → r ≡ sum_to p.units (least_in us) → r ≤ MOST_LEAST → RootTo p us 0 r
unfolding sum_to
root_start p us r e m = record { served = λ t l. absurd (omega arith); sums = omega arith; small = omega arith }

-- a sum with one more fits a word
pub root_fits : (p : Problem) (us : List ℕ) (n weeks r v : ℕ) → RootTo p us n r → n < weeks → weeks ≤ 52 → v < NO_RUN → r + v < 18446744073709551616
root_fits p us n weeks r v h b few small = omega (arith, h.small)

-- one more
pub root_next : (p : Problem) (us : List ℕ) (n r v s : ℕ) → RootTo p us n r → v ≡ root_in us n → v < NO_RUN → s ≡ r + v → RootTo p us (n + 1) s
root_next p us n r v s h e b is = record {
  served = λ t l. by t l (ℕ_discrete t n);
  sums = omega (arith, h.sums, sum_next (root_in us) n (sum_to n (root_in us)) v (sum_to n (root_in us) + v) refl e refl);
  small = omega (arith, h.small);
}
  where
    by : (t : ℕ) → t < n + 1 → Dec (t ≡ n) → root_in us t < NO_RUN
    by t l (yes q) = rw q (omega arith)
    by t l (no q) = h.served t (omega arith)

module _ (file : File) (us : List ℕ) (limit : ℕ) (d : RootDue file us limit) where
  abbrev p : Problem
  p = problem file

  nobody : {A : Type 0} (i : ℕ) → has 0 i ≡ true → A
  nobody i q = true_false (sym q ∙ zero_has i)

  -- a week that cannot be served: nobody is to blame
  pub root_shut : (t weeks v : ℕ) → weeks ≡ file.layout.weeks → t < weeks → v ≡ root_in us t → NO_RUN ≤ v → AllBlame (problem file) limit 0
  root_shut t weeks v is h e m =
      let in_season : t < p.weeks = omega (arith, file.filed.weeks_are) in
      record {
        each = λ starts. record {
          closed = demand_closed p (has 0) starts t (fair file.words.now file.filed.passed) in_season (λ i _ q. nobody i q)
              ((d.dual.roots.each t in_season).none (omega arith)) limit;
          within = λ i q. nobody i q;
        };
      }

  module _ (t weeks r : ℕ) (h : RootTo (problem file) us t r) (e : weeks ≡ file.layout.weeks) (a : t ≤ weeks) (b : weeks ≤ t) where
    all_weeks : t ≡ (problem file).weeks
    all_weeks = omega (arith, file.filed.weeks_are)

    none_out : (starts : ℕ → ℕ) (q i : ℕ) → out_of (problem file) (has 0) starts q i ≡ false
    none_out starts q i = out_none p (has 0) starts q i (zero_has i)

    -- the bound of nobody, with any values that are those of the roots
    root_bounds : (starts : ℕ → ℕ) (xs : List ℕ) → length xs ≡ 52 → ((q : ℕ) → q < (problem file).weeks → entry xs q ≡ root_in us q)
        → Bounds (problem file) us (has 0) starts xs r
    unfolding lower_bound unit_bound
    root_bounds starts xs long same = record {
      values = record {
        long = long;
        least = λ q m. subst (WeekLeast p (price_in us) q (out_of p (has 0) starts q)) (sym (same q m))
            (week_none p (price_in us) q (out_of p (has 0) starts q) (root_in us q) (d.dual.roots.each q m).least);
        small = λ q m. omega (arith, same q m, (d.dual.roots.each q m).small);
      };
      under =
          let x = sum_same p.weeks (entry xs) (root_in us) same in
          let z = sum_same p.units (unit_bound p (price_in us) (has 0) starts (least_in us)) (least_in us) (λ i m. rw (zero_has i)) in
          let y : sum_to t (root_in us) ≡ sum_to p.weeks (root_in us) = ap (λ (n : ℕ). sum_to n (root_in us)) all_weeks in
          omega (arith, h.sums, x, y, z);
    }

    -- it comes to what is wanted: nothing is left
    pub root_blames : (wanted : ℕ) → wanted ≡ limit + total_in us → wanted ≤ r → AllBlame (problem file) limit 0
    unfolding entry
    root_blames wanted ew le = record { each = λ starts. record { closed = none_closed starts; within = λ i q. nobody i q } }
      where
        none_closed : (starts : ℕ → ℕ) → Closed (problem file) (has 0) starts limit
        none_closed starts =
            let front : List ℕ = list_to 52 (root_in us) in
            bounds_closed p us (has 0) starts front r limit (fair file.words.now file.filed.passed) d.dual
            (root_bounds starts front (list_length 52 (root_in us))
            (λ q m. list_at 52 (root_in us) q (omega (arith, file.filed.weeks_are, file.filed.weeks_most)))) (omega arith)

    -- else it is the bound before any unit is placed
    pub root_stands : (xs : List ℕ) → RootValues us xs → AllStand (problem file) us xs r
    root_stands xs fr = record {
      each = λ starts. record {
        standing = record {
          permits = λ i q. nobody i q;
          compatible = λ q m. compatible_none p (out_of p (has 0) starts q) (none_out starts q);
          served = λ q m. subst (λ (x : NumSet). full_least p q x < NO_RUN) (fun_ext (λ i. zero_has i ∙ sym (none_out starts q i)))
              ((d.dual.roots.each q m).serves (h.served q (omega (arith, all_weeks))));
        };
        bounds = root_bounds starts xs fr.long (λ q m. fr.each q (omega (arith, file.filed.weeks_are, file.filed.weeks_most)));
      };
    }

-- the places of the weeks so far
pub record FrontsTo (us : List ℕ) (n : ℕ) (xs : List ℕ) : Type 0 where
  pub long : length xs ≡ 52
  pub each : (t : ℕ) → t < n → entry xs t ≡ root_in us t

-- none yet
pub fronts_start : (us xs : List ℕ) → length xs ≡ 52 → FrontsTo us 0 xs
fronts_start us xs long = record { long = long; each = λ t l. absurd (omega arith) }

-- one more
pub fronts_next : (us xs : List ℕ) (t v : ℕ) → FrontsTo us t xs → t < 52 → v ≡ root_in us t → FrontsTo us (t + 1) (set xs t v)
unfolding entry
fronts_next us xs t v h b e = record {
  long = length-set xs t v ∙ h.long;
  each = place_next (λ (q x : ℕ). x ≡ root_in us q) xs t v (omega (arith, h.long)) e h.each;
}

-- all of them
pub fronts_ended : (us xs : List ℕ) (t : ℕ) → FrontsTo us t xs → 52 ≤ t → RootValues us xs
fronts_ended us xs t h b = record { long = h.long; each = λ q m. h.each q (omega arith) }
