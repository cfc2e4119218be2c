-- One week of an overhaul with the unit out as well: the rule that a failing week breaks closes the starts of the units blamed, and a week that
-- holds is worth what the relaxation says.
-- Assumes nothing.
use Prim.Native.Nat.{ℕ, ◌%◌, ◌≤◌, ◌<◌}
use mathlib.Core.Path.{◌≡◌, refl, sym, ◌∙◌, ap, subst, fun_ext}
use mathlib.Core.Bool.{Bool, true, false, ◌&&◌, ◌||◌}
use mathlib.Core.List.{List}
use native.Mathlib.Omega.{arith}
use lib.Dec.{eqb}
use borrow.Author.Tests.{eq-eqb}
use Rattle.std.proofs.Common.{Result, Ok, Err}
use Rattle.sums.specs.NumSet.{NumSet, has, with}
use Rattle.sums.proofs.LogicLaws.{true_false, and_of, and_left, and_right, or_left, or_right, not_so}
use Rattle.sums.proofs.NumSetLaws.{zero_has}
use Rattle.sets.specs.Sets.{SETS}
use Rattle.model.specs.Pairs.{apart}
use Rattle.model.specs.Schedule.{out_in}
use Rattle.model.specs.Commitment.{NO_RUN}
use Rattle.model.proofs.FileLaws.{ranged, fair}
use Rattle.instance.specs.declared.file.File.{File}
use Rattle.instance.specs.File.{problem}
use Rattle.instance.specs.declared.Euro.{Euro}
use Rattle.commitment.specs.declared.Tally.{Tally}
use Rattle.commitment.specs.Tally.{Tallies}
use Rattle.blame.specs.Closed.{Closed}
use Rattle.blame.proofs.PairLaws.{compatible_joined}
use Rattle.blame.proofs.ClosedLaws.{crews_closed, pair_closed, demand_closed}
use Rattle.tables.specs.Tables.{partners_in}
use Rattle.relaxation.specs.Relaxed.{WeekAt, Value}
use Rattle.bound.specs.Rows.{tally_of}
use Rattle.bound.specs.Tests.{WeekDue, OutShuts, OutHolds, OutTested, WeekShuts, WeekHolds, WeekTested}
use Rattle.bound.proofs.RowLaws.{Member, some_member}

-- ---- the crews and the demand

module _ (file : File) (us : List ℕ) (t : ℕ) (y : Tally) (at : WeekAt file us t) (w : Tallies (problem file) t y) where
  -- more units out than there are crews: all of them are to blame
  pub crews_shuts : (c : ℕ) → c ≡ (problem file).crews → c < y.count → OutShuts (problem file) t y.out
  crews_shuts c ec m = record {
    closed = λ starts outs limit.
        crews_closed (problem file) (has y.out) starts t (fair file.words.now file.filed.passed) (omega (arith, at.week, file.filed.weeks_are)) (λ n _. outs n)
        (omega (arith, w.many)) limit;
  }

  -- no run for the units that are left: the same
  pub demand_shuts : (u : ℕ → ℕ → ℕ) (v : ℕ) → Value (problem file) u t (has y.out) v → NO_RUN ≤ v
      → OutShuts (problem file) t y.out
  demand_shuts u v value none = record {
    closed = λ starts outs limit.
        demand_closed (problem file) (has y.out) starts t (fair file.words.now file.filed.passed) (omega (arith, at.week, file.filed.weeks_are)) (λ n _. outs n)
        (value.none none) limit;
  }

  -- else the week holds
  pub out_holds : (u : ℕ → ℕ → ℕ) (c v : ℕ) → c ≡ (problem file).crews → y.count ≤ c → Value (problem file) u t (has y.out) v → v < NO_RUN
      → OutHolds (problem file) u t (has y.out) v
  out_holds u c v ec crewed value less =
      record { crewed = omega (arith, w.many); serves = value.serves less; least = value.least; small = value.small }

-- ---- the excluded pairs

module _ (file : File) (us : List ℕ) (j t word partners both : ℕ) (y : Tally) (at : WeekAt file us t) (unit : j < file.layout.units)
    (d : WeekDue (problem file) t word) (e : y ≡ tally_of word) (is : partners ≡ partners_in us j)
    (meet : (k : ℕ) → has both k ≡ (has y.out k && has partners k)) where
  own_unit : j < (problem file).units
  own_unit = omega (arith, unit, file.filed.units_are)

  meets : (k : ℕ) → has both k ≡ (has (word % SETS) k && has partners k)
  meets k = meet k ∙ rw e

  partners_is : (k : ℕ) → has partners k ≡ apart (problem file) j k
  partners_is k = ap (λ (x : ℕ). has x k) is ∙ (at.priced.partners.each j own_unit).sets k

  -- some unit out forms one with unit j: all such units, and unit j, are to blame
  pub pair_shuts : (r : ℕ) → both < 4294967296 → (both ≡ 0 → ⊥) → ((k : ℕ) → has r k ≡ (has both k || eqb k j))
      → WeekShuts (problem file) (has (word % SETS)) j t r
  pair_shuts r b ne with-j = record { within = within; shuts = record { closed = closed } }
    where
      within : (i : ℕ) → has r i ≡ true → (has (word % SETS) i || eqb i j) ≡ true
      within i q = go (has both i) refl (sym (with-j i) ∙ q)
        where
          go : (c : Bool) → has both i ≡ c → (c || eqb i j) ≡ true → (has (word % SETS) i || eqb i j) ≡ true
          go true c _ = or_left (has (word % SETS) i) (eqb i j) (and_left (has (word % SETS) i) (has partners i) (sym (meets i) ∙ c))
          go false c s = or_right (has (word % SETS) i) (eqb i j) s

      m : Member both
      m = some_member both b ne

      in_both : (has (word % SETS) m.unit && has partners m.unit) ≡ true
      in_both = sym (meets m.unit) ∙ m.holds

      closed : (starts : ℕ → ℕ) → ((i : ℕ) → has r i ≡ true → out_in (problem file) starts t i ≡ true) → (limit : ℕ)
          → Closed (problem file) (has r) starts limit
      closed starts outs limit =
          let i = m.unit in
          let o = and_left (has (word % SETS) i) (has partners i) in_both in
          let k = d.within i o in
          let pair : apart (problem file) j i ≡ true = sym (partners_is i) ∙ and_right (has (word % SETS) i) (has partners i) in_both in
          pair_closed (problem file) (has r) starts t (fair file.words.now file.filed.passed) (omega (arith, at.week, file.filed.weeks_are)) (λ n _. outs n) j i own_unit k pair
          (with-j j ∙ or_right (has both j) (eqb j j) (eq-eqb j j refl)) (with-j i ∙ or_left (has both i) (eqb i j) m.holds) limit

  -- none does: the week is as the test of all who are out says
  module _ (z : Tally) (more : (k : ℕ) → has z.out k ≡ (has y.out k || eqb k j)) (none : both ≡ 0) where
    joins : has z.out ≡ with (has (word % SETS)) j
    joins = fun_ext (λ k. more k ∙ rw e)

    clear : (i : ℕ) → i < (problem file).units → has (word % SETS) i ≡ true → apart (problem file) j i ≡ false
    clear i _ o =
        not_so (apart (problem file) j i)
        (λ q.
        true_false
        (sym (and_of (has (word % SETS) i) (has partners i) o (partners_is i ∙ q)) ∙ sym (meets i) ∙ ap (λ (x : ℕ). has x i) none ∙ zero_has i))

    holds : (u : ℕ → ℕ → ℕ) (v : ℕ) → OutHolds (problem file) u t (has z.out) v → WeekHolds (problem file) u (has (word % SETS)) j t v
    holds u v h =
        let o : OutHolds (problem file) u t (with (has (word % SETS)) j) v = subst (λ (a : NumSet). OutHolds (problem file) u t a v) joins h in
        record {
          compatible = compatible_joined (problem file) (has (word % SETS)) (with (has (word % SETS)) j) j (fair file.words.now file.filed.passed)
              (ranged file.words.now file.filed.passed).pair_order d.compatible o.crewed (λ i _. refl) clear;
          serves = o.serves;
          least = o.least;
          small = o.small;
        }

    shuts : (b : ℕ) → (b ≡ z.out) × OutShuts (problem file) t b → WeekShuts (problem file) (has (word % SETS)) j t b
    shuts b h = record {
      within = λ i q. sym (ap (λ (a : NumSet). a i) joins) ∙ (ap (λ (x : ℕ). has x i) (sym h.0) ∙ q);
      shuts = h.1;
    }

    pub week_tested : (u : ℕ → ℕ → ℕ) (v : Result Euro ℕ) → OutTested (problem file) u t z.out v → WeekTested (problem file) u j t word v
    week_tested u (Ok r) h = holds u r.0 h
    week_tested u (Err b) h = shuts b h
