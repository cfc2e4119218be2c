-- What the table of sums says of a node.
-- Assumes nothing.
use Prim.Native.Nat.{ℕ, ◌+◌, ◌-◌, ◌*◌, ◌≤◌, ◌<◌}
use mathlib.Core.Path.{◌≡◌, refl, ap}
use lib.ListN.{get_or}
use native.Mathlib.Omega.{arith}
use Rattle.sums.specs.Sum.{sum_to}
use Rattle.sums.specs.NumSet.{NumSet}
use Rattle.sums.proofs.SumLaws.{sum_mono}
use Rattle.states.specs.Choices.{Places, PlaceStates, given, gives, ChoiceFloor, NodeDone, idle, gain, flat}
use Rattle.states.specs.SearchTables.{SearchTables, places_of}
use Rattle.states.specs.SearchTables.{MOST_CAP, MOST_COST, MOST_COST_SUM, MOST_GAIN, MOST_GAIN_SUM, MOST_NEED}
use Rattle.states.specs.declared.Advice.{Advice}
use Rattle.states.specs.declared.Costs.{Costs}
use Rattle.states.specs.declared.Sums.{Sums}
use Rattle.states.specs.declared.PlaceState.{PlaceState}
use Rattle.states.specs.declared.PlaceState.TheVariants.{On, Off, Out}
use Rattle.states.specs.declared.StateNode.{StateNode}
use Rattle.states.specs.declared.StateFound.{StateFound}
use Rattle.states.proofs.ChoiceLaws.{floor_rate, floor_flat, idle_off, flat_on}
use Rattle.states.proofs.RangeLaws.{sum_most, gain_most}

-- ---- in their ranges

module _ (c : Costs) (s : Sums) (a : Advice) (t : SearchTables c s a) (k : ℕ) (l : k ≤ 16) where
  abbrev p : Places
  p = places_of c a.shut

  pub idle_under : get_or s.idles k 0 ≤ MOST_COST_SUM
  idle_under =
      let each : (i : ℕ) → i < 16 → idle p a.price i ≤ MOST_COST = λ i m. omega (arith, idle_off p a.price i, t.costs.offs.most i) in
      omega (arith, t.sums.idles.each k l, sum_most (idle p a.price) MOST_COST k each l)

  pub flat_under : get_or s.flats k 0 ≤ MOST_COST_SUM
  flat_under =
      let each : (i : ℕ) → i < 16 → flat p a.price i ≤ MOST_COST = λ i m. omega (arith, flat_on p a.price i, t.costs.ons.most i) in
      omega (arith, t.sums.flats.each k l, sum_most (flat p a.price) MOST_COST k each l)

  pub gain_under : get_or s.gains k 0 ≤ MOST_GAIN_SUM
  gain_under =
      let each : (i : ℕ) → i < 16 → gain p a.rate a.price i ≤ MOST_GAIN =
      λ i m. gain_most p a.rate a.price i t.advice.rate (t.costs.caps.most i) (t.costs.offs.most i) in
      omega (arith, t.sums.gains.each k l, sum_most (gain p a.rate a.price) MOST_GAIN k each l)

  pub room_under : (need : ℕ) → need ≤ get_or s.rooms k 0 → need ≤ MOST_NEED
  room_under need h =
      let each : (i : ℕ) → i < 16 → p.cap i ≤ MOST_CAP = λ i m. t.costs.caps.most i in
      omega (arith, h, t.sums.rooms.each k l, sum_most p.cap MOST_CAP k each l)

  -- ---- lower bounds

  pub by_rate : (need crews : ℕ) (bar : NumSet) (score r : ℕ)
      → r ≡ (score + a.rate * need + get_or s.idles k 0) - (get_or s.gains k 0 + a.price * crews) → ChoiceFloor p k need crews bar score r
  by_rate need crews bar score r h =
      floor_rate p k need crews bar score a.rate a.price r (rw (t.sums.idles.each k l, t.sums.gains.each k l) at h)

  pub by_flat : (need crews : ℕ) (bar : NumSet) (score r : ℕ) → r ≡ (score + get_or s.flats k 0) - a.price * crews
      → ChoiceFloor p k need crews bar score r
  by_flat need crews bar score r h = floor_flat p k need crews bar score a.price r (rw (t.sums.flats.each k l) at h)

-- ---- what is seen of a node

cap_most : (p : Places) (s : PlaceStates) (k : ℕ) → sum_to k (gives p s) ≤ sum_to k p.cap
unfolding gives given
cap_most p s k = sum_mono k (gives p s) p.cap (λ i l. by i (s i) refl)
  where
    by : (i : ℕ) (st : PlaceState) → s i ≡ st → gives p s i ≤ p.cap i
    by i On e = let h = ap (given p i) e in omega (arith, h)
    by i Off e = let h = ap (given p i) e in omega (arith, h)
    by i Out e = let h = ap (given p i) e in omega (arith, h)

-- the places left do not suffice
pub seen_room : (c : Costs) (s : Sums) (a : Advice) (k : ℕ) (y : StateNode) (low : StateFound) → SearchTables c s a → k ≤ 16
    → get_or s.rooms k 0 < y.need → NodeDone (places_of c a.shut) k y low low
seen_room c s a k y low t l h = record {
  ended = record {
    below = λ q d. absurd (omega (arith, h, d.enough, t.sums.rooms.each k l, cap_most (places_of c a.shut) q k));
  };
  less = omega arith;
}
