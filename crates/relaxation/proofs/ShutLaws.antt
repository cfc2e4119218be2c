-- The room that crews leave and the units that need no try, a unit at a time.
-- Assumes nothing.
use Prim.Native.Nat.{ℕ, ◌+◌, ◌-◌, ◌≤◌, ◌<◌}
use mathlib.Core.Path.{◌≡◌, refl, sym, ◌∙◌, ap, subst}
use mathlib.Core.Bool.{Bool, true, false, ◌||◌}
use mathlib.Core.List.{List}
use mathlib.Core.Logic.{◌⊎◌, inl, inr}
use native.Mathlib.Numerals.{add-one}
use native.Mathlib.Decide.{ℕ_discrete}
use native.Mathlib.Omega.{arith}
use lib.Dec.{eqb}
use borrow.Author.Tests.{eq-eqb, eqb-true}
use Rattle.sums.specs.Sum.{sum_to, counts_one}
use Rattle.sums.specs.NumSet.{NumSet, only_in, has}
use Rattle.sums.proofs.LogicLaws.{true_false, or_left, or_right}
use Rattle.sums.proofs.NumSetLaws.{zero_has}
use Rattle.model.specs.Problem.{Problem}
use Rattle.model.specs.Rules.{headcount}
use Rattle.instance.specs.declared.file.File.{File}
use Rattle.instance.specs.File.{problem}
use Rattle.tables.specs.Tables.{price_in, partners_in, PartnersOf, Priced}
use Rattle.relaxation.specs.Choosing.{Needless, NeedlessUnits, CrewsLeft}
use Rattle.relaxation.proofs.OutLaws.{apart_barred}

-- ---- the room that crews leave

-- a unit that is out takes one
pub room_taken : (o : NumSet) (i room : ℕ) (b : Bool) → b ≡ o i → b ≡ true → 0 < room → room ≤ room - 1 + only_in o counts_one i
unfolding only_in counts_one
room_taken o i room b is e l = rw (← is, e) (omega arith)

-- all crews
pub room_start : (p : Problem) (f : ℕ → ℕ) (room : ℕ) → room ≡ p.crews → p.crews ≤ sum_to 0 f + room
unfolding sum_to
room_start p f room e = omega arith

-- one unit more
pub room_next : (p : Problem) (f : ℕ → ℕ) (i room r : ℕ) → p.crews ≤ sum_to i f + room → room ≤ r + f i → p.crews ≤ sum_to (i + 1) f + r
unfolding sum_to
room_next p f i room r h l = rw add-one (omega arith)

-- all of them
pub room_ended : (file : File) (o : NumSet) (i room : ℕ) → (problem file).crews ≤ sum_to i (only_in o counts_one) + room
    → i ≤ file.layout.units → file.layout.units ≤ i → CrewsLeft (problem file) o room
unfolding headcount
room_ended file o i room h le ge =
    let e : i ≡ (problem file).units = omega (arith, file.filed.units_are) in
    record { most = subst (λ (k : ℕ). (problem file).crews ≤ sum_to k (only_in o counts_one) + room) e h }

-- ---- the units that need no try

-- a set with unit i and the units of c more, as the code makes it
pub more_is : (s c w r i : ℕ) → ((k : ℕ) → has w k ≡ (has s k || eqb k i)) → ((k : ℕ) → has r k ≡ (has w k || has c k))
    → (k : ℕ) → has r k ≡ ((has s k || eqb k i) || has c k)
more_is s c w r i a b k = b k ∙ ap (λ (x : Bool). x || has c k) (a k)

-- the partners as the table has them
pub more_own : (s c d r i : ℕ) → c ≡ d → ((k : ℕ) → has r k ≡ ((has s k || eqb k i) || has c k))
    → (k : ℕ) → has r k ≡ ((has s k || eqb k i) || has d k)
more_own s c d r i e h = subst (λ (x : ℕ). (k : ℕ) → has r k ≡ ((has s k || eqb k i) || has x k)) e h

-- a member of a set with unit i and the units of c more
more_at : (s c r i : ℕ) → ((k : ℕ) → has r k ≡ ((has s k || eqb k i) || has c k)) → (k : ℕ) → has r k ≡ true
    → (has s k ≡ true) ⊎ ((k ≡ i) ⊎ (has c k ≡ true))
more_at s c r i is k e = by (has s k) (eqb k i) refl refl (sym (is k) ∙ e)
  where
    by : (a b : Bool) → has s k ≡ a → eqb k i ≡ b → ((a || b) || has c k) ≡ true → (has s k ≡ true) ⊎ ((k ≡ i) ⊎ (has c k ≡ true))
    by true b x y z = inl x
    by false true x y z = inr (inl (eqb-true k i y))
    by false false x y z = inr (inr z)

-- and the other way round
pub more_of : (s c r i : ℕ) → ((k : ℕ) → has r k ≡ ((has s k || eqb k i) || has c k)) → (k : ℕ) → (has s k ≡ true) ⊎ (k ≡ i) → has r k ≡ true
more_of s c r i is k (inl h) = is k ∙ or_left (has s k || eqb k i) (has c k) (or_left (has s k) (eqb k i) h)
more_of s c r i is k (inr z) = is k ∙ or_left (has s k || eqb k i) (has c k) (or_right (has s k) (eqb k i) (eq-eqb k i z))

-- none yet
pub shut_start : (p : Problem) (u : ℕ → ℕ → ℕ) (t : ℕ) (o : NumSet) → NeedlessUnits p u t o 0 0
shut_start p u t o = record { needless = λ i l e. true_false (sym e ∙ zero_has i); own = λ i l e. absurd (omega arith) }

-- a unit that is out, and its partners
pub shut_joined : (p : Problem) (u : ℕ → ℕ → ℕ) (t : ℕ) (o : NumSet) (i s c r : ℕ) → ((k : ℕ) → k < p.units → has s k ≡ true → Needless p u t o k)
    → i < p.units → o i ≡ true → PartnersOf p i c → ((k : ℕ) → has r k ≡ ((has s k || eqb k i) || has c k))
    → (k : ℕ) → k < p.units → has r k ≡ true → Needless p u t o k
shut_joined p u t o i s c r old l it partners is k m e = by (more_at s c r i is k e)
  where
    by : (has s k ≡ true) ⊎ ((k ≡ i) ⊎ (has c k ≡ true)) → Needless p u t o k
    by (inl h) = old k m h
    by (inr (inl z)) = inl (ap o z ∙ it)
    by (inr (inr h)) = inr (inr (apart_barred p o i k l it (sym (partners.sets k) ∙ h)))

module _ (file : File) (xs : List ℕ) (t out i s r : ℕ) (h : i < file.layout.units)
    (old : NeedlessUnits (problem file) (price_in xs) t (has out) i s) where
  inside : i < (problem file).units
  inside = omega (arith, file.filed.units_are)

  -- unit i is out
  pub shut_out : (b : Bool) (c : ℕ) → b ≡ has out i → b ≡ true → Priced (problem file) xs → c ≡ partners_in xs i
      → ((k : ℕ) → has r k ≡ ((has s k || eqb k i) || has c k)) → NeedlessUnits (problem file) (price_in xs) t (has out) (i + 1) r
  shut_out b c is e priced own more = record {
    needless =
        shut_joined (problem file) (price_in xs) t (has out) i s c r old.needless inside (sym is ∙ e) (rw own (priced.partners.each i inside)) more;
    own = λ k m z. by k m z (ℕ_discrete k i);
  }
    where
      by : (k : ℕ) → k < i + 1 → has out k ≡ true → Dec (k ≡ i) → has r k ≡ true
      by k m z (yes q) = more_of s c r i more k (inr q)
      by k m z (no q) = more_of s c r i more k (inl (old.own k (omega arith) z))

  -- those of `out` below i + 1 are those below i where unit i is not out
  lower : (b : Bool) → b ≡ has out i → b ≡ false → (k : ℕ) → k < i + 1 → has out k ≡ true → has s k ≡ true
  lower b is e k m z = by (ℕ_discrete k i)
    where
      by : Dec (k ≡ i) → has s k ≡ true
      by (yes q) = true_false (sym z ∙ ap (has out) q ∙ sym is ∙ e)
      by (no q) = old.own k (omega arith) z

  -- its price is 0
  pub shut_free : (b : Bool) (own : ℕ) → b ≡ has out i → b ≡ false → own ≡ price_in xs t i → own ≡ 0
      → ((k : ℕ) → has r k ≡ (has s k || eqb k i)) → NeedlessUnits (problem file) (price_in xs) t (has out) (i + 1) r
  shut_free b own is e price zero more = record {
    needless = λ k m z. by k m z (has s k) refl;
    own = λ k m z. more k ∙ or_left (has s k) (eqb k i) (lower b is e k m z);
  }
    where
      by : (k : ℕ) → k < (problem file).units → has r k ≡ true → (c : Bool) → has s k ≡ c → Needless (problem file) (price_in xs) t (has out) k
      by k m z true q = old.needless k m q
      by k m z false q =
          let y : eqb k i ≡ true = ap (λ (c : Bool). c || eqb k i) (sym q) ∙ sym (more k) ∙ z in
          inr (inl (ap (price_in xs t) (eqb-true k i y) ∙ sym price ∙ zero))

  -- neither
  pub shut_kept : (b : Bool) → b ≡ has out i → b ≡ false → NeedlessUnits (problem file) (price_in xs) t (has out) (i + 1) s
  shut_kept b is e = record { needless = old.needless; own = lower b is e }

-- all of them
pub shut_ended : (file : File) (u : ℕ → ℕ → ℕ) (t i s : ℕ) (o : NumSet) → NeedlessUnits (problem file) u t o i s → i ≤ file.layout.units
    → file.layout.units ≤ i → NeedlessUnits (problem file) u t o (problem file).units s
shut_ended file u t i s o h le ge =
    let e : i ≡ (problem file).units = omega (arith, file.filed.units_are) in
    subst (λ (k : ℕ). NeedlessUnits (problem file) u t o k s) e h
