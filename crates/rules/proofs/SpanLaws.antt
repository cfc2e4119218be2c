-- Laws of the weeks between which a unit is in maintenance: what the loops that look for the first and the last of them know, and what
-- formulas (4), (5) and (6) say in terms of the two.
-- Assumes nothing.
use Prim.Native.Nat.{ℕ, ◌+◌, ◌-◌, ◌≤◌, ◌<◌}
use mathlib.Core.Path.{◌≡◌, sym, ◌∙◌, ap, subst}
use mathlib.Core.Bool.{true, false, not, ◌&&◌}
use mathlib.Core.Logic.{⊎_elim}
use native.Mathlib.Nat.{eq-or-lt_of_le}
use native.Mathlib.Numerals.{add-one}
use native.Mathlib.Omega.{arith}
use lib.Dec.{ltb, eqb}
use borrow.Author.Count.{below_none, below_more}
use borrow.Author.Tests.{ltb-true, lt-ltb, eqb-true, eqb-false, eq-eqb, ne_eqb}
use Rattle.sums.specs.Range.{all_to, all_table}
use Rattle.sums.proofs.LogicLaws.{true_false, and_of, and_left, and_right, implies_at, implies_of, not_at, not_of, not_so, same_test, lt_or_ge}
use Rattle.sums.proofs.RangeLaws.{all_at, all_of, table_at, table_of, some_of, first_is}
use Rattle.model.specs.Problem.{Problem}
use Rattle.model.specs.Grid.{States, is_maint}
use Rattle.model.specs.Rules.{ok4, unit4, not_out, not_later, is_first, is_last, ok5, unit5, out_at, unit6}
use Rattle.rules.specs.Spans.{FirstOut, EndOut}

-- ---- a week of maintenance, by the state r that the code reads

maint_is : (x : States) (t i r : ℕ) → r ≡ 2 → r ≡ x t i → is_maint x t i ≡ true
unfolding is_maint
maint_is x t i r e is = eq-eqb (x t i) 2 (sym is ∙ e)

maint_not : (x : States) (t i r : ℕ) → (r ≡ 2 → ⊥) → r ≡ x t i → is_maint x t i ≡ false
unfolding is_maint
maint_not x t i r n is = ne_eqb (x t i) 2 (λ q. n (is ∙ q))

-- a week of maintenance and one without are different weeks
two_weeks : (x : States) (i s t : ℕ) → is_maint x s i ≡ true → is_maint x t i ≡ false → s ≡ t → ⊥
two_weeks x i s t h n q = true_false (sym h ∙ ap (λ (k : ℕ). is_maint x k i) q ∙ n)

-- ---- the first week, looked for from below

-- unit i is in maintenance in no week before t
pub record NoneBefore (x : States) (i t : ℕ) : Type 0 where
  pub none : (s : ℕ) → s < t → is_maint x s i ≡ false

-- no week passed yet
pub none_start : (x : States) (i : ℕ) → NoneBefore x i 0
none_start x i = record { none = below_none (λ s. is_maint x s i ≡ false) }

-- one more week, in which the unit is not in maintenance
pub none_next : (x : States) (i t r : ℕ) → NoneBefore x i t → (r ≡ 2 → ⊥) → r ≡ x t i → NoneBefore x i (t + 1)
none_next x i t r b n is = record { none = below_more (λ s. is_maint x s i ≡ false) t b.none (maint_not x t i r n is) }

-- a week of maintenance is the first
pub first_found : (w : ℕ) (x : States) (i t r : ℕ) → NoneBefore x i t → r ≡ 2 → r ≡ x t i → t < w → FirstOut w x i t
first_found w x i t r b e is l = record { most = omega arith; none = b.none; out = λ h. maint_is x t i r e is }

-- no week is one
pub first_none : (w : ℕ) (x : States) (i t : ℕ) → NoneBefore x i t → t ≤ w → w ≤ t → FirstOut w x i w
first_none w x i t b h g = record { most = omega arith; none = λ s l. b.none s (omega arith); out = λ l. absurd (omega arith) }

-- ---- the week after the last, looked for from above

-- unit i is in maintenance in none of w weeks from t on
pub record NoneFrom (w : ℕ) (x : States) (i t : ℕ) : Type 0 where
  pub none : (s : ℕ) → t ≤ s → s < w → is_maint x s i ≡ false

-- no week passed yet
pub from_start : (w : ℕ) (x : States) (i : ℕ) → NoneFrom w x i w
from_start w x i = record { none = λ s h l. absurd (omega arith) }

-- one more week, in which the unit is not in maintenance
pub from_next : (w : ℕ) (x : States) (i t r : ℕ) → NoneFrom w x i t → (r ≡ 2 → ⊥) → r ≡ x (t - 1) i → NoneFrom w x i (t - 1)
from_next w x i t r b n is = record { none = λ s h l. ⊎_elim (here s) (above s l) (eq-or-lt_of_le h) }
  where
    here : (s : ℕ) → t - 1 ≡ s → is_maint x s i ≡ false
    here s q = ap (λ (k : ℕ). is_maint x k i) (sym q) ∙ maint_not x (t - 1) i r n is

    above : (s : ℕ) → s < w → t - 1 < s → is_maint x s i ≡ false
    above s l h = b.none s (omega arith) l

-- a week of maintenance is the last
pub end_found : (w : ℕ) (x : States) (i t r : ℕ) → NoneFrom w x i t → r ≡ 2 → r ≡ x (t - 1) i → t ≤ w → EndOut w x i t
end_found w x i t r b e is l = record { most = l; none = b.none; out = λ h. maint_is x (t - 1) i r e is }

-- the same of the week behind it, by its number
pub end_behind : (w : ℕ) (x : States) (i t r : ℕ) → NoneFrom w x i t → r ≡ 2 → r ≡ x (t - 1) i → t ≤ w → 0 < t → EndOut w x i (t - 1 + 1)
end_behind w x i t r b e is l some =
    let behind : t ≡ t - 1 + 1 = omega (arith, some) in subst (EndOut w x i) behind (end_found w x i t r b e is l)

-- no week is one
pub end_none : (w : ℕ) (x : States) (i t : ℕ) → NoneFrom w x i t → t ≤ 0 → EndOut w x i 0
end_none w x i t b h = record { most = omega arith; none = λ s g l. b.none s (omega arith) l; out = λ l. absurd (omega arith) }

-- ---- every week of maintenance lies from the first to the last

first_least : (w : ℕ) (x : States) (i a t : ℕ) → FirstOut w x i a → is_maint x t i ≡ true → a ≤ t
first_least w x i a t f m = ⊎_elim (λ (l : t < a). true_false (sym m ∙ f.none t l)) (λ (l : a ≤ t). l) (lt_or_ge t a)

end_above : (w : ℕ) (x : States) (i b t : ℕ) → EndOut w x i b → t < w → is_maint x t i ≡ true → t < b
end_above w x i b t e l m = ⊎_elim (λ (h : t < b). h) (λ (h : b ≤ t). true_false (sym m ∙ e.none t h l)) (lt_or_ge t b)

-- ---- formula (4)

-- unit i is in maintenance in every week from a on, before b
pub record OutFrom (x : States) (i a b : ℕ) : Type 0 where
  pub out : (t : ℕ) → a ≤ t → t < b → is_maint x t i ≡ true

-- no week passed yet
pub out_start : (x : States) (i a : ℕ) → OutFrom x i a a
out_start x i a = record { out = λ t h l. absurd (omega arith) }

-- one more week, in which the unit is in maintenance
pub out_next : (x : States) (i a t r : ℕ) → OutFrom x i a t → r ≡ 2 → r ≡ x t i → OutFrom x i a (t + 1)
out_next x i a t r o e is = record {
  out = λ s h l. below_more (λ k. a ≤ k → is_maint x k i ≡ true) t (λ k m g. o.out k g m) (λ g. maint_is x t i r e is) s l h;
}

module _ (p : Problem) (x : States) (i w a b : ℕ) (f : FirstOut w x i a) (e : EndOut w x i b) where
  -- where the unit is out from the first to the last, it is between any two weeks of maintenance
  joined : OutFrom x i a b → (t2 t1 t : ℕ) → t2 < w → t < t2 → ok4 p x i t2 t1 t ≡ true
  unfolding ok4
  joined o t2 t1 t l h = implies_of (is_maint x t1 i && is_maint x t2 i && ltb t1 t) (is_maint x t i) between
    where
      between : (is_maint x t1 i && is_maint x t2 i && ltb t1 t) ≡ true → is_maint x t i ≡ true
      between y =
          let both = and_left (is_maint x t1 i && is_maint x t2 i) (ltb t1 t) y in
          let after = ltb-true t1 t (and_right (is_maint x t1 i && is_maint x t2 i) (ltb t1 t) y) in
          let low = first_least w x i a t1 f (and_left (is_maint x t1 i) (is_maint x t2 i) both) in
          let high = end_above w x i b t2 e l (and_right (is_maint x t1 i) (is_maint x t2 i) both) in
          o.out t (omega arith) (omega arith)

  -- so it keeps (4)
  row_whole : OutFrom x i a b → all_to w (unit4 p x i) ≡ true
  unfolding unit4
  row_whole o = all_of w (unit4 p x i) (λ t2 l. table_of t2 t2 (ok4 p x i t2) (λ t1 t h g. joined o t2 t1 t l g))

  -- a week among them in which it is not out breaks (4), with the first week and the last
  row_gap : (t : ℕ) → is_maint x t i ≡ false → a ≤ t → t < b → unit4 p x i (b - 1) ≡ false
  unfolding unit4 ok4
  row_gap t n h l = not_so (unit4 p x i (b - 1)) (λ y. true_false (sym (held y) ∙ n))
    where
      first : is_maint x a i ≡ true
      first = f.out (omega (arith, e.most))

      last : is_maint x (b - 1) i ≡ true
      last = e.out (omega arith)

      low : a < t
      low = omega (arith, two_weeks x i a t first n)

      high : t < b - 1
      high = omega (arith, two_weeks x i (b - 1) t last n)

      held : unit4 p x i (b - 1) ≡ true → is_maint x t i ≡ true
      held y =
          implies_at (is_maint x a i && is_maint x (b - 1) i && ltb a t) (is_maint x t i)
          (table_at (b - 1) (b - 1) (ok4 p x i (b - 1)) y a t (omega (arith, low, high)) high)
          (and_of (is_maint x a i && is_maint x (b - 1) i) (ltb a t) (and_of (is_maint x a i) (is_maint x (b - 1) i) first last) (lt-ltb a t low))

-- one more unit, in maintenance from its first week of it to its last
pub whole_next : (p : Problem) (x : States) (i w a b t : ℕ) → all_table i w (unit4 p x) ≡ true → FirstOut w x i a → EndOut w x i b
    → OutFrom x i a t → b ≤ t → all_table (i + 1) w (unit4 p x) ≡ true
unfolding all_table
whole_next p x i w a b t h f e o l = rw (add-one, h, row_whole p x i w a b f e (record { out = λ s g k. o.out s g (omega arith) }))

-- a unit that is not
pub whole_broken : (p : Problem) (x : States) (i w n a b t r : ℕ) → FirstOut w x i a → EndOut w x i b → (r ≡ 2 → ⊥) → r ≡ x t i
    → a ≤ t → t < b → i < n → p.units ≡ n → p.weeks ≡ w → false ≡ all_table p.units p.weeks (unit4 p x)
whole_broken p x i w n a b t r f e m is h l u un wn = sym (not_so (all_table p.units p.weeks (unit4 p x)) broken)
  where
    broken : all_table p.units p.weeks (unit4 p x) ≡ true → ⊥
    broken y =
        let kept = table_at p.units p.weeks (unit4 p x) y i (b - 1) (omega arith) (omega (arith, e.most)) in
        true_false (sym kept ∙ row_gap p x i w a b f e t (maint_not x t i r m is) h l)

-- ---- the first week and the last, as formula (5) has them

module _ (p : Problem) (x : States) (i w : ℕ) (wn : p.weeks ≡ w) where
  -- the first week is the one found, and the other way round
  first_at : (a t : ℕ) → FirstOut w x i a → t < w → is_first p x i t ≡ true → t ≡ a
  unfolding is_first not_out
  first_at a t f l y = omega (arith, low, high)
    where
      low : a ≤ t
      low = first_least w x i a t f (and_left (is_maint x t i) (all_to t (not_out p x i)) y)

      none : a < t → is_maint x a i ≡ false
      none h = not_at (is_maint x a i) (all_at t (not_out p x i) (and_right (is_maint x t i) (all_to t (not_out p x i)) y) a h)

      high : t ≤ a
      high = ⊎_elim (λ (h : a < t). true_false (sym (f.out (omega arith)) ∙ none h)) (λ (h : t ≤ a). h) (lt_or_ge a t)

  at_first : (a : ℕ) → FirstOut w x i a → a < w → is_first p x i a ≡ true
  unfolding is_first not_out
  at_first a f l = and_of (is_maint x a i) (all_to a (not_out p x i)) (f.out l) (all_of a (not_out p x i) (λ s h. not_of (is_maint x s i) (f.none s h)))

  -- the last is the one before the end found, and the other way round
  last_at : (b t : ℕ) → EndOut w x i b → t < w → is_last p x i t ≡ true → t + 1 ≡ b
  unfolding is_last not_later not_out
  last_at b t e l y = omega (arith, high, low)
    where
      high : t < b
      high = end_above w x i b t e l (and_left (is_maint x t i) (all_to p.weeks (not_later p x i t)) y)

      none : t < b - 1 → is_maint x (b - 1) i ≡ false
      none h =
          not_at (is_maint x (b - 1) i) (implies_at (ltb t (b - 1)) (not_out p x i (b - 1))
          (all_at p.weeks (not_later p x i t) (and_right (is_maint x t i) (all_to p.weeks (not_later p x i t)) y) (b - 1) (omega (arith, e.most)))
          (lt-ltb t (b - 1) h))

      low : b - 1 ≤ t
      low = ⊎_elim (λ (h : t < b - 1). true_false (sym (e.out (omega arith)) ∙ none h)) (λ (h : b - 1 ≤ t). h) (lt_or_ge t (b - 1))

  at_last : (b : ℕ) → EndOut w x i b → 0 < b → is_last p x i (b - 1) ≡ true
  unfolding is_last not_later not_out
  at_last b e l =
      and_of (is_maint x (b - 1) i) (all_to p.weeks (not_later p x i (b - 1))) (e.out l) (all_of p.weeks (not_later p x i (b - 1)) later)
    where
      later : (s : ℕ) → s < p.weeks → not_later p x i (b - 1) s ≡ true
      later s k =
          implies_of (ltb (b - 1) s) (not_out p x i s)
          (λ y. let h = ltb-true (b - 1) s y in not_of (is_maint x s i) (e.none s (omega arith) (omega arith)))

  -- ---- formula (5)

  -- (5) for two weeks, by what it says where they are the first and the last
  long_of : (t1 t2 : ℕ) → (is_first p x i t1 ≡ true → is_last p x i t2 ≡ true → t2 + 1 ≡ t1 + p.duration i) → ok5 p x i t1 t2 ≡ true
  unfolding ok5
  long_of t1 t2 h =
      implies_of (is_first p x i t1 && is_last p x i t2) (eqb (t2 + 1) (t1 + p.duration i))
      (λ y. eq-eqb (t2 + 1) (t1 + p.duration i)
      (h (and_left (is_first p x i t1) (is_last p x i t2) y) (and_right (is_first p x i t1) (is_last p x i t2) y)))

  -- a unit without maintenance keeps (5)
  pub long_none : (b : ℕ) → EndOut w x i b → b ≡ 0 → true ≡ unit5 p x i
  unfolding unit5
  long_none b e z = sym (table_of p.weeks p.weeks (ok5 p x i) (λ t1 t2 h g. long_of t1 t2 (λ y k. absurd (no_last t2 g k))))
    where
      no_last : (t2 : ℕ) → t2 < p.weeks → is_last p x i t2 ≡ true → ⊥
      no_last t2 g k = omega (arith, last_at b t2 e (omega arith) k)

  -- so does one whose maintenance is as long as the duration
  size_long : (a b : ℕ) → FirstOut w x i a → EndOut w x i b → b ≡ a + p.duration i → unit5 p x i ≡ true
  unfolding unit5
  size_long a b f e s = table_of p.weeks p.weeks (ok5 p x i) (λ t1 t2 h g. long_of t1 t2 (sizes t1 t2 h g))
    where
      sizes : (t1 t2 : ℕ) → t1 < p.weeks → t2 < p.weeks → is_first p x i t1 ≡ true → is_last p x i t2 ≡ true → t2 + 1 ≡ t1 + p.duration i
      sizes t1 t2 h g y k = omega (arith, first_at a t1 f (omega arith) y, last_at b t2 e (omega arith) k)

  -- and no other
  long_size : (a b : ℕ) → FirstOut w x i a → EndOut w x i b → 0 < b → unit5 p x i ≡ true → b ≡ a + p.duration i
  unfolding unit5 ok5
  long_size a b f e l y = omega (arith, size)
    where
      low : a < w
      low = omega (arith, first_least w x i a (b - 1) f (e.out l), e.most)

      size : b - 1 + 1 ≡ a + p.duration i
      size =
          eqb-true (b - 1 + 1) (a + p.duration i)
          (implies_at (is_first p x i a && is_last p x i (b - 1)) (eqb (b - 1 + 1) (a + p.duration i))
          (table_at p.weeks p.weeks (ok5 p x i) y a (b - 1) (omega (arith, low)) (omega (arith, e.most)))
          (and_of (is_first p x i a) (is_last p x i (b - 1)) (at_first a f low) (at_last b e l)))

  -- a unit with maintenance keeps (5) exactly where its end is its first week and the duration d
  pub long_some : (a b d : ℕ) → FirstOut w x i a → EndOut w x i b → (b ≡ 0 → ⊥) → d ≡ p.duration i → eqb b (a + d) ≡ unit5 p x i
  long_some a b d f e n q =
      same_test (eqb b (a + d)) (unit5 p x i)
      (λ y. size_long a b f e (omega (arith, eqb-true b (a + d) y)))
      (λ y. eq-eqb b (a + d) (omega (arith, long_size a b f e (omega arith) y)))

-- ---- formula (6)

-- a unit is in maintenance in some week exactly where its end is not 0
pub some_out : (p : Problem) (x : States) (i w b : ℕ) → p.weeks ≡ w → EndOut w x i b → not (eqb b 0) ≡ unit6 p x i
unfolding unit6 out_at
some_out p x i w b wn e = same_test (not (eqb b 0)) (unit6 p x i) forth back
  where
    forth : not (eqb b 0) ≡ true → unit6 p x i ≡ true
    forth y =
        let n = eqb-false b 0 (not_at (eqb b 0) y) in
        some_of p.weeks (out_at p x i) (b - 1) (omega (arith, n, e.most)) (e.out (omega (arith, n)))

    back : unit6 p x i ≡ true → not (eqb b 0) ≡ true
    back y =
        let k = first_is p.weeks (out_at p x i) y in
        let h = end_above w x i b _ e (omega (arith, k.below)) k.holds in
        not_of (eqb b 0) (ne_eqb b 0 (λ z. omega (arith, h, z)))
