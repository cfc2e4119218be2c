-- A nogood read word by word, from its bound to the last of its choices.
-- Assumes nothing.
use Prim.Native.Nat.{ℕ, ◌+◌, ◌-◌, ◌/◌, ◌%◌, ◌≤◌, ◌<◌}
use mathlib.Core.Path.{◌≡◌, refl, sym, ◌∙◌, ap, subst}
use mathlib.Core.Bool.{Bool, true, false, not}
use mathlib.Core.List.{List}
use native.Mathlib.Decide.{dec_lt, ℕ_discrete}
use native.Mathlib.Omega.{arith}
use lib.ListN.{length, get_or, get_or-eq_default}
use Rattle.std.proofs.Common.{Option, Some, None, IfSome}
use borrow.Author.Count.{below_more}
use Rattle.sums.specs.NumSet.{NumSet, has, with}
use Rattle.sums.specs.Table.{entry}
use Rattle.sums.proofs.LogicLaws.{true_false}
use Rattle.sums.proofs.NumSetLaws.{zero_has, with_at, with_old, with_else}
use Rattle.model.specs.Words.{kind_of, value_of}
use Rattle.nogood.specs.Recall.{CHOICE_RADIX, Chosen, UnitMet, Choices, Match, Recalled}

-- ---- a choice

-- a unit placed whose start xs has
pub unit_some : (xs : List ℕ) (placed x v u s : ℕ) (in-set : Bool) → v ≡ value_of x → u + 1 ≡ v / CHOICE_RADIX → u ≤ 15 → in-set ≡ has placed u
    → not in-set ≡ false → s ≡ entry xs u → s ≡ v % CHOICE_RADIX → UnitMet xs (has placed) x u
unit_some xs placed x v u s in-set is here l m t e f = record {
  few = omega arith;
  placed = sym m ∙ not_off in-set t;
  unit = here ∙ ap (λ (t : ℕ). t / CHOICE_RADIX) is;
  start = sym e ∙ f ∙ ap (λ (t : ℕ). t % CHOICE_RADIX) is;
}
  where
    not_off : (b : Bool) → not b ≡ false → b ≡ true
    not_off true q = refl
    not_off false q = true_false q

-- ---- choice by choice

-- whoever has the starts of xs for the units of b, all of a, has the choices after i and before m
pub record Reading (w xs : List ℕ) (a : NumSet) (i b m : ℕ) : Type 0 where
  pub after : i < m
  pub upto : m ≤ length w
  pub chosen : (starts : ℕ → ℕ) → ((q : ℕ) → has b q ≡ true → starts q ≡ entry xs q) → (q : ℕ) → i < q → q < m → Chosen starts (get_or w q 0)
  pub within : (q : ℕ) → has b q ≡ true → a q ≡ true

-- none read yet
pub reading_start : (w xs : List ℕ) (a : NumSet) (i : ℕ) → i < length w → Reading w xs a i 0 (i + 1)
reading_start w xs a i l = record {
  after = omega arith;
  upto = omega arith;
  chosen = λ starts on q x y. absurd (omega arith);
  within = λ q h. true_false (sym h ∙ zero_has q);
}

-- one more, which xs has
pub reading_next : (w xs : List ℕ) (a : NumSet) (i b r m u : ℕ) → Reading w xs a i b m → m < length w → UnitMet xs a (get_or w m 0) u
    → ((j : ℕ) → has r j ≡ with (has b) u j) → Reading w xs a i r (m + 1)
reading_next w xs a i b r m u h l met joined = record {
  after = let x = h.after in omega arith;
  upto = omega arith;
  chosen = λ starts on q x y.
      below_more (λ n. i < n → Chosen starts (get_or w n 0)) m (λ n z g. h.chosen starts (λ j e. on j (old j e)) n g z) (λ g. here starts on) q y x;
  within = λ q x. inside q x (ℕ_discrete q u);
}
  where
    unit : u ≡ value_of (get_or w m 0) / CHOICE_RADIX - 1
    unit = let x = met.unit in omega arith

    old : (j : ℕ) → has b j ≡ true → has r j ≡ true
    old j x = joined j ∙ with_old (has b) u j x

    new : has r u ≡ true
    new = joined u ∙ with_at (has b) u

    inside : (q : ℕ) → has r q ≡ true → Dec (q ≡ u) → a q ≡ true
    inside q x (yes z) = ap a z ∙ met.placed
    inside q x (no z) = h.within q (sym (joined q ∙ with_else (has b) u q z) ∙ x)

    here : (starts : ℕ → ℕ) → ((j : ℕ) → has r j ≡ true → starts j ≡ entry xs j) → Chosen starts (get_or w m 0)
    here starts on = subst (λ (t : ℕ). starts t ≡ value_of (get_or w m 0) % CHOICE_RADIX) unit (on u new ∙ met.start)

reading_stop : (w xs : List ℕ) (a : NumSet) (i b m : ℕ) → Reading w xs a i b m → (kind_of (get_or w m 0) ≡ 14 → ⊥) → Match w xs a i b
reading_stop w xs a i b m h stop = record {
  takes = λ starts on. record { each = λ q x run. by starts on q x run (dec_lt q m) };
  within = h.within;
}
  where
    by : (starts : ℕ → ℕ) → ((j : ℕ) → has b j ≡ true → starts j ≡ entry xs j) → (q : ℕ) → i < q → Choices w i q → Dec (q < m)
        → Chosen starts (get_or w q 0)
    by starts on q x run (yes z) = h.chosen starts on q x z
    by starts on q x run (no z) = absurd (stop (run m h.after (omega arith)))

-- the next word is no choice
pub reading_end : (w xs : List ℕ) (a : NumSet) (i b m kind : ℕ) → Reading w xs a i b m → kind ≡ kind_of (get_or w m 0) → (kind ≡ 14 → ⊥) → Match w xs a i b
reading_end w xs a i b m kind h is ne = reading_stop w xs a i b m h (λ e. ne (is ∙ e))

-- there is no next word
pub reading_out : (w xs : List ℕ) (a : NumSet) (i b m : ℕ) → Reading w xs a i b m → length w ≤ m → Match w xs a i b
unfolding kind_of
reading_out w xs a i b m h l = reading_stop w xs a i b m h (λ e. absurd (omega (arith, e, get_or-eq_default w 0 l)))

-- ---- the nogood at a place

-- its bound covers the limit, and whoever was met has its choices
pub recalled : (w xs : List ℕ) (a : NumSet) (limit i kind v : ℕ) (h : Option ℕ) → kind ≡ kind_of (get_or w i 0) → kind ≡ 13 → v ≡ value_of (get_or w i 0) → limit ≤ v + 1
    → i < length w → IfSome h (Match w xs a i) → Recalled w xs a limit h
recalled w xs a limit i kind v None e f g c l m = tt
recalled w xs a limit i kind v (Some b) e f g c l m =
    record { at = i; below = l; bound = sym e ∙ f; covers = subst (λ (x : ℕ). limit ≤ x + 1) g c; match = m }
