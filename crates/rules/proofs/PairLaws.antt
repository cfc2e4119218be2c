-- Formula (8) pair by pair: only weeks in which the lower unit is in maintenance can break it, so the weeks from its first to its last are all
-- that the code tries.
-- Assumes nothing.
use Prim.Native.Nat.{ℕ, ◌+◌, ◌≤◌, ◌<◌}
use mathlib.Core.Path.{◌≡◌, sym, ◌∙◌}
use mathlib.Core.Bool.{Bool, true, false, not}
use mathlib.Core.Logic.{⊎_elim}
use native.Mathlib.Omega.{arith}
use borrow.Author.Count.{below_none, below_more}
use Rattle.sums.proofs.LogicLaws.{true_false, implies_of, lt_or_ge}
use Rattle.sums.proofs.RangeLaws.{table_of}
use Rattle.sums.proofs.LoopLaws.{table_broken}
use Rattle.model.specs.Problem.{Problem}
use Rattle.model.specs.Grid.{States, is_maint}
use Rattle.model.specs.Rules.{ok8, keeps8}
use Rattle.rules.specs.Spans.{FirstOut, EndOut}

-- the first n pairs keep (8) in every week
pub record PairsKept (p : Problem) (x : States) (n : ℕ) : Type 0 where
  pub kept : (k : ℕ) → k < n → (t : ℕ) → t < p.weeks → ok8 p x t k ≡ true

-- pair n keeps it in the weeks from a on, before b
pub record WeeksKept (p : Problem) (x : States) (n a b : ℕ) : Type 0 where
  pub kept : (t : ℕ) → a ≤ t → t < b → ok8 p x t n ≡ true

-- no pair tried yet
pub pairs_start : (p : Problem) (x : States) → PairsKept p x 0
pairs_start p x = record { kept = below_none (λ k. (t : ℕ) → t < p.weeks → ok8 p x t k ≡ true) }

-- no week tried yet
pub weeks_start : (p : Problem) (x : States) (n a : ℕ) → WeeksKept p x n a a
weeks_start p x n a = record { kept = λ t h l. absurd (omega arith) }

-- one more week
pub weeks_next : (p : Problem) (x : States) (n a t : ℕ) (r : Bool) → WeeksKept p x n a t → not r ≡ false → r ≡ ok8 p x t n → WeeksKept p x n a (t + 1)
weeks_next p x n a t true h d e = record {
  kept = λ s l below. below_more (λ k. a ≤ k → ok8 p x k n ≡ true) t (λ k m g. h.kept k g m) (λ g. sym e) s below l;
}
weeks_next p x n a t false h d e = true_false d

-- a week in which the lower unit is not in maintenance
free_week : (p : Problem) (x : States) (n t : ℕ) → is_maint x t (p.pair_a n) ≡ false → ok8 p x t n ≡ true
unfolding ok8
free_week p x n t e = implies_of (is_maint x t (p.pair_a n)) (not (is_maint x t (p.pair_b n))) (λ h. true_false (sym h ∙ e))

module _ (p : Problem) (x : States) (w n u a first end : ℕ) (weeks : p.weeks ≡ w) (lower : a ≡ p.pair_a n) (same : u ≡ a) where
  unit_is : u ≡ p.pair_a n
  unit_is = same ∙ lower

  -- all weeks of the lower unit's overhaul, and so all weeks
  pub pairs_next : (t : ℕ) → FirstOut w x u first → EndOut w x u end → PairsKept p x n → WeeksKept p x n first t → end ≤ t → PairsKept p x (n + 1)
  pairs_next t f e before here h = record {
    kept = below_more (λ k. (s : ℕ) → s < p.weeks → ok8 p x s k ≡ true) n before.kept every;
  }
    where
      free : (s : ℕ) → is_maint x s u ≡ false → ok8 p x s n ≡ true
      free s q = free_week p x n s (rw unit_is at q)

      later : (s : ℕ) → s < p.weeks → first ≤ s → ok8 p x s n ≡ true
      later s l g =
          ⊎_elim (λ (m : s < end). here.kept s g (omega arith)) (λ (m : end ≤ s). free s (e.none s m (omega arith))) (lt_or_ge s end)

      every : (s : ℕ) → s < p.weeks → ok8 p x s n ≡ true
      every s l = ⊎_elim (λ (m : s < first). free s (f.none s m)) (later s l) (lt_or_ge s first)

-- a week that is tried and found to break (8)
pub pair_breaks : (p : Problem) (x : States) (w n t u end pairs : ℕ) (r : Bool) → p.weeks ≡ w → EndOut w x u end → t < end → n < pairs
    → pairs ≡ p.pairs → not r ≡ true → r ≡ ok8 p x t n → false ≡ keeps8 p x
unfolding keeps8
pair_breaks p x w n t u end pairs r weeks e l h count d is =
    let most = e.most in
    table_broken (ok8 p x) t n w pairs p.weeks p.pairs r is d (omega arith) h weeks (sym count)

-- every pair is kept
pub pairs_ended : (p : Problem) (x : States) (n pairs : ℕ) (ok : Bool) → ok ≡ true → PairsKept p x n → n ≤ pairs → pairs ≤ n → pairs ≡ p.pairs
    → ok ≡ keeps8 p x
unfolding keeps8
pairs_ended p x n pairs ok o h l g count = o ∙ sym (table_of p.weeks p.pairs (ok8 p x) (λ t k ht hk. h.kept k (omega arith) t ht))
