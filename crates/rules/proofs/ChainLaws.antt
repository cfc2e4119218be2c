-- The eight formulas in turn: the smallest number broken, from what the code found of each.
-- Assumes nothing.
use mathlib.Core.Path.{◌≡◌, sym, ◌∙◌}
use mathlib.Core.Bool.{Bool, true, false, not}
use Rattle.sums.proofs.LogicLaws.{not_at, true_false}
use Rattle.model.specs.Problem.{Problem}
use Rattle.model.specs.Grid.{States}
use Rattle.model.specs.Rules.{keeps1, keeps2, keeps3, keeps4, keeps5, keeps6, keeps7, keeps8, broken}

-- a test that the code found to hold
pub kept : (r k : Bool) → r ≡ k → not r ≡ false → k ≡ true
kept true k e h = sym e
kept false k e h = true_false h

-- and one that it found to fail
pub lost : (r k : Bool) → r ≡ k → not r ≡ true → k ≡ false
lost r k e h = sym e ∙ not_at r h

-- every formula before the one named holds
module _ (p : Problem) (x : States) where
  pub broken_1 : keeps1 p x ≡ false → 1 ≡ broken p x
  unfolding broken
  broken_1 e = rw e

  module _ (k1 : keeps1 p x ≡ true) where
    pub broken_2 : keeps2 p x ≡ false → 2 ≡ broken p x
    unfolding broken
    broken_2 e = rw (k1, e)

    module _ (k2 : keeps2 p x ≡ true) where
      pub broken_3 : keeps3 p x ≡ false → 3 ≡ broken p x
      unfolding broken
      broken_3 e = rw (k1, k2, e)

      module _ (k3 : keeps3 p x ≡ true) where
        pub broken_4 : keeps4 p x ≡ false → 4 ≡ broken p x
        unfolding broken
        broken_4 e = rw (k1, k2, k3, e)

        module _ (k4 : keeps4 p x ≡ true) where
          pub broken_5 : keeps5 p x ≡ false → 5 ≡ broken p x
          unfolding broken
          broken_5 e = rw (k1, k2, k3, k4, e)

          module _ (k5 : keeps5 p x ≡ true) where
            pub broken_6 : keeps6 p x ≡ false → 6 ≡ broken p x
            unfolding broken
            broken_6 e = rw (k1, k2, k3, k4, k5, e)

            module _ (k6 : keeps6 p x ≡ true) where
              pub broken_7 : keeps7 p x ≡ false → 7 ≡ broken p x
              unfolding broken
              broken_7 e = rw (k1, k2, k3, k4, k5, k6, e)

              module _ (k7 : keeps7 p x ≡ true) where
                pub broken_8 : keeps8 p x ≡ false → 8 ≡ broken p x
                unfolding broken
                broken_8 e = rw (k1, k2, k3, k4, k5, k6, k7, e)

                module _ (k8 : keeps8 p x ≡ true) where
                  -- and all eight hold
                  pub all_kept : 0 ≡ broken p x
                  unfolding broken
                  all_kept = rw (k1, k2, k3, k4, k5, k6, k7, k8)

pub ruleset chain = (kept, lost, broken_1, broken_2, broken_3, broken_4, broken_5, broken_6, broken_7, broken_8, all_kept)
