-- A dead end that is noted keeps what the state and the table say.
-- Assumes nothing.
use Prim.Native.Nat.{ℕ, ◌≤◌, ◌<◌}
use mathlib.Core.Path.{◌≡◌, sym, ◌∙◌, ap, subst, subst₂}
use mathlib.Core.Bool.{true}
use mathlib.Core.List.{List}
use native.Mathlib.Nat.{le_refl}
use lib.ListN.{length}
use Rattle.sums.specs.NumSet.{has}
use Rattle.sums.specs.Table.{entry}
use Rattle.model.specs.Problem.{Problem}
use Rattle.model.specs.Domain.{permitted}
use Rattle.model.specs.Nogood.{MOST_LIMIT, Nogood}
use Rattle.blame.specs.Closed.{Closed}
use Rattle.nogood.specs.Noting.{nogood_for}
use Rattle.nogood.specs.Stock.{Grown, DeadEnds}
use Rattle.nogood.proofs.StockLaws.{stock_noted, stock_room, noted_length}
use Rattle.state.specs.declared.State.{State}
use Rattle.state.specs.State.{DeadEndNoted}
use Rattle.walk.specs.Walk.{Later}

-- a dead end is noted, or not
pub later_noted : (p : Problem) (w w' : List ℕ) (st r : State) (xs : List ℕ) (k b : ℕ) → k ≤ p.units → st.limit.0 ≤ MOST_LIMIT
    → ((i : ℕ) → has b i ≡ true → permitted p i (entry xs i) ≡ true) → ((i : ℕ) → has b i ≡ true → i < k)
    → Closed p (has b) (entry xs) st.limit.0 → DeadEndNoted w w' st r xs k b → Later p w st w' r
later_noted p w w' st r xs k b few small permits within closed l =
    subst (Later p w st w') (sym l.state) (record {
      falls = le_refl st.limit.0;
      kept = λ c h. record { under = h.under; none = h.none; plan = h.plan };
      carried = record {
        stock = λ gs h.
            subst₂ (Grown p DeadEnds gs) (sym l.table) (sym l.used)
            (stock_noted p gs w xs st.used k b st.limit.0 h few small permits within closed);
        room = λ n h e. subst (λ (u : ℕ). u ≤ n) (sym l.used) (stock_room (length w) st.used st.limit.0 n g h e);
        long = ap length l.table ∙ noted_length w st.used st.limit.0 g;
      };
    })
  where
    g : Nogood
    g = nogood_for (entry xs) (has b) k st.limit.0
