-- One state of the walk after another: the relation carries the limit, the best so far and the table, and each small change of a state keeps it.
-- Assumes nothing.
use Prim.Native.Nat.{ℕ, ◌+◌, ◌-◌, ◌≤◌, ◌<◌}
use mathlib.Core.Path.{refl, sym, ◌∙◌, subst}
use mathlib.Core.List.{List, [], ◌++◌}
use native.Mathlib.Nat.{le_refl, le_trans}
use native.Mathlib.Omega.{arith}
use Rattle.sums.proofs.LogicLaws.{true_false}
use Rattle.model.specs.Problem.{Problem}
use Rattle.model.specs.Nogood.{bounds_alone}
use Rattle.instance.specs.declared.Euro.{Euro}
use Rattle.nogood.specs.Noting.{KEPT_FREE}
use Rattle.nogood.specs.Stock.{DeadEnds}
use Rattle.nogood.proofs.StockLaws.{grown_none, grown_next}
use Rattle.state.specs.declared.State.{State}
use Rattle.state.specs.State.{tried_once, stopped_at, improved_by}
use Rattle.walk.specs.Walk.{IsIncumbent, TableTrue, Carried, Later}

-- ---- the table

-- nothing has happened
pub carried_same : (p : Problem) (w : List ℕ) (used : ℕ) → Carried p w used w used
unfolding bounds_alone
carried_same p w used = record { stock = λ gs h. grown_none p gs w used DeadEnds refl h; room = λ n h g. h; long = refl }

-- one after the other
pub carried_next : (p : Problem) (w w₁ w₂ : List ℕ) (used used₁ used₂ : ℕ) → Carried p w used w₁ used₁ → Carried p w₁ used₁ w₂ used₂
    → Carried p w used w₂ used₂
carried_next p w w₁ w₂ used used₁ used₂ x y = record {
  stock = λ gs h. grown_next p gs w₁ used₁ [] [] w₂ used₂ (x.stock gs h) y.stock;
  room = λ n h g. y.room n (x.room n h g) (subst (λ (k : ℕ). k - KEPT_FREE ≤ n) (sym x.long) g);
  long = y.long ∙ x.long;
}

-- the table still holds what is true
pub held_carried : (p : Problem) (w w' : List ℕ) (used used' : ℕ) → TableTrue p w used → Carried p w used w' used' → TableTrue p w' used'
held_carried p w w' used used' h c =
    let g = c.stock h.nogoods h.stock in
    record { nogoods = h.nogoods ++ g.more; stock = g.stock }

-- ---- the state

-- nothing has happened
pub later_same : (p : Problem) (w : List ℕ) (st : State) → Later p w st w st
later_same p w st = record { falls = le_refl st.limit.0; kept = λ c h. h; carried = carried_same p w st.used }

-- one after the other
pub later_next : (p : Problem) (w w₁ w₂ : List ℕ) (a b c : State) → Later p w a w₁ b → Later p w₁ b w₂ c → Later p w a w₂ c
later_next p w w₁ w₂ a b c x y = record {
  falls = le_trans y.falls x.falls;
  kept = λ ceiling h. y.kept ceiling (x.kept ceiling h);
  carried = carried_next p w w₁ w₂ a.used b.used c.used x.carried y.carried;
}

-- the table still holds what is true
pub held_later : (p : Problem) (w w' : List ℕ) (st st' : State) → TableTrue p w st.used → Later p w st w' st' → TableTrue p w' st'.used
held_later p w w' st st' h l = held_carried p w w' st.used st'.used h l.carried

-- a try is counted
pub later_tried : (p : Problem) (w : List ℕ) (st : State) → Later p w st w (tried_once st)
later_tried p w st = record {
  falls = le_refl st.limit.0;
  kept = λ c h. record { under = h.under; none = h.none; plan = h.plan };
  carried = carried_same p w st.used;
}

-- the mark is set
pub later_stopped : (p : Problem) (w xs : List ℕ) (k : ℕ) (st : State) → Later p w st w (stopped_at st xs k).state
later_stopped p w xs k st = record {
  falls = le_refl st.limit.0;
  kept = λ c h. record { under = h.under; none = h.none; plan = h.plan };
  carried = carried_same p w st.used;
}

-- a better schedule is found, which leads under every ceiling that the limit is under
pub later_improved : (p : Problem) (w xs : List ℕ) (c : Euro) (st : State) → c.0 < st.limit.0
    → ((ceiling : ℕ) → st.limit.0 ≤ ceiling + 1 → IsIncumbent p ceiling xs c.0) → Later p w st w (improved_by st xs c)
later_improved p w xs c st less leads = record {
  falls = omega arith;
  kept = λ ceiling h. record {
    under = omega (arith, h.under);
    none = λ e. true_false e;
    plan = λ e. leads ceiling h.under;
  };
  carried = carried_same p w st.used;
}
