-- What the code makes of the table and the state, in the form of its contracts.
-- Assumes nothing.
use Prim.Native.Nat.{ℕ}
use mathlib.Core.Path.{◌≡◌, refl, sym, ◌∙◌, ap, subst, fun_ext}
use mathlib.Core.List.{List}
use lib.ListN.{length}
use Rattle.sums.specs.NumSet.{NumSet, has, with}
use Rattle.sums.specs.Table.{entry}
use Rattle.nogood.specs.Noting.{nogood_for, noted_used, noted, end_used, ended}
use Rattle.std.proofs.Common.{Option}
use Rattle.nogood.specs.Recall.{Recalled}
use Rattle.state.specs.declared.State.{State}
use Rattle.state.specs.declared.Walked.{Walked}
use Rattle.state.specs.declared.Walked.TheVariants.{Dead, Spent}
use Rattle.state.specs.State.{with_table, DeadEndNoted, NoneNoted, EndNoted}

-- a dead end noted, or not
pub dead_end_noted_of : (w w' : List ℕ) (st r : State) (xs ends : List ℕ) (k b used : ℕ) → r ≡ with_table st ends used
    → used ≡ noted_used (length w) st.used st.limit.0 (nogood_for (entry xs) (has b) k st.limit.0)
    → w' ≡ noted w st.used st.limit.0 (nogood_for (entry xs) (has b) k st.limit.0) → DeadEndNoted w w' st r xs k b
dead_end_noted_of w w' st r xs ends k b used e u t =
    subst (λ (s : State). DeadEndNoted w w' st s xs k b) (sym e) (record { state = refl; used = u; table = t })

-- ---- a conflict recalled

-- it is met by the units of a set that has one unit more
pub recalled_with : (w xs : List ℕ) (placed j both limit : ℕ) (h : Option ℕ) → ((k : ℕ) → has both k ≡ with (has placed) j k)
    → Recalled w xs (has both) limit h → Recalled w xs (with (has placed) j) limit h
recalled_with w xs placed j both limit h same r = subst (λ (a : NumSet). Recalled w xs a limit h) (fun_ext same) r

-- ---- the end of a walk

-- the conflict without choices noted
pub end_of : (w w' : List ℕ) (st r : State) (used : ℕ) → r ≡ with_table st st.ends used → used ≡ end_used st.used st.limit.0
    → w' ≡ ended w st.used st.limit.0 → NoneNoted w w' st r
end_of w w' st r used e u t = (e ∙ ap (with_table st st.ends) u, t)

-- it is spent
pub concluded_spent : (w : List ℕ) (st : State) (m : ℕ) (k : Walked) → k ≡ Spent m → EndNoted w w st st k
concluded_spent w st m k e = subst (EndNoted w w st st) (sym e) (refl, refl)

-- it is not
pub concluded_dead : (w w' : List ℕ) (st r : State) (b : ℕ) (k : Walked) → k ≡ Dead b → NoneNoted w w' st r → EndNoted w w' st r k
concluded_dead w w' st r b k e c = subst (EndNoted w w' st r) (sym e) c
