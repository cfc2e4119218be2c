-- Laws of tables whose numbers are bounded: one number everywhere, and one number written.
-- Assumes nothing.
use Prim.Native.Nat.{ℕ, ◌≤◌, ◌<◌}
use mathlib.Core.Path.{◌≡◌}
use mathlib.Core.List.{List}
use native.Mathlib.Decide.{dec_lt, ℕ_discrete}
use native.Mathlib.Omega.{arith}
use lib.ListN.{length, get_or, set, replicate, length-set, length-replicate, get_or-replicate, get_or-eq_default}
use lib.Seq.{get_or-set_same, get_or-set_other}
use Rattle.sums.specs.Table.{AtMost}

-- the same number everywhere
pub at_most_start : (n v b : ℕ) → v ≤ b → AtMost b (replicate n v)
at_most_start n v b h = record { most = λ i. by i (dec_lt i n) }
  where
    by : (i : ℕ) → Dec (i < n) → get_or (replicate n v) i 0 ≤ b
    by i (yes l) = omega (arith, get_or-replicate n i v 0 l)
    by i (no l) =
        let e : length (replicate n v) ≤ i = omega (arith, length-replicate n v) in
        omega (arith, get_or-eq_default (replicate n v) 0 e)

-- a number written; past the end it changes nothing
pub at_most_put : (b : ℕ) (xs : List ℕ) (k v : ℕ) → AtMost b xs → v ≤ b → AtMost b (set xs k v)
at_most_put b xs k v h m = record { most = λ i. by i (ℕ_discrete i k) (dec_lt k (length xs)) }
  where
    by : (i : ℕ) → Dec (i ≡ k) → Dec (k < length xs) → get_or (set xs k v) i 0 ≤ b
    by i (yes e) (yes l) = rw e (omega (arith, get_or-set_same xs k v 0 l))
    by i (yes e) (no l) =
        let n : length (set xs k v) ≤ i = omega (arith, length-set xs k v) in
        omega (arith, get_or-eq_default (set xs k v) 0 n)
    by i (no e) l = omega (arith, get_or-set_other xs k i v 0 e, h.most i)
