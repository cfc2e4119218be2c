-- Numbers of the tables in their ranges, and that sums and products of them fit a word.
-- Assumes nothing.
use Prim.Native.Nat.{ℕ, ◌+◌, ◌*◌, ◌/◌, ◌≤◌, ◌<◌}
use mathlib.Core.List.{List}
use native.Mathlib.Nat.{mul-le-mul, mul-le-mul_right, le_trans, div-le_self}
use native.Mathlib.Omega.{arith}
use lib.ListN.{get_or}
use Rattle.sums.specs.Sum.{sum_to}
use Rattle.sums.specs.Table.{AtMost}
use Rattle.sums.proofs.SumLaws.{sum_at_most}
use Rattle.states.specs.Choices.{Places, idle, gain}
use Rattle.states.specs.SearchTables.{CostsInRange}
use Rattle.states.specs.declared.Costs.{Costs}
use Rattle.states.specs.SearchTables.{MOST_CAP, MOST_COST, MOST_COST_SUM, MOST_GAIN, MOST_GAIN_SUM, MOST_NEED, MOST_SCORE}
use Rattle.states.proofs.ChoiceLaws.{idle_off}

-- ---- the costs

pub on_fits : (c : Costs) (score i : ℕ) → CostsInRange c → score ≤ MOST_SCORE → score + get_or c.ons i 0 < 18446744073709551616
on_fits c score i h l = omega (arith, l, h.ons.most i)

pub off_fits : (c : Costs) (score i : ℕ) → CostsInRange c → score ≤ MOST_SCORE → score + get_or c.offs i 0 < 18446744073709551616
off_fits c score i h l = omega (arith, l, h.offs.most i)

pub out_fits : (c : Costs) (score i : ℕ) → CostsInRange c → score ≤ MOST_SCORE → score + get_or c.outs i 0 < 18446744073709551616
out_fits c score i h l = omega (arith, l, h.outs.most i)

-- ---- products

-- a product of a rate and a need, of a price and crews
pub need_fits : (rate need : ℕ) → rate ≤ MOST_COST → need ≤ MOST_NEED → rate * need < 18446744073709551616
need_fits rate need l n = omega (arith, mul-le-mul l n)

pub score_fits : (rate need score : ℕ) → rate ≤ MOST_COST → need ≤ MOST_NEED → score ≤ MOST_SCORE → score + rate * need < 18446744073709551616
score_fits rate need score l n h = omega (arith, mul-le-mul l n)

pub idle_fits : (rate need score idle : ℕ) → rate ≤ MOST_COST → need ≤ MOST_NEED → score ≤ MOST_SCORE → idle ≤ MOST_COST_SUM
    → score + rate * need + idle < 18446744073709551616
idle_fits rate need score idle l n h i = omega (arith, mul-le-mul l n)

pub flat_fits : (score flat : ℕ) → score ≤ MOST_SCORE → flat ≤ MOST_COST_SUM → score + flat < 18446744073709551616
flat_fits score flat h i = omega arith

pub crews_fit : (price crews : ℕ) → price ≤ MOST_COST → crews ≤ 16 → price * crews < 18446744073709551616
crews_fit price crews l n = omega (arith, mul-le-mul l n)

pub gain_fits : (price crews gain : ℕ) → price ≤ MOST_COST → crews ≤ 16 → gain ≤ MOST_GAIN_SUM → gain + price * crews < 18446744073709551616
gain_fits price crews gain l n g = omega (arith, mul-le-mul l n)

-- what a place counts for, at a rate
pub count_lost : (rate count : ℕ) → rate ≤ MOST_COST → count ≤ MOST_CAP → rate * count < 18446744073709551616
count_lost rate count l m = omega (arith, mul-le-mul l m)

pub gained_fits : (rate count idle : ℕ) → rate ≤ MOST_COST → count ≤ MOST_CAP → idle ≤ MOST_COST → rate * count + idle < 18446744073709551616
gained_fits rate count idle l c o = omega (arith, mul-le-mul l c)

-- ---- sums

-- a sum over up to 16 places
pub sum_most : (f : ℕ → ℕ) (most k : ℕ) → ((i : ℕ) → i < 16 → f i ≤ most) → k ≤ 16 → sum_to k f ≤ 16 * most
sum_most f most k h l = omega (arith, sum_at_most k most f (λ i d. h i (omega (arith, d, l))), mul-le-mul_right most l)

pub gain_most : (p : Places) (rate price i : ℕ) → rate ≤ MOST_COST → p.cap i ≤ MOST_CAP → p.off i ≤ MOST_COST → gain p rate price i ≤ MOST_GAIN
unfolding gain
gain_most p rate price i l c o = omega (arith, mul-le-mul l c, idle_off p price i)

-- a price and what OUT costs
pub price_fits : (c : Costs) (price i : ℕ) → CostsInRange c → price ≤ MOST_COST → price + get_or c.outs i 0 < 18446744073709551616
price_fits c price i h l = omega (arith, l, h.outs.most i)

-- ---- advice

-- what a place weighs for each that it counts
pub rate_most : (weights : List ℕ) (k count : ℕ) → AtMost MOST_COST weights → get_or weights k 0 / count ≤ MOST_COST
rate_most weights k count h = le_trans (div-le_self (get_or weights k 0) count) (h.most k)

-- a sum of counts
pub count_fits : (counts : List ℕ) (given n k : ℕ) → AtMost MOST_CAP counts → given ≤ MOST_CAP * n → n < 16 → given + get_or counts k 0 < 18446744073709551616
count_fits counts given n k h l m = omega (arith, l, m, h.most k)

pub count_next : (counts : List ℕ) (given n k : ℕ) → AtMost MOST_CAP counts → given ≤ MOST_CAP * n → given + get_or counts k 0 ≤ MOST_CAP * (n + 1)
count_next counts given n k h l = omega (arith, l, h.most k)
