-- What a week is worth, and a memo of such values: emptied, found, written, and left alone by others.
-- Assumes nothing.
use Prim.Native.Nat.{ℕ, ◌+◌, ◌*◌, ◌≤◌, ◌<◌}
use mathlib.Core.Path.{◌≡◌, sym, ◌∙◌, subst}
use mathlib.Core.List.{List}
use native.Mathlib.Nat.{mul-le-mul_right}
use native.Mathlib.Omega.{arith}
use lib.ListN.{get_or, replicate}
use Rattle.std.specs.Prelude.{Option, Some}
use Rattle.sums.specs.NumSet.{NumSet, has}
use Rattle.sets.specs.Sets.{SETS}
use Rattle.model.specs.Problem.{Problem}
use Rattle.model.specs.Commitment.{Pick, nothing, picked, cheapest_run, NO_RUN, full_cost, pick_cost, full_least}
use Rattle.model.proofs.CommitmentLaws.{full_lacks}
use Rattle.instance.specs.declared.file.File.{File}
use Rattle.instance.specs.File.{problem}
use Rattle.instance.specs.Filed.{Filed}
use Rattle.commitment.proofs.ScoreLaws.{run_small}
use Rattle.memo.specs.Memo.{Entry, Present, Looked, Wrote, OTHERS, Others, key_of, Right}
use Rattle.memo.proofs.EntryLaws.{empty_key, right_empty, right_kept, wrote_all}
use Rattle.blame.specs.Priced.{WeekLeast}
use Rattle.blame.proofs.BoundLaws.{week_plain}
use Rattle.tables.specs.Tables.{MOST_PRICE, MOST_WEEK_PRICES, price_in}
use Rattle.relaxation.specs.Relaxed.{WeekAt, Value, value_key, MemoValues, MemoTrue}
use Rattle.relaxation.specs.declared.WeekNode.{WeekNode}
use Rattle.relaxation.specs.Choosing.{prices_not_out, Floor, RootNode, Choosing}
use Rattle.relaxation.proofs.LeftLaws.{not_out_small}
use Rattle.relaxation.proofs.FloorLaws.{floor_week}
use Rattle.relaxation.proofs.NodeLaws.{choose_full}

-- ---- a value

-- the cheapest run's cost is one, at any prices
pub value_plain : (file : File) (u : ℕ → ℕ → ℕ) (t out v : ℕ) → t < file.layout.weeks → v ≡ full_least (problem file) t (has out)
    → v ≤ NO_RUN → Value (problem file) u t (has out) v
value_plain file u t out v h e m =
    let p = problem file in
    record {
      least = rw e (week_plain p u t (has out));
      small = m;
      none = λ n. full_lacks p t (has out) (λ r s. omega (arith, run_small file t h r)) (omega arith);
      serves = λ n. omega arith;
    }

-- a cheapest run of an accepted file costs no more than 4,000,000, where there is one
run_cheap : (file : File) (t : ℕ) (a : NumSet) → t < file.layout.weeks → full_least (problem file) t a < NO_RUN
    → full_least (problem file) t a ≤ 4000000
unfolding full_least pick_cost
run_cheap file t a h = by (cheapest_run (problem file) t a)
  where
    by : (x : Pick) → pick_cost (full_cost (problem file) t) x < NO_RUN → pick_cost (full_cost (problem file) t) x ≤ 4000000
    by nothing b = absurd (omega arith)
    by (picked r) b = run_small file t h r

-- a lower bound of the week that is no more than the set itself, where there is a run; prices cannot bring it to what stands for none
pub value_least : (file : File) (xs : List ℕ) (t out cost v : ℕ) (y : WeekNode) → WeekAt file xs t → cost ≡ full_least (problem file) t (has out)
    → cost < NO_RUN → RootNode (problem file) (price_in xs) t out cost y → v ≤ y.value.0
    → WeekLeast (problem file) (price_in xs) y.week (has y.out) v → Value (problem file) (price_in xs) t (has out) v
value_least file xs t out cost v y at e less begun low least =
    record {
      least = subst (λ (o : ℕ). WeekLeast p u t (has o) v) begun.same (rw begun.week at least);
      small = omega (arith, cheap, few, begun.value);
      none = λ x. absurd (omega (arith, cheap, few, begun.value));
      serves = λ x. omega arith;
    }
  where
    f : Filed file.words.now file.layout
    f = file.filed

    p : Problem
    p = problem file

    u : ℕ → ℕ → ℕ
    u = price_in xs

    cheap : full_least p t (has out) ≤ 4000000
    cheap = run_cheap file t (has out) at.week (omega arith)

    few : prices_not_out u t (has out) p.units ≤ MOST_WEEK_PRICES
    few =
        let most : p.units ≤ 16 = omega (arith, f.units_are, f.units_most) in
        omega (arith, not_out_small xs t (has out) p.units at.priced.prices, mul-le-mul_right MOST_PRICE most)

-- as the choice of sets ends with
pub least_chosen : (file : File) (xs : List ℕ) (t v : ℕ) (o : NumSet) → Floor (problem file) (price_in xs) t o file.layout.units v
    → WeekLeast (problem file) (price_in xs) t o v
least_chosen file xs t v o floor = floor_week (problem file) (price_in xs) t o file.layout.units v (omega (arith, file.filed.units_are)) floor

-- as where no crew is left
pub least_full : (file : File) (xs left memo : List ℕ) (y : WeekNode) (v : ℕ) → Choosing file xs left y memo → y.room ≡ 0 → v ≡ y.value.0
    → WeekLeast (problem file) (price_in xs) y.week (has y.out) v
least_full file xs left memo y v c z e =
    least_chosen file xs y.week v (has y.out)
    (choose_full file.words.now xs y c.known file.layout file.layout.units file.filed (omega arith) v (omega arith) z)

-- ---- a memo of values

-- their keys are another's
key_above : (t out : ℕ) → OTHERS < value_key t out
unfolding value_key key_of
key_above t out = omega arith

-- and tell the week and the set
keys_same : (t out t' out' : ℕ) → out < SETS → out' < SETS → value_key t out ≡ value_key t' out' → (t ≡ t') × (out ≡ out')
unfolding value_key key_of
keys_same t out t' out' b b' e = (omega arith, omega arith)

-- an emptied memo recalls whatever the prices
pub recalls_empty : (p : Problem) (u : ℕ → ℕ → ℕ) (memo : List ℕ) (n : ℕ) → memo ≡ replicate n 0 → MemoTrue p u memo
recalls_empty p u memo n is = record {
  costs = right_empty p memo n is;
  values = record { holds = λ e t out b z. absurd (omega (arith, z, empty_key memo n e is, key_above t out)) };
}

-- entries under another's key that are left alone keep their values
pub values_others : (p : Problem) (u : ℕ → ℕ → ℕ) (memo memo' : List ℕ) → MemoValues p u memo → Others memo memo' → MemoValues p u memo'
values_others p u memo memo' v same = record { holds = λ e t out b z. by e t out b z (same.same e (omega (arith, z, key_above t out))) }
  where
    by : (e t out : ℕ) → out < SETS → get_or memo' (e * 2) 0 ≡ value_key t out → Entry memo e (get_or memo' (e * 2) 0) (get_or memo' (e * 2 + 1) 0)
        → Value p u t (has out) (get_or memo' (e * 2 + 1) 0)
    by e t out b z old = subst (Value p u t (has out)) old.kept (v.holds e t out b (old.under ∙ z))

-- so a memo recalls after a change that is right and leaves them alone
pub recalls_others : (p : Problem) (u : ℕ → ℕ → ℕ) (memo memo' : List ℕ) → MemoTrue p u memo → Right p memo' → Others memo memo' → MemoTrue p u memo'
recalls_others p u memo memo' r right same = record { costs = right; values = values_others p u memo memo' r.values same }

-- what is found under a value's key
pub value_found : (p : Problem) (u : ℕ → ℕ → ℕ) (memo : List ℕ) (t out key v : ℕ) (found : Option ℕ) → MemoTrue p u memo → out < SETS
    → key ≡ value_key t out → Looked memo key found → found ≡ Some v → Value p u t (has out) v
value_found p u memo t out key v found r b k looked is =
    let h : Present memo key v = subst (Looked memo key) is looked in
    subst (Value p u t (has out)) h.entry.kept (r.values.holds h.at t out b (h.entry.under ∙ k))

-- what an entry says of a value
abbrev Says : Problem → (ℕ → ℕ → ℕ) → ℕ → ℕ → Type 0
Says p u k w = (t out : ℕ) → out < SETS → k ≡ value_key t out → Value p u t (has out) w

-- a value written under its key; keys tell the week and the set
pub recalls_put : (p : Problem) (u : ℕ → ℕ → ℕ) (memo memo' new : List ℕ) (t out key v : ℕ) → MemoTrue p u memo → Right p memo' → Others memo memo'
    → out < SETS → key ≡ value_key t out → Wrote memo' new key v → Value p u t (has out) v → MemoTrue p u new
recalls_put p u memo memo' new t out key v r right same b k wrote value = record {
  costs = right_kept p memo' new key v right wrote (omega (arith, key_above t out));
  values = record { holds = wrote_all (Says p u) memo' new key v wrote (values_others p u memo memo' r.values same).holds it };
}
  where
    it : Says p u key v
    it t' out' b' e =
        let q = keys_same t out t' out' b b' (sym k ∙ e) in
        subst (λ (x : ℕ). Value p u x (has out') v) q.0 (subst (λ (x : ℕ). Value p u t (has x) v) q.1 value)
