-- The memo's entries: emptied, found and written; and what of them is still right after a write.
-- Assumes nothing.
use Prim.Native.Nat.{ℕ, ◌+◌, ◌*◌, ◌/◌, ◌≤◌, ◌<◌}
use mathlib.Core.Path.{◌≡◌, refl, sym, ap, ◌∙◌, subst}
use mathlib.Core.List.{List}
use mathlib.Core.Logic.{◌⊎◌, inl, inr, ⊎_elim}
use native.Mathlib.Decide.{ℕ_discrete}
use native.Mathlib.Omega.{arith}
use lib.ListN.{get_or, set, length, replicate, length-set}
use lib.Seq.{get_or-set_same, get_or-set_other}
use Rattle.std.specs.Prelude.{Option, Some}
use Rattle.sums.specs.NumSet.{has}
use Rattle.sums.proofs.LoopLaws.{zeros_at}
use Rattle.model.specs.Problem.{Problem}
use Rattle.model.specs.Commitment.{full_least, NO_RUN}
use Rattle.sets.specs.Sets.{SETS}
use Rattle.instance.specs.declared.file.File.{File}
use Rattle.instance.specs.File.{problem}
use Rattle.commitment.proofs.ScoreLaws.{least_small}
use Rattle.memo.specs.Memo.{Entry, Present, Looked, Wrote, OTHERS, Others, key_of, Right}

-- ---- an emptied memo

-- it has only the key 0
pub empty_key : (memo : List ℕ) (n e : ℕ) → memo ≡ replicate n 0 → get_or memo (e * 2) 0 ≡ 0
empty_key memo n e is = subst (λ (m : List ℕ). get_or m (e * 2) 0 ≡ 0) (sym is) (zeros_at n (e * 2))

-- so it is right
pub right_empty : (p : Problem) (memo : List ℕ) (n : ℕ) → memo ≡ replicate n 0 → Right p memo
unfolding key_of
right_empty p memo n is = record { holds = λ e t out b l z. absurd (omega (arith, z, empty_key memo n e is)) }

-- ---- a key looked up

-- the entry where the key belongs has it
pub looked_hit : (memo : List ℕ) (e key : ℕ) → get_or memo (e * 2) 0 ≡ key → Present memo key (get_or memo (e * 2 + 1) 0)
looked_hit memo e key k = record { at = e; entry = record { under = k; kept = refl } }

module _ (file : File) (memo : List ℕ) (t out key v : ℕ) (found : Option ℕ) (h : t < file.layout.weeks) (b : out < SETS)
    (k : key ≡ key_of t out) (m : Right (problem file) memo) (looked : Looked memo key found) (is : found ≡ Some v) where
  present : Present memo key v
  present = subst (Looked memo key) is looked

  -- what is found under a week's key is its least cost
  pub found_cost : v ≡ full_least (problem file) t (has out)
  found_cost =
      sym present.entry.kept ∙ m.holds present.at t out (omega (arith, file.filed.weeks_most)) b (present.entry.under ∙ k)

  -- which is no more than what stands for none
  pub found_small : v ≤ NO_RUN
  found_small = omega (arith, found_cost, least_small file t h (has out))

-- ---- a word written

-- nowhere, if there are no entries
pub wrote_none : (memo : List ℕ) (key v : ℕ) → Wrote memo memo key v
wrote_none memo key v = record { each = λ e. inl (record { under = refl; kept = refl }) }

-- into one entry
pub wrote_one : (memo : List ℕ) (e key v : ℕ) → e < length memo / 2 → Wrote memo (set (set memo (e * 2) key) (e * 2 + 1) v) key v
wrote_one memo e key v long = record { each = λ i. by i (ℕ_discrete i e) }
  where
    new : List ℕ
    new = set (set memo (e * 2) key) (e * 2 + 1) v

    other : (j : ℕ) → (j ≡ e * 2 → ⊥) → (j ≡ e * 2 + 1 → ⊥) → get_or new j 0 ≡ get_or memo j 0
    other j a b = get_or-set_other (set memo (e * 2) key) (e * 2 + 1) j v 0 b ∙ get_or-set_other memo (e * 2) j key 0 a

    at_it : Entry new e key v
    at_it =
        let ne : e * 2 ≡ e * 2 + 1 → ⊥ = λ z. omega arith in
        let lo : e * 2 < length memo = omega arith in
        let hi : e * 2 + 1 < length (set memo (e * 2) key) = omega (arith, length-set memo (e * 2) key) in
        record {
          under = get_or-set_other (set memo (e * 2) key) (e * 2 + 1) (e * 2) v 0 ne ∙ get_or-set_same memo (e * 2) key 0 lo;
          kept = get_or-set_same (set memo (e * 2) key) (e * 2 + 1) v 0 hi;
        }

    by : (i : ℕ) → Dec (i ≡ e) → Entry new i (get_or memo (i * 2) 0) (get_or memo (i * 2 + 1) 0) ⊎ Entry new i key v
    by i (yes z) = inr (subst (λ (j : ℕ). Entry new j key v) (sym z) at_it)
    by i (no z) =
        let a : i * 2 ≡ e * 2 → ⊥ = λ y. z (omega arith) in
        let b : i * 2 ≡ e * 2 + 1 → ⊥ = λ y. omega arith in
        let c : i * 2 + 1 ≡ e * 2 → ⊥ = λ y. omega arith in
        let d : i * 2 + 1 ≡ e * 2 + 1 → ⊥ = λ y. z (omega arith) in
        inl (record { under = other (i * 2) a b; kept = other (i * 2 + 1) c d })

-- what holds of each entry, and of the new one, holds after a write
pub wrote_all : (P : ℕ → ℕ → Type 0) (memo memo' : List ℕ) (key v : ℕ) → Wrote memo memo' key v
    → ((e : ℕ) → P (get_or memo (e * 2) 0) (get_or memo (e * 2 + 1) 0)) → P key v → (e : ℕ) → P (get_or memo' (e * 2) 0) (get_or memo' (e * 2 + 1) 0)
wrote_all P memo memo' key v wrote old new e = ⊎_elim (λ h. moved _ _ h (old e)) (λ h. moved _ _ h new) (wrote.each e)
  where
    moved : (a b : ℕ) → Entry memo' e a b → P a b → P (get_or memo' (e * 2) 0) (get_or memo' (e * 2 + 1) 0)
    moved a b h holds = subst (P (get_or memo' (e * 2) 0)) (sym h.kept) (subst (λ (x : ℕ). P x b) (sym h.under) holds)

-- ---- right after a write

-- what an entry says of a week's least cost
abbrev Says : Problem → ℕ → ℕ → Type 0
Says p k w = (t out : ℕ) → t < 64 → out < SETS → k ≡ key_of t out → w ≡ full_least p t (has out)

module _ (p : Problem) (memo memo' : List ℕ) (key v : ℕ) (right : Right p memo) (wrote : Wrote memo memo' key v) where
  right_says : Says p key v → Right p memo'
  right_says new = record { holds = wrote_all (Says p) memo memo' key v wrote right.holds new }

  -- a week's least cost under its key; keys tell the week and the set
  pub right_put : (t out : ℕ) → out < SETS → key ≡ key_of t out → v ≡ full_least p t (has out) → Right p memo'
  unfolding key_of
  right_put t out b k w = right_says (λ t' out' l' b' e. w ∙ ap (λ (x : ℕ). full_least p x (has out)) (omega arith)
      ∙ ap (λ (x : ℕ). full_least p t' (has x)) (omega arith))

  -- another's word under another's key
  pub right_kept : OTHERS < key → Right p memo'
  unfolding key_of
  right_kept h = right_says (λ t out l b e. absurd (omega arith))

-- ---- the entries under another's keys

-- those of a memo that is left as it is
pub others_same : (memo : List ℕ) → Others memo memo
others_same memo = record { same = λ e h. record { under = refl; kept = refl } }

-- after one change and another
pub others_trans : (a b c : List ℕ) → Others a b → Others b c → Others a c
others_trans a b c f g = record { same = λ e h. by e h (g.same e h) }
  where
    by : (e : ℕ) → OTHERS ≤ get_or c (e * 2) 0 → Entry b e (get_or c (e * 2) 0) (get_or c (e * 2 + 1) 0)
        → Entry a e (get_or c (e * 2) 0) (get_or c (e * 2 + 1) 0)
    by e h was =
        let old = f.same e (omega (arith, was.under)) in
        record { under = old.under ∙ was.under; kept = old.kept ∙ was.kept }

-- after a word written under a key that is not another's
pub others_kept : (memo memo' : List ℕ) (key v : ℕ) → Wrote memo memo' key v → key < OTHERS → Others memo memo'
others_kept memo memo' key v wrote small = record { same = λ e h. by e h (wrote.each e) }
  where
    by : (e : ℕ) → OTHERS ≤ get_or memo' (e * 2) 0 → Entry memo' e (get_or memo (e * 2) 0) (get_or memo (e * 2 + 1) 0) ⊎ Entry memo' e key v
        → Entry memo e (get_or memo' (e * 2) 0) (get_or memo' (e * 2 + 1) 0)
    by e h (inl old) = record { under = sym old.under; kept = sym old.kept }
    by e h (inr new) = absurd (omega (arith, new.under))

-- as a week's key is
pub others_put : (file : File) (memo memo' : List ℕ) (t out key v : ℕ) → t < file.layout.weeks → out < SETS → key ≡ key_of t out
    → Wrote memo memo' key v → Others memo memo'
unfolding key_of
others_put file memo memo' t out key v h b k wrote = others_kept memo memo' key v wrote (omega (arith, file.filed.weeks_most))
