-- The reader's steps, every premise as the loops have it: past a word of the same stage, to a refusal, or to the end word.
-- Assumes nothing.
use Rattle.std.proofs.Common.{◌≡◌, ℕ, suc, ◌+◌, ◌-◌, ◌*◌, ◌%◌, ◌^◌, ◌<◌, ◌≤◌, min, Option, is_some, Bool, true, false, not, ◌&&◌, eqb, ltb, List, length, get_or, sym, refl, ap, ◌∙◌, ⊎_elim, arith, ltb-true, le-ltb, lt-ltb, eq-eqb, ne_eqb, eqb-true}
use borrow.Author.Tests.{eqb-false}
use mir.Syntax.{w32}
use mir.Val.{Fits}
use Rattle.sums.specs.Logic.{if}
use Rattle.sums.proofs.LogicLaws.{true_false, and_left, and_right, not_at}
use Rattle.model.specs.declared.Layout.{Layout}
use Rattle.model.specs.Words.{VALUES, kind_of, value_of, kind_at, value_at, Laid, layout_of}
use Rattle.model.specs.Verdict.{accepted, refused}
use Rattle.model.specs.Reading.{due_at, pair_fault, value_fault, fault_for, fault_at, read_from, read_of}
use Rattle.model.proofs.ReadingLaws.{layout_laid, due_pair, kind_fits}
use Rattle.decoder.proofs.StageLaws.{clear_due}
use Rattle.decoder.specs.declared.faults.Fault.{Fault}
use Rattle.decoder.specs.Answers.{number_of, fault_number}
use Rattle.decoder.proofs.FaultLaws.{number_some, number_none}
use Rattle.decoder.specs.Stages.{Onward, as_pair, Passes, open_at, Clear, Passed}

-- ---- the word at a place

-- the sections of a file's own layout follow one another
pub laid_here : (ws : List ℕ) (l : Layout) → l ≡ layout_of ws → Laid l
laid_here ws l e = rw e (layout_laid ws)

-- the fault of the word that was taken apart
pub fault_here : (ws : List ℕ) (l : Layout) (q prev k v r : ℕ) → l ≡ layout_of ws → prev ≡ value_at ws (q - 1) → k ≡ kind_of (get_or ws q 0)
    → v ≡ value_of (get_or ws q 0) → r ≡ fault_for l q prev k v → r ≡ fault_at ws q
unfolding fault_at kind_at value_at
fault_here ws l q prev k v r el ep ek ev t = rw (← el, ← ep, ← ek, ← ev) t

-- and its stage
pub onward_here : (ws : List ℕ) (l : Layout) (q k most next : ℕ) → k ≡ kind_of (get_or ws q 0) → Onward l q k most next → Onward l q (kind_at ws q) most next
unfolding kind_at
onward_here ws l q k most next e on = rw (← e) on

-- ---- whether the reader goes on

module _ (ws : List ℕ) (q : ℕ) where
  -- a word stands at an open place
  pub open_inside : open_at ws q ≡ true → q < length ws
  unfolding open_at
  open_inside e = ltb-true q (length ws) (and_left (ltb q (length ws)) _ e)

  -- and passes
  open_passes : open_at ws q ≡ true → Passes ws q
  unfolding open_at
  open_passes e =
      let h = and_right (ltb q (length ws)) (eqb (fault_at ws q) 0 && not (eqb (kind_at ws q) 15)) e in
      record {
        faultless = eqb-true (fault_at ws q) 0 (and_left (eqb (fault_at ws q) 0) (not (eqb (kind_at ws q) 15)) h);
        inner = eqb-false (kind_at ws q) 15 (not_at _ (and_right (eqb (fault_at ws q) 0) (not (eqb (kind_at ws q) 15)) h));
      }

  -- no word is left
  pub open_ended : length ws ≤ q → false ≡ open_at ws q
  unfolding open_at
  open_ended h = simp (le-ltb q (length ws) h)

  module _ (h : q < length ws) where
    -- a word without a fault at which the reader does not go on is the end word
    shut_end : open_at ws q ≡ false → 0 ≡ fault_at ws q → kind_at ws q ≡ 15
    unfolding open_at
    shut_end e none = eqb-true (kind_at ws q) 15 (go (eqb (kind_at ws q) 15) (sym (simp (lt-ltb q (length ws) h, ← none)) ∙ e))
      where
        go : (b : Bool) → not b ≡ false → b ≡ true
        go true _ = refl
        go false z = true_false z

-- ---- the words of a stage pass

-- a word without a fault that is not the end word has the kind due
kind_is_due : (ws : List ℕ) (q : ℕ) → Passes ws q → due_at (layout_of ws) q ≡ kind_at ws q
kind_is_due ws q w =
    ⊎_elim
    (λ (e : kind_at ws q ≡ due_at (layout_of ws) q). sym e)
    (λ (e : (due_at (layout_of ws) q ≡ 10) × (kind_at ws q ≡ 15)). absurd (w.inner e.1))
    (kind_fits ws q w.faultless)

-- what the stage of an open word at place q says of the words after it
pub stage_clear : (ws : List ℕ) (l : Layout) (q most next : ℕ) → l ≡ layout_of ws → open_at ws q ≡ true → Onward l q (kind_at ws q) most next
    → Clear ws q most next
unfolding fault_at
stage_clear ws l q most next laid goes on =
    let w = open_passes ws q goes in
    record {
      free = λ p a b e v.
          let due : due_at l q ≡ kind_at ws q = rw laid (kind_is_due ws q w) in
          record {
            faultless = rw (e, sym laid) (on.free due p (value_at ws (p - 1)) (value_at ws p) a b v);
            inner = λ h. w.inner (sym e ∙ h);
          };
    }

-- a word at a distance up to most from the kind's word of value 0 has that kind and a value up to most
module _ (k y most low : ℕ) (s : most < VALUES) (at : low ≡ k * VALUES) (top : low ≤ 15 * VALUES) (word : Fits w32 y)
    (near : (y + (2 ^ 32 - low)) % 2 ^ 32 ≤ most) where
  near_kind : kind_of y ≡ k
  unfolding kind_of
  near_kind = omega arith

  near_value : value_of y ≤ most
  unfolding value_of
  near_value = omega arith

-- ---- steps of the verdict

-- the verdict at a word, by its three tests
read_suc : (ws : List ℕ) (q n : ℕ) → read_from ws q (suc n)
    ≡ if (eqb (fault_at ws q) 0) (if (eqb (kind_at ws q) 15) (if (eqb n 0) accepted (refused 7 (q + 1))) (read_from ws (q + 1) n)) (refused (fault_at ws q) q)
unfolding read_from
read_suc ws q n = refl

module _ (ws : List ℕ) (q : ℕ) (h : q < length ws) where
  read_one : read_from ws q (length ws - q)
      ≡ if (eqb (fault_at ws q) 0)
      (if (eqb (kind_at ws q) 15) (if (eqb (length ws - (q + 1)) 0) accepted (refused 7 (q + 1))) (read_from ws (q + 1) (length ws - (q + 1))))
      (refused (fault_at ws q) q)
  read_one = let e : length ws - q ≡ suc (length ws - (q + 1)) = omega arith in ap (read_from ws q) e ∙ read_suc ws q (length ws - (q + 1))

  step_next : Passes ws q → read_from ws q (length ws - q) ≡ read_from ws (q + 1) (length ws - (q + 1))
  step_next w = read_one ∙ simp (w.faultless, ne_eqb _ _ w.inner)

  step_fault : (f : ℕ) → f ≡ fault_at ws q → (f ≡ 0 → ⊥) → read_from ws q (length ws - q) ≡ refused f q
  step_fault f is some = read_one ∙ simp (← is, ne_eqb _ _ some)

  step_end : fault_at ws q ≡ 0 → kind_at ws q ≡ 15 → q + 1 ≡ length ws → read_from ws q (length ws - q) ≡ accepted
  step_end none last e = read_one ∙ simp (none, last, eq-eqb (length ws - (q + 1)) 0 (omega arith))

  step_more : fault_at ws q ≡ 0 → kind_at ws q ≡ 15 → (q + 1 ≡ length ws → ⊥) → read_from ws q (length ws - q) ≡ refused 7 (q + 1)
  step_more none last e = read_one ∙ simp (none, last, ne_eqb (length ws - (q + 1)) 0 (omega arith))

-- ---- past the words of a stage

module _ (ws : List ℕ) (q : ℕ) where
  -- the word after q
  pub pass_start : q < length ws → (q < q + 1) × (q + 1 ≤ length ws) × (read_from ws (q + 1) (length ws - (q + 1)) ≡ read_from ws (q + 1) (length ws - (q + 1)))
  pass_start h = (omega arith, omega arith, refl)

  module _ (p : ℕ) (same : read_from ws (q + 1) (length ws - (q + 1)) ≡ read_from ws p (length ws - p)) where
    -- one word more
    pub pass_next : (most next end low : ℕ) → Clear ws q most next → q < p → p < end → end ≡ min next (length ws) → most < VALUES
        → low ≡ kind_of (get_or ws q 0) * VALUES → low ≤ 15 * VALUES → ((i : ℕ) → Fits w32 (get_or ws i 0)) → (get_or ws p 0 + (2 ^ 32 - low)) % 2 ^ 32 ≤ most
        → read_from ws (q + 1) (length ws - (q + 1)) ≡ read_from ws (p + 1) (length ws - (p + 1))
    unfolding kind_at value_at
    pass_next most next end low clear a b c s at top words near =
        let kind : kind_at ws p ≡ kind_at ws q = near_kind (kind_at ws q) (get_or ws p 0) most low s at top (words p) near in
        let value : value_at ws p ≤ most = near_value (kind_at ws q) (get_or ws p 0) most low s at top (words p) near in
        same ∙ step_next ws p (omega arith) (clear.free p a (omega arith) kind value)

    -- the reader stops at p
    pub pass_stop : q < p → p ≤ length ws → Passed ws q p
    pass_stop a b = record { forth = a; inside = b; same = same }

    -- or behind the last word
    pub pass_end : q < p → p ≤ length ws → length ws ≤ p → Passed ws q (length ws)
    pass_end a b d = let e : p ≡ length ws = omega arith in rw e at (pass_stop a b)

-- ---- past the pairs

-- a word of another kind is no pair
pub as_other : (l : Layout) (p prev word k : ℕ) → k ≡ kind_of word → (k ≡ 10 → ⊥) → 1 ≡ as_pair l p prev word
unfolding as_pair
as_other l p prev word k e h = simp (← e, ne_eqb k 10 h)

-- one of kind 10 has a pair's fault
pub as_pair_lem : (l : Layout) (p prev word k v r : ℕ) → k ≡ kind_of word → k ≡ 10 → v ≡ value_of word → r ≡ pair_fault l p prev v → r ≡ as_pair l p prev word
unfolding as_pair
as_pair_lem l p prev word k v r e h ev t = t ∙ simp (← e, eq-eqb k 10 h, ← ev)

-- a word without a fault as a pair is one
pair_stands : (l : Layout) (p prev word : ℕ) → as_pair l p prev word ≡ 0 → (kind_of word ≡ 10) × (pair_fault l p prev (value_of word) ≡ 0)
unfolding as_pair
pair_stands l p prev word e = go (eqb (kind_of word) 10) refl e
  where
    go : (b : Bool) → eqb (kind_of word) 10 ≡ b → ◌≡◌ {A = ℕ} (if b (pair_fault l p prev (value_of word)) 1) 0
        → (kind_of word ≡ 10) × (pair_fault l p prev (value_of word) ≡ 0)
    go true q h = (eqb-true (kind_of word) 10 q, h)
    go false q h = absurd (omega arith)

module _ (ws : List ℕ) (l : Layout) (q p prev : ℕ) (laid : l ≡ layout_of ws) (from : l.pairs ≤ q) (on : q < p) where
  -- and passes
  pair_passes : prev ≡ value_at ws (p - 1) → as_pair l p prev (get_or ws p 0) ≡ 0 → Passes ws p
  unfolding fault_at kind_at value_at value_fault
  pair_passes ep none =
      let stands = pair_stands l p prev (get_or ws p 0) none in
      let due : due_at l p ≡ 10 = due_pair l (laid_here ws l laid) p (omega arith) in
      record {
        faultless = rw (stands.0, ← ep, ← laid) (clear_due l p prev 10 (value_at ws p) due stands.1);
        inner = λ h. let z : ◌≡◌ {A = ℕ} 10 15 = sym stands.0 ∙ h in absurd (omega arith);
      }

  -- one pair more
  pub pairs_next : read_from ws (q + 1) (length ws - (q + 1)) ≡ read_from ws p (length ws - p) → p < length ws → prev ≡ value_at ws (p - 1)
      → (fault : Option Fault) (some : Bool) → fault_number fault ≡ as_pair l p prev (get_or ws p 0) → some ≡ is_some fault → some ≡ false
      → read_from ws (q + 1) (length ws - (q + 1)) ≡ read_from ws (p + 1) (length ws - (p + 1))
  pairs_next same h ep fault some is told none = same ∙ step_next ws p h (pair_passes ep (sym is ∙ number_none fault (sym told ∙ none)))

-- the word passed is the one before the next
pub prev_next : (ws : List ℕ) (p v : ℕ) → v ≡ value_of (get_or ws p 0) → v ≡ value_at ws (p + 1 - 1)
unfolding value_at
prev_next ws p v e = let o : p + 1 - 1 ≡ p = omega arith in rw o e

-- ---- the verdict of the walk

-- before the first word
pub walk_start : (ws : List ℕ) → read_of ws ≡ read_from ws 0 (length ws - 0)
unfolding read_of
walk_start ws = let e : length ws ≡ length ws - 0 = omega arith in ap (read_from ws 0) e

module _ (ws : List ℕ) (q : ℕ) where
  module _ (goes : open_at ws q ≡ true) (r : ℕ) (on : Passed ws q r) where
    -- the reader goes on to r
    pub walk_next : read_from ws q (length ws - q) ≡ read_from ws r (length ws - r)
    walk_next = step_next ws q (open_inside ws q goes) (open_passes ws q goes) ∙ on.same

    -- and fewer words are left
    pub walk_less : length ws - r < length ws - q
    walk_less = let a = on.forth in let b = on.inside in omega arith

  -- no word is left
  pub ended_out : length ws ≤ q → refused 1 q ≡ read_from ws q (length ws - q)
  unfolding read_from
  ended_out h = let e : length ws - q ≡ 0 = omega arith in sym (ap (read_from ws q) e)

  module _ (h : q < length ws) where
    -- the word at q is refused
    pub ended_fault : (fault : Fault) → number_of fault ≡ fault_at ws q → refused (number_of fault) q ≡ read_from ws q (length ws - q)
    ended_fault fault is = sym (step_fault ws q h (number_of fault) is (number_some fault))

    module _ (shut : open_at ws q ≡ false) (none : 0 ≡ fault_at ws q) where
      -- the end word is the last
      pub ended_last : q + 1 ≡ length ws → accepted ≡ read_from ws q (length ws - q)
      ended_last e = sym (step_end ws q h (sym none) (shut_end ws q h shut none) e)

      -- words stand after the end word
      pub ended_more : (q + 1 ≡ length ws → ⊥) → refused 7 (q + 1) ≡ read_from ws q (length ws - q)
      ended_more e = sym (step_more ws q h (sym none) (shut_end ws q h shut none) e)
