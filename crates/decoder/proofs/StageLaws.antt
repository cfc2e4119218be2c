-- Words of one section are free of faults while their kind is the section's and their value in its range.
-- Assumes nothing.
use Rattle.std.proofs.Common.{◌≡◌, ℕ, ◌+◌, ◌-◌, ◌%◌, ◌<◌, ◌≤◌, Bool, true, false, ltb, refl, arith, ltb-false, ltb-true, eq-eqb, le-leb}
use Rattle.sums.specs.Logic.{if}
use Rattle.model.specs.declared.Layout.{Layout}
use Rattle.model.specs.Words.{Laid}
use Rattle.model.specs.Reading.{due_at, within, value_fault, fits_due, fault_for}
use Rattle.model.proofs.ReadingLaws.{due_demand, due_maint, due_running, due_off}
use Rattle.decoder.specs.Stages.{Onward}

-- ---- where a kind is due, the sections before it are past; kind 0 comes after 9

record Past (l : Layout) (q d : ℕ) : Type 0 where
  numbers : 4 ≤ d → 3 ≤ q
  triples : 8 ≤ d → l.maints ≤ q
  maints : 9 ≤ d → l.runnings ≤ q
  runnings : d ≡ 0 → l.offs ≤ q

past : (l : Layout) (q d : ℕ) → due_at l q ≡ d → Past l q d
unfolding due_at
past l q d due = go (ltb q 3) (ltb q l.triples) (ltb q l.maints) (ltb q l.runnings) (ltb q l.offs) refl refl refl refl due
  where
    -- a kind from 1 to 7 asks for the first section alone
    early : (4 ≤ d → 3 ≤ q) → 1 ≤ d → d < 8 → Past l q d
    early a m n = record { numbers = a; triples = λ g. absurd (omega arith); maints = λ g. absurd (omega arith); runnings = λ g. absurd (omega arith) }

    go : (a b c e f : Bool) → ltb q 3 ≡ a → ltb q l.maints ≡ c → ltb q l.runnings ≡ e → ltb q l.offs ≡ f
        → if a (q + 1) (if b 4 (if c (5 + (q - l.triples) % 3) (if e 8 (if f 9 (if (ltb q l.pairs) 0 10))))) ≡ d → Past l q d
    go true b c e f ea ec ee ef h = let k = ltb-true q 3 ea in early (λ g. absurd (omega arith)) (omega arith) (omega arith)
    go false true c e f ea ec ee ef h = early (λ g. ltb-false q 3 ea) (omega arith) (omega arith)
    go false false true e f ea ec ee ef h = early (λ g. ltb-false q 3 ea) (omega arith) (omega arith)
    go false false false true f ea ec ee ef h = record {
      numbers = λ g. ltb-false q 3 ea;
      triples = λ g. ltb-false q l.maints ec;
      maints = λ g. absurd (omega arith);
      runnings = λ g. absurd (omega arith);
    }
    go false false false false true ea ec ee ef h = record {
      numbers = λ g. ltb-false q 3 ea;
      triples = λ g. ltb-false q l.maints ec;
      maints = λ g. ltb-false q l.runnings ee;
      runnings = λ g. absurd (omega arith);
    }
    go false false false false false ea ec ee ef h = record {
      numbers = λ g. ltb-false q 3 ea;
      triples = λ g. ltb-false q l.maints ec;
      maints = λ g. ltb-false q l.runnings ee;
      runnings = λ g. ltb-false q l.offs ef;
    }

-- ---- a value up to the section's most has no fault there

within_zero : (hi v : ℕ) → v ≤ hi → within 0 hi v ≡ 0
unfolding within
within_zero hi v h = simp (le-leb 0 v (omega arith), le-leb v hi h)

-- a word of the kind due is judged by its value
pub clear_due : (l : Layout) (p prev k v : ℕ) → due_at l p ≡ k → value_fault l p prev k v ≡ 0 → fault_for l p prev k v ≡ 0
unfolding fault_for fits_due
clear_due l p prev k v due clear = simp (due, eq-eqb k k refl) clear

-- ---- the next stage, as the arms of the match give it

module _ (l : Layout) (q k most next : ℕ) where
  -- a word by itself: the next stage begins after it
  pub on_alone : most ≡ 0 → next ≡ q + 1 → Onward l q k most next
  on_alone m n = record { small = omega arith; free = λ due p prev v a b h. absurd (omega arith) }

  module _ (laid : Laid l) where
    -- demands, up to the triples
    pub on_demands : k ≡ 4 → most ≡ 16000000 → next ≡ l.triples → Onward l q k most next
    unfolding value_fault
    on_demands e m n = rw (e, m, n) record {
      small = omega arith;
      free = λ due p prev v a b h.
          let g : 3 ≤ q = (past l q 4 due).numbers (omega arith) in
          clear_due l p prev 4 v (due_demand l p (omega arith) b) (within_zero 16000000 v h);
    }

    -- maintenance costs, up to the running costs
    pub on_maints : k ≡ 8 → most ≡ 250000 → next ≡ l.runnings → Onward l q k most next
    unfolding value_fault
    on_maints e m n = rw (e, m, n) record {
      small = omega arith;
      free = λ due p prev v a b h.
          let g : l.maints ≤ q = (past l q 8 due).triples (omega arith) in
          clear_due l p prev 8 v (due_maint l laid p (omega arith) b) (within_zero 250000 v h);
    }

    -- running costs, up to the OFF costs
    pub on_runnings : k ≡ 9 → most ≡ 250000 → next ≡ l.offs → Onward l q k most next
    unfolding value_fault
    on_runnings e m n = rw (e, m, n) record {
      small = omega arith;
      free = λ due p prev v a b h.
          let g : l.runnings ≤ q = (past l q 9 due).maints (omega arith) in
          clear_due l p prev 9 v (due_running l laid p (omega arith) b) (within_zero 250000 v h);
    }

    -- OFF costs, up to the pairs
    pub on_offs : k ≡ 0 → most ≡ 250000 → next ≡ l.pairs → Onward l q k most next
    unfolding value_fault
    on_offs e m n = rw (e, m, n) record {
      small = omega arith;
      free = λ due p prev v a b h.
          let g : l.offs ≤ q = (past l q 0 due).runnings refl in
          clear_due l p prev 0 v (due_off l laid p (omega arith) b) (within_zero 250000 v h);
    }

pub ruleset onwards = (on_alone, on_demands, on_maints, on_runnings, on_offs)
