-- A run of asks: before the first, one more answered, and all of them, which is demand 3.
-- Assumes nothing.
use Prim.Native.Nat.{ℕ, ◌+◌, ◌-◌, ◌*◌, ◌/◌, ◌≤◌, ◌<◌}
use mathlib.Core.Path.{◌≡◌, refl, sym, ◌∙◌, ap, ap₂, subst, subst₂}
use mathlib.Core.Bool.{Bool, ◌||◌}
use mathlib.Core.List.{List, [], ◌∷◌, ◌++◌, flatten, append-nil}
use mathlib.Core.Logic.{⊎_elim}
use native.Mathlib.Nat.{zero-add, eq-or-lt_of_le, add-mul, one-mul, mul-le-mul_right}
use native.Mathlib.Numerals.{add-one}
use native.Mathlib.Omega.{arith}
use lib.ListN.{length, drop, replicate, length-append, length-replicate}
use borrow.Author.Tests.{le-ltb}
use Rattle.sums.specs.Range.{some_to, list_to}
use Rattle.sums.proofs.LogicLaws.{true_false}
use Rattle.lent.specs.Splice.{spliced}
use Rattle.lent.proofs.SpliceLaws.{splice_behind}
use Rattle.model.specs.Problem.{Problem}
use Rattle.model.specs.Refusal.{block_size}
use Rattle.model.specs.Nogood.{Nogood}
use Rattle.model.specs.Answer.{Answer, Correct, block_of, blocks_of}
use Rattle.model.specs.Asks.{ask_count, ceiling_at, budget_at, answer_at, Follows, settles, settled, Leaves, left_at, Answered}
use Rattle.model.proofs.AnswerLaws.{blocks_append}
use Rattle.model.proofs.AskLaws.{answer_old, answer_new, settles_old, settled_old, left_old, left_new, left_append, blocks_length}
use Rattle.instance.specs.declared.file.File.{File}
use Rattle.instance.specs.File.{problem}
use Rattle.nogood.specs.Stock.{Stock, Grown}
use Rattle.nogood.proofs.StockLaws.{stock_none}
use Rattle.search.specs.declared.Reply.{Reply}
use Rattle.search.specs.Ask.{answer_of}
use Rattle.shape.specs.Shape as shape
use Rattle.asks.specs.Admitted.{Admitted}
use Rattle.block.specs.Block.{block_word, Placed, put_at}
use Rattle.block.proofs.ListedLaws.{block_listed}
use Rattle.planner.specs.declared.Carry.{Carry}
use Rattle.planner.specs.Carry.{has_plan, settled_by, Remembers, AskReady, SaysNothing, Replied, Remembered}
use Rattle.planner.specs.Going.{Going, Turned}
use Rattle.planner.proofs.TurnLaws.{knows_next, recalls_old, recalls_new, follows_new, settled_next}

-- ---- one ask more

module _ (p : Problem) (asks lent answers table : List ℕ) (m : Carry) (k : ℕ) (going : Going p asks lent answers table m k)
    (table' : List ℕ) (r : Reply) (replied : Replied p (ceiling_at asks k) (budget_at asks k) m table table' r)
    (m' : Carry) (kept : Remembered m (ceiling_at asks k) r m') where
  abbrev a : Answer
  a = answer_of p r

  more : List Answer
  more = going.told ++ (a ∷ [])

  old : (i : ℕ) → i < k → answer_at more i ≡ answer_at going.told i
  unfolding more
  old i l = answer_old going.told a i (omega (arith, going.each))

  new : answer_at more k ≡ a
  unfolding more
  new = answer_new going.told a k (sym going.each)

  -- a claim about each ask holds of one more
  one_more : (P : ℕ → Answer → Type 0) → ((i : ℕ) → i < k → P i (answer_at going.told i)) → P k a → (i : ℕ) → i < k + 1 → P i (answer_at more i)
  one_more P before now i l =
      ⊎_elim (λ (e : i ≡ k). subst (λ (j : ℕ). P j (answer_at more j)) (sym e) (subst (P k) (sym new) now))
      (λ (b : i < k). subst (P i) (sym (old i b)) (before i b))
      (eq-or-lt_of_le (below l))
    where
      below : i < k + 1 → i ≤ k
      below h = omega arith

  -- its block behind the others
  front : (ws d : List ℕ) → ws ++ drop (length ws) d ≡ spliced 0 ws d
  unfolding spliced
  front ws d = ap (λ (n : ℕ). ws ++ drop n d) (sym (zero-add (length ws)))

  blocks_next : (at : ℕ) (answers' : List ℕ) → at ≡ length (blocks_of p going.told) → answers' ≡ spliced at (block_of p a) answers
      → answers' ≡ blocks_of p more ++ drop (length (blocks_of p more)) lent
  unfolding more blocks_of
  blocks_next at answers' e is =
      is
      ∙ ap (spliced at (block_of p a)) (going.blocks ∙ front (blocks_of p going.told) lent)
      ∙ splice_behind 0 at (blocks_of p going.told) (block_of p a) lent (omega arith) (omega arith)
      ∙ sym (front (blocks_of p going.told ++ block_of p a) lent)
      ∙ ap (λ (bs : List ℕ). bs ++ drop (length bs) lent) (sym together)
    where
      together : blocks_of p (going.told ++ (a ∷ [])) ≡ blocks_of p going.told ++ block_of p a
      together = blocks_append p going.told (a ∷ []) ∙ ap (λ (l : List ℕ). blocks_of p going.told ++ l) (append-nil (block_of p a))

  follows_next : (i j : ℕ) → i < j → j < k + 1 → Follows (ceiling_at asks i) (answer_at more i) (ceiling_at asks j) (answer_at more j)
  follows_next i j l h =
      one_more (λ (n : ℕ) (x : Answer). i < n → Follows (ceiling_at asks i) (answer_at more i) (ceiling_at asks n) x)
      (λ n b d. subst (λ (y : Answer). Follows (ceiling_at asks i) y (ceiling_at asks n) (answer_at going.told n)) (sym (old i (omega arith)))
      (going.follows i n d b))
      (λ d. subst (λ (y : Answer). Follows (ceiling_at asks i) y (ceiling_at asks k) a) (sym (old i d))
      (follows_new p (ceiling_at asks k) (budget_at asks k) m table table' r going.knows replied m' (ceiling_at asks i) (answer_at going.told i)
      (going.recalls i d)))
      j h l

  -- what the ask leaves comes behind what the others left
  grown : Grown p (Leaves (settled_by m (ceiling_at asks k)) (ceiling_at asks k) a) (flatten going.left) table' r.state.used
  grown = replied.stock (flatten going.left) going.stock

  all_left : List (List Nogood)
  all_left = going.left ++ (grown.more ∷ [])

  stock_next : Stock p (flatten all_left) table' m'.used
  unfolding all_left
  stock_next = subst₂ (λ (gs : List Nogood) (n : ℕ). Stock p gs table' n) (sym (left_append going.left grown.more)) (sym kept.words) grown.stock

  settled_here : (i : ℕ) → i ≤ k → settled asks more i ≡ settled asks going.told i
  unfolding more
  settled_here i l = settled_old going.told a asks i (omega (arith, going.each))

  leaves_next : (i : ℕ) → i < k + 1 → Leaves (settled asks more i) (ceiling_at asks i) (answer_at more i) (left_at all_left i)
  unfolding all_left settled
  leaves_next =
      one_more (λ (i : ℕ) (x : Answer). Leaves (settled asks more i) (ceiling_at asks i) x (left_at all_left i))
      (λ i l. subst₂ (λ (b : Bool) (gs : List Nogood). Leaves b (ceiling_at asks i) (answer_at going.told i) gs)
      (sym (settled_here i (omega arith))) (sym (left_old going.left grown.more i (omega (arith, going.each_left)))) (going.leaves i l))
      (subst₂ (λ (b : Bool) (gs : List Nogood). Leaves b (ceiling_at asks k) a gs)
      (sym (settled_here k (omega arith) ∙ going.settled_by_lem (ceiling_at asks k))) (sym (left_new going.left grown.more k (sym going.each_left)))
      grown.are)

  settled_more : (d : ℕ) → some_to (k + 1) (λ j. settles (ceiling_at asks j) (answer_at more j) d) ≡ settled_by m' d
  unfolding some_to more
  settled_more d =
      ap (λ (n : ℕ). some_to n (λ j. settles (ceiling_at asks j) (answer_at more j) d)) (add-one k)
      ∙ ap₂ ◌||◌ (settles_old going.told a asks d k (omega (arith, going.each)) ∙ going.settled_by_lem d)
      (ap (λ (x : Answer). settles (ceiling_at asks k) x d) new)
      ∙ settled_next p (ceiling_at asks k) (budget_at asks k) m table table' r going.knows replied m' a (kept.keeps p) d

  going_next : (at : ℕ) (answers' : List ℕ) → at ≡ length (blocks_of p going.told) → answers' ≡ spliced at (block_of p a) answers
      → Going p asks lent answers' table' m' (k + 1)
  unfolding more all_left
  going_next at answers' e is =
      let c = ceiling_at asks k in
      let b = budget_at asks k in
      record {
        told = more;
        left = all_left;
        each = omega (arith, length-append going.told (a ∷ []), going.each);
        blocks = blocks_next at answers' e is;
        correct = one_more (λ (i : ℕ) (x : Answer). Correct p (ceiling_at asks i) (budget_at asks i) x) going.correct replied.correct;
        follows = follows_next;
        each_left = omega (arith, length-append going.left (grown.more ∷ []), going.each_left);
        stock = stock_next;
        leaves = leaves_next;
        room =
            omega (
              arith,
              replied.words (length table - 32 + k) going.room (omega arith),
              kept.words,
              replied.long,
            );
        knows = knows_next p c b m table table' r going.knows replied m' a refl replied.correct (kept.keeps p);
        recalls =
            one_more (λ (i : ℕ) (x : Answer). Remembers p m' (ceiling_at asks i) x)
            (λ i l. recalls_old p c b m table table' r going.knows replied m' a refl replied.correct (kept.keeps p) (ceiling_at asks i)
            (answer_at going.told i) (going.recalls i l))
            (recalls_new p c b m table table' r going.knows replied m' a refl (kept.keeps p));
        settled_by_lem = settled_more;
      }

module _ (file : File) (asks : List ℕ) (k lent room : ℕ) (ok : Admitted file asks lent room) (less : k < ask_count asks) where
  -- there is room for its block
  pub ask_placed : Placed file.layout k room
  ask_placed =
      let size = shape.block_size file.layout.units file.layout.weeks in
      let upto : k + 1 ≤ ask_count asks = omega arith in
      let all : (k + 1) * size ≤ ask_count asks * size = mul-le-mul_right size upto in
      record {
        units = file.filed.units_most;
        weeks = file.filed.weeks_most;
        few = omega (arith, ok.few);
        room = omega (arith, all, ok.room, add-mul k 1 size, one-mul size);
      }

-- answered in its block
pub transposed : (file : File) (asks : List ℕ) (k : ℕ) → (answers answers' table table' : List ℕ) (m m' : Carry) (r : Reply)
    → Replied (problem file) (ceiling_at asks k) (budget_at asks k) m table table' r → answers' ≡ put_at file.layout k r answers
    → Remembered m (ceiling_at asks k) r m' → Turned (problem file) asks answers table m k answers' table' m'
unfolding block_size put_at
transposed file asks k answers answers' table table' m m' r replied put kept = record {
  next = λ start going.
      going_next p asks start answers table m k going table' r replied m' kept (k * block_size p) answers' (place start going) words;
}
  where
    p : Problem
    p = problem file

    words : answers' ≡ spliced (k * block_size p) (block_of p (answer_of p r)) answers
    words =
        put
        ∙ ap₂ (λ (u w : ℕ). spliced (k * shape.block_size u w) (list_to (shape.block_size u w) (block_word u w r)) answers) (sym file.filed.units_are) (sym file.filed.weeks_are)
        ∙ ap (λ (bs : List ℕ). spliced (k * block_size p) bs answers) (block_listed p (ceiling_at asks k) (budget_at asks k) r replied.correct)

    place : (start : List ℕ) (going : Going p asks start answers table m k) → k * block_size p ≡ length (blocks_of p going.told)
    place start going =
        sym (blocks_length p (ceiling_at asks) (budget_at asks) going.told (λ i h. going.correct i (omega (arith, going.each)))
        ∙ ap (λ (x : ℕ). x * block_size p) going.each)

-- ---- before the first ask

-- nothing is known on an emptied table
pub going_start : (p : Problem) (asks lent table : List ℕ) (m : Carry) (n : ℕ) → table ≡ replicate n 0 → SaysNothing m → Going p asks lent lent
    table m 0
unfolding flatten some_to settled_by blocks_of
going_start p asks lent table m n e h = record {
  told = [];
  left = [];
  each = refl;
  blocks = refl;
  correct = λ i l. absurd (omega arith);
  follows = λ i j l b. absurd (omega arith);
  each_left = refl;
  stock = subst₂ (λ (w : List ℕ) (u : ℕ). Stock p [] w u) (sym e) (sym h.words) (stock_none p n);
  leaves = λ i l. absurd (omega arith);
  room = omega (arith, h.words);
  knows = record {
    least = record { costs = λ s d. omega (arith, h.least) };
    plan = λ q k. true_false (sym (ap has_plan k) ∙ ap has_plan h.unknown);
  };
  recalls = λ i l. absurd (omega arith);
  settled_by_lem = λ d. sym (rw (h.unknown, le-ltb d m.least.0 (omega (arith, h.least))));
}

-- ---- between two asks

-- what the next ask wants is there
pub going_ready : (p : Problem) (asks lent answers table : List ℕ) (m : Carry) (k : ℕ) → Going p asks lent answers table m k → k < 32 → 64 ≤ length
    table
    → AskReady p table m
going_ready p asks lent answers table m k h l g = record {
  knows = h.knows;
  held = record { nogoods = flatten h.left; stock = h.stock };
  room = omega (arith, h.room);
}

-- ---- after the last

-- all asks are answered: demand 3
pub going_answered : (p : Problem) (asks lent answers table : List ℕ) (m : Carry) (k n : ℕ) → Going p asks lent answers table m k → k ≤ n → n ≤ k
    → n ≡ length asks / 2 → Answered p asks lent answers table
unfolding ask_count
going_answered p asks lent answers table m k n h l g e =
    let o : k ≡ length asks / 2 = omega arith in
    record {
      told = h.told;
      left = h.left;
      each = h.each ∙ o;
      blocks = h.blocks;
      correct = λ i b. h.correct i (omega arith);
      follows = λ i j b d. h.follows i j b (omega arith);
      each_left = h.each_left ∙ o;
      stands = h.stock.table;
      leaves = λ i b. h.leaves i (omega arith);
    }

-- ---- the lent words keep their lengths

-- what a run has that was not turned away, it has all along
pub admitted_still : (file : File) (asks : List ℕ) (t n t' n' : ℕ) → Admitted file asks t n → t' ≡ t → n' ≡ n → Admitted file asks t' n'
admitted_still file asks t n t' n' h e f = record { few = h.few; long = omega (arith, h.long); room = omega (arith, h.room) }

-- an emptied list is as long as it was
cleared_long : (w d : List ℕ) → w ≡ replicate (length d) 0 → length w ≡ length d
cleared_long w d e = ap length e ∙ length-replicate {A = ℕ} (length d) 0

-- its words are 0
pub cleared_all : (w d : List ℕ) → w ≡ replicate (length d) 0 → w ≡ replicate (length w) 0
cleared_all w d e = e ∙ ap (λ (n : ℕ). replicate n 0) (sym (cleared_long w d e))

-- a run is admitted with it still
pub cleared_admitted : (file : File) (asks w d : List ℕ) (n : ℕ) → Admitted file asks (length d) n → w ≡ replicate (length d) 0
    → Admitted file asks (length w) n
cleared_admitted file asks w d n ok e = admitted_still file asks (length d) n (length w) n ok (cleared_long w d e) refl

-- and what keeps its length has the old one
pub cleared_kept : (v w d : List ℕ) → w ≡ replicate (length d) 0 → length v ≡ length w → length v ≡ length d
cleared_kept v w d e same = same ∙ cleared_long w d e
