-- A run of asks follows from its computed tests, and is refused by them: its words determine what each ask is told and which conflicts are left.
-- Assumes nothing.
use Prim.Native.Nat.{ℕ, suc, ◌+◌, ◌*◌, ◌-◌, ◌^◌, ◌≤◌, ◌<◌}
use mathlib.Core.Path.{◌≡◌, refl, sym, ◌∙◌, ap, ap₂, subst}
use mathlib.Core.Bool.{Bool, true, false, not, ◌&&◌}
use mathlib.Core.List.{List, [], ◌∷◌, ◌++◌, flatten, append-nil, append_assoc}
use native.Mathlib.Omega.{arith}
use lib.ListN.{length, take, drop, replicate, length-append, length-replicate, replicate-append-replicate}
use lib.Dec.{ltb, leb, eqb}
use lib.Seq.{take_at, drop_at}
use borrow.Author.Tests.{ltb-true, leb-true, eqb-true, lt-ltb, le-leb, eq-eqb}
use Rattle.sums.specs.Logic.{if, implies}
use Rattle.sums.specs.Range.{all_to}
use Rattle.sums.proofs.LogicLaws.{true_false, and_of, and_left, and_right, implies_at, implies_of}
use Rattle.sums.proofs.RangeLaws.{all_at, all_of}
use Rattle.model.specs.Problem.{Problem, Fair}
use Rattle.model.specs.Words.{problem_of}
use Rattle.model.specs.Verdict.{accepted, and_then}
use Rattle.model.specs.Reading.{read_of}
use Rattle.model.specs.Refusal.{asks_verdict, block_size, memory_verdict, run_verdict}
use Rattle.model.specs.Nogood.{Nogood, AreNogoods, nogood_words, nogoods_words, DeadEndsBelow, bounds_alone, Table}
use Rattle.model.specs.Answer.{Answer, optimal, infeasible, incumbent, unknown, Correct, block_of, blocks_of}
use Rattle.model.specs.Asks.{ask_count, ceiling_at, budget_at, answer_at, Follows, concludes, settled, Leaves, left_at, Answered}
use Rattle.model.proofs.NogoodLaws.{bounds_alone_append, nogoods_determined}
use Rattle.model.proofs.AnswerLaws.{block_length, block_determined}
use Rattle.model.proofs.FileLaws.{fair}
use Rattle.claims.specs.Rows.{Meets, Refuses}
use Rattle.claims.specs.Tests.{same_list, is_nogood, are_nogoods, dead_ends_below, written_tests, is_written, is_plan, is_infeasible, is_followed, right_at, follows_from, follows_at, is_told, is_answered, bounds_of, is_empty, leaves_at, left_tests, is_left, joined, may_leave, lent_tests, is_lent}
use Rattle.claims.proofs.TestLaws.{AllHold, all_hold_at, same_list_at, same_list_of}
use Rattle.claims.proofs.ClaimLaws.{correct_of, correct_test, nogood_of, accepted_of, not_met}

-- ---- answers that follow

plan_at : (c : ℕ) (ss rs : List ℕ) (a : Answer) → is_plan c ss rs a ≡ true → a ≡ optimal c ss rs
unfolding is_plan
plan_at c ss rs (optimal k xs ys) e =
    let lists = same_list xs ss && same_list ys rs in
    let first = eqb-true k c (and_left (eqb k c) lists e) in
    let starts = same_list_at xs ss (and_left (same_list xs ss) (same_list ys rs) (and_right (eqb k c) lists e)) in
    let runs = same_list_at ys rs (and_right (same_list xs ss) (same_list ys rs) (and_right (eqb k c) lists e)) in
    cc
plan_at c ss rs infeasible e = true_false (sym e)
plan_at c ss rs (incumbent k xs ys mark) e = true_false (sym e)
plan_at c ss rs (unknown mark) e = true_false (sym e)

plan_refl : (c : ℕ) (ss rs : List ℕ) → is_plan c ss rs (optimal c ss rs) ≡ true
unfolding is_plan
plan_refl c ss rs =
    and_of (eqb c c) (same_list ss ss && same_list rs rs) (eq-eqb c c refl)
    (and_of (same_list ss ss) (same_list rs rs) (same_list_of ss ss refl) (same_list_of rs rs refl))

infeasible_at : (a : Answer) → is_infeasible a ≡ true → a ≡ infeasible
unfolding is_infeasible
infeasible_at (optimal k xs ys) e = true_false (sym e)
infeasible_at infeasible e = refl
infeasible_at (incumbent k xs ys mark) e = true_false (sym e)
infeasible_at (unknown mark) e = true_false (sym e)

infeasible_of : (a : Answer) → a ≡ infeasible → is_infeasible a ≡ true
unfolding is_infeasible
infeasible_of a e = ap is_infeasible e

follows_of : (c : ℕ) (a : Answer) (d : ℕ) (later : Answer) → is_followed c a d later ≡ true → Follows c a d later
unfolding is_followed
follows_of c (optimal k ss rs) d later e =
    let again = implies (leb k d) (is_plan k ss rs later) in
    let none = implies (ltb d k) (is_infeasible later) in (
      (λ l. plan_at k ss rs later (implies_at (leb k d) (is_plan k ss rs later) (and_left again none e) (le-leb k d l))),
      (λ l. infeasible_at later (implies_at (ltb d k) (is_infeasible later) (and_right again none e) (lt-ltb d k l))),
    )
follows_of c infeasible d later e = λ l. infeasible_at later (implies_at (leb d c) (is_infeasible later) e (le-leb d c l))
follows_of c (incumbent k ss rs mark) d later e = tt
follows_of c (unknown mark) d later e = tt

follows_test : (c : ℕ) (a : Answer) (d : ℕ) (later : Answer) → Follows c a d later → is_followed c a d later ≡ true
unfolding is_followed
follows_test c (optimal k ss rs) d later h =
    and_of (implies (leb k d) (is_plan k ss rs later)) (implies (ltb d k) (is_infeasible later))
    (implies_of (leb k d) (is_plan k ss rs later) (λ e. ap (is_plan k ss rs) (h.0 (leb-true k d e)) ∙ plan_refl k ss rs))
    (implies_of (ltb d k) (is_infeasible later) (λ e. infeasible_of later (h.1 (ltb-true d k e))))
follows_test c infeasible d later h = implies_of (leb d c) (is_infeasible later) (λ e. infeasible_of later (h (leb-true d c e)))
follows_test c (incumbent k ss rs mark) d later h = refl
follows_test c (unknown mark) d later h = refl

-- answer k is right for its own ask; it follows from answer j
abbrev RightAt : Problem → List ℕ → List Answer → ℕ → Type 0
RightAt p asks told k = Correct p (ceiling_at asks k) (budget_at asks k) (answer_at told k)

abbrev FollowsFrom : List ℕ → List Answer → ℕ → ℕ → Type 0
FollowsFrom asks told k j = Follows (ceiling_at asks j) (answer_at told j) (ceiling_at asks k) (answer_at told k)

module _ (p : Problem) (fair : Fair p) (asks : List ℕ) (told : List Answer) where
  right_of : (n : ℕ) → all_to n (right_at p asks told) ≡ true → (k : ℕ) → k < n → RightAt p asks told k
  unfolding right_at
  right_of n e k l = correct_of p fair (ceiling_at asks k) (budget_at asks k) (answer_at told k) (all_at n (right_at p asks told) e k l)

  answered_test : ((k : ℕ) → k < ask_count asks → RightAt p asks told k) → ((j k : ℕ) → j < k → k < ask_count asks → FollowsFrom asks told k j)
      → is_answered p asks told ≡ true
  unfolding is_answered right_at follows_at follows_from
  answered_test right follow =
      and_of (all_to (ask_count asks) (right_at p asks told)) (all_to (ask_count asks) (follows_at asks told))
      (all_of (ask_count asks) (right_at p asks told) (λ k l. correct_test p fair (ceiling_at asks k) (budget_at asks k) (answer_at told k) (right k l)))
      (all_of (ask_count asks) (follows_at asks told) (λ k l. all_of k (follows_from asks told k)
      (λ j i. follows_test (ceiling_at asks j) (answer_at told j) (ceiling_at asks k) (answer_at told k) (follow j k i l))))

  answered_right : is_answered p asks told ≡ true → (k : ℕ) → k < ask_count asks → RightAt p asks told k
  unfolding is_answered
  answered_right e =
      right_of (ask_count asks) (and_left (all_to (ask_count asks) (right_at p asks told)) (all_to (ask_count asks) (follows_at asks told)) e)

  answered_follow : is_answered p asks told ≡ true → (j k : ℕ) → j < k → k < ask_count asks → FollowsFrom asks told k j
  unfolding is_answered follows_at follows_from
  answered_follow e j k i l =
      let all = and_right (all_to (ask_count asks) (right_at p asks told)) (all_to (ask_count asks) (follows_at asks told)) e in
      follows_of (ceiling_at asks j) (answer_at told j) (ceiling_at asks k) (answer_at told k)
      (all_at k (follows_from asks told k) (all_at (ask_count asks) (follows_at asks told) all k l) j i)

-- ---- conflicts in a table

are_of : (p : Problem) → Fair p → (gs : List Nogood) → are_nogoods p gs ≡ true → AreNogoods p gs
unfolding are_nogoods
are_of p fair [] e = tt
are_of p fair (g ∷ gs) e =
    (nogood_of p fair g (and_left (is_nogood p g) (are_nogoods p gs) e), are_of p fair gs (and_right (is_nogood p g) (are_nogoods p gs) e))

ends_of : (top q : ℕ) (gs : List Nogood) → dead_ends_below top q gs ≡ true → DeadEndsBelow top q gs
unfolding dead_ends_below
ends_of top q [] e = tt
ends_of top q (g ∷ gs) e =
    let end = q + length (nogood_words g) in
    let some = ltb 0 (length g.choices) in
    let rest = dead_ends_below top end gs in
    let own = and_left (implies some (leb end top)) rest e in (
      (λ l. leb-true end top (implies_at some (leb end top) own (lt-ltb 0 (length g.choices) l))),
      ends_of top end gs (and_right (implies some (leb end top)) rest e),
    )

ends_test : (top q : ℕ) (gs : List Nogood) → DeadEndsBelow top q gs → dead_ends_below top q gs ≡ true
unfolding dead_ends_below
ends_test top q [] h = refl
ends_test top q (g ∷ gs) h =
    let end = q + length (nogood_words g) in
    let some = ltb 0 (length g.choices) in
    and_of (implies some (leb end top)) (dead_ends_below top end gs)
    (implies_of some (leb end top) (λ e. le-leb end top (h.0 (ltb-true 0 (length g.choices) e)))) (ends_test top end gs h.1)

-- where all of them end below, so do the dead ends
ends_below : (top q : ℕ) (gs : List Nogood) → q + length (nogoods_words gs) ≤ top → DeadEndsBelow top q gs
unfolding nogoods_words
ends_below top q [] h = tt
ends_below top q (g ∷ gs) h =
    let l = length-append (nogood_words g) (nogoods_words gs) in
    ((λ c. omega arith), ends_below top (q + length (nogood_words g)) gs (omega arith))

zeros_behind : (ws : List ℕ) (n m k : ℕ) → n + m ≡ k → ws ++ replicate n 0 ++ replicate m 0 ≡ ws ++ replicate k 0
zeros_behind ws n m k e =
    append_assoc ws (replicate n 0) (replicate m 0)
    ∙ ap (λ (l : List ℕ). ws ++ l) (replicate-append-replicate n m 0 ∙ ap (λ (j : ℕ). replicate j 0) e)

-- conflicts that are written in a table are a table's with 32 words more, or m
table_longer : (m : ℕ) → 32 ≤ m → (p : Problem) (gs : List Nogood) (words : List ℕ) → length (nogoods_words gs) ≤ length words
    → words ≡ nogoods_words gs ++ replicate (length words - length (nogoods_words gs)) 0 → AreNogoods p gs → Table p gs (words ++ replicate m 0)
table_longer m more p gs words fits stand are =
    let total = long in
    record {
      fits = omega arith;
      stand = ap (λ (l : List ℕ). l ++ replicate m 0) stand ∙ zeros_behind (nogoods_words gs) (length words - used) m (length longer - used) (omega arith);
      kept_free = ends_below (length longer - 32) 0 gs (omega arith);
      are = are;
    }
  where
    used : ℕ
    used = length (nogoods_words gs)

    longer : List ℕ
    longer = words ++ replicate m 0

    long : length (words ++ replicate m 0) ≡ length words + m
    long = let l = length-replicate {A = ℕ} m 0 in omega (arith, l, length-append words (replicate m 0))

-- ---- what the asks leave

empty_at : (gs : List Nogood) → is_empty gs ≡ true → gs ≡ []
unfolding is_empty
empty_at [] e = refl
empty_at (g ∷ gs) e = true_false (sym e)

leaves_of : (b : Bool) (c : ℕ) (a : Answer) (gs : List Nogood)
    → if b (is_empty gs) (same_list (bounds_alone gs) (concludes c a)) ≡ true → Leaves b c a gs
leaves_of true c a gs e = empty_at gs e
leaves_of false c a gs e = same_list_at (bounds_alone gs) (concludes c a) e

leaves_bounds : (b : Bool) (c : ℕ) (a : Answer) (gs : List Nogood) → Leaves b c a gs → bounds_alone gs ≡ if b [] (concludes c a)
unfolding bounds_alone
leaves_bounds true c a gs h = ap bounds_alone h
leaves_bounds false c a gs h = h

-- the bounds of all that is left are those of each ask, one after the other
left_bounds : (f : ℕ → List ℕ) (left : List (List Nogood)) → ((k : ℕ) → k < length left → bounds_alone (left_at left k) ≡ f k)
    → bounds_alone (flatten left) ≡ joined f (length left)
unfolding left_at flatten joined bounds_alone
left_bounds f [] h = refl
left_bounds f (gs ∷ left) h =
    bounds_alone_append gs (flatten left)
    ∙ ap₂ {C = List ℕ} ◌++◌ (h 0 (omega arith)) (left_bounds (λ k. f (suc k)) left (λ k l. h (suc k) (omega arith)))

-- ---- the words determine what is told

-- blocks of as many answers, each right for some ask, are of the same answers
told_same : (p : Problem) → Fair p → (c b d e : ℕ → ℕ) (xs ys : List Answer) (r s : List ℕ) → length xs ≡ length ys
    → ((k : ℕ) → k < length xs → Correct p (c k) (b k) (answer_at xs k)) → ((k : ℕ) → k < length ys → Correct p (d k) (e k) (answer_at ys k))
    → blocks_of p xs ++ r ≡ blocks_of p ys ++ s → xs ≡ ys
unfolding blocks_of answer_at
told_same p fair c b d e [] [] r s n h g q = refl
told_same p fair c b d e [] (y ∷ ys) r s n h g q = absurd (omega arith)
told_same p fair c b d e (x ∷ xs) [] r s n h g q = absurd (omega arith)
told_same p fair c b d e (x ∷ xs) (y ∷ ys) r s n h g q =
    ap₂ {C = List Answer} (λ a l. a ∷ l)
    (block_determined p fair (c 0) (b 0) (d 0) (e 0) x y hx gy
    (sym (take_at (block_of p x) (blocks_of p xs ++ r) (block_size p) lx)
    ∙ (ap (take (block_size p)) both ∙ take_at (block_of p y) (blocks_of p ys ++ s) (block_size p) ly)))
    (told_same p fair (λ k. c (suc k)) (λ k. b (suc k)) (λ k. d (suc k)) (λ k. e (suc k)) xs ys r s (omega arith)
    (λ k l. h (suc k) (omega arith)) (λ k l. g (suc k) (omega arith))
    (sym (drop_at (block_of p x) (blocks_of p xs ++ r) (block_size p) lx)
    ∙ (ap (drop (block_size p)) both ∙ drop_at (block_of p y) (blocks_of p ys ++ s) (block_size p) ly)))
  where
    hx : Correct p (c 0) (b 0) x
    hx = h 0 (omega arith)

    gy : Correct p (d 0) (e 0) y
    gy = g 0 (omega arith)

    lx : length (block_of p x) ≡ block_size p
    lx = block_length p (c 0) (b 0) x hx

    ly : length (block_of p y) ≡ block_size p
    ly = block_length p (d 0) (e 0) y gy

    both : block_of p x ++ (blocks_of p xs ++ r) ≡ block_of p y ++ (blocks_of p ys ++ s)
    both = sym (append_assoc (block_of p x) (blocks_of p xs) r) ∙ (q ∙ append_assoc (block_of p y) (blocks_of p ys) s)

-- answer words that begin with blocks of what is right for these or other asks tell it in every run
pub told_is : (p : Problem) → Fair p → (asks others answers₀ answers table : List ℕ) (ys : List Answer) (rest : List ℕ) → length ys ≡ ask_count asks
    → answers ≡ blocks_of p ys ++ rest → ((k : ℕ) → k < ask_count asks → RightAt p others ys k)
    → (x : Answered p asks answers₀ answers table) → x.told ≡ ys
told_is p fair asks others answers₀ answers table ys rest many words right x =
    let each = x.each in
    told_same p fair (ceiling_at asks) (budget_at asks) (ceiling_at others) (budget_at others) x.told ys
    (drop (length (blocks_of p x.told)) answers₀) rest (omega arith) (λ k l. x.correct k (omega arith)) (λ k l. right k (omega arith)) (sym x.blocks ∙ words)

module _ (p : Problem) (asks : List ℕ) (told : List Answer) (answers : List ℕ) (e : is_told p asks told answers ≡ true) where
  told_many : length told ≡ ask_count asks
  unfolding is_told
  told_many = eqb-true (length told) (ask_count asks) (and_left (eqb (length told) (ask_count asks)) (same_list answers (blocks_of p told)) e)

  told_words : answers ≡ blocks_of p told
  unfolding is_told
  told_words = same_list_at answers (blocks_of p told) (and_right (eqb (length told) (ask_count asks)) (same_list answers (blocks_of p told)) e)

  told_alone : answers ≡ blocks_of p told ++ []
  told_alone = told_words ∙ sym (append-nil (blocks_of p told))

-- ---- runs

module _ (f : List ℕ) (read : read_of f ≡ accepted) (asks : List ℕ) (told : List Answer) (answers table : List ℕ) where
  -- the verdict on lent memory that suffices
  verdict_of_lem : (a t s : ℕ) → is_lent (problem_of f) asks answers table ≡ true → length answers ≤ a → t ≡ length table → 2 ^ (problem_of f).units ≤ s
      → accepted ≡ run_verdict f asks t a s
  unfolding is_lent run_verdict and_then memory_verdict ask_count
  verdict_of_lem a t s e la lt ls =
      let h = all_hold_at (lent_tests (problem_of f) asks answers table) e in
      let room = leb-true (ask_count asks * block_size (problem_of f)) (length answers) h.1.1.1.0 in
      let low = leb-true 64 (length table) h.1.0 in
      let high = leb-true (length table) 16384 h.1.1.0 in
      rw (
        read,
        accepted_of (asks_verdict asks) h.0,
        le-leb 64 t (omega arith),
        le-leb t 16384 (omega arith),
        le-leb (ask_count asks * block_size (problem_of f)) a (omega arith),
        le-leb (2 ^ (problem_of f).units) s ls,
      ) refl

  pub meets_of : (left : List (List Nogood)) → is_lent (problem_of f) asks answers table ≡ true → is_told (problem_of f) asks told answers ≡ true
      → is_answered (problem_of f) asks told ≡ true → is_left (problem_of f) asks told left table ≡ true → Meets f asks answers table
  unfolding is_left is_written leaves_at
  meets_of left lent e answered g old kept table₀ scratch₀ scratch a t s = record {
    told = verdict_of_lem (length (old ++ kept)) (length table₀) (length scratch₀) lent (omega (arith, a, length-append old kept)) t s;
    outcome = (
      record {
        told = told;
        left = left;
        each = told_many p asks told answers e;
        blocks = ap₂ {C = List ℕ} ◌++◌ words (sym (drop_at old kept (length (blocks_of p told)) (a ∙ ap length words)));
        correct = answered_right p (fair f read) asks told answered;
        follows = answered_follow p (fair f read) asks told answered;
        each_left = eqb-true (length left) (ask_count asks) h.0;
        stands = record {
          fits = leb-true (length (nogoods_words (flatten left))) (length table) w.0;
          stand = same_list_at table (nogoods_words (flatten left) ++ replicate (length table - length (nogoods_words (flatten left))) 0) w.1.0;
          kept_free = ends_of (length table - 32) 0 (flatten left) h.1.1.0;
          are = are_of p (fair f read) (flatten left) w.1.1.0;
        };
        leaves = λ k l. leaves_of (settled asks told k) (ceiling_at asks k) (answer_at told k) (left_at left k)
            (all_at (ask_count asks) (leaves_at asks told left) h.1.1.1.0 k l);
      },
      sym t,
    );
  }
    where
      p : Problem
      p = problem_of f

      h : AllHold (left_tests (problem_of f) asks told left table)
      h = all_hold_at (left_tests (problem_of f) asks told left table) g

      w : AllHold (written_tests (problem_of f) (flatten left) table)
      w = all_hold_at (written_tests (problem_of f) (flatten left) table) h.1.0

      words : answers ≡ blocks_of (problem_of f) told
      words = told_words (problem_of f) asks told answers e

  -- a run tells what its words tell, right for these or other asks
  tells : (others answers₀ : List ℕ) → is_told (problem_of f) asks told answers ≡ true → ((k : ℕ) → k < ask_count asks → RightAt (problem_of f) others told k)
      → (x : Answered (problem_of f) asks answers₀ answers table) → x.told ≡ told
  tells others answers₀ e =
      told_is (problem_of f) (fair f read) asks others answers₀ answers table told [] (told_many (problem_of f) asks told answers e) (told_alone (problem_of f) asks told answers e)

  -- a run that tells what is right for other asks, and not for these, is refused
  pub answers_refused : (others : List ℕ) → is_told (problem_of f) asks told answers ≡ true
      → all_to (ask_count asks) (right_at (problem_of f) others told) ≡ true
      → not (is_answered (problem_of f) asks told) ≡ true → Refuses f asks answers table
  answers_refused others e right bad answers₀ table₀ scratch₀ scratch run =
      let p = problem_of f in
      let x = run.outcome.0 in
      let same = tells others answers₀ e (right_of p (fair f read) others told (ask_count asks) right) x in
      not_met (is_answered p asks told) bad
      (subst (λ (l : List Answer). is_answered p asks l ≡ true) same (answered_test p (fair f read) asks x.told x.correct x.follows))

  -- a run leaves the conflicts that are due
  may_leave_lem : (answers₀ : List ℕ) (gs : List Nogood) (x : Answered (problem_of f) asks answers₀ answers table)
      → flatten x.left ≡ gs → x.told ≡ told → may_leave asks told gs table ≡ true
  unfolding may_leave bounds_of
  may_leave_lem answers₀ gs x same tell =
      let many = x.each_left in
      and_of (dead_ends_below (length table - 32) 0 gs) (same_list (bounds_alone gs) (joined (bounds_of asks told) (ask_count asks)))
      (ends_test (length table - 32) 0 gs (subst (DeadEndsBelow (length table - 32) 0) same x.stands.kept_free))
      (same_list_of (bounds_alone gs) (joined (bounds_of asks told) (ask_count asks))
      (ap bounds_alone (sym same)
      ∙ (left_bounds (bounds_of asks x.told) x.left bounds ∙ ap₂ (λ (l : List Answer) (n : ℕ). joined (bounds_of asks l) n) tell many)))
    where
      bounds : (k : ℕ) → k < length x.left → bounds_alone (left_at x.left k) ≡ bounds_of asks x.told k
      bounds k l =
          let many = x.each_left in
          leaves_bounds (settled asks x.told k) (ceiling_at asks k) (answer_at x.told k) (left_at x.left k) (x.leaves k (omega arith))

  -- a run whose table holds conflicts that the asks may not leave is refused
  pub table_refused : (gs : List Nogood) → (problem_of f).weeks < 64 → is_told (problem_of f) asks told answers ≡ true
      → is_answered (problem_of f) asks told ≡ true
      → is_written (problem_of f) gs table ≡ true → not (may_leave asks told gs table) ≡ true → Refuses f asks answers table
  unfolding is_written
  table_refused gs short e right g bad answers₀ table₀ scratch₀ scratch run =
      let p = problem_of f in
      let x : Answered p asks answers₀ answers table = run.outcome.0 in
      let w = all_hold_at (written_tests p gs table) g in
      let fits = leb-true (length (nogoods_words gs)) (length table) w.0 in
      let stand = same_list_at table (nogoods_words gs ++ replicate (length table - length (nogoods_words gs)) 0) w.1.0 in
      let here = table_longer 32 (omega arith) p gs table fits stand (are_of p (fair f read) gs w.1.1.0) in
      let there = table_longer 32 (omega arith) p (flatten x.left) table x.stands.fits x.stands.stand x.stands.are in
      let same = nogoods_determined p (fair f read) short (flatten x.left) gs (table ++ replicate 32 0) there here in
      not_met (may_leave asks told gs table) bad (may_leave_lem answers₀ gs x same (tells asks answers₀ e (answered_right p (fair f read) asks told right) x))
