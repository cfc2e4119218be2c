-- Every row whose test is true holds.
-- Assumes nothing.
use Prim.Native.Nat.{ℕ, ◌^◌}
use mathlib.Core.Path.{◌≡◌}
use mathlib.Core.Bool.{true, ◌&&◌}
use mathlib.Core.List.{List, [], ◌∷◌}
use native.Mathlib.Omega.{arith}
use lib.Dec.{T, eqb}
use borrow.Author.Tests.{ltb-true, eqb-true}
use Rattle.sums.specs.Range.{count_to}
use Rattle.sums.specs.NumSet.{has}
use Rattle.sums.proofs.LogicLaws.{is_true, and_left, and_right}
use Rattle.model.specs.Judgement.{judge_of}
use Rattle.model.specs.Schedule.{schedule_of}
use Rattle.model.specs.Commitment.{serves, cheapest_run, least_cost, full_least, off_cost}
use Rattle.model.specs.Prefix.{prefixes, rank, space_bound}
use Rattle.model.specs.Words.{problem_of}
use Rattle.model.specs.Verdict.{accepted}
use Rattle.model.specs.Reading.{read_of}
use Rattle.model.specs.Answer.{optimal, infeasible}
use Rattle.model.proofs.FileLaws.{ranged, fair}
use Rattle.claims.specs.Rows.{Claim, cheapest, none_at, none, conflict, no_conflict, meeting, starts, rule, places, ranked, week, not_week, week_costs, right, wrong, noted, unfit, ran, wrong_answers, wrong_table, Claimed, Row, All, nobody}
use Rattle.claims.specs.Tests.{is_correct, is_nogood, is_legal, every_sound, not_taken, is_place, same_pick, no_conflict_tests, starts_tests, cost_tests, ran_tests, wrong_answers_tests, wrong_table_tests, is_accepted, claim_test, row_test, tests, computes}
use Rattle.claims.proofs.TestLaws.{all_hold_at, legal_of}
use Rattle.claims.proofs.ClaimLaws.{nobody_of, place_of, correct_of, correct_test, conflict_of, refuted_of, nogood_of, nogood_test, starts_of_lem, breaks_of, accepted_of, pick_of, pick_test, not_met}
use Rattle.claims.proofs.RunLaws.{meets_of, answers_refused, table_refused}

claim_of : (f : List ℕ) (c : Claim) → read_of f ≡ accepted → claim_test f (problem_of f) c ≡ true → Claimed f c
unfolding claim_test is_correct
claim_of f (cheapest ss rs c) read e = correct_of (problem_of f) (fair f read) c 0 (optimal c ss rs) e
claim_of f (none_at ceiling) read e = correct_of (problem_of f) (fair f read) ceiling 0 infeasible e
claim_of f none read e = nobody_of (problem_of f) (fair f read) e
claim_of f (conflict g) read e =
    let p = problem_of f in
    let l = and_left (is_legal p 0 g.choices) (every_sound p (not_taken p g)) e in
    (legal_of p 0 g.choices l, conflict_of p (fair f read) g l (and_right (is_legal p 0 g.choices) (every_sound p (not_taken p g)) e))
claim_of f (no_conflict g ss rs) read e =
    let h = all_hold_at (no_conflict_tests (problem_of f) g (schedule_of ss rs)) e in
    refuted_of (problem_of f) (fair f read) g (schedule_of ss rs) h.0 h.1.0 h.1.1.0
claim_of f (meeting t n) read e = eqb-true (count_to (2 ^ (problem_of f).units) (serves (problem_of f) t nobody)) n e
claim_of f (starts i ss) read e =
    let h = all_hold_at (starts_tests (problem_of f) i ss) e in
    starts_of_lem (problem_of f) (fair f read) i ss (ltb-true i (problem_of f).units h.0) h.1.0 h.1.1.0
claim_of f (rule grid n) read e = breaks_of n (judge_of f grid) e
claim_of f (places n figure) read e =
    let a = eqb (prefixes (problem_of f)) n in
    let b = eqb (space_bound (problem_of f)) figure in
    (eqb-true (prefixes (problem_of f)) n (and_left a b e), eqb-true (space_bound (problem_of f)) figure (and_right a b e))
claim_of f (ranked ss n) read e =
    let a = is_place (problem_of f) ss in
    let b = eqb (rank (problem_of f) ss) n in
    (place_of (problem_of f) (fair f read) ss (and_left a b e), eqb-true (rank (problem_of f) ss) n (and_right a b e))
claim_of f (week t out x) read e = pick_of (problem_of f) t (has out) x e
claim_of f (not_week t out x) read e = λ h. not_met (same_pick (cheapest_run (problem_of f) t (has out)) x) e (pick_test (problem_of f) t (has out) x h)
claim_of f (week_costs t out least full off) read e =
    let p = problem_of f in
    let h = all_hold_at (cost_tests p t out least full off) e in
    (eqb-true (least_cost p t (has out)) least h.0, eqb-true (full_least p t (has out)) full h.1.0, eqb-true (off_cost p t (has out)) off h.1.1.0)
claim_of f (right c b a) read e = correct_of (problem_of f) (fair f read) c b a e
claim_of f (wrong c b a) read e = λ h. not_met (is_correct (problem_of f) c b a) e (correct_test (problem_of f) (fair f read) c b a h)
claim_of f (noted g) read e = nogood_of (problem_of f) (fair f read) g e
claim_of f (unfit g) read e = λ h. not_met (is_nogood (problem_of f) g) e (nogood_test (problem_of f) (fair f read) g h)
claim_of f (ran asks told left answers table) read e =
    let h = all_hold_at (ran_tests (problem_of f) asks told left answers table) e in
    meets_of f read asks told answers table left h.0 h.1.0 h.1.1.0 h.1.1.1.0
claim_of f (wrong_answers asks told others answers) read e =
    let h = all_hold_at (wrong_answers_tests (problem_of f) asks told others answers) e in
    λ table. answers_refused f read asks told answers table others h.0 h.1.0 h.1.1.0
claim_of f (wrong_table asks told gs answers table) read e =
    let h = all_hold_at (wrong_table_tests (problem_of f) asks told gs answers table) e in
    let most = (ranged f read).weeks_most in
    table_refused f read asks told answers table gs (omega arith) h.0 h.1.0 h.1.1.0 h.1.1.1.0

all_of_tests : (rs : List Row) → tests rs ≡ true → All rs
unfolding tests row_test
all_of_tests [] e = tt
all_of_tests (r ∷ rs) e =
    let f = r.file in
    let a = is_accepted (read_of f) in
    let b = claim_test f (problem_of f) r.claim in
    let ab = and_left (a && b) (tests rs) e in
    let read = accepted_of (read_of f) (and_left a b ab) in
    ((read, claim_of f r.claim read (and_right a b ab)), all_of_tests rs (and_right (a && b) (tests rs) e))

pub all_of_computed : (rs : List Row) → T (computes rs) → All rs
unfolding computes
all_of_computed rs t = all_of_tests rs (is_true (tests rs) t)
