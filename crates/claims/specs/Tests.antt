-- The tests that antt computes for the rows, over all lists of starts and runs of a small problem.
-- Assumes nothing.
use Rattle.std.specs.Prelude.{ℕ, zero, suc, ◌+◌, ◌*◌, ◌-◌, ◌^◌, Bool, true, false, not, ◌&&◌, ◌||◌, length, replicate, ltb, leb, eqb}
use Rattle.std.specs.Bool.{beq}
use mathlib.Core.List.{List, [], ◌∷◌, ◌++◌, flatten}
use Rattle.sums.specs.Logic.{if, implies}
use Rattle.sums.specs.Sum.{sum_to, counts_one}
use Rattle.sums.specs.Range.{all_to, all_table, some_to, list_to, count_to, all_lists, count_lists}
use Rattle.sums.specs.NumSet.{only_in, parts, complement, has}
use Rattle.model.specs.Problem.{Problem}
use Rattle.model.specs.Grid.{is_on, is_maint, cell}
use Rattle.model.specs.Rules.{output, headcount, keeps1, broken, cost9}
use Rattle.model.specs.Judgement.{Judgement, sound_at, breaks, refused_grid, judge_of}
use Rattle.model.specs.Domain.{permitted}
use Rattle.model.specs.Schedule.{Schedule, schedule_of, in_span, out_in, lay_out, cost}
use Rattle.model.specs.Commitment.{run_cost, free_at, run_before, serves, Pick, nothing, picked, cheapest_run, least_cost, full_cost, full_least, off_cost}
use Rattle.model.specs.Prefix.{starts_from, before, starts_of, prefixes, rank, space_bound}
use Rattle.model.specs.Words.{VALUES, kind_of, value_of, kind_at, value_at, layout_of, problem_of}
use Rattle.model.specs.Verdict.{Verdict, accepted, refused}
use Rattle.model.specs.Reading.{read_of}
use Rattle.model.specs.Refusal.{asks_verdict, block_size}
use Rattle.model.specs.Nogood.{Choice, Nogood, nogood_words, nogoods_words, bounds_alone}
use Rattle.model.specs.Answer.{Answer, optimal, infeasible, incumbent, unknown, zeros, blocks_of}
use Rattle.model.specs.Asks.{ask_count, ceiling_at, budget_at, answer_at, concludes, settled, left_at}
use Rattle.claims.specs.Rows.{Claim, cheapest, none_at, none, conflict, no_conflict, meeting, starts, rule, places, ranked, week, not_week, week_costs, right, wrong, noted, unfit, ran, wrong_answers, wrong_table, Row, member, nobody}

-- every one of the tests holds
unfoldable pub every : List Bool → Bool
every [] = true
every (b ∷ bs) = b && every bs

-- the same numbers
unfoldable pub same_list : List ℕ → List ℕ → Bool
same_list [] [] = true
same_list [] (y ∷ ys) = false
same_list (x ∷ xs) [] = false
same_list (x ∷ xs) (y ∷ ys) = eqb x y && same_list xs ys

-- ---- sound schedules

-- unit i's start is permitted
unfoldable pub permits_at : Problem → Schedule → ℕ → Bool
permits_at p s i = permitted p i (s.start i)

-- week t's run is one
unfoldable pub run_at : Problem → Schedule → ℕ → Bool
run_at p s t = ltb (s.run t) (2 ^ p.units) && all_to p.units (free_at (out_in p s.start t) (s.run t))

-- `Sound`
unfoldable pub is_sound : Problem → Schedule → Bool
unfolding permits_at run_at
is_sound p s = all_to p.units (permits_at p s) && all_to p.weeks (run_at p s) && eqb (broken p (lay_out p s)) 0

-- the test holds of a schedule with permitted starts where it is sound. A `let` is computed only where it is asked for: what falls short of a demand
-- is not tested further
unfoldable pub where_sound : Problem → (Schedule → Bool) → Schedule → Bool
unfolding run_at
where_sound p q s =
    let own = q s in
    let kept = implies (eqb (broken p (lay_out p s)) 0) own in
    let rest = implies (keeps1 p (lay_out p s)) kept in
    implies (all_to p.weeks (run_at p s)) rest

-- the test holds of every sound schedule with these starts; of every one
unfoldable pub with_starts : Problem → (Schedule → Bool) → List ℕ → Bool
unfolding permits_at where_sound
with_starts p q ss =
    let rest = all_lists p.weeks (2 ^ p.units) (λ rs. where_sound p q (schedule_of ss rs)) in
    implies (all_to p.units (permits_at p (schedule_of ss []))) rest

unfoldable pub every_sound : Problem → (Schedule → Bool) → Bool
unfolding with_starts
every_sound p q = all_lists p.units (p.weeks + 1) (with_starts p q)

-- ---- order

-- `Same`
unfoldable pub same_to : ℕ → (ℕ → ℕ) → (ℕ → ℕ) → Bool
same_to n f g = all_to n (λ k. eqb (f k) (g k))

-- f is lower than g at k, and the same below
unfoldable pub lower_at : (ℕ → ℕ → Bool) → (ℕ → ℕ) → (ℕ → ℕ) → ℕ → Bool
unfolding same_to
lower_at lower f g k = same_to k f g && lower (f k) (g k)

-- `Lower`
unfoldable pub is_lower : (ℕ → ℕ → Bool) → ℕ → (ℕ → ℕ) → (ℕ → ℕ) → Bool
unfolding lower_at
is_lower lower n f g = some_to n (lower_at lower f g)

-- `Earlier`
unfoldable pub is_earlier : Problem → Schedule → Schedule → Bool
unfolding same_to is_lower
is_earlier p s q =
    is_lower ltb p.units s.start q.start
    || (same_to p.units s.start q.start && is_lower (run_before p) p.weeks s.run q.run)

-- ---- the best of a region

-- all schedules
unfoldable pub anywhere : Schedule → Bool
anywhere s = true

-- `Before`
unfoldable pub is_before : Problem → List ℕ → Schedule → Bool
is_before p mark s = before (starts_of p s) mark

-- a schedule of the region is no cheaper than c, and dearer where it is earlier than the best
unfoldable pub not_better : Problem → (Schedule → Bool) → Schedule → ℕ → Schedule → Bool
unfolding is_earlier
not_better p inside best c s = implies (inside s) (leb c (cost p s) && implies (is_earlier p s best) (ltb c (cost p s)))

-- the schedule costs more than c
unfoldable pub dearer : Problem → ℕ → Schedule → Bool
dearer p c s = ltb c (cost p s)

-- `Found`
abbrev pub found_tests : Problem → ℕ → (Schedule → Bool) → ℕ → List ℕ → List ℕ → List Bool
found_tests p ceiling inside c ss rs =
    eqb (length ss) p.units ∷ eqb (length rs) p.weeks ∷ eqb (cost p (schedule_of ss rs)) c ∷ is_sound p (schedule_of ss rs) ∷ leb c ceiling
    ∷ inside (schedule_of ss rs) ∷ every_sound p (not_better p inside (schedule_of ss rs) c) ∷ []

unfoldable pub is_found : Problem → ℕ → (Schedule → Bool) → ℕ → List ℕ → List ℕ → Bool
unfolding every is_sound every_sound not_better
is_found p ceiling inside c ss rs = every (found_tests p ceiling inside c ss rs)

-- `NoneAllowed`
unfoldable pub is_none : Problem → ℕ → (Schedule → Bool) → Bool
unfolding every_sound dearer
is_none p ceiling inside = every_sound p (λ s. implies (inside s) (dearer p ceiling s))

-- `ValidPrefix`
abbrev pub place_tests : Problem → List ℕ → List Bool
place_tests p ss = leb 1 (length ss) ∷ leb (length ss) p.units ∷ starts_from p 0 ss ∷ []

unfoldable pub is_place : Problem → List ℕ → Bool
unfolding every
is_place p ss = every (place_tests p ss)

-- `Marked`
unfoldable pub is_marked : Problem → ℕ → List ℕ → Bool
unfolding is_place
is_marked p budget mark = is_place p mark && leb budget (rank p mark)

-- `Correct`
unfoldable pub is_correct : Problem → ℕ → ℕ → Answer → Bool
unfolding anywhere is_before is_found is_none is_marked
is_correct p ceiling budget (optimal c ss rs) = is_found p ceiling anywhere c ss rs
is_correct p ceiling budget infeasible = is_none p ceiling anywhere
is_correct p ceiling budget (incumbent c ss rs mark) = is_marked p budget mark && is_found p ceiling (is_before p mark) c ss rs
is_correct p ceiling budget (unknown mark) = is_marked p budget mark && is_none p ceiling (is_before p mark)

-- ---- conflicts

-- `Takes`
unfoldable pub takes : List Choice → Schedule → Bool
takes [] s = true
takes (c ∷ cs) s = eqb (s.start c.unit) c.start && takes cs s

-- the schedule lacks a choice or costs more than the bound
unfoldable pub not_taken : Problem → Nogood → Schedule → Bool
unfolding takes dearer
not_taken p g s = implies (takes g.choices s) (dearer p g.bound s)

-- `Legal`: the tests of one choice, and of a list
abbrev pub choice_tests : Problem → ℕ → Choice → List Bool
choice_tests p u c = leb u c.unit ∷ ltb c.unit p.units ∷ permitted p c.unit c.start ∷ []

unfoldable pub is_legal : Problem → ℕ → List Choice → Bool
unfolding every
is_legal p u [] = true
is_legal p u (c ∷ cs) = every (choice_tests p u c) && is_legal p (c.unit + 1) cs

-- `IsNogood`
abbrev pub nogood_tests : Problem → Nogood → List Bool
nogood_tests p g = leb (length g.choices) 8 ∷ ltb g.bound VALUES ∷ is_legal p 0 g.choices ∷ every_sound p (not_taken p g) ∷ []

unfoldable pub is_nogood : Problem → Nogood → Bool
unfolding every every_sound not_taken is_legal
is_nogood p g = every (nogood_tests p g)

-- `AreNogoods`
unfoldable pub are_nogoods : Problem → List Nogood → Bool
unfolding is_nogood
are_nogoods p [] = true
are_nogoods p (g ∷ gs) = is_nogood p g && are_nogoods p gs

-- `DeadEndsBelow`
unfoldable pub dead_ends_below : ℕ → ℕ → List Nogood → Bool
dead_ends_below top q [] = true
dead_ends_below top q (g ∷ gs) =
    implies (ltb 0 (length g.choices)) (leb (q + length (nogood_words g)) top) && dead_ends_below top (q + length (nogood_words g)) gs

-- the words are those of the nogoods, all true, the rest 0
abbrev pub written_tests : Problem → List Nogood → List ℕ → List Bool
written_tests p gs words =
    leb (length (nogoods_words gs)) (length words) ∷ same_list words (nogoods_words gs ++ replicate (length words - length (nogoods_words gs)) 0)
    ∷ are_nogoods p gs ∷ []

unfoldable pub is_written : Problem → List Nogood → List ℕ → Bool
unfolding every same_list are_nogoods
is_written p gs words = every (written_tests p gs words)

-- ---- runs of asks

-- the same plan; none
unfoldable pub is_plan : ℕ → List ℕ → List ℕ → Answer → Bool
unfolding same_list
is_plan c ss rs (optimal k xs ys) = eqb k c && (same_list xs ss && same_list ys rs)
is_plan c ss rs infeasible = false
is_plan c ss rs (incumbent k xs ys mark) = false
is_plan c ss rs (unknown mark) = false

unfoldable pub is_infeasible : Answer → Bool
is_infeasible (optimal k xs ys) = false
is_infeasible infeasible = true
is_infeasible (incumbent k xs ys mark) = false
is_infeasible (unknown mark) = false

-- `Follows`
unfoldable pub is_followed : ℕ → Answer → ℕ → Answer → Bool
unfolding is_plan is_infeasible
is_followed c (optimal k ss rs) d later = implies (leb k d) (is_plan k ss rs later) && implies (ltb d k) (is_infeasible later)
is_followed c infeasible d later = implies (leb d c) (is_infeasible later)
is_followed c (incumbent k ss rs mark) d later = true
is_followed c (unknown mark) d later = true

-- answer k is right for its own ask
unfoldable pub right_at : Problem → List ℕ → List Answer → ℕ → Bool
unfolding is_correct
right_at p asks told k = is_correct p (ceiling_at asks k) (budget_at asks k) (answer_at told k)

-- answer k follows from answer j; from all before it
unfoldable pub follows_from : List ℕ → List Answer → ℕ → ℕ → Bool
unfolding is_followed
follows_from asks told k j = is_followed (ceiling_at asks j) (answer_at told j) (ceiling_at asks k) (answer_at told k)

unfoldable pub follows_at : List ℕ → List Answer → ℕ → Bool
unfolding follows_from
follows_at asks told k = all_to k (follows_from asks told k)

-- the answer words are the blocks of as many answers as asks
unfoldable pub is_told : Problem → List ℕ → List Answer → List ℕ → Bool
unfolding same_list
is_told p asks told answers = eqb (length told) (ask_count asks) && same_list answers (blocks_of p told)

-- the answers are right, each for its own ask, and follow from those before
unfoldable pub is_answered : Problem → List ℕ → List Answer → Bool
unfolding right_at follows_at
is_answered p asks told = all_to (ask_count asks) (right_at p asks told) && all_to (ask_count asks) (follows_at asks told)

-- the bounds of the conflicts without choices that ask k leaves
unfoldable pub bounds_of : List ℕ → List Answer → ℕ → List ℕ
bounds_of asks told k = if (settled asks told k) [] (concludes (ceiling_at asks k) (answer_at told k))

-- no conflict at all
unfoldable pub is_empty : List Nogood → Bool
is_empty [] = true
is_empty (g ∷ gs) = false

-- `Leaves`, of ask k
unfoldable pub leaves_at : List ℕ → List Answer → List (List Nogood) → ℕ → Bool
unfolding same_list is_empty
leaves_at asks told left k =
    if (settled asks told k) (is_empty (left_at left k)) (same_list (bounds_alone (left_at left k)) (concludes (ceiling_at asks k) (answer_at told k)))

-- what each ask leaves stands in the table
abbrev pub left_tests : Problem → List ℕ → List Answer → List (List Nogood) → List ℕ → List Bool
left_tests p asks told left table =
    eqb (length left) (ask_count asks) ∷ is_written p (flatten left) table ∷ dead_ends_below (length table - 32) 0 (flatten left)
    ∷ all_to (ask_count asks) (leaves_at asks told left) ∷ []

unfoldable pub is_left : Problem → List ℕ → List Answer → List (List Nogood) → List ℕ → Bool
unfolding every is_written dead_ends_below leaves_at
is_left p asks told left table = every (left_tests p asks told left table)

-- f 0, .., f (n - 1), one after the other
unfoldable pub joined : (ℕ → List ℕ) → ℕ → List ℕ
joined f zero = []
joined f (suc n) = f 0 ++ joined (λ k. f (suc k)) n

-- the conflicts may be what the asks leave: dead ends where they may stand, and those without choices that are due
unfoldable pub may_leave : List ℕ → List Answer → List Nogood → List ℕ → Bool
unfolding dead_ends_below same_list joined bounds_of
may_leave asks told gs table = dead_ends_below (length table - 32) 0 gs && same_list (bounds_alone gs) (joined (bounds_of asks told) (ask_count asks))

-- ---- claims

-- every number is below n
unfoldable pub below : ℕ → List ℕ → Bool
below n [] = true
below n (x ∷ xs) = ltb x n && below n xs

-- start s is permitted exactly where it is listed
unfoldable pub start_is : Problem → ℕ → List ℕ → ℕ → Bool
unfolding member
start_is p i ss s = beq (permitted p i s) (member s ss)

-- the judgement names rule n
abbrev pub breaks_rule : ℕ → Judgement → Bool
breaks_rule n (sound_at c) = false
breaks_rule n (breaks m) = eqb m n
breaks_rule n (refused_grid m q) = false

-- the same run, or none both times
unfoldable pub same_pick : Pick → Pick → Bool
same_pick nothing nothing = true
same_pick nothing (picked r) = false
same_pick (picked q) nothing = false
same_pick (picked q) (picked r) = eqb q r

-- the verdict accepts
abbrev pub is_accepted : Verdict → Bool
is_accepted accepted = true
is_accepted (refused n q) = false

-- the asks are accepted, and so is lent memory of these sizes
abbrev pub lent_tests : Problem → List ℕ → List ℕ → List ℕ → List Bool
lent_tests p asks answers table =
    is_accepted (asks_verdict asks) ∷ leb 64 (length table) ∷ leb (length table) 16384 ∷ leb (ask_count asks * block_size p) (length answers) ∷ []

unfoldable pub is_lent : Problem → List ℕ → List ℕ → List ℕ → Bool
unfolding every
is_lent p asks answers table = every (lent_tests p asks answers table)

-- the tests of claims that have several
abbrev pub no_conflict_tests : Problem → Nogood → Schedule → List Bool
no_conflict_tests p g s = is_sound p s ∷ takes g.choices s ∷ leb (cost p s) g.bound ∷ []

abbrev pub starts_tests : Problem → ℕ → List ℕ → List Bool
starts_tests p i ss = ltb i p.units ∷ below (p.weeks + 1) ss ∷ all_to (p.weeks + 1) (start_is p i ss) ∷ []

abbrev pub cost_tests : Problem → (t out least full off : ℕ) → List Bool
cost_tests p t out least full off =
    eqb (least_cost p t (has out)) least ∷ eqb (full_least p t (has out)) full ∷ eqb (off_cost p t (has out)) off ∷ []

abbrev pub ran_tests : Problem → List ℕ → List Answer → List (List Nogood) → List ℕ → List ℕ → List Bool
ran_tests p asks told left answers table =
    is_lent p asks answers table ∷ is_told p asks told answers ∷ is_answered p asks told ∷ is_left p asks told left table ∷ []

abbrev pub wrong_answers_tests : Problem → List ℕ → List Answer → List ℕ → List ℕ → List Bool
wrong_answers_tests p asks told others answers =
    is_told p asks told answers ∷ all_to (ask_count asks) (right_at p others told) ∷ not (is_answered p asks told) ∷ []

abbrev pub wrong_table_tests : Problem → List ℕ → List Answer → List Nogood → List ℕ → List ℕ → List Bool
wrong_table_tests p asks told gs answers table =
    is_told p asks told answers ∷ is_answered p asks told ∷ is_written p gs table ∷ not (may_leave asks told gs table) ∷ []

-- the test of a claim
unfoldable pub claim_test : List ℕ → Problem → Claim → Bool
unfolding every is_sound every_sound anywhere is_found is_none is_place dearer takes not_taken is_legal is_nogood below start_is nobody same_pick is_lent is_told is_answered is_left may_leave is_written
claim_test f p (cheapest ss rs c) = is_found p c anywhere c ss rs
claim_test f p (none_at ceiling) = is_none p ceiling anywhere
claim_test f p none = every_sound p (λ s. false)
claim_test f p (conflict g) = is_legal p 0 g.choices && every_sound p (not_taken p g)
claim_test f p (no_conflict g ss rs) = every (no_conflict_tests p g (schedule_of ss rs))
claim_test f p (meeting t n) = eqb (count_to (2 ^ p.units) (serves p t nobody)) n
claim_test f p (starts i ss) = every (starts_tests p i ss)
claim_test f p (rule grid n) = breaks_rule n (judge_of f grid)
claim_test f p (places n figure) = eqb (prefixes p) n && eqb (space_bound p) figure
claim_test f p (ranked ss n) = is_place p ss && eqb (rank p ss) n
claim_test f p (week t out x) = same_pick (cheapest_run p t (has out)) x
claim_test f p (not_week t out x) = not (same_pick (cheapest_run p t (has out)) x)
claim_test f p (week_costs t out least full off) = every (cost_tests p t out least full off)
claim_test f p (right c b a) = is_correct p c b a
claim_test f p (wrong c b a) = not (is_correct p c b a)
claim_test f p (noted g) = is_nogood p g
claim_test f p (unfit g) = not (is_nogood p g)
claim_test f p (ran asks told left answers table) = every (ran_tests p asks told left answers table)
claim_test f p (wrong_answers asks told others answers) = every (wrong_answers_tests p asks told others answers)
claim_test f p (wrong_table asks told gs answers table) = every (wrong_table_tests p asks told gs answers table)

-- the test of a row: its file is accepted, its claim tests true
unfoldable pub row_test : Row → Bool
unfolding claim_test
row_test r = is_accepted (read_of r.file) && claim_test r.file (problem_of r.file) r.claim

-- the test of all rows
unfoldable pub tests : List Row → Bool
unfolding row_test
tests [] = true
tests (r ∷ rs) = row_test r && tests rs

-- the same test with all its definitions opened, as antt computes it
unfoldable pub computes : List Row → Bool
unfolding tests sum_to counts_one all_to all_table some_to list_to count_to all_lists count_lists only_in parts complement has flatten is_on is_maint cell output headcount keeps1 broken cost9 judge_of permitted in_span out_in lay_out cost free_at run_before serves run_cost cheapest_run least_cost full_cost full_least off_cost starts_from before starts_of prefixes rank space_bound kind_of value_of kind_at value_at layout_of problem_of read_of asks_verdict block_size nogood_words nogoods_words bounds_alone zeros blocks_of ask_count ceiling_at budget_at answer_at concludes settled left_at
computes rs = tests rs
