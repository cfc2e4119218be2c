-- Runs of asks, as rows: runs that meet demand 3, and runs that do not (document 01, "A run of asks"; conflicts in "Starts, walk order, conflicts").
-- File A has 12 places: 1 and 1 1 to 1 3 have the ranks 0 to 3, 2 and 2 1 to 2 3 the ranks 4 to 7, 3 and 3 1 to 3 3 the ranks 8 to 11. Its schedules
-- cost 19 from starts 2 1, 20 from 2 3, 21 from 1 3 and from 3 1, more from 1 2 and 3 2.
-- Assumes nothing.
use Rattle.std.specs.Prelude.{ℕ, zero, suc, ◌<◌, ◌≡◌, List, [], ◌∷◌, ◌++◌, ◌⊎◌, length, replicate}
use Rattle.model.specs.Problem.{Problem}
use Rattle.model.specs.Words.{◌∶◌}
use Rattle.model.specs.Verdict.{accepted}
use Rattle.model.specs.Nogood.{Nogood, IsNogood}
use Rattle.model.specs.Answer.{Answer, optimal, infeasible, incumbent, unknown, zeros}
use Rattle.model.specs.Asks.{Ran}
use Rattle.claims.specs.Files.{file_a, file_one, file_free}
use Rattle.claims.specs.Rows.{Claim, Row, on, All, Refuses, first_at_one, right, wrong, noted, unfit, ran, wrong_answers, wrong_table}

-- ---- answers on file A, and their blocks: status, cost, 2 starts, 3 runs, 2 words of mark

-- the cheapest; the cheapest before the places with unit 1 at 2
abbrev plan : Answer
plan = optimal 19 (2 ∷ 1 ∷ []) (1 ∷ 2 ∷ 1 ∷ [])

abbrev best19 : List ℕ → Answer
best19 mark = incumbent 19 (2 ∷ 1 ∷ []) (1 ∷ 2 ∷ 1 ∷ []) mark

abbrev best21 : List ℕ → Answer
best21 mark = incumbent 21 (1 ∷ 3 ∷ []) (2 ∷ 1 ∷ 1 ∷ []) mark

abbrev plan_words : List ℕ
plan_words = 1 ∷ 19 ∷ 2 ∷ 1 ∷ 1 ∷ 2 ∷ 1 ∷ 0 ∷ 0 ∷ []

abbrev pub none_words : List ℕ
none_words = 2 ∷ 0 ∷ 0 ∷ 0 ∷ 0 ∷ 0 ∷ 0 ∷ 0 ∷ 0 ∷ []

abbrev best19_words : ℕ → ℕ → List ℕ
best19_words a b = 3 ∷ 19 ∷ 2 ∷ 1 ∷ 1 ∷ 2 ∷ 1 ∷ a ∷ b ∷ []

abbrev best21_words : ℕ → ℕ → List ℕ
best21_words a b = 3 ∷ 21 ∷ 1 ∷ 3 ∷ 2 ∷ 1 ∷ 1 ∷ a ∷ b ∷ []

abbrev spent_words : ℕ → ℕ → List ℕ
spent_words a b = 4 ∷ 0 ∷ 0 ∷ 0 ∷ 0 ∷ 0 ∷ 0 ∷ a ∷ b ∷ []

-- ---- conflicts

-- the one without choices
abbrev alone : ℕ → Nogood
alone bound = record { bound = bound; choices = [] }

-- unit 1 and unit 2 at start 1, which one crew never allows: true at any bound
abbrev both_at_one : ℕ → Nogood
both_at_one bound = record { bound = bound; choices = record { unit = 0; start = 1 } ∷ record { unit = 1; start = 1 } ∷ [] }

-- unit 1 at start 1 under bound 5, 16 times, and n times in words: true where no schedule meets the demand (P6)
abbrev dead_ends : List Nogood
dead_ends = replicate 16 (first_at_one 5)

unfoldable pub first_words : ℕ → List ℕ
first_words zero = []
first_words (suc n) = 13 ∶ 5 ∷ 14 ∶ 65 ∷ first_words n

-- ---- runs that meet demand 3

-- spent, best, none and plan; none again at its ceiling, spent one above it, none again after that; the plan again at its cost, none one below it
abbrev pub long_asks : List ℕ
long_asks =
    11 ∶ 18 ∷ 12 ∶ 6 ∷ 11 ∶ 100 ∷ 12 ∶ 8 ∷ 11 ∶ 100 ∷ 12 ∶ 3 ∷ 11 ∶ 20 ∷ 12 ∶ 4
    ∷ 11 ∶ 18 ∷ 12 ∶ 12 ∷ 11 ∶ 18 ∷ 12 ∶ 1 ∷ 11 ∶ 19 ∷ 12 ∶ 5 ∷ 11 ∶ 17 ∷ 12 ∶ 1
    ∷ 11 ∶ 19 ∷ 12 ∶ 12 ∷ 11 ∶ 19 ∷ 12 ∶ 1 ∷ 11 ∶ 18 ∷ 12 ∶ 1 ∷ 11 ∶ 268435455 ∷ 12 ∶ 1 ∷ []

abbrev long_told : List Answer
long_told =
    unknown (2 ∷ 2 ∷ []) ∷ best19 (3 ∷ []) ∷ best21 (2 ∷ []) ∷ unknown (2 ∷ [])
    ∷ infeasible ∷ infeasible ∷ unknown (2 ∷ 1 ∷ []) ∷ infeasible
    ∷ plan ∷ plan ∷ infeasible ∷ plan ∷ []

abbrev long_answers : List ℕ
long_answers =
    spent_words 2 2 ++ best19_words 3 0 ++ best21_words 2 0 ++ spent_words 2 0
    ++ none_words ++ none_words ++ spent_words 2 1 ++ none_words
    ++ plan_words ++ plan_words ++ none_words ++ plan_words

-- the fourth ask notes that unit 1 at start 1 is dear (P3); the fifth notes a clash and ends in none; the ninth ends in the plan
abbrev long_left : List (List Nogood)
long_left =
    [] ∷ [] ∷ [] ∷ (first_at_one 20 ∷ []) ∷ (both_at_one 50 ∷ alone 18 ∷ []) ∷ [] ∷ [] ∷ [] ∷ (alone 18 ∷ []) ∷ [] ∷ [] ∷ [] ∷ []

abbrev long_table : List ℕ
long_table = 13 ∶ 20 ∷ 14 ∶ 65 ∷ 13 ∶ 50 ∷ 14 ∶ 65 ∷ 14 ∶ 129 ∷ 13 ∶ 18 ∷ 13 ∶ 18 ∷ zeros 57

-- one ask with a budget of all of file A's places; two asks by their ceilings and budgets
abbrev pub one_ask : ℕ → List ℕ
one_ask ceiling = 11 ∶ ceiling ∷ 12 ∶ 12 ∷ []

abbrev two_asks : ℕ → ℕ → ℕ → ℕ → List ℕ
two_asks c b d e = 11 ∶ c ∷ 12 ∶ b ∷ 11 ∶ d ∷ 12 ∶ e ∷ []

-- an ask on the file without a schedule, which has one place (P6)
abbrev short_ask : List ℕ
short_ask = 11 ∶ 5 ∷ 12 ∶ 1 ∷ []

-- the plan that costs nothing
abbrev free_plan : Answer
free_plan = optimal 0 (1 ∷ []) (0 ∷ [])

abbrev free_words : List ℕ
free_words = 1 ∷ 0 ∷ 1 ∷ 0 ∷ 0 ∷ []

abbrev met_rows : List Row
met_rows =
    on file_a (ran long_asks long_told long_left long_answers long_table)
    -- dead ends up to the last 32 words, and there the conflict without choices
    ∷ on (file_one 1) (ran short_ask (infeasible ∷ []) ((dead_ends ++ (alone 5 ∷ [])) ∷ []) (2 ∷ zeros 4) (first_words 16 ++ (13 ∶ 5 ∷ zeros 31)))
    -- a plan that costs nothing leaves no conflict, and is known all the same
    ∷ on file_free (ran (two_asks 0 1 5 1) (free_plan ∷ free_plan ∷ []) ([] ∷ [] ∷ []) (free_words ++ free_words) (zeros 64))
    ∷ []

-- ---- answers, each for its own ask

abbrev answer_rows : List Row
answer_rows =
    -- the mark: rank 11 for a budget of 11 and not of 12; no start at all, a start that is not permitted, a unit too many
    on file_a (right 18 11 (unknown (3 ∷ 3 ∷ [])))
    ∷ on file_a (wrong 18 12 (unknown (3 ∷ 3 ∷ [])))
    ∷ on file_a (wrong 18 1 (unknown []))
    ∷ on file_a (wrong 18 1 (unknown (4 ∷ [])))
    ∷ on file_a (wrong 18 1 (unknown (2 ∷ 1 ∷ 1 ∷ [])))
    -- before the mark is neither the mark itself nor what extends it
    ∷ on file_a (right 19 4 (unknown (2 ∷ [])))
    ∷ on file_a (right 19 5 (unknown (2 ∷ 1 ∷ [])))
    ∷ on file_a (wrong 19 6 (unknown (2 ∷ 2 ∷ [])))
    ∷ on file_a (right 100 6 (best19 (2 ∷ 2 ∷ [])))
    ∷ on file_a (wrong 100 5 (best19 (2 ∷ 1 ∷ [])))
    ∷ on file_a (wrong 100 4 (best19 (2 ∷ [])))
    -- the cheapest before its own mark: not the best of an earlier mark, and no plan by itself
    ∷ on file_a (wrong 100 8 (best21 (3 ∷ [])))
    ∷ on file_a (wrong 100 12 (optimal 21 (1 ∷ 3 ∷ []) (2 ∷ 1 ∷ 1 ∷ [])))
    -- the cost is that of formula (9), and at or below the ceiling
    ∷ on file_a (wrong 100 3 (incumbent 20 (1 ∷ 3 ∷ []) (2 ∷ 1 ∷ 1 ∷ []) (2 ∷ [])))
    ∷ on file_a (wrong 20 3 (best21 (2 ∷ [])))
    -- a week whose run falls short of the demand makes no schedule that counts
    ∷ on file_a (wrong 100 12 (optimal 16 (2 ∷ 1 ∷ []) (1 ∷ 2 ∷ 0 ∷ [])))
    ∷ []

-- ---- conflicts in a table

abbrev conflict_rows : List Row
conflict_rows =
    on file_a (noted (first_at_one 20))
    ∷ on file_a (noted (both_at_one 268435455))
    ∷ on file_a (noted (alone 18))
    -- P3 at 21, and none at 19: false at their bounds
    ∷ on file_a (unfit (first_at_one 21))
    ∷ on file_a (unfit (alone 19))
    ∷ on file_free (unfit (alone 0))
    -- a bound that no word holds
    ∷ on file_a (unfit (both_at_one 268435456))
    -- a start that is not permitted, a unit that is none, units that fall, a unit twice: true, but no choices
    ∷ on file_a (unfit (record { bound = 18; choices = record { unit = 0; start = 4 } ∷ [] }))
    ∷ on file_a (unfit (record { bound = 18; choices = record { unit = 2; start = 1 } ∷ [] }))
    ∷ on file_a (unfit (record { bound = 18; choices = record { unit = 1; start = 1 } ∷ record { unit = 0; start = 1 } ∷ [] }))
    ∷ on file_a (unfit (record { bound = 18; choices = record { unit = 0; start = 1 } ∷ record { unit = 0; start = 2 } ∷ [] }))
    ∷ []

-- ---- runs that are refused

-- each answer is right by itself, but one does not follow from those before it
abbrev unfollowed : List ℕ → List Answer → List ℕ → Claim
unfollowed asks told answers = wrong_answers asks told asks answers

abbrev wrong_answer_rows : List Row
wrong_answer_rows =
    -- after a plan, spent
    on file_a (unfollowed (two_asks 100 12 100 1) (plan ∷ unknown (1 ∷ 2 ∷ []) ∷ []) (plan_words ++ spent_words 1 2))
    ∷ on file_a (unfollowed (two_asks 19 12 19 8) (plan ∷ best19 (3 ∷ []) ∷ []) (plan_words ++ best19_words 3 0))
    ∷ on file_a (unfollowed (two_asks 100 12 18 1) (plan ∷ unknown (2 ∷ []) ∷ []) (plan_words ++ spent_words 2 0))
    -- after none, spent at that ceiling and below it, also with another ask between
    ∷ on file_a (unfollowed (two_asks 18 12 18 1) (infeasible ∷ unknown (2 ∷ []) ∷ []) (none_words ++ spent_words 2 0))
    ∷ on file_a (unfollowed (one_ask 18 ++ two_asks 100 3 17 1) (infeasible ∷ best21 (2 ∷ []) ∷ unknown (2 ∷ []) ∷ [])
    (none_words ++ best21_words 2 0 ++ spent_words 2 0))
    -- none at a looser ceiling, as if an earlier none held there
    ∷ on file_a (wrong_answers (two_asks 18 12 19 12) (infeasible ∷ infeasible ∷ []) (two_asks 18 12 18 12) (none_words ++ none_words))
    -- the plan again below its cost
    ∷ on file_a (wrong_answers (two_asks 19 12 18 12) (plan ∷ plan ∷ []) (two_asks 19 12 19 12) (plan_words ++ plan_words))
    -- spent without a schedule where one lies before the mark at or below the ceiling
    ∷ on file_a (wrong_answers (11 ∶ 21 ∷ 12 ∶ 4 ∷ []) (unknown (2 ∷ []) ∷ []) (11 ∶ 20 ∷ 12 ∶ 4 ∷ []) (spent_words 2 0))
    -- spent with a mark of rank below the budget
    ∷ on file_a (wrong_answers (11 ∶ 18 ∷ 12 ∶ 6 ∷ []) (unknown (2 ∷ 1 ∷ []) ∷ []) (11 ∶ 18 ∷ 12 ∶ 5 ∷ []) (spent_words 2 1))
    -- a best schedule above the ceiling
    ∷ on file_a (wrong_answers (11 ∶ 20 ∷ 12 ∶ 3 ∷ []) (best21 (2 ∷ []) ∷ []) (11 ∶ 21 ∷ 12 ∶ 3 ∷ []) (best21_words 2 0))
    ∷ []

abbrev wrong_table_rows : List Row
wrong_table_rows =
    -- the end of a walk not noted, after none and after a plan
    on file_a (wrong_table (one_ask 18) (infeasible ∷ []) [] none_words (zeros 64))
    ∷ on file_a (wrong_table (one_ask 100) (plan ∷ []) [] plan_words (zeros 64))
    -- noted under another bound, at which it is true, but not the walk's
    ∷ on file_a (wrong_table (one_ask 18) (infeasible ∷ []) (alone 17 ∷ []) none_words (13 ∶ 17 ∷ zeros 63))
    ∷ on file_a (wrong_table (one_ask 100) (plan ∷ []) (alone 17 ∷ []) plan_words (13 ∶ 17 ∷ zeros 63))
    -- twice; after a spent walk; after an ask that an earlier one settles
    ∷ on file_a (wrong_table (one_ask 18) (infeasible ∷ []) (alone 18 ∷ alone 18 ∷ []) none_words (13 ∶ 18 ∷ 13 ∶ 18 ∷ zeros 62))
    ∷ on file_a (wrong_table (11 ∶ 18 ∷ 12 ∶ 6 ∷ []) (unknown (2 ∷ 2 ∷ []) ∷ []) (alone 18 ∷ []) (spent_words 2 2) (13 ∶ 18 ∷ zeros 63))
    ∷ on file_a (wrong_table (two_asks 18 12 17 1) (infeasible ∷ infeasible ∷ []) (alone 18 ∷ alone 17 ∷ [])
    (none_words ++ none_words) (13 ∶ 18 ∷ 13 ∶ 17 ∷ zeros 62))
    ∷ on file_a (wrong_table (two_asks 19 12 18 1) (plan ∷ infeasible ∷ []) (alone 18 ∷ alone 18 ∷ [])
    (plan_words ++ none_words) (13 ∶ 18 ∷ 13 ∶ 18 ∷ zeros 62))
    -- a dead end that reaches into the last 32 words by one
    ∷ on (file_one 1) (wrong_table short_ask (infeasible ∷ []) (alone 5 ∷ dead_ends) (2 ∷ zeros 4) (13 ∶ 5 ∷ first_words 16 ++ zeros 31))
    ∷ []

abbrev pub run_rows : List Row
run_rows = met_rows ++ answer_rows ++ conflict_rows ++ wrong_answer_rows ++ wrong_table_rows

-- ---- refused whatever else the words are

-- behind the conflicts stands a word of no kind, or after a 0 one of the words at entry
abbrev pub StrayWord : Type 0
StrayWord = Refuses file_a (one_ask 18) none_words (13 ∶ 18 ∷ 1 ∷ zeros 62) × Refuses file_a (one_ask 18) none_words (13 ∶ 18 ∷ 0 ∷ 13 ∶ 17 ∷ zeros 61)

-- a status word of another number
abbrev pub StrayStatus : Type 0
StrayStatus = (status : ℕ) (rest table : List ℕ) → (status < 1) ⊎ (4 < status) → Refuses file_a (one_ask 18) (status ∷ rest) table

-- answer words beyond the block that are not kept
abbrev pub StrayAnswer : Type 0
StrayAnswer = (table₀ scratch₀ table scratch : List ℕ)
    → Ran accepted file_a (one_ask 18) (zeros 10) table₀ scratch₀ (none_words ++ (1 ∷ [])) table scratch → ⊥

-- the table's length is kept
abbrev pub LongerTable : Type 0
LongerTable = (file asks answers₀ table₀ scratch₀ answers table scratch : List ℕ)
    → length table₀ < length table → Ran accepted file asks answers₀ table₀ scratch₀ answers table scratch → ⊥

-- nine choices are too many
abbrev pub NineChoices : Type 0
NineChoices = (p : Problem) (g : Nogood) → length g.choices ≡ 9 → IsNogood p g → ⊥

-- all of this
abbrev pub Runs : Type 0
Runs = All run_rows × StrayWord × StrayStatus × StrayAnswer × LongerTable × NineChoices
