-- Ties, as rows: which of several runs of a week, and which of several schedules, of equal cost is the one (document 01, "A week's tally and its
-- cheapest run", "Starts, walk order, conflicts"). Demands differ by week, costs by week and unit.
-- Assumes nothing.
use Rattle.std.specs.Prelude.{List, [], ◌∷◌}
use Rattle.model.specs.Commitment.{nothing, picked}
use Rattle.model.specs.Answer.{optimal}
use Rattle.claims.specs.Files.{file_four, file_ties, file_pair, file_windows, file_apart}
use Rattle.claims.specs.Rows.{Row, on, All, cheapest, none_at, starts, week, not_week, wrong}

abbrev pub tie_rows : List Row
tie_rows =
    -- of the runs 13, 14 and 15, which all cost nothing, the smallest number
    on file_four (week 0 0 (picked 13))
    ∷ on file_four (not_week 0 0 (picked 14))
    -- of units 1 and 2 and of unit 3 alone: the number counts, not the units
    ∷ on file_pair (week 0 0 (picked 3))
    ∷ on file_pair (not_week 0 0 (picked 4))
    -- unit 3 out of the second week, whose demand is 2: units 1 and 2 cost the same; out of the first, whose demand is 4: unit 1 falls short
    ∷ on file_ties (week 1 4 (picked 1))
    ∷ on file_ties (not_week 1 4 (picked 2))
    ∷ on file_ties (week 0 4 (picked 2))
    -- units 2 and 3 out: in the first week unit 1 falls short by itself, in the second it does not
    ∷ on file_ties (week 0 6 nothing)
    ∷ on file_ties (week 1 6 (picked 1))
    ∷ on file_ties (not_week 1 6 nothing)
    -- three schedules cost 13: against the earliest, one has the same starts and a larger run in the second week, one a larger start at the second
    -- unit and a smaller run in the first week
    ∷ on file_ties (cheapest (1 ∷ 1 ∷ 2 ∷ []) (4 ∷ 1 ∷ []) 13)
    ∷ on file_ties (wrong 13 1 (optimal 13 (1 ∷ 1 ∷ 2 ∷ []) (4 ∷ 2 ∷ [])))
    ∷ on file_ties (wrong 13 1 (optimal 13 (1 ∷ 2 ∷ 1 ∷ []) (2 ∷ 4 ∷ [])))
    ∷ on file_ties (none_at 12)
    -- the cost is formula (9) of the schedule
    ∷ on file_ties (wrong 13 1 (optimal 12 (1 ∷ 1 ∷ 2 ∷ []) (4 ∷ 1 ∷ [])))
    -- at a ceiling below the cost it is no plan
    ∷ on file_ties (wrong 12 1 (optimal 13 (1 ∷ 1 ∷ 2 ∷ []) (4 ∷ 1 ∷ [])))
    -- U starts and W runs, neither more nor fewer
    ∷ on file_ties (wrong 13 1 (optimal 13 (1 ∷ 1 ∷ 2 ∷ 0 ∷ []) (4 ∷ 1 ∷ [])))
    ∷ on file_ties (wrong 13 1 (optimal 13 (1 ∷ 1 ∷ 2 ∷ []) (4 ∷ 1 ∷ 0 ∷ [])))
    -- each unit has its own window and duration
    ∷ on file_windows (starts 0 (1 ∷ 2 ∷ []))
    ∷ on file_windows (starts 1 (2 ∷ 3 ∷ []))
    -- the first starts of all keep the pair apart, and no other two units
    ∷ on file_apart (cheapest (1 ∷ 1 ∷ 2 ∷ []) (0 ∷ 0 ∷ []) 0)
    ∷ []

-- they hold
abbrev pub Ties : Type 0
Ties = All tie_rows
