-- OFF costs, as rows (request #101): formula (9) with them, the cheapest run where a line runs that the demand does not need, and where it stays
-- OFF since that costs as much.
-- Assumes nothing.
use Rattle.std.specs.Prelude.{List, [], ◌∷◌}
use Rattle.model.specs.Commitment.{nothing, picked}
use Rattle.model.specs.Answer.{optimal}
use Rattle.claims.specs.Files.{file_warm, file_zeros}
use Rattle.claims.specs.Rows.{Row, on, All, cheapest, none_at, conflict, no_conflict, week, not_week, week_costs, wrong, first_at_one}

abbrev pub warm_rows : List Row
warm_rows =
    -- week 3, nobody out: unit 1 alone meets the demand, and both cost 7 where it alone costs 13
    on file_warm (week 2 0 (picked 3))
    ∷ on file_warm (not_week 2 0 (picked 1))
    -- week 2, nobody out: unit 2 costs 4 running and 4 OFF, so it stays OFF
    ∷ on file_warm (week 1 0 (picked 1))
    ∷ on file_warm (not_week 1 0 (picked 3))
    -- who is out does not run, however dear OFF is
    ∷ on file_warm (week 2 2 (picked 1))
    ∷ on file_warm (week 0 3 nothing)
    -- what the cheapest run costs by itself, with OFF charged to the units out too, and what those would cost OFF
    ∷ on file_warm (week_costs 2 0 7 7 0)
    ∷ on file_warm (week_costs 1 0 7 7 0)
    ∷ on file_warm (week_costs 2 2 3 13 10)
    ∷ on file_warm (week_costs 1 1 4 11 7)
    ∷ on file_warm (week_costs 0 3 268435456 268435456 17)
    -- the plan of file A with unit 2 running in week 3 as well: 19 and 4, and nothing cheaper
    ∷ on file_warm (cheapest (2 ∷ 1 ∷ []) (1 ∷ 2 ∷ 3 ∷ []) 23)
    ∷ on file_warm (none_at 22)
    -- file A's own plan is not it, neither at 19 nor at its cost here
    ∷ on file_warm (wrong 100 1 (optimal 19 (2 ∷ 1 ∷ []) (1 ∷ 2 ∷ 1 ∷ [])))
    ∷ on file_warm (wrong 100 1 (optimal 29 (2 ∷ 1 ∷ []) (1 ∷ 2 ∷ 1 ∷ [])))
    -- a conflict's bound is a cost with OFF
    ∷ on file_warm (conflict (first_at_one 24))
    ∷ on file_warm (no_conflict (first_at_one 25) (1 ∷ 3 ∷ []) (2 ∷ 1 ∷ 1 ∷ []))
    -- OFF costs of 0 are as none
    ∷ on file_zeros (cheapest (2 ∷ 1 ∷ []) (1 ∷ 2 ∷ 1 ∷ []) 19)
    ∷ on file_zeros (week_costs 2 2 3 3 0)
    ∷ []

-- they hold
abbrev pub Warm : Type 0
Warm = All warm_rows
