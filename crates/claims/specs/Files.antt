-- The files of the worked figures, word by word (document 01, "Worked figures").
-- Assumes nothing.
use Rattle.std.specs.Prelude.{ℕ, List, [], ◌∷◌, ◌++◌, take, replicate}
use Rattle.model.specs.Words.{◌∶◌}

-- file A
abbrev pub file_a : List ℕ
file_a =
    1 ∶ 3 ∷ 2 ∶ 2 ∷ 3 ∶ 1
    ∷ 4 ∶ 10 ∷ 4 ∶ 10 ∷ 4 ∶ 10
    ∷ 5 ∶ 10 ∷ 6 ∶ 67 ∷ 7 ∶ 1 ∷ 5 ∶ 15 ∷ 6 ∶ 67 ∷ 7 ∶ 1
    ∷ 8 ∶ 5 ∷ 8 ∶ 5 ∷ 8 ∶ 4 ∷ 8 ∶ 7 ∷ 8 ∶ 6 ∷ 8 ∶ 6
    ∷ 9 ∶ 3 ∷ 9 ∶ 4 ∷ 9 ∶ 3 ∷ 9 ∶ 4 ∷ 9 ∶ 3 ∷ 9 ∶ 4
    ∷ 15 ∶ 24 ∷ []

-- one week, four units with capacities 100, 200, 300, 400, and a demand of 800 (P4)
abbrev pub file_four : List ℕ
file_four =
    1 ∶ 1 ∷ 2 ∶ 4 ∷ 3 ∶ 1 ∷ 4 ∶ 800
    ∷ 5 ∶ 100 ∷ 6 ∶ 65 ∷ 7 ∶ 1 ∷ 5 ∶ 200 ∷ 6 ∶ 65 ∷ 7 ∶ 1 ∷ 5 ∶ 300 ∷ 6 ∶ 65 ∷ 7 ∶ 1 ∷ 5 ∶ 400 ∷ 6 ∶ 65 ∷ 7 ∶ 1
    ∷ 8 ∶ 0 ∷ 8 ∶ 0 ∷ 8 ∶ 0 ∷ 8 ∶ 0 ∷ 9 ∶ 0 ∷ 9 ∶ 0 ∷ 9 ∶ 0 ∷ 9 ∶ 0
    ∷ 15 ∶ 24 ∷ []

-- one week, one unit, maintenance 7, and a demand (P5, P6)
abbrev pub file_one : ℕ → List ℕ
file_one demand = 1 ∶ 1 ∷ 2 ∶ 1 ∷ 3 ∶ 1 ∷ 4 ∶ demand ∷ 5 ∶ 9 ∷ 6 ∶ 65 ∷ 7 ∶ 1 ∷ 8 ∶ 7 ∷ 9 ∶ 0 ∷ 15 ∶ 9 ∷ []

-- four weeks, one unit of duration 3, window 1 to 4 (P7)
abbrev pub file_long : List ℕ
file_long =
    1 ∶ 4 ∷ 2 ∶ 1 ∷ 3 ∶ 1 ∷ 4 ∶ 0 ∷ 4 ∶ 0 ∷ 4 ∶ 0 ∷ 4 ∶ 0 ∷ 5 ∶ 9 ∷ 6 ∶ 68 ∷ 7 ∶ 3
    ∷ 8 ∶ 1 ∷ 8 ∶ 1 ∷ 8 ∶ 1 ∷ 8 ∶ 1 ∷ 9 ∶ 1 ∷ 9 ∶ 1 ∷ 9 ∶ 1 ∷ 9 ∶ 1 ∷ 15 ∶ 18 ∷ []

-- one week, two units, one crew (P8)
abbrev pub file_two : List ℕ
file_two =
    1 ∶ 1 ∷ 2 ∶ 2 ∷ 3 ∶ 1 ∷ 4 ∶ 0 ∷ 5 ∶ 9 ∷ 6 ∶ 65 ∷ 7 ∶ 1 ∷ 5 ∶ 9 ∷ 6 ∶ 65 ∷ 7 ∶ 1
    ∷ 8 ∶ 7 ∷ 8 ∶ 7 ∷ 9 ∶ 0 ∷ 9 ∶ 0 ∷ 15 ∶ 14 ∷ []

-- three weeks, one unit of duration 2, window 1 to 3, no demand (P9, P10)
abbrev pub file_gap : List ℕ
file_gap =
    1 ∶ 3 ∷ 2 ∶ 1 ∷ 3 ∶ 1 ∷ 4 ∶ 0 ∷ 4 ∶ 0 ∷ 4 ∶ 0 ∷ 5 ∶ 9 ∷ 6 ∶ 67 ∷ 7 ∶ 2
    ∷ 8 ∶ 1 ∷ 8 ∶ 1 ∷ 8 ∶ 1 ∷ 9 ∶ 1 ∷ 9 ∶ 1 ∷ 9 ∶ 1 ∷ 15 ∶ 15 ∷ []

-- ---- files of our own

-- two weeks with demands 4 and 2, three units, two crews: three schedules of the least cost
abbrev pub file_ties : List ℕ
file_ties =
    1 ∶ 2 ∷ 2 ∶ 3 ∷ 3 ∶ 2 ∷ 4 ∶ 4 ∷ 4 ∶ 2
    ∷ 5 ∶ 2 ∷ 6 ∶ 66 ∷ 7 ∶ 1 ∷ 5 ∶ 5 ∷ 6 ∶ 66 ∷ 7 ∶ 1 ∷ 5 ∶ 4 ∷ 6 ∶ 66 ∷ 7 ∶ 1
    ∷ 8 ∶ 3 ∷ 8 ∶ 2 ∷ 8 ∶ 0 ∷ 8 ∶ 4 ∷ 8 ∶ 4 ∷ 8 ∶ 4
    ∷ 9 ∶ 6 ∷ 9 ∶ 5 ∷ 9 ∶ 1 ∷ 9 ∶ 3 ∷ 9 ∶ 3 ∷ 9 ∶ 1
    ∷ 15 ∶ 26 ∷ []

-- one week, units 1 and 2 together do and cost as much as unit 3
abbrev pub file_pair : List ℕ
file_pair =
    1 ∶ 1 ∷ 2 ∶ 3 ∷ 3 ∶ 1 ∷ 4 ∶ 4 ∷ 5 ∶ 2 ∷ 6 ∶ 65 ∷ 7 ∶ 1 ∷ 5 ∶ 2 ∷ 6 ∶ 65 ∷ 7 ∶ 1 ∷ 5 ∶ 4 ∷ 6 ∶ 65 ∷ 7 ∶ 1
    ∷ 8 ∶ 0 ∷ 8 ∶ 0 ∷ 8 ∶ 0 ∷ 9 ∶ 1 ∷ 9 ∶ 1 ∷ 9 ∶ 2 ∷ 15 ∶ 19 ∷ []

-- one week, one unit, nothing costs anything
abbrev pub file_free : List ℕ
file_free = 1 ∶ 1 ∷ 2 ∶ 1 ∷ 3 ∶ 1 ∷ 4 ∶ 0 ∷ 5 ∶ 9 ∷ 6 ∶ 65 ∷ 7 ∶ 1 ∷ 8 ∶ 0 ∷ 9 ∶ 0 ∷ 15 ∶ 9 ∷ []

-- four weeks, two units with windows 1 to 4 and 2 to 3 and durations 3 and 1
abbrev pub file_windows : List ℕ
file_windows =
    1 ∶ 4 ∷ 2 ∶ 2 ∷ 3 ∶ 1 ∷ 4 ∶ 0 ∷ 4 ∶ 0 ∷ 4 ∶ 0 ∷ 4 ∶ 0 ∷ 5 ∶ 9 ∷ 6 ∶ 68 ∷ 7 ∶ 3 ∷ 5 ∶ 9 ∷ 6 ∶ 131 ∷ 7 ∶ 1
    ∷ 8 ∶ 1 ∷ 8 ∶ 1 ∷ 8 ∶ 1 ∷ 8 ∶ 1 ∷ 8 ∶ 1 ∷ 8 ∶ 1 ∷ 8 ∶ 1 ∷ 8 ∶ 1 ∷ 9 ∶ 1 ∷ 9 ∶ 1 ∷ 9 ∶ 1 ∷ 9 ∶ 1 ∷ 9 ∶ 1 ∷ 9 ∶ 1 ∷ 9 ∶ 1 ∷ 9 ∶ 1
    ∷ 15 ∶ 29 ∷ []

-- two weeks, three units, three crews, units 2 and 3 excluded from being out together, nothing costs anything
abbrev pub file_apart : List ℕ
file_apart =
    1 ∶ 2 ∷ 2 ∶ 3 ∷ 3 ∶ 3 ∷ 4 ∶ 0 ∷ 4 ∶ 0 ∷ 5 ∶ 9 ∷ 6 ∶ 66 ∷ 7 ∶ 1 ∷ 5 ∶ 9 ∷ 6 ∶ 66 ∷ 7 ∶ 1 ∷ 5 ∶ 9 ∷ 6 ∶ 66 ∷ 7 ∶ 1
    ∷ 8 ∶ 0 ∷ 8 ∶ 0 ∷ 8 ∶ 0 ∷ 8 ∶ 0 ∷ 8 ∶ 0 ∷ 8 ∶ 0 ∷ 9 ∶ 0 ∷ 9 ∶ 0 ∷ 9 ∶ 0 ∷ 9 ∶ 0 ∷ 9 ∶ 0 ∷ 9 ∶ 0 ∷ 10 ∶ 67 ∷ 15 ∶ 27 ∷ []

-- file A with OFF costs: in week 1 more than running, in week 2 for unit 2 as much as running, in week 3 more again
abbrev pub file_warm : List ℕ
file_warm = take 24 file_a ++ (0 ∶ 9 ∷ 0 ∶ 8 ∷ 0 ∶ 7 ∷ 0 ∶ 4 ∷ 0 ∶ 5 ∷ 0 ∶ 10 ∷ 15 ∶ 30 ∷ [])

-- file A with OFF costs that are all 0
abbrev pub file_zeros : List ℕ
file_zeros = take 24 file_a ++ replicate 6 (0 ∶ 0) ++ (15 ∶ 30 ∷ [])
