-- The worked run of document 01: file A, asks 11:100 12:12 11:18 12:1, whatever the lent words held before.
-- Assumes nothing.
use Rattle.std.specs.Prelude.{ℕ, ◌≡◌, List, [], ◌∷◌}
use Rattle.model.specs.Words.{◌∶◌}
use Rattle.model.specs.Nogood.{Nogood}
use Rattle.model.specs.Answer.{Answer, optimal, infeasible, zeros}
use Rattle.model.specs.Program.{planned}
use Rattle.model.specs.Lines.{printed}
use Rattle.claims.specs.Files.{file_a}
use Rattle.claims.specs.Rows.{Row, Meets, ran}

-- two asks: ceiling 100 with budget 12, ceiling 18 with budget 1
abbrev pub asks_a : List ℕ
asks_a = 11 ∶ 100 ∷ 12 ∶ 12 ∷ 11 ∶ 18 ∷ 12 ∶ 1 ∷ []

-- plan 19, starts 2 1, run 1 2 1; none
abbrev pub answers_a : List ℕ
answers_a = 1 ∷ 19 ∷ 2 ∷ 1 ∷ 1 ∷ 2 ∷ 1 ∷ 0 ∷ 0 ∷ 2 ∷ 0 ∷ 0 ∷ 0 ∷ 0 ∷ 0 ∷ 0 ∷ 0 ∷ 0 ∷ []

abbrev told_a : List Answer
told_a = optimal 19 (2 ∷ 1 ∷ []) (1 ∷ 2 ∷ 1 ∷ []) ∷ infeasible ∷ []

-- the first ask's walk ends under the bound 18; the second ask is settled and takes none
abbrev bound_a : ℕ
bound_a = 18

abbrev pub table_a : List ℕ
table_a = 13 ∶ bound_a ∷ zeros 63

abbrev left_a : List (List Nogood)
left_a = (record { bound = bound_a; choices = [] } ∷ []) ∷ [] ∷ []

-- the run as a row
abbrev pub worked_row : Row
worked_row = record { file = file_a; claim = ran asks_a told_a left_a answers_a table_a }

-- demand 3 is met by these words
abbrev pub WorkedRun : Type 0
WorkedRun = Meets file_a asks_a answers_a table_a

-- "ask 1 plan 19 starts 2 1 run 1 2 1" and "ask 2 none", each with its line feed, as bytes
abbrev pub text_a : List ℕ
text_a =
    97 ∷ 115 ∷ 107 ∷ 32 ∷ 49 ∷ 32 ∷ 112 ∷ 108 ∷ 97 ∷ 110 ∷ 32 ∷ 49 ∷ 57 ∷ 32 ∷ 115 ∷ 116 ∷ 97 ∷ 114 ∷ 116 ∷ 115 ∷ 32 ∷ 50 ∷ 32 ∷ 49 ∷ 32 ∷ 114 ∷ 117 ∷ 110 ∷ 32 ∷ 49 ∷ 32 ∷ 50 ∷ 32 ∷ 49 ∷ 10
    ∷ 97 ∷ 115 ∷ 107 ∷ 32 ∷ 50 ∷ 32 ∷ 110 ∷ 111 ∷ 110 ∷ 101 ∷ 10 ∷ []

-- what the program prints for the run
abbrev pub WorkedText : Type 0
WorkedText = printed (planned 2 2 3) answers_a ≡ text_a

abbrev pub Worked : Type 0
Worked = WorkedRun × WorkedText
