-- Bytes as words, a program's input, a schedule as bytes, what lent words hold afterwards, answers and conflicts as words, and printed lines:
-- what the definitions give for small inputs (document 01, "Words of the plan file", "Grids and the judge", "A run of asks", "Worked figures").
-- Assumes nothing.
use Rattle.std.specs.Prelude.{ℕ, ◌≡◌, List, [], ◌∷◌, ◌++◌, length, take}
use Rattle.model.specs.Words.{◌∶◌, problem_of}
use Rattle.model.specs.Verdict.{Verdict, accepted, refused, Figure, gives, refused_figure}
use Rattle.model.specs.Bytes.{words_to, load_of, loaded_into, file_end}
use Rattle.model.specs.Schedule.{Schedule, schedule_of}
use Rattle.model.specs.Drawing.{drawn, draw_verdict, drawn_into}
use Rattle.model.specs.Nogood.{Nogood, nogoods_words}
use Rattle.model.specs.Answer.{Answer, optimal, infeasible, incumbent, unknown, blocks_of}
use Rattle.model.specs.Program.{input_file, input_asks, Planned, refused_plan, planned, planned_by}
use Rattle.model.specs.Judgement.{Judgement, sound_at, breaks, refused_grid}
use Rattle.model.specs.Lines.{printed, judgement_text, Written, PlanPrinted}
use Rattle.claims.specs.Files.{file_a, file_long}
use Rattle.claims.specs.Cases.{Case, ◌⟶◌, Each, bytes_a, ask_pair, ask_bytes, alike, bytes_of}

-- ---- bytes

-- the lowest byte of a word comes first: so many words of the bytes
abbrev pub word_rows : List (Case (List ℕ × ℕ) (List ℕ))
word_rows =
    (1 ∷ 2 ∷ 3 ∷ 4 ∷ [], 1) ⟶ (0x04030201 ∷ [])
    ∷ (1 ∷ 2 ∷ 3 ∷ 4 ∷ 251 ∷ 252 ∷ 253 ∷ 254 ∷ 9 ∷ [], 2) ⟶ (0x04030201 ∷ 0xfefdfcfb ∷ [])
    ∷ (bytes_a, 25) ⟶ file_a
    ∷ (ask_bytes, 4) ⟶ ask_pair
    ∷ []

-- a call that reads bytes into so many words: how many words, or the refusal
abbrev pub figure_rows : List (Case (List ℕ × ℕ) Figure)
figure_rows =
    ([], 0) ⟶ gives 0
    ∷ (1 ∷ 2 ∷ 3 ∷ 4 ∷ 5 ∷ 6 ∷ 7 ∷ 8 ∷ [], 2) ⟶ gives 2
    ∷ (1 ∷ 2 ∷ 3 ∷ 4 ∷ 5 ∷ 6 ∷ 7 ∷ 8 ∷ [], 3) ⟶ gives 2
    ∷ (1 ∷ 2 ∷ 3 ∷ 4 ∷ 5 ∷ 6 ∷ 7 ∷ 8 ∷ [], 1) ⟶ refused_figure 17 0
    ∷ (1 ∷ 2 ∷ 3 ∷ 4 ∷ 5 ∷ 6 ∷ 7 ∷ [], 0) ⟶ refused_figure 16 0
    ∷ []

-- bytes, the lent words before, and afterwards: words beyond stay; all stay under 17 and 16
abbrev pub loaded_rows : List (Case (List ℕ × List ℕ) (List ℕ))
loaded_rows =
    (1 ∷ 2 ∷ 3 ∷ 4 ∷ 5 ∷ 6 ∷ 7 ∷ 8 ∷ [], 90 ∷ 91 ∷ 92 ∷ 93 ∷ []) ⟶ (0x04030201 ∷ 0x08070605 ∷ 92 ∷ 93 ∷ [])
    ∷ (1 ∷ 2 ∷ 3 ∷ 4 ∷ 5 ∷ 6 ∷ 7 ∷ 8 ∷ [], 90 ∷ []) ⟶ (90 ∷ [])
    ∷ (1 ∷ 2 ∷ 3 ∷ 4 ∷ 5 ∷ 6 ∷ 7 ∷ [], 90 ∷ 91 ∷ []) ⟶ (90 ∷ 91 ∷ [])
    ∷ []

-- ---- a program's input: the file up to the first word of kind 15, then the asks

-- how many bytes are the file's
abbrev pub file_end_rows : List (Case (List ℕ) ℕ)
file_end_rows =
    (bytes_a ++ ask_bytes) ⟶ 100
    ∷ bytes_a ⟶ 100
    -- the first of two, also where it is misplaced or its value is no count
    ∷ (bytes_a ++ bytes_a) ⟶ 100
    ∷ ((3 ∷ 0 ∷ 0 ∷ 240 ∷ []) ++ bytes_a) ⟶ 4
    ∷ (0 ∷ 0 ∷ 0 ∷ 0 ∷ 255 ∷ 255 ∷ 255 ∷ 255 ∷ 0 ∷ []) ⟶ 8
    -- none: all bytes
    ∷ [] ⟶ 0
    ∷ take 96 bytes_a ⟶ 96
    ∷ take 99 bytes_a ⟶ 99
    ∷ (240 ∷ 240 ∷ 240 ∷ 16 ∷ 0 ∷ 240 ∷ []) ⟶ 6
    ∷ []

-- the file's words, and the asks' words
abbrev pub split_rows : List (Case (List ℕ) (List ℕ × List ℕ))
split_rows =
    (bytes_a ++ ask_bytes) ⟶ (file_a, ask_pair)
    ∷ bytes_a ⟶ (file_a, [])
    ∷ ((3 ∷ 0 ∷ 0 ∷ 240 ∷ []) ++ ask_bytes) ⟶ (15 ∶ 3 ∷ [], ask_pair)
    ∷ take 8 bytes_a ⟶ (1 ∶ 3 ∷ 2 ∶ 2 ∷ [], [])
    ∷ []

-- ---- schedules as bytes

-- a file, starts and runs: the cells week by week, the units of a week side by side
abbrev pub drawn_rows : List (Case (List ℕ × Schedule) (List ℕ))
drawn_rows =
    -- file A's cheapest
    (file_a, schedule_of (2 ∷ 1 ∷ []) (1 ∷ 2 ∷ 1 ∷ [])) ⟶ (1 ∷ 2 ∷ 2 ∷ 1 ∷ 1 ∷ 0 ∷ [])
    -- three weeks from week 2 on
    ∷ (file_long, schedule_of (2 ∷ []) (1 ∷ 0 ∷ 0 ∷ 0 ∷ [])) ⟶ (1 ∷ 2 ∷ 2 ∷ 2 ∷ [])
    ∷ []

-- file A's cheapest drawn into lent bytes: any beyond kept; unchanged where they are too few
abbrev pub drawn_into_rows : List (Case (List ℕ) (List ℕ))
drawn_into_rows =
    (90 ∷ 91 ∷ 92 ∷ 93 ∷ 94 ∷ 95 ∷ 96 ∷ 97 ∷ []) ⟶ (1 ∷ 2 ∷ 2 ∷ 1 ∷ 1 ∷ 0 ∷ 96 ∷ 97 ∷ [])
    ∷ (90 ∷ 91 ∷ 92 ∷ 93 ∷ 94 ∷ []) ⟶ (90 ∷ 91 ∷ 92 ∷ 93 ∷ 94 ∷ [])
    ∷ []

-- the lent bytes afterwards
abbrev pub drawn_a : List ℕ → List ℕ
drawn_a bs = drawn_into (draw_verdict file_a (length bs)) (problem_of file_a) (schedule_of (2 ∷ 1 ∷ []) (1 ∷ 2 ∷ 1 ∷ [])) bs

-- ---- answers and conflicts as words

-- on file A: status, cost, two starts, three run numbers, two words of mark, and 0 for what is not there
abbrev pub block_rows : List (Case (List Answer) (List ℕ))
block_rows =
    (optimal 19 (2 ∷ 1 ∷ []) (1 ∷ 2 ∷ 1 ∷ []) ∷ []) ⟶ (1 ∷ 19 ∷ 2 ∷ 1 ∷ 1 ∷ 2 ∷ 1 ∷ 0 ∷ 0 ∷ [])
    ∷ (infeasible ∷ []) ⟶ (2 ∷ 0 ∷ 0 ∷ 0 ∷ 0 ∷ 0 ∷ 0 ∷ 0 ∷ 0 ∷ [])
    ∷ (incumbent 19 (2 ∷ 1 ∷ []) (1 ∷ 2 ∷ 1 ∷ []) (3 ∷ []) ∷ []) ⟶ (3 ∷ 19 ∷ 2 ∷ 1 ∷ 1 ∷ 2 ∷ 1 ∷ 3 ∷ 0 ∷ [])
    ∷ (unknown (3 ∷ 2 ∷ []) ∷ unknown (1 ∷ []) ∷ [])
    ⟶ (4 ∷ 0 ∷ 0 ∷ 0 ∷ 0 ∷ 0 ∷ 0 ∷ 3 ∷ 2 ∷ 4 ∷ 0 ∷ 0 ∷ 0 ∷ 0 ∷ 0 ∷ 0 ∷ 1 ∷ 0 ∷ [])
    ∷ []

-- a bound of 20 for unit 1 at start 1 with unit 2 at start 3, then a bound of 18 alone
abbrev pub nogood_rows : List (Case (List Nogood) (List ℕ))
nogood_rows =
    (record { bound = 20; choices = record { unit = 0; start = 1 } ∷ record { unit = 1; start = 3 } ∷ [] } ∷ record { bound = 18; choices = [] } ∷ [])
    ⟶ (13 ∶ 20 ∷ 14 ∶ 65 ∷ 14 ∶ 131 ∷ 13 ∶ 18 ∷ [])
    ∷ []

-- ---- printed lines, each with its line feed, as bytes

-- what is told, the words of the answers, the text
abbrev pub line_rows : List (Case (Planned × List ℕ) (List ℕ))
line_rows =
    -- "ask 1 best 19 starts 2 1 run 1 2 1 mark 3 0"
    (planned 1 2 3, 3 ∷ 19 ∷ 2 ∷ 1 ∷ 1 ∷ 2 ∷ 1 ∷ 3 ∷ 0 ∷ [])
    ⟶ (97 ∷ 115 ∷ 107 ∷ 32 ∷ 49 ∷ 32 ∷ 98 ∷ 101 ∷ 115 ∷ 116 ∷ 32 ∷ 49 ∷ 57 ∷ 32 ∷ 115 ∷ 116 ∷ 97 ∷ 114 ∷ 116 ∷ 115 ∷ 32 ∷ 50 ∷ 32 ∷ 49 ∷ 32 ∷ 114
    ∷ 117 ∷ 110 ∷ 32 ∷ 49 ∷ 32 ∷ 50 ∷ 32 ∷ 49 ∷ 32 ∷ 109 ∷ 97 ∷ 114 ∷ 107 ∷ 32 ∷ 51 ∷ 32 ∷ 48 ∷ 10 ∷ [])
    -- "ask 1 spent mark 3 0"
    ∷ (planned 1 2 3, 4 ∷ 0 ∷ 0 ∷ 0 ∷ 0 ∷ 0 ∷ 0 ∷ 3 ∷ 0 ∷ [])
    ⟶ (97 ∷ 115 ∷ 107 ∷ 32 ∷ 49 ∷ 32 ∷ 115 ∷ 112 ∷ 101 ∷ 110 ∷ 116 ∷ 32 ∷ 109 ∷ 97 ∷ 114 ∷ 107 ∷ 32 ∷ 51 ∷ 32 ∷ 48 ∷ 10 ∷ [])
    -- "ask 1 none" and "ask 2 plan 20870 starts 10 run 1005", of one unit and one week
    ∷ (planned 2 1 1, 2 ∷ 0 ∷ 0 ∷ 0 ∷ 0 ∷ 1 ∷ 20870 ∷ 10 ∷ 1005 ∷ 0 ∷ [])
    ⟶ (97 ∷ 115 ∷ 107 ∷ 32 ∷ 49 ∷ 32 ∷ 110 ∷ 111 ∷ 110 ∷ 101 ∷ 10 ∷ 97 ∷ 115 ∷ 107 ∷ 32 ∷ 50 ∷ 32 ∷ 112 ∷ 108 ∷ 97 ∷ 110 ∷ 32 ∷ 50 ∷ 48 ∷ 56 ∷ 55
    ∷ 48 ∷ 32 ∷ 115 ∷ 116 ∷ 97 ∷ 114 ∷ 116 ∷ 115 ∷ 32 ∷ 49 ∷ 48 ∷ 32 ∷ 114 ∷ 117 ∷ 110 ∷ 32 ∷ 49 ∷ 48 ∷ 48 ∷ 53 ∷ 10 ∷ [])
    -- "refused 2 57" and "refused 17 0", whatever the answers' words are
    ∷ (refused_plan 2 57, []) ⟶ (114 ∷ 101 ∷ 102 ∷ 117 ∷ 115 ∷ 101 ∷ 100 ∷ 32 ∷ 50 ∷ 32 ∷ 53 ∷ 55 ∷ 10 ∷ [])
    ∷ (refused_plan 17 0, 1 ∷ 19 ∷ []) ⟶ (114 ∷ 101 ∷ 102 ∷ 117 ∷ 115 ∷ 101 ∷ 100 ∷ 32 ∷ 49 ∷ 55 ∷ 32 ∷ 48 ∷ 10 ∷ [])
    ∷ []

-- the judge's: "sound 19", "rule 6", "refused 12 5"
abbrev pub judged_rows : List (Case Judgement (List ℕ))
judged_rows =
    sound_at 19 ⟶ (115 ∷ 111 ∷ 117 ∷ 110 ∷ 100 ∷ 32 ∷ 49 ∷ 57 ∷ 10 ∷ [])
    ∷ breaks 6 ⟶ (114 ∷ 117 ∷ 108 ∷ 101 ∷ 32 ∷ 54 ∷ 10 ∷ [])
    ∷ refused_grid 12 5 ⟶ (114 ∷ 101 ∷ 102 ∷ 117 ∷ 115 ∷ 101 ∷ 100 ∷ 32 ∷ 49 ∷ 50 ∷ 32 ∷ 53 ∷ 10 ∷ [])
    ∷ []

-- "refused 15 0"
abbrev pub refused_fifteen : List ℕ
refused_fifteen = 114 ∷ 101 ∷ 102 ∷ 117 ∷ 115 ∷ 101 ∷ 100 ∷ 32 ∷ 49 ∷ 53 ∷ 32 ∷ 48 ∷ 10 ∷ []

-- two bytes in three lent ones that were 9: the third is kept; not a changed third, not other bytes in front, not more than are lent
abbrev pub WrittenBytes : Type 0
WrittenBytes =
    Written (1 ∷ 2 ∷ []) (9 ∷ 9 ∷ 9 ∷ []) (1 ∷ 2 ∷ 9 ∷ []) 2
    × (Written (1 ∷ 2 ∷ []) (9 ∷ 9 ∷ 9 ∷ []) (1 ∷ 2 ∷ 8 ∷ []) 2 → ⊥)
    × (Written (1 ∷ 2 ∷ []) (9 ∷ 9 ∷ 9 ∷ []) (1 ∷ 3 ∷ 9 ∷ []) 2 → ⊥)
    × (Written (1 ∷ 2 ∷ []) (9 ∷ 9 ∷ []) (1 ∷ 2 ∷ []) 3 → ⊥)

-- the planning program on 15 units prints the refusal's line before what was lent, and no other text
abbrev pub PrintedRefusal : Type 0
PrintedRefusal = (rest : List ℕ)
    → PlanPrinted (bytes_of (alike 15) ++ ask_bytes) (refused_fifteen ++ rest) (refused_fifteen ++ rest) 13
    × ((text : List ℕ) (r : ℕ) → PlanPrinted (bytes_of (alike 15) ++ ask_bytes) (refused_fifteen ++ rest) text r → take r text ≡ refused_fifteen)

-- what is told by a verdict on file A and two asks
abbrev pub told_rows : List (Case Verdict Planned)
told_rows =
    accepted ⟶ planned 2 2 3
    ∷ refused 2 57 ⟶ refused_plan 2 57
    ∷ []

-- ---- the statement

-- all of them
abbrev pub Encodings : Type 0
Encodings =
    Each (λ b. words_to b.0 b.1) word_rows
    × Each (λ b. load_of b.0 b.1) figure_rows
    × Each (λ b. loaded_into (load_of b.0 (length b.1)) b.0 b.1) loaded_rows
    × Each file_end file_end_rows
    × Each (λ bs. (input_file bs, input_asks bs)) split_rows
    × Each (λ d. drawn (problem_of d.0) d.1) drawn_rows
    × Each drawn_a drawn_into_rows
    × Each (blocks_of (problem_of file_a)) block_rows
    × Each nogoods_words nogood_rows
    × Each (λ l. printed l.0 l.1) line_rows
    × Each judgement_text judged_rows
    × WrittenBytes × PrintedRefusal
    × Each (λ v. planned_by v (problem_of file_a) 2) told_rows
