-- Each refusal by an input that has its fault, and the order of tests by inputs that have two (document 01, "Who can be turned away, and for
-- what"), with the limits of all sizes; those of a file are in `FileRefusals`. The rows are about the definitions, by number and place.
-- Assumes nothing.
use Rattle.std.specs.Prelude.{ℕ, ◌%◌, ◌≤◌, ◌<◌, ◌≡◌, length, take, drop, set, replicate}
use mathlib.Core.List.{List, [], ◌∷◌, ◌++◌, flatten}
use Rattle.model.specs.Words.{◌∶◌, layout_for, problem_of}
use Rattle.model.specs.Verdict.{Verdict, accepted, refused, Figure, gives, refused_figure, and_then}
use Rattle.model.specs.Bytes.{bytes_verdict, file_end}
use Rattle.model.specs.Reading.{pair_fault, read_of}
use Rattle.model.specs.Refusal.{asks_verdict, memory_verdict, run_verdict}
use Rattle.model.specs.Prefix.{space_bound}
use Rattle.model.specs.Sizing.{sizing_of}
use Rattle.model.specs.Drawing.{draw_verdict}
use Rattle.model.specs.Judgement.{Judgement, sound_at, breaks, refused_grid, judge_of, judge_bytes, judge_input}
use Rattle.model.specs.Asks.{Ran}
use Rattle.model.specs.Program.{input_file, input_asks, units_verdict, program_verdict}
use Rattle.claims.specs.Files.{file_a, file_gap, file_warm}
use Rattle.claims.specs.Cases.{Case, ◌⟶◌, Each, bytes_a, ask_pair, ask_bytes, alike, bytes_of}
use Rattle.claims.specs.FileRefusals.{end_a, kind_rows, off_rows, range_rows, window_rows, pair_rows, fifth_rows, end_rows}

-- ---- asks (8 to 10)

-- so many asks, each with ceiling 100 and budget 12
abbrev pub many_asks : ℕ → List ℕ
many_asks n = flatten (replicate n (11 ∶ 100 ∷ 12 ∶ 12 ∷ []))

-- places are those of the asks' own list
abbrev pub ask_rows : List (Case (List ℕ) Verdict)
ask_rows =
    ask_pair ⟶ accepted
    -- any ceiling, and a budget from 1 on
    ∷ (11 ∶ 0 ∷ 12 ∶ 1 ∷ []) ⟶ accepted
    ∷ (11 ∶ 268435455 ∷ 12 ∶ 268435455 ∷ []) ⟶ accepted
    -- 8: no words, an odd number, more than 64
    ∷ [] ⟶ refused 8 0
    ∷ (11 ∶ 100 ∷ []) ⟶ refused 8 0
    ∷ (11 ∶ 100 ∷ 12 ∶ 12 ∷ 11 ∶ 18 ∷ []) ⟶ refused 8 0
    ∷ many_asks 32 ⟶ accepted
    ∷ many_asks 33 ⟶ refused 8 0
    -- 9: not 11 and 12 in turn
    ∷ (12 ∶ 100 ∷ 12 ∶ 12 ∷ []) ⟶ refused 9 0
    ∷ (11 ∶ 100 ∷ 11 ∶ 12 ∷ []) ⟶ refused 9 1
    ∷ (11 ∶ 100 ∷ 12 ∶ 12 ∷ 15 ∶ 18 ∷ 12 ∶ 1 ∷ []) ⟶ refused 9 2
    -- 10: no try
    ∷ (11 ∶ 100 ∷ 12 ∶ 0 ∷ []) ⟶ refused 10 1
    ∷ (11 ∶ 100 ∷ 12 ∶ 12 ∷ 11 ∶ 18 ∷ 12 ∶ 0 ∷ []) ⟶ refused 10 3
    -- 8 and 9, 8 and 10
    ∷ (12 ∶ 100 ∷ []) ⟶ refused 8 0
    ∷ (11 ∶ 100 ∷ 12 ∶ 0 ∷ 11 ∶ 18 ∷ []) ⟶ refused 8 0
    -- 9 and 10 in one word, and in two, where the earlier decides
    ∷ (11 ∶ 100 ∷ 11 ∶ 0 ∷ []) ⟶ refused 9 1
    ∷ (11 ∶ 100 ∷ 12 ∶ 0 ∷ 12 ∶ 18 ∷ 12 ∶ 1 ∷ []) ⟶ refused 10 1
    ∷ (11 ∶ 100 ∷ 12 ∶ 12 ∷ 12 ∶ 18 ∷ 12 ∶ 0 ∷ []) ⟶ refused 9 2
    ∷ []

-- ---- lent memory (13 to 15): the numbers of words of table, answers and scratch

-- the verdict on what is lent for so many asks on a file
abbrev pub lent_for : (file : List ℕ) (asks : ℕ) → ℕ × ℕ × ℕ → Verdict
lent_for file asks lent = memory_verdict (problem_of file) asks lent.0 lent.1 lent.2

-- two asks on file A: blocks of 2 + 2 × 2 + 3 words, 2 ^ 2 words of scratch
abbrev pub memory_rows : List (Case (ℕ × ℕ × ℕ) Verdict)
memory_rows =
    (64, 18, 4) ⟶ accepted
    -- 13: the table, on both sides of both limits
    ∷ (63, 18, 4) ⟶ refused 13 0
    ∷ (16384, 18, 4) ⟶ accepted
    ∷ (16385, 18, 4) ⟶ refused 13 0
    -- 14: the answers, one word short; one too many is no fault
    ∷ (64, 17, 4) ⟶ refused 14 0
    ∷ (64, 19, 4) ⟶ accepted
    -- 15: the scratch, likewise
    ∷ (64, 18, 3) ⟶ refused 15 0
    ∷ (64, 18, 5) ⟶ accepted
    -- the smaller number of two: 13 and 14, 14 and 15, 13 and 15
    ∷ (63, 17, 4) ⟶ refused 13 0
    ∷ (64, 17, 3) ⟶ refused 14 0
    ∷ (16385, 18, 3) ⟶ refused 13 0
    ∷ []

-- 32 asks, 52 weeks, 16 units: blocks of 86 words
abbrev pub large_rows : List (Case (ℕ × ℕ × ℕ) Verdict)
large_rows =
    (64, 2752, 65536) ⟶ accepted
    ∷ (64, 2751, 65536) ⟶ refused 14 0
    ∷ (64, 2752, 65535) ⟶ refused 15 0
    ∷ []

-- ---- a run: file, asks, lent memory in turn

-- a file, asks, and the numbers of words of table, answers and scratch
abbrev pub run_rows : List (Case (List ℕ × List ℕ × ℕ × ℕ × ℕ) Verdict)
run_rows =
    (file_a, ask_pair, 64, 18, 4) ⟶ accepted
    -- file and asks, file and memory, asks and memory, all
    ∷ (take 24 file_a, [], 64, 18, 4) ⟶ refused 1 24
    ∷ (end_a (15 ∶ 24 ∷ 0 ∷ []), ask_pair, 63, 18, 4) ⟶ refused 7 25
    ∷ (file_a, [], 63, 18, 4) ⟶ refused 8 0
    ∷ (file_a, 11 ∶ 100 ∷ 12 ∶ 0 ∷ [], 64, 0, 0) ⟶ refused 10 1
    ∷ (set file_a 0 (1 ∶ 53), [], 0, 0, 0) ⟶ refused 2 0
    -- memory for as many asks as the list has
    ∷ (file_a, ask_pair, 64, 17, 4) ⟶ refused 14 0
    ∷ (file_a, many_asks 32, 64, 288, 4) ⟶ accepted
    ∷ (file_a, many_asks 32, 64, 287, 4) ⟶ refused 14 0
    ∷ (file_a, ask_pair, 64, 18, 3) ⟶ refused 15 0
    ∷ []

-- ---- a grid (11, 12), then formulas (1) to (8): a file and a grid, week by week

-- the grid's length and cells
abbrev pub grid_rows : List (Case (List ℕ × List ℕ) Judgement)
grid_rows =
    (file_a, 1 ∷ 2 ∷ 2 ∷ 1 ∷ 1 ∷ 0 ∷ []) ⟶ sound_at 19
    -- 11: a byte short, a byte too many
    ∷ (file_a, 1 ∷ 2 ∷ 2 ∷ 1 ∷ 1 ∷ []) ⟶ refused_grid 11 0
    ∷ (file_a, 1 ∷ 2 ∷ 2 ∷ 1 ∷ 1 ∷ 0 ∷ 0 ∷ []) ⟶ refused_grid 11 0
    -- 12: the place of the cell, of the first of two
    ∷ (file_a, 1 ∷ 2 ∷ 2 ∷ 1 ∷ 1 ∷ 3 ∷ []) ⟶ refused_grid 12 5
    ∷ (file_a, 1 ∷ 3 ∷ 2 ∷ 1 ∷ 255 ∷ 0 ∷ []) ⟶ refused_grid 12 1
    -- 11 and 12; 12 and a formula
    ∷ (file_a, 3 ∷ 2 ∷ 2 ∷ 1 ∷ 1 ∷ []) ⟶ refused_grid 11 0
    ∷ (file_a, 0 ∷ 0 ∷ 0 ∷ 0 ∷ 0 ∷ 3 ∷ []) ⟶ refused_grid 12 5
    -- the file before the grid
    ∷ (take 24 file_a, []) ⟶ refused_grid 1 24
    ∷ (end_a (15 ∶ 23 ∷ []), 1 ∷ 2 ∷ 2 ∷ 1 ∷ 1 ∷ 3 ∷ []) ⟶ refused_grid 6 24
    ∷ []

-- each formula broken, and the smallest where it is not alone
abbrev pub formula_rows : List (Case (List ℕ × List ℕ) Judgement)
formula_rows =
    -- (1) the last week all OFF, and all weeks, where (6) is broken too
    (file_a, 1 ∷ 2 ∷ 2 ∷ 1 ∷ 0 ∷ 0 ∷ []) ⟶ breaks 1
    ∷ (file_a, 0 ∷ 0 ∷ 0 ∷ 0 ∷ 0 ∷ 0 ∷ []) ⟶ breaks 1
    -- (2) unit 1 in MAINT in week 1, its window 2 to 3
    ∷ (set file_a 7 (6 ∶ 131), 2 ∷ 1 ∷ 1 ∷ 2 ∷ 1 ∷ 0 ∷ []) ⟶ breaks 2
    -- (3) unit 1 in MAINT in week 2, its window 1 to 1
    ∷ (set file_a 7 (6 ∶ 65), 1 ∷ 2 ∷ 2 ∷ 1 ∷ 1 ∷ 0 ∷ []) ⟶ breaks 3
    -- (4) and (5): weeks 1 and 3 for a duration of 1
    ∷ (file_a, 2 ∷ 1 ∷ 1 ∷ 2 ∷ 2 ∷ 1 ∷ []) ⟶ breaks 4
    -- (5) two weeks for a duration of 1; one week for a duration of 2, also where the season cuts it off
    ∷ (file_a, 1 ∷ 2 ∷ 2 ∷ 1 ∷ 2 ∷ 1 ∷ []) ⟶ breaks 5
    ∷ (file_gap, 2 ∷ 0 ∷ 0 ∷ []) ⟶ breaks 5
    ∷ (file_gap, 0 ∷ 0 ∷ 2 ∷ []) ⟶ breaks 5
    -- (6) nobody in MAINT
    ∷ (file_a, 1 ∷ 1 ∷ 1 ∷ 1 ∷ 1 ∷ 1 ∷ []) ⟶ breaks 6
    -- (7) both in MAINT in week 1, without demand there, one crew
    ∷ (set file_a 3 (4 ∶ 0), 2 ∷ 2 ∷ 1 ∷ 0 ∷ 1 ∷ 0 ∷ []) ⟶ breaks 7
    -- (8) the same with two crews, and units 1 and 2 an excluded pair; sound without the pair
    ∷ (set (set (end_a (10 ∶ 34 ∷ 15 ∶ 25 ∷ [])) 3 (4 ∶ 0)) 2 (3 ∶ 2), 2 ∷ 2 ∷ 1 ∷ 0 ∷ 1 ∷ 0 ∷ []) ⟶ breaks 8
    ∷ (set (set file_a 3 (4 ∶ 0)) 2 (3 ∶ 2), 2 ∷ 2 ∷ 1 ∷ 0 ∷ 1 ∷ 0 ∷ []) ⟶ sound_at 16
    ∷ []

-- (9) with OFF costs: no cell OFF; unit 2 OFF in week 3, unit 1 there, unit 2 in week 2; both in week 3, where the demand is not met
abbrev pub warm_grid_rows : List (Case (List ℕ × List ℕ) Judgement)
warm_grid_rows =
    (file_warm, 1 ∷ 2 ∷ 2 ∷ 1 ∷ 1 ∷ 1 ∷ []) ⟶ sound_at 23
    ∷ (file_warm, 1 ∷ 2 ∷ 2 ∷ 1 ∷ 1 ∷ 0 ∷ []) ⟶ sound_at 29
    ∷ (file_warm, 1 ∷ 2 ∷ 2 ∷ 1 ∷ 0 ∷ 1 ∷ []) ⟶ sound_at 25
    ∷ (file_warm, 1 ∷ 2 ∷ 1 ∷ 0 ∷ 2 ∷ 1 ∷ []) ⟶ sound_at 25
    ∷ (file_warm, 1 ∷ 2 ∷ 2 ∷ 1 ∷ 0 ∷ 0 ∷ []) ⟶ breaks 1
    ∷ []

-- ---- words and bytes lent for a list (16, 17)

-- so many bytes into so many words
abbrev pub bytes_rows : List (Case (ℕ × ℕ) Verdict)
bytes_rows =
    (100, 25) ⟶ accepted
    ∷ (100, 26) ⟶ accepted
    ∷ (0, 0) ⟶ accepted
    -- 16: one, two or three bytes over
    ∷ (101, 26) ⟶ refused 16 0
    ∷ (102, 26) ⟶ refused 16 0
    ∷ (103, 26) ⟶ refused 16 0
    -- 17, and both: 16 is given
    ∷ (100, 24) ⟶ refused 17 0
    ∷ (101, 24) ⟶ refused 16 0
    ∷ []

-- a grid drawn into so many bytes
abbrev pub draw_rows : List (Case (List ℕ × ℕ) Verdict)
draw_rows =
    (file_a, 6) ⟶ accepted
    ∷ (file_a, 7) ⟶ accepted
    ∷ (file_a, 5) ⟶ refused 17 0
    -- the file first
    ∷ (set file_a 10 (6 ∶ 129), 5) ⟶ refused 3 10
    ∷ []

-- ---- a program's input

-- the planning program's
abbrev pub input_rows : List (Case (List ℕ) Verdict)
input_rows =
    (bytes_a ++ ask_bytes) ⟶ accepted
    -- 16 before the file and the asks
    ∷ (bytes_a ++ ask_bytes ++ (0 ∷ [])) ⟶ refused 16 0
    ∷ (0 ∷ []) ⟶ refused 16 0
    -- without a word of kind 15 all is file, and it ends too early
    ∷ [] ⟶ refused 1 0
    ∷ take 96 bytes_a ⟶ refused 1 24
    -- a file that is cut at a misplaced word of kind 15, or at one with a wrong value
    ∷ ((3 ∷ 0 ∷ 0 ∷ 240 ∷ []) ++ bytes_a) ⟶ refused 1 0
    ∷ (set bytes_a 96 23 ++ ask_bytes) ⟶ refused 6 24
    -- no asks, then a fault at its place in the asks' own list
    ∷ bytes_a ⟶ refused 8 0
    ∷ (bytes_a ++ set ask_bytes 11 192) ⟶ refused 9 2
    ∷ (bytes_a ++ set ask_bytes 12 0) ⟶ refused 10 3
    -- 14 units are served; 15 are not, which is tested after the asks
    ∷ (bytes_of (alike 14) ++ ask_bytes) ⟶ accepted
    ∷ (bytes_of (alike 15) ++ ask_bytes) ⟶ refused 15 0
    ∷ bytes_of (alike 15) ⟶ refused 8 0
    ∷ []

-- the judge's: a file's bytes, then a grid's
abbrev pub judge_rows : List (Case (List ℕ) Judgement)
judge_rows =
    (bytes_a ++ (1 ∷ 2 ∷ 2 ∷ 1 ∷ 1 ∷ 0 ∷ [])) ⟶ sound_at 19
    ∷ (bytes_a ++ (1 ∷ 1 ∷ 1 ∷ 1 ∷ 1 ∷ 1 ∷ [])) ⟶ breaks 6
    ∷ bytes_a ⟶ refused_grid 11 0
    ∷ (bytes_a ++ (1 ∷ 2 ∷ 2 ∷ 1 ∷ 3 ∷ 0 ∷ [])) ⟶ refused_grid 12 4
    -- 16 where the file has no end word, though a whole word of it is wrong too
    ∷ take 99 bytes_a ⟶ refused_grid 16 0
    ∷ (0 ∷ 0 ∷ 0 ∷ 0 ∷ 0 ∷ []) ⟶ refused_grid 16 0
    ∷ take 96 bytes_a ⟶ refused_grid 1 24
    ∷ []

-- an input of more than 32,768 bytes is 17 whatever the bytes, also where their number would be 16
abbrev pub LongInput : Type 0
LongInput = (bs : List ℕ) → 32768 < length bs → (program_verdict bs ≡ refused 17 0) × (judge_input bs ≡ refused_grid 17 0)

-- 32,768 are read, and tested as a file and what follows it
abbrev pub ReadInput : Type 0
ReadInput = (bs : List ℕ) → length bs ≤ 32768 → length bs % 4 ≡ 0
    → (program_verdict bs ≡ and_then (read_of (input_file bs)) (and_then (asks_verdict (input_asks bs)) (units_verdict (problem_of (input_file bs)))))
    × (judge_input bs ≡ judge_bytes (take (file_end bs) bs) (drop (file_end bs) bs))

-- ---- the sizing figure

-- by weeks and units: the most, just above the limit, just below it, one week, one unit
abbrev pub size_rows : List (Case (ℕ × ℕ) ℕ)
size_rows =
    (52, 16) ⟶ 268435455
    ∷ (49, 5) ⟶ 268435455
    ∷ (48, 5) ⟶ 260225328
    ∷ (1, 16) ⟶ 16
    ∷ (52, 1) ⟶ 52
    ∷ []

-- the figure of an accepted file, or the file's refusal
abbrev pub sizing_rows : List (Case (List ℕ) Figure)
sizing_rows =
    file_a ⟶ gives 12
    ∷ set file_a 10 (6 ∶ 129) ⟶ refused_figure 3 10
    ∷ []

-- ---- a refused run: every lent word as it was, and no other verdict

-- without asks on file A, a word 7 lent as table, answers and scratch each: the verdict told, and the words left
abbrev pub NoAsksRun : Verdict → (answers table scratch : ℕ) → Type 0
NoAsksRun v a t s = Ran v file_a [] (7 ∷ []) (7 ∷ []) (7 ∷ []) (a ∷ []) (t ∷ []) (s ∷ [])

-- it is refused as 8 with all words kept, and nothing else is right
abbrev pub RefusedRun : Type 0
RefusedRun =
    NoAsksRun (refused 8 0) 7 7 7
    -- a changed word
    × (NoAsksRun (refused 8 0) 8 7 7 → ⊥)
    × (NoAsksRun (refused 8 0) 7 8 7 → ⊥)
    × (NoAsksRun (refused 8 0) 7 7 8 → ⊥)
    -- another number, another place, or no refusal
    × (NoAsksRun (refused 13 0) 7 7 7 → ⊥)
    × (NoAsksRun (refused 8 1) 7 7 7 → ⊥)
    × (NoAsksRun accepted 7 7 7 → ⊥)

-- the worked run's file and asks with enough lent: no refusal is right
abbrev pub NoCause : Type 0
NoCause = (number place : ℕ) (answers₀ table₀ scratch₀ answers table scratch : List ℕ)
    → length answers₀ ≡ 18 → length table₀ ≡ 64 → length scratch₀ ≡ 4
    → Ran (refused number place) file_a ask_pair answers₀ table₀ scratch₀ answers table scratch → ⊥

-- ---- the statement

-- all of them
abbrev pub Refusals : Type 0
Refusals =
    Each read_of kind_rows × Each read_of off_rows × Each read_of range_rows × Each read_of window_rows × Each read_of pair_rows × Each read_of end_rows
    × Each (λ w. pair_fault (layout_for 1 16 0) w.0 34 w.1) fifth_rows
    × Each asks_verdict ask_rows
    × Each (lent_for file_a 2) memory_rows
    × Each (lent_for (1 ∶ 52 ∷ 2 ∶ 16 ∷ []) 32) large_rows
    × Each (λ r. run_verdict r.0 r.1 r.2 r.3 r.4) run_rows
    × Each (λ j. judge_of j.0 j.1) grid_rows × Each (λ j. judge_of j.0 j.1) formula_rows × Each (λ j. judge_of j.0 j.1) warm_grid_rows
    × Each (λ b. bytes_verdict b.0 b.1) bytes_rows
    × Each (λ d. draw_verdict d.0 d.1) draw_rows
    × Each program_verdict input_rows × Each judge_input judge_rows
    × LongInput × ReadInput
    × Each (λ s. space_bound (problem_of (1 ∶ s.0 ∷ 2 ∶ s.1 ∷ []))) size_rows × Each sizing_of sizing_rows
    × RefusedRun × NoCause
