-- Refusals of a file (1 to 7): each by a file that has its fault, and the order of tests by files that have two (document 01, "Who can be turned
-- away, and for what"), with the limits of all ranges. The rows are about the definitions, by number and place.
-- Assumes nothing.
use Rattle.std.specs.Prelude.{ℕ, List, [], ◌∷◌, ◌++◌, take, set, replicate}
use Rattle.model.specs.Words.{◌∶◌}
use Rattle.model.specs.Verdict.{Verdict, accepted, refused}
use Rattle.claims.specs.Files.{file_a, file_one}
use Rattle.claims.specs.Cases.{Case, ◌⟶◌, body_three}

-- file A with these words for its end word, which is at place 24
abbrev pub end_a : List ℕ → List ℕ
end_a ws = take 24 file_a ++ ws

-- file `body_three` with these words behind it, from place 19 on
abbrev pub end_three : List ℕ → List ℕ
end_three ws = body_three ++ ws

-- 1
abbrev pub kind_rows : List (Case (List ℕ) Verdict)
kind_rows =
    file_a ⟶ accepted
    -- another kind than the one due: its own place, in each section
    ∷ set file_a 0 (2 ∶ 3) ⟶ refused 1 0
    ∷ set file_a 1 (3 ∶ 2) ⟶ refused 1 1
    ∷ set file_a 2 (2 ∶ 1) ⟶ refused 1 2
    ∷ set file_a 5 (5 ∶ 10) ⟶ refused 1 5
    ∷ set file_a 6 (4 ∶ 10) ⟶ refused 1 6
    ∷ set file_a 10 (7 ∶ 1) ⟶ refused 1 10
    ∷ set file_a 11 (6 ∶ 67) ⟶ refused 1 11
    ∷ set file_a 17 (9 ∶ 6) ⟶ refused 1 17
    ∷ set file_a 18 (8 ∶ 3) ⟶ refused 1 18
    -- a pair or the end word before the costs are complete
    ∷ set file_a 23 (10 ∶ 34) ⟶ refused 1 23
    ∷ set file_a 3 (15 ∶ 3) ⟶ refused 1 3
    -- after the costs, neither an OFF cost nor a pair nor the end word
    ∷ set file_a 24 (9 ∶ 4) ⟶ refused 1 24
    ∷ set file_a 24 (14 ∶ 24) ⟶ refused 1 24
    -- the words stop before the end word: their number is the place
    ∷ [] ⟶ refused 1 0
    ∷ take 2 file_a ⟶ refused 1 2
    ∷ take 24 file_a ⟶ refused 1 24
    ∷ end_a (10 ∶ 34 ∷ []) ⟶ refused 1 25
    -- the kind is tested first: another kind with a value that would be 2, 3, 4 or 6
    ∷ set file_a 3 (5 ∶ 1000001) ⟶ refused 1 3
    ∷ set file_a 7 (5 ∶ 1000001) ⟶ refused 1 7
    ∷ set file_a 6 (6 ∶ 129) ⟶ refused 1 6
    ∷ set file_a 12 (10 ∶ 0) ⟶ refused 1 12
    ∷ set file_a 12 (15 ∶ 0) ⟶ refused 1 12
    ∷ []

-- 1, 2 and 6 where OFF costs may stand: six of them behind the running costs of file A, or none
abbrev pub off_rows : List (Case (List ℕ) Verdict)
off_rows =
    end_a (replicate 6 (0 ∶ 7) ++ (15 ∶ 30 ∷ [])) ⟶ accepted
    ∷ end_a (replicate 6 (0 ∶ 7) ++ (10 ∶ 34 ∷ 15 ∶ 31 ∷ [])) ⟶ accepted
    -- too few: the first word of another kind, or the number of words
    ∷ end_a (replicate 5 (0 ∶ 7) ++ (15 ∶ 29 ∷ [])) ⟶ refused 1 29
    ∷ end_a (replicate 5 (0 ∶ 7) ++ (10 ∶ 34 ∷ 15 ∶ 30 ∷ [])) ⟶ refused 1 29
    ∷ end_a (replicate 1 (0 ∶ 24)) ⟶ refused 1 25
    ∷ end_a (replicate 6 (0 ∶ 7)) ⟶ refused 1 30
    -- too many: the surplus word
    ∷ end_a (replicate 7 (0 ∶ 7) ++ (15 ∶ 31 ∷ [])) ⟶ refused 1 30
    ∷ end_a (replicate 12 (0 ∶ 7) ++ (15 ∶ 36 ∷ [])) ⟶ refused 1 30
    -- another kind among them
    ∷ set (end_a (replicate 6 (0 ∶ 7) ++ (15 ∶ 30 ∷ []))) 26 (9 ∶ 7) ⟶ refused 1 26
    -- in another section, and behind a pair
    ∷ set file_a 3 (0 ∶ 10) ⟶ refused 1 3
    ∷ set file_a 23 (0 ∶ 4) ⟶ refused 1 23
    ∷ end_a (10 ∶ 34 ∷ replicate 6 (0 ∶ 7) ++ (15 ∶ 31 ∷ [])) ⟶ refused 1 25
    -- 2: 0 to 250,000, the first and the last of them
    ∷ set (end_a (replicate 6 (0 ∶ 0) ++ (15 ∶ 30 ∷ []))) 29 (0 ∶ 250000) ⟶ accepted
    ∷ set (end_a (replicate 6 (0 ∶ 0) ++ (15 ∶ 30 ∷ []))) 29 (0 ∶ 250001) ⟶ refused 2 29
    ∷ set (end_a (replicate 6 (0 ∶ 0) ++ (15 ∶ 30 ∷ []))) 24 (0 ∶ 250001) ⟶ refused 2 24
    -- 6: the end word counts them
    ∷ end_a (replicate 6 (0 ∶ 7) ++ (15 ∶ 24 ∷ [])) ⟶ refused 6 30
    ∷ []

-- 2, with both ends of each range
abbrev pub range_rows : List (Case (List ℕ) Verdict)
range_rows =
    -- weeks 1 to 52: a file of one word ends after it
    (1 ∶ 0 ∷ []) ⟶ refused 2 0
    ∷ (1 ∶ 1 ∷ []) ⟶ refused 1 1
    ∷ (1 ∶ 52 ∷ []) ⟶ refused 1 1
    ∷ (1 ∶ 53 ∷ []) ⟶ refused 2 0
    -- units 1 to 16
    ∷ (1 ∶ 3 ∷ 2 ∶ 0 ∷ []) ⟶ refused 2 1
    ∷ (1 ∶ 3 ∷ 2 ∶ 1 ∷ []) ⟶ refused 1 2
    ∷ (1 ∶ 3 ∷ 2 ∶ 16 ∷ []) ⟶ refused 1 2
    ∷ (1 ∶ 3 ∷ 2 ∶ 17 ∷ []) ⟶ refused 2 1
    -- crews 1 to 16
    ∷ set file_a 2 (3 ∶ 0) ⟶ refused 2 2
    ∷ set file_a 2 (3 ∶ 16) ⟶ accepted
    ∷ set file_a 2 (3 ∶ 17) ⟶ refused 2 2
    -- demand 0 to 16,000,000
    ∷ set file_a 5 (4 ∶ 0) ⟶ accepted
    ∷ set file_a 5 (4 ∶ 16000000) ⟶ accepted
    ∷ set file_a 5 (4 ∶ 16000001) ⟶ refused 2 5
    -- capacity 0 to 1,000,000
    ∷ set file_a 9 (5 ∶ 0) ⟶ accepted
    ∷ set file_a 9 (5 ∶ 1000000) ⟶ accepted
    ∷ set file_a 9 (5 ∶ 1000001) ⟶ refused 2 9
    -- duration 1 to W
    ∷ set file_a 11 (7 ∶ 0) ⟶ refused 2 11
    ∷ set file_a 11 (7 ∶ 3) ⟶ accepted
    ∷ set file_a 11 (7 ∶ 4) ⟶ refused 2 11
    -- costs 0 to 250,000
    ∷ set file_a 17 (8 ∶ 0) ⟶ accepted
    ∷ set file_a 17 (8 ∶ 250000) ⟶ accepted
    ∷ set file_a 17 (8 ∶ 250001) ⟶ refused 2 17
    ∷ set file_a 23 (9 ∶ 0) ⟶ accepted
    ∷ set file_a 23 (9 ∶ 250000) ⟶ accepted
    ∷ set file_a 23 (9 ∶ 250001) ⟶ refused 2 23
    ∷ []

-- 2 and 3: a window, earliest × 64 + latest, each 1 to W
abbrev pub window_rows : List (Case (List ℕ) Verdict)
window_rows =
    -- windows 1 to 1, 3 to 3
    set file_a 10 (6 ∶ 65) ⟶ accepted
    ∷ set file_a 10 (6 ∶ 195) ⟶ accepted
    -- 3: 2 to 1, 3 to 2
    ∷ set file_a 10 (6 ∶ 129) ⟶ refused 3 10
    ∷ set file_a 10 (6 ∶ 194) ⟶ refused 3 10
    -- 2: earliest 0, latest 4
    ∷ set file_a 10 (6 ∶ 3) ⟶ refused 2 10
    ∷ set file_a 10 (6 ∶ 68) ⟶ refused 2 10
    -- 2 and 3 at once, 2 is given: 1 to 0, 4 to 1; 0 to 0 is 2 alone
    ∷ set file_a 10 (6 ∶ 64) ⟶ refused 2 10
    ∷ set file_a 10 (6 ∶ 257) ⟶ refused 2 10
    ∷ set file_a 10 (6 ∶ 0) ⟶ refused 2 10
    -- the earlier word decides: 3 at place 7 and 2 at place 10, and the other way round
    ∷ set (set file_a 10 (6 ∶ 257)) 7 (6 ∶ 129) ⟶ refused 3 7
    ∷ set (set file_a 10 (6 ∶ 129)) 7 (6 ∶ 257) ⟶ refused 2 7
    ∷ []

-- 4: pairs a × 32 + b
abbrev pub pair_rows : List (Case (List ℕ) Verdict)
pair_rows =
    -- units 1 and 2
    end_a (10 ∶ 34 ∷ 15 ∶ 25 ∷ []) ⟶ accepted
    -- no pair of units: 0 and 2, 1 and 1, 2 and 1, 1 and 3
    ∷ end_a (10 ∶ 2 ∷ 15 ∶ 25 ∷ []) ⟶ refused 4 24
    ∷ end_a (10 ∶ 33 ∷ 15 ∶ 25 ∷ []) ⟶ refused 4 24
    ∷ end_a (10 ∶ 65 ∷ 15 ∶ 25 ∷ []) ⟶ refused 4 24
    ∷ end_a (10 ∶ 35 ∷ 15 ∶ 25 ∷ []) ⟶ refused 4 24
    -- a pair has no range, so no value is 2
    ∷ end_a (10 ∶ 0 ∷ 15 ∶ 25 ∷ []) ⟶ refused 4 24
    ∷ end_a (10 ∶ 268435455 ∷ 15 ∶ 25 ∷ []) ⟶ refused 4 24
    -- with one unit a pair may stand, and none is right
    ∷ (take 9 (file_one 0) ++ (10 ∶ 34 ∷ 15 ∶ 10 ∷ [])) ⟶ refused 4 9
    -- rising: 1 2, 1 3, 2 3; the first is compared with nothing, though the cost before it is 100
    ∷ end_three (10 ∶ 34 ∷ 10 ∶ 35 ∷ 10 ∶ 67 ∷ 15 ∶ 22 ∷ []) ⟶ accepted
    -- not rising: the same again, a lower one
    ∷ end_three (10 ∶ 34 ∷ 10 ∶ 34 ∷ 15 ∶ 21 ∷ []) ⟶ refused 4 20
    ∷ end_three (10 ∶ 34 ∷ 10 ∶ 67 ∷ 10 ∶ 35 ∷ 15 ∶ 22 ∷ []) ⟶ refused 4 21
    ∷ []

-- 5, after 4: pairs of 16 units begin at place 84, so the 121st is at place 204. No file has it, since 120 pairs that rise are all there are; so the rows
-- are about one word at its place, after a pair of value 34
abbrev pub fifth_rows : List (Case (ℕ × ℕ) ℕ)
fifth_rows =
    (203, 35) ⟶ 0
    ∷ (204, 35) ⟶ 5
    -- 4 and 5
    ∷ (204, 34) ⟶ 4
    ∷ (204, 33) ⟶ 4
    ∷ []

-- 6 and 7
abbrev pub end_rows : List (Case (List ℕ) Verdict)
end_rows =
    -- 6: not the number of words before it
    end_a (15 ∶ 23 ∷ []) ⟶ refused 6 24
    ∷ end_a (15 ∶ 25 ∷ []) ⟶ refused 6 24
    ∷ end_a (15 ∶ 268435455 ∷ []) ⟶ refused 6 24
    ∷ end_a (10 ∶ 34 ∷ 15 ∶ 24 ∷ []) ⟶ refused 6 25
    -- 7: words behind the end word, at the place of the first, a second end word too
    ∷ end_a (15 ∶ 24 ∷ 0 ∷ 0 ∷ []) ⟶ refused 7 25
    ∷ end_a (15 ∶ 24 ∷ 15 ∶ 25 ∷ []) ⟶ refused 7 25
    -- 6 and 7
    ∷ end_a (15 ∶ 23 ∷ 0 ∷ []) ⟶ refused 6 24
    -- 4 and 6, 4 and 7, word by word
    ∷ end_a (10 ∶ 33 ∷ 15 ∶ 24 ∷ []) ⟶ refused 4 24
    ∷ end_a (10 ∶ 33 ∷ 15 ∶ 25 ∷ 0 ∷ []) ⟶ refused 4 24
    ∷ []
