-- Answers as plain numbers, case by case, for callers that have no enums.
-- Assumes nothing.
use Rattle.std.specs.Prelude.{ℕ, ◌+◌, ◌*◌}
use Rattle.model.specs.Verdict.{Verdict, accepted, refused, Figure, gives, refused_figure}
use Rattle.model.specs.Judgement.{Judgement, sound_at, breaks, refused_grid}
use Rattle.quotes.specs.Quotes.{Quoted, none, quoted, refused_quote}

-- the refusal's number, 0 where the input is accepted
unfoldable pub refused_by : Verdict → ℕ
refused_by accepted = 0
refused_by (refused number place) = number

-- the refusal's place, 0 where the input is accepted
unfoldable pub refused_at : Verdict → ℕ
refused_at accepted = 0
refused_at (refused number place) = place

-- the refusal's number, 0 where a number is given
unfoldable pub figure_refused_by : Figure → ℕ
figure_refused_by (gives n) = 0
figure_refused_by (refused_figure number place) = number

-- the number given, 0 where the call is refused
unfoldable pub given : Figure → ℕ
given (gives n) = n
given (refused_figure number place) = 0

-- the cost of a sound grid; 2 ^ 32 and the number of the formula broken; 2 ^ 33 and the refusal's number
unfoldable pub judged_code : Judgement → ℕ
judged_code (sound_at cost) = cost
judged_code (breaks number) = 4294967296 + number
judged_code (refused_grid number place) = 8589934592 + number

-- the refusal's place, 0 where the grid is judged
unfoldable pub judged_place : Judgement → ℕ
judged_place (sound_at cost) = 0
judged_place (breaks number) = 0
judged_place (refused_grid number place) = place

-- the cost times 2 ^ 32 and the number; 2 ^ 62 where there is none; 2 ^ 63 and the refusal's number
unfoldable pub quoted_code : Quoted → ℕ
quoted_code none = 4611686018427387904
quoted_code (quoted number cost) = cost * 4294967296 + number
quoted_code (refused_quote number place) = 9223372036854775808 + number
