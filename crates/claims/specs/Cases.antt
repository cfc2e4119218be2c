-- Rows that say what is due from a definition for an input, and the inputs that several of them share.
-- Assumes nothing.
use Rattle.std.specs.Prelude.{ℕ, ◌+◌, ◌*◌, ◌/◌, ◌%◌, ◌≡◌, replicate}
use mathlib.Core.List.{List, [], ◌∷◌, ◌++◌, flatten}
use Rattle.model.specs.Words.{◌∶◌}

-- what is given to a definition, and what is due from it
pub record Case (A B : Type 0) : Type 0 where
  pub given : A
  pub due : B

infix 68 ◌⟶◌
-- as a row is written
abbrev pub ◌⟶◌ : {A B : Type 0} → A → B → Case A B
a ⟶ b = record { given = a; due = b }

-- the definition gives what is due, in each row
abbrev pub Each : {A B : Type 0} → (A → B) → List (Case A B) → Type 0
Each f [] = Unit {0}
Each f (c ∷ cs) = (f c.given ≡ c.due) × Each f cs

-- ---- inputs

-- the 100 bytes of file A, lowest byte of each word first
abbrev pub bytes_a : List ℕ
bytes_a =
    3 ∷ 0 ∷ 0 ∷ 16 ∷ 2 ∷ 0 ∷ 0 ∷ 32 ∷ 1 ∷ 0 ∷ 0 ∷ 48
    ∷ 10 ∷ 0 ∷ 0 ∷ 64 ∷ 10 ∷ 0 ∷ 0 ∷ 64 ∷ 10 ∷ 0 ∷ 0 ∷ 64
    ∷ 10 ∷ 0 ∷ 0 ∷ 80 ∷ 67 ∷ 0 ∷ 0 ∷ 96 ∷ 1 ∷ 0 ∷ 0 ∷ 112 ∷ 15 ∷ 0 ∷ 0 ∷ 80 ∷ 67 ∷ 0 ∷ 0 ∷ 96 ∷ 1 ∷ 0 ∷ 0 ∷ 112
    ∷ 5 ∷ 0 ∷ 0 ∷ 128 ∷ 5 ∷ 0 ∷ 0 ∷ 128 ∷ 4 ∷ 0 ∷ 0 ∷ 128 ∷ 7 ∷ 0 ∷ 0 ∷ 128 ∷ 6 ∷ 0 ∷ 0 ∷ 128 ∷ 6 ∷ 0 ∷ 0 ∷ 128
    ∷ 3 ∷ 0 ∷ 0 ∷ 144 ∷ 4 ∷ 0 ∷ 0 ∷ 144 ∷ 3 ∷ 0 ∷ 0 ∷ 144 ∷ 4 ∷ 0 ∷ 0 ∷ 144 ∷ 3 ∷ 0 ∷ 0 ∷ 144 ∷ 4 ∷ 0 ∷ 0 ∷ 144
    ∷ 24 ∷ 0 ∷ 0 ∷ 240 ∷ []

-- two asks, those of the worked run
abbrev pub ask_pair : List ℕ
ask_pair = 11 ∶ 100 ∷ 12 ∶ 12 ∷ 11 ∶ 18 ∷ 12 ∶ 1 ∷ []

-- their bytes
abbrev pub ask_bytes : List ℕ
ask_bytes = 100 ∷ 0 ∷ 0 ∷ 176 ∷ 12 ∷ 0 ∷ 0 ∷ 192 ∷ 18 ∷ 0 ∷ 0 ∷ 176 ∷ 1 ∷ 0 ∷ 0 ∷ 192 ∷ []

-- one week, three units, without pairs and end word: 19 words
abbrev pub body_three : List ℕ
body_three =
    1 ∶ 1 ∷ 2 ∶ 3 ∷ 3 ∶ 1 ∷ 4 ∶ 0 ∷ 5 ∶ 9 ∷ 6 ∶ 65 ∷ 7 ∶ 1 ∷ 5 ∶ 9 ∷ 6 ∶ 65 ∷ 7 ∶ 1 ∷ 5 ∶ 9 ∷ 6 ∶ 65 ∷ 7 ∶ 1
    ∷ 8 ∶ 0 ∷ 8 ∶ 0 ∷ 8 ∶ 0 ∷ 9 ∶ 0 ∷ 9 ∶ 0 ∷ 9 ∶ 100 ∷ []

-- one week and so many units, all alike
abbrev pub alike : ℕ → List ℕ
alike units =
    (1 ∶ 1 ∷ 2 ∶ units ∷ 3 ∶ 1 ∷ 4 ∶ 0 ∷ [])
    ++ flatten (replicate units (5 ∶ 9 ∷ 6 ∶ 65 ∷ 7 ∶ 1 ∷ []))
    ++ replicate units (8 ∶ 0)
    ++ replicate units (9 ∶ 0)
    ++ (15 ∶ (4 + 5 * units) ∷ [])

-- words as bytes
unfoldable pub bytes_of : List ℕ → List ℕ
bytes_of [] = []
bytes_of (w ∷ ws) = w % 256 ∷ w / 256 % 256 ∷ w / 65536 % 256 ∷ w / 16777216 ∷ bytes_of ws
