-- A table emptied, a dead end noted word by word or left out, and the end of a walk noted: each law as a loop or a return of the code has it.
-- Assumes nothing.
use Prim.Native.Nat.{ℕ, ◌+◌, ◌*◌, ◌-◌, ◌≤◌, ◌<◌}
use mathlib.Core.Path.{◌≡◌, refl, sym, ◌∙◌, ap}
use mathlib.Core.Bool.{Bool, true, false, ◌&&◌}
use mathlib.Core.List.{List, [], ◌∷◌, ◌++◌}
use native.Mathlib.Numerals.{add-one}
use native.Mathlib.Omega.{arith}
use lib.ListN.{length, set, length-append, length-set}
use lib.Dec.{leb}
use borrow.Author.Tests.{leb-true, le-leb, eq-eqb, ne_eqb}
use Rattle.std.proofs.Common.{count_by}
use Rattle.std.specs.List.{range_with_len}
use Rattle.sums.specs.NumSet.{has}
use Rattle.sums.specs.Table.{entry}
use Rattle.sums.proofs.LogicLaws.{and_left, and_right, not_so}
use Rattle.model.specs.Words.{◌∶◌}
use Rattle.model.specs.Nogood.{Choice, Nogood, choice_words, nogood_words}
use Rattle.lent.specs.Splice.{spliced}
use Rattle.nogood.specs.Recall.{CHOICE_RADIX}
use Rattle.nogood.specs.Noting.{KEPT_FREE, NOTE_ROOM, choice_of, choices_of, nogood_for, notable, noted_used, noted, end_used, ended}
use Rattle.lent.proofs.SpliceLaws.{splice_none, splice_one, splice_behind, splice_length}
use Rattle.nogood.proofs.ChoiceLaws.{choice_words_append, choice_words_length, choices_count, choice_most, choices_most}

-- ---- a unit's choice

module _ (xs d : List ℕ) (at q b : ℕ) (t : Bool) (is : t ≡ has b q) where
  -- of a unit in the set: the place after its word
  pub unit_place : t ≡ true → at + 1 ≡ at + length (choice_of (entry xs) (has b) q)
  unfolding choice_of
  unit_place e = rw (sym is ∙ e)

  -- and its word
  pub unit_words : t ≡ true → at < length d → (s w : ℕ) → s ≡ entry xs q → w ≡ 14 ∶ ((q + 1) * CHOICE_RADIX + s)
      → set d at w ≡ spliced at (choice_words (choice_of (entry xs) (has b) q)) d
  unfolding choice_of choice_words
  unit_words e l s w f g = rw (sym is ∙ e, ← f, ← g) (splice_one at w d l)

  -- of another: the place stays
  pub other_place : t ≡ false → at ≡ at + length (choice_of (entry xs) (has b) q)
  unfolding choice_of
  other_place e = rw (sym is ∙ e) (omega arith)

  -- and so do the words
  pub other_words : t ≡ false → d ≡ spliced at (choice_words (choice_of (entry xs) (has b) q)) d
  unfolding choice_of choice_words
  other_words e = rw (sym is ∙ e) (splice_none at d)

-- ---- the choices, unit by unit

-- the choices of the units below q are written into d from a place on; the next one goes to `at`
pub record Writing (xs : List ℕ) (b : ℕ) (d l : List ℕ) (from at q : ℕ) : Type 0 where
  pub place : at ≡ from + length (choices_of (entry xs) (has b) q)
  pub words : l ≡ spliced from (choice_words (choices_of (entry xs) (has b) q)) d
  pub near : at ≤ from + q
  pub long : length l ≡ length d

-- none yet
pub writing_start : (xs d : List ℕ) (b from : ℕ) → Writing xs b d d from from 0
unfolding choices_of choice_words
writing_start xs d b from = record { place = omega arith; words = splice_none from d; near = omega arith; long = refl }

-- one more unit
pub writing_next : (xs d l new : List ℕ) (b from at q k r : ℕ) → Writing xs b d l from at q → from + k ≤ length d → q < k
    → r ≡ at + length (choice_of (entry xs) (has b) q) → new ≡ spliced at (choice_words (choice_of (entry xs) (has b) q)) l
    → Writing xs b d new from r (q + 1)
unfolding choices_of
writing_next xs d l new b from at q k r h room less e f =
    record { place = rw add-one (omega (arith, length-append old more, h.place)); words = rw add-one words; near = near; long = long }
  where
    old : List Choice
    old = choices_of (entry xs) (has b) q

    more : List Choice
    more = choice_of (entry xs) (has b) q

    near : r ≤ from + (q + 1)
    near = omega (arith, choice_most (entry xs) (has b) q, h.near)

    words : new ≡ spliced from (choice_words (old ++ more)) d
    words =
        let o : from ≤ length d = omega arith in
        let p : at ≡ from + length (choice_words old) = omega (arith, h.place, choice_words_length old) in
        f ∙ ap (λ (x : List ℕ). spliced at (choice_words more) x) h.words
        ∙ splice_behind from at (choice_words old) (choice_words more) d o p
        ∙ ap (λ (x : List ℕ). spliced from x d) (sym (choice_words_append old more))

    long : length new ≡ length d
    long =
        let o : at + length (choice_words more) ≤ length l =
        omega (arith, choice_words_length more, choice_most (entry xs) (has b) q, h.near, h.long) in
        ap length f ∙ splice_length at (choice_words more) l o ∙ h.long

module _ (xs d l : List ℕ) (b from at q k : ℕ) (h : Writing xs b d l from at q) (low : q ≤ k) (high : k ≤ q) where
  -- all of them: the place after the last
  pub writing_place : at ≡ from + length (choices_of (entry xs) (has b) k)
  writing_place = let e : q ≡ k = omega arith in rw e at h.place

  -- and the words
  pub writing_words : l ≡ spliced from (choice_words (choices_of (entry xs) (has b) k)) d
  writing_words = let e : q ≡ k = omega arith in rw e at h.words

-- ---- a nogood: the bound, then the choices

module _ (xs d new : List ℕ) (used k b limit r w : ℕ) where
  -- the place after the last choice
  pub write_place : r ≡ used + 1 + length (choices_of (entry xs) (has b) k)
      → r ≡ used + length (nogood_words (nogood_for (entry xs) (has b) k limit))
  unfolding nogood_words
  write_place e = omega (arith, choice_words_length (choices_of (entry xs) (has b) k))

  -- the words
  pub write_words : used + 1 + k ≤ length d → w ≡ 13 ∶ (limit - 1)
      → new ≡ spliced (used + 1) (choice_words (choices_of (entry xs) (has b) k)) (set d used w)
      → new ≡ spliced used (nogood_words (nogood_for (entry xs) (has b) k limit)) d
  unfolding nogood_words
  write_words room e f =
      let l : used < length d = omega arith in
      let o : used ≤ length d = omega arith in
      f ∙ ap (λ (x : List ℕ). spliced (used + 1) (choice_words (choices_of (entry xs) (has b) k)) x) (splice_one used w d l)
      ∙ splice_behind used (used + 1) (w ∷ []) (choice_words (choices_of (entry xs) (has b) k)) d o refl
      ∙ ap (λ (x : ℕ). spliced used (x ∷ choice_words (choices_of (entry xs) (has b) k)) d) e

  -- the table stays as long
  pub write_length : used + 1 + k ≤ length d → new ≡ spliced (used + 1) (choice_words (choices_of (entry xs) (has b) k)) (set d used w)
      → length new ≡ length d
  write_length room f =
      let n = length-set d used w in
      let o : used + 1 + length (choice_words (choices_of (entry xs) (has b) k)) ≤ length (set d used w) =
      omega (arith, choice_words_length (choices_of (entry xs) (has b) k), choices_most (entry xs) (has b) k) in
      ap length f ∙ splice_length (used + 1) (choice_words (choices_of (entry xs) (has b) k)) (set d used w) o ∙ n

-- ---- whether it is noted

-- what a dead end that is noted has
pub notable_has : (lent used limit : ℕ) (cs : List Choice) → notable lent used limit cs ≡ true
    → (1 ≤ limit) × (1 ≤ length cs) × (length cs ≤ 3) × (used + 1 + length cs + KEPT_FREE ≤ lent)
unfolding notable
notable_has lent used limit cs e =
    let a = leb 1 limit in
    let b = leb 1 (length cs) in
    let c = leb (length cs) 3 in
    let d = leb (used + 1 + length cs + KEPT_FREE) lent in (
      leb-true 1 limit (and_left a (b && (c && d)) e),
      leb-true 1 (length cs) (and_left b (c && d) (and_right a (b && (c && d)) e)),
      leb-true (length cs) 3 (and_left c d (and_right b (c && d) (and_right a (b && (c && d)) e))),
      leb-true (used + 1 + length cs + KEPT_FREE) lent (and_right c d (and_right b (c && d) (and_right a (b && (c && d)) e))),
    )

notable_of : (lent used limit : ℕ) (cs : List Choice) → 1 ≤ limit → 1 ≤ length cs → length cs ≤ 3 → used + 1 + length cs + KEPT_FREE ≤ lent
    → notable lent used limit cs ≡ true
unfolding notable
notable_of lent used limit cs a b c d =
    rw (le-leb 1 limit a, le-leb 1 (length cs) b, le-leb (length cs) 3 c, le-leb (used + 1 + length cs + KEPT_FREE) lent d)

module _ (d : List ℕ) (used limit : ℕ) (g : Nogood) (not : notable (length d) used limit g.choices ≡ false) where
  -- a dead end that is left out adds no words
  pub kept_used : used ≡ noted_used (length d) used limit g
  unfolding noted_used
  kept_used = rw not

  -- and changes none
  pub kept_words : d ≡ noted d used limit g
  unfolding noted
  kept_words = rw not

-- a limit of 0 has no bound below it
pub no_bound : (lent used limit : ℕ) (cs : List Choice) → limit ≡ 0 → notable lent used limit cs ≡ false
no_bound lent used limit cs e = not_so (notable lent used limit cs) (λ t. absurd (omega (arith, notable_has lent used limit cs t)))

-- the choices, as many as the code counts
module _ (xs : List ℕ) (lent used k b limit n : ℕ) (is : n ≡ count_by (has b) (range_with_len 0 k)) where
  size_is : n ≡ length (choices_of (entry xs) (has b) k)
  size_is = is ∙ sym (choices_count (entry xs) (has b) k)

  noted_has : notable lent used limit (choices_of (entry xs) (has b) k) ≡ true → (1 ≤ n) × (n ≤ 3) × (used + 1 + n + KEPT_FREE ≤ lent)
  noted_has t = let h = notable_has lent used limit (choices_of (entry xs) (has b) k) t in rw size_is (h.1, h.2, h.3)

  -- none
  pub no_choice : n < 1 → notable lent used limit (choices_of (entry xs) (has b) k) ≡ false
  no_choice l = not_so (notable lent used limit (choices_of (entry xs) (has b) k)) (λ t. absurd (omega (arith, noted_has t)))

  -- more than a number that is 3 or above
  pub many_choices : (most : ℕ) → most < n → 3 ≤ most → notable lent used limit (choices_of (entry xs) (has b) k) ≡ false
  many_choices most l h = not_so (notable lent used limit (choices_of (entry xs) (has b) k)) (λ t. absurd (omega (arith, noted_has t)))

  -- too many for the space with so much room or less for the bound and what stays free
  pub no_space : (kept : ℕ) → lent - used < n + kept → kept ≤ NOTE_ROOM → notable lent used limit (choices_of (entry xs) (has b) k) ≡ false
  no_space kept l h = not_so (notable lent used limit (choices_of (entry xs) (has b) k)) (λ t. absurd (omega (arith, noted_has t)))

  module _ (some : limit ≡ 0 → ⊥) (low : 1 ≤ n) (high : n ≤ 3) (room : n + NOTE_ROOM ≤ lent - used) where
    is_notable : notable lent used limit (choices_of (entry xs) (has b) k) ≡ true
    is_notable =
        let e = size_is in
        let l : 1 ≤ limit = omega arith in
        let h : 1 ≤ length (choices_of (entry xs) (has b) k) = omega arith in
        let g : length (choices_of (entry xs) (has b) k) ≤ 3 = omega arith in
        let r : used + 1 + length (choices_of (entry xs) (has b) k) + KEPT_FREE ≤ lent = omega arith in
        notable_of lent used limit (choices_of (entry xs) (has b) k) l h g r

    -- one that is noted adds its own
    pub noted_used_lem : (r : ℕ) → r ≡ used + length (nogood_words (nogood_for (entry xs) (has b) k limit))
        → r ≡ noted_used lent used limit (nogood_for (entry xs) (has b) k limit)
    unfolding noted_used
    noted_used_lem r e = rw is_notable e

    -- behind those that were there
    pub noted_words : (d new : List ℕ) → lent ≡ length d → new ≡ spliced used (nogood_words (nogood_for (entry xs) (has b) k limit)) d
        → new ≡ noted d used limit (nogood_for (entry xs) (has b) k limit)
    unfolding noted
    noted_words d new f e = rw (← f, is_notable) e

-- ---- the end of a walk

-- under a limit below 1 no word is used
pub end_none_used : (used limit least : ℕ) → limit < least → least ≤ 1 → used ≡ end_used used limit
unfolding end_used
end_none_used used limit least l h = rw (eq-eqb limit 0 (omega arith))

-- and none is written
pub end_none_words : (d : List ℕ) (used limit least : ℕ) → limit < least → least ≤ 1 → d ≡ ended d used limit
unfolding ended
end_none_words d used limit least l h = rw (eq-eqb limit 0 (omega arith))

-- under another one more is used
pub end_some_used : (used limit : ℕ) → 1 ≤ limit → used + 1 ≡ end_used used limit
unfolding end_used
end_some_used used limit l = rw (ne_eqb limit 0 (λ e. omega arith))

-- for the bound
pub end_some_words : (d : List ℕ) (used limit w : ℕ) → 1 ≤ limit → w ≡ 13 ∶ (limit - 1) → set d used w ≡ ended d used limit
unfolding ended
end_some_words d used limit w l e = rw (ne_eqb limit 0 (λ z. omega arith), e)
