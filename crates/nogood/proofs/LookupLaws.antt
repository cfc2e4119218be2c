-- A bound that is read at a place of a table's words is that of a nogood of the table, and the choices that follow it are that nogood's.
-- Assumes nothing.
use Prim.Native.Nat.{ℕ, zero, suc, ◌+◌, ◌*◌, ◌-◌, ◌/◌, ◌%◌, ◌≤◌, ◌<◌}
use mathlib.Core.Path.{◌≡◌, sym, ◌∙◌, ap, subst}
use mathlib.Core.Bool.{true}
use mathlib.Core.List.{List, [], ◌∷◌, ◌++◌, append_assoc}
use native.Mathlib.Decide.{dec_lt}
use native.Mathlib.Omega.{arith}
use lib.ListN.{length, get_or, replicate, get_or-append}
use lib.Seq.{get_or-append-add}
use Rattle.sums.proofs.LoopLaws.{zeros_at}
use Rattle.model.specs.Problem.{Problem, Fair}
use Rattle.model.specs.Domain.{permitted}
use Rattle.model.specs.Schedule.{Schedule, Sound, cost}
use Rattle.model.specs.Words.{VALUES, ◌∶◌, kind_of, value_of}
use Rattle.model.specs.Nogood.{Choice, Nogood, Takes, Legal, IsNogood, AreNogoods, choice_words, nogood_words, nogoods_words}
use Rattle.model.proofs.DomainLaws.{permits_below}
use Rattle.nogood.specs.Recall.{CHOICE_RADIX, Chosen, Choices, Has}

-- a schedule that has the choices behind a bound costs more than the bound, wherever it stands in the words
pub record BoundsHold (p : Problem) (w : List ℕ) : Type 0 where
  pub holds : (i : ℕ) (s : Schedule) → kind_of (get_or w i 0) ≡ 13 → Has w i s.start → Sound p s → value_of (get_or w i 0) < cost p s

-- ---- the words behind others

-- a place among them
has_behind : (xs ys : List ℕ) (j : ℕ) (starts : ℕ → ℕ) → Has (xs ++ ys) (length xs + j) starts → Has ys j starts
has_behind xs ys j starts h = record { each = λ m l run. at m (h.each (length xs + m) (omega arith) (λ q a b. choice m run q a b)) }
  where
    at : (m : ℕ) → Chosen starts (get_or (xs ++ ys) (length xs + m) 0) → Chosen starts (get_or ys m 0)
    at m c = subst (Chosen starts) (get_or-append-add xs ys m 0) c

    choice : (m : ℕ) → Choices ys j m → (q : ℕ) → length xs + j < q → q ≤ length xs + m → kind_of (get_or (xs ++ ys) q 0) ≡ 14
    choice m run q a b =
        let e : q ≡ length xs + (q - length xs) = omega arith in
        ap (λ (t : ℕ). kind_of (get_or (xs ++ ys) t 0)) e
        ∙ ap kind_of (get_or-append-add xs ys (q - length xs) 0)
        ∙ run (q - length xs) (omega arith) (omega arith)

-- ---- the words of a nogood

bound_told : (b : ℕ) → b < VALUES → value_of (13 ∶ b) ≡ b
unfolding value_of
bound_told b l = omega arith

module _ (p : Problem) (fair : Fair p) (short : p.weeks < 64) (few : p.units ≤ 16) where
  choice_kind : (c : Choice) → c.unit < p.units → permitted p c.unit c.start ≡ true → kind_of (14 ∶ ((c.unit + 1) * CHOICE_RADIX + c.start)) ≡ 14
  unfolding kind_of
  choice_kind c l e = omega (arith, permits_below p fair c.unit c.start l e)

  -- a choice that is read is the one that was written
  choice_told : (c : Choice) (starts : ℕ → ℕ) → c.unit < p.units → permitted p c.unit c.start ≡ true
      → Chosen starts (14 ∶ ((c.unit + 1) * CHOICE_RADIX + c.start)) → starts c.unit ≡ c.start
  unfolding value_of
  choice_told c starts l e h =
      let s = permits_below p fair c.unit c.start l e in
      let u : (14 ∶ ((c.unit + 1) * CHOICE_RADIX + c.start)) % VALUES / CHOICE_RADIX - 1 ≡ c.unit = omega arith in
      let v : (14 ∶ ((c.unit + 1) * CHOICE_RADIX + c.start)) % VALUES % CHOICE_RADIX ≡ c.start = omega arith in
      ap starts (sym u) ∙ h ∙ v

  -- choices are of their kind
  choices_kind : (u : ℕ) (cs : List Choice) → Legal p u cs → (j : ℕ) → j < length (choice_words cs) → kind_of (get_or (choice_words cs) j 0) ≡ 14
  unfolding choice_words
  choices_kind u [] h j l = absurd (omega arith)
  choices_kind u (c ∷ cs) h zero l = choice_kind c h.1 h.2
  choices_kind u (c ∷ cs) h (suc j) l = choices_kind (c.unit + 1) cs h.3 j (omega arith)

  -- who has each choice that is read takes them all
  choices_taken : (u : ℕ) (cs : List Choice) (rest : List ℕ) (s : Schedule) → Legal p u cs
      → ((m : ℕ) → ((q : ℕ) → q ≤ m → kind_of (get_or (choice_words cs ++ rest) q 0) ≡ 14) → Chosen s.start (get_or (choice_words cs ++ rest) m 0))
      → Takes cs s
  unfolding choice_words
  choices_taken u [] rest s h each = tt
  choices_taken u (c ∷ cs) rest s h each = (
    choice_told c s.start h.1 h.2 (each 0 (λ q l. first q l)),
    choices_taken (c.unit + 1) cs rest s h.3 (λ m run. each (suc m) (λ q l. onward m run q l)),
  )
    where
      first : (q : ℕ) → q ≤ 0 → kind_of (get_or (14 ∶ ((c.unit + 1) * CHOICE_RADIX + c.start) ∷ (choice_words cs ++ rest)) q 0) ≡ 14
      first zero l = choice_kind c h.1 h.2
      first (suc q) l = absurd (omega arith)

      onward : (m : ℕ) → ((q : ℕ) → q ≤ m → kind_of (get_or (choice_words cs ++ rest) q 0) ≡ 14) → (q : ℕ) → q ≤ suc m
          → kind_of (get_or (14 ∶ ((c.unit + 1) * CHOICE_RADIX + c.start) ∷ (choice_words cs ++ rest)) q 0) ≡ 14
      onward m run zero l = choice_kind c h.1 h.2
      onward m run (suc q) l = run q (omega arith)

  -- ---- the words of a table

  right_zeros : (n : ℕ) → BoundsHold p (replicate n 0)
  unfolding kind_of
  right_zeros n = record { holds = λ i s e h sound. absurd (omega (arith, e, zeros_at n i)) }

  module _ (g : Nogood) (rest : List ℕ) (is : IsNogood p g) (s : Schedule) (sound : Sound p s) where
    cs : List Choice
    cs = g.choices

    -- the nogood in front
    front_holds : Has (13 ∶ g.bound ∷ (choice_words cs ++ rest)) 0 s.start → value_of (13 ∶ g.bound) < cost p s
    unfolding cs
    front_holds h =
        subst (λ (v : ℕ). v < cost p s) (sym (bound_told g.bound is.small))
        (is.holds s sound (choices_taken 0 cs rest s is.legal (λ m run. h.each (suc m) (omega arith) (λ q a b. choice m run q a b))))
      where
        choice : (m : ℕ) → ((q : ℕ) → q ≤ m → kind_of (get_or (choice_words cs ++ rest) q 0) ≡ 14) → (q : ℕ) → 0 < q → q ≤ suc m
            → kind_of (get_or (13 ∶ g.bound ∷ (choice_words cs ++ rest)) q 0) ≡ 14
        choice m run zero a b = absurd (omega arith)
        choice m run (suc q) a b = run q (omega arith)

    -- a bound behind its words
    rest_holds : BoundsHold p rest → (i : ℕ) → kind_of (get_or (choice_words cs ++ rest) i 0) ≡ 13
        → Has (13 ∶ g.bound ∷ (choice_words cs ++ rest)) (suc i) s.start → value_of (get_or (choice_words cs ++ rest) i 0) < cost p s
    unfolding cs
    rest_holds right i e h = by (dec_lt i (length (choice_words cs)))
      where
        words : List ℕ
        words = 13 ∶ g.bound ∷ choice_words cs

        by : Dec (i < length (choice_words cs)) → value_of (get_or (choice_words cs ++ rest) i 0) < cost p s
        by (yes l) =
            let k = choices_kind 0 cs is.legal i l in
            let f : kind_of (get_or (choice_words cs) i 0) ≡ 13 = ap kind_of (sym (get_or-append (choice_words cs) rest 0 i l)) ∙ e in
            absurd (omega arith)
        by (no l) =
            let j : suc i ≡ length words + (i - length (choice_words cs)) = omega arith in
            let x : get_or (words ++ rest) (suc i) 0 ≡ get_or rest (i - length (choice_words cs)) 0 =
            ap (λ (t : ℕ). get_or (words ++ rest) t 0) j ∙ get_or-append-add words rest (i - length (choice_words cs)) 0 in
            let behind = has_behind words rest (i - length (choice_words cs)) s.start (subst (λ (t : ℕ). Has (words ++ rest) t s.start) j h) in
            subst (λ (v : ℕ). value_of v < cost p s) (sym x) (right.holds (i - length (choice_words cs)) s (ap kind_of (sym x) ∙ e) behind sound)

  right_front : (g : Nogood) (rest : List ℕ) → IsNogood p g → BoundsHold p rest → BoundsHold p (nogood_words g ++ rest)
  unfolding nogood_words cs
  right_front g rest is right = record { holds = λ i s e h sound. by i s e h sound }
    where
      by : (i : ℕ) (s : Schedule) → kind_of (get_or (13 ∶ g.bound ∷ (choice_words g.choices ++ rest)) i 0) ≡ 13
          → Has (13 ∶ g.bound ∷ (choice_words g.choices ++ rest)) i s.start → Sound p s
          → value_of (get_or (13 ∶ g.bound ∷ (choice_words g.choices ++ rest)) i 0) < cost p s
      by zero s e h sound = front_holds g rest is s sound h
      by (suc i) s e h sound = rest_holds g rest is s sound right i e h

  -- the words of nogoods, and zeros behind them
  pub bound_holds : (gs : List Nogood) (n : ℕ) → AreNogoods p gs → BoundsHold p (nogoods_words gs ++ replicate n 0)
  unfolding nogoods_words
  bound_holds [] n a = right_zeros n
  bound_holds (g ∷ gs) n a =
      subst (BoundsHold p) (sym (append_assoc (nogood_words g) (nogoods_words gs) (replicate n 0)))
      (right_front g (nogoods_words gs ++ replicate n 0) a.0 (bound_holds gs n a.1))
