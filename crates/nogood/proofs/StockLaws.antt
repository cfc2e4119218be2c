-- What a table of conflicts holds: emptied, with a nogood more, and what one of its nogoods says of a walk's starts. The laws that a search cites.
-- Assumes nothing.
use Prim.Native.Nat.{ℕ, zero, suc, ◌+◌, ◌-◌, ◌≤◌, ◌<◌}
use mathlib.Core.Path.{◌≡◌, refl, sym, ◌∙◌, ap, ap₂, subst}
use mathlib.Core.Bool.{Bool, true, false}
use mathlib.Core.List.{List, [], ◌∷◌, ◌++◌, append-nil, append_assoc}
use native.Mathlib.Omega.{arith}
use lib.ListN.{length, take, drop, set, replicate, length-append, length-replicate, length-set}
use lib.Seq.{take_at, drop-append-add}
use lib.Dec.{eqb}
use borrow.Author.Tests.{eqb-false}
use Rattle.sums.specs.Logic.{if}
use Rattle.sums.specs.NumSet.{NumSet, has}
use Rattle.sums.specs.Table.{entry}
use Rattle.model.specs.Problem.{Problem, Fair}
use Rattle.model.specs.Domain.{permitted}
use Rattle.model.specs.Schedule.{Schedule, Sound, cost}
use Rattle.model.specs.Words.{◌∶◌}
use Rattle.model.specs.Nogood.{MOST_LIMIT, Choice, Nogood, IsNogood, AreNogoods, DeadEndsBelow, choice_words, nogood_words, nogoods_words}
use Rattle.model.specs.Nogood.{alone_first, bounds_alone}
use Rattle.model.proofs.NogoodLaws.{nogoods_words_append, bounds_alone_append}
use Rattle.blame.specs.Closed.{Closed}
use Rattle.lent.specs.Splice.{spliced}
use Rattle.nogood.specs.Noting.{KEPT_FREE, choices_of, nogood_for, notable, noted_used, noted, end_bounds, end_used, ended}
use Rattle.nogood.specs.Recall.{Has, Recall}
use Rattle.nogood.specs.Stock.{Stock, Grown, EndsUnder, DeadEnds}
use Rattle.lent.proofs.SpliceLaws.{splice_one, splice_length}
use Rattle.nogood.proofs.ChoiceLaws.{choice_words_length}
use Rattle.nogood.proofs.NotingLaws.{notable_has}
use Rattle.nogood.proofs.DeadEndLaws.{dead_end_nogood, walk_end_nogood}
use Rattle.nogood.proofs.LookupLaws.{BoundsHold, bound_holds}

-- ---- an emptied table

-- holds nothing
pub stock_none : (p : Problem) (n : ℕ) → Stock p [] (replicate n 0) 0
unfolding nogoods_words
stock_none p n =
    let e : n ≡ length (replicate {A = ℕ} n 0) - 0 = omega (arith, length-replicate {A = ℕ} n 0) in
    record {
      table = record { fits = omega arith; stand = ap (λ (k : ℕ). replicate k 0) e; kept_free = tt; are = tt };
      ends = refl;
    }

-- the used words are words of the table
pub stock_within : {p : Problem} {gs : List Nogood} {words : List ℕ} {used : ℕ} → Stock p gs words used → used ≤ length words
stock_within s = omega (arith, s.ends, s.table.fits)

-- ---- a table that grows

module _ (p : Problem) (gs : List Nogood) (words : List ℕ) (used : ℕ) where
  -- with nothing behind what it held
  pub grown_none : (Are : List Nogood → Type 0) → Are [] → Stock p gs words used → Grown p Are gs words used
  grown_none Are a s =
      record { more = []; are = a; stock = subst (λ (l : List Nogood). Stock p l words used) (sym (append-nil gs)) s }

  -- once and then again: what it held at first stands there still
  pub grown_next : (xs ys words' : List ℕ) (used' : ℕ) → Grown p (EndsUnder xs) gs words used
      → ((hs : List Nogood) → Stock p hs words used → Grown p (EndsUnder ys) hs words' used') → Grown p (EndsUnder (xs ++ ys)) gs words' used'
  grown_next xs ys words' used' g next = record {
    more = g.more ++ then.more;
    are = bounds_alone_append g.more then.more ∙ ap₂ {C = List ℕ} ◌++◌ g.are then.are;
    stock = subst (λ (l : List Nogood). Stock p l words' used') (append_assoc gs g.more then.more) then.stock;
  }
    where
      then : Grown p (EndsUnder ys) (gs ++ g.more) words' used'
      then = next (gs ++ g.more) g.stock

  -- the words that were used are as they were
  pub grown_keeps : (Are : List Nogood → Type 0) (words' : List ℕ) (used' : ℕ) → Stock p gs words used → Grown p Are gs words' used'
      → take used words' ≡ take used words
  grown_keeps Are words' used' s g =
      ap (take used) (g.stock.table.stand ∙ ap (λ (l : List ℕ). l ++ rest') (nogoods_words_append gs g.more) ∙ append_assoc old (nogoods_words g.more) rest')
      ∙ take_at old (nogoods_words g.more ++ rest') used (sym s.ends)
      ∙ sym (ap (take used) s.table.stand ∙ take_at old rest used (sym s.ends))
    where
      old : List ℕ
      old = nogoods_words gs

      rest : List ℕ
      rest = replicate (length words - length old) 0

      rest' : List ℕ
      rest' = replicate (length words' - length (nogoods_words (gs ++ g.more))) 0

-- ---- a nogood more

nogood_length : (g : Nogood) → length (nogood_words g) ≡ 1 + length g.choices
unfolding nogood_words
nogood_length g = omega (arith, choice_words_length g.choices)

nogood_alone : (g : Nogood) → nogoods_words (g ∷ []) ≡ nogood_words g
unfolding nogoods_words
nogood_alone g = append-nil (nogood_words g)

drop_zeros : (j n : ℕ) → drop j (replicate {A = ℕ} n 0) ≡ replicate (n - j) 0
drop_zeros zero n = let e : n ≡ n - 0 = omega arith in ap (λ (k : ℕ). replicate k 0) e
drop_zeros (suc j) zero = let e : 0 ≡ 0 - suc j = omega arith in ap (λ (k : ℕ). replicate k 0) e
drop_zeros (suc j) (suc n) = let e : n - j ≡ suc n - suc j = omega arith in drop_zeros j n ∙ ap (λ (k : ℕ). replicate k 0) e

splice_zeros : (at m : ℕ) (ns ws : List ℕ) → at ≡ length ns → spliced at ws (ns ++ replicate m 0) ≡ ns ++ ws ++ replicate (m - length ws) 0
unfolding spliced
splice_zeros at m ns ws e =
    ap (λ (l : List ℕ). l ++ ws ++ drop (at + length ws) (ns ++ replicate m 0)) (take_at ns (replicate m 0) at (sym e))
    ∙ ap (λ (k : ℕ). ns ++ ws ++ drop (k + length ws) (ns ++ replicate m 0)) e
    ∙ ap (λ (l : List ℕ). ns ++ ws ++ l) (drop-append-add ns (replicate m 0) (length ws) ∙ drop_zeros (length ws) m)

nogoods_and : (p : Problem) (gs : List Nogood) (g : Nogood) → AreNogoods p gs → IsNogood p g → AreNogoods p (gs ++ (g ∷ []))
nogoods_and p [] g a b = (b, tt)
nogoods_and p (h ∷ gs) g a b = (a.0, nogoods_and p gs g a.1 b)

dead_ends_and : (top q : ℕ) (gs : List Nogood) (g : Nogood) → DeadEndsBelow top q gs
    → (0 < length g.choices → q + length (nogoods_words gs) + length (nogood_words g) ≤ top) → DeadEndsBelow top q (gs ++ (g ∷ []))
unfolding nogoods_words
dead_ends_and top q [] g d h = (λ l. omega (arith, h l), tt)
dead_ends_and top q (f ∷ gs) g d h =
    (d.0, dead_ends_and top (q + length (nogood_words f)) gs g d.1 (λ l. omega (arith, h l, length-append (nogood_words f) (nogoods_words gs))))

module _ (p : Problem) (old : List Nogood) (words : List ℕ) (used : ℕ) (g : Nogood) (s : Stock p old words used) where
  -- a nogood behind the others
  stock_and : IsNogood p g → used + length (nogood_words g) ≤ length words
      → (0 < length g.choices → used + length (nogood_words g) ≤ length words - KEPT_FREE)
      → Stock p (old ++ (g ∷ [])) (spliced used (nogood_words g) words) (used + length (nogood_words g))
  stock_and is room low = record {
    table = record {
      fits = omega (arith, ends, long);
      stand = stand;
      kept_free = rw long (dead_ends_and (length words - KEPT_FREE) 0 old g s.table.kept_free (λ l. omega (arith, low l, s.ends)));
      are = nogoods_and p old g s.table.are is;
    };
    ends = ends;
  }
    where
      all : List Nogood
      all = old ++ (g ∷ [])

      written : nogoods_words all ≡ nogoods_words old ++ nogood_words g
      written = nogoods_words_append old (g ∷ []) ∙ ap (λ (l : List ℕ). nogoods_words old ++ l) (nogood_alone g)

      long : length (spliced used (nogood_words g) words) ≡ length words
      long = splice_length used (nogood_words g) words room

      ends : used + length (nogood_words g) ≡ length (nogoods_words all)
      ends = omega (arith, s.ends, ap length written, length-append (nogoods_words old) (nogood_words g))

      stand : spliced used (nogood_words g) words
          ≡ nogoods_words all ++ replicate (length (spliced used (nogood_words g) words) - length (nogoods_words all)) 0
      stand =
          let n : length words - length (nogoods_words old) - length (nogood_words g)
          ≡ length (spliced used (nogood_words g) words) - length (nogoods_words all) = omega (arith, ends, long, s.ends) in
          ap (spliced used (nogood_words g)) s.table.stand
          ∙ splice_zeros used (length words - length (nogoods_words old)) (nogoods_words old) (nogood_words g) s.ends
          ∙ ap (λ (l : List ℕ). l ++ replicate (length words - length (nogoods_words old) - length (nogood_words g)) 0) (sym written)
          ∙ ap (λ (k : ℕ). nogoods_words all ++ replicate k 0) n

-- ---- a dead end noted

-- it has choices, so no bound alone is added
none_alone : (g : Nogood) → 1 ≤ length g.choices → bounds_alone (g ∷ []) ≡ []
unfolding bounds_alone
none_alone g l = go g.choices l
  where
    go : (cs : List Choice) → 1 ≤ length cs → alone_first g.bound cs [] ≡ []
    go [] h = absurd (omega arith)
    go (c ∷ cs) h = refl

-- a table with a dead end that was noted, or left out
pub stock_noted : (p : Problem) (gs : List Nogood) (words xs : List ℕ) (used k b limit : ℕ) → Stock p gs words used → k ≤ p.units → limit ≤ MOST_LIMIT
    → ((i : ℕ) → has b i ≡ true → permitted p i (entry xs i) ≡ true) → ((i : ℕ) → has b i ≡ true → i < k) → Closed p (has b) (entry xs) limit
    → Grown p DeadEnds gs (noted words used limit (nogood_for (entry xs) (has b) k limit))
    (noted_used (length words) used limit (nogood_for (entry xs) (has b) k limit))
unfolding noted noted_used bounds_alone
stock_noted p gs words xs used k b limit s l high permits inside closed = go (notable (length words) used limit cs) refl
  where
    cs : List Choice
    cs = choices_of (entry xs) (has b) k

    g : Nogood
    g = nogood_for (entry xs) (has b) k limit

    go : (t : Bool) → notable (length words) used limit cs ≡ t
        → Grown p DeadEnds gs (if t (spliced used (nogood_words g) words) words) (if t (used + length (nogood_words g)) used)
    go false e = grown_none p gs words used DeadEnds refl s
    go true e =
        let f = notable_has (length words) used limit cs e in
        let n = nogood_length g in
        record {
          more = g ∷ [];
          are = none_alone g f.1;
          stock =
              stock_and p gs words used g s (dead_end_nogood p (entry xs) (has b) k limit f.0 high l (let few : length (choices_of (entry xs) (has b) k) ≤ 8 = omega (arith, f.2) in few) permits inside closed)
              (omega arith) (λ z. omega arith);
        }

-- how many words it may use
pub stock_room : (lent used limit n : ℕ) (g : Nogood) → used ≤ n → lent - KEPT_FREE ≤ n → noted_used lent used limit g ≤ n
unfolding noted_used
stock_room lent used limit n g l h = go (notable lent used limit g.choices) refl
  where
    go : (t : Bool) → notable lent used limit g.choices ≡ t → if t (used + length (nogood_words g)) used ≤ n
    go false e = l
    go true e = omega (arith, notable_has lent used limit g.choices e, nogood_length g)

-- the table stays as long
pub noted_length : (words : List ℕ) (used limit : ℕ) (g : Nogood) → length (noted words used limit g) ≡ length words
unfolding noted
noted_length words used limit g = go (notable (length words) used limit g.choices) refl
  where
    go : (t : Bool) → notable (length words) used limit g.choices ≡ t → length (if t (spliced used (nogood_words g) words) words) ≡ length words
    go false e = refl
    go true e =
        let f = notable_has (length words) used limit g.choices e in
        let n = nogood_length g in
        splice_length used (nogood_words g) words (omega arith)

-- ---- the end of a walk noted

-- a table with the end of a walk, under which no schedule costs less than the limit
pub stock_ended : (p : Problem) (gs : List Nogood) (words : List ℕ) (used limit : ℕ) → Stock p gs words used → used < length words → limit ≤ MOST_LIMIT
    → ((s : Schedule) → Sound p s → limit ≤ cost p s) → Grown p (EndsUnder (end_bounds limit)) gs (ended words used limit) (end_used used limit)
unfolding end_bounds ended end_used nogood_words choice_words bounds_alone alone_first
stock_ended p gs words used limit s l high none = go (eqb limit 0) refl
  where
    g : Nogood
    g = record { bound = limit - 1; choices = [] }

    go : (t : Bool) → eqb limit 0 ≡ t
        → Grown p (EndsUnder (if t [] ((limit - 1) ∷ []))) gs (if t words (set words used (13 ∶ (limit - 1)))) (if t used (used + 1))
    go true e = grown_none p gs words used (EndsUnder []) refl s
    go false e =
        let ne = eqb-false limit 0 e in
        record {
          more = g ∷ [];
          are = refl;
          stock =
              subst (λ (w : List ℕ). Stock p (gs ++ (g ∷ [])) w (used + 1)) (sym (splice_one used (13 ∶ (limit - 1)) words l))
              (stock_and p gs words used g s (walk_end_nogood p limit (omega arith) high none) (omega arith) (λ z. absurd (omega arith)));
        }

-- one word at most
pub ended_room : (used limit : ℕ) → end_used used limit ≤ used + 1
unfolding end_used
ended_room used limit = go (eqb limit 0)
  where
    go : (t : Bool) → if t used (used + 1) ≤ used + 1
    go true = omega arith
    go false = omega arith

-- the table stays as long
pub ended_length : (words : List ℕ) (used limit : ℕ) → length (ended words used limit) ≡ length words
unfolding ended
ended_length words used limit = go (eqb limit 0)
  where
    go : (t : Bool) → length (if t words (set words used (13 ∶ (limit - 1)))) ≡ length words
    go true = refl
    go false = length-set words used (13 ∶ (limit - 1))

-- ---- a nogood recalled

-- the starts that meet a nogood of the table whose bound covers the limit are a dead end
pub recall_closed : (p : Problem) (gs : List Nogood) (words xs : List ℕ) (used : ℕ) (a : NumSet) (limit b : ℕ) → Fair p → p.weeks < 64 → p.units ≤ 16
    → ((i : ℕ) → a i ≡ true → i < p.units) → Stock p gs words used → Recall words xs a limit b → Closed p (has b) (entry xs) limit
recall_closed p gs words xs used a limit b fair short few inside s r = record {
  costs = λ t sound on. by t (r.match.takes t.start (λ q h. on q (inside q (r.match.within q h)) h)) sound;
}
  where
    by : (t : Schedule) → Has words r.at t.start → Sound p t → limit ≤ cost p t
    by t h sound =
        let right = subst (BoundsHold p) (sym s.table.stand)
        (bound_holds p fair short few gs (length words - length (nogoods_words gs)) s.table.are) in
        omega (arith, right.holds r.at t r.bound h sound, r.covers)
