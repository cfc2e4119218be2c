-- Fewer units to blame: what the bound loses without a unit, the weeks put back, and units dropped one after the other.
-- Assumes nothing.
use Prim.Native.Nat.{ℕ, ◌+◌, ◌-◌, ◌≤◌, ◌<◌}
use mathlib.Core.Path.{◌≡◌, refl, sym, ◌∙◌, ap, subst}
use mathlib.Core.Bool.{Bool, true, false, not, ◌&&◌}
use mathlib.Core.List.{List}
use native.Mathlib.Decide.{ℕ_discrete, dec_lt}
use native.Mathlib.Omega.{arith}
use lib.Dec.{eqb}
use lib.ListN.{length, get_or, set, length-set}
use lib.Seq.{get_or-set_same, get_or-set_other}
use Rattle.sums.specs.Sum.{sum_to, shifted}
use Rattle.sums.specs.NumSet.{NumSet, has}
use Rattle.sums.specs.Table.{entry}
use Rattle.sums.proofs.LogicLaws.{true_false, and_left}
use Rattle.sums.proofs.LoopLaws.{sum_next}
use Rattle.model.specs.Problem.{Problem}
use Rattle.model.specs.Domain.{permitted}
use Rattle.model.specs.Schedule.{in_span, out_in}
use Rattle.model.specs.Words.{problem_of}
use Rattle.model.proofs.DomainLaws.{permits_ends, span_from, span_below, span_of}
use Rattle.model.proofs.FileLaws.{fair}
use Rattle.instance.specs.declared.file.File.{File}
use Rattle.instance.specs.File.{problem}
use Rattle.instance.specs.Filed.{Filed}
use Rattle.overhaul.proofs.UpkeepLaws.{start_some, ends_within}
use Rattle.tables.specs.Tables.{excess_in, root_in, total_in}
use Rattle.dual.specs.declared.BlameLeft.{BlameLeft}
use Rattle.dual.specs.declared.Node.{Node}
use Rattle.dual.specs.Dual.{Dual, Bounds}
use Rattle.dual.specs.Blame.{MOST_WANTED, PermitsOf, Bounded, Blamed, gain_in, loss_of, BackTo, PutBack, ShrinksTo, Shrunk, OverhaulAt, Dropping, MayDrop, Dropped}
use Rattle.dual.proofs.BoundsLaws.{bounds_closed, bounds_dropped}

-- ---- a unit's start

module _ (file : File) (starts : List ℕ) (i : ℕ) (xs : List ℕ) (at : OverhaulAt file starts i xs) where
  h : i < file.layout.units
  h = at.unit

  e : permitted (problem file) i (entry starts i) ≡ true
  e = at.permits

  -- it counts from 1
  pub own_some : 1 ≤ get_or starts i 0
  unfolding entry
  own_some = start_some file i (entry starts i) h e

  -- the overhaul ends in the season
  pub own_ends : (d : ℕ) → d ≡ (problem file).duration i → get_or starts i 0 - 1 + d ≤ 52
  unfolding entry
  own_ends d is = omega (arith, ends_within file i (entry starts i) h e d is, file.filed.weeks_most)

  -- and is one of 52
  pub own_few : get_or starts i 0 < 64
  unfolding entry
  own_few =
      omega (
        arith,
        permits_ends (problem file) i (entry starts i) e,
        (fair file.words.now file.filed.passed).some_weeks i (rw file.filed.units_are h),
        file.filed.weeks_are,
        file.filed.weeks_most,
      )

-- ---- what is lost

-- a week's value above that with nobody out
pub gain_at : (us xs : List ℕ) (t v o r : ℕ) → v ≡ get_or xs t 0 → o ≡ root_in us t → r ≡ v - o → r ≡ gain_in us xs t
unfolding gain_in entry
gain_at us xs t v o r is root e = rw (is, root) at e

-- one week more
pub gains_next : (us xs : List ℕ) (a k c v r : ℕ) → c ≡ sum_to k (shifted a (gain_in us xs)) → v ≡ gain_in us xs (a + k) → r ≡ c + v
    → r ≡ sum_to (k + 1) (shifted a (gain_in us xs))
unfolding shifted
gains_next us xs a k c v r = sum_next (shifted a (gain_in us xs)) k c v r

-- with what the unit costs above its least
pub loss_is : (ws us starts xs : List ℕ) (i d c v r : ℕ) → d ≡ (problem_of ws).duration i → c ≡ excess_in us i (get_or starts i 0)
    → v ≡ sum_to d (shifted (get_or starts i 0 - 1) (gain_in us xs)) → r ≡ c + v → r ≡ loss_of (problem_of ws) us (entry starts) xs i
unfolding loss_of entry
loss_is ws us starts xs i d c v r e ec ev er = rw (← e, ← ec, ← ev) er

-- ---- weeks put back

-- none yet
pub back_start : (us : List ℕ) (a : ℕ) (xs : List ℕ) → length xs ≡ 52 → BackTo us a 0 xs xs
back_start us a xs long = record { long = long; inside = λ t l m. absurd (omega arith); before = λ t l. refl; after = λ t l. refl }

-- one more
pub back_next : (us : List ℕ) (a k d v : ℕ) (xs ys : List ℕ) → BackTo us a k xs ys → k < d → a + d ≤ 52 → v ≡ root_in us (a + k)
    → BackTo us a (k + 1) xs (set ys (a + k) v)
unfolding entry
back_next us a k d v xs ys h more within is = record {
  long = length-set ys (a + k) v ∙ h.long;
  inside = λ t l m. by t l m (ℕ_discrete t (a + k));
  before = λ t l. other t (λ z. omega arith) ∙ h.before t l;
  after = λ t l. other t (λ z. omega arith) ∙ h.after t (omega arith);
}
  where
    other : (t : ℕ) → (t ≡ a + k → ⊥) → get_or (set ys (a + k) v) t 0 ≡ get_or ys t 0
    other t ne = get_or-set_other ys (a + k) t v 0 ne

    by : (t : ℕ) → a ≤ t → t < a + (k + 1) → Dec (t ≡ a + k) → get_or (set ys (a + k) v) t 0 ≡ root_in us t
    by t l m (yes q) = rw q (get_or-set_same ys (a + k) v 0 (omega (arith, h.long)) ∙ is)
    by t l m (no q) = other t q ∙ h.inside t l (omega arith)

-- all of them
pub back_ended : (us : List ℕ) (a k d : ℕ) (xs ys : List ℕ) → BackTo us a k xs ys → k ≤ d → d ≤ k → BackTo us a d xs ys
back_ended us a k d xs ys h m n = let e : k ≡ d = omega arith in rw e at h

-- they are those of the overhaul
pub back_of : (file : File) (us starts xs ys : List ℕ) (i d : ℕ) → OverhaulAt file starts i xs → d ≡ (problem file).duration i
    → BackTo us (get_or starts i 0 - 1) d xs ys → PutBack (problem file) us (entry starts) i xs ys
unfolding out_in entry
back_of file us starts xs ys i d at is h = record {
  long = h.long;
  inside = λ t b o.
      let one = own_some file starts i xs at in
      h.inside t (omega (arith, span_from s dur t o)) (omega (arith, span_below s dur t o));
  outside = λ t b o. out t o (dec_lt t (s - 1)) (dec_lt t (s - 1 + dur));
}
  where
    s : ℕ
    s = get_or starts i 0

    dur : ℕ
    dur = (problem file).duration i

    out : (t : ℕ) → in_span (get_or starts i 0) ((problem file).duration i) t ≡ false → Dec (t < get_or starts i 0 - 1)
        → Dec (t < get_or starts i 0 - 1 + (problem file).duration i) → entry ys t ≡ entry xs t
    out t o (yes b) _ = h.before t b
    out t o (no b) (no c) = h.after t (omega arith)
    out t o (no b) (yes c) =
        let one = own_some file starts i xs at in
        true_false (sym (span_of s dur t (omega arith) (omega arith)) ∙ o)

-- ---- a unit dropped

-- the unit stays
pub dropped_none : (file : File) (us starts xs : List ℕ) (i wanted : ℕ) (kept : BlameLeft) → Dropping file us starts i wanted kept xs
    → Dropped (problem file) us (entry starts) wanted kept kept xs
dropped_none file us starts xs i wanted kept d = record { thins = d.thins; fewer = λ n e. e }

-- the others still keep the bound where it is wanted
pub dropped_one : (file : File) (us starts xs ys : List ℕ) (i wanted v : ℕ) (kept r : BlameLeft) → Dropping file us starts i wanted kept xs
    → v ≡ loss_of (problem file) us (entry starts) xs i → wanted + v ≤ kept.sum.0 → PutBack (problem file) us (entry starts) i xs ys
    → ((k : ℕ) → has r.units k ≡ (has kept.units k && not (eqb k i))) → r.sum.0 ≡ kept.sum.0 - v
    → Dropped (problem file) us (entry starts) wanted kept r ys
dropped_one file us starts xs ys i wanted v kept r d el le back without ev =
    record {
      thins = record {
        bounds = subst (Bounds p us (has r.units) (entry starts) ys) (sym (ev ∙ ap (λ (x : ℕ). kept.sum.0 - x) el)) b;
        reaches = omega arith;
      };
      fewer = λ n q. and_left (has kept.units n) (not (eqb n i)) (sym (without n) ∙ q);
    }
  where
    p : Problem
    p = problem file

    f : Filed file.words.now file.layout
    f = file.filed

    b : Bounds p us (has r.units) (entry starts) ys (kept.sum.0 - loss_of p us (entry starts) xs i)
    b =
        bounds_dropped p us (has kept.units) (has r.units) (entry starts) xs ys i kept.sum.0 (fair file.words.now f.passed) d.dual.costs d.dual.roots
        (omega (arith, d.at.unit, f.units_are)) d.at.permits without back d.thins.bounds

-- one of those kept
pub may_drop : (file : File) (us starts xs : List ℕ) (i wanted : ℕ) (kept : BlameLeft) (one : Bool)
    → MayDrop file us starts i wanted kept xs → one ≡ has kept.units i → one ≡ true → Dropping file us starts i wanted kept xs
may_drop file us starts xs i wanted kept one d is so = d.dropping (sym is ∙ so)

-- ---- units dropped in turn

-- from unit i on, of the units of b
pub record Thinning (file : File) (us : List ℕ) (b : NumSet) (starts : List ℕ) (wanted i : ℕ) (kept : BlameLeft) (xs : List ℕ) : Type 0 where
  pub dual : Dual (problem file) us
  pub permits : PermitsOf (problem file) b (entry starts)
  pub few : wanted ≤ MOST_WANTED
  pub thins : ShrinksTo (problem file) us (entry starts) wanted kept xs
  pub within : (n : ℕ) → has kept.units n ≡ true → b n ≡ true
  pub places : i ≤ file.layout.units

-- none yet
pub thinning_start : (file : File) (us : List ℕ) (node : Node) (wanted : ℕ) (xs : List ℕ) → Bounded file us node xs
    → wanted ≤ node.bound.0 → wanted ≤ MOST_WANTED
    → Thinning file us (has node.placed) node.starts wanted file.layout.units (record { units = node.placed; sum = node.bound }) xs
thinning_start file us node wanted xs h le few = record {
  dual = h.dual;
  permits = h.permits;
  few = few;
  thins = record { bounds = h.bounds; reaches = le };
  within = λ n q. q;
  places = omega arith;
}

module _ (file : File) (us : List ℕ) (b : NumSet) (starts : List ℕ) (wanted i j : ℕ) (kept : BlameLeft) (xs : List ℕ)
    (h : Thinning file us b starts wanted i kept xs) (e : j ≡ i - 1) where
  -- the next unit may be dropped
  pub thinning_drops : 0 < i → MayDrop file us starts j wanted kept xs
  thinning_drops some = record {
    unit = omega (arith, h.places, file.filed.units_most);
    thins = h.thins;
    dropping = λ q. record {
      at = record {
        unit = omega (arith, h.places);
        permits = h.permits.each j (h.within j q);
        long = h.thins.bounds.values.long;
      };
      dual = h.dual;
      few = h.few;
      thins = h.thins;
    };
  }

  -- it was, or not
  pub thinning_next : (r : BlameLeft) (ys : List ℕ) → Dropped (problem file) us (entry starts) wanted kept r ys → Thinning file us b starts wanted j r ys
  thinning_next r ys t = record {
    dual = h.dual;
    permits = h.permits;
    few = h.few;
    thins = t.thins;
    within = λ n q. h.within n (t.fewer n q);
    places = omega (arith, h.places);
  }

-- all were tried
pub thinning_ended : (file : File) (us : List ℕ) (b : NumSet) (starts : List ℕ) (wanted i : ℕ) (kept : BlameLeft) (xs : List ℕ)
    → Thinning file us b starts wanted i kept xs → Shrunk (problem file) us b (entry starts) wanted kept
thinning_ended file us b starts wanted i kept xs h = record { xs = xs; thins = h.thins; within = h.within }

-- ---- who is to blame

-- the bound falls short: all units
pub blamed_all : (p : Problem) (us : List ℕ) (node : Node) (limit b wanted : ℕ) → wanted ≡ limit + total_in us → node.bound.0 < wanted
    → b ≡ node.placed → Blamed p us node limit b
blamed_all p us node limit b wanted e less all = record {
  within = λ i q. subst (λ (x : ℕ). has x i ≡ true) all q;
  closed = λ le. absurd (omega arith);
  all = λ _. all;
}

-- it comes to the limit: those that keep it there
pub blamed_some : (file : File) (us : List ℕ) (node : Node) (xs : List ℕ) (limit wanted : ℕ) (kept : BlameLeft) → Bounded file us node xs
    → wanted ≡ limit + total_in us → wanted ≤ node.bound.0
    → Shrunk (problem file) us (has node.placed) (entry node.starts) wanted kept → Blamed (problem file) us node limit kept.units
blamed_some file us node xs limit wanted kept h e le t = record {
  within = t.within;
  closed = λ _. bounds_closed (problem file) us (has kept.units) (entry node.starts) t.xs kept.sum.0 limit (fair file.words.now file.filed.passed)
      h.dual t.thins.bounds (omega (arith, t.thins.reaches));
  all = λ less. absurd (omega arith);
}
