-- An accepted file with its layout is all that the accessors ask for.
-- Assumes nothing.
use Prim.Native.Nat.{ℕ, ◌*◌, ◌≤◌}
use mathlib.Core.Path.{◌≡◌, refl, ap₂, subst⁻¹}
use mathlib.Core.List.{List}
use native.Mathlib.Nat.{mul-le-mul}
use native.Mathlib.Omega.{arith}
use Rattle.model.specs.declared.Layout.{Layout}
use Rattle.model.specs.Words.{layout_of, problem_of}
use Rattle.model.specs.Verdict.{accepted}
use Rattle.model.specs.Reading.{read_of}
use Rattle.model.proofs.ReadingLaws.{layout_laid}
use Rattle.model.proofs.FileLaws.{complete, ranged}
use Rattle.instance.specs.declared.file.File.{File}
use Rattle.instance.specs.Filed.{Filed}

-- weeks and units are the layout's own numbers
weeks_laid : (ws : List ℕ) → (problem_of ws).weeks ≡ (layout_of ws).weeks
unfolding problem_of
weeks_laid ws = refl

units_laid : (ws : List ℕ) → (problem_of ws).units ≡ (layout_of ws).units
unfolding problem_of
units_laid ws = refl

module _ (ws : List ℕ) (e : read_of ws ≡ accepted) where
  abbrev l : Layout
  l = layout_of ws

  filed_laid : Filed ws (layout_of ws)
  filed_laid =
      let r = ranged ws e in
      let c = complete ws e in
      let w = weeks_laid ws in
      let u = units_laid ws in
      let wm : l.weeks ≤ 52 = omega (arith, r.weeks_most) in
      let um : l.units ≤ 16 = omega (arith, r.units_most) in
      record {
        passed = e;
        laid = refl;
        weeks_are = w;
        units_are = u;
        weeks_some = omega (arith, r.weeks_some);
        weeks_most = wm;
        units_some = omega (arith, r.units_some);
        units_most = um;
        cells_most = mul-le-mul wm um;
        sections = layout_laid ws;
        long = omega (arith, c.exact);
        short = omega (arith, c.exact, r.pairs_most);
      }

-- the file was accepted, and l was computed from it
pub filed : (ws : List ℕ) (l : Layout) → read_of ws ≡ accepted → l ≡ layout_of ws → Filed ws l
filed ws l e laid = subst⁻¹ (Filed ws) laid (filed_laid ws e)

-- the file of accepted words, wherever they stand
abbrev pub file_of : (ws : List ℕ) → read_of ws ≡ accepted → File
file_of ws e = record { words = record { ref_ptr = (0, 0); now = ws }; layout = layout_of ws; filed = filed ws (layout_of ws) e refl }

-- so a grid has as many cells
pub cells_are : (ws : List ℕ) (l : Layout) → Filed ws l → (problem_of ws).weeks * (problem_of ws).units ≡ l.weeks * l.units
cells_are ws l f = ap₂ (λ (w u : ℕ). w * u) f.weeks_are f.units_are
