-- Which watches are broken, and the lines that say so.
use Rattle.std.specs.Prelude.{◌≢◌, ◌<◌, ℕ, List, [], ◌∷◌, ◌++◌, length, codes, if◌then◌else◌}
use Rattle.pz_watch.specs.Points.{Point}
use Rattle.pz_watch.specs.Formulas.{holds}
use Rattle.pz_watch.specs.Files.{NamedFormula}

-- the watches that are broken at point i: those whose formulas do not hold there, in the file's order
abbrev pub broken_at : List NamedFormula → List Point → ℕ → List NamedFormula
broken_at [] points i = []
broken_at (w ∷ ws) points i =
    if holds w.formula points i then broken_at ws points i else (w ∷ broken_at ws points i)

-- a line `broken NAME` for each
abbrev pub broken_lines : List NamedFormula → List ℕ
broken_lines [] = []
broken_lines (w ∷ ws) = codes "broken " ++ (w.name ++ (codes "\n" ++ broken_lines ws))

-- some watch is broken at some point of the run
pub record AreBroken (ws : List NamedFormula) (points : List Point) : Type 0 where
  pub at : ℕ
  pub within : at < length points
  pub broken : broken_at ws points at ≢ []
