-- What watches have judged.
use Rattle.std.specs.Prelude.{◌↔◌, ℕ, zero, suc, Bool, true, false, List, [], ◌∷◌, IsTrue}
use Rattle.pz_watch.specs.declared.watch.Watch.{Watch}
use Rattle.pz_watch.specs.Points.{Point}
use Rattle.pz_watch.specs.Files.{NamedFormula}
use Rattle.pz_watch.specs.Breaking.{AreBroken}
use Rattle.pz_watch.specs.devices.Standing.{StandsForNamed, StandForEach}
use Rattle.pz_watch_judging.specs.declared.watching.Watching.{Watching}

-- there is one
abbrev pub has_some : List NamedFormula → Bool
has_some [] = false
has_some (w ∷ ws) = true

-- the watches stand for these formulas and these points, and whether one was broken is known
pub record HasJudged (ws : List NamedFormula) (points : List Point) (watching : Watching) : Type 0 where
  pub stand : StandForEach watching.watches.items ws points
  pub broken : IsTrue watching.broken ↔ AreBroken ws points

-- the first so many watches have judged one point more than the others
abbrev pub StandHalf : ℕ → List Watch → List NamedFormula → List Point → List Point → Type 0
StandHalf zero watches ws before after = StandForEach watches ws before
StandHalf (suc k) [] [] before after = Unit {0}
StandHalf (suc k) [] (w ∷ ws) before after = ⊥
StandHalf (suc k) (watch ∷ watches) [] before after = ⊥
StandHalf (suc k) (watch ∷ watches) (w ∷ ws) before after = StandsForNamed watch w after × StandHalf k watches ws before after
