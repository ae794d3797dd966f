-- Which formula and which points a watch stands for.
use Rattle.std.specs.Prelude.{◌≡◌, ℕ, List, [], ◌∷◌, Result, IfOk}
use Rattle.pz_watch.specs.declared.monitor.Monitor.{Monitor}
use Rattle.pz_watch.specs.declared.watch.Watch.{Watch}
use Rattle.pz_watch.specs.Points.{Point}
use Rattle.pz_watch.specs.Formulas.{Formula}
use Rattle.pz_watch.specs.Files.{NamedFormula}
use Rattle.pz_watch.specs.devices.Memory.{behind}
use Rattle.pz_watch.specs.devices.MonitorView.{memory_of}

-- nothing is kept of the formula yet
abbrev pub IsFresh : Monitor → Formula → Type 0
IsFresh monitor f = memory_of monitor ≡ behind f []

-- a monitor that is made, if it is, is fresh for the formula that is made alike of that of its part
abbrev pub IsMadeOf : {E : Type 0} → (Formula → Formula) → Monitor → Result Monitor E → Type 0
IsMadeOf make part result = (f : Formula) → IsFresh part f → IfOk result (λ m. IsFresh m (make f))

-- .. of those of its two parts
abbrev pub IsMadeOfBoth : {E : Type 0} → (Formula → Formula → Formula) → Monitor → Monitor → Result Monitor E → Type 0
IsMadeOfBoth make first second result =
    (f g : Formula) → IsFresh first f → IsFresh second g → IfOk result (λ m. IsFresh m (make f g))

-- what it keeps is what is kept of the formula behind these points
abbrev pub StandsFor : Watch → Formula → List Point → Type 0
StandsFor watch f points = memory_of watch.monitor ≡ behind f points

abbrev pub name_in : Watch → List ℕ
name_in watch = watch.name

-- it stands for this formula under its name, and for these points
abbrev pub StandsForNamed : Watch → NamedFormula → List Point → Type 0
StandsForNamed watch w points = (name_in watch ≡ w.name) × StandsFor watch w.formula points

-- as many watches as formulas, and each stands for its own
abbrev pub StandForEach : List Watch → List NamedFormula → List Point → Type 0
StandForEach [] [] points = Unit {0}
StandForEach [] (w ∷ ws) points = ⊥
StandForEach (watch ∷ watches) [] points = ⊥
StandForEach (watch ∷ watches) (w ∷ ws) points = StandsForNamed watch w points × StandForEach watches ws points
