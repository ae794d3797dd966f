-- What a simulator needs to come to an end, and to find what a statement names.
use Rattle.std.specs.Prelude.{◌<◌, ℕ}
use Rattle.pz_bind_rules.specs.pz_syntax.Classes.{ModelTree}
use Rattle.pz_offer.specs.PlaceOrder.{Place}
use Rattle.pz_rules.specs.declared.moment.Moment.TheVariants.{Time}
use Rattle.pz_rules.specs.Terms.{Term}
use Rattle.pz_rules.specs.Settings.{Setting, Context}
use Rattle.pz_rules.specs.Active.{Active}
use Rattle.pz_rules.specs.Ports.{HasWires}
use Rattle.pz_rules.specs.Fitting.{TermFits}
use Rattle.pz_rules.specs.Configurations.{Config, IsWhole}
use Rattle.pz_rules.specs.Steps.{PassesTo}
use Rattle.pz_rules.specs.Moments.{IsMoment}
use Rattle.pz_rules.specs.devices.Pending.{list_pending}

-- a passing of time leaves fewer delays that may have something left
abbrev pub PassingsEnd : Type 0
PassingsEnd = (setting : Setting) (c next : Config) (d : ℕ) → HasWires setting.model → IsWhole setting c → IsMoment setting c (Time d) → PassesTo setting c d next
    → list_pending next.processes < list_pending c.processes

-- an active part of a term that fits a class fits it too, with so many locals around it
abbrev pub ActivePartsFit : Type 0
ActivePartsFit = (m : ModelTree) (class locals : ℕ) (a : Context) (f : ℕ) (t : Term) (place : Place) (g : ℕ) (part : Term)
    → Active a f t place g part → TermFits m class locals t → (inner : ℕ) × TermFits m class inner part
