-- Laws of places.
use Rattle.std.specs.Prelude.{ℕ}
use Rattle.pz_rules.specs.pz_offer.PlaceOrder.{Place}
use Rattle.pz_rules.specs.Terms.{Term}
use Rattle.pz_rules.specs.Settings.{Context}
use Rattle.pz_rules.specs.Active.{IsActive}
use Rattle.pz_rules.specs.Places.{MayAct}

-- active parts stand where a part may act
abbrev pub ActivePartsMayAct : Type 0
ActivePartsMayAct = (a : Context) (t : Term) (place : Place) (frame : ℕ) (part : Term) → IsActive a t place frame part → MayAct t place
