-- The parts of a term by their places.
use Rattle.std.specs.Prelude.{◌≡◌, ℕ}
use Rattle.pz_rules.specs.pz_offer.PlaceOrder.{Place}
use Rattle.pz_rules.specs.Terms.{Term}
use Rattle.pz_rules.specs.Settings.{Context}
use Rattle.pz_rules.specs.Active.{Active}

-- of a term that stands in frame f: an active part at the place is this one, in this frame
abbrev pub IsPartAt : ℕ → Term → Place → ℕ → Term → Type 0
IsPartAt f t place frame part = (a : Context) (g : ℕ) (x : Term) → Active a f t place g x → (frame ≡ g) × (part ≡ x)
