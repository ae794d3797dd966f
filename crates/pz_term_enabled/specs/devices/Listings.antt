-- What is listed of some active parts, seen from further out, behind what was listed before.
use Rattle.std.specs.Prelude.{◌≡◌, ℕ, List, ◌++◌, map, Option, Some, None, Ok}
use Rattle.pz_classes_code.specs.pz_syntax.declared.tokens.Pos.{Pos}
use Rattle.pz_rules.specs.pz_offer.PlaceOrder.{Place}
use Rattle.pz_rules.specs.pz_offer.declared.trouble.Trouble.{Trouble}
use Rattle.pz_rules.specs.declared.action.Kind.{Kind}
use Rattle.pz_rules.specs.Terms.{Term}
use Rattle.pz_rules.specs.Settings.{Context}
use Rattle.pz_rules.specs.devices.Walk as walk
use Rattle.pz_rules.specs.devices.Walk.{ActivePart, Noted, does, sent_by, received_by, waiting, troubled_by, noted, doing, expiry}
use Rattle.pz_term_enabled.specs.declared.found.ActiveSend.{ActiveSend}
use Rattle.pz_term_enabled.specs.declared.found.Found.{Found}
use Rattle.pz_term_enabled.specs.devices.Walked.{doing_view, receiving_view, CarryAll, whats, AllBeginShort}

-- seen from a term of which it stands in the part at this place
abbrev pub below : {X : Type 0} → Place → Noted X → Noted X
below place n = record { place = place ++ n.place; what = n.what }

-- the sends that are added
pub record AddsSends (a : Context) (place : Place) (ps : List ActivePart) (old new : List ActiveSend) : Type 0 where
  pub more : List ActiveSend
  pub added : new ≡ old ++ more
  pub carried : CarryAll more (map (below place) (noted (sent_by a) ps))

pub record Adds (a : Context) (place : Place) (ps : List ActivePart) (old new : Found) : Type 0 where
  pub internal : map doing_view new.internal.items ≡ map doing_view old.internal.items ++ map (below place) (noted (does a) ps)
  pub sends : AddsSends a place ps old.sends.items new.sends.items
  pub receives : map receiving_view new.receives.items ≡ map receiving_view old.receives.items ++ map (below place) (noted (λ f. received_by) ps)
  pub delays : new.delays.items ≡ old.delays.items ++ whats (noted (waiting a) ps)
  pub troubles : new.troubles.items ≡ old.troubles.items ++ whats (noted (troubled_by a) ps)
  pub times : AllBeginShort a ps

-- what is noted of one part
pub record Notes : Type 0 where
  pub does : Option walk.Doing
  pub sends : Option walk.ActiveSend
  pub receives : Option walk.ActiveReceive
  pub left : Option ℕ
  pub trouble : Option Trouble

abbrev pub notes_of : Context → ℕ → Term → Notes
notes_of a f t = record { does = does a f t; sends = sent_by a f t; receives = received_by t; left = waiting a f t; trouble = troubled_by a f t }

abbrev pub nothing : Notes
nothing = record { does = None; sends = None; receives = None; left = None; trouble = None }

abbrev pub only_does : Kind → Pos → Notes
only_does kind pos = record nothing { does = doing kind pos }

-- it can expire where nothing is left
abbrev pub only_waits : ℕ → Pos → Notes
only_waits left pos = record nothing { does = expiry pos (Ok left); left = Some left }

abbrev pub only_troubles : Trouble → Notes
only_troubles trouble = record nothing { trouble = Some trouble }

abbrev pub only_receives : Pos → ℕ → List ℕ → ℕ → Notes
only_receives pos port message count = record nothing { receives = Some (record { pos = pos; port = port; message = message; count = count }) }
