-- What the code's walk of a term lists.
use Rattle.std.specs.Prelude.{◌≡◌, ◌<◌, ◌^◌, ℕ, Bool, true, false, List, [], ◌∷◌, map, Option, Some, None}
use Rattle.pz_rules.specs.pz_copy.Packing.{IsParcelOf}
use Rattle.pz_rules.specs.Terms.{Term, wait}
use Rattle.pz_rules.specs.Settings.{Context}
use Rattle.pz_rules.specs.devices.Walk as walk
use Rattle.pz_rules.specs.devices.Walk.{ActivePart, active_parts, waiting, Noted, internal_actions, active_sends, active_receives, active_delays, active_troubles}
use Rattle.pz_term_enabled.specs.declared.found.Doing.{Doing}
use Rattle.pz_term_enabled.specs.declared.found.ActiveSend.{ActiveSend}
use Rattle.pz_term_enabled.specs.declared.found.ActiveReceive.{ActiveReceive}
use Rattle.pz_term_enabled.specs.declared.found.Found.{Found}

abbrev pub doing_view : Doing → Noted walk.Doing
doing_view d = record { place = d.place; what = record { kind = d.kind; pos = d.pos } }

abbrev pub receiving_view : ActiveReceive → Noted walk.ActiveReceive
receiving_view r = record { place = r.place; what = record { pos = r.pos; port = r.port; message = r.message; count = r.count } }

-- a send, with the parcel of its values
pub record Carries (x : ActiveSend) (n : Noted walk.ActiveSend) : Type 0 where
  pub place : x.place ≡ n.place
  pub pos : x.pos ≡ n.what.pos
  pub port : x.port ≡ n.what.port
  pub message : x.message ≡ n.what.message
  pub parcel : IsParcelOf n.what.state n.what.values x.parcel

-- each of them, in order
abbrev pub CarryAll : List ActiveSend → List (Noted walk.ActiveSend) → Type 0
CarryAll [] [] = Unit {0}
CarryAll (x ∷ xs) (n ∷ ns) = Carries x n × CarryAll xs ns
CarryAll xs ns = ⊥

abbrev pub whats : {X : Type 0} → List (Noted X) → List X
whats ns = map (λ n. n.what) ns

abbrev pub has_begun : Term → Bool
has_begun (wait left at) = true
has_begun _ = false

-- less than 2^64 clock units, if any
abbrev pub IsFew : Option ℕ → Type 0
IsFew None = Unit {0}
IsFew (Some left) = left < 2 ^ 64

-- a delay that has not begun takes less than 2^64 clock units
abbrev pub BeginsShort : Context → ℕ → Term → Type 0
BeginsShort a f t = has_begun t ≡ false → IsFew (waiting a f t)

abbrev pub AllBeginShort : Context → List ActivePart → Type 0
AllBeginShort a [] = Unit {0}
AllBeginShort a (p ∷ ps) = BeginsShort a p.frame p.part × AllBeginShort a ps

-- all that is listed is what the walk of the whole term lists, and delays that have not begun are short
pub record IsWalked (a : Context) (t : Term) (found : Found) : Type 0 where
  pub internal : map doing_view found.internal.items ≡ internal_actions a t
  pub sends : CarryAll found.sends.items (active_sends a t)
  pub receives : map receiving_view found.receives.items ≡ active_receives a t
  pub delays : found.delays.items ≡ whats (active_delays a t)
  pub troubles : found.troubles.items ≡ whats (active_troubles a t)
  pub times : AllBeginShort a (active_parts a 0 t)
