-- What has opened inside, and the last of the frames round it.
use Rattle.std.specs.Prelude.{◌≡◌, Bool, true, false, [], Option, Some, None}
use Rattle.pz_rules.specs.pz_state.Marks.{Seen, changed}
use Rattle.pz_rules.specs.pz_state.declared.state.FrameId.{FrameId}
use Rattle.pz_rules.specs.Terms.{Term, Terms, frame}
use Rattle.pz_rules.specs.Settings.{Process, left_by, Home}
use Rattle.pz_rules.specs.Framing.{framed}
use Rattle.pz_rules.specs.Opening.{Beside, opened_all}
use Rattle.pz_part_opening.specs.declared.opening.Descent.{Descent}
use Rattle.pz_part_opening.specs.declared.spot.Spot.{Spot}
use Rattle.pz_part_opening.specs.devices.Spots.{spot_view}

abbrev pub round_frame : Option FrameId → Process → Process
round_frame None x = x
round_frame (Some number) x = left_by x.state (framed number.0 0 [] x.term)

-- round a term that is no frame without outputs
abbrev pub frame_round : Option FrameId → Term → Term
frame_round None t = t
frame_round (Some number) t = frame number.0 0 [] t

-- without numbers of frames, where there is one
abbrev pub round_outline : Bool → Term → Term
round_outline true t = framed 0 0 [] t
round_outline false t = t

-- further in, and after the frames on the way, as much opens as from here
pub record LeadsIn (h : Home) (spot : Spot) (inner : Descent) (old new : Seen) : Type 0 where
  pub opens : opened_all h (spot_view spot) old.held ≡ round_frame inner.frame (opened_all h (spot_view inner.spot) new.held)
  pub marks : new ≡ changed old new.held

-- these terms stand side by side, in the state that their opening leaves
pub record BecameBeside (xs : Beside) (ts : Terms) (old new : Seen) : Type 0 where
  pub terms : ts ≡ xs.terms
  pub state : new ≡ changed old xs.state
