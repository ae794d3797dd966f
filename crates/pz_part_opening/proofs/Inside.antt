-- What opens where nothing further in does, what opens further in, and frames round it.
use Rattle.std.proofs.Common.{◌≡◌, ℕ, false, [], ◌∷◌, Option, Some, None, refl, sym, subst, ap, ◌∙◌, inl, inr}
use Rattle.std.proofs.lemmas.Option.{same_Some, none-some}
use Rattle.pz_classes_code.specs.pz_syntax.Expressions.{none, more}
use Rattle.pz_classes_code.specs.pz_syntax.Statements.{bracketed, guarded, parallel, select, abort, interrupt, call, no_statements, then}
use Rattle.pz_rules.specs.pz_state.States.{StateView, IsLeastFree, opened as with_frame}
use Rattle.pz_rules.specs.pz_state.Marks.{Seen, changed}
use Rattle.pz_rules.specs.pz_state.declared.state.FrameId.{FrameId}
use Rattle.pz_rules.specs.Terms.{Step, Steps, Term, leaf}
use Rattle.pz_rules.specs.Settings.{Process, left_by, Home}
use Rattle.pz_rules.specs.Framing.{framed}
use Rattle.pz_rules.specs.Laws.{OneNumberIsLeast}
use Rattle.pz_rules.specs.Opening.{in_frame, opened, opened_all}
use Rattle.pz_rules.specs.Becoming.{Became}
use Rattle.pz_rules.specs.CallLaws.{CallsUnfold, CallsStand, CallsOfNoneStand}
use Rattle.pz_part_opening.specs.Bare.{is_bare}
use Rattle.pz_part_opening.specs.declared.opening.Descent.{Descent}
use Rattle.pz_part_opening.specs.declared.spot.Spot.{Spot}
use Rattle.pz_part_opening.specs.devices.Spots.{spot_view, Stands, StepStands, IsBracketOf, IsCallOf, IsInside}
use Rattle.pz_part_opening.specs.devices.Rounds.{round_frame, frame_round, LeadsIn}
use Rattle.pz_part_opening.proofs.Forms.{IsSmall}
use Rattle.pz_part_opening.proofs.Framings.{framed_again, framed_as}

-- frames

round_again : (outer : Option FrameId) (number : FrameId) (x : Process) → round_frame outer (round_frame (Some number) x) ≡ round_frame (Some number) x
round_again None number x = refl
round_again (Some outer) number x = ap (left_by x.state) (framed_again outer.0 number.0 x.term)

frame_round_is : (outer : Option FrameId) (x : Process) → is_bare x.term ≡ false → round_frame outer x ≡ left_by x.state (frame_round outer x.term)
frame_round_is None x bare = refl
frame_round_is (Some number) x bare = ap (left_by x.state) (framed_as number.0 x.term bare)

-- what stands there, and has no inside, opens as no frame without outputs
module _ (stands : CallsStand) (no_method : CallsOfNoneStand) where
  step_not_bare : (h : Home) (r : Step) (s : StateView) → StepStands h r → is_bare (opened h r s).term ≡ false
  step_not_bare h (bracketed pos ts) s there = absurd there
  step_not_bare h (call pos method none []) s (inl one) = ap (λ (x : Process). is_bare x.term) (stands h pos method s one)
  step_not_bare h (call pos method none []) s (inr none_there) = ap (λ (x : Process). is_bare x.term) (no_method h pos method s none_there)
  step_not_bare h (call pos method none (x ∷ xs)) s there = refl
  step_not_bare h (call pos method (more e es) results) s there = refl
  step_not_bare h r s there = refl

  not_bare : (h : Home) (ts : Steps) (s : StateView) → Stands h ts → is_bare (opened_all h ts s).term ≡ false
  not_bare h no_statements s there = refl
  not_bare h ((then) r no_statements) s there = step_not_bare h r s there
  not_bare h ((then) r ((then) q rest)) s there = refl

  -- and as a leaf, if it has no parts that open
  leaf_opens : (h : Home) (r : Step) (s : StateView) → StepStands h r → IsSmall r → opened h r s ≡ left_by s (leaf r)
  leaf_opens h (bracketed pos ts) s there small = absurd there
  leaf_opens h (guarded pos test t) s there small = absurd small
  leaf_opens h (parallel pos bs) s there small = absurd small
  leaf_opens h (select pos bs) s there small = absurd small
  leaf_opens h (abort pos ts t) s there small = absurd small
  leaf_opens h (interrupt pos ts t) s there small = absurd small
  leaf_opens h (call pos method none []) s (inl one) small = stands h pos method s one
  leaf_opens h (call pos method none []) s (inr none_there) small = no_method h pos method s none_there
  leaf_opens h (call pos method none (x ∷ xs)) s there small = refl
  leaf_opens h (call pos method (more e es) results) s there small = refl
  leaf_opens h r s there small = refl

  pub leaf_became : (h : Home) (r : Step) (t : Term) (s : Seen) → StepStands h r → IsSmall r → t ≡ leaf r → Became (opened h r s.held) t s s
  leaf_became h r t s there small is = record {
    term = is ∙ ap (λ (p : Process). p.term) (sym (leaf_opens h r s.held there small));
    state = ap (λ (p : Process). changed s p.state) (sym (leaf_opens h r s.held there small));
  }

-- ways in

abbrev descent : Option FrameId → Spot → Descent
descent outer inner = record { frame = outer; spot = inner }

-- into a bracket
into_bracket : (h : Home) (spot here inner : Spot) (outer : Option FrameId) (old new : Seen) → IsBracketOf (spot_view here) (spot_view inner)
    → LeadsIn h spot (descent outer here) old new → LeadsIn h spot (descent outer inner) old new
into_bracket h spot here inner outer old new is so_far = record {
  opens = so_far.opens ∙ ap (λ (ts : Steps). round_frame outer (opened_all h ts new.held)) is.is;
  marks = so_far.marks;
}

-- into the body of a method, in a frame
module _ (unfolds : CallsUnfold) (one : OneNumberIsLeast) where
  call_unfolds : (h : Home) (whole inner : Steps) (locals : ℕ) (s : StateView) → IsCallOf h whole locals inner → opened_all h whole s ≡ in_frame locals (opened_all h inner) s
  call_unfolds h whole inner locals s is =
      ap (λ (ts : Steps). opened_all h ts s) is.is ∙ unfolds h is.pos is.method locals inner s is.opens is.called

  framed_inside : (h : Home) (inner : Steps) (locals : ℕ) (number : FrameId) (s : StateView) → IsLeastFree s.frames number.0
      → in_frame locals (opened_all h inner) s ≡ round_frame (Some number) (opened_all h inner (with_frame s number.0 locals))
  framed_inside h inner locals number s least =
      ap (λ (n : ℕ). let x = opened_all h inner (with_frame s n locals) in left_by x.state (framed n 0 [] x.term)) (sym (one s.frames number.0 least))

  into_call : (h : Home) (spot here inner : Spot) (outer : Option FrameId) (number : FrameId) (locals : ℕ) (old mid new : Seen) → IsCallOf h (spot_view here) locals (spot_view inner)
      → IsLeastFree mid.held.frames number.0 → new ≡ changed mid (with_frame mid.held number.0 locals)
      → LeadsIn h spot (descent outer here) old mid → LeadsIn h spot (descent (Some number) inner) old new
  into_call h spot here inner outer number locals old mid new is least opened_one so_far = record {
    opens = so_far.opens
        ∙ ap (round_frame outer) (call_unfolds h (spot_view here) (spot_view inner) locals mid.held is ∙ framed_inside h (spot_view inner) locals number mid.held least)
        ∙ round_again outer number (opened_all h (spot_view inner) (with_frame mid.held number.0 locals))
        ∙ ap (λ (s : Seen). round_frame (Some number) (opened_all h (spot_view inner) s.held)) (sym opened_one);
    marks = opened_one ∙ ap (λ (s : Seen). changed s (with_frame mid.held number.0 locals)) so_far.marks ∙ ap (λ (s : Seen). changed old s.held) (sym opened_one);
  }

  -- one way further
  pub by_call : (h : Home) (spot here inner : Spot) (locals : Option ℕ) (count : ℕ) (number : FrameId) (outer after : Option FrameId) (old mid new : Seen)
      → IsInside h (spot_view here) locals (spot_view inner) → locals ≡ Some count → IsLeastFree mid.held.frames number.0 → new ≡ changed mid (with_frame mid.held number.0 count) → after ≡ Some number
      → LeadsIn h spot (descent outer here) old mid → LeadsIn h spot (descent after inner) old new
  by_call h spot here inner None count number outer after old mid new is some least opened_one last so_far = absurd (none-some count some)
  by_call h spot here inner (Some locals) count number outer after old mid new is some least opened_one last so_far =
      let called : IsCallOf h (spot_view here) count (spot_view inner) = subst (λ (n : ℕ). IsCallOf h (spot_view here) n (spot_view inner)) (same_Some locals count some) is in
      subst (λ (f : Option FrameId). LeadsIn h spot (descent f inner) old new) (sym last) (into_call h spot here inner outer number count old mid new called least opened_one so_far)

pub by_bracket : (h : Home) (spot here inner : Spot) (locals : Option ℕ) (outer after : Option FrameId) (old mid new : Seen) → IsInside h (spot_view here) locals (spot_view inner) → locals ≡ None → new ≡ mid
    → after ≡ outer → LeadsIn h spot (descent outer here) old mid → LeadsIn h spot (descent after inner) old new
by_bracket h spot here inner None outer after old mid new is none_there same last so_far =
    subst (λ (f : Option FrameId). LeadsIn h spot (descent f inner) old new) (sym last)
    (subst (λ (s : Seen). LeadsIn h spot (descent outer inner) old s) (sym same) (into_bracket h spot here inner outer old mid is so_far))
by_bracket h spot here inner (Some locals) outer after old mid new is none_there same last so_far = absurd (none-some locals (sym none_there))

-- what opened inside, with a frame round it
module _ (stands : CallsStand) (no_method : CallsOfNoneStand) where
  pub with_round : (h : Home) (spot : Spot) (inner : Descent) (old mid new : Seen) (t whole : Term) → LeadsIn h spot inner old mid → Stands h (spot_view inner.spot)
      → Became (opened_all h (spot_view inner.spot) mid.held) t mid new → whole ≡ frame_round inner.frame t
      → Became (opened_all h (spot_view spot) old.held) whole old new
  with_round h spot inner old mid new t whole leads there became is =
      let x = opened_all h (spot_view inner.spot) mid.held in
      let same : opened_all h (spot_view spot) old.held ≡ left_by x.state (frame_round inner.frame x.term)
      = leads.opens ∙ frame_round_is inner.frame x (not_bare stands no_method h (spot_view inner.spot) mid.held there) in
      record {
        term = is ∙ ap (frame_round inner.frame) became.term ∙ ap (λ (p : Process). p.term) (sym same);
        state = became.state ∙ ap (λ (s : Seen). changed s x.state) leads.marks ∙ ap (λ (p : Process). changed old p.state) (sym same);
      }
