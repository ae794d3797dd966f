-- Where the environment has done its script, the system is alone.
use Rattle.std.proofs.Common.{◌≡◌, ◌<◌, sym, ◌∙◌, ℕ, Bool, true, List, length, Ok, Err, Result, arith}
use Rattle.std.proofs.lemmas.Option.{slice_get_within}
use Rattle.std.proofs.lemmas.List.Elements.{All-weaker}
use Rattle.pz_trace.specs.pz_copy.Parcels.{ParcelView}
use Rattle.pz_trace.specs.pz_bind_rules.Nest.{processes}
use Rattle.pz_trace.specs.pz_offer.declared.end.End.{End}
use Rattle.pz_trace.specs.pz_offer.declared.trouble.Trouble.{Trouble}
use Rattle.pz_trace.specs.pz_rules.declared.action.Action.{Action}
use Rattle.pz_trace.specs.pz_rules.declared.moment.Moment.{Moment}
use Rattle.pz_trace.specs.pz_rules.Terms.{Term}
use Rattle.pz_trace.specs.pz_rules.Settings.{Context}
use Rattle.pz_trace.specs.pz_rules.Offers.{PartAt, IsPair, IsJudged, Offers, internal, communication, IsOffers}
use Rattle.pz_trace.specs.pz_rules.Moments as moments
use Rattle.pz_trace.specs.pz_rules.Moments.{Source, Troubles, IsLeastTrouble, IsLeft, Candidate, IsMoment}
use Rattle.pz_env_rules.specs.Environment.{Line, over, waits, offers}
use Rattle.pz_env_rules.specs.Joining.{Driving}
use Rattle.pz_env_rules.specs.Driven.{Driven, environment_end}
use Rattle.pz_env_rules.specs.Offers as driven
use Rattle.pz_env_rules.specs.Offers.{IsDrivenPair, IsDrivenJudged, DrivenOffers, acts, expires, communicates, to_system, from_system, IsDrivenOffers}
use Rattle.pz_env_rules.specs.Moments as driven_moments
use Rattle.pz_env_rules.specs.Moments.{DrivenTroubles, spent, IsLeastDrivenTrouble, IsDrivenLeft, DrivenCandidate, IsDrivenMoment}

module _ (g : Driving) (d : Driven) (done : d.environment.doing ≡ over) where
  never_offers : (x : Line) (rest : List Line) → d.environment.doing ≡ offers x rest → ⊥
  never_offers x rest e = let never : over ≡ offers x rest = sym done ∙ e in cc

  never_waits : (left : ℕ) (x : Line) (rest : List Line) → d.environment.doing ≡ waits left x rest → ⊥
  never_waits left x rest e = let never : over ≡ waits left x rest = sym done ∙ e in cc

  -- no process has the number of the environment
  no_part : (a : Context) (frame : ℕ) (part : Term) → PartAt g.setting d.system (environment_end g) a frame part → ⊥
  no_part a frame part at =
      let within : length (processes g.setting.model) < length (processes g.setting.model) =
      slice_get_within (processes g.setting.model) (length (processes g.setting.model)) at.stands.place at.stands.is_process
      in
      omega arith

  -- Offers

  pair_alone : (w : ℕ) (s r : End) (message : List ℕ) (parcel : ParcelView) → IsDrivenPair g d w s r message parcel → IsPair g.setting d.system w s r message parcel
  pair_alone w s r message parcel (driven.of_processes _ _ _ _ _ is) = is
  pair_alone w _ r _ _ (to_system _ _ x rest values is on hears) = absurd (never_offers x rest is.doing)
  pair_alone w s _ _ parcel (from_system _ _ x rest _ is on says) = absurd (never_offers x rest is.doing)

  judged_alone : (w : ℕ) (s r : End) (message : List ℕ) (parcel : ParcelView) (v : Result Bool Trouble) → IsPair g.setting d.system w s r message parcel → IsDrivenJudged g d r parcel v → IsJudged g.setting d.system r parcel v
  judged_alone w s r message parcel v pair (driven.by_process _ _ _ is) = is
  judged_alone w s _ message parcel _ pair (driven.by_environment _) =
      absurd (no_part pair.receives_at pair.receives_frame pair.receives_part pair.receiver_active)

  offer_alone : (a : Action) → DrivenOffers g d a → Offers g.setting d.system a
  offer_alone _ (acts at kind pos is) = is
  offer_alone _ (expires x rest is) = absurd (never_waits 0 x rest is)
  offer_alone _ (communicates w s r message parcel is takes) =
      let pair = pair_alone w s r message parcel is in
      communication w s r message parcel pair (judged_alone w s r message parcel (Ok true) pair takes)

  offer_back : (a : Action) → Offers g.setting d.system a → DrivenOffers g d a
  offer_back _ (internal at a frame part kind pos is can) = acts at kind pos (internal at a frame part kind pos is can)
  offer_back _ (communication w s r message parcel is takes) =
      communicates w s r message parcel (driven.of_processes w s r message parcel is) (driven.by_process r parcel (Ok true) takes)

  pub offers_alone : (actions : List Action) → IsDrivenOffers g d actions → IsOffers g.setting d.system actions
  offers_alone actions is = record {
    ordered = is.ordered;
    derivable = All-weaker (DrivenOffers g d) (Offers g.setting d.system) offer_alone actions is.derivable;
    every = λ a h. is.every a (offer_back a h);
  }

  pub offers_back : (actions : List Action) → IsOffers g.setting d.system actions → IsDrivenOffers g d actions
  offers_back actions is = record {
    ordered = is.ordered;
    derivable = All-weaker (Offers g.setting d.system) (DrivenOffers g d) offer_back actions is.derivable;
    every = λ a h. is.every a (offer_alone a h);
  }

  -- Troubles

  trouble_alone : (source : Source) (t : Trouble) → DrivenTroubles g d source t → Troubles g.setting d.system source t
  trouble_alone _ t (driven_moments.asked at _ is) = is
  trouble_alone _ t (driven_moments.judged w s r message parcel _ is says) =
      let pair = pair_alone w s r message parcel is in
      moments.judged w s r message parcel t pair (judged_alone w s r message parcel (Err t) pair says)
  trouble_alone _ _ (spent x rest values is sends more) = absurd (never_offers x rest is)

  trouble_back : (source : Source) (t : Trouble) → Troubles g.setting d.system source t → DrivenTroubles g d source t
  trouble_back _ t (moments.asked at a frame part _ is asks) =
      driven_moments.asked at t (moments.asked at a frame part t is asks)
  trouble_back _ t (moments.judged w s r message parcel _ is says) =
      driven_moments.judged w s r message parcel t (driven.of_processes w s r message parcel is) (driven.by_process r parcel (Err t) says)

  least_alone : (t : Trouble) → IsLeastDrivenTrouble g d t → IsLeastTrouble g.setting d.system t
  least_alone t is = record { source = is.source; occurs = trouble_alone is.source t is.occurs; least = λ other u h. is.least other u (trouble_back other u h) }

  least_back : (t : Trouble) → IsLeastTrouble g.setting d.system t → IsLeastDrivenTrouble g d t
  least_back t is = record { source = is.source; occurs = trouble_back is.source t is.occurs; least = λ other u h. is.least other u (trouble_alone other u h) }

  -- Delays

  left_alone : (left : ℕ) → IsDrivenLeft g d left → IsLeft g.setting d.system left
  left_alone _ (driven_moments.of_process left is) = is
  left_alone _ (driven_moments.of_environment left x rest is) = absurd (never_waits left x rest is)

  -- Moments

  candidate_alone : (m : Moment) → DrivenCandidate g d m → Candidate g.setting d.system m
  candidate_alone _ (driven_moments.high t is) = moments.high t is
  candidate_alone _ (driven_moments.faulty t is) = moments.faulty t (least_alone t is)
  candidate_alone _ (driven_moments.acting actions is some) = moments.acting actions (offers_alone actions is) some
  candidate_alone _ (driven_moments.passing time is) =
      moments.passing time (record { is_left = left_alone time is.is_left; least = λ left h. is.least left (driven_moments.of_process left h) })
  candidate_alone _ (driven_moments.finished is) = moments.finished is.system
  candidate_alone _ driven_moments.deadlock = moments.deadlock

  candidate_back : (m : Moment) → Candidate g.setting d.system m → DrivenCandidate g d m
  candidate_back _ (moments.high t is) = driven_moments.high t is
  candidate_back _ (moments.faulty t is) = driven_moments.faulty t (least_back t is)
  candidate_back _ (moments.acting actions is some) = driven_moments.acting actions (offers_back actions is) some
  candidate_back _ (moments.passing time is) =
      driven_moments.passing time (record { is_left = driven_moments.of_process time is.is_left; least = λ left h. is.least left (left_alone left h) })
  candidate_back _ (moments.finished is) = driven_moments.finished (record { system = is; environment = done })
  candidate_back _ moments.deadlock = driven_moments.deadlock

  pub moment_alone : (m : Moment) → IsDrivenMoment g d m → IsMoment g.setting d.system m
  moment_alone m is = record { applies = candidate_alone m is.applies; first = λ n h. is.first n (candidate_back n h) }

  pub moment_back : (m : Moment) → IsMoment g.setting d.system m → IsDrivenMoment g d m
  moment_back m is = record { applies = candidate_back m is.applies; first = λ n h. is.first n (candidate_alone n h) }
