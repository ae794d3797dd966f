-- What may happen where a system has no process, so that the environment is alone.
use Rattle.std.proofs.Common.{◌≡◌, ◌<◌, ◌≤◌, inl, inr, refl, sym, ap, subst, ◌∙◌, ℕ, suc, List, [], ◌∷◌, length, Some, None, arith, lit≤}
use Rattle.std.specs.Prelude.{slice_get}
use Rattle.std.proofs.lemmas.List.Elements.{All-nil, All-cons}
use Rattle.pz_trace.specs.pz_syntax.declared.tokens.Pos.{Pos}
use Rattle.pz_trace.specs.pz_value.declared.value.Value.{Value}
use Rattle.pz_trace.specs.pz_copy.Parcels.{ParcelView}
use Rattle.pz_bind_levels.specs.Places.{Address}
use Rattle.pz_trace.specs.pz_bind_rules.Nest.{processes}
use Rattle.pz_trace.specs.pz_offer.declared.end.End.{End}
use Rattle.pz_trace.specs.pz_offer.declared.trouble.Trouble.{Trouble}
use Rattle.pz_trace.specs.pz_offer.declared.trouble.Trouble.TheVariants.{Spent}
use Rattle.pz_trace.specs.pz_rules.declared.action.Kind.{Kind}
use Rattle.pz_trace.specs.pz_rules.declared.action.Kind.TheVariants.{Expire}
use Rattle.pz_trace.specs.pz_rules.declared.action.Action.{Action}
use Rattle.pz_trace.specs.pz_rules.declared.action.Action.TheVariants.{Internal}
use Rattle.pz_trace.specs.pz_rules.declared.moment.Moment.{Moment}
use Rattle.pz_trace.specs.pz_rules.declared.moment.Moment.TheVariants.{Actions, Time, Deadlock, Faulty}
use Rattle.pz_trace.specs.pz_rules.Terms.{Term}
use Rattle.pz_trace.specs.pz_rules.Settings.{Context}
use Rattle.pz_trace.specs.pz_rules.Offers.{PartAt, Offers, internal}
use Rattle.pz_trace.specs.pz_rules.Moments as moments
use Rattle.pz_trace.specs.pz_rules.Moments.{IsFirstHigh, Source, part, SourceBefore, Troubles, rank}
use Rattle.pz_env_script.specs.declared.entry.Transfer.TheVariants.{Send}
use Rattle.pz_env_rules.specs.Environment.{Line, at_line, over, waits, offers}
use Rattle.pz_env_rules.specs.Joining.{Driving}
use Rattle.pz_env_rules.specs.Driven.{Driven, environment_number, environment_end}
use Rattle.pz_env_rules.specs.Offers.{IsDrivenPair, of_processes, to_system, from_system, DrivenOffers, acts, expires, communicates, IsDrivenOffers}
use Rattle.pz_env_rules.specs.Moments.{DrivenTroubles, asked, judged, spent, IsDrivenLeft, of_process, of_environment, DrivenCandidate, high, faulty, acting, passing, finished, deadlock, IsDrivenMoment}

module _ (g : Driving) (none : processes g.setting.model ≡ []) (d : Driven) where
  no_process : (i : ℕ) (place : Address) → slice_get (processes g.setting.model) i ≡ Some place → ⊥
  no_process i place e =
      let never : None ≡ Some place = ap (λ (ps : List Address). slice_get ps i) (sym none) ∙ e in
      cc

  no_part : (e : End) (a : Context) (frame : ℕ) (p : Term) → PartAt g.setting d.system e a frame p → ⊥
  no_part e a frame p at = no_process e.process at.stands.place at.stands.is_process

  no_pair : (w : ℕ) (s r : End) (message : List ℕ) (parcel : ParcelView) → IsDrivenPair g d w s r message parcel → ⊥
  no_pair w s r message parcel (of_processes _ _ _ _ _ is) = no_part s is.sends_at is.sends_frame is.sends_part is.sender_active
  no_pair w _ r _ _ (to_system _ _ x rest values is on hears) = no_part r hears.seen hears.frame hears.part hears.active
  no_pair w s _ _ parcel (from_system _ _ x rest _ is on says) = no_part s says.seen says.frame says.part says.active

  no_internal : (at : End) (kind : Kind) (pos : Pos) → Offers g.setting d.system (Internal at kind pos) → ⊥
  no_internal at kind pos (internal _ a frame p _ _ is can) = no_part at a frame p is

  -- Offers: the end of a wait, and nothing else

  pub record Expires (a : Action) : Type 0 where
    pub line : Line
    pub rest : List Line
    pub over_now : d.environment.doing ≡ waits 0 line rest
    pub is : Internal (environment_end g) Expire (at_line line) ≡ a

  offer_is : (a : Action) → DrivenOffers g d a → Expires a
  offer_is _ (acts at kind pos is) = absurd (no_internal at kind pos is)
  offer_is _ (expires x rest is) = record { line = x; rest = rest; over_now = is; is = refl }
  offer_is _ (communicates w s r message parcel is takes) = absurd (no_pair w s r message parcel is)

  abbrev IsNotOver : Type 0
  IsNotOver = (x : Line) (rest : List Line) → d.environment.doing ≡ waits 0 x rest → ⊥

  no_offers : IsNotOver → (actions : List Action) → IsDrivenOffers g d actions → 1 ≤ length actions → ⊥
  no_offers still [] is some = omega (arith, some)
  no_offers still (a ∷ more) is some =
      let at = offer_is a (is.derivable 0 a (omega arith)) in
      still at.line at.rest at.over_now

  same_line : (x y : Line) (r s : List Line) → waits 0 x r ≡ waits 0 y s → x ≡ y
  same_line x y r s e = cc

  pub one_offer : (x : Line) (rest : List Line) → d.environment.doing ≡ waits 0 x rest → IsDrivenOffers g d (Internal (environment_end g) Expire (at_line x) ∷ [])
  one_offer x rest is =
      record {
        ordered = λ i j a low within. absurd (omega (arith, low, within));
        derivable = All-cons (DrivenOffers g d) (Internal (environment_end g) Expire (at_line x)) [] (expires x rest is) (All-nil (DrivenOffers g d));
        every = λ a h. (let at = offer_is a h in
            let same : x ≡ at.line = same_line x at.line rest at.rest (sym is ∙ at.over_now) in
            (0, omega arith, ap (λ (y : Line). Internal (environment_end g) Expire (at_line y)) same ∙ at.is));
      }

  -- Troubles: more values than units, and nothing else

  pub record Spends (source : Source) (t : Trouble) : Type 0 where
    pub line : Line
    pub rest : List Line
    pub values : List Value
    pub doing : d.environment.doing ≡ offers line rest
    pub sends : line.entry.transfer ≡ Send values
    pub more : g.setting.limits.units < length values
    pub at : part (environment_end g) ≡ source

  no_asked : (at : End) (t : Trouble) → Troubles g.setting d.system (part at) t → ⊥
  no_asked at t (moments.asked _ a frame p _ is asks) = no_part at a frame p is

  trouble_is : (source : Source) (t : Trouble) → DrivenTroubles g d source t → Spends source t
  trouble_is _ t (asked at _ is) = absurd (no_asked at t is)
  trouble_is _ t (judged w s r message parcel _ is says) = absurd (no_pair w s r message parcel is)
  trouble_is _ _ (spent x rest values is sends more) =
      record { line = x; rest = rest; values = values; doing = is; sends = sends; more = more; at = refl }

  abbrev IsPaid : Type 0
  IsPaid = (x : Line) (rest : List Line) (values : List Value) → d.environment.doing ≡ offers x rest → x.entry.transfer ≡ Send values → g.setting.limits.units < length values → ⊥

  no_trouble : IsPaid → (source : Source) (t : Trouble) → DrivenTroubles g d source t → ⊥
  no_trouble paid source t is =
      let at = trouble_is source t is in
      paid at.line at.rest at.values at.doing at.sends at.more

  no_high : (t : Trouble) → IsFirstHigh g.setting d.system t → ⊥
  no_high t is = no_process is.number is.stands.place is.stands.is_process

  left_is : (left : ℕ) → IsDrivenLeft g d left → (x : Line) × (rest : List Line) × (d.environment.doing ≡ waits left x rest)
  left_is _ (of_process left is) = absurd (no_part is.at is.seen is.frame is.part is.active)
  left_is _ (of_environment left x rest is) = (x, rest, is)

  -- Moments

  same_left : (m n : ℕ) (x y : Line) (r s : List Line) → waits m x r ≡ waits n y s → m ≡ n
  same_left m n x y r s e = cc

  waiting_apart : (n : ℕ) (x y : Line) (r s : List Line) → waits n x r ≡ offers y s → ⊥
  waiting_apart n x y r s e = cc

  pub time_passes : (n : ℕ) (x : Line) (rest : List Line) → d.environment.doing ≡ waits (suc n) x rest → IsDrivenMoment g d (Time (suc n))
  time_passes n x rest is = record {
    applies = passing (suc n) (record {
      is_left = of_environment (suc n) x rest is;
      least = λ left h. (let at = left_is left h in
          let same : suc n ≡ left = same_left (suc n) left x at.0 rest at.1 (sym is ∙ at.2) in
          omega (arith, same));
    });
    first = before;
  }
    where
      before : (m : Moment) → DrivenCandidate g d m → 3 ≤ rank m
      before _ (high t h) = absurd (no_high t h)
      before _ (faulty t h) = absurd (no_trouble (λ y s values e sends more. waiting_apart (suc n) x y rest s (sym is ∙ e)) h.source t h.occurs)
      before _ (acting actions h some) =
          absurd (no_offers (λ y s e. (let same : suc n ≡ 0 = same_left (suc n) 0 x y rest s (sym is ∙ e) in omega (arith, same))) actions h some)
      before _ (passing time h) = lit≤ tt
      before _ (finished h) = lit≤ tt
      before _ deadlock = lit≤ tt

  pub wait_is_over : (x : Line) (rest : List Line) → d.environment.doing ≡ waits 0 x rest → IsDrivenMoment g d (Actions 1)
  wait_is_over x rest is = record {
    applies = acting (Internal (environment_end g) Expire (at_line x) ∷ []) (one_offer x rest is) (omega arith);
    first = before;
  }
    where
      before : (m : Moment) → DrivenCandidate g d m → 2 ≤ rank m
      before _ (high t h) = absurd (no_high t h)
      before _ (faulty t h) = absurd (no_trouble (λ y s values e sends more. waiting_apart 0 x y rest s (sym is ∙ e)) h.source t h.occurs)
      before _ (acting actions h some) = lit≤ tt
      before _ (passing time h) = lit≤ tt
      before _ (finished h) = lit≤ tt
      before _ deadlock = lit≤ tt

  offering_apart : (x : Line) (rest : List Line) → offers x rest ≡ over → ⊥
  offering_apart x rest e = cc

  pub nobody_takes_it : (x : Line) (rest : List Line) → d.environment.doing ≡ offers x rest → IsPaid → IsDrivenMoment g d Deadlock
  nobody_takes_it x rest is paid = record { applies = deadlock; first = before }
    where
      before : (m : Moment) → DrivenCandidate g d m → 5 ≤ rank m
      before _ (high t h) = absurd (no_high t h)
      before _ (faulty t h) = absurd (no_trouble paid h.source t h.occurs)
      before _ (acting actions h some) = absurd (no_offers (λ y s e. waiting_apart 0 y x s rest (sym e ∙ is)) actions h some)
      before _ (passing time h) =
          let at = left_is time h.is_left in
          absurd (waiting_apart time at.0 x at.1 rest (sym at.2 ∙ is))
      before _ (finished h) = absurd (offering_apart x rest (sym is ∙ h.environment))
      before _ deadlock = lit≤ tt

  not_before : SourceBefore (part (environment_end g)) (part (environment_end g)) → ⊥
  not_before (inl h) = omega (arith, h)
  not_before (inr h) = h.1

  pub too_few_units : (x : Line) (rest : List Line) (values : List Value) → d.environment.doing ≡ offers x rest → x.entry.transfer ≡ Send values → g.setting.limits.units < length values → IsDrivenMoment g d (Faulty (Spent (environment_number g) (at_line x)))
  too_few_units x rest values is sends more = record {
    applies = faulty (Spent (environment_number g) (at_line x)) (record {
      source = part (environment_end g);
      occurs = spent x rest values is sends more;
      least = λ other t h low. not_before (subst (λ (s : Source). SourceBefore s (part (environment_end g))) (sym (trouble_is other t h).at) low);
    });
    first = before;
  }
    where
      before : (m : Moment) → DrivenCandidate g d m → 1 ≤ rank m
      before _ (high t h) = absurd (no_high t h)
      before _ (faulty t h) = lit≤ tt
      before _ (acting actions h some) = lit≤ tt
      before _ (passing time h) = lit≤ tt
      before _ (finished h) = lit≤ tt
      before _ deadlock = lit≤ tt
