-- What both offer is the same, one by one.
use Rattle.std.proofs.Common.{◌≡◌, ◌<◌, ◌⊎◌, inl, inr, ℕ, Bool, true, List, [], ◌∷◌, length, Result, Ok, refl, sym, ap, subst, ◌∙◌, arith}
use Rattle.std.specs.List.{AllZip}
use Rattle.pz_env_tree.specs.pz_syntax.declared.tokens.Pos.{Pos}
use Rattle.pz_env_tree.specs.pz_syntax.Classes.{ModelTree}
use Rattle.pz_env_tree.specs.pz_copy.Parcels.{ParcelView}
use Rattle.pz_env_tree.specs.pz_offer.declared.end.End.{End}
use Rattle.pz_env_tree.specs.pz_offer.PlaceOrder.{Place}
use Rattle.pz_env_tree.specs.pz_offer.declared.trouble.Trouble.{Trouble}
use Rattle.pz_env_tree.specs.pz_rules.declared.action.Kind.{Kind}
use Rattle.pz_env_tree.specs.pz_rules.declared.action.Kind.TheVariants.{Expire}
use Rattle.pz_env_tree.specs.pz_rules.declared.action.Action.{Action}
use Rattle.pz_env_tree.specs.pz_rules.declared.action.Action.TheVariants.{Internal, Comm}
use Rattle.pz_env_tree.specs.pz_rules.Terms.{leaf}
use Rattle.pz_env_tree.specs.pz_rules.Settings.{Context}
use Rattle.pz_env_tree.specs.pz_rules.Active.{IsActive}
use Rattle.pz_env_tree.specs.pz_rules.InternalActions.{Can}
use Rattle.pz_env_tree.specs.pz_rules.Messages.{Judges}
use Rattle.pz_env_tree.specs.pz_rules.Configurations.{Config}
use Rattle.pz_env_tree.specs.pz_rules.Offers as system
use Rattle.pz_env_tree.specs.pz_rules.Offers.{PartAt, IsPair, IsJudged, Offers, IsOffers}
use Rattle.pz_env_tree.specs.pz_env_rules.Environment.{Line, at_line, Doing}
use Rattle.pz_env_tree.specs.pz_env_rules.Joining.{Driving}
use Rattle.pz_env_tree.specs.pz_env_rules.Driven.{Driven, environment_end}
use Rattle.pz_env_tree.specs.pz_env_rules.Offers.{IsDrivenPair, of_processes, to_system, from_system, IsDrivenJudged, by_process, by_environment, DrivenOffers, acts, expires, communicates, IsDrivenOffers}
use Rattle.pz_env_mimics.specs.Environments.{exchange}
use Rattle.pz_env_mimics.specs.Closing.{Closes, closed}
use Rattle.pz_env_mimics.proofs.Known.{Known}
use Rattle.pz_env_mimics.proofs.Environment.{IsDoing, place_of}
use Rattle.pz_env_mimics.proofs.Doing.{can_only, judges_only, expires_there, judges_there}
use Rattle.pz_env_mimics.proofs.Mimics as mimics
use Rattle.pz_env_mimics.proofs.Mimics.{Mimics, Fit, fit_plain}
use Rattle.pz_env_mimics.proofs.Matching as matching
use Rattle.pz_env_mimics.proofs.Matching.{SameEnds, of_system, of_env, SameActions, internal, communication, Whole, whole_other}
use Rattle.pz_env_mimics.proofs.Parts as parts
use Rattle.pz_env_mimics.proofs.Pairs as paired

module _ (known : Known) (g : Driving) (n : ModelTree) (closes : Closes g n) (d : Driven) (c : Config) (m : Mimics known g n closes d c) where
  abbrev env : ℕ
  env = mimics.env known g n closes

  abbrev port : Line → ℕ
  port = mimics.port known g n closes

  abbrev Fits : Line → Type 0
  Fits = Fit known g n closes

  abbrev seen : Context
  seen = mimics.seen known g n closes d c m

  -- the place of the environment's part that acts
  abbrev pub here : Place
  here = place_of d.environment.doing

  abbrev pub Ends : End → End → Type 0
  Ends = SameEnds env [] here

  abbrev pub Actions : Action → Action → Type 0
  Actions = SameActions env [] here

  abbrev env_there : End
  env_there = record { process = env; place = here }

  -- Verdicts

  env_receives : (w : ℕ) (s r : End) (message : List ℕ) (parcel : ParcelView) → IsDrivenPair g d w s r message parcel → r ≡ environment_end g
      → IsJudged (closed g n) c env_there parcel (Ok true)
  env_receives w s r message parcel (of_processes _ _ _ _ _ is) same =
      let less = parts.low_of known g n closes d c m r is.receives_at is.receives_frame is.receives_part is.receiver_active in
      let at : r.process ≡ env = ap (λ (e : End). e.process) same in
      absurd (omega (arith, less, at))
  env_receives w _ r _ _ (to_system _ _ x rest values gives on hears) same =
      let less = parts.low_of known g n closes d c m r hears.seen hears.frame hears.part hears.active in
      let at : r.process ≡ env = ap (λ (e : End). e.process) same in
      absurd (omega (arith, less, at))
  env_receives w s _ _ parcel (from_system _ _ x rest _ gets on says) same =
      record {
        seen = seen;
        frame = 1;
        part = leaf (exchange (port x) x x.entry.transfer);
        active = (parts.offered known g n closes d c m x rest gets.doing).part;
        judges = judges_there seen closes.limits port Fits (fit_plain known g n closes) x (length parcel.values) parcel gets.receives;
      }

  pub judged_on : (w : ℕ) (s r u : End) (message : List ℕ) (parcel : ParcelView) (verdict : Result Bool Trouble)
      → IsDrivenPair g d w s r message parcel → Ends r u → IsDrivenJudged g d r parcel verdict → IsJudged (closed g n) c u parcel verdict
  judged_on w s r u message parcel verdict pair same (by_process _ _ _ is) =
      let low = parts.low_of known g n closes d c m r is.seen is.frame is.part is.active in
      subst (λ (e : End). IsJudged (closed g n) c e parcel verdict) (matching.one_end env [] here r r r u (of_system r low) same refl)
      ((known.verdicts n g.setting d.system c m.more closes.rules m.both r parcel verdict low).0 is)
  judged_on w s _ u message parcel _ pair same (by_environment _) =
      subst (λ (e : End). IsJudged (closed g n) c e parcel (Ok true)) (matching.one_end env [] here (environment_end g) env_there (environment_end g) u of_env same refl)
      (env_receives w s (environment_end g) message parcel pair refl)

  pub judged_back : (r u : End) (parcel : ParcelView) (verdict : Result Bool Trouble) → Ends r u → IsJudged (closed g n) c u parcel verdict
      → IsDrivenJudged g d r parcel verdict
  judged_back _ _ parcel verdict (of_system r low) is =
      by_process r parcel verdict ((known.verdicts n g.setting d.system c m.more closes.rules m.both r parcel verdict low).1 is)
  judged_back _ _ parcel verdict of_env is =
      let e = mimics.env_part known g n closes d c m env_there is.seen is.frame is.part is.active refl in
      let judges : Judges seen is.frame parcel is.part verdict =
      subst (λ (a : Context). Judges a is.frame parcel is.part verdict) e.context is.judges
      in
      let says = judges_only seen closes.limits port Fits (fit_plain known g n closes) d.environment.doing m.more.term here is.frame is.part parcel verdict e.is judges in
      subst (IsDrivenJudged g d (environment_end g) parcel) (sym says) (by_environment parcel)

  -- Offers

  pub offer_on : (a : Action) → DrivenOffers g d a → (b : Action) × Actions a b × Offers (closed g n) c b
  offer_on _ (acts at kind pos is) = (Internal at kind pos, internal at at kind pos (of_system at (low is)), (known.internals n g.setting d.system c m.more closes.rules m.both at kind pos (low is)).0 is)
    where
      low : Offers g.setting d.system (Internal at kind pos) → at.process < env
      low (system.internal _ a f t _ _ part can) = parts.low_of known g n closes d c m at a f t part
  offer_on _ (expires x rest is) =
      let e = expires_there seen closes.limits port Fits (fit_plain known g n closes) x rest m.more.term (subst (λ (k : Doing). IsDoing port Fits k m.more.term) is m.does) in
      let place : here ≡ 0 ∷ 0 ∷ [] = ap place_of is in (
        Internal env_there Expire (at_line x),
        internal (environment_end g) env_there Expire (at_line x) of_env,
        system.internal env_there seen 1 e.part Expire (at_line x) (mimics.part_there known g n closes d c m here e.part (subst (λ (k : Place). IsActive seen m.more.term k 1 e.part) (sym place) e.active)) e.can,
      )
  offer_on _ (communicates w s r message parcel is takes) =
      let p = paired.pair_on known g n closes d c m w s r message parcel is in (
        Comm w p.sender p.receiver message parcel,
        communication w s p.sender r p.receiver message parcel p.same_sender p.same_receiver,
        system.communication w p.sender p.receiver message parcel p.is (judged_on w s r p.receiver message parcel (Ok true) is p.same_receiver takes),
      )

  pub offer_back : (b : Action) → Offers (closed g n) c b → (a : Action) × SameActions env here [] b a × DrivenOffers g d a
  offer_back _ (system.internal at a f t kind pos part can) = by (mimics.which_part known g n closes d c m at a f t part)
    where
      by : (at.process < env) ⊎ (at.process ≡ env) → (b : Action) × SameActions env here [] (Internal at kind pos) b × DrivenOffers g d b
      by (inl low) = (
        Internal at kind pos,
        internal at at kind pos (of_system at low),
        acts at kind pos ((known.internals n g.setting d.system c m.more closes.rules m.both at kind pos low).1 (system.internal at a f t kind pos part can)),
      )
      by (inr is) =
          let e = mimics.env_part known g n closes d c m at a f t part is in
          let h = can_only seen closes.limits port Fits (fit_plain known g n closes) d.environment.doing m.more.term at.place f t kind pos e.is (subst (λ (b : Context). Can b f t kind pos) e.context can) in
          let same : Internal env_there Expire (at_line h.line) ≡ Internal at kind pos =
          ap (λ (x : End). Internal x Expire (at_line h.line)) (parts.end_is known g n closes d c m at is h.there)
          ∙ ap (λ (k : Kind). Internal at k (at_line h.line)) (sym h.expires)
          ∙ ap (λ (x : Pos). Internal at kind x) (sym h.at_it)
          in (
            Internal (environment_end g) Expire (at_line h.line),
            subst (λ (b : Action). SameActions env here [] b (Internal (environment_end g) Expire (at_line h.line))) same (internal env_there (environment_end g) Expire (at_line h.line) of_env),
            expires h.line h.rest h.is,
          )
  offer_back _ (system.communication w s r message parcel is takes) =
      let p = paired.pair_back known g n closes d c m w s r message parcel is in (
        Comm w p.sender p.receiver message parcel,
        communication w s p.sender r p.receiver message parcel (matching.end_back env [] here p.sender s p.same_sender) (matching.end_back env [] here p.receiver r p.same_receiver),
        communicates w p.sender p.receiver message parcel p.is (judged_back p.receiver r parcel (Ok true) p.same_receiver takes),
      )

  -- Lists of offers

  pub record OffersOn (xs : List Action) : Type 0 where
    pub others : List Action
    pub same : AllZip Actions xs others
    pub are : IsOffers (closed g n) c others

  pub offers_on : (xs : List Action) → IsDrivenOffers g d xs → OffersOn xs
  offers_on xs is =
      let w = whole_other env [] here (DrivenOffers g d) (Offers (closed g n) c) offer_on offer_back xs (record { ordered = is.ordered; each = is.derivable; every = is.every }) in
      record { others = w.others; same = w.same; are = record { ordered = w.whole.ordered; derivable = w.whole.each; every = w.whole.every } }

  pub record OffersBack (ys : List Action) : Type 0 where
    pub others : List Action
    pub same : AllZip (SameActions env here []) ys others
    pub are : IsDrivenOffers g d others

  pub offers_back : (ys : List Action) → IsOffers (closed g n) c ys → OffersBack ys
  offers_back ys is =
      let w = whole_other env here [] (Offers (closed g n) c) (DrivenOffers g d) offer_back offer_on ys (record { ordered = is.ordered; each = is.derivable; every = is.every }) in
      record { others = w.others; same = w.same; are = record { ordered = w.whole.ordered; derivable = w.whole.each; every = w.whole.every } }
