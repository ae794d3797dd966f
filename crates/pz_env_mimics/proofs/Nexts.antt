-- Where an action leads in both is the same.
use Rattle.std.proofs.Common.{◌≡◌, ◌<◌, ℕ, List, [], length, Result, Ok, refl, sym, ap, subst, ◌∙◌, arith}
use Rattle.pz_env_tree.specs.pz_syntax.declared.tokens.Pos.{Pos}
use Rattle.pz_env_tree.specs.pz_syntax.Classes.{ModelTree}
use Rattle.pz_env_tree.specs.pz_value.declared.value.Value.{Value}
use Rattle.pz_env_tree.specs.pz_copy.Parcels.{ParcelView}
use Rattle.pz_env_tree.specs.pz_offer.declared.end.End.{End}
use Rattle.pz_env_tree.specs.pz_offer.PlaceOrder.{Place}
use Rattle.pz_env_tree.specs.pz_offer.declared.trouble.Trouble.{Trouble}
use Rattle.pz_env_tree.specs.pz_rules.declared.action.Kind.{Kind}
use Rattle.pz_env_tree.specs.pz_rules.declared.action.Kind.TheVariants.{Expire}
use Rattle.pz_env_tree.specs.pz_rules.declared.action.Action.{Action}
use Rattle.pz_env_tree.specs.pz_rules.declared.action.Action.TheVariants.{Internal, Comm}
use Rattle.pz_env_tree.specs.pz_rules.Settings.{Context}
use Rattle.pz_env_tree.specs.pz_rules.Meanings.{and_then}
use Rattle.pz_env_tree.specs.pz_rules.InternalActions.{Performs}
use Rattle.pz_env_tree.specs.pz_rules.Messages.{Hands, Takes}
use Rattle.pz_env_tree.specs.pz_rules.Configurations.{Config}
use Rattle.pz_env_tree.specs.pz_rules.Offers as offered
use Rattle.pz_env_tree.specs.pz_rules.Offers.{PartAt, Offers}
use Rattle.pz_env_tree.specs.pz_rules.Steps as system
use Rattle.pz_env_tree.specs.pz_rules.Steps.{Deed, Acts, with_process, with_both, Next, PassesTo}
use Rattle.pz_env_tree.specs.pz_env_rules.Environment.{Line, at_line, waits, offers, begins}
use Rattle.pz_env_tree.specs.pz_env_rules.Joining.{Driving}
use Rattle.pz_env_tree.specs.pz_env_rules.Driven.{Driven, environment_end, plain, Gives, Gets, stored}
use Rattle.pz_env_tree.specs.pz_env_rules.Offers.{IsDrivenPair, of_processes, to_system, from_system, DrivenOffers, acts, expires, communicates}
use Rattle.pz_env_tree.specs.pz_env_rules.Steps as driven
use Rattle.pz_env_tree.specs.pz_env_rules.Steps.{in_system, doing_next, both_next, DrivenNext, DrivenPasses}
use Rattle.pz_env_same.specs.OneMore.{result_behind, IsActionOf}
use Rattle.pz_env_mimics.specs.Closing.{Closes, closed}
use Rattle.pz_env_mimics.proofs.Known.{Known}
use Rattle.pz_env_mimics.proofs.Mimics as mimics
use Rattle.pz_env_mimics.proofs.Mimics.{Mimics, Fit, fit_plain}
use Rattle.pz_env_mimics.proofs.Matching.{one_end, SameEnds, of_system, of_env, SameActions, internal, communication}
use Rattle.pz_env_mimics.proofs.Parts as parts
use Rattle.pz_env_mimics.proofs.Acting as acting
use Rattle.pz_env_mimics.proofs.Outcomes as outcomes
use Rattle.pz_env_mimics.proofs.Outcomes.{SameNext}

module _ (known : Known) (g : Driving) (n : ModelTree) (closes : Closes g n) where
  abbrev env : ℕ
  env = mimics.env known g n closes

  abbrev port : Line → ℕ
  port = mimics.port known g n closes

  abbrev Fits_line : Line → Type 0
  Fits_line = Fit known g n closes

  abbrev Both : Driven → Config → Type 0
  Both = Mimics known g n closes

  module _ (d : Driven) (c : Config) (m : Both d c) where
    abbrev seen : Context
    seen = mimics.seen known g n closes d c m

    abbrev here : Place
    here = parts.here known g n closes d c m

    abbrev env_there : End
    env_there = record { process = env; place = here }

    pub record NextOn (b : Action) (r : Result Driven Trouble) : Type 0 where
      pub result : Result Config Trouble
      pub is : Next (closed g n) c b result
      pub same : SameNext known g n closes r result

    alone_on : (a b : Action) (r : Result Config Trouble) → IsActionOf g.setting.model a → SameActions env [] here a b → Next g.setting d.system a r
        → NextOn b (and_then r (λ k. Ok (in_system d k)))
    alone_on a b r of_it same next =
        subst (λ (k : Action). NextOn k (and_then r (λ k. Ok (in_system d k)))) (itself a b same of_it)
        (record {
          result = result_behind r m.more;
          is = (known.lead_on n g.setting d.system c m.more closes.rules m.both a of_it).0 r next;
          same = outcomes.system_next known g n closes d c m r (outcomes.still_whole known g n closes d c m a r next);
        })
      where
        one : (e f : End) → SameEnds env [] here e f → e.process < env → e ≡ f
        one _ _ (of_system e low) less = refl
        one _ _ of_env less = absurd (omega (arith, less))

        itself : (a b : Action) → SameActions env [] here a b → IsActionOf g.setting.model a → a ≡ b
        itself _ _ (internal e f kind pos is) of_it =
            ap (λ (k : End). Internal k kind pos) (one e f is of_it)
        itself _ _ (communication w s t r u message parcel is are) of_it =
            ap (λ (k : End). Comm w k r message parcel) (one s t is of_it.0)
            ∙ ap (λ (k : End). Comm w t k message parcel) (one r u are of_it.1)

    action_of : (a : Action) (r : Result Config Trouble) → Next g.setting d.system a r → IsActionOf g.setting.model a
    action_of _ _ (system.internal at kind pos result is) = acting.low_act known g n closes d c m Performs at result is
    action_of _ _ (system.communication w s r message parcel sent taken gives takes) =
        (acting.low_act known g n closes d c m (λ a f. Hands a f parcel) s sent gives, acting.low_act known g n closes d c m (λ a f. Takes a f parcel) r taken takes)

    -- the one other end of each
    of_low : (e f : End) → SameEnds env [] here e f → e.process < env → f ≡ e
    of_low _ _ (of_system e low) less = refl
    of_low _ _ of_env less = absurd (omega (arith, less))

    of_high : (f : End) → SameEnds env [] here (environment_end g) f → f ≡ env_there
    of_high f same = one_end env [] here (environment_end g) f (environment_end g) env_there same of_env refl

    pub next_on : (a b : Action) (r : Result Driven Trouble) → SameActions env [] here a b → DrivenNext g d a r → NextOn b r
    next_on a b _ same (driven.alone _ result next) = alone_on a b result (action_of a result next) same next
    next_on _ _ _ (internal _ f _ _ same) (driven.expires x rest is) =
        let e = acting.expires_so known g n closes d c m 0 x rest is in
        subst (λ (k : End). NextOn (Internal k Expire (at_line x)) (Ok (doing_next d (offers x rest)))) (sym (of_high f same))
        (record {
          result = and_then e.0 (λ p. Ok (with_process c env p));
          is = system.internal env_there Expire (at_line x) e.0 e.1;
          same = outcomes.wait_next known g n closes d c m x rest e.0 (acting.expired known g n closes d c m env_there e.0 e.1 refl 0 x rest is);
        })
    next_on _ _ _ (communication _ _ t _ u _ _ same_sender same_receiver) (driven.gives w r x rest values taken gives takes) =
        let e = acting.gives_so known g n closes d c m x rest values gives in
        let low = acting.low_act known g n closes d c m (λ a f. Takes a f (plain g values)) r taken takes in
        let after = and_then taken (λ q. Ok (both_next d r.process q (record { doing = begins rest; objects = d.environment.objects }))) in
        subst (λ (k : End). NextOn (Comm w k u x.entry.message (plain g values)) after) (sym (of_high t same_sender))
        (subst (λ (k : End). NextOn (Comm w env_there k x.entry.message (plain g values)) after) (sym (of_low r u same_receiver low))
        (record {
          result = and_then e.0 (λ p. and_then taken (λ q. Ok (with_both c env_there r p q)));
          is = system.communication w env_there r x.entry.message (plain g values) e.0 taken e.1 ((known.takes n g.setting d.system c m.more closes.rules m.both (plain g values) r taken low).0 takes);
          same = outcomes.give_next known g n closes d c m r rest e.0 taken low (acting.gave known g n closes d c m env_there (plain g values) e.0 e.1 refl x rest gives.doing);
        }))
    next_on _ _ _ (communication _ _ t _ u _ _ same_sender same_receiver) (driven.gets w s x rest count parcel sent gets hands) =
        let e = acting.takes_so known g n closes d c m x rest count parcel gets in
        let low = acting.low_act known g n closes d c m (λ a f. Hands a f parcel) s sent hands in
        let after = and_then sent (λ p. and_then (stored g d x parcel) (λ k. Ok (both_next d s.process p (record { doing = begins rest; objects = k })))) in
        subst (λ (k : End). NextOn (Comm w k u x.entry.message parcel) after) (sym (of_low s t same_sender low))
        (subst (λ (k : End). NextOn (Comm w s k x.entry.message parcel) after) (sym (of_high u same_receiver))
        (record {
          result = and_then sent (λ p. and_then e.0 (λ q. Ok (with_both c s env_there p q)));
          is = system.communication w s env_there x.entry.message parcel sent e.0 ((known.hands n g.setting d.system c m.more closes.rules m.both parcel s sent low).0 hands) e.1;
          same = outcomes.get_next known g n closes d c m s x rest parcel sent e.0 low (acting.took known g n closes d c m env_there parcel e.0 e.1 refl x rest gets.doing);
        }))

    pub record NextBack (a : Action) (r : Result Config Trouble) : Type 0 where
      pub result : Result Driven Trouble
      pub is : DrivenNext g d a result
      pub same : SameNext known g n closes result r

    alone_back : (a : Action) (r : Result Config Trouble) → IsActionOf g.setting.model a → Next (closed g n) c a r → NextBack a r
    alone_back a r of_it next =
        let h = (known.lead_on n g.setting d.system c m.more closes.rules m.both a of_it).1 r next in
        record {
          result = and_then h.0 (λ k. Ok (in_system d k));
          is = driven.alone a h.0 h.1;
          same = subst (SameNext known g n closes (and_then h.0 (λ k. Ok (in_system d k)))) (sym h.2) (outcomes.system_next known g n closes d c m h.0 (outcomes.still_whole known g n closes d c m a h.0 h.1));
        }

    internal_low : (at : End) (kind : Kind) (pos : Pos) → Offers g.setting d.system (Internal at kind pos) → at.process < env
    internal_low at kind pos (offered.internal _ a f t _ _ part can) =
        known.parts_of g.setting d.system at a f t part

    -- a communication of the environment, seen from what it leads to
    give_back : (w : ℕ) (r : End) (x : Line) (rest : List Line) (values : List Value) (result : Result Config Trouble) → Gives g d x rest values
        → r.process < env → Next (closed g n) c (Comm w env_there r x.entry.message (plain g values)) result
        → NextBack (Comm w (environment_end g) r x.entry.message (plain g values)) result
    give_back w r x rest values _ gives low (system.communication _ _ _ _ _ sent taken hands takes) =
        record {
          result = and_then taken (λ q. Ok (both_next d r.process q (record { doing = begins rest; objects = d.environment.objects })));
          is = driven.gives w r x rest values taken gives ((known.takes n g.setting d.system c m.more closes.rules m.both (plain g values) r taken low).1 takes);
          same = outcomes.give_next known g n closes d c m r rest sent taken low (acting.gave known g n closes d c m env_there (plain g values) sent hands refl x rest gives.doing);
        }

    get_back : (w : ℕ) (s : End) (x : Line) (rest : List Line) (count : ℕ) (parcel : ParcelView) (result : Result Config Trouble)
        → Gets g d x rest count → s.process < env → Next (closed g n) c (Comm w s env_there x.entry.message parcel) result
        → NextBack (Comm w s (environment_end g) x.entry.message parcel) result
    get_back w s x rest count parcel _ gets low (system.communication _ _ _ _ _ sent taken hands takes) =
        record {
          result = and_then sent (λ p. and_then (stored g d x parcel) (λ k. Ok (both_next d s.process p (record { doing = begins rest; objects = k }))));
          is = driven.gets w s x rest count parcel sent gets ((known.hands n g.setting d.system c m.more closes.rules m.both parcel s sent low).1 hands);
          same = outcomes.get_next known g n closes d c m s x rest parcel sent taken low (acting.took known g n closes d c m env_there parcel taken takes refl x rest gets.doing);
        }

    wait_back : (x : Line) (rest : List Line) (result : Result Config Trouble) → d.environment.doing ≡ waits 0 x rest
        → Next (closed g n) c (Internal env_there Expire (at_line x)) result
        → NextBack (Internal (environment_end g) Expire (at_line x)) result
    wait_back x rest _ is (system.internal _ _ _ r does) =
        record {
          result = Ok (doing_next d (offers x rest));
          is = driven.expires x rest is;
          same = outcomes.wait_next known g n closes d c m x rest r (acting.expired known g n closes d c m env_there r does refl 0 x rest is);
        }

    comm_back : (w : ℕ) (s t r u : End) (message : List ℕ) (parcel : ParcelView) (result : Result Config Trouble) → SameEnds env [] here s t
        → SameEnds env [] here r u → IsDrivenPair g d w s r message parcel
        → Next (closed g n) c (Comm w t u message parcel) result → NextBack (Comm w s r message parcel) result
    comm_back w s t r u message parcel result same_sender same_receiver (of_processes _ _ _ _ _ is) next =
        let low = known.parts_of g.setting d.system s is.sends_at is.sends_frame is.sends_part is.sender_active in
        let less = known.parts_of g.setting d.system r is.receives_at is.receives_frame is.receives_part is.receiver_active in
        alone_back (Comm w s r message parcel) result (low, less)
        (subst (λ (k : End). Next (closed g n) c (Comm w s k message parcel) result) (of_low r u same_receiver less)
        (subst (λ (k : End). Next (closed g n) c (Comm w k u message parcel) result) (of_low s t same_sender low) next))
    comm_back w _ t r u _ _ result same_sender same_receiver (to_system _ _ x rest values gives on hears) next =
        let less = known.parts_of g.setting d.system r hears.seen hears.frame hears.part hears.active in
        give_back w r x rest values result gives less
        (subst (λ (k : End). Next (closed g n) c (Comm w env_there k x.entry.message (plain g values)) result) (of_low r u same_receiver less)
        (subst (λ (k : End). Next (closed g n) c (Comm w k u x.entry.message (plain g values)) result) (of_high t same_sender) next))
    comm_back w s t _ u _ parcel result same_sender same_receiver (from_system _ _ x rest _ gets on says) next =
        let low = known.parts_of g.setting d.system s says.seen says.frame says.part says.active in
        get_back w s x rest (length parcel.values) parcel result gets low
        (subst (λ (k : End). Next (closed g n) c (Comm w s k x.entry.message parcel) result) (of_high u same_receiver)
        (subst (λ (k : End). Next (closed g n) c (Comm w k u x.entry.message parcel) result) (of_low s t same_sender low) next))

    pub next_back : (a b : Action) (result : Result Config Trouble) → SameActions env [] here a b → DrivenOffers g d a → Next (closed g n) c b result
        → NextBack a result
    next_back _ _ result (internal _ f _ _ same) (acts at kind pos is) next =
        let low = internal_low at kind pos is in
        alone_back (Internal at kind pos) result low (subst (λ (k : End). Next (closed g n) c (Internal k kind pos) result) (of_low at f same low) next)
    next_back _ _ result (internal _ f _ _ same) (expires x rest is) next =
        wait_back x rest result is (subst (λ (k : End). Next (closed g n) c (Internal k Expire (at_line x)) result) (of_high f same) next)
    next_back _ _ result (communication _ _ t _ u _ _ same_sender same_receiver) (communicates w s r message parcel is takes) next =
        comm_back w s t r u message parcel result same_sender same_receiver is next
