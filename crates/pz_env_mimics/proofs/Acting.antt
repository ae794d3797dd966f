-- What the environment does in a configuration, and that it can.
use Rattle.std.proofs.Common.{◌≡◌, ◌<◌, ℕ, List, [], ◌∷◌, length, Result, Ok, refl, sym, ap, subst, ◌∙◌}
use Rattle.std.proofs.lemmas.Option.{slice_get_within}
use Rattle.pz_env_tree.specs.pz_syntax.declared.tokens.Pos.{Pos}
use Rattle.pz_env_tree.specs.pz_syntax.Classes.{ModelTree}
use Rattle.pz_env_tree.specs.pz_value.declared.value.Value.{Value}
use Rattle.pz_env_tree.specs.pz_bind_rules.Nest.{processes}
use Rattle.pz_env_tree.specs.pz_copy.Parcels.{ParcelView}
use Rattle.pz_env_tree.specs.pz_offer.declared.end.End.{End}
use Rattle.pz_env_tree.specs.pz_offer.PlaceOrder.{Place}
use Rattle.pz_env_tree.specs.pz_offer.declared.trouble.Trouble.{Trouble}
use Rattle.pz_env_tree.specs.pz_rules.Terms.{Term, leaf}
use Rattle.pz_env_tree.specs.pz_rules.Settings.{Process, Context}
use Rattle.pz_env_tree.specs.pz_rules.Active.{IsActive}
use Rattle.pz_env_tree.specs.pz_rules.Meanings.{and_then}
use Rattle.pz_env_tree.specs.pz_rules.InternalActions.{done_in, Performs}
use Rattle.pz_env_tree.specs.pz_rules.Leaving.{settled}
use Rattle.pz_env_tree.specs.pz_rules.Messages.{Hands, Takes}
use Rattle.pz_env_tree.specs.pz_rules.Configurations.{Config}
use Rattle.pz_env_tree.specs.pz_rules.Steps.{Deed, Acts}
use Rattle.pz_env_tree.specs.pz_env_rules.Environment.{Line, at_line, Doing, waits, offers, begins}
use Rattle.pz_env_tree.specs.pz_env_rules.Joining.{Driving}
use Rattle.pz_env_tree.specs.pz_env_rules.Driven.{Driven, plain, Gives, Gets}
use Rattle.pz_env_mimics.specs.Environments.{exchange}
use Rattle.pz_env_mimics.specs.Closing.{Closes, closed}
use Rattle.pz_env_mimics.proofs.Known.{Known}
use Rattle.pz_env_mimics.proofs.Doing.{offers_there}
use Rattle.pz_env_mimics.proofs.Environment.{IsDoing, place_of, PartIs}
use Rattle.pz_env_mimics.proofs.Moving as moving
use Rattle.pz_env_mimics.proofs.Moving.{Becomes, TakenOr, fits_in, too_full}
use Rattle.pz_env_mimics.proofs.Mimics as mimics
use Rattle.pz_env_mimics.proofs.Mimics.{Mimics, Fit, fit_plain}
use Rattle.pz_env_mimics.proofs.Parts as parts

offers_same : (x y : Line) (r s : List Line) → offers x r ≡ offers y s → (x ≡ y) × (r ≡ s)
offers_same x y r s e = (cc, cc)

module _ (known : Known) (g : Driving) (n : ModelTree) (closes : Closes g n) where
  abbrev env : ℕ
  env = mimics.env known g n closes

  abbrev port : Line → ℕ
  port = mimics.port known g n closes

  abbrev Fits_line : Line → Type 0
  Fits_line = Fit known g n closes

  abbrev Both : Driven → Config → Type 0
  Both = Mimics known g n closes

  module _ (d : Driven) (c : Config) (m : Both d c) where
    abbrev seen : Context
    seen = mimics.seen known g n closes d c m

    abbrev here : Place
    here = parts.here known g n closes d c m

    abbrev env_there : End
    env_there = record { process = env; place = here }

    abbrev Turns : Doing → ℕ → Result Process Trouble → Type 0
    Turns = Becomes port Fits_line

    -- What the environment does, in the configuration

    pub low_act : (does : Deed) (at : End) (r : Result Process Trouble) → Acts g.setting d.system does at r → at.process < env
    low_act does at r is =
        slice_get_within (processes g.setting.model) at.process is.stands.place is.stands.is_process

    -- how a deed of the environment is seen
    record EnvActs (does : Deed) (at : End) (result : Result Process Trouble) : Type 0 where
      frame : ℕ
      part : Term
      is_part : PartIs port Fits_line d.environment.doing m.more.term at.place frame part
      pos : Pos
      left : Result Process Trouble
      does_so : does seen frame part pos left
      leaves : result ≡ and_then left (settled seen pos m.more.term at.place)

    env_acts : (does : Deed) (at : End) (result : Result Process Trouble) → Acts (closed g n) c does at result → at.process ≡ env → EnvActs does at result
    env_acts does at result is there =
        let e = mimics.of_environment known g n closes d c m at.process is.process is.seen is.stands there in
        let p = mimics.env_part known g n closes d c m at is.seen is.frame is.part (record { process = is.process; stands = is.stands; active = is.active }) there in
        record {
          frame = is.frame;
          part = is.part;
          is_part = p.is;
          pos = is.pos;
          left = is.left;
          does_so = subst (λ (a : Context). does a is.frame is.part is.pos is.left) e.context is.acts;
          leaves =
              is.leaves
              ∙ ap (λ (a : Context). and_then is.left (settled a is.pos is.process.term at.place)) e.context
              ∙ ap (λ (q : Process). and_then is.left (settled seen is.pos q.term at.place)) e.process;
        }

    acts_there : (does : Deed) (place : Place) (part : Term) (pos : Pos) (left : Result Process Trouble) → IsActive seen m.more.term place 1 part
        → does seen 1 part pos left
        → Acts (closed g n) c does (record { process = env; place = place }) (and_then left (settled seen pos m.more.term place))
    acts_there does place part pos left active is = record {
      process = m.more;
      seen = seen;
      stands = mimics.stands_there known g n closes d c m;
      frame = 1;
      part = part;
      active = active;
      pos = pos;
      left = left;
      acts = is;
      leaves = refl;
    }

    -- a wait is over
    pub expired : (at : End) (result : Result Process Trouble) → Acts (closed g n) c Performs at result → at.process ≡ env
        → (left : ℕ) (x : Line) (rest : List Line) → d.environment.doing ≡ waits left x rest
        → Turns (offers x rest) (length m.more.state.objects) result
    expired at result is there left x rest waits_so =
        let e = env_acts Performs at result is there in
        let h = moving.performs_only seen closes.limits port Fits_line (fit_plain known g n closes) d.environment.doing m.more.term at.place e.frame e.part e.pos e.left result e.is_part e.does_so e.leaves in
        let same = waits_same h.left left h.line x h.rest rest (sym h.is ∙ waits_so) in
        subst (λ (k : Doing). Turns k (length m.more.state.objects) result) (ap (λ (y : Line). offers y h.rest) same.0 ∙ ap (λ (y : List Line). offers x y) same.1) h.becomes
      where
        waits_same : (i j : ℕ) (x y : Line) (r s : List Line) → waits i x r ≡ waits j y s → (x ≡ y) × (r ≡ s)
        waits_same i j x y r s e = (cc, cc)

    -- a send is done
    pub gave : (at : End) (parcel : ParcelView) (result : Result Process Trouble) → Acts (closed g n) c (λ a f. Hands a f parcel) at result
        → at.process ≡ env → (x : Line) (rest : List Line) → d.environment.doing ≡ offers x rest
        → Turns (begins rest) (length m.more.state.objects) result
    gave at parcel result is there x rest offers_so =
        let e = env_acts (λ a f. Hands a f parcel) at result is there in
        let h = moving.hands_only seen closes.limits port Fits_line (fit_plain known g n closes) d.environment.doing m.more.term at.place e.frame e.part parcel e.pos e.left result e.is_part e.does_so e.leaves in
        let same = offers_same h.line x h.rest rest (sym h.is ∙ offers_so) in
        subst (λ (k : List Line). Turns (begins k) (length m.more.state.objects) result) same.1 h.becomes

    -- a receive is done
    pub took : (at : End) (parcel : ParcelView) (result : Result Process Trouble) → Acts (closed g n) c (λ a f. Takes a f parcel) at result
        → at.process ≡ env → (x : Line) (rest : List Line) → d.environment.doing ≡ offers x rest
        → TakenOr seen port Fits_line x rest parcel result
    took at parcel result is there x rest offers_so =
        let e = env_acts (λ a f. Takes a f parcel) at result is there in
        let h = moving.takes_only seen closes.limits port Fits_line (fit_plain known g n closes) d.environment.doing m.more.term at.place e.frame e.part parcel e.pos e.left result e.is_part e.does_so e.leaves in
        let same = offers_same h.line x h.rest rest (sym h.is ∙ offers_so) in
        subst (λ (k : List Line). TakenOr seen port Fits_line x k parcel result) same.1
        (subst (λ (k : Line). TakenOr seen port Fits_line k h.rest parcel result) same.0 h.taken)

    -- they are done
    pub expires_so : (left : ℕ) (x : Line) (rest : List Line) → d.environment.doing ≡ waits left x rest
        → (r : Result Process Trouble) × Acts (closed g n) c Performs env_there r
    expires_so left x rest is =
        let h = moving.performs_there seen closes.limits port Fits_line (fit_plain known g n closes) left x rest m.more.term (subst (λ (k : Doing). IsDoing port Fits_line k m.more.term) is m.does) in
        let place : 0 ∷ 0 ∷ [] ≡ here = sym (ap place_of is) in
        let r = and_then (Ok (done_in m.more.state)) (settled seen (at_line x) m.more.term here) in
        (r, acts_there Performs here h.part (at_line x) (Ok (done_in m.more.state)) (subst (λ (k : Place). IsActive seen m.more.term k 1 h.part) place h.active) h.performs)

    exchange_there : (x : Line) (rest : List Line) → d.environment.doing ≡ offers x rest
        → IsActive seen m.more.term here 1 (leaf (exchange (port x) x x.entry.transfer))
    exchange_there x rest is =
        let h = offers_there seen closes.limits port Fits_line (fit_plain known g n closes) x rest m.more.term (subst (λ (k : Doing). IsDoing port Fits_line k m.more.term) is m.does) in
        subst (λ (k : Place). IsActive seen m.more.term k 1 (leaf (exchange (port x) x x.entry.transfer))) (sym (ap place_of is)) h.active

    pub gives_so : (x : Line) (rest : List Line) (values : List Value) → Gives g d x rest values
        → (r : Result Process Trouble) × Acts (closed g n) c (λ a f. Hands a f (plain g values)) env_there r
    gives_so x rest values is =
        let fit = (parts.offered known g n closes d c m x rest is.doing).fit in
        let r = and_then (Ok (done_in m.more.state)) (settled seen (at_line x) m.more.term here) in
        (r, acts_there (λ a f. Hands a f (plain g values)) here (leaf (exchange (port x) x x.entry.transfer)) (at_line x) (Ok (done_in m.more.state)) (exchange_there x rest is.doing) (moving.hands_there seen closes.limits port Fits_line (fit_plain known g n closes) x values (plain g values) fit is.sends is.paid refl))

    pub takes_so : (x : Line) (rest : List Line) (count : ℕ) (parcel : ParcelView) → Gets g d x rest count
        → (r : Result Process Trouble) × Acts (closed g n) c (λ a f. Takes a f parcel) env_there r
    takes_so x rest count parcel is =
        let h = moving.takes_there seen closes.limits port Fits_line (fit_plain known g n closes) x count parcel is.receives in
        (and_then h.0 (settled seen (at_line x) m.more.term here), acts_there (λ a f. Takes a f parcel) here (leaf (exchange (port x) x x.entry.transfer)) (at_line x) h.0 (exchange_there x rest is.doing) h.1)
