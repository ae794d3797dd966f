-- Parts of the system, and that of the environment, in both.
use Rattle.std.proofs.Common.{◌≡◌, ◌<◌, ℕ, List, [], sym, ap, subst, ◌∙◌}
use Rattle.pz_env_tree.specs.pz_syntax.declared.tokens.Pos.{Pos}
use Rattle.pz_env_tree.specs.pz_syntax.Classes.{ModelTree}
use Rattle.pz_env_tree.specs.pz_copy.Parcels.{ParcelView}
use Rattle.pz_env_tree.specs.pz_offer.declared.end.End.{End}
use Rattle.pz_env_tree.specs.pz_offer.PlaceOrder.{Place}
use Rattle.pz_env_tree.specs.pz_rules.declared.action.Action.{Action}
use Rattle.pz_env_tree.specs.pz_rules.Terms.{Term, leaf}
use Rattle.pz_env_tree.specs.pz_rules.Settings.{Setting, Context}
use Rattle.pz_env_tree.specs.pz_rules.Active.{IsActive}
use Rattle.pz_env_tree.specs.pz_rules.Messages.{Sends}
use Rattle.pz_env_tree.specs.pz_rules.Configurations.{Config}
use Rattle.pz_env_tree.specs.pz_rules.Offers.{PartAt}
use Rattle.pz_env_tree.specs.pz_env_rules.Environment.{Line, Doing, offers}
use Rattle.pz_env_tree.specs.pz_env_rules.Joining.{Driving}
use Rattle.pz_env_tree.specs.pz_env_rules.Driven.{Driven}
use Rattle.pz_env_same.specs.SameRules.{in_model, seen_in}
use Rattle.pz_env_mimics.specs.Environments.{exchange, IsPlain}
use Rattle.pz_env_mimics.specs.Closing.{Closes, closed}
use Rattle.pz_env_mimics.proofs.Known.{Known}
use Rattle.pz_env_mimics.proofs.Environment.{IsDoing, place_of}
use Rattle.pz_env_mimics.proofs.Doing.{offers_there}
use Rattle.pz_env_mimics.proofs.Mimics as mimics
use Rattle.pz_env_mimics.proofs.Mimics.{Mimics, Fit, fit_plain}
use Rattle.pz_env_mimics.proofs.Matching.{SameEnds, SameActions}

module _ (known : Known) (g : Driving) (n : ModelTree) (closes : Closes g n) (d : Driven) (c : Config) (m : Mimics known g n closes d c) where
  abbrev env : ℕ
  env = mimics.env known g n closes

  abbrev port : Line → ℕ
  port = mimics.port known g n closes

  abbrev Fits : Line → Type 0
  Fits = Fit known g n closes

  abbrev seen : Context
  seen = mimics.seen known g n closes d c m

  -- the place of the environment's part that acts
  abbrev pub here : Place
  here = place_of d.environment.doing

  abbrev pub Ends : End → End → Type 0
  Ends = SameEnds env [] here

  abbrev pub Actions : Action → Action → Type 0
  Actions = SameActions env [] here

  abbrev env_there : End
  env_there = record { process = env; place = here }

  pub low_of : (at : End) (a : Context) (f : ℕ) (t : Term) → PartAt g.setting d.system at a f t → at.process < env
  low_of at a f t is = known.parts_of g.setting d.system at a f t is

  pub part_on : (at : End) (a : Context) (f : ℕ) (t : Term) → PartAt g.setting d.system at a f t → PartAt (closed g n) c at (seen_in n a) f t
  part_on at a f t is = (known.parts_stand n g.setting d.system c m.more closes.rules m.both at f t).0 a is

  pub part_back : (at : End) (a : Context) (f : ℕ) (t : Term) → at.process < env → PartAt (closed g n) c at a f t
      → PartAt g.setting d.system at (seen_in g.setting.model a) f t
  part_back at a f t low is =
      (known.parts_stand n g.setting d.system c m.more closes.rules m.both at f t).1 a low is

  -- Sends of the system

  seen_again : (a : Context) → a.setting ≡ closed g n → seen_in n (seen_in g.setting.model a) ≡ a
  seen_again a e =
      ap (λ (s : Setting). let b : Context = record { setting = s; process = a.process; class = a.class; clock = a.clock; state = a.state } in b)
      (ap (λ (s : Setting). in_model n s) e ∙ sym e)

  setting_of : (at : End) (a : Context) (f : ℕ) (t : Term) → PartAt (closed g n) c at a f t → a.setting ≡ closed g n
  setting_of at a f t is = ap (λ (b : Context). b.setting) is.stands.seen

  pub sends_on : (at : End) (a : Context) (f : ℕ) (t : Term) (pos : Pos) (number : ℕ) (message : List ℕ) (parcel : ParcelView)
      → PartAt g.setting d.system at a f t → Sends a f t pos number message parcel → Sends (seen_in n a) f t pos number message parcel
  sends_on at a f t pos number message parcel is =
      (known.sends n a f t pos number message parcel (known.sees n g.setting d.system at.process is.process a closes.rules is.stands)).0

  pub sends_back : (at : End) (a : Context) (f : ℕ) (t : Term) (pos : Pos) (number : ℕ) (message : List ℕ) (parcel : ParcelView) → at.process < env
      → PartAt (closed g n) c at a f t → Sends a f t pos number message parcel
      → Sends (seen_in g.setting.model a) f t pos number message parcel
  sends_back at a f t pos number message parcel low is says =
      let old = part_back at a f t low is in
      (known.sends n (seen_in g.setting.model a) f t pos number message parcel (known.sees n g.setting d.system at.process old.process (seen_in g.setting.model a) closes.rules old.stands)).1
      (subst (λ (b : Context). Sends b f t pos number message parcel) (sym (seen_again a (setting_of at a f t is))) says)

  -- The environment as a part

  plain_lines : (x : Line) → Fits x → IsPlain x
  plain_lines = fit_plain known g n closes

  -- offered in the driven system, it is there as a part
  pub record IsOffered (x : Line) (rest : List Line) : Type 0 where
    pub fit : Fits x
    pub part : PartAt (closed g n) c env_there seen 1 (leaf (exchange (port x) x x.entry.transfer))

  pub offered : (x : Line) (rest : List Line) → d.environment.doing ≡ offers x rest → IsOffered x rest
  offered x rest is =
      let at = offers_there seen closes.limits port Fits plain_lines x rest m.more.term (subst (λ (k : Doing). IsDoing port Fits k m.more.term) is m.does) in
      record {
        fit = at.fit;
        part = mimics.part_there known g n closes d c m here (leaf (exchange (port x) x x.entry.transfer)) (subst (λ (k : Place). IsActive seen m.more.term k 1 (leaf (exchange (port x) x x.entry.transfer))) (sym (ap place_of is)) at.active);
      }

  -- the one end of the environment that says something
  pub end_is : (at : End) → at.process ≡ env → at.place ≡ here → env_there ≡ at
  end_is at p q =
      sym (ap (λ (k : ℕ). let e : End = record { process = k; place = at.place } in e) p ∙ ap (λ (k : Place). let e : End = record { process = env; place = k } in e) q)
