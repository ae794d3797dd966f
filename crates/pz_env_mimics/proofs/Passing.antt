-- Where the passing of time leads in both is the same.
use Rattle.std.proofs.Common.{ℕ, refl, sym, ap, subst, ◌∙◌}
use Rattle.pz_env_tree.specs.pz_syntax.Classes.{ModelTree}
use Rattle.pz_env_tree.specs.pz_offer.declared.end.End.{End}
use Rattle.pz_env_tree.specs.pz_offer.PlaceOrder.{Place}
use Rattle.pz_env_tree.specs.pz_rules.declared.action.Kind.TheVariants.{Expire}
use Rattle.pz_env_tree.specs.pz_rules.declared.action.Action.TheVariants.{Internal}
use Rattle.pz_env_tree.specs.pz_rules.Terms.{Term}
use Rattle.pz_env_tree.specs.pz_rules.Settings.{Context, left_by}
use Rattle.pz_env_tree.specs.pz_rules.Delays.{Passes}
use Rattle.pz_env_tree.specs.pz_rules.Configurations.{Config, Stands, IsWhole}
use Rattle.pz_env_tree.specs.pz_rules.Steps.{PassesTo}
use Rattle.pz_env_tree.specs.pz_env_rules.Environment.{Line, later, Environment}
use Rattle.pz_env_tree.specs.pz_env_rules.Joining.{Driving}
use Rattle.pz_env_tree.specs.pz_env_rules.Driven.{Driven}
use Rattle.pz_env_tree.specs.pz_env_rules.Steps.{DrivenPasses}
use Rattle.pz_env_same.specs.OneMore.{behind}
use Rattle.pz_env_tree.specs.EnvironmentClass.{first_place}
use Rattle.pz_env_mimics.specs.Closing.{Closes, closed}
use Rattle.pz_env_mimics.proofs.Known.{Known}
use Rattle.pz_env_mimics.proofs.Environment.{IsDoing}
use Rattle.pz_env_mimics.proofs.Elapsing as elapsing
use Rattle.pz_env_mimics.proofs.Mimics as mimics
use Rattle.pz_env_mimics.proofs.Mimics.{Mimics, Fit, fit_plain}
use Rattle.pz_env_mimics.proofs.Parts as parts

module _ (known : Known) (g : Driving) (n : ModelTree) (closes : Closes g n) where
  abbrev env : ℕ
  env = mimics.env known g n closes

  abbrev port : Line → ℕ
  port = mimics.port known g n closes

  abbrev Fits_line : Line → Type 0
  Fits_line = Fit known g n closes

  abbrev Both : Driven → Config → Type 0
  Both = Mimics known g n closes

  module _ (d : Driven) (c : Config) (m : Both d c) where
    abbrev seen : Context
    seen = mimics.seen known g n closes d c m

    abbrev here : Place
    here = parts.here known g n closes d c m

    abbrev env_there : End
    env_there = record { process = env; place = here }

    more_passes : (time : ℕ) (x : Term) → Passes seen time 0 m.more.term x → (a : Context) → Stands (closed g n) c env m.more a → Passes a time 0 m.more.term x
    more_passes time x is a stands =
        let e = mimics.of_environment known g n closes d c m env m.more a stands refl in
        subst (λ (b : Context). Passes b time 0 m.more.term x) (sym e.context) is

    pub record PassesOn (time : ℕ) (next : Driven) : Type 0 where
      pub after : Config
      pub is : PassesTo (closed g n) c time after
      pub same : Both next after

    pub passes_on : (time : ℕ) (next : Driven) → DrivenPasses g d time next → PassesOn time next
    passes_on time next is =
        let e = elapsing.passes_there seen closes.limits port Fits_line (fit_plain known g n closes) time d.environment.doing m.more.term m.does in
        let whole : IsWhole g.setting next.system = (known.stays_whole g.setting d.system next.system (Internal env_there Expire first_place) time m.both.whole).1 is.system in
        record {
          after = behind next.system (left_by m.more.state e.0);
          is = (known.passes n g.setting d.system c m.more closes.rules m.both time).0 next.system e.0 is.system (more_passes time e.0 e.1);
          same = record {
            more = left_by m.more.state e.0;
            both = record { whole = whole; clock = refl; processes = refl };
            does = subst (λ (k : Environment). IsDoing port Fits_line k.doing e.0) (sym is.environment) (elapsing.passes_only seen closes.limits port Fits_line (fit_plain known g n closes) time d.environment.doing m.more.term e.0 m.does e.1);
            has = m.has ∙ ap (λ (k : Environment). k.objects) (sym is.environment);
          };
        }

    pub record PassesBack (time : ℕ) (after : Config) : Type 0 where
      pub next : Driven
      pub is : DrivenPasses g d time next
      pub same : Both next after

    pub passes_back : (time : ℕ) (after : Config) → PassesTo (closed g n) c time after → PassesBack time after
    passes_back time after is =
        let h = (known.passes n g.setting d.system c m.more closes.rules m.both time).1 after is in
        let whole : IsWhole g.setting h.next = (known.stays_whole g.setting d.system h.next (Internal env_there Expire first_place) time m.both.whole).1 h.passes in
        let moved : Passes seen time 0 m.more.term h.left = h.more seen (mimics.stands_there known g n closes d c m) in
        record {
          next = record { system = h.next; environment = record { doing = later time d.environment.doing; objects = d.environment.objects } };
          is = record { system = h.passes; environment = refl };
          same = record {
            more = left_by m.more.state h.left;
            both = record { whole = whole; clock = ap (λ (k : Config). k.clock) h.is; processes = ap (λ (k : Config). k.processes) h.is };
            does = elapsing.passes_only seen closes.limits port Fits_line (fit_plain known g n closes) time d.environment.doing m.more.term h.left m.does moved;
            has = m.has;
          };
        }
