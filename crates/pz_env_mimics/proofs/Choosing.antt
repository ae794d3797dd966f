-- What a policy chooses of both is the same.
use Rattle.std.proofs.Common.{◌≡◌, ℕ, suc, List, [], ◌∷◌, Ok, Err, refl, sym, ap, subst, ◌∙◌}
use Rattle.pz_env_tree.specs.pz_syntax.Classes.{ModelTree}
use Rattle.pz_env_tree.specs.pz_rules.declared.moment.Moment.{Moment}
use Rattle.pz_env_tree.specs.pz_rules.Configurations.{Config}
use Rattle.pz_env_tree.specs.pz_rules.Steps.{Next}
use Rattle.pz_env_tree.specs.pz_rules.Runs.{Event, acted, passed, Ending}
use Rattle.pz_env_tree.specs.pz_rules.ChosenRuns as chosen
use Rattle.pz_env_tree.specs.pz_rules.ChosenRuns.{Policy, Decision, decided, stops_with, takes, waits, IsChosenRun}
use Rattle.pz_env_tree.specs.pz_env_rules.Joining.{Driving}
use Rattle.pz_env_tree.specs.pz_env_rules.Driven.{Driven}
use Rattle.pz_env_tree.specs.pz_env_rules.Steps.{DrivenNext}
use Rattle.pz_env_tree.specs.pz_env_rules.ChosenRuns as driven_chosen
use Rattle.pz_env_tree.specs.pz_env_rules.ChosenRuns.{IsChosenDrivenRun}
use Rattle.pz_env_mimics.specs.Closing.{Closes, closed, SameEvents}
use Rattle.pz_env_mimics.proofs.Known.{Known}
use Rattle.pz_env_mimics.proofs.Mimics.{Mimics}
use Rattle.pz_env_mimics.proofs.Parts as parts
use Rattle.pz_env_mimics.proofs.Moments.{moment_on, moment_back}
use Rattle.pz_env_mimics.proofs.Nexts.{next_on, next_back}
use Rattle.pz_env_mimics.proofs.Passing.{passes_on, passes_back}
use Rattle.pz_env_mimics.proofs.Choices.{choice_on, choice_back, goes_on, goes_back, fails_on, fails_back, same_acted, same_passed}

module _ (known : Known) (g : Driving) (n : ModelTree) (closes : Closes g n) (policy : Policy) where
  abbrev Both : Driven → Config → Type 0
  Both = Mimics known g n closes

  -- the same is decided at the same clock
  same_decided : (j at clock : ℕ) (k : Moment) (x : Decision) → at ≡ clock → decided policy j clock k ≡ x → decided policy j at k ≡ x
  same_decided j at clock k x e is = ap (λ (t : ℕ). decided policy j t k) e ∙ is

  pub record ChosenOn (j : ℕ) (c : Config) (events : List Event) (end : Driven) (ending : Ending) : Type 0 where
    pub told : List Event
    pub last : Config
    pub is : IsChosenRun (closed g n) policy j c told last ending
    pub same : SameEvents g events told
    pub both : Both end last

  pub chosen_on : (j : ℕ) (d : Driven) (events : List Event) (end : Driven) (ending : Ending) → IsChosenDrivenRun g policy j d events end ending
      → (c : Config) → Both d c → ChosenOn j c events end ending
  chosen_on _ _ _ _ _ (driven_chosen.ends j d k ending moment decides) c m =
      record {
        told = [];
        last = c;
        is = chosen.ends j c k ending (moment_on known g n closes d c m k moment) (same_decided j c.clock d.system.clock k (stops_with ending) m.both.clock decides);
        same = tt;
        both = m;
      }
  chosen_on _ _ _ _ _ (driven_chosen.acts j d next end k count number a events ending moment decides choice step more) c m =
      let b = choice_on known g n closes d c m count number a choice in
      let s = next_on known g n closes d c m a b.action (Ok next) b.same step in
      let on = goes_on known g n closes (Ok next) next s.result refl s.same in
      let rest = chosen_on (suc j) next events end ending more on.config on.same in
      record {
        told = acted c.clock count number b.action ∷ rest.told;
        last = rest.last;
        is =
            chosen.acts j c on.config rest.last k count number b.action rest.told ending
            (moment_on known g n closes d c m k moment)
            (same_decided j c.clock d.system.clock k (takes count number) m.both.clock decides) b.is
            (subst (Next (closed g n) c b.action) on.is s.is) rest.is;
        same = (same_acted known g n closes (parts.here known g n closes d c m) c.clock d.system.clock count number a b.action m.both.clock b.same, rest.same);
        both = rest.both;
      }
  chosen_on _ _ _ _ _ (driven_chosen.stops j d k count number a trouble moment decides choice step) c m =
      let b = choice_on known g n closes d c m count number a choice in
      let s = next_on known g n closes d c m a b.action (Err trouble) b.same step in
      let ends = fails_on known g n closes (Err trouble) trouble s.result refl s.same in
      record {
        told = acted c.clock count number b.action ∷ [];
        last = c;
        is =
            chosen.stops j c k count number b.action trouble
            (moment_on known g n closes d c m k moment)
            (same_decided j c.clock d.system.clock k (takes count number) m.both.clock decides) b.is
            (subst (Next (closed g n) c b.action) ends s.is);
        same = (same_acted known g n closes (parts.here known g n closes d c m) c.clock d.system.clock count number a b.action m.both.clock b.same, tt);
        both = m;
      }
  chosen_on _ _ _ _ _ (driven_chosen.passes j d next end k time events ending moment decides step more) c m =
      let on = passes_on known g n closes d c m time next step in
      let rest = chosen_on j next events end ending more on.after on.same in
      record {
        told = passed c.clock time ∷ rest.told;
        last = rest.last;
        is =
            chosen.passes j c on.after rest.last k time rest.told ending
            (moment_on known g n closes d c m k moment)
            (same_decided j c.clock d.system.clock k (waits time) m.both.clock decides) on.is rest.is;
        same = (same_passed known g n closes c.clock d.system.clock time m.both.clock, rest.same);
        both = rest.both;
      }

  pub record ChosenBack (j : ℕ) (d : Driven) (told : List Event) (last : Config) (ending : Ending) : Type 0 where
    pub events : List Event
    pub end : Driven
    pub is : IsChosenDrivenRun g policy j d events end ending
    pub same : SameEvents g events told
    pub both : Both end last

  pub chosen_back : (j : ℕ) (c : Config) (told : List Event) (last : Config) (ending : Ending) → IsChosenRun (closed g n) policy j c told last ending
      → (d : Driven) → Both d c → ChosenBack j d told last ending
  chosen_back _ _ _ _ _ (chosen.ends j c k ending moment decides) d m =
      record {
        events = [];
        end = d;
        is =
            driven_chosen.ends j d k ending
            (moment_back known g n closes d c m k moment)
            (same_decided j d.system.clock c.clock k (stops_with ending) (sym m.both.clock) decides);
        same = tt;
        both = m;
      }
  chosen_back _ _ _ _ _ (chosen.acts j c next last k count number b told ending moment decides choice step more) d m =
      let a = choice_back known g n closes d c m count number b choice in
      let s = next_back known g n closes d c m a.action b (Ok next) a.same a.offers_it step in
      let on = goes_back known g n closes s.result next (Ok next) refl s.same in
      let rest = chosen_back (suc j) next told last ending more on.driven on.same in
      record {
        events = acted d.system.clock count number a.action ∷ rest.events;
        end = rest.end;
        is =
            driven_chosen.acts j d on.driven rest.end k count number a.action rest.events ending
            (moment_back known g n closes d c m k moment)
            (same_decided j d.system.clock c.clock k (takes count number) (sym m.both.clock) decides) a.is
            (subst (DrivenNext g d a.action) on.is s.is) rest.is;
        same = (same_acted known g n closes (parts.here known g n closes d c m) c.clock d.system.clock count number a.action b m.both.clock a.same, rest.same);
        both = rest.both;
      }
  chosen_back _ _ _ _ _ (chosen.stops j c k count number b trouble moment decides choice step) d m =
      let a = choice_back known g n closes d c m count number b choice in
      let s = next_back known g n closes d c m a.action b (Err trouble) a.same a.offers_it step in
      let ends = fails_back known g n closes s.result trouble (Err trouble) refl s.same in
      record {
        events = acted d.system.clock count number a.action ∷ [];
        end = d;
        is =
            driven_chosen.stops j d k count number a.action trouble
            (moment_back known g n closes d c m k moment)
            (same_decided j d.system.clock c.clock k (takes count number) (sym m.both.clock) decides) a.is
            (subst (DrivenNext g d a.action) ends s.is);
        same = (same_acted known g n closes (parts.here known g n closes d c m) c.clock d.system.clock count number a.action b m.both.clock a.same, tt);
        both = m;
      }
  chosen_back _ _ _ _ _ (chosen.passes j c next last k time told ending moment decides step more) d m =
      let on = passes_back known g n closes d c m time next step in
      let rest = chosen_back j next told last ending more on.next on.same in
      record {
        events = passed d.system.clock time ∷ rest.events;
        end = rest.end;
        is =
            driven_chosen.passes j d on.next rest.end k time rest.events ending
            (moment_back known g n closes d c m k moment)
            (same_decided j d.system.clock c.clock k (waits time) (sym m.both.clock) decides) on.is rest.is;
        same = (same_passed known g n closes c.clock d.system.clock time m.both.clock, rest.same);
        both = rest.both;
      }
