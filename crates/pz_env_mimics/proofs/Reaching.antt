-- Runs of both go the same way, and may end so.
use Rattle.std.proofs.Common.{◌↔◌, ℕ, List, [], ◌∷◌, Ok, Err, refl, subst}
use Rattle.pz_env_tree.specs.pz_syntax.Classes.{ModelTree}
use Rattle.pz_env_tree.specs.pz_rules.declared.moment.Moment.{Moment}
use Rattle.pz_env_tree.specs.pz_rules.declared.moment.Moment.TheVariants.{Actions, Time, Finished, Deadlock, Faulty, Stopped}
use Rattle.pz_env_tree.specs.pz_rules.Configurations.{Config}
use Rattle.pz_env_tree.specs.pz_rules.Steps.{Next}
use Rattle.pz_env_tree.specs.pz_rules.Moments.{IsMoment}
use Rattle.pz_env_tree.specs.pz_rules.Runs as runs
use Rattle.pz_env_tree.specs.pz_rules.Runs.{Event, acted, passed, IsChoice, Standing, whole, stopped, Reaches, Ending, Ends}
use Rattle.pz_env_tree.specs.pz_env_rules.Joining.{Driving}
use Rattle.pz_env_tree.specs.pz_env_rules.Driven.{Driven}
use Rattle.pz_env_tree.specs.pz_env_rules.Moments.{IsDrivenMoment}
use Rattle.pz_env_tree.specs.pz_env_rules.Steps.{DrivenNext}
use Rattle.pz_env_tree.specs.pz_env_rules.Runs as driven_runs
use Rattle.pz_env_tree.specs.pz_env_rules.Runs.{IsDrivenChoice, DrivenReaches, DrivenEnds}
use Rattle.pz_env_mimics.specs.Closing.{Closes, closed, SameEvents}
use Rattle.pz_env_mimics.proofs.Known.{Known}
use Rattle.pz_env_mimics.proofs.Mimics as mimics
use Rattle.pz_env_mimics.proofs.Mimics.{Mimics}
use Rattle.pz_env_mimics.proofs.Parts as parts
use Rattle.pz_env_mimics.proofs.Moments.{moment_on, moment_back}
use Rattle.pz_env_mimics.proofs.Nexts.{next_on, next_back}
use Rattle.pz_env_mimics.proofs.Passing.{passes_on, passes_back}
use Rattle.pz_env_mimics.proofs.Choices.{choice_on, choice_back, goes_on, goes_back, fails_on, fails_back, same_acted, same_passed}

module _ (known : Known) (g : Driving) (n : ModelTree) (closes : Closes g n) where
  abbrev env : ℕ
  env = mimics.env known g n closes

  abbrev Both : Driven → Config → Type 0
  Both = Mimics known g n closes

  pub record ReachOn (c : Config) (events : List Event) (end : Driven) (standing : Standing) : Type 0 where
    pub told : List Event
    pub last : Config
    pub is : Reaches (closed g n) c told last standing
    pub same : SameEvents g events told
    pub both : Both end last

  pub reach_on : (d : Driven) (events : List Event) (end : Driven) (standing : Standing) → DrivenReaches g d events end standing → (c : Config)
      → Both d c → ReachOn c events end standing
  reach_on _ _ _ _ (driven_runs.here d) c m = record { told = []; last = c; is = runs.here c; same = tt; both = m }
  reach_on _ _ _ _ (driven_runs.acts d next end count k a events standing moment choice step more) c m =
      let b = choice_on known g n closes d c m count k a choice in
      let s = next_on known g n closes d c m a b.action (Ok next) b.same step in
      let on = goes_on known g n closes (Ok next) next s.result refl s.same in
      let rest = reach_on next events end standing more on.config on.same in
      record {
        told = acted c.clock count k b.action ∷ rest.told;
        last = rest.last;
        is =
            runs.acts c on.config rest.last count k b.action rest.told standing
            (moment_on known g n closes d c m (Actions count) moment) b.is
            (subst (Next (closed g n) c b.action) on.is s.is) rest.is;
        same = (same_acted known g n closes (parts.here known g n closes d c m) c.clock d.system.clock count k a b.action m.both.clock b.same, rest.same);
        both = rest.both;
      }
  reach_on _ _ _ _ (driven_runs.stops d count k a trouble moment choice step) c m =
      let b = choice_on known g n closes d c m count k a choice in
      let s = next_on known g n closes d c m a b.action (Err trouble) b.same step in
      let ends = fails_on known g n closes (Err trouble) trouble s.result refl s.same in
      record {
        told = acted c.clock count k b.action ∷ [];
        last = c;
        is = runs.stops c count k b.action trouble (moment_on known g n closes d c m (Actions count) moment) b.is (subst (Next (closed g n) c b.action) ends s.is);
        same = (same_acted known g n closes (parts.here known g n closes d c m) c.clock d.system.clock count k a b.action m.both.clock b.same, tt);
        both = m;
      }
  reach_on _ _ _ _ (driven_runs.passes d next end time events standing moment step more) c m =
      let on = passes_on known g n closes d c m time next step in
      let rest = reach_on next events end standing more on.after on.same in
      record {
        told = passed c.clock time ∷ rest.told;
        last = rest.last;
        is = runs.passes c on.after rest.last time rest.told standing (moment_on known g n closes d c m (Time time) moment) on.is rest.is;
        same = (same_passed known g n closes c.clock d.system.clock time m.both.clock, rest.same);
        both = rest.both;
      }

  pub record ReachBack (d : Driven) (told : List Event) (last : Config) (standing : Standing) : Type 0 where
    pub events : List Event
    pub end : Driven
    pub is : DrivenReaches g d events end standing
    pub same : SameEvents g events told
    pub both : Both end last

  pub reach_back : (c : Config) (told : List Event) (last : Config) (standing : Standing) → Reaches (closed g n) c told last standing → (d : Driven)
      → Both d c → ReachBack d told last standing
  reach_back _ _ _ _ (runs.here c) d m = record { events = []; end = d; is = driven_runs.here d; same = tt; both = m }
  reach_back _ _ _ _ (runs.acts c next last count k b told standing moment choice step more) d m =
      let a = choice_back known g n closes d c m count k b choice in
      let s = next_back known g n closes d c m a.action b (Ok next) a.same a.offers_it step in
      let on = goes_back known g n closes s.result next (Ok next) refl s.same in
      let rest = reach_back next told last standing more on.driven on.same in
      record {
        events = acted d.system.clock count k a.action ∷ rest.events;
        end = rest.end;
        is =
            driven_runs.acts d on.driven rest.end count k a.action rest.events standing
            (moment_back known g n closes d c m (Actions count) moment) a.is (subst (DrivenNext g d a.action) on.is s.is)
            rest.is;
        same = (same_acted known g n closes (parts.here known g n closes d c m) c.clock d.system.clock count k a.action b m.both.clock a.same, rest.same);
        both = rest.both;
      }
  reach_back _ _ _ _ (runs.stops c count k b trouble moment choice step) d m =
      let a = choice_back known g n closes d c m count k b choice in
      let s = next_back known g n closes d c m a.action b (Err trouble) a.same a.offers_it step in
      let ends = fails_back known g n closes s.result trouble (Err trouble) refl s.same in
      record {
        events = acted d.system.clock count k a.action ∷ [];
        end = d;
        is =
            driven_runs.stops d count k a.action trouble
            (moment_back known g n closes d c m (Actions count) moment) a.is (subst (DrivenNext g d a.action) ends s.is);
        same = (same_acted known g n closes (parts.here known g n closes d c m) c.clock d.system.clock count k a.action b m.both.clock a.same, tt);
        both = m;
      }
  reach_back _ _ _ _ (runs.passes c next last time told standing moment step more) d m =
      let on = passes_back known g n closes d c m time next step in
      let rest = reach_back next told last standing more on.next on.same in
      record {
        events = passed d.system.clock time ∷ rest.events;
        end = rest.end;
        is = driven_runs.passes d on.next rest.end time rest.events standing (moment_back known g n closes d c m (Time time) moment) on.is rest.is;
        same = (same_passed known g n closes c.clock d.system.clock time m.both.clock, rest.same);
        both = rest.both;
      }

  -- Ends

  module _ (d : Driven) (c : Config) (m : Both d c) where
    pub moments : (k : Moment) → IsDrivenMoment g d k ↔ IsMoment (closed g n) c k
    moments k = (moment_on known g n closes d c m k, moment_back known g n closes d c m k)

    ends_on : (standing : Standing) (ending : Ending) → DrivenEnds g d standing ending → Ends (closed g n) c standing ending
    ends_on _ _ (driven_runs.ends _ is) = runs.ends c ((moments Finished).0 is)
    ends_on _ _ (driven_runs.deadlocks _ is) = runs.deadlocks c ((moments Deadlock).0 is)
    ends_on _ _ (driven_runs.faults _ trouble is) = runs.faults c trouble ((moments (Faulty trouble)).0 is)
    ends_on _ _ (driven_runs.highs _ trouble is) = runs.highs c trouble ((moments (Stopped trouble)).0 is)
    ends_on _ _ (driven_runs.stops _ trouble) = runs.stops c trouble
    ends_on _ _ (driven_runs.halts_acting _ k is) = runs.halts_acting c k ((moments (Actions k)).0 is)
    ends_on _ _ (driven_runs.halts_passing _ time is) = runs.halts_passing c time ((moments (Time time)).0 is)

    ends_back : (standing : Standing) (ending : Ending) → Ends (closed g n) c standing ending → DrivenEnds g d standing ending
    ends_back _ _ (runs.ends _ is) = driven_runs.ends d ((moments Finished).1 is)
    ends_back _ _ (runs.deadlocks _ is) = driven_runs.deadlocks d ((moments Deadlock).1 is)
    ends_back _ _ (runs.faults _ trouble is) = driven_runs.faults d trouble ((moments (Faulty trouble)).1 is)
    ends_back _ _ (runs.highs _ trouble is) = driven_runs.highs d trouble ((moments (Stopped trouble)).1 is)
    ends_back _ _ (runs.stops _ trouble) = driven_runs.stops d trouble
    ends_back _ _ (runs.halts_acting _ k is) = driven_runs.halts_acting d k ((moments (Actions k)).1 is)
    ends_back _ _ (runs.halts_passing _ time is) = driven_runs.halts_passing d time ((moments (Time time)).1 is)

    pub ends_same : (standing : Standing) (ending : Ending) → DrivenEnds g d standing ending ↔ Ends (closed g n) c standing ending
    ends_same standing ending = (ends_on standing ending, ends_back standing ending)
