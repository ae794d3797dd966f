-- Where a simulator is ready, some run is chosen from there.
use Rattle.std.proofs.Common.{◌≡◌, ℕ, List, [], refl}
use Rattle.pz_rules.specs.Settings.{Setting}
use Rattle.pz_rules.specs.Configurations.{Config}
use Rattle.pz_rules.specs.Runs as runs
use Rattle.pz_rules.specs.Runs.{Event, Standing, whole, stopped, Reaches, Ending, ended, deadlocked, troubled, halted, refused, Ends}
use Rattle.pz_rules.specs.ChosenRuns.{Policy, IsChosenRun}
use Rattle.pz_rules.specs.Laws.{IsOwn, IsRun}
use Rattle.pz_term_simulator.specs.Simulations.{Simulation, stands, broken}
use Rattle.pz_run_playing.specs.Playing.{EndsAs}
use Rattle.pz_run_playing.specs.devices.Known.{Known}
use Rattle.pz_run_playing.specs.devices.Rests.{IsReady, RestOf}

-- some run from there
pub record HasRest (policy : Policy) (j : ℕ) (s : Simulation) : Type 0 where
  pub events : List Event
  pub to : Simulation
  pub ending : Ending
  pub rest_of : RestOf policy j s events to ending

ends_as_it_stands : (setting : Setting) (c : Config) (standing : Standing) (ending : Ending) → Ends setting c standing ending → EndsAs standing ending
ends_as_it_stands setting _ _ _ (runs.ends c is) = tt
ends_as_it_stands setting _ _ _ (runs.deadlocks c is) = tt
ends_as_it_stands setting _ _ _ (runs.faults c trouble is) = tt
ends_as_it_stands setting _ _ _ (runs.highs c trouble is) = tt
ends_as_it_stands setting _ _ _ (runs.stops c trouble) = refl
ends_as_it_stands setting _ _ _ (runs.halts_acting c n is) = tt
ends_as_it_stands setting _ _ _ (runs.halts_passing c d is) = tt

module _ (setting : Setting) (policy : Policy) (j : ℕ) (c end : Config) (events : List Event) where
  rest_of_run : (ending : Ending) → IsChosenRun setting policy j c events end ending → IsRun setting c events end ending → HasRest policy j (stands setting c whole)
  rest_of_run ending run is = record {
    events = events;
    to = stands setting end is.standing;
    ending = ending;
    rest_of = record { end = end; standing = is.standing; is_end = refl; run = run; reaches = is.reaches; ends_as = ends_as_it_stands setting end is.standing ending is.ends };
  }

  rest_by : (ending : Ending) → IsChosenRun setting policy j c events end ending → (IsOwn ending → IsRun setting c events end ending) × ((entry count : ℕ) → ending ≡ refused entry count → Reaches setting c events end whole)
      → HasRest policy j (stands setting c whole)
  rest_by ended run law = rest_of_run ended run (law.0 tt)
  rest_by deadlocked run law = rest_of_run deadlocked run (law.0 tt)
  rest_by (troubled trouble) run law = rest_of_run (troubled trouble) run (law.0 tt)
  rest_by halted run law = rest_of_run halted run (law.0 tt)
  rest_by (refused entry count) run law = record {
    events = events;
    to = stands setting end whole;
    ending = refused entry count;
    rest_of = record { end = end; standing = whole; is_end = refl; run = run; reaches = law.1 entry count refl; ends_as = tt };
  }

pub some_rest : Known → (policy : Policy) (j : ℕ) (s : Simulation) → IsReady s → HasRest policy j s
some_rest known policy j (stands setting c whole) ready =
    let r = known.some_run setting policy j c ready.sound ready.wires ready.all ready.fit in
    rest_by setting policy j c r.end r.events r.ending r.run (known.are_runs setting policy j c r.events r.end r.ending r.run)
some_rest known policy j (stands setting c (stopped trouble)) ready = record {
  events = [];
  to = stands setting c (stopped trouble);
  ending = troubled trouble;
  rest_of = record { none = refl; stays = refl; is_ending = refl };
}
some_rest known policy j (broken setting) ready = absurd ready
