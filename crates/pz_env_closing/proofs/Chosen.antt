-- A run that a policy chooses from the start of a model, whole.
use Rattle.std.proofs.Common.{◌≡◌, List, refl}
use Rattle.pz_run_playing.specs.pz_rules.Settings.{Setting}
use Rattle.pz_run_playing.specs.pz_rules.Configurations.{Config}
use Rattle.pz_run_playing.specs.pz_rules.Starting.{IsStart}
use Rattle.pz_run_playing.specs.pz_rules.Runs.{Event, Standing, whole, stopped, Reaches, Ending, ended, deadlocked, troubled, halted, refused, Ends}
use Rattle.pz_run_playing.specs.pz_rules.Runs as runs
use Rattle.pz_run_playing.specs.pz_rules.ChosenRuns.{Policy, IsChosenRun}
use Rattle.pz_run_playing.specs.pz_rules.Laws.{ChosenRunsAreRuns, IsRun}
use Rattle.pz_run_playing.specs.Playing.{EndsAs, ChosenRun}

as_it_stands : (setting : Setting) (c : Config) (standing : Standing) (ending : Ending) → Ends setting c standing ending → EndsAs standing ending
as_it_stands setting _ _ _ (runs.ends c is) = tt
as_it_stands setting _ _ _ (runs.deadlocks c is) = tt
as_it_stands setting _ _ _ (runs.faults c trouble is) = tt
as_it_stands setting _ _ _ (runs.highs c trouble is) = tt
as_it_stands setting _ _ _ (runs.stops c trouble) = refl
as_it_stands setting _ _ _ (runs.halts_acting c n is) = tt
as_it_stands setting _ _ _ (runs.halts_passing c d is) = tt

module _ (setting : Setting) (policy : Policy) (start : Config) (is_start : IsStart setting start) (events : List Event) (end : Config) where
  -- with these events, this end and this ending
  pub record Whole (ending : Ending) : Type 0 where
    pub run : ChosenRun setting policy
    pub same_events : run.events ≡ events
    pub same_end : run.end ≡ end
    pub same_ending : run.ending ≡ ending

  whole_run : (ending : Ending) → IsChosenRun setting policy 0 start events end ending → IsRun setting start events end ending → Whole ending
  whole_run ending chosen is = record {
    run = record {
      start = start;
      is_start = is_start;
      events = events;
      end = end;
      standing = is.standing;
      reaches = is.reaches;
      ending = ending;
      ends_as = as_it_stands setting end is.standing ending is.ends;
      is_chosen = chosen;
    };
    same_events = refl;
    same_end = refl;
    same_ending = refl;
  }

  pub whole_of : ChosenRunsAreRuns → (ending : Ending) → IsChosenRun setting policy 0 start events end ending → Whole ending
  whole_of are ended chosen = whole_run ended chosen ((are setting policy 0 start events end ended chosen).0 tt)
  whole_of are deadlocked chosen = whole_run deadlocked chosen ((are setting policy 0 start events end deadlocked chosen).0 tt)
  whole_of are halted chosen = whole_run halted chosen ((are setting policy 0 start events end halted chosen).0 tt)
  whole_of are (troubled trouble) chosen = whole_run (troubled trouble) chosen ((are setting policy 0 start events end (troubled trouble) chosen).0 tt)
  whole_of are (refused entry count) chosen = record {
    run = record {
      start = start;
      is_start = is_start;
      events = events;
      end = end;
      standing = whole;
      reaches = (are setting policy 0 start events end (refused entry count) chosen).1 entry count refl;
      ending = refused entry count;
      ends_as = tt;
      is_chosen = chosen;
    };
    same_events = refl;
    same_end = refl;
    same_ending = refl;
  }
