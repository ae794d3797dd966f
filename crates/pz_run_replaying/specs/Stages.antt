-- Where the lines that a trace begins with lead.
use Rattle.std.specs.Prelude.{◌≡◌, ℕ, List, [], ◌∷◌, ◌++◌, map}
use Rattle.pz_rules.specs.Settings.{Setting}
use Rattle.pz_rules.specs.Configurations.{Config}
use Rattle.pz_rules.specs.Starting.{IsStart}
use Rattle.pz_rules.specs.Runs.{Event, Standing, Reaches, Ends}
use Rattle.pz_trace.specs.declared.ending.Ending.{Ending}
use Rattle.pz_trace.specs.Lines.{end_line}
use Rattle.pz_trace.specs.TraceText.{trace_header, event_line, run_ending}
use Rattle.pz_term_simulator.specs.Simulations.{Simulation, stands, Starts}

pub data Stage : Type 0 where
  -- nothing was told
  unbegun : Stage
  -- of a run that stands here, its events were told
  underway : Config → Standing → Stage
  -- and so was its end
  concluded : Config → Standing → Ending → Stage

pub data LeadsTo (setting : Setting) : List (List ℕ) → Stage → Type 0 where
  nothing_told : LeadsTo setting [] unbegun
  events_told : (start c : Config) (events : List Event) (standing : Standing) → IsStart setting start → Reaches setting start events c standing
      → LeadsTo setting (trace_header setting ∷ map (event_line setting.model) events) (underway c standing)
  end_told : (start c : Config) (events : List Event) (standing : Standing) (ending : Ending)
      → IsStart setting start → Reaches setting start events c standing → Ends setting c standing (run_ending ending)
      → LeadsTo setting (trace_header setting ∷ (map (event_line setting.model) events ++ end_line setting.model c.clock ending ∷ [])) (concluded c standing ending)

-- a simulator that has gone so far
abbrev pub IsAt : Setting → Stage → Simulation → Type 0
IsAt setting unbegun s = Starts setting s
IsAt setting (underway c standing) s = s ≡ stands setting c standing
IsAt setting (concluded c standing ending) s = s ≡ stands setting c standing
