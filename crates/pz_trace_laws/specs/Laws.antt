-- Laws of names and lines.
use Rattle.std.specs.Prelude.{◌≡◌, ℕ, List, Ok}
use Rattle.pz_trace.specs.pz_syntax.Classes.{ModelTree}
use Rattle.pz_trace.specs.pz_syntax.ModelForm.{Each}
use Rattle.pz_trace.specs.pz_rules.declared.action.Action.{Action}
use Rattle.pz_trace.specs.pz_rules.declared.limits.Edition.TheVariants.{Two}
use Rattle.pz_trace.specs.pz_rules.Settings.{Setting}
use Rattle.pz_trace.specs.pz_rules.Configurations.{Config, IsWhole}
use Rattle.pz_trace.specs.pz_rules.Starting.{IsStart}
use Rattle.pz_trace.specs.pz_rules.Offers.{Offers}
use Rattle.pz_trace.specs.pz_rules.Steps.{Next, PassesTo}
use Rattle.pz_trace.specs.pz_rules.Runs.{Event, Standing, Reaches}
use Rattle.pz_trace.specs.TraceText.{event_line}
use Rattle.pz_trace.specs.Laws.{IsLine, HasUnbrokenNames, HasUnbrokenMessage}
use Rattle.pz_run_reading.specs.Models.{IsModelOf}
use Rattle.pz_trace_laws.specs.Messages.{HasUnbrokenMessages}
use Rattle.pz_trace_laws.specs.Standing.{AllUnbroken}

-- in a model that was read no name of an instance or a class has an LF
abbrev pub NamesAreUnbroken : Type 0
NamesAreUnbroken = (text : List ℕ) (m : ModelTree) → IsModelOf text m → HasUnbrokenNames m

-- nor has one of a message
abbrev pub MessagesAreUnbroken : Type 0
MessagesAreUnbroken = (text : List ℕ) (m : ModelTree) → IsModelOf text m → HasUnbrokenMessages m

-- then what is left of the processes has none either, at the start and later; in edition One a process
-- starts as a call, whatever the messages

abbrev pub StartIsUnbroken : Type 0
StartIsUnbroken = (setting : Setting) (c : Config) → (setting.limits.edition ≡ Two → HasUnbrokenMessages setting.model) → IsStart setting c → AllUnbroken c

abbrev pub StaysUnbroken : Type 0
StaysUnbroken = (setting : Setting) (c next : Config) (a : Action) (d : ℕ) → HasUnbrokenMessages setting.model → IsWhole setting c → AllUnbroken c
    → (Next setting c a (Ok next) → AllUnbroken next) × (PassesTo setting c d next → AllUnbroken next)

-- and no message that is offered
abbrev pub OffersAreUnbroken : Type 0
OffersAreUnbroken = (setting : Setting) (c : Config) (a : Action) → AllUnbroken c → Offers setting c a → HasUnbrokenMessage a

-- so each event of a run of a model that was read has a line of its own
abbrev pub RunsTellLines : Type 0
RunsTellLines = (text : List ℕ) (setting : Setting) (start end : Config) (events : List Event) (standing : Standing)
    → IsModelOf text setting.model → IsStart setting start → Reaches setting start events end standing → Each (λ e. IsLine (event_line setting.model e)) events
