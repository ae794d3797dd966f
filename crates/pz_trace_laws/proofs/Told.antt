-- Each event of a run of a model that was read has a line of its own.
use Rattle.std.proofs.Common.{◌∙◌, ℕ, List, subst}
use Rattle.std.proofs.lemmas.Option.{slice_get_within, get_or_from_slice_get}
use Rattle.pz_trace.specs.pz_syntax.ModelForm.{Each}
use Rattle.pz_trace.specs.pz_rules.declared.action.Action.{Action}
use Rattle.pz_trace.specs.pz_rules.Laws.{StaysWhole}
use Rattle.pz_trace.specs.pz_rules.Settings.{Setting}
use Rattle.pz_trace.specs.pz_rules.Configurations.{Config, IsWhole}
use Rattle.pz_trace.specs.pz_rules.Offers.{Offers}
use Rattle.pz_trace.specs.pz_rules.Runs.{Event, acted, Standing, IsChoice, Reaches, here, acts, stops, passes}
use Rattle.pz_trace.specs.TraceText.{event_line}
use Rattle.pz_trace.specs.Laws.{IsLine, HasUnbrokenNames, TimeLinesAreLines, ActionLinesAreLines}
use Rattle.pz_trace_laws.specs.Messages.{HasUnbrokenMessages}
use Rattle.pz_trace_laws.specs.Standing.{AllUnbroken}
use Rattle.pz_trace_laws.proofs.Kept.{next_whole, offer_whole, passing_whole}

-- what is chosen is offered
offered : (setting : Setting) (c : Config) (n k : ℕ) (a : Action) → IsChoice setting c n k a → Offers setting c a
offered setting c n k a choice =
    subst (Offers setting c) (get_or_from_slice_get choice.offers k a a choice.chosen) (choice.all.derivable k a (slice_get_within choice.offers k a choice.chosen))

module _ (setting : Setting) (names : HasUnbrokenNames setting.model) (whole : HasUnbrokenMessages setting.model)
    (stays : StaysWhole) (times : TimeLinesAreLines) (actions : ActionLinesAreLines) where
  action_told : (c : Config) (n k : ℕ) (a : Action) → AllUnbroken c → IsChoice setting c n k a → IsLine (event_line setting.model (acted c.clock n k a))
  action_told c n k a all choice = actions setting.model c.clock n k a names (offer_whole setting c all a (offered setting c n k a choice))

  pub events_told : (c end : Config) (events : List Event) (standing : Standing) → IsWhole setting c → AllUnbroken c → Reaches setting c events end standing → Each (λ e. IsLine (event_line setting.model e)) events
  events_told _ _ _ _ counted all (here c) = tt
  events_told _ _ _ _ counted all (acts c next end n k a events standing moment choice step rest) = (
    action_told c n k a all choice,
    events_told next end events standing ((stays setting c next a 0 counted).0 step) (next_whole setting c all whole a next step) rest,
  )
  events_told _ _ _ _ counted all (stops c n k a trouble moment choice step) = (action_told c n k a all choice, tt)
  events_told _ _ _ _ counted all (passes c next end d events standing moment step rest) = (
    times c.clock d,
    events_told next end events standing (step.all ∙ counted) (passing_whole setting c next d counted all step) rest,
  )
