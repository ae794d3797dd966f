-- The runs that jobs ask for.
use Rattle.std.specs.Prelude.{ℕ, List, Bool, true, false, Option, Some, None}
use Rattle.pz_bind.specs.pz_syntax.Classes.{ModelTree}
use Rattle.pz_trace.specs.pz_rules.Settings.{Setting}
use Rattle.pz_trace.specs.pz_rules.ChosenRuns.{Policy}
use Rattle.pz_trace.specs.declared.forms.Form.{Form}
use Rattle.pz_trace.specs.declared.forms.Form.TheVariants.{Three}
use Rattle.pz_trace.specs.Forms.{limits_of}
use Rattle.pz_words.specs.declared.jobs.Choice.{Choice}
use Rattle.pz_words.specs.declared.jobs.RunLimits.{RunLimits}
use Rattle.pz_words.specs.declared.jobs.Job.{Job}
use Rattle.pz_words.specs.declared.jobs.Job.TheVariants.{Run, Menu, Replay, Check, Make, Ring, Format, Watch, Drive}
use Rattle.pz_env_closing.specs.pz_env_script.declared.entry.Entry.{Entry}
use Rattle.pz_env_closing.specs.pz_env_rules.Joining.{Driving, driving}
use Rattle.pz_env_closing.specs.DrivenRuns.{ChosenDrivenRun}
use Rattle.pz_env_closing.specs.pz_run_playing.Policies.{resolver_of, policy_of}
use Rattle.pz_env_closing.specs.pz_run_playing.Playing as playing
use Rattle.pz_env_closing.specs.pz_run_playing.Playing.{ChosenRun}
use Rattle.pz_run_output.specs.declared.play.Telling.{Telling}
use Rattle.pz_run_output.specs.declared.play.Telling.TheVariants as telling
use Rattle.pz_run_output.specs.declared.play.Play.{Play}

abbrev pub told_of : Telling → playing.Telling
told_of telling.Trace = playing.trace
told_of telling.Summary = playing.summary
told_of telling.Menu = playing.menu

abbrev pub telling_when : Bool → Telling
telling_when true = telling.Summary
telling_when false = telling.Trace

abbrev pub play : Choice → RunLimits → Telling → Play
play choice limits told = record { choice = choice; limits = limits; telling = told }

-- the run that a job asks for by a choice, if it asks for one that no watches judge and no script drives
abbrev pub play_of : Job → Option Play
play_of (Run model choice limits summary) = Some (play choice limits (telling_when summary))
play_of (Menu model choice limits) = Some (play choice limits telling.Menu)
play_of (Replay model trace units) = None
play_of (Check model) = None
play_of (Make n) = None
play_of (Ring n choice limits) = Some (play choice limits telling.Summary)
play_of (Format model) = None
play_of (Watch model watches choice limits) = None
play_of (Drive model script choice limits) = None

-- the run that is judged by watches
abbrev pub judged_play : Choice → RunLimits → Play
judged_play choice limits = play choice limits telling.Trace

-- the run that is driven by a script
abbrev pub driven_play : Choice → RunLimits → Play
driven_play choice limits = play choice limits telling.Trace

-- the edition of the rules and the limits are those of traces of this form, with so many units for each
-- evaluation where that tells none
abbrev pub setting_with : ModelTree → Form → ℕ → Setting
setting_with m form units = record { model = m; limits = limits_of form units }

-- a run that is chosen is of the third form, with the units of the job
abbrev pub setting_for : ModelTree → Play → Setting
setting_for m p = setting_with m (Three p.limits.units) p.limits.units

abbrev pub policy_for : Play → Policy
policy_for p = policy_of (resolver_of p.choice) p.limits

-- that run of a model
abbrev pub RunOf : Play → ModelTree → Type 0
RunOf p m = ChosenRun (setting_for m p) (policy_for p)

-- the system of a model with a script, which drives a run of the same form
abbrev pub driving_for : ModelTree → List Entry → Play → Driving
driving_for m script p = driving m script (limits_of (Three p.limits.units) p.limits.units)

abbrev pub DrivenRunOf : Play → ModelTree → List Entry → Type 0
DrivenRunOf p m script = ChosenDrivenRun (driving_for m script p) (policy_for p)
