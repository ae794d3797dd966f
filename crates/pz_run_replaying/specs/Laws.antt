-- Laws of the runs that traces tell.
use Rattle.std.specs.Prelude.{◌≡◌, ◌<◌, ◌^◌, ℕ, List}
use Rattle.pz_rules.specs.pz_syntax.ModelForm.{Each}
use Rattle.pz_rules.specs.pz_classes_rules.Soundness.{IsSound}
use Rattle.pz_rules.specs.Settings.{Setting}
use Rattle.pz_rules.specs.Runs.{Event, acted, passed}
use Rattle.pz_trace.specs.TraceText.{IsTrace}
use Rattle.pz_run_replaying.specs.Replays.{TellsLines}

-- the number of offers at an action fits its type
abbrev pub CountFits : Event → Type 0
CountFits (acted clock n k a) = n < 2 ^ 64
CountFits (passed clock d) = Unit {0}

-- A text is that of no more than one run of a sound model: it tells the events, the configuration that they
-- lead to, and the ending.
abbrev pub HasOneToldRun : Type 0
HasOneToldRun = (setting : Setting) (text : List ℕ) → IsSound setting.model → TellsLines setting → (x y : IsTrace setting text) → Each CountFits x.events
    → (x.events ≡ y.events) × (x.last ≡ y.last) × (x.standing ≡ y.standing) × (x.ending ≡ y.ending)
