-- What a listener has heard of a run, and what it will write for the next event.
use Rattle.std.specs.Prelude.{◌≤◌, ◌<◌, ℕ, List, length}
use Rattle.pz_rules.specs.pz_syntax.Classes.{ModelTree}
use Rattle.pz_rules.specs.Runs.{Event}
use Rattle.pz_watch.specs.Points.{Point, clock_at, AreInOrder}
use Rattle.pz_watch.specs.Files.{NamedFormula}
use Rattle.pz_watch_points.specs.EventPoints.{points_of}
use Rattle.pz_watch_judging.specs.devices.Judging.{HasJudged}
use Rattle.pz_run_playing.specs.declared.listening.Listener.{Listener}
use Rattle.pz_run_playing.specs.declared.listening.Listener.TheVariants.{Silent, Lines, Watches}
use Rattle.pz_run_playing.specs.Sayings.{Saying, silence, line_of, judged_line}

-- clocks never fall, and none is above this
pub record AreUpTo (points : List Point) (clock : ℕ) : Type 0 where
  pub order : AreInOrder points
  pub below : (i : ℕ) → i < length points → clock_at points i ≤ clock

-- how a run is told while it goes on
pub data Manner : Type 0 where
  silently in_lines : Manner
  with_watches : List NamedFormula → Manner

abbrev pub saying : ModelTree → Manner → Saying
saying m silently = silence
saying m in_lines = line_of m
saying m (with_watches ws) = judged_line m ws

-- the listener tells it so, and its watches have judged these events; in which text it makes its lines is no
-- matter
abbrev pub Hears : ModelTree → Manner → List Event → Listener → Type 0
Hears m silently past Silent = Unit {0}
Hears m in_lines past (Lines line) = Unit {0}
Hears m (with_watches ws) past (Watches watching line) = HasJudged ws (points_of m past) watching
Hears m silently past (Lines line) = ⊥
Hears m silently past (Watches watching line) = ⊥
Hears m in_lines past Silent = ⊥
Hears m in_lines past (Watches watching line) = ⊥
Hears m (with_watches ws) past Silent = ⊥
Hears m (with_watches ws) past (Lines line) = ⊥

-- it has heard of these events, which lead to this clock
pub record HasHeard (m : ModelTree) (manner : Manner) (past : List Event) (clock : ℕ) (listener : Listener) : Type 0 where
  pub hears : Hears m manner past listener
  pub up_to : AreUpTo (points_of m past) clock
