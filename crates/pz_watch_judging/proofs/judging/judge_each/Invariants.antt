use Rattle.std.proofs.Common.{List, [], ◌∷◌, ◌++◌}
use Rattle.pz_watch.specs.Points.{Point, AreInOrder}
use Rattle.pz_watch.specs.SpotView.{point_of}
use Rattle.pz_watch.specs.Files.{NamedFormula}
use Rattle.pz_watch.specs.devices.Standing.{StandForEach}
use Rattle.pz_watch_judging.proofs.Judged.{Halfway}
use Rattle.pz_watch_judging.proofs.judging.judge_each.Given as goal

abbrev pub invariant-loop-watch : goal.invariant-loop-watch
invariant-loop-watch g l =
    (ws : List NamedFormula) (ps : List Point) → StandForEach l.initial.watches ws ps → AreInOrder (ps ++ point_of l.spot ∷ [])
    → Halfway l.watch-index l.watches ws ps (point_of l.spot) (g.W.Sink.state l.initial.out) (g.W.Sink.state l.out) l.broken
