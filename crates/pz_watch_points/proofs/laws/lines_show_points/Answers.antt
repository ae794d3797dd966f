use Rattle.pz_watch_points.proofs.Shown.{line_shows}
use Rattle.pz_watch_points.proofs.OnePoint.{one_point}
use Rattle.pz_watch_points.proofs.laws.lines_show_points.Goals as goal

pub returns : goal.returns
returns c = record { shown = line_shows; one = one_point }
