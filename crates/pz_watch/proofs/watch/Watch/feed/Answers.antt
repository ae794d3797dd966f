-- What is kept behind some points answers for the next one.
use Rattle.std.proofs.Common.{◌∙◌, ap}
use Rattle.pz_watch.specs.SpotView.{point_of}
use Rattle.pz_watch.specs.devices.Memory.{Memory, told, later}
use Rattle.pz_watch.proofs.Feeding.{answers, keeps}
use Rattle.pz_watch.proofs.watch.Watch.feed.Goals as goal

pub returns-clause-answers : goal.returns-clause-answers
returns-clause-answers c f ps stands order =
    c.feed.ensures.told
    ∙ ap (λ (m : Memory). told m (point_of c.args.spot.now)) stands
    ∙ answers ps (point_of c.args.spot.now) order f

pub returns-clause-stands : goal.returns-clause-stands
returns-clause-stands c f ps stands order =
    c.feed.ensures.later
    ∙ ap (λ (m : Memory). later m (point_of c.args.spot.now)) stands
    ∙ keeps ps (point_of c.args.spot.now) order f
