use Rattle.pz_watch_points.proofs.Present.{named_present}
use Rattle.pz_watch_points.proofs.laws.processes_are_there.Goals as goal

pub returns : goal.returns
returns c = record {
  named = named_present;
  offers = λ setting at net a is x. named_present net a (c.what_happens_is_named.ensures.offers setting at net a is x);
}
