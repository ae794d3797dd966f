use Rattle.std.proofs.Common.{◌≡◌, None, take, drop}
use Rattle.indexmap.specs.IndexMap.{get}
use Rattle.pz_check_violations.specs.Least.{least_from}
use Rattle.pz_check_duplicates.specs.devices.Earlier.{earliest_of}
use Rattle.pz_check_duplicates.specs.devices.Again.{same_key, thing_place, found_in, repeats}
use Rattle.pz_check_duplicates.proofs.again.least_again.Given as goal

abbrev pub invariant-loop-thing : goal.invariant-loop-thing
invariant-loop-thing g l = record {
  noted : (key : g.row.K.Denot) → get g.K.PartialEq.eq l.places key ≡ earliest_of thing_place (λ x. g.K.PartialEq.eq key x.key) None (take l.thing-index l.things);
  found : least_from l.least (found_in (same_key g.K.PartialEq.eq) thing_place l.rule (take l.thing-index l.things) (drop l.thing-index l.things))
      ≡ least_from l.fn.before (repeats (same_key g.K.PartialEq.eq) thing_place l.rule l.things);
}
