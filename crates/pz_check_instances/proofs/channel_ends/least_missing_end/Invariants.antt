use Rattle.std.proofs.Common.{◌≡◌, None, drop}
use Rattle.std.specs.List.{flat_map}
use Rattle.pz_classes_code.specs.pz_syntax.ClassView.{model_view}
use Rattle.pz_classes.specs.pz_check_violations.Least.{least_from}
use Rattle.pz_classes.specs.pz_classes_rules.Members.{own_ports}
use Rattle.pz_check_instances.specs.devices.Open.{HasOpen}
use Rattle.pz_check_instances.specs.devices.Ends.{absent_in, missing_ends}
use Rattle.pz_check_instances.proofs.Line.{line_after, scopes_of}
use Rattle.pz_check_instances.proofs.channel_ends.least_missing_end.Given as goal

abbrev pub invariant-loop-visit : goal.invariant-loop-visit
invariant-loop-visit l = record {
  opened : HasOpen (scopes_of (model_view l.model) own_ports (line_after (model_view l.model) l.visit-items l.visit-index)) l.opened;
  found : least_from l.least (flat_map (λ v. absent_in (model_view l.model) v.class) (drop l.visit-index l.visit-items)) ≡ least_from None (missing_ends (model_view l.model) l.visit-items);
}
