use Rattle.std.proofs.Common.{◌≡◌, [], map}
use Rattle.std.specs.Option.{option_map_or}
use Rattle.pz_classes_rules.specs.Ancestors.{followed}
use Rattle.pz_classes_rules.specs.Methods.{nearest}
use Rattle.pz_classes.specs.devices.Rows.{row_view}
use Rattle.pz_classes.specs.devices.Found.{up_in, own_in, found_in}
use Rattle.pz_classes.proofs.finding.find.Given as goal

abbrev pub invariant-loop-left : goal.invariant-loop-left
invariant-loop-left l = found_in (map row_view l.entries) (record { name = l.name; counts = l.counts }) l.class
    ≡ nearest (own_in (map row_view l.entries) (record { name = l.name; counts = l.counts })) (option_map_or (followed (up_in (map row_view l.entries)) l.left) l.at [])

abbrev pub decreases-loop-left : goal.decreases-loop-left
decreases-loop-left l = l.left
