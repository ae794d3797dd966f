use Rattle.std.proofs.Common.{◌≡◌, map, ◌∙◌}
use Rattle.pz_classes.specs.devices.Rows.{row_view, rows}
use Rattle.pz_classes.proofs.RowLookups.{start_found_is}
use Rattle.pz_classes.proofs.classes.Classes.init.Goals as goal

pub returns : goal.returns
returns c = λ m are.
    let listed : map row_view c.as_slice.result.now ≡ rows m = rw c.as_slice.ensures are.rows in
    c.find_start.ensures ∙ start_found_is m (map row_view c.as_slice.result.now) listed c.args.class.0
