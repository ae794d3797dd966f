use Rattle.std.proofs.Common.{◌≡◌, ap, ◌∙◌, sym, Option, slice_get}
use Rattle.std.specs.Option.{option_map, option_copied}
use Rattle.std.proofs.lemmas.Option.{slice_get-map}
use Rattle.pz_classes.specs.declared.entry.Entry.{Entry}
use Rattle.pz_classes.specs.devices.Rows.{row_view}
use Rattle.pz_classes.proofs.Gets.{got}
use Rattle.pz_classes.proofs.finding.entry_at.Goals as goal

pub returns : goal.returns
returns c =
    let read : option_copied c.get.result ≡ slice_get c.args.entries.now c.args.class = got c.args.entries.now c.args.class c.get.result c.get.ensures.lookup.3 c.get.ensures.lookup.1 in
    ap (λ (o : Option Entry). option_map row_view o) read ∙ sym (slice_get-map row_view c.args.entries.now c.args.class)
