use Rattle.std.proofs.Common.{◌≡◌, ◌∙◌, sym, refl, None}
use Rattle.pz_classes.specs.CheckedView.{checked_model}
use Rattle.pz_check_openings.specs.devices.InClass.{LargeIn}
use Rattle.pz_check_openings.proofs.Marking.{not_marked, is_seen}
use Rattle.pz_check_openings.proofs.Telling.{no_large_in, sizes_in}
use Rattle.pz_check_openings.proofs.each_class.large_in.Goals as goal

pub returns : goal.returns
returns c = is_seen c.args.marks.now (LargeIn (checked_model c.args.checked.now) c.args.outlines.now) c.args.class c.large_at_any.result (sym c.is_marked.ensures ∙ c.if-not-is_marked.false)
    (sizes_in (checked_model c.args.checked.now) c.args.outlines.now c.args.class c.large_at_any.result _ refl (sym c.is_process.ensures ∙ c.if-not-is_process.false) c.large_at_any.ensures)

pub returns-then-not-is_marked : goal.returns-then-not-is_marked
returns-then-not-is_marked c = not_marked c.args.marks.now (LargeIn (checked_model c.args.checked.now) c.args.outlines.now) c.args.class (sym c.is_marked.ensures ∙ c.if-not-is_marked.true)

pub returns-then-not-is_process : goal.returns-then-not-is_process
returns-then-not-is_process c = is_seen c.args.marks.now (LargeIn (checked_model c.args.checked.now) c.args.outlines.now) c.args.class None (sym c.is_marked.ensures ∙ c.if-not-is_marked.false)
    (no_large_in (checked_model c.args.checked.now) c.args.outlines.now c.args.class (sym c.is_process.ensures ∙ c.if-not-is_process.true))
