use Rattle.std.proofs.Common.{List, length, ap, sym, ◌∙◌}
use Rattle.std.specs.Prelude.{◌==◌}
use Rattle.pz_classes_code.specs.declared.slot.Slot.{Slot}
use Rattle.pz_term_outlines.proofs.Rounds.{frame_bare}
use Rattle.pz_term_outlines.proofs.outline.outline_frame.Goals as goal

pub returns-then-is_empty : goal.returns-then-is_empty
returns-then-is_empty c = λ home. frame_bare home c.args.left c.outline_bare.result c.args.results.now c.if-left.false (ap (λ (xs : List Slot). length xs == 0) (sym (c.as_slice.ensures ∙ c.get.ensures)) ∙ sym c.is_empty.ensures ∙ c.if-is_empty.true) c.outline_bare.ensures
