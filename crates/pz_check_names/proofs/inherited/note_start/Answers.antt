use Rattle.std.proofs.Common.{refl, []}
use Rattle.pz_classes_code.specs.pz_syntax.ClassView.{start_view}
use Rattle.pz_check_names.proofs.Shown.{noted_shown}
use Rattle.pz_check_names.proofs.inherited.note_start.Goals as goal

pub returns : goal.returns
returns c = λ outer shown.
    rw c.in-Some.is (noted_shown _ _ [] outer tt (start_view c.in-Some.field-0) _ _ tt (λ k. refl) c.in_ok-note.ensures.noted shown)
