-- Operators and selectors as those of trees.
use Rattle.std.specs.Prelude.{List, map}
use Rattle.pz_classes_code.specs.pz_syntax.Expressions.{Links, Sendings}
use Rattle.pz_classes_code.specs.pz_value.declared.value.ClassId.{ClassId}
use Rattle.pz_classes_code.specs.declared.slot.Slot.{Slot}
use Rattle.pz_classes_code.specs.declared.code.CodeLink.{CodeLink}
use Rattle.pz_classes_code.specs.declared.code.CodeSending.{CodeSending}
use Rattle.pz_classes_code.specs.CodeView.{links_of, link_view, sendings_of, sending_view}

abbrev pub links_view : List CodeLink → Links Slot ClassId
links_view ls = links_of (map link_view ls)

abbrev pub sendings_view : List CodeSending → Sendings Slot ClassId
sendings_view ss = sendings_of (map sending_view ss)
