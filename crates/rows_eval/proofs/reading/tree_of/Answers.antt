use Rattle.std.proofs.Common.{◌≡◌, sym, ap, ◌∙◌, List, length}
use Rattle.std.proofs.lemmas.List.{length-map}
use Rattle.pz_classes_code.specs.pz_syntax.declared.tokens.Mark.{Mark}
use Rattle.pz_classes_code.specs.pz_syntax.declared.tokens.Token.{Token}
use Rattle.rows_eval.proofs.reading.tree_of.Goals as goal

pub returns-in-Ok : goal.returns-in-Ok
returns-in-Ok c = ap (λ (ms : List Mark). length ms) (sym c.in-Ok.ensures.found.2) ∙ length-map c.args.tokens.now (λ (t : Token). t.mark)
