use Rattle.std.proofs.Common.{◌≡◌, ℕ, suc, List, map, drop}
use Rattle.std.specs.Option.{option_or}
use Rattle.pz_classes_code.specs.pz_syntax.ClassView.{decl_view, model_view}
use Rattle.pz_classes_rules.specs.Numbers.{class, first_named}
use Rattle.pz_classes_code.specs.NumberIn.{number_in}
use Rattle.pz_classes.proofs.ancestry.number_classes.Given as goal

abbrev pub invariant-loop-decl : goal.invariant-loop-decl
invariant-loop-decl l = record {
  counted : l.number ≡ l.decl-index;
  numbered : (q : List ℕ) → option_or (number_in l.numbering q) (first_named (map decl_view (drop l.decl-index l.decl-items)) (suc l.number) q) ≡ class (model_view l.model) q;
}
