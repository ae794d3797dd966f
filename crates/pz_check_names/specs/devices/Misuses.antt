-- The violations at words as a list, word by word, as a device of the proofs.
use Rattle.std.specs.Prelude.{ℕ, List, [], ◌++◌}
use Rattle.std.specs.List.{flat_map}
use Rattle.std.specs.Option.{option_map_or}
use Rattle.pz_classes_code.specs.pz_syntax.declared.names.Id.{Id}
use Rattle.pz_classes_code.specs.pz_syntax.Classes.{DeclTree, ModelTree}
use Rattle.pz_check_violations.specs.declared.violation.Violation.{Violation}
use Rattle.pz_check_violations.specs.Order.{violation}
use Rattle.pz_check_violations.specs.Least.{listed}
use Rattle.pz_classes_mentions.specs.declared.mention.Mention.{Mention}
use Rattle.pz_classes_mentions.specs.declared.local_scope.LocalScope.{LocalScope}
use Rattle.pz_classes_mentions.specs.Declarations.{parts}
use Rattle.pz_classes.specs.pz_classes_rules.Numbers.{declaration}
use Rattle.pz_classes.specs.pz_classes_rules.Words.{place}
use Rattle.pz_classes.specs.pz_classes_rules.NameRules.{breaks_c5, breaks_c6, breaks_c12, breaks_c13, breaks_c18, breaks_c21, breaks_c22}
use Rattle.pz_classes.specs.pz_classes_rules.CallRules.{breaks_c7, breaks_c8, breaks_c9, breaks_c10, breaks_c11}

module _ (m : ModelTree) (c : ℕ) (d : DeclTree) where
  -- the rules that ask which name it is
  abbrev pub of_name : List Id → Mention → List Violation
  of_name locals x =
      listed (breaks_c5 m x) (violation 5 (place x)) ++ (listed (breaks_c6 m c d locals x) (violation 6 (place x))
      ++ (listed (breaks_c7 m c x) (violation 7 (place x)) ++ (listed (breaks_c8 m x) (violation 8 (place x))
      ++ (listed (breaks_c9 m c x) (violation 9 (place x)) ++ listed (breaks_c10 m c x) (violation 10 (place x))))))

  -- the others
  abbrev pub of_word : Mention → List Violation
  of_word x =
      listed (breaks_c11 m c d x) (violation 11 (place x)) ++ (listed (breaks_c12 m x) (violation 12 (place x))
      ++ (listed (breaks_c13 m x) (violation 13 (place x)) ++ (listed (breaks_c18 x) (violation 18 (place x))
      ++ (listed (breaks_c21 d x) (violation 21 (place x)) ++ listed (breaks_c22 d x) (violation 22 (place x))))))

  abbrev pub at_word : List Id → Mention → List Violation
  at_word locals x = of_name locals x ++ of_word x

  abbrev pub of_part : LocalScope → List Violation
  of_part p = flat_map (at_word p.locals) p.mentions

  abbrev pub of_parts : List LocalScope → List Violation
  of_parts ps = flat_map of_part ps

abbrev pub of_class : ModelTree → ℕ → DeclTree → List Violation
of_class m c d = of_parts m c d (parts d)

-- none where the class of this number has no declaration
abbrev pub of_number : ModelTree → ℕ → List Violation
of_number m c = option_map_or (of_class m c) (declaration m c) []

-- those of these classes, in turn
abbrev pub misuses : ModelTree → List ℕ → List Violation
misuses m cs = flat_map (of_number m) cs
