-- Whether C13 or C18 is broken, word by word, as a device of the proofs.
use Rattle.std.specs.Prelude.{Bool, ◌||◌}
use Rattle.std.specs.List.{list_any}
use Rattle.pz_classes_code.specs.pz_syntax.Classes.{DeclTree, ModelTree}
use Rattle.pz_classes_mentions.specs.declared.mention.Mention.{Mention}
use Rattle.pz_classes_mentions.specs.declared.local_scope.LocalScope.{LocalScope}
use Rattle.pz_classes_mentions.specs.Declarations.{parts}
use Rattle.pz_classes.specs.pz_classes_rules.NameRules.{breaks_c13, breaks_c18}

abbrev pub is_unsized : ModelTree → Mention → Bool
is_unsized m x = breaks_c13 m x || breaks_c18 x

abbrev pub is_unsized_part : ModelTree → LocalScope → Bool
is_unsized_part m p = list_any (is_unsized m) p.mentions

abbrev pub is_unsized_class : ModelTree → DeclTree → Bool
is_unsized_class m d = list_any (is_unsized_part m) (parts d)

abbrev pub is_unsized_model : ModelTree → Bool
is_unsized_model m = list_any (is_unsized_class m) m.decls
