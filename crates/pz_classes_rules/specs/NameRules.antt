-- The rules on the names of classes and variables, and on words that only some classes may use.
-- A class that is left out of the language is refused by C18 alone.
use Rattle.std.specs.Prelude.{ℕ, Bool, true, false, not, ◌&&◌, ◌||◌, List, [], if◌then◌else◌}
use Rattle.pz_classes_code.specs.pz_syntax.declared.names.Id.{Id}
use Rattle.pz_classes_code.specs.pz_syntax.Classes.{DeclTree, data_class, process_class, ModelTree}
use Rattle.pz_classes_mentions.specs.declared.mention.Mention.{Mention}
use Rattle.pz_classes_mentions.specs.declared.mention.Mention.TheVariants.{Declared, Extended, Typed, Variable, Created, Instantiated, Clock, Me, Return, Float}
use Rattle.pz_classes_code.specs.ReservedNames.{is_primitive, is_unsupported, is_array}
use Rattle.pz_classes_rules.specs.Kinds.{is_data, is_process, is_cluster, is_declared_as}
use Rattle.pz_classes_rules.specs.Members.{fields, variables}
use Rattle.pz_classes_rules.specs.Words.{is_among}

-- C5: a type is a primitive or a data class
abbrev pub is_type : ModelTree → List ℕ → Bool
is_type m name = is_primitive name || is_declared_as is_data m name

abbrev pub breaks_c5 : ModelTree → Mention → Bool
breaks_c5 m (Typed x) = not (is_unsupported x.name) && not (is_type m x.name)
breaks_c5 m _ = false

-- what all bodies of a class share: fields in a data class, parameters and variables in a process class
abbrev pub shared : ModelTree → ℕ → DeclTree → List Id
shared m c (data_class d) = fields m c
shared m c (process_class d) = variables m c
shared m c _ = []

-- C6: a variable is a local name of its part, or shared
abbrev pub breaks_c6 : ModelTree → ℕ → DeclTree → List Id → Mention → Bool
breaks_c6 m c d locals (Variable x) = not (is_among locals x.name) && not (is_among (shared m c d) x.name)
breaks_c6 m c d locals _ = false

-- C12: of the primitives only Array may be created, and of the others the data classes
abbrev pub may_create : ModelTree → List ℕ → Bool
may_create m name = if is_primitive name then is_array name else is_declared_as is_data m name

abbrev pub breaks_c12 : ModelTree → Mention → Bool
breaks_c12 m (Created x) = not (is_unsupported x.name) && not (may_create m x.name)
breaks_c12 m _ = false

-- C13: an instance is of a process class or a cluster class
abbrev pub has_instances : ModelTree → List ℕ → Bool
has_instances m name = not (is_primitive name) && (is_declared_as is_process m name || is_declared_as is_cluster m name)

abbrev pub breaks_c13 : ModelTree → Mention → Bool
breaks_c13 m (Instantiated x) = not (is_unsupported x.name) && not (has_instances m x.name)
breaks_c13 m _ = false

-- C18: nothing is a float, and no class is named, or declared by the name of one, that is left out of the language
abbrev pub breaks_c18 : Mention → Bool
breaks_c18 (Float pos) = true
breaks_c18 (Declared x) = is_unsupported x.name
breaks_c18 (Extended x) = is_unsupported x.name
breaks_c18 (Typed x) = is_unsupported x.name
breaks_c18 (Created x) = is_unsupported x.name
breaks_c18 (Instantiated x) = is_unsupported x.name
breaks_c18 _ = false

-- C21: no data class asks for the time
abbrev pub breaks_c21 : DeclTree → Mention → Bool
breaks_c21 d (Clock pos) = is_data d
breaks_c21 d _ = false

-- C22: only a data class has `return` and `self`
abbrev pub breaks_c22 : DeclTree → Mention → Bool
breaks_c22 d (Me pos) = not (is_data d)
breaks_c22 d (Return pos) = not (is_data d)
breaks_c22 d _ = false
