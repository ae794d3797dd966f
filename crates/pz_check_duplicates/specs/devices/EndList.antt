-- Violations of C17 as a list, such that no violation comes before all of them: a device of the proofs.
use Rattle.std.specs.Prelude.{List, [], ◌++◌, if◌then◌else◌}
use Rattle.std.specs.List.{flat_map}
use Rattle.pz_classes.specs.pz_syntax.declared.clusters.Channel.{Channel}
use Rattle.pz_classes.specs.pz_syntax.Classes.{DeclTree, ModelTree}
use Rattle.pz_check_violations.specs.declared.violation.Violation.{Violation}
use Rattle.pz_classes.specs.pz_classes_rules.Kinds.{is_cluster}
use Rattle.pz_classes.specs.pz_classes_rules.Instances.{channels}
use Rattle.pz_classes.specs.pz_classes_rules.ChannelRules.{end_place, ends, same_end, both_outer}
use Rattle.pz_check_duplicates.specs.devices.Again.{repeats}

-- those of two ports of the cluster class itself
abbrev pub outers : Channel → List Violation
outers h = repeats both_outer end_place 17 h.ends

abbrev pub of_decl : DeclTree → List Violation
of_decl d = repeats same_end end_place 17 (ends d) ++ (if is_cluster d then flat_map outers (channels d) else [])

abbrev pub double_ends : ModelTree → List Violation
double_ends m = flat_map of_decl m.decls
