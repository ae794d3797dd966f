use Rattle.std.proofs.Common.{◌≡◌, ◌++◌, ℕ, drop}
use Rattle.std.specs.List.{flat_map}
use Rattle.pz_classes_code.specs.pz_syntax.ClassView.{decl_view, model_view}
use Rattle.pz_classes.specs.pz_check_violations.Least.{least_from}
use Rattle.pz_check_instances.specs.devices.Ends.{missing_at, wanted_at}
use Rattle.pz_check_instances.specs.devices.Search.{wanted_of, search_count}
use Rattle.pz_check_instances.proofs.channel_ends.Search.add_ends.Given as goal

abbrev pub invariant-loop-end : goal.invariant-loop-end
invariant-loop-end l = record {
  counted : search_count l.self ≡ search_count l.initial.self;
  asked : (k : ℕ) → wanted_of l.self k ++ flat_map (wanted_at (model_view l.model) k l.inside.number (decl_view l.inside.decl.now)) (drop l.end-index l.ends) ≡ wanted_of l.initial.self k ++ flat_map (wanted_at (model_view l.model) k l.inside.number (decl_view l.inside.decl.now)) l.ends;
  least : least_from l.self.least (flat_map (missing_at (model_view l.model) l.inside.number (decl_view l.inside.decl.now)) (drop l.end-index l.ends)) ≡ least_from l.initial.self.least (flat_map (missing_at (model_view l.model) l.inside.number (decl_view l.inside.decl.now)) l.ends);
}
