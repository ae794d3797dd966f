use Rattle.std.proofs.Common.{◌≡◌, ◌++◌, ℕ, drop}
use Rattle.std.specs.List.{flat_map}
use Rattle.pz_classes_code.specs.pz_syntax.ClassView.{decl_view, model_view}
use Rattle.pz_classes.specs.pz_check_violations.Least.{least_from}
use Rattle.pz_classes.specs.pz_classes_rules.ChannelRules.{ends}
use Rattle.pz_check_instances.specs.devices.Ends.{missing_at, wanted_at}
use Rattle.pz_check_instances.specs.devices.Search.{wanted_of, search_count}
use Rattle.pz_check_instances.proofs.channel_ends.Search.add_decl.Given as goal

abbrev pub invariant-loop-channel : goal.invariant-loop-channel
invariant-loop-channel l = record {
  counted : search_count l.self ≡ search_count l.fn.self;
  asked : (k : ℕ) → wanted_of l.self k ++ flat_map (λ h. flat_map (wanted_at (model_view l.model) k l.number (decl_view l.decl)) h.ends) (drop l.channel-index l.channel-items) ≡ wanted_of l.fn.self k ++ flat_map (wanted_at (model_view l.model) k l.number (decl_view l.decl)) (ends (decl_view l.decl));
  least : least_from l.self.least (flat_map (λ h. flat_map (missing_at (model_view l.model) l.number (decl_view l.decl)) h.ends) (drop l.channel-index l.channel-items)) ≡ least_from l.fn.self.least (flat_map (missing_at (model_view l.model) l.number (decl_view l.decl)) (ends (decl_view l.decl)));
}
