use Rattle.std.proofs.Common.{◌≡◌, ◌++◌, ℕ, suc, None, length, map, drop}
use Rattle.pz_classes_code.specs.pz_syntax.ClassView.{decl_view, model_view}
use Rattle.pz_classes.specs.pz_check_violations.Least.{least_from}
use Rattle.pz_check_instances.specs.devices.Ends.{missing_at, wanted_at, over}
use Rattle.pz_check_instances.specs.devices.Search.{wanted_of, search_count}
use Rattle.pz_check_instances.proofs.channel_ends.search_ends.Given as goal

abbrev pub invariant-loop-decl : goal.invariant-loop-decl
invariant-loop-decl l = record {
  numbered : l.number ≡ l.decl-index;
  counted : search_count l.found ≡ suc (length l.decl-items);
  asked : (k : ℕ) → wanted_of l.found k ++ over (wanted_at (model_view l.model) k) (suc l.number) (map decl_view (drop l.decl-index l.decl-items)) ≡ over (wanted_at (model_view l.model) k) 1 (map decl_view l.decl-items);
  least : least_from l.found.least (over (missing_at (model_view l.model)) (suc l.number) (map decl_view (drop l.decl-index l.decl-items))) ≡ least_from None (over (missing_at (model_view l.model)) 1 (map decl_view l.decl-items));
}
