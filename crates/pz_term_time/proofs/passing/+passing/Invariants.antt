use Rattle.std.proofs.Common.{◌≡◌, ◌+◌, ◌*◌, ℕ, map, length, take, drop}
use Rattle.pz_classes_code.specs.pz_syntax.Classes.{ModelTree}
use Rattle.pz_rules.proofs.term.Term.TheLaws.{the_size}
use Rattle.pz_rules.specs.View.{term_view}
use Rattle.pz_rules.specs.devices.Passing.{passed}
use Rattle.pz_part_queries.specs.Standpoints.{Knows, seen_from}
use Rattle.pz_term_time.proofs.passing.+passing.Given as goal

abbrev pub invariant-pass_all-loop-index : goal.invariant-pass_all-loop-index
invariant-pass_all-loop-index l = record {
  so_far : (m : ModelTree) (class : ℕ) → Knows m l.here → map term_view (take l.index l.left.items) ≡ map (λ t. passed (seen_from m l.here class l.initial.state.held) l.time l.frame.0 (term_view t)) (take l.index l.initial.left.items);
  still : drop l.index l.left.items ≡ drop l.index l.initial.left.items;
  count : length l.left.items ≡ length l.initial.left.items;
  state : l.state ≡ l.initial.state;
}

-- the depth comes first; at one depth, a guard and parts side by side come before a box, and a box before its term
abbrev pub decreases-pass_part : goal.decreases-pass_part
decreases-pass_part l = 3 * goal.size-pass_part l

abbrev pub decreases-pass_boxed : goal.decreases-pass_boxed
decreases-pass_boxed l = 3 * goal.size-pass_boxed l + 1

abbrev pub decreases-pass_all : goal.decreases-pass_all
decreases-pass_all l = 3 * goal.size-pass_all l + 1

abbrev pub decreases-pass_guarded : goal.decreases-pass_guarded
decreases-pass_guarded l = 3 * the_size l.body + 2
