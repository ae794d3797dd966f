use Rattle.std.proofs.Common.{◌≡◌, ◌+◌, ◌*◌, ℕ, max, take}
use Rattle.pz_classes_code.specs.pz_syntax.Classes.{ModelTree}
use Rattle.pz_rules.proofs.term.Term.TheLaws.{the_size}
use Rattle.pz_rules.specs.View.{terms_view}
use Rattle.pz_rules.specs.devices.Walk.{active_children}
use Rattle.pz_term_processes.specs.pz_part_queries.Standpoints.{Knows, seen_from}
use Rattle.pz_term_enabled.specs.devices.Listings.{Adds}
use Rattle.pz_term_enabled.proofs.walking.+walking.Given as goal

abbrev pub invariant-walk_children-loop-number : goal.invariant-walk_children-loop-number
invariant-walk_children-loop-number l = record {
  adds : (m : ModelTree) (class : ℕ) → Knows m l.here → Adds (seen_from m l.here class l.initial.state.held) l.initial.place (active_children (seen_from m l.here class l.initial.state.held) l.frame.0 0 (terms_view (take l.number l.parts))) l.initial.found l.found;
  place : l.place ≡ l.initial.place;
  state : l.state ≡ l.initial.state;
}

abbrev pub decreases-walk_part : goal.decreases-walk_part
decreases-walk_part l = 3 * goal.size-walk_part l

abbrev pub decreases-walk_child : goal.decreases-walk_child
decreases-walk_child l = 3 * goal.size-walk_child l + 1

abbrev pub decreases-walk_both : goal.decreases-walk_both
decreases-walk_both l = 3 * max (the_size l.first.now) (the_size l.second.now) + 2

abbrev pub decreases-walk_children : goal.decreases-walk_children
decreases-walk_children l = 3 * goal.size-walk_children l + 2

abbrev pub decreases-walk_guarded : goal.decreases-walk_guarded
decreases-walk_guarded l = 3 * the_size l.body.now + 2
