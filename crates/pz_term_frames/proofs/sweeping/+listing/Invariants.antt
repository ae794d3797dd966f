use Rattle.std.proofs.Common.{◌≡◌, ◌+◌, ◌*◌, ◌++◌, max, drop}
use Rattle.pz_rules.proofs.term.Term.TheLaws.{the_size}
use Rattle.pz_rules.specs.Terms.{frames_in_all}
use Rattle.pz_rules.specs.View.{terms_view}
use Rattle.pz_term_frames.proofs.sweeping.+listing.Given as goal

abbrev pub invariant-list_all-loop-part : goal.invariant-list_all-loop-part
invariant-list_all-loop-part l = l.frames.items ++ frames_in_all (terms_view (drop l.part-index l.parts)) ≡ l.initial.frames.items ++ frames_in_all (terms_view l.parts)

-- the depth comes first; at the same depth, parts come before one of them
abbrev pub decreases-list_frames : goal.decreases-list_frames
decreases-list_frames l = 2 * goal.size-list_frames l

abbrev pub decreases-list_both : goal.decreases-list_both
decreases-list_both l = 2 * max (the_size l.first.now) (the_size l.second.now) + 1

abbrev pub decreases-list_all : goal.decreases-list_all
decreases-list_all l = 2 * goal.size-list_all l + 1
