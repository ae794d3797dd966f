use Rattle.pz_rules.specs.View.{term_view}
use Rattle.pz_term_processes.specs.pz_part_queries.Standpoints.{seen_from}
use Rattle.pz_term_enabled.proofs.Moved.{walked_at}
use Rattle.pz_term_enabled.proofs.walking.walk.Goals as goal

pub returns-clause-walked : goal.returns-clause-walked
returns-clause-walked c = λ m class known.
    walked_at (seen_from m c.args.here.now class c.args.state.now.held) (term_view c.args.term.now) c.root-place.result c.new-found.result c.walk_part.new.found
    c.root-place.ensures c.new-found.ensures.internal c.new-found.ensures.sends c.new-found.ensures.receives c.new-found.ensures.delays c.new-found.ensures.troubles (c.in_ok-walk_part.ensures.adds m class known)
