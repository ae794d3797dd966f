use Rattle.pz_state_flags.proofs.Levels.{opens_below}
use Rattle.pz_state_flags.proofs.flags.Flags.first_clear.Goals as goal

pub first_clear_in-word-requires-clause-first : goal.first_clear_in-word-requires-clause-first
first_clear_in-word-requires-clause-first c = opens_below c.self.invariant.blocks c.first_clear_in-group.result c.first_clear_in-group.ensures

pub first_clear_in-place-requires-clause-first : goal.first_clear_in-place-requires-clause-first
first_clear_in-place-requires-clause-first c = opens_below c.self.invariant.groups c.first_clear_in-word.result c.first_clear_in-word.ensures

pub first_clear_in-requires-clause-first : goal.first_clear_in-requires-clause-first
first_clear_in-requires-clause-first c = opens_below c.self.invariant.words c.first_clear_in-place.result c.first_clear_in-place.ensures
