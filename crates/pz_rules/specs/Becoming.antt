-- What has become of a process.
use Rattle.std.specs.Prelude.{◌≡◌}
use Rattle.pz_offer.specs.pz_state.Marks.{Seen, changed}
use Rattle.pz_rules.specs.Terms.{Term}
use Rattle.pz_rules.specs.Settings.{Process}

-- the term is that of the process, and so is the state, whose marks are as they were
pub record Became (p : Process) (t : Term) (old new : Seen) : Type 0 where
  pub term : t ≡ p.term
  pub state : new ≡ changed old p.state
