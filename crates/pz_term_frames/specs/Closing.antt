-- A state without some of its frames.
use Rattle.std.specs.Prelude.{ℕ, nat_eq, not, List, filter}
use Rattle.std.specs.List.{list_any}
use Rattle.pz_rules.specs.pz_state.States.{StateView}

-- those of these numbers
abbrev pub without_frames : List ℕ → StateView → StateView
without_frames gone s = record s { frames = filter (λ f. not (list_any (nat_eq f.0) gone)) s.frames }
