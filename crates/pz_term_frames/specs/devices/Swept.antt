-- Frames that are closed one after the other.
use Rattle.std.specs.Prelude.{ℕ, ◌++◌, Bool, take, drop, filter}
use Rattle.pz_rules.specs.pz_state.States.{StateView}

-- of the first so many frames those that stay, and all further ones
abbrev pub swept_up_to : (ℕ → Bool) → ℕ → StateView → StateView
swept_up_to stays n s = record s { frames = filter (λ f. stays f.0) (take n s.frames) ++ drop n s.frames }
