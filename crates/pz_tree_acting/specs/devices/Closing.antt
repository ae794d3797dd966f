-- Frames that are closed: those that stand no longer.
use Rattle.std.specs.Prelude.{◌≡◌, ◌≤◌, ◌+◌, ◌++◌, ℕ, List}
use Rattle.pz_rules.specs.declared.limits.Edition.{Edition}
use Rattle.pz_rules.specs.declared.limits.Edition.TheVariants.{One, Two}
use Rattle.pz_rules.specs.Terms.{Term, frames_in}
use Rattle.pz_rules.specs.Leaving.{only_frames}
use Rattle.pz_rules.specs.pz_state.Marks.{Seen, changed}
use Rattle.pz_rules.specs.pz_state.States.{StateView}
use Rattle.pz_tree_regrowing.specs.pz_tree_standing.Frames.{numbers, open_as, FramesStand}
use Rattle.pz_tree_regrowing.specs.pz_tree_standing.FrameCounts.{count_in, times}

-- ------------------------------------------------------------ listed

-- the open frames; in edition One nobody asks for them
abbrev pub HasListed : Edition → StateView → List ℕ → Type 0
HasListed One s listed = Unit {0}
HasListed Two s listed = listed ≡ numbers s

-- and those of a term
abbrev pub AlsoLists : Edition → Term → List ℕ → List ℕ → Type 0
AlsoLists One t before after = Unit {0}
AlsoLists Two t before after = after ≡ before ++ frames_in t

-- as often as they stand
abbrev pub Counts : Edition → ℕ → ℕ → Type 0
Counts One listed stand = Unit {0}
Counts Two listed stand = listed ≡ stand

-- ------------------------------------------------------------ closed

-- exactly the frames of the term are left
pub record Closed (t : Term) (old new : Seen) : Type 0 where
  pub state : new ≡ changed old (only_frames (frames_in t) old.held)
  pub stand : FramesStand t new.held

-- whatever term it is of which all open frames but the lost ones stand
abbrev pub LostRule : List ℕ → Seen → Seen → Type 0
LostRule lost old new = (t : Term) → ((n : ℕ) → times n t + count_in n lost ≡ open_as n old.held) → Closed t old new

-- those that are listed are left
abbrev pub OnlyListed : List ℕ → Seen → Seen → Type 0
OnlyListed listed old new = new ≡ changed old (only_frames listed old.held)

-- of a term in which frames of a number stand so often: all but the lost ones are listed, and those are open
abbrev pub AreListed : ℕ → ℕ → ℕ → ℕ → Type 0
AreListed stand lost listed held = (stand + lost ≡ listed) × (listed ≤ held)

-- whatever term it is of which all listed frames but the lost ones stand
abbrev pub ListedRule : List ℕ → List ℕ → Seen → Seen → Type 0
ListedRule listed lost old new = (t : Term) → ((n : ℕ) → AreListed (times n t) (count_in n lost) (count_in n listed) (open_as n old.held)) → Closed t old new

-- by edition: in edition One all open frames but the lost ones stand
abbrev pub StandBy : Edition → ℕ → ℕ → ℕ → ℕ → Type 0
StandBy One stand lost listed held = stand + lost ≡ held
StandBy Two stand lost listed held = AreListed stand lost listed held

abbrev pub CloseRule : Edition → List ℕ → List ℕ → Seen → Seen → Type 0
CloseRule e listed lost old new = (t : Term) → ((n : ℕ) → StandBy e (times n t) (count_in n lost) (count_in n listed) (open_as n old.held)) → Closed t old new
