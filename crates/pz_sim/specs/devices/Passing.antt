-- What trees, and what is kept of them, are while time passes.
use Rattle.std.specs.Prelude.{◌≡◌, ◌≤◌, ◌<◌, ◌-◌, ◌⊎◌, ℕ, zero, suc, Bool, true, false, List, [], ◌∷◌, length, All, None, Some, IfSome, slice_get}
use Rattle.pz_rules.specs.pz_syntax.Classes.{ModelTree}
use Rattle.pz_match.specs.Table.{Table}
use Rattle.pz_rules.specs.Delays.{Passes}
use Rattle.pz_rules.specs.Terms.{done}
use Rattle.pz_sim_totals.specs.declared.total.Total.{Total}
use Rattle.pz_sim_laws.specs.Members.{Member}
use Rattle.pz_sim_laws.specs.Deciding.{total_of}
use Rattle.pz_tree.specs.pz_tree_standing.Steady.{later}
use Rattle.pz_tree.specs.pz_tree_standing.Summaries.{summary_of}
use Rattle.pz_tree.specs.declared.tree.Tree.{Tree}
use Rattle.pz_tree.specs.Trees.{at_in, term_in, IsFresh}
use Rattle.pz_sim.specs.Costs.{names}
use Rattle.pz_sim.specs.Members.{member_of}
use Rattle.pz_sim.specs.devices.Tables.{hushed, IsTable}

-- Processes that are silent meanwhile

abbrev pub quiet_if : Bool → Member → Member
quiet_if true h = hushed h
quiet_if false h = h

-- of the first n, those that name the clock are silent
abbrev pub quieted : ModelTree → ℕ → List Tree → List Member
quieted m n [] = []
quieted m zero (t ∷ ts) = member_of m t ∷ quieted m zero ts
quieted m (suc n) (t ∷ ts) = quiet_if (names m t) (member_of m t) ∷ quieted m n ts

-- the processes of us, silent where those of ts name the clock
abbrev pub quiet_after : ModelTree → List Tree → List Tree → List Member
quiet_after m [] us = []
quiet_after m (t ∷ ts) [] = []
quiet_after m (t ∷ ts) (u ∷ us) = quiet_if (names m t) (member_of m u) ∷ quiet_after m ts us

-- it is among these numbers
abbrev pub IsAmong : List ℕ → ℕ → Type 0
IsAmong ns i = (k : ℕ) × (slice_get ns k ≡ Some i)

-- no number stands twice among these
abbrev pub StandOnce : List ℕ → Type 0
StandOnce ns = (j k i : ℕ) → slice_get ns j ≡ Some i → slice_get ns k ≡ Some i → j ≡ k

-- the numbers of those of the first n that name the clock
pub record AreNamed (m : ModelTree) (n : ℕ) (ts : List Tree) (named : List ℕ) : Type 0 where
  pub every : (i : ℕ) (t : Tree) → i < n → slice_get ts i ≡ Some t → names m t ≡ true → IsAmong named i
  pub within : (k i : ℕ) → slice_get named k ≡ Some i → i < n
  pub only : (k i : ℕ) (t : Tree) → slice_get named k ≡ Some i → slice_get ts i ≡ Some t → names m t ≡ true
  pub once : StandOnce named

-- the first n trees were asked whether they name the clock, and those that do are silent in the table
pub record AreSilenced (m : ModelTree) (clock n : ℕ) (ts : List Tree) (table : Table) (named : List ℕ) : Type 0 where
  pub fresh : All (IsFresh m) ts
  pub clocks : All (λ t. t.clock ≡ clock) ts
  pub is_table : IsTable (quieted m n ts) table
  pub are_named : AreNamed m n ts named

-- Trees over which time passes

-- Time may pass to this moment of the clock: the tree is fresh, no active part has a trouble, and no active delay is over
-- before.
pub record MayPass (m : ModelTree) (clock : ℕ) (t : Tree) : Type 0 where
  pub fresh : IsFresh m t
  pub ahead : t.clock ≤ clock
  pub untroubled : (summary_of (at_in m t) t.clock 0 (term_in t)).trouble ≡ None
  pub due : IfSome (summary_of (at_in m t) t.clock 0 (term_in t)).due (λ due. clock ≤ due)

-- it has passed
pub record HasPassed (m : ModelTree) (clock : ℕ) (t u : Tree) : Type 0 where
  pub passes : Passes (at_in m t) (clock - t.clock) 0 (term_in t) (term_in u)
  pub seen : at_in m u ≡ later (at_in m t) (clock - t.clock)
  pub fresh : IsFresh m u

-- over the first n trees
pub record HavePassed (m : ModelTree) (clock n : ℕ) (ts us : List Tree) : Type 0 where
  pub all : length us ≡ length ts
  pub passed : (i : ℕ) (t u : Tree) → i < n → slice_get ts i ≡ Some t → slice_get us i ≡ Some u → HasPassed m clock t u
  pub left : (i : ℕ) → n ≤ i → slice_get us i ≡ slice_get ts i

-- what a process can do in short, by the clock of its tree
abbrev pub own_total : ModelTree → Tree → Total
own_total m t = total_of t.clock (member_of m t)

-- Processes that are told of again

-- a process that is silent as long as its number, behind the first n of these, was not told
pub record IsYetToSpeak (m : ModelTree) (u : Tree) (h : Member) (named : List ℕ) (n i : ℕ) : Type 0 where
  pub silent : h ≡ hushed (member_of m u)
  pub number : ℕ
  pub behind : n ≤ number
  pub is : slice_get named number ≡ Some i

-- each process is that of its tree, or yet to speak
pub record AreRetold (m : ModelTree) (us : List Tree) (table : Table) (named : List ℕ) (n : ℕ) : Type 0 where
  pub members : List Member
  pub is_table : IsTable members table
  pub all : length members ≡ length us
  pub each : (i : ℕ) (u : Tree) (h : Member) → slice_get us i ≡ Some u → slice_get members i ≡ Some h → (h ≡ member_of m u) ⊎ IsYetToSpeak m u h named n i
  pub within : (k i : ℕ) → slice_get named k ≡ Some i → i < length us
  pub silent : (k i : ℕ) (h : Member) → n ≤ k → slice_get named k ≡ Some i → slice_get members i ≡ Some h → h.term ≡ done
  pub once : StandOnce named
