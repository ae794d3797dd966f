-- Tables of pairs of processes of which some are silent for a while: such a one is as if nothing were left of it.
use Rattle.std.specs.Prelude.{◌≡◌, ◌≢◌, ◌<◌, ◌⊎◌, ℕ, false, List, length, All, Some, slice_get}
use Rattle.pz_rules.specs.pz_syntax.Classes.{ModelTree}
use Rattle.pz_rules.specs.pz_offer.declared.ends.SendOffer.{SendOffer}
use Rattle.pz_rules.specs.pz_offer.declared.ends.ReceiveOffer.{ReceiveOffer}
use Rattle.pz_match.specs.Pairs.{ArePairs}
use Rattle.pz_match.specs.Table.{Table, all_senders, all_receivers}
use Rattle.pz_rules.specs.Fitting.{TermFits}
use Rattle.pz_rules.specs.Terms.{done}
use Rattle.pz_sim_laws.specs.Members.{Member}
use Rattle.pz_sim_laws.specs.Offering.{AreSendOffers, AreReceiveOffers, AreSenders, AreReceivers}
use Rattle.pz_sim_laws.specs.Couples.{IsTruthful}
use Rattle.pz_tree.specs.declared.tree.Tree.{Tree}
use Rattle.pz_tree.specs.Trees.{term_in, IsFresh}
use Rattle.pz_sim.specs.Members.{member_of}

abbrev pub hushed : Member → Member
hushed m = record m { term = done }

-- the table is that of these processes
pub record IsTable (hs : List Member) (t : Table) : Type 0 where
  pub there : t.lost ≡ false
  pub senders : AreSenders hs t.senders
  pub receivers : AreReceivers hs t.receivers
  pub pairs : ArePairs (all_senders t) (all_receivers t) t.pairs
  pub truthful : All (IsTruthful hs) t.pairs

-- each process is silent, or is that of its tree, which is fresh at this clock
pub record IsHeard (m : ModelTree) (clock : ℕ) (ts : List Tree) (i : ℕ) (h : Member) : Type 0 where
  pub tree : Tree
  pub is : slice_get ts i ≡ Some tree
  pub fresh : IsFresh m tree
  pub same_clock : tree.clock ≡ clock
  pub same : h ≡ member_of m tree

abbrev pub AreHeard : ModelTree → ℕ → List Tree → List Member → Type 0
AreHeard m clock ts hs = (i : ℕ) (h : Member) → slice_get hs i ≡ Some h → (h.term ≡ done) ⊎ IsHeard m clock ts i h

-- each but process i
abbrev pub AreHeardBut : ModelTree → ℕ → List Tree → ℕ → List Member → Type 0
AreHeardBut m clock ts i hs = (j : ℕ) (h : Member) → i ≢ j → slice_get hs j ≡ Some h → (h.term ≡ done) ⊎ IsHeard m clock ts j h

-- a process of the table
pub record CanBeSilent (i : ℕ) (t : Table) : Type 0 where
  pub there : t.lost ≡ false
  pub within : i < length t.senders

-- What process i offers, whose tree this is, where the others are silent or heard. What it offered before may be of another tree.
pub record CanSpeak (m : ModelTree) (clock : ℕ) (ts : List Tree) (t : Table) (i : ℕ) (sends : List SendOffer) (receives : List ReceiveOffer) : Type 0 where
  pub members : List Member
  pub table : IsTable members t
  pub heard : AreHeardBut m clock ts i members
  pub before : Member
  pub is_before : slice_get members i ≡ Some before
  pub tree : Tree
  pub is : slice_get ts i ≡ Some tree
  pub fresh : IsFresh m tree
  pub same_clock : tree.clock ≡ clock
  pub are_sends : AreSendOffers (member_of m tree) sends
  pub are_receives : AreReceiveOffers (member_of m tree) receives

-- the same before it is asked what it offers
pub record CanTell (m : ModelTree) (clock : ℕ) (ts : List Tree) (t : Table) (i : ℕ) : Type 0 where
  pub members : List Member
  pub table : IsTable members t
  pub heard : AreHeardBut m clock ts i members
  pub before : Member
  pub is_before : slice_get members i ≡ Some before
  pub tree : Tree
  pub is : slice_get ts i ≡ Some tree
  pub fresh : IsFresh m tree
  pub same_clock : tree.clock ≡ clock
  pub fits : TermFits m tree.class.0 0 (term_in tree)
