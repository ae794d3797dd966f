-- Trees that may be asked what their processes offer.
use Rattle.std.specs.Prelude.{◌≡◌, ℕ}
use Rattle.pz_rules.specs.pz_syntax.Classes.{ModelTree}
use Rattle.pz_rules.specs.Fitting.{TermFits}
use Rattle.pz_tree.specs.declared.tree.Tree.{Tree}
use Rattle.pz_tree.specs.Trees.{term_in, IsFresh}

-- fresh, at this clock, and with a term that fits its class
pub record CanBeAsked (m : ModelTree) (clock : ℕ) (t : Tree) : Type 0 where
  pub fresh : IsFresh m t
  pub same_clock : t.clock ≡ clock
  pub fits : TermFits m t.class.0 0 (term_in t)
