-- A text has one model, or it is refused.
use Rattle.std.proofs.Common.{◌≡◌, List, sym, subst, ◌∙◌}
use Rattle.pz_bind_rules.specs.pz_syntax.declared.tokens.Token.{Token}
use Rattle.pz_bind_rules.specs.pz_syntax.Classes.{ModelTree}
use Rattle.pz_parser.specs.OneTree.{HasOnePlacedTree}
use Rattle.pz_run_reading.specs.Models.{nesting_limit, IsTreeOf}
use Rattle.pz_run_reading.specs.Refusals.{no_tokens, no_tree, violates, IsViolation}
use Rattle.pz_run_reading.specs.Laws.{HasOneModel, NoModelIsRefused}
use Rattle.pz_run_reading.proofs.Trees.{OneList, NeverBoth, tree_of, tree_at}
use Rattle.pz_run_reading.proofs.Causes.{unsound}

module _ (one_list : OneList) (placed : HasOnePlacedTree) where
  -- tokens are those of one tree
  same_tree : (ts : List Token) (t u : ModelTree) → IsTreeOf ts t → IsTreeOf ts u → t ≡ u
  same_tree ts t u a b = a.in_place ∙ placed nesting_limit ts t u a.is_text b.is_text ∙ sym b.in_place

  pub one_model : HasOneModel
  one_model text m n a b = same_tree a.tokens m n a.is_tree (tree_at one_list text a.tokens n a.are_tokens (tree_of text n b))

  pub never_refused : NeverBoth → NoModelIsRefused
  never_refused never text m _ is (no_tokens error r refused of) = never text is.tokens error is.are_tokens refused
  never_refused never text m _ is (no_tree ts error r are none may of) = none m (tree_at one_list text ts m are (tree_of text m is)).is_text
  never_refused never text m _ is (violates ts t v are is_tree found) =
      let same : t ≡ m = same_tree ts t m is_tree (tree_at one_list text ts m are (tree_of text m is)) in
      unsound m v (subst (λ (x : ModelTree). IsViolation x v) same found) is.sound
