-- Under a key stands one shape at most, and so it stands for one term.
use Rattle.std.proofs.Common.{◌≡◌, ℕ, max, Option, Some, ap, sym, ◌∙◌, arith}
use Rattle.pz_nodes_shapes.specs.Rose.{Map, root, Stands}
use Rattle.pz_nodes_shapes.specs.Reading.{read, depth}
use Rattle.pz_nodes_shapes.proofs.Readings.{reads}
use Rattle.pz_rules.specs.Terms.{Term}
use Rattle.pz_tree_standing.specs.Heads.{What, Shape}
use Rattle.pz_tree_standing.specs.Standing.{term_of}
use Rattle.pz_tree_standing.specs.Meaning.{StandsFor}

some_same : (s t : Shape) → ◌≡◌ {A = Option Shape} (Some s) (Some t) → s ≡ t
some_same s t e = cc

one_shape : (m : Map What) (s t : Shape) → Stands m s → Stands m t → root s ≡ root t → s ≡ t
one_shape m s t p q e =
    let fuel : ℕ = max (depth s) (depth t) in
    some_same s t (sym (reads m fuel s p (omega arith)) ∙ ap (read fuel m) e ∙ reads m fuel t q (omega arith))

pub one_term : (m : Map What) (k c : ℕ) (t u : Term) → StandsFor m k c t → StandsFor m k c u → t ≡ u
one_term m k c t u x y = x.means ∙ ap (term_of c) (one_shape m x.shape y.shape x.stands y.stands (x.under ∙ sym y.under)) ∙ sym y.means
