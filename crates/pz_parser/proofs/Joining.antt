-- Parts of a text that stand one behind the other.
use Rattle.std.proofs.Common.{◌≡◌, List, ◌++◌, ap, sym, ◌∙◌, append_assoc}
use Rattle.pz_syntax.specs.declared.tokens.Mark.{Mark}

pub then : {m s : List Mark} (a r j : List Mark) → m ≡ a ++ s → s ≡ r ++ j → m ≡ (a ++ r) ++ j
then a r j p q = p ∙ ap (λ x. a ++ x) q ∙ sym (append_assoc a r j)
