-- The text of a model of the grammar has exactly the heads that the rule for heads finds.
use Rattle.std.specs.Prelude.{◌≡◌, map}
use Rattle.pz_syntax.specs.Classes.{ModelTree}
use Rattle.pz_syntax.specs.ModelText.{text}
use Rattle.pz_syntax.specs.ModelForm.{IsModel}
use Rattle.pz_syntax.specs.Heads.{heads}

abbrev pub TextHasItsHeads : Type 0
TextHasItsHeads = (m : ModelTree) → IsModel m → heads (map (λ x. x.kind) (text m)) ≡ map (λ x. x.head) (text m)
