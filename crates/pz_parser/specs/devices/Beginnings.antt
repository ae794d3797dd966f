-- Fronts of the texts of whole models, as devices of the proofs: what may stand of a model begins the
-- text of one that nests no deeper, but for the name of a call.
use Rattle.std.specs.Prelude.{◌≡◌, ◌≤◌, ◌⊎◌, ℕ, List, [], ◌∷◌, ◌++◌}
use Rattle.pz_syntax.specs.declared.tokens.Keyword.TheVariants as k
use Rattle.pz_syntax.specs.declared.tokens.Mark.{Mark}
use Rattle.pz_syntax.specs.declared.names.Id.{Id}
use Rattle.pz_syntax.specs.Marks.{keyword, head}
use Rattle.pz_syntax.specs.Classes.{ModelTree}
use Rattle.pz_syntax.specs.ModelText.{text}
use Rattle.pz_syntax.specs.ModelForm.{IsModel}
use Rattle.pz_syntax.specs.ModelNesting.{nesting}

-- they begin the text of a model of the grammar that nests no deeper
abbrev pub Begins : ℕ → List Mark → Type 0
Begins limit ms = (m : ModelTree) × (rest : List Mark) × IsModel m × (nesting m ≤ limit) × (text m ≡ ms ++ rest)

-- They end with the name of a call, and a statement without constructs, as `skip`, may stand in its
-- place. A call's brackets nest, and have to follow; as long as none of them stands, none counts.
abbrev pub EndsInName : ℕ → List Mark → Type 0
EndsInName limit ms = (front : List Mark) × (x : Id) × (ms ≡ front ++ head x ∷ []) × ((depth : ℕ) × Begins depth ms) × Begins limit (front ++ keyword k.Skip ∷ [])

abbrev pub IsBegun : ℕ → List Mark → Type 0
IsBegun limit ms = Begins limit ms ⊎ EndsInName limit ms
