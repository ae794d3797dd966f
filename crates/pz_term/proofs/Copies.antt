-- Actions that are copied one after another.
use Rattle.std.proofs.Common.{◌≡◌, ◌<◌, ◌+◌, ◌∙◌, ℕ, List, [], ◌∷◌, ◌++◌, length, take, get_or, sym, ap}
use Rattle.std.proofs.lemmas.List.{take_more}
use Rattle.pz_rules.specs.declared.action.Action.{Action}

pub next_copied : (actions old new : List Action) (i : ℕ) (a copy : Action) → i < length actions → old ≡ take i actions → a ≡ get_or actions i a → copy ≡ a → new ≡ old ++ copy ∷ []
    → new ≡ take (i + 1) actions
next_copied actions old new i a copy within were is same more =
    more ∙ ap (λ (xs : List Action). xs ++ copy ∷ []) were ∙ ap (λ (x : Action). take i actions ++ x ∷ []) (same ∙ is) ∙ sym (take_more actions i a within)
