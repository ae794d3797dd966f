-- A text has one model, or it is refused, and not both.
use Rattle.std.specs.Prelude.{◌≡◌, ℕ, List}
use Rattle.pz_bind_rules.specs.pz_syntax.Classes.{ModelTree}
use Rattle.pz_run_reading.specs.declared.refusal.Refusal.{Refusal}
use Rattle.pz_run_reading.specs.Models.{IsModelOf}
use Rattle.pz_run_reading.specs.Refusals.{IsRefused}
use Rattle.pz_run_reading.specs.Openings.{IsOpenModelOf, IsRefusedToOpen}

-- positions included
abbrev pub HasOneModel : Type 0
HasOneModel = (text : List ℕ) (m n : ModelTree) → IsModelOf text m → IsModelOf text n → m ≡ n

-- the text of a model is not refused
abbrev pub NoModelIsRefused : Type 0
NoModelIsRefused = (text : List ℕ) (m : ModelTree) (r : Refusal) → IsModelOf text m → IsRefused text r → ⊥

-- nor is the text of a model that opens refused to open
abbrev pub NoOpenModelIsRefused : Type 0
NoOpenModelIsRefused = (text : List ℕ) (m : ModelTree) (r : Refusal) → IsOpenModelOf text m → IsRefusedToOpen text r → ⊥
