-- Which scripts may close which models.
use Rattle.std.specs.Prelude.{◌<◌, ◌^◌, ℕ, List, length}
use Rattle.pz_env_tree.specs.pz_syntax.ModelText.{text}
use Rattle.pz_env_tree.specs.pz_syntax.Classes.{ModelTree}
use Rattle.pz_env_tree.specs.pz_classes_rules.Soundness.{IsSound}
use Rattle.pz_classes_openings.specs.OpeningRules.{Opens}
use Rattle.pz_env_tree.specs.pz_env_script.declared.entry.Entry.{Entry}
use Rattle.pz_env_tree.specs.pz_env_script.Scripts.{IsWritten}
use Rattle.pz_env_tree.specs.Refusals.{IsFirstRefused}

-- The model violates no rule, those on what opens among them; its text has few marks, so that there is
-- room for those of an environment; the script keeps its limits, and it is refused from no line on.
pub record MayClose (m : ModelTree) (script : List Entry) : Type 0 where
  pub sound : IsSound m
  pub opens : Opens m
  pub few : length (text m) < 2 ^ 31
  pub written : ∥ IsWritten script ∥₁
  pub unrefused : (line : ℕ) → ¬ IsFirstRefused m script line
