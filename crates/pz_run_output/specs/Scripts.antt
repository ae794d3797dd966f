-- Which file holds a script that drives the system of a model, and which is refused, from which line on.
use Rattle.std.specs.Prelude.{ℕ, List}
use Rattle.pz_bind.specs.pz_syntax.Classes.{ModelTree}
use Rattle.pz_env_closing.specs.pz_env_script.declared.entry.Entry.{Entry}
use Rattle.pz_env_closing.specs.pz_env_script.Scripts.{IsScript, IsMalformedAt}
use Rattle.pz_env_closing.specs.pz_env_tree.Refusals.{IsFirstRefused}

-- the file is this script, which can drive the system
pub record IsScriptFor (m : ModelTree) (file : List ℕ) (script : List Entry) : Type 0 where
  pub is_script : IsScript file script
  pub fits : (line : ℕ) → IsFirstRefused m script line → ⊥

-- it is no script; or it is one that cannot drive the system
pub data IsScriptRefused (m : ModelTree) (file : List ℕ) : ℕ → Type 0 where
  malformed : (line : ℕ) → IsMalformedAt file line → IsScriptRefused m file line
  unfit : (script : List Entry) (line : ℕ) → IsScript file script → IsFirstRefused m script line → IsScriptRefused m file line
