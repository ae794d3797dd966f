-- What is refused is computed.
use Rattle.std.specs.Prelude.{◌≡◌, ◌↔◌, ℕ, List, Some}
use Rattle.pz_env_rules.specs.pz_syntax.Classes.{ModelTree}
use Rattle.pz_env_rules.specs.pz_env_script.declared.entry.Entry.{Entry}
use Rattle.pz_env_tree.specs.Refusals.{IsFirstRefused}
use Rattle.pz_env_tree.specs.devices.Refused.{refused}

-- A script is refused from one line on at most, which is the one that `refused` has.
abbrev pub RefusalsAreComputed : Type 0
RefusalsAreComputed = (m : ModelTree) (script : List Entry) (line : ℕ) → IsFirstRefused m script line ↔ (refused m script ≡ Some line)
