-- A text is exactly one script, or it is none, from exactly one line on.
use Rattle.std.specs.Prelude.{◌≡◌, ◌⊎◌, ℕ, List}
use Rattle.pz_env_script.specs.declared.entry.Entry.{Entry}
use Rattle.pz_env_script.specs.Scripts.{IsScript, IsMalformedAt}

abbrev pub IsOneScript : Type 0
IsOneScript = (text : List ℕ) (one other : List Entry) → IsScript text one → IsScript text other → one ≡ other

abbrev pub IsNeverBoth : Type 0
IsNeverBoth = (text : List ℕ) (entries : List Entry) (line : ℕ) → IsScript text entries → IsMalformedAt text line → ⊥

abbrev pub IsOneLine : Type 0
IsOneLine = (text : List ℕ) (one other : ℕ) → IsMalformedAt text one → IsMalformedAt text other → one ≡ other

abbrev pub HasAnAnswer : Type 0
HasAnAnswer = (text : List ℕ) → ((entries : List Entry) × IsScript text entries) ⊎ ((line : ℕ) × IsMalformedAt text line)
