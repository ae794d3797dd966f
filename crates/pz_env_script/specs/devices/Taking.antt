-- Which entries are taken off the front of a text.
use Rattle.std.specs.Prelude.{◌≡◌, ◌≤◌, ℕ, List, [], ◌∷◌, ◌++◌, length, codes}
use Rattle.pz_env_script.specs.declared.entry.Entry.{Entry}
use Rattle.pz_env_script.specs.Entries.{IsEntry}
use Rattle.pz_env_script.specs.Scripts.{lines_text, AreEntries, most_entries}

-- the text begins with the line of an entry, and it is added
pub record IsTaken (text rest : List ℕ) (before entries : List Entry) : Type 0 where
  pub line : List ℕ
  pub entry : Entry
  pub is_entry : IsEntry line entry
  pub is_text : text ≡ line ++ (codes "\n" ++ rest)
  pub added : entries ≡ before ++ entry ∷ []

-- the text is a line for each entry
pub record AreTaken (text : List ℕ) (entries : List Entry) : Type 0 where
  pub lines : List (List ℕ)
  pub is_text : text ≡ lines_text lines
  pub are : AreEntries lines entries
  pub few : length entries ≤ most_entries
