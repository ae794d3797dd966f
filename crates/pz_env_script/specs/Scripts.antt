-- Which list of entries a text is, and the line from which on it is none.
use Rattle.std.specs.Prelude.{◌≡◌, ◌≢◌, ◌≤◌, ◌<◌, ℕ, suc, List, [], ◌∷◌, ◌++◌, length, codes}
use Rattle.pz_env_script.specs.declared.entry.Entry.{Entry}
use Rattle.pz_env_script.specs.Entries.{IsEntry}

-- the most lines of a script
abbrev pub most_entries : ℕ
most_entries = 100000

-- each line ends with an LF
abbrev pub lines_text : List (List ℕ) → List ℕ
lines_text [] = []
lines_text (line ∷ lines) = line ++ (codes "\n" ++ lines_text lines)

-- the lines are the entries, one each
abbrev pub AreEntries : List (List ℕ) → List Entry → Type 0
AreEntries [] [] = Unit {0}
AreEntries [] (entry ∷ entries) = ⊥
AreEntries (line ∷ lines) [] = ⊥
AreEntries (line ∷ lines) (entry ∷ entries) = IsEntry line entry × AreEntries lines entries

-- the text is these entries, a line each
pub record IsScript (text : List ℕ) (entries : List Entry) : Type 0 where
  pub lines : List (List ℕ)
  pub is_text : text ≡ lines_text lines
  pub are : AreEntries lines entries
  pub some : entries ≢ []
  pub few : length entries ≤ most_entries

-- some text is these entries
abbrev pub IsWritten : List Entry → Type 0
IsWritten entries = (text : List ℕ) × IsScript text entries

-- the text does not begin with the line of an entry
abbrev pub BeginsWithNone : List ℕ → Type 0
BeginsWithNone text = (line rest : List ℕ) (entry : Entry) → IsEntry line entry → text ≢ line ++ (codes "\n" ++ rest)

-- The text is no script, and this is the first line that is to blame, counted from 1: the first that is
-- no entry, or the one behind the last that there may be. A last line without its LF is none.
pub data IsMalformedAt (text : List ℕ) : ℕ → Type 0 where
  empty : text ≡ [] → IsMalformedAt text 1
  no_entry : (lines : List (List ℕ)) (entries : List Entry) (rest : List ℕ) → AreEntries lines entries → length entries < most_entries → text ≡ lines_text lines ++ rest → rest ≢ [] → BeginsWithNone rest → IsMalformedAt text (suc (length entries))
  too_many : (lines : List (List ℕ)) (entries : List Entry) (rest : List ℕ) → AreEntries lines entries → length entries ≡ most_entries → text ≡ lines_text lines ++ rest → rest ≢ [] → IsMalformedAt text (suc (length entries))
