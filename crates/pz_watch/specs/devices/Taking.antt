-- Which watches are read from lines, and from words.
use Rattle.std.specs.Prelude.{◌≡◌, ◌≢◌, ◌≤◌, ℕ, Bool, ◌&&◌, nat_le, bytes_eq, List, [], ◌∷◌, ◌++◌, length, All, codes}
use Rattle.pz_lines.specs.Identifiers.{is_identifier}
use Rattle.pz_watch.specs.declared.monitor.Monitor.{Monitor}
use Rattle.pz_watch.specs.declared.watch.Watch.{Watch}
use Rattle.pz_watch.specs.Formulas.{Formula}
use Rattle.pz_watch.specs.Words.{words_of, CanBeWritten}
use Rattle.pz_watch.specs.Files.{NamedFormula, watch_text, watches_text, most_words, most_watches, IsWatch, AreWatches}
use Rattle.pz_watch.specs.devices.Standing.{IsFresh, StandsForNamed, StandForEach}

-- these are the words of a formula, for which the monitor is fresh
pub record IsOfFormula (words : List (List ℕ)) (monitor : Monitor) : Type 0 where
  pub formula : Formula
  pub written : CanBeWritten formula
  pub are_words : words ≡ words_of formula
  pub fresh : IsFresh monitor formula

abbrev pub AreOfNoFormula : List (List ℕ) → Type 0
AreOfNoFormula words = (f : Formula) → CanBeWritten f → words ≢ words_of f

-- these stand in front of a formula of so many words
abbrev pub is_front : List ℕ → List ℕ → ℕ → Bool
is_front name colon words = is_identifier name && (bytes_eq colon (codes ":") && nat_le words most_words)

-- these are the words of a watch, for which it stands before the first point
pub record IsMadeFrom (words : List (List ℕ)) (watch : Watch) : Type 0 where
  pub named : NamedFormula
  pub is_watch : IsWatch is_identifier named
  pub are_words : words ≡ named.name ∷ codes ":" ∷ words_of named.formula
  pub stands : StandsForNamed watch named []

abbrev pub AreOfNoWatch : List (List ℕ) → Type 0
AreOfNoWatch words = (w : NamedFormula) → IsWatch is_identifier w → words ≢ w.name ∷ codes ":" ∷ words_of w.formula

-- the line is that of a watch, for which it stands before the first point
pub record IsReadFrom (line : List ℕ) (watch : Watch) : Type 0 where
  pub named : NamedFormula
  pub is_watch : IsWatch is_identifier named
  pub is_text : line ≡ watch_text named
  pub stands : StandsForNamed watch named []

-- the text begins with the line of a watch, and it is added
pub record IsTaken (text rest : List ℕ) (before watches : List Watch) : Type 0 where
  pub watch : Watch
  pub is_read : (line : List ℕ) × IsReadFrom line watch × (text ≡ line ++ (codes "\n" ++ rest))
  pub added : watches ≡ before ++ watch ∷ []

-- the text is a line for each watch
pub record AreTaken (text : List ℕ) (watches : List Watch) : Type 0 where
  pub named : List NamedFormula
  pub lines : text ≡ watches_text named
  pub each : All (IsWatch is_identifier) named
  pub few : length named ≤ most_watches
  pub stand : StandForEach watches named []

-- the text is a file of watches, for which they stand before the first point
pub record AreReadFrom (text : List ℕ) (watches : List Watch) : Type 0 where
  pub named : List NamedFormula
  pub are_watches : AreWatches is_identifier text named
  pub stand : StandForEach watches named []
