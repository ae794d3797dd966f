-- Laws of what holds at a point, of the words of formulas, and of files.
use Rattle.std.specs.Prelude.{◌≡◌, ◌<◌, ℕ, Bool, true, List, ◌++◌, length}
use Rattle.pz_lines.specs.Words.{IsWord}
use Rattle.pz_watch.specs.Points.{Point}
use Rattle.pz_watch.specs.Formulas.{Formula, holds}
use Rattle.pz_watch.specs.Words.{words_of, CanBeWritten}
use Rattle.pz_watch.specs.Files.{NamedFormula, AreWatches, IsRefusedAt}

-- what holds at a point of a run is the same however the run goes on
abbrev pub MeaningStays : Type 0
MeaningStays = (f : Formula) (points more : List Point) (i : ℕ) → i < length points → holds f (points ++ more) i ≡ holds f points i

-- no words are of two formulas, and the words of none are the front of those of another
abbrev pub HasOneReading : Type 0
HasOneReading = (f g : Formula) (r s : List (List ℕ)) → CanBeWritten f → CanBeWritten g → words_of f ++ r ≡ words_of g ++ s → (f ≡ g) × (r ≡ s)

-- names are words
abbrev pub NamesAreWords : (List ℕ → Bool) → Type 0
NamesAreWords is_name = (name : List ℕ) → is_name name ≡ true → IsWord name

-- a file is one list of watches at most
abbrev pub IsOneList : Type 0
IsOneList = (is_name : List ℕ → Bool) (text : List ℕ) (ws vs : List NamedFormula) → NamesAreWords is_name → AreWatches is_name text ws → AreWatches is_name text vs → ws ≡ vs

-- no file of watches is refused
abbrev pub IsNeverBoth : Type 0
IsNeverBoth = (is_name : List ℕ → Bool) (text : List ℕ) (ws : List NamedFormula) (line : ℕ) → NamesAreWords is_name → AreWatches is_name text ws → IsRefusedAt is_name text line → ⊥

-- a file is refused at one line at most
abbrev pub IsOneLine : Type 0
IsOneLine = (is_name : List ℕ → Bool) (text : List ℕ) (one other : ℕ) → NamesAreWords is_name → IsRefusedAt is_name text one → IsRefusedAt is_name text other → one ≡ other
