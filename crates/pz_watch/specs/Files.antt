-- Files of watches: which lists of watches a text is, and the line at which it is none. Whether a
-- text may be a name is given: whether it is an identifier of models.
use Rattle.std.specs.Prelude.{◌≡◌, ◌≢◌, ◌≤◌, ◌<◌, ℕ, suc, Bool, true, List, [], ◌∷◌, ◌++◌, length, All, codes}
use Rattle.std.specs.List.{join_with_byte}
use Rattle.pz_items.specs.Characters.{byte}
use Rattle.pz_watch.specs.Formulas.{Formula}
use Rattle.pz_watch.specs.Words.{words_of, CanBeWritten}

pub record NamedFormula : Type 0 where
  pub name : List ℕ
  pub formula : Formula

-- `NAME : formula`, words separated by one blank
abbrev pub watch_text : NamedFormula → List ℕ
watch_text w = w.name ++ (codes " : " ++ join_with_byte (byte " ") (words_of w.formula))

-- each line ends with an LF
abbrev pub watches_text : List NamedFormula → List ℕ
watches_text [] = []
watches_text (w ∷ ws) = watch_text w ++ (codes "\n" ++ watches_text ws)

-- the bytes, lines and words of a formula that there may be
abbrev pub most_bytes : ℕ
most_bytes = 65536

abbrev pub most_watches : ℕ
most_watches = 100

abbrev pub most_words : ℕ
most_words = 1000

module _ (is_name : List ℕ → Bool) where
  pub record IsWatch (w : NamedFormula) : Type 0 where
    pub named : is_name w.name ≡ true
    pub written : CanBeWritten w.formula
    pub few : length (words_of w.formula) ≤ most_words

  -- the text is these watches, a line each
  pub record AreWatches (text : List ℕ) (ws : List NamedFormula) : Type 0 where
    pub lines : text ≡ watches_text ws
    pub each : All IsWatch ws
    pub some : ws ≢ []
    pub few : length ws ≤ most_watches

  -- the text does not begin with the line of a watch
  abbrev pub BeginsWithNone : List ℕ → Type 0
  BeginsWithNone text = (w : NamedFormula) (rest : List ℕ) → IsWatch w → text ≢ watch_text w ++ (codes "\n" ++ rest)

  -- the text is no list of watches, and this is the first line that is to blame
  pub data IsRefusedAt (text : List ℕ) : ℕ → Type 0 where
    empty : text ≡ [] → IsRefusedAt text 1
    no_watch : (ws : List NamedFormula) (rest : List ℕ) → All IsWatch ws → length ws < most_watches → text ≡ watches_text ws ++ rest → rest ≢ [] → BeginsWithNone rest → IsRefusedAt text (suc (length ws))
    too_many : (ws : List NamedFormula) (rest : List ℕ) → All IsWatch ws → length ws ≡ most_watches → text ≡ watches_text ws ++ rest → rest ≢ [] → IsRefusedAt text (suc (length ws))
