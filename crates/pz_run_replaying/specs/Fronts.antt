-- The lines that a text begins with: each ends with LF and has none before. What stands behind the last
-- LF is no line.
use Rattle.std.specs.Prelude.{◌≡◌, ℕ, List, ◌++◌}
use Rattle.std.specs.List.{concat}
use Rattle.pz_rules.specs.pz_syntax.ModelForm.{Each}
use Rattle.pz_trace.specs.Laws.{IsLine}

-- these are the first of them
pub record BeginsWith (text : List ℕ) (lines : List (List ℕ)) : Type 0 where
  pub are_lines : Each IsLine lines
  pub rest : List ℕ
  pub is_text : text ≡ concat lines ++ rest
