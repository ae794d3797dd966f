-- What may stand of a text before some place in it: the parts before the place are whole, the part
-- at the place is cut or has not begun, and those behind it are missing.
use Rattle.std.specs.Prelude.{◌≡◌, ◌≤◌, ◌⊎◌, ℕ, zero, suc, List, [], ◌∷◌, ◌++◌, Option, Some, None, ⊤}
use Rattle.pz_syntax.specs.declared.tokens.Symbol.{Symbol}
use Rattle.pz_syntax.specs.declared.tokens.Keyword.{Keyword}
use Rattle.pz_syntax.specs.declared.tokens.Mark.{Mark}
use Rattle.pz_syntax.specs.Marks.{symbol, keyword}

-- how deep the constructs that stand may nest, and the marks that stand
abbrev pub Cuts : Type 1
Cuts = ℕ → List Mark → Type 0

-- of marks that no construct begins among: any number of the first of them
abbrev pub of_marks : List Mark → Cuts
of_marks all limit ms = (missing : List Mark) × (all ≡ ms ++ missing)

-- Of a part, given by its text, its nesting and its cuts, and of what stands behind it: the part is
-- cut and nothing stands behind it, or it is whole.
abbrev pub part_then : List Mark → ℕ → Cuts → Cuts → Cuts
part_then text nesting part behind limit ms = part limit ms ⊎ ((rest : List Mark) × (ms ≡ text ++ rest) × (nesting ≤ limit) × behind limit rest)

-- of marks that no construct begins among, and of what stands behind them
abbrev pub marks_then : List Mark → Cuts → Cuts
marks_then all behind = part_then all 0 (of_marks all) behind

-- of one such mark, and of what stands behind it
abbrev pub mark_then : Mark → Cuts → Cuts
mark_then m behind = marks_then (m ∷ []) behind

-- of a construct: it counts from its first mark on
abbrev pub construct : Cuts → Cuts
construct inside limit [] = ⊤
construct inside zero (m ∷ ms) = ⊥
construct inside (suc limit) (m ∷ ms) = inside limit (m ∷ ms)

-- of a part between brackets, which nest
abbrev pub enclosed : Symbol → List Mark → ℕ → Cuts → Symbol → Cuts
enclosed left text nesting part right = construct (mark_then (symbol left) (part_then text nesting part (of_marks (symbol right ∷ []))))

-- of what may be left out behind a keyword
abbrev pub section_cut : {A : Type 0} → Keyword → (A → Cuts) → Option A → Cuts
section_cut x cut_of None = of_marks []
section_cut x cut_of (Some content) = mark_then (keyword x) (cut_of content)

-- of parts that stand one behind the other
abbrev pub each_cut : {A : Type 0} → (A → List Mark) → (A → ℕ) → (A → Cuts) → List A → Cuts
each_cut text_of nesting_of cut_of [] = of_marks []
each_cut text_of nesting_of cut_of (x ∷ xs) = part_then (text_of x) (nesting_of x) (cut_of x) (each_cut text_of nesting_of cut_of xs)
