-- Where tokens that are no text of a model are refused, and as what.
use Rattle.std.specs.Prelude.{◌≡◌, ◌<◌, ◌≤◌, ℕ, suc, List, [], ◌∷◌, length, take, drop, ⊤}
use Rattle.pz_syntax.specs.declared.tokens.Pos.{Pos}
use Rattle.pz_syntax.specs.declared.tokens.Mark.{Mark}
use Rattle.pz_syntax.specs.declared.tokens.Token.{Token}
use Rattle.pz_syntax.specs.Classes.{ModelTree}
use Rattle.pz_syntax.specs.ModelForm.{IsModel}
use Rattle.pz_parser.specs.CutModels.{cut}
use Rattle.pz_parser.specs.Parsing.{marks}
use Rattle.pz_parser.specs.declared.error.ParseError.{ParseError}
use Rattle.pz_parser.specs.declared.error.ParseError.TheVariants.{NoMemory, Syntax, TooNested}

-- the marks are what stands of a model of the grammar before some place in it, and no construct of
-- what stands is deeper
abbrev pub IsCut : ℕ → List Mark → Type 0
IsCut limit ms = (m : ModelTree) × IsModel m × cut m limit ms

-- So many of the marks, and fewer, are the text of a cut model within the limit; one more are not.
abbrev pub Passes : ℕ → List Mark → ℕ → Type 0
Passes limit ms count = (count ≤ length ms) × ((fewer : ℕ) → fewer ≤ count → IsCut limit (take fewer ms)) × (count < length ms → IsCut limit (take (suc count) ms) → ⊥)

-- the place of the first of these tokens; the end where there is none
abbrev pub first_place : Pos → List Token → Pos
first_place end [] = end
first_place end (t ∷ ts) = t.pos

-- the place of the token behind so many
abbrev pub place_behind : List Token → Pos → ℕ → Pos
place_behind tokens end count = first_place end (drop count tokens)

-- The refusal stands at the first token with which the marks are no more the text of a cut model
-- within the limit, or at the end. It is `TooNested` where they are that of a deeper one.
abbrev pub Refuses : ℕ → List Token → Pos → ParseError → Type 0
Refuses limit tokens end NoMemory = ⊤
Refuses limit tokens end (Syntax p) = (count : ℕ) × Passes limit (marks tokens) count × (p ≡ place_behind tokens end count) × ((depth : ℕ) → count < length tokens → IsCut depth (take (suc count) (marks tokens)) → ⊥)
Refuses limit tokens end (TooNested p) = (count : ℕ) × Passes limit (marks tokens) count × (p ≡ place_behind tokens end count) × (count < length tokens) × ((depth : ℕ) × IsCut depth (take (suc count) (marks tokens)))
