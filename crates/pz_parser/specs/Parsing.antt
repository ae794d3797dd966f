-- What the call that parses promises.
use Rattle.std.specs.Prelude.{◌≡◌, ◌≤◌, ℕ, List, map, Result, MatchResult}
use Rattle.pz_syntax.specs.declared.tokens.Mark.{Mark}
use Rattle.pz_syntax.specs.declared.tokens.Token.{Token}
use Rattle.pz_syntax.specs.declared.clusters.Model.{Model}
use Rattle.pz_syntax.specs.Classes.{ModelTree}
use Rattle.pz_syntax.specs.ClassView.{model_view}
use Rattle.pz_syntax.specs.ModelText.{text}
use Rattle.pz_syntax.specs.ModelForm.{IsModel}
use Rattle.pz_syntax.specs.ModelNesting.{nesting}
use Rattle.pz_parser_cursor.specs.Places.{positions}
use Rattle.pz_parser.specs.declared.error.ParseError.{ParseError}
use Rattle.pz_parser.specs.declared.error.ParseError.TheVariants.{NoMemory}
use Rattle.pz_parser.specs.ModelPlaces.{place_model}

-- the marks of tokens, without their positions
abbrev pub marks : List Token → List Mark
marks = map (λ t. t.mark)

-- the model is one that the grammar has, no deeper than the limit, and the tokens are its text
abbrev pub IsTextOf : ℕ → List Token → ModelTree → Type 0
IsTextOf limit tokens m = IsModel m × (nesting m ≤ limit) × (marks tokens ≡ text m)

-- this model is the answer, with the positions of the tokens, unless memory fails
abbrev pub ReadsAs : List Token → ModelTree → Result Model ParseError → Type 0
ReadsAs tokens t result = MatchResult result (λ m. model_view m ≡ place_model (positions tokens) 0 t) (λ e. e ≡ NoMemory)

-- each part stands where the token stands that it is named after
abbrev pub IsInPlace : List Token → ModelTree → Type 0
IsInPlace tokens m = m ≡ place_model (positions tokens) 0 m
