-- The words of formulas: an operator stands before its parts, and a bound behind the operator.
use Rattle.std.specs.Prelude.{◌<◌, ◌^◌, ℕ, List, [], ◌∷◌, ◌++◌, Some, None, codes}
use Rattle.std.specs.Fmt.{decimal}
use Rattle.pz_lines.specs.Words.{IsWord}
use Rattle.pz_watch.specs.declared.atoms.Atom.{Atom}
use Rattle.pz_watch.specs.declared.atoms.Atom.TheVariants.{Message, From, To, Kind, At, Pass}
use Rattle.pz_watch.specs.Formulas.{Bound, Formula, line, negation, both, either, before, once, always, since}

abbrev pub bound_word : Bound → List ℕ
bound_word None = codes "*"
bound_word (Some bound) = decimal bound

abbrev pub line_words : Atom → List (List ℕ)
line_words (Message name) = codes "message" ∷ name ∷ []
line_words (From path) = codes "from" ∷ path ∷ []
line_words (To path) = codes "to" ∷ path ∷ []
line_words (Kind word) = codes "kind" ∷ word ∷ []
line_words (At path) = codes "at" ∷ path ∷ []
line_words Pass = codes "pass" ∷ []

abbrev pub words_of : Formula → List (List ℕ)
words_of (line atom) = line_words atom
words_of (negation f) = codes "not" ∷ words_of f
words_of (both f g) = codes "and" ∷ (words_of f ++ words_of g)
words_of (either f g) = codes "or" ∷ (words_of f ++ words_of g)
words_of (before f) = codes "before" ∷ words_of f
words_of (once b f) = codes "once" ∷ bound_word b ∷ words_of f
words_of (always b f) = codes "always" ∷ bound_word b ∷ words_of f
words_of (since b f g) = codes "since" ∷ bound_word b ∷ (words_of f ++ words_of g)

-- each name, path and kind is a word; a keyword is one too
abbrev pub IsLineOfWords : Atom → Type 0
IsLineOfWords (Message name) = IsWord name
IsLineOfWords (From path) = IsWord path
IsLineOfWords (To path) = IsWord path
IsLineOfWords (Kind word) = IsWord word
IsLineOfWords (At path) = IsWord path
IsLineOfWords Pass = Unit {0}

-- a bound is a number below 2 ^ 64, or there is none
abbrev pub IsBound : Bound → Type 0
IsBound None = Unit {0}
IsBound (Some bound) = bound < 2 ^ 64

-- a formula that can be written
abbrev pub CanBeWritten : Formula → Type 0
CanBeWritten (line atom) = IsLineOfWords atom
CanBeWritten (negation f) = CanBeWritten f
CanBeWritten (both f g) = CanBeWritten f × CanBeWritten g
CanBeWritten (either f g) = CanBeWritten f × CanBeWritten g
CanBeWritten (before f) = CanBeWritten f
CanBeWritten (once b f) = IsBound b × CanBeWritten f
CanBeWritten (always b f) = IsBound b × CanBeWritten f
CanBeWritten (since b f g) = IsBound b × (CanBeWritten f × CanBeWritten g)
