-- No end of a word stands in the words of a formula.
use Rattle.std.proofs.Common.{◌≡◌, refl, true, Some, None}
use Rattle.std.specs.List.{list_all}
use Rattle.std.specs.Fmt.{decimal}
use Rattle.std.proofs.lemmas.Fmt.{decimal_is_IsNumeral}
use Rattle.pz_lines.specs.Words.{is_inside}
use Rattle.pz_lines.proofs.Cutting.{EachInside, inside_both, digits_inside}
use Rattle.pz_watch.specs.declared.atoms.Atom.TheVariants.{Message, From, To, Kind, At, Pass}
use Rattle.pz_watch.specs.Formulas.{Bound, Formula, line, negation, both, either, before, once, always, since}
use Rattle.pz_watch.specs.Words.{words_of, bound_word, IsBound, CanBeWritten}

bound_inside : (b : Bound) → IsBound b → list_all is_inside (bound_word b) ≡ true
bound_inside None is = refl
bound_inside (Some n) is = digits_inside (decimal n) (decimal_is_IsNumeral n is).0.1

pub words_inside : (f : Formula) → CanBeWritten f → EachInside (words_of f)
words_inside (line (Message w)) is = (refl, (is.inside, tt))
words_inside (line (From w)) is = (refl, (is.inside, tt))
words_inside (line (To w)) is = (refl, (is.inside, tt))
words_inside (line (Kind w)) is = (refl, (is.inside, tt))
words_inside (line (At w)) is = (refl, (is.inside, tt))
words_inside (line Pass) is = (refl, tt)
words_inside (negation f) is = (refl, words_inside f is)
words_inside (both f g) is = (refl, inside_both (words_of f) (words_of g) (words_inside f is.0) (words_inside g is.1))
words_inside (either f g) is = (refl, inside_both (words_of f) (words_of g) (words_inside f is.0) (words_inside g is.1))
words_inside (before f) is = (refl, words_inside f is)
words_inside (once b f) is = (refl, (bound_inside b is.0, words_inside f is.1))
words_inside (always b f) is = (refl, (bound_inside b is.0, words_inside f is.1))
words_inside (since b f g) is =
    (refl, (bound_inside b is.0, inside_both (words_of f) (words_of g) (words_inside f is.1.0) (words_inside g is.1.1)))
