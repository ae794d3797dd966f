-- Short words for the rows: names, marks and trees at one place.
use Rattle.std.proofs.Common.{ℕ, List, ℤ, codes}
use Rattle.pz_syntax.specs.declared.tokens.TokenKind.TheVariants as kind
use Rattle.pz_syntax.specs.declared.tokens.Mark.{Mark}
use Rattle.pz_syntax.specs.declared.names.Id.{Id}
use Rattle.pz_syntax.specs.declared.exprs.Literal.TheVariants as lit
use Rattle.pz_syntax.specs.Marks.{mark}
use Rattle.pz_syntax.specs.ExpressionErasure.{origin}
use Rattle.pz_syntax.specs.Expressions.{Expression, literal, variable, Expressions, none, more}

abbrev pub id : List ℕ → Id
id name = record { name = name; pos = origin }

abbrev pub a : Id
a = id (codes "a")

abbrev pub b : Id
b = id (codes "b")

abbrev pub m : Id
m = id (codes "m")

abbrev pub p : Id
p = id (codes "p")

abbrev pub x : Id
x = id (codes "x")

abbrev pub y : Id
y = id (codes "y")

abbrev pub T : Id
T = id (codes "T")

abbrev pub P : Id
P = id (codes "P")

-- the name that stands for the keyword where it is a selector
abbrev pub init : Id
init = id (codes "init")

-- the mark of an integer
abbrev pub number : ℤ → Mark
number n = mark (kind.Int n)

abbrev pub var : Id → Expression Id Id
var name = variable origin name

abbrev pub int : ℤ → Expression Id Id
int n = literal origin (lit.Int n)

abbrev pub one : Expression Id Id → Expressions Id Id
one t = more t none

abbrev pub two : Expression Id Id → Expression Id Id → Expressions Id Id
two t u = more t (more u none)
