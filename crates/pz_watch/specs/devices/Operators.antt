-- Operators read from the front of the words that are left, as the code reads them.
use Rattle.std.specs.Prelude.{ℕ, if◌then◌else◌, bytes_eq, List, [], ◌∷◌, Option, Some, None, option_map, codes}
use Rattle.pz_lexer.specs.Spellings.{spelled}
use Rattle.pz_lines.specs.Words.{Words, is_word}
use Rattle.pz_lines.specs.Numbers.{only_if, number_of}
use Rattle.pz_watch.specs.declared.atoms.Atom.{Atom}
use Rattle.pz_watch.specs.declared.atoms.Atom.TheVariants as atom
use Rattle.pz_watch.specs.declared.operators.Said.{Said}
use Rattle.pz_watch.specs.declared.operators.Said.TheVariants.{Message, From, To, Kind, At}
use Rattle.pz_watch.specs.declared.operators.Keyword.{Keyword}
use Rattle.pz_watch.specs.declared.operators.Keyword.TheVariants as word
use Rattle.pz_watch.specs.declared.operators.One.TheVariants as one
use Rattle.pz_watch.specs.declared.operators.Two.TheVariants as two
use Rattle.pz_watch.specs.declared.operators.Operator.{Operator}
use Rattle.pz_watch.specs.declared.operators.Operator.TheVariants.{Line, One, Two}
use Rattle.pz_watch.specs.Formulas.{Bound}

-- what is read, and the words behind it
abbrev pub Read : Type 0 → Type 0
Read A = Option (A × Words)

-- Bounds

abbrev pub bound_in : List ℕ → Option Bound
bound_in word = if bytes_eq word (codes "*") then Some None else option_map (λ n. Some n) (number_of word)

abbrev pub bound_at : Words → Read Bound
bound_at [] = None
bound_at (w ∷ ws) = option_map (λ b. (b, ws)) (bound_in w)

-- Keywords

abbrev pub keywords : List (List ℕ × Keyword)
keywords =
    (codes "message", word.Said Message) ∷
    (codes "from", word.Said From) ∷
    (codes "to", word.Said To) ∷
    (codes "kind", word.Said Kind) ∷
    (codes "at", word.Said At) ∷
    (codes "pass", word.Pass) ∷
    (codes "not", word.Not) ∷
    (codes "and", word.And) ∷
    (codes "or", word.Or) ∷
    (codes "before", word.Before) ∷
    (codes "once", word.Once) ∷
    (codes "always", word.Always) ∷
    (codes "since", word.Since) ∷
    []

-- Operators

abbrev pub said_of : Said → List ℕ → Atom
said_of Message text = atom.Message text
said_of From text = atom.From text
said_of To text = atom.To text
said_of Kind text = atom.Kind text
said_of At text = atom.At text

abbrev pub named_at : Said → Words → Read Operator
named_at said [] = None
named_at said (w ∷ ws) = only_if (is_word w) (Line (said_of said w), ws)

abbrev pub with_bound : (Bound → Operator) → Words → Read Operator
with_bound make ws = option_map (λ p. (make p.0, p.1)) (bound_at ws)

abbrev pub operator_of : Keyword → Words → Read Operator
operator_of (word.Said said) ws = named_at said ws
operator_of word.Pass ws = Some (Line atom.Pass, ws)
operator_of word.Not ws = Some (One one.Not, ws)
operator_of word.And ws = Some (Two two.And, ws)
operator_of word.Or ws = Some (Two two.Or, ws)
operator_of word.Before ws = Some (One one.Before, ws)
operator_of word.Once ws = with_bound (λ b. One (one.Once b)) ws
operator_of word.Always ws = with_bound (λ b. One (one.Always b)) ws
operator_of word.Since ws = with_bound (λ b. Two (two.Since b)) ws

abbrev pub by_keyword : Option Keyword → Words → Read Operator
by_keyword None ws = None
by_keyword (Some keyword) ws = operator_of keyword ws

abbrev pub operator_in : Words → Read Operator
operator_in [] = None
operator_in (w ∷ ws) = by_keyword (spelled keywords w) ws
