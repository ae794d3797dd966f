-- The words of formulas are read from the front: so no words are of two formulas, and none are the front
-- of the words of another.
use Rattle.std.proofs.Common.{◌≡◌, refl, sym, ap, ◌∙◌, append_assoc, ℕ, zero, suc, ◌+◌, ◌-◌, ◌≤◌, ◌<◌, ◌++◌, length, Some, None, arith}
use Rattle.std.proofs.lemmas.List.{length-append}
use Rattle.pz_lines.specs.Words.{Words}
use Rattle.pz_watch.specs.declared.atoms.Atom.TheVariants.{Message, From, To, Kind, At, Pass}
use Rattle.pz_watch.specs.declared.operators.One.{One}
use Rattle.pz_watch.specs.declared.operators.One.TheVariants as one
use Rattle.pz_watch.specs.declared.operators.Two.{Two}
use Rattle.pz_watch.specs.declared.operators.Two.TheVariants as two
use Rattle.pz_watch.specs.declared.operators.Operator.{Operator}
use Rattle.pz_watch.specs.declared.operators.Operator.TheVariants as operator
use Rattle.pz_watch.specs.Formulas.{Formula, line, negation, both, either, before, once, always, since}
use Rattle.pz_watch.specs.Words.{words_of, CanBeWritten}
use Rattle.pz_watch.specs.devices.Operators.{Read, operator_in}
use Rattle.pz_watch.specs.devices.Making.{make_one, make_two, then_one, then_two, of_operator, by_operator, read}
use Rattle.pz_watch.proofs.OperatorWords.{operator_words, IsWritten, Stands, operator_stands, operator_read}

pub some_words : (f : Formula) → 1 ≤ length (words_of f)
some_words (line (Message w)) = omega arith
some_words (line (From w)) = omega arith
some_words (line (To w)) = omega arith
some_words (line (Kind w)) = omega arith
some_words (line (At w)) = omega arith
some_words (line Pass) = omega arith
some_words (negation f) = omega arith
some_words (both f g) = omega arith
some_words (either f g) = omega arith
some_words (before f) = omega arith
some_words (once b f) = omega arith
some_words (always b f) = omega arith
some_words (since b f g) = omega arith

-- what is read is what stands there
abbrev pub StandsThere : Words → Read Formula → Type 0
StandsThere ws None = Unit {0}
StandsThere ws (Some p) = (ws ≡ words_of p.0 ++ p.1) × CanBeWritten p.0

one_words : (o : One) (f : Formula) (r : Words) → operator_words (operator.One o) ++ (words_of f ++ r) ≡ words_of (make_one o f) ++ r
one_words one.Not f r = refl
one_words one.Before f r = refl
one_words (one.Once b) f r = refl
one_words (one.Always b) f r = refl

one_written : (o : One) (f : Formula) → IsWritten (operator.One o) → CanBeWritten f → CanBeWritten (make_one o f)
one_written one.Not f is written = written
one_written one.Before f is written = written
one_written (one.Once b) f is written = (is, written)
one_written (one.Always b) f is written = (is, written)

two_words : (o : Two) (f g : Formula) (r : Words) → operator_words (operator.Two o) ++ (words_of f ++ (words_of g ++ r)) ≡ words_of (make_two o f g) ++ r
two_words two.And f g r = ap (λ (ws : Words). operator_words (operator.Two two.And) ++ ws) (sym (append_assoc (words_of f) (words_of g) r))
two_words two.Or f g r = ap (λ (ws : Words). operator_words (operator.Two two.Or) ++ ws) (sym (append_assoc (words_of f) (words_of g) r))
two_words (two.Since b) f g r = ap (λ (ws : Words). operator_words (operator.Two (two.Since b)) ++ ws) (sym (append_assoc (words_of f) (words_of g) r))

two_written : (o : Two) (f g : Formula) → IsWritten (operator.Two o) → CanBeWritten f → CanBeWritten g → CanBeWritten (make_two o f g)
two_written two.And f g is first second = (first, second)
two_written two.Or f g is first second = (first, second)
two_written (two.Since b) f g is first second = (is, (first, second))

one_stands : (o : One) (ws rest : Words) (found : Read Formula) → ws ≡ operator_words (operator.One o) ++ rest → IsWritten (operator.One o) → StandsThere rest found → StandsThere ws (then_one (make_one o) found)
one_stands o ws rest None is written told = tt
one_stands o ws rest (Some p) is written told =
    (is ∙ ap (λ (us : Words). operator_words (operator.One o) ++ us) told.0 ∙ one_words o p.0 p.1, one_written o p.0 written told.1)

second_stands : (o : Two) (ws rest : Words) (f : Formula) (found : Read Formula) → ws ≡ operator_words (operator.Two o) ++ (words_of f ++ rest) → IsWritten (operator.Two o) → CanBeWritten f → StandsThere rest found → StandsThere ws (then_one (make_two o f) found)
second_stands o ws rest f None is written first told = tt
second_stands o ws rest f (Some p) is written first told =
    (is ∙ ap (λ (us : Words). operator_words (operator.Two o) ++ (words_of f ++ us)) told.0 ∙ two_words o f p.0 p.1, two_written o f p.0 written first told.1)

two_stands : (o : Two) (next : Words → Read Formula) (ws rest : Words) (found : Read Formula) → ((us : Words) → StandsThere us (next us)) → ws ≡ operator_words (operator.Two o) ++ rest → IsWritten (operator.Two o) → StandsThere rest found → StandsThere ws (then_two (make_two o) next found)
two_stands o next ws rest None nexts is written told = tt
two_stands o next ws rest (Some p) nexts is written told =
    second_stands o ws p.1 p.0 (next p.1) (is ∙ ap (λ (us : Words). operator_words (operator.Two o) ++ us) told.0) written told.1 (nexts p.1)

of_stands : (next : Words → Read Formula) (ws : Words) (o : Operator) (rest : Words) → ((us : Words) → StandsThere us (next us)) → ws ≡ operator_words o ++ rest → IsWritten o → StandsThere ws (of_operator next o rest)
of_stands next ws (operator.Line a) rest nexts is written = (is, written)
of_stands next ws (operator.One o) rest nexts is written = one_stands o ws rest (next rest) is written (nexts rest)
of_stands next ws (operator.Two o) rest nexts is written = two_stands o next ws rest (next rest) nexts is written (nexts rest)

by_stands : (next : Words → Read Formula) (ws : Words) (found : Read Operator) → ((us : Words) → StandsThere us (next us)) → Stands ws found → StandsThere ws (by_operator next found)
by_stands next ws None nexts told = tt
by_stands next ws (Some p) nexts told = of_stands next ws p.0 p.1 nexts told.0 told.1

pub read_stands : (n : ℕ) (ws : Words) → StandsThere ws (read n ws)
unfolding read
read_stands zero ws = tt
read_stands (suc n) ws = by_stands (read n) ws (operator_in ws) (read_stands n) (operator_stands ws)

-- one step of the reading
pub read_none : (n : ℕ) (ws : Words) → n ≡ 0 → read n ws ≡ None
unfolding read
read_none zero ws e = refl
read_none (suc n) ws e = absurd (omega arith)

pub read_more : (n : ℕ) (ws : Words) → 0 < n → read n ws ≡ by_operator (read (n - 1)) (operator_in ws)
unfolding read
read_more zero ws some = absurd (omega arith)
read_more (suc n) ws some =
    let less : suc n - 1 ≡ n = omega arith in
    rw less refl

-- what stands there is read

two_read : (o : Two) (n : ℕ) (f g : Formula) (r : Words) → IsWritten (operator.Two o) → read n (words_of f ++ (words_of g ++ r)) ≡ Some (f, words_of g ++ r) → read n (words_of g ++ r) ≡ Some (g, r) → by_operator (read n) (operator_in (words_of (make_two o f g) ++ r)) ≡ Some (make_two o f g, r)
two_read o n f g r is first second =
    ap (λ (ws : Words). by_operator (read n) (operator_in ws)) (sym (two_words o f g r))
    ∙ ap (λ (p : Read Operator). by_operator (read n) p) (operator_read (operator.Two o) (words_of f ++ (words_of g ++ r)) is)
    ∙ ap (λ (p : Read Formula). then_two (make_two o) (read n) p) first
    ∙ ap (λ (p : Read Formula). then_one (make_two o f) p) second

one_read : (o : One) (n : ℕ) (f : Formula) (r : Words) → IsWritten (operator.One o) → read n (words_of f ++ r) ≡ Some (f, r) → by_operator (read n) (operator_in (words_of (make_one o f) ++ r)) ≡ Some (make_one o f, r)
one_read o n f r is part =
    ap (λ (ws : Words). by_operator (read n) (operator_in ws)) (sym (one_words o f r))
    ∙ ap (λ (p : Read Operator). by_operator (read n) p) (operator_read (operator.One o) (words_of f ++ r) is)
    ∙ ap (λ (p : Read Formula). then_one (make_one o) p) part

pub reads : (f : Formula) (n : ℕ) (r : Words) → CanBeWritten f → length (words_of f) ≤ n → read n (words_of f ++ r) ≡ Some (f, r)
unfolding read
reads f zero r is le = absurd (omega (arith, some_words f))
reads (line a) (suc n) r is le = ap (λ (p : Read Operator). by_operator (read n) p) (operator_read (operator.Line a) r is)
reads (negation f) (suc n) r is le = one_read one.Not n f r tt (reads f n r is (omega arith))
reads (both f g) (suc n) r is le =
    let count : length (words_of f ++ words_of g) ≡ length (words_of f) + length (words_of g) = length-append (words_of f) (words_of g) in
    two_read two.And n f g r tt (reads f n (words_of g ++ r) is.0 (omega arith)) (reads g n r is.1 (omega arith))
reads (either f g) (suc n) r is le =
    let count : length (words_of f ++ words_of g) ≡ length (words_of f) + length (words_of g) = length-append (words_of f) (words_of g) in
    two_read two.Or n f g r tt (reads f n (words_of g ++ r) is.0 (omega arith)) (reads g n r is.1 (omega arith))
reads (before f) (suc n) r is le = one_read one.Before n f r tt (reads f n r is (omega arith))
reads (once b f) (suc n) r is le = one_read (one.Once b) n f r is.0 (reads f n r is.1 (omega arith))
reads (always b f) (suc n) r is le = one_read (one.Always b) n f r is.0 (reads f n r is.1 (omega arith))
reads (since b f g) (suc n) r is le =
    let count : length (words_of f ++ words_of g) ≡ length (words_of f) + length (words_of g) = length-append (words_of f) (words_of g) in
    two_read (two.Since b) n f g r is.0 (reads f n (words_of g ++ r) is.1.0 (omega arith)) (reads g n r is.1.1 (omega arith))

abbrev read_or : Formula × Words → Read Formula → Formula × Words
read_or p None = p
read_or p (Some q) = q

pub one_reading : (f g : Formula) (r s : Words) → CanBeWritten f → CanBeWritten g → words_of f ++ r ≡ words_of g ++ s → (f ≡ g) × (r ≡ s)
one_reading f g r s is are e =
    let n : ℕ = length (words_of f) + length (words_of g) in
    let one : read n (words_of f ++ r) ≡ Some (f, r) = reads f n r is (omega arith) in
    let other : read n (words_of g ++ s) ≡ Some (g, s) = reads g n s are (omega arith) in
    let same = sym one ∙ ap (λ (ws : Words). read n ws) e ∙ other in
    (ap (λ (p : Read Formula). (read_or (f, r) p).0) same, ap (λ (p : Read Formula). (read_or (f, r) p).1) same)
