-- Formulas worked out over small runs.
use Rattle.std.proofs.Common.{◌≡◌, ℕ, zero, suc, List, [], ◌∷◌, true, false, Bool, None, Some, length, get_or, ◌+◌, ◌*◌, refl, sym, ap, arith}
use Rattle.std.specs.Prelude.{codes}
use Rattle.std.specs.Fmt.{decimal}
use Rattle.std.specs.Str.Parse.{IsNumeral}
use Rattle.std.specs.Int.{IsInRange}
use Rattle.std.proofs.lemmas.Fmt.{decimal_digit, decimal_is_IsNumeral}
use Rattle.std.proofs.lemmas.Str.Parse.{digit_at}
use Rattle.std.proofs.lemmas.List.Elements.{All-cons, All-nil}
use Rattle.pz_watch.specs.declared.atoms.Atom.TheVariants.{Message, From, To, Kind, At, Pass}
use Rattle.pz_watch.specs.Points.{Point, passing, internal, communication}
use Rattle.pz_watch.specs.Formulas.{Bound, Formula, line, negation, both, either, before, once, always, since, holds}
use Rattle.pz_watch.specs.Words.{words_of, bound_word, IsBound, CanBeWritten}
use Rattle.pz_watch.specs.Files.{NamedFormula, watches_text, IsWatch, AreWatches, IsRefusedAt, empty}
use Rattle.pz_watch.specs.Breaking.{broken_at, broken_lines, AreBroken}

-- the values of a formula at the points of a run, in order
abbrev first_values : ℕ → Formula → List Point → List Bool → List Bool
first_values zero f ps values = values
first_values (suc n) f ps values = first_values n f ps (holds f ps n ∷ values)

abbrev values : Formula → List Point → List Bool
values f ps = first_values (length ps) f ps []

abbrev pass : Formula
pass = line Pass

-- A delay is over while a message waits: time passes from 0 to 3, the delay expires, the message is sent.
abbrev waiting : List Point
waiting =
    record { clock = 0; event = passing } ∷
    record { clock = 3; event = internal (codes "s") (codes "expire") } ∷
    record { clock = 3; event = communication (codes "m") (codes "s") (codes "r") } ∷
    []

abbrev m : Formula
m = line (Message (codes "m"))

-- the message was sent: not before it is
sent : values (once None m) waiting ≡ false ∷ false ∷ true ∷ []
sent = refl

-- no message more than 2 clock units behind a passing, which stands at the clock before it
late : values (negation (both m (negation (once (Some 2) pass)))) waiting ≡ true ∷ true ∷ false ∷ []
late = refl

-- what is said of a line is false of a line of another sort
said_message : values m waiting ≡ false ∷ false ∷ true ∷ []
said_message = refl

said_from : values (line (From (codes "s"))) waiting ≡ false ∷ false ∷ true ∷ []
said_from = refl

said_to : values (line (To (codes "s"))) waiting ≡ false ∷ false ∷ false ∷ []
said_to = refl

said_to_receiver : values (line (To (codes "r"))) waiting ≡ false ∷ false ∷ true ∷ []
said_to_receiver = refl

said_kind : values (line (Kind (codes "expire"))) waiting ≡ false ∷ true ∷ false ∷ []
said_kind = refl

no_such_kind : values (line (Kind (codes "expires"))) waiting ≡ false ∷ false ∷ false ∷ []
no_such_kind = refl

said_at : values (line (At (codes "s"))) waiting ≡ false ∷ true ∷ false ∷ []
said_at = refl

said_pass : values pass waiting ≡ true ∷ false ∷ false ∷ []
said_pass = refl

or_else : values (either m pass) waiting ≡ true ∷ false ∷ true ∷ []
or_else = refl

-- the file of these two watches, and the lines behind each line of the trace
abbrev watch_a : NamedFormula
watch_a = record { name = codes "a"; formula = once None m }

abbrev watch_b : NamedFormula
watch_b = record { name = codes "b"; formula = negation (both m (negation (once (Some 2) pass))) }

abbrev a_and_b : List NamedFormula
a_and_b = watch_a ∷ watch_b ∷ []

its_text : watches_text a_and_b ≡ codes "a : once * message m\nb : not and message m not once 2 pass\n"
its_text = rw (decimal_digit 2 (omega arith)) refl

m_is_written : CanBeWritten m
m_is_written = record { some = λ (e : codes "m" ≡ []). cc; inside = refl }

is_file : (I : List ℕ → Bool) → I (codes "a") ≡ true → I (codes "b") ≡ true → AreWatches I (codes "a : once * message m\nb : not and message m not once 2 pass\n") a_and_b
is_file I a b =
    let first : IsWatch I watch_a =
    record { named = a; written = (tt, m_is_written); few = omega arith } in
    let second : IsWatch I watch_b =
    record { named = b; written = (m_is_written, (omega arith, tt)); few = omega arith } in
    record {
      lines = sym its_text;
      each = All-cons (IsWatch I) watch_a (watch_b ∷ []) first (All-cons (IsWatch I) watch_b [] second (All-nil (IsWatch I)));
      some = λ (e : a_and_b ≡ []). cc;
      few = omega arith;
    }

broken_first : broken_lines (broken_at a_and_b waiting 0) ≡ codes "broken a\n"
broken_first = refl

broken_next : broken_lines (broken_at a_and_b waiting 1) ≡ codes "broken a\n"
broken_next = refl

broken_last : broken_lines (broken_at a_and_b waiting 2) ≡ codes "broken b\n"
broken_last = refl

are_broken : AreBroken a_and_b waiting
are_broken = record { at = 0; within = omega arith; broken = λ (e : broken_at a_and_b waiting 0 ≡ []). cc }

-- a file with nothing in it is refused at its first line
empty_file : (I : List ℕ → Bool) → IsRefusedAt I [] 1
empty_file I = empty refl

-- `once` without a bound: these are the words of no formula
start_of : List (List ℕ) → ℕ
start_of ws = 256 * get_or (get_or ws 0 []) 0 0 + get_or (get_or ws 0 []) 1 0

bound_of : List (List ℕ) → ℕ
bound_of ws = get_or (get_or ws 1 []) 0 0

no_message : (b : Bound) → IsBound b → get_or (bound_word b) 0 0 ≡ 109 → ⊥
no_message None is e = omega (arith, e)
no_message (Some n) is e =
    let numeral : IsNumeral 10 (decimal n) = (decimal_is_IsNumeral n is).0 in
    let digit : IsInRange 48 57 (get_or (decimal n) 0 0) = digit_at (decimal n) 0 numeral.1 numeral.0 in
    omega (arith, digit, e)

no_formula : (f : Formula) → CanBeWritten f → words_of f ≡ codes "once" ∷ codes "message" ∷ codes "m" ∷ [] → ⊥
unfolding start_of bound_of
no_formula (line (Message name)) is e = omega (arith, ap start_of e)
no_formula (line (From path)) is e = omega (arith, ap start_of e)
no_formula (line (To path)) is e = omega (arith, ap start_of e)
no_formula (line (Kind word)) is e = omega (arith, ap start_of e)
no_formula (line (At path)) is e = omega (arith, ap start_of e)
no_formula (line Pass) is e = omega (arith, ap start_of e)
no_formula (negation f) is e = omega (arith, ap start_of e)
no_formula (both f g) is e = omega (arith, ap start_of e)
no_formula (either f g) is e = omega (arith, ap start_of e)
no_formula (before f) is e = omega (arith, ap start_of e)
no_formula (once b f) is e = no_message b is.0 (ap bound_of e)
no_formula (always b f) is e = omega (arith, ap start_of e)
no_formula (since b f g) is e = omega (arith, ap start_of e)

-- Equal clocks: time passes at 0 to 1, p skips twice at 1, time passes at 1 to 2, p skips at 2.
abbrev level : List Point
level =
    record { clock = 0; event = passing } ∷
    record { clock = 1; event = internal (codes "p") (codes "skip") } ∷
    record { clock = 1; event = internal (codes "p") (codes "test") } ∷
    record { clock = 1; event = passing } ∷
    record { clock = 2; event = internal (codes "p") (codes "skip") } ∷
    []

abbrev skips : Formula
skips = line (Kind (codes "skip"))

abbrev tests : Formula
tests = line (Kind (codes "test"))

-- before: false at the first point, so its negation is true there
before_pass : values (before pass) level ≡ false ∷ true ∷ false ∷ false ∷ true ∷ []
before_pass = refl

not_before_pass : values (negation (before pass)) level ≡ true ∷ false ∷ true ∷ true ∷ false ∷ []
not_before_pass = refl

-- once: at bound 0 points with the same clock, the point itself among them, at bound 1 also those
-- exactly one clock unit ago, and all without a bound
once_0 : values (once (Some 0) pass) level ≡ true ∷ false ∷ false ∷ true ∷ false ∷ []
once_0 = refl

once_1 : values (once (Some 1) pass) level ≡ true ∷ true ∷ true ∷ true ∷ true ∷ []
once_1 = refl

once_test_0 : values (once (Some 0) tests) level ≡ false ∷ false ∷ true ∷ true ∷ false ∷ []
once_test_0 = refl

once_test_1 : values (once (Some 1) tests) level ≡ false ∷ false ∷ true ∷ true ∷ true ∷ []
once_test_1 = refl

once_ever : values (once None skips) level ≡ false ∷ true ∷ true ∷ true ∷ true ∷ []
once_ever = refl

-- always: a point where it fails counts as long as it is near
always_0 : values (always (Some 0) skips) level ≡ false ∷ true ∷ false ∷ false ∷ true ∷ []
always_0 = refl

always_1 : values (always (Some 1) (negation pass)) level ≡ false ∷ false ∷ false ∷ false ∷ false ∷ []
always_1 = refl

always_1_test : values (always (Some 1) (negation tests)) level ≡ true ∷ true ∷ false ∷ false ∷ false ∷ []
always_1_test = refl

always_ever : values (always None (negation tests)) level ≡ true ∷ true ∷ false ∷ false ∷ false ∷ []
always_ever = refl

-- since: at the point where it begins the first formula need not hold, behind it it has to, at equal
-- clocks too
since_ever : values (since None (negation pass) pass) level ≡ true ∷ true ∷ true ∷ true ∷ true ∷ []
since_ever = refl

since_skip : values (since None (negation pass) skips) level ≡ false ∷ true ∷ true ∷ false ∷ true ∷ []
since_skip = refl

since_0 : values (since (Some 0) (negation pass) skips) level ≡ false ∷ true ∷ true ∷ false ∷ true ∷ []
since_0 = refl

since_1 : values (since (Some 1) (negation skips) tests) level ≡ false ∷ false ∷ true ∷ true ∷ false ∷ []
since_1 = refl

since_1_met : values (since (Some 1) (negation pass) pass) level ≡ true ∷ true ∷ true ∷ true ∷ true ∷ []
since_1_met = refl

since_0_met : values (since (Some 0) (negation pass) pass) level ≡ true ∷ false ∷ false ∷ true ∷ false ∷ []
since_0_met = refl
