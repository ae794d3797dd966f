-- An operator that is read from the front of words is the only one that stands there.
use Rattle.std.proofs.Common.{◌≡◌, refl, sym, ap, subst, ◌∙◌, ℕ, ◌<◌, ◌^◌, Bool, true, false, List, [], ◌∷◌, ◌++◌, Option, Some, None, arith}
use Rattle.std.specs.Prelude.{codes, if◌then◌else◌, bytes_eq, option_map}
use Rattle.std.specs.Fmt.{decimal}
use Rattle.std.specs.Str.Parse.{IsNumeral}
use Rattle.std.specs.Int.{IsInRange}
use Rattle.std.proofs.Common.{get_or}
use Rattle.std.proofs.lemmas.Fmt.{decimal_is_IsNumeral}
use Rattle.std.proofs.lemmas.Str.Parse.{digit_at}
use Rattle.std.proofs.lemmas.Slice.Eq.{bytes_eq-Decides}
use Rattle.pz_watch.specs.declared.atoms.Atom.TheVariants as atom
use Rattle.pz_watch.specs.declared.operators.Said.{Said}
use Rattle.pz_watch.specs.declared.operators.Said.TheVariants.{Message, From, To, Kind, At}
use Rattle.pz_watch.specs.declared.operators.Keyword.{Keyword}
use Rattle.pz_watch.specs.declared.operators.Keyword.TheVariants as word
use Rattle.pz_watch.specs.declared.operators.One.TheVariants as one
use Rattle.pz_watch.specs.declared.operators.Two.TheVariants as two
use Rattle.pz_watch.specs.declared.operators.Operator.{Operator}
use Rattle.pz_watch.specs.declared.operators.Operator.TheVariants.{Line, One, Two}
use Rattle.pz_lexer.specs.Spellings.{spelled}
use Rattle.pz_lines.specs.Words.{Words, IsWord, is_word}
use Rattle.pz_lines.specs.Numbers.{only_if, number_of}
use Rattle.pz_lines.proofs.Numerals.{found, only_if_true, Tells, tells}
use Rattle.pz_watch.specs.Formulas.{Bound}
use Rattle.pz_watch.specs.Words.{IsLineOfWords, IsBound, bound_word, line_words}
use Rattle.pz_watch.specs.devices.Operators.{Read, bound_in, keywords, said_of, named_at, with_bound, operator_of, by_keyword, operator_in}

-- the words of an operator
abbrev pub operator_words : Operator → Words
operator_words (Line a) = line_words a
operator_words (One one.Not) = codes "not" ∷ []
operator_words (One one.Before) = codes "before" ∷ []
operator_words (One (one.Once b)) = codes "once" ∷ bound_word b ∷ []
operator_words (One (one.Always b)) = codes "always" ∷ bound_word b ∷ []
operator_words (Two two.And) = codes "and" ∷ []
operator_words (Two two.Or) = codes "or" ∷ []
operator_words (Two (two.Since b)) = codes "since" ∷ bound_word b ∷ []

abbrev pub IsWritten : Operator → Type 0
IsWritten (Line a) = IsLineOfWords a
IsWritten (One one.Not) = Unit {0}
IsWritten (One one.Before) = Unit {0}
IsWritten (One (one.Once b)) = IsBound b
IsWritten (One (one.Always b)) = IsBound b
IsWritten (Two two.And) = Unit {0}
IsWritten (Two two.Or) = Unit {0}
IsWritten (Two (two.Since b)) = IsBound b

-- Bounds

not_star : (n : ℕ) → n < 2 ^ 64 → (v : Bool) → bytes_eq (decimal n) (codes "*") ≡ v → v ≡ false
not_star n is false e = refl
not_star n is true e =
    let same : decimal n ≡ codes "*" = (bytes_eq-Decides (decimal n) (codes "*")).0 e in
    let numeral : IsNumeral 10 (decimal n) = (decimal_is_IsNumeral n is).0 in
    let digit : IsInRange 48 57 (get_or (decimal n) 0 0) = digit_at (decimal n) 0 numeral.1 numeral.0 in
    let star : get_or (decimal n) 0 0 ≡ 42 = ap (λ (w : List ℕ). get_or w 0 0) same in
    absurd (omega (arith, digit, star))

-- the word of a bound is read as the bound
pub read_bound : (b : Bound) → IsBound b → bound_in (bound_word b) ≡ Some b
read_bound None is = refl
read_bound (Some n) is =
    ap (λ (v : Bool). if v then Some None else option_map (λ (k : ℕ). Some k) (number_of (decimal n))) (not_star n is (bytes_eq (decimal n) (codes "*")) refl)
    ∙ ap (λ (o : Option ℕ). option_map (λ (k : ℕ). Some k) o) (found n (decimal n) (record { digits = refl; short = is }))

abbrev Bounds : List ℕ → Option Bound → Type 0
Bounds w None = Unit {0}
Bounds w (Some b) = (w ≡ bound_word b) × IsBound b

-- a bound is read from its word alone
bound_told : (w : List ℕ) → Bounds w (bound_in w)
bound_told w = by (bytes_eq w (codes "*")) (number_of w) (bytes_eq-Decides w (codes "*")).0 (tells w)
  where
    by : (v : Bool) (o : Option ℕ) → (v ≡ true → w ≡ codes "*") → Tells w o → Bounds w (if v then Some None else option_map (λ (k : ℕ). Some k) o)
    by true o star told = (star refl, tt)
    by false None star told = tt
    by false (Some n) star told = (told.digits, told.short)

-- Words

word_is : (w : List ℕ) → is_word w ≡ true → IsWord w
word_is [] e = absurd cc
word_is (b ∷ bs) e = record { some = λ (none : b ∷ bs ≡ []). cc; inside = e }

is_so : (w : List ℕ) → IsWord w → is_word w ≡ true
is_so [] is = absurd (is.some refl)
is_so (b ∷ bs) is = is.inside

-- Keywords

abbrev keyword_text : Keyword → List ℕ
keyword_text (word.Said Message) = codes "message"
keyword_text (word.Said From) = codes "from"
keyword_text (word.Said To) = codes "to"
keyword_text (word.Said Kind) = codes "kind"
keyword_text (word.Said At) = codes "at"
keyword_text word.Pass = codes "pass"
keyword_text word.Not = codes "not"
keyword_text word.And = codes "and"
keyword_text word.Or = codes "or"
keyword_text word.Before = codes "before"
keyword_text word.Once = codes "once"
keyword_text word.Always = codes "always"
keyword_text word.Since = codes "since"

abbrev Tell : List (List ℕ × Keyword) → Type 0
Tell [] = Unit {0}
Tell (entry ∷ table) = (entry.0 ≡ keyword_text entry.1) × Tell table

they_tell : Tell keywords
they_tell = (refl, (refl, (refl, (refl, (refl, (refl, (refl, (refl, (refl, (refl, (refl, (refl, (refl, tt)))))))))))))

abbrev Spells : List ℕ → Option Keyword → Type 0
Spells w None = Unit {0}
Spells w (Some k) = w ≡ keyword_text k

by_entry : (w : List ℕ) (v : Bool) (k : Keyword) (rest : Option Keyword) → (v ≡ true → w ≡ keyword_text k) → Spells w rest → Spells w (if v then Some k else rest)
by_entry w true k rest same later = same refl
by_entry w false k rest same later = later

spelled_so : (w : List ℕ) (table : List (List ℕ × Keyword)) → Tell table → Spells w (spelled table w)
spelled_so w [] tell = tt
spelled_so w (entry ∷ table) tell =
    by_entry
    w
    (bytes_eq entry.0 w)
    entry.1
    (spelled table w)
    (λ same. sym ((bytes_eq-Decides entry.0 w).0 same) ∙ tell.0)
    (spelled_so w table tell.1)

-- Operators

-- what is read is what stands there
abbrev pub Stands : Words → Read Operator → Type 0
Stands ws None = Unit {0}
Stands ws (Some p) = (ws ≡ operator_words p.0 ++ p.1) × IsWritten p.0

named_stands : (said : Said) (ws : Words) → Stands (keyword_text (word.Said said) ∷ ws) (named_at said ws)
named_stands said [] = tt
named_stands said (w ∷ ws) = by (is_word w) (word_is w) said
  where
    by : (v : Bool) → (v ≡ true → IsWord w) → (said : Said) → Stands (keyword_text (word.Said said) ∷ w ∷ ws) (only_if v (Line (said_of said w), ws))
    by false is said = tt
    by true is Message = (refl, is refl)
    by true is From = (refl, is refl)
    by true is To = (refl, is refl)
    by true is Kind = (refl, is refl)
    by true is At = (refl, is refl)

bound_stands : (make : Bound → Operator) (text : List ℕ) (ws : Words) → ((b : Bound) → operator_words (make b) ≡ text ∷ bound_word b ∷ []) → ((b : Bound) → IsBound b → IsWritten (make b)) → Stands (text ∷ ws) (with_bound make ws)
bound_stands make text [] words written = tt
bound_stands make text (w ∷ ws) words written = by (bound_in w) (bound_told w)
  where
    by : (o : Option Bound) → Bounds w o → Stands (text ∷ w ∷ ws) (option_map (λ (p : Bound × Words). (make p.0, p.1)) (option_map (λ (b : Bound). (b, ws)) o))
    by None told = tt
    by (Some b) told = (ap (λ (v : List ℕ). text ∷ v ∷ ws) told.0 ∙ ap (λ (us : Words). us ++ ws) (sym (words b)), written b told.1)

of_stands : (k : Keyword) (ws : Words) → Stands (keyword_text k ∷ ws) (operator_of k ws)
of_stands (word.Said said) ws = named_stands said ws
of_stands word.Pass ws = (refl, tt)
of_stands word.Not ws = (refl, tt)
of_stands word.And ws = (refl, tt)
of_stands word.Or ws = (refl, tt)
of_stands word.Before ws = (refl, tt)
of_stands word.Once ws = bound_stands (λ (b : Bound). One (one.Once b)) (codes "once") ws (λ b. refl) (λ b is. is)
of_stands word.Always ws = bound_stands (λ (b : Bound). One (one.Always b)) (codes "always") ws (λ b. refl) (λ b is. is)
of_stands word.Since ws = bound_stands (λ (b : Bound). Two (two.Since b)) (codes "since") ws (λ b. refl) (λ b is. is)

pub operator_stands : (ws : Words) → Stands ws (operator_in ws)
operator_stands [] = tt
operator_stands (w ∷ ws) = by (spelled keywords w) (spelled_so w keywords they_tell)
  where
    by : (o : Option Keyword) → Spells w o → Stands (w ∷ ws) (by_keyword o ws)
    by None told = tt
    by (Some k) told = subst (λ (v : List ℕ). Stands (v ∷ ws) (operator_of k ws)) (sym told) (of_stands k ws)

-- what stands there is read
named_read : (w : List ℕ) (o : Operator) (r : Words) → IsWord w → only_if {A = Operator × Words} (is_word w) (o, r) ≡ Some (o, r)
named_read w o r is =
    let both : Operator × Words = (o, r) in
    only_if_true (is_word w) both (is_so w is)

bound_at_read : (make : Bound → Operator) (b : Bound) (r : Words) → IsBound b → with_bound make (bound_word b ∷ r) ≡ Some (make b, r)
bound_at_read make b r is =
    ap (λ (o : Option Bound). option_map (λ (p : Bound × Words). (make p.0, p.1)) (option_map (λ (c : Bound). (c, r)) o)) (read_bound b is)

pub operator_read : (o : Operator) (r : Words) → IsWritten o → operator_in (operator_words o ++ r) ≡ Some (o, r)
operator_read (Line (atom.Message w)) r is = named_read w (Line (atom.Message w)) r is
operator_read (Line (atom.From w)) r is = named_read w (Line (atom.From w)) r is
operator_read (Line (atom.To w)) r is = named_read w (Line (atom.To w)) r is
operator_read (Line (atom.Kind w)) r is = named_read w (Line (atom.Kind w)) r is
operator_read (Line (atom.At w)) r is = named_read w (Line (atom.At w)) r is
operator_read (Line atom.Pass) r is = refl
operator_read (One one.Not) r is = refl
operator_read (One one.Before) r is = refl
operator_read (One (one.Once b)) r is = bound_at_read (λ (c : Bound). One (one.Once c)) b r is
operator_read (One (one.Always b)) r is = bound_at_read (λ (c : Bound). One (one.Always c)) b r is
operator_read (Two two.And) r is = refl
operator_read (Two two.Or) r is = refl
operator_read (Two (two.Since b)) r is = bound_at_read (λ (c : Bound). Two (two.Since c)) b r is
