-- Lines and files of watches, worked out.
use Rattle.std.proofs.Common.{◌≡◌, ◌≢◌, refl, ap, subst, ℕ, zero, suc, ◌≤◌, List, [], ◌∷◌, ◌++◌, length, replicate, Some, None, arith}
use Rattle.std.specs.Prelude.{codes, eqb}
use Rattle.std.specs.List.{All, slice_split}
use Rattle.std.proofs.lemmas.List.{length-replicate}
use Rattle.std.proofs.lemmas.List.Elements.{All-replicate}
use Rattle.pz_lines.specs.Words.{Words}
use Rattle.pz_lines.specs.Identifiers.{is_identifier}
use Rattle.pz_watch.specs.declared.atoms.Atom.TheVariants.{Message, Kind, Pass}
use Rattle.pz_watch.specs.Formulas.{Formula, line, negation, once}
use Rattle.pz_watch.specs.Words.{words_of, CanBeWritten}
use Rattle.pz_watch.specs.Files.{NamedFormula, watch_text, watches_text, IsWatch, AreWatches, IsRefusedAt, too_many}
use Rattle.pz_watch.specs.devices.Making.{read}
use Rattle.pz_watch.proofs.WatchLines.{never_read, no_colon, no_front, no_formula, whole_none, whole_rest}

-- what is the line of no watch
abbrev IsNone : List ℕ → Type 0
IsNone text = (w : NamedFormula) → IsWatch is_identifier w → text ≢ watch_text w

no_such_formula : (text : List ℕ) (name : List ℕ) (ws : Words) → slice_split (λ b. eqb b 32) text ≡ name ∷ codes ":" ∷ ws → read (length ws) ws ≡ None → IsNone text
no_such_formula text name ws cut none =
    never_read text (slice_split (λ b. eqb b 32) text) refl
    (no_formula (slice_split (λ b. eqb b 32) text) (codes ":" ∷ ws) ws name (codes ":") cut refl (whole_none (length ws) ws refl none))

-- two blanks
two_blanks : IsNone (codes "a : not  pass")
unfolding read
two_blanks = no_such_formula (codes "a : not  pass") (codes "a") (codes "not" ∷ [] ∷ codes "pass" ∷ []) refl refl

-- a blank at the end
blank_behind : IsNone (codes "a : pass ")
unfolding read
blank_behind =
    never_read (codes "a : pass ") (codes "a" ∷ codes ":" ∷ codes "pass" ∷ [] ∷ []) refl
    (no_formula (codes "a" ∷ codes ":" ∷ codes "pass" ∷ [] ∷ []) (codes ":" ∷ codes "pass" ∷ [] ∷ []) (codes "pass" ∷ [] ∷ []) (codes "a") (codes ":") refl refl
    (whole_rest 2 (codes "pass" ∷ [] ∷ []) ([] ∷ []) (line Pass) refl refl refl))

-- a tab and a CR end no word
tab : IsNone (codes "a : not\tpass")
unfolding read
tab = no_such_formula (codes "a : not\tpass") (codes "a") (codes "not\tpass" ∷ []) refl refl

return : IsNone (codes "a : pass\r")
unfolding read
return = no_such_formula (codes "a : pass\r") (codes "a") (codes "pass\r" ∷ []) refl refl

-- an LF ends no word either, so it is left out of what is read
line_end : IsNone (codes "a : pass\n")
unfolding read
line_end = no_such_formula (codes "a : pass\n") (codes "a") (codes "pass\n" ∷ []) refl refl

-- a part too few
too_few : IsNone (codes "a : and pass")
unfolding read
too_few = no_such_formula (codes "a : and pass") (codes "a") (codes "and" ∷ codes "pass" ∷ []) refl refl

-- a name that is reserved in models, and no colon
reserved : IsNone (codes "par : pass")
reserved =
    never_read (codes "par : pass") (codes "par" ∷ codes ":" ∷ codes "pass" ∷ []) refl
    (no_front (codes "par" ∷ codes ":" ∷ codes "pass" ∷ []) (codes ":" ∷ codes "pass" ∷ []) (codes "pass" ∷ []) (codes "par") (codes ":") refl refl refl)

glued : IsNone (codes "a: pass")
glued =
    never_read (codes "a: pass") (codes "a:" ∷ codes "pass" ∷ []) refl
    (no_front (codes "a:" ∷ codes "pass" ∷ []) (codes "pass" ∷ []) [] (codes "a:") (codes "pass") refl refl refl)

alone : IsNone (codes "a")
alone = never_read (codes "a") (codes "a" ∷ []) refl (no_colon (codes "a" ∷ []) [] (codes "a") refl refl)

-- a keyword of formulas may be one of their words
m_not : read 3 (codes "message" ∷ codes "not" ∷ []) ≡ Some (line (Message (codes "not")), [])
unfolding read
m_not = refl

bounded : read 4 (codes "once" ∷ codes "*" ∷ codes "kind" ∷ codes "skip" ∷ []) ≡ Some (once None (line (Kind (codes "skip"))), [])
unfolding read
bounded = refl

-- Formulas of 1,000 words

nots : ℕ → Formula
nots zero = line Pass
nots (suc n) = negation (nots n)

count : (n : ℕ) → length (words_of (nots n)) ≡ suc n
unfolding nots
count zero = refl
count (suc n) = ap (λ (k : ℕ). suc k) (count n)

written : (n : ℕ) → CanBeWritten (nots n)
unfolding nots
written zero = tt
written (suc n) = written n

a_thousand : IsWatch is_identifier (record { name = codes "a"; formula = nots 999 })
a_thousand =
    let words : length (words_of (nots 999)) ≡ suc 999 = count 999 in
    record { named = refl; written = written 999; few = omega arith }

one_more : IsWatch is_identifier (record { name = codes "a"; formula = nots 1000 }) → ⊥
one_more is =
    let words : length (words_of (nots 1000)) ≡ suc 1000 = count 1000 in
    let few : length (words_of (nots 1000)) ≤ 1000 = is.few in
    absurd (omega arith)

-- Files of 100 lines and of 101

module _ (w : NamedFormula) (is : IsWatch is_identifier w) where
  some_more : (n : ℕ) → replicate (suc n) w ≢ []
  some_more n = λ e. cc

  a_hundred : AreWatches is_identifier (watches_text (replicate 100 w)) (replicate 100 w)
  a_hundred =
      let count : length (replicate 100 w) ≡ 100 = length-replicate 100 w in
      record { lines = refl; each = All-replicate (IsWatch is_identifier) 100 w is; some = some_more 99; few = omega arith }

  a_hundred_and_one : (more : List ℕ) → more ≢ [] → IsRefusedAt is_identifier (watches_text (replicate 100 w) ++ more) 101
  a_hundred_and_one more some =
      let count : length (replicate 100 w) ≡ 100 = length-replicate 100 w in
      too_many_of (replicate 100 w) (All-replicate (IsWatch is_identifier) 100 w is) count
    where
      too_many_of : (ws : List NamedFormula) → All (IsWatch is_identifier) ws → length ws ≡ 100 → IsRefusedAt is_identifier (watches_text ws ++ more) 101
      too_many_of ws each full =
          let at : suc (length ws) ≡ 101 = omega arith in
          subst (IsRefusedAt is_identifier (watches_text ws ++ more)) at (too_many ws more each full refl some)
