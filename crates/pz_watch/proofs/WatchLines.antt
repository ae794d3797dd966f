-- The words of a watch, and its line.
use Rattle.std.proofs.Common.{◌≡◌, ◌≢◌, refl, sym, ap, subst, ◌∙◌, append-nil, ℕ, ◌≤◌, Bool, true, false, ◌&&◌, List, [], ◌∷◌, ◌++◌, length, Some, None, arith}
use Rattle.std.specs.Prelude.{codes, bytes_eq, nat_le, eqb}
use Rattle.std.specs.List.{join_with_byte, slice_split}
use Rattle.std.proofs.lemmas.Bool.{leb-true, le-leb}
use Rattle.std.proofs.lemmas.Slice.Eq.{bytes_eq-Decides}
use Rattle.std.proofs.lemmas.List.Splits.{join_with_byte-slice_split}
use Rattle.pz_lines.specs.Words.{Words, over}
use Rattle.pz_lines.specs.Identifiers.{is_identifier}
use Rattle.pz_lines.proofs.Cutting.{lacks_blank, each_lacks_blank, joins}
use Rattle.pz_lines.proofs.IdentifierWords.{identifiers_are_words}
use Rattle.pz_lines.proofs.Splits.{split_lacks, some_cut}
use Rattle.pz_watch.specs.declared.monitor.Monitor.{Monitor}
use Rattle.pz_watch.specs.declared.watch.Watch.{Watch}
use Rattle.pz_watch.specs.Formulas.{Formula}
use Rattle.pz_watch.specs.Words.{words_of, CanBeWritten}
use Rattle.pz_watch.specs.Files.{NamedFormula, watch_text, IsWatch}
use Rattle.pz_watch.specs.devices.Standing.{StandsFor, name_in}
use Rattle.pz_watch.specs.devices.Operators.{Read}
use Rattle.pz_watch.specs.devices.Making.{read, ReadsAs}
use Rattle.pz_watch.specs.devices.Taking.{is_front, IsOfFormula, AreOfNoFormula, IsMadeFrom, AreOfNoWatch, IsReadFrom}
use Rattle.pz_watch.proofs.FormulaWords.{some_words, StandsThere, read_stands, reads}
use Rattle.pz_watch.proofs.Inside.{words_inside}

-- The formula

over_nothing : (ws : Words) → over ws ≡ true → ws ≡ []
over_nothing [] e = refl
over_nothing (w ∷ ws) e = absurd cc

pub whole_found : (n : ℕ) (ws rest : Words) (m : Monitor) → ReadsAs (read n ws) m rest → over rest ≡ true → IsOfFormula ws m
whole_found n ws rest m told end =
    let there : (ws ≡ words_of told.0 ++ rest) × CanBeWritten told.0 = subst (StandsThere ws) told.1.0 (read_stands n ws) in
    record {
      formula = told.0;
      written = there.1;
      are_words = there.0 ∙ ap (λ (r : Words). words_of told.0 ++ r) (over_nothing rest end) ∙ append-nil (words_of told.0);
      fresh = told.1.1;
    }

read_whole : (n : ℕ) (ws : Words) → n ≡ length ws → (g : Formula) → CanBeWritten g → ws ≡ words_of g → read n ws ≡ Some (g, [])
read_whole n ws count g written e =
    let long : length ws ≡ length (words_of g) = ap (λ (v : Words). length v) e in
    ap (λ (v : Words). read n v) (e ∙ sym (append-nil (words_of g))) ∙ reads g n [] written (omega arith)

rest_of : Read Formula → Words
rest_of None = []
rest_of (Some p) = p.1

is_there : Read Formula → Bool
is_there None = false
is_there (Some p) = true

same_rest : (f g : Formula) (r s : Words) (found : Read Formula) → found ≡ Some (f, r) → found ≡ Some (g, s) → r ≡ s
unfolding rest_of
same_rest f g r s found one other = ap rest_of (sym one ∙ other)

false_true : false ≡ true → ⊥
false_true e = cc

not_there : (g : Formula) (s : Words) (found : Read Formula) → found ≡ None → found ≡ Some (g, s) → ⊥
unfolding is_there
not_there g s found none some = false_true (ap is_there (sym none ∙ some))

pub whole_rest : (n : ℕ) (ws rest : Words) (f : Formula) → n ≡ length ws → read n ws ≡ Some (f, rest) → over rest ≡ false → AreOfNoFormula ws
whole_rest n ws rest f count told more = λ g written e.
    (let none : rest ≡ [] = same_rest f g rest [] (read n ws) told (read_whole n ws count g written e) in
    false_true (sym more ∙ ap over none))

pub whole_more : (n : ℕ) (ws rest : Words) (m : Monitor) → n ≡ length ws → ReadsAs (read n ws) m rest → over rest ≡ false → AreOfNoFormula ws
whole_more n ws rest m count told more = whole_rest n ws rest told.0 count told.1.0 more

pub whole_none : (n : ℕ) (ws : Words) → n ≡ length ws → read n ws ≡ None → AreOfNoFormula ws
whole_none n ws count none = λ g written e. not_there g [] (read n ws) none (read_whole n ws count g written e)

both_true : (a b : Bool) → a ≡ true → b ≡ true → a && b ≡ true
both_true true b ea eb = eb
both_true false b ea eb = ea

and_split : (a b : Bool) → a && b ≡ true → (a ≡ true) × (b ≡ true)
and_split true b e = (refl, e)
and_split false b e = absurd cc

-- The words of a watch

front_parts : (name colon : List ℕ) (n : ℕ) → is_front name colon n ≡ true → (is_identifier name ≡ true) × (colon ≡ codes ":") × (n ≤ 1000)
front_parts name colon n e =
    let one = and_split (is_identifier name) (bytes_eq colon (codes ":") && nat_le n 1000) e in
    let two = and_split (bytes_eq colon (codes ":")) (nat_le n 1000) one.1 in
    (one.0, (bytes_eq-Decides colon (codes ":")).0 two.0, leb-true n 1000 two.1)

pub made_from : (ws us vs : Words) (name colon : List ℕ) (watch : Watch) (m : Monitor) → ws ≡ name ∷ us → us ≡ colon ∷ vs → is_front name colon (length vs) ≡ true → (told : IsOfFormula vs m) → name_in watch ≡ name → StandsFor watch told.formula [] → IsMadeFrom ws watch
made_from ws us vs name colon watch m one two front told named stands =
    let parts = front_parts name colon (length vs) front in
    let long : length vs ≡ length (words_of told.formula) = ap (λ (v : Words). length v) told.are_words in
    let short : length vs ≤ 1000 = parts.2 in
    record {
      named = record { name = name; formula = told.formula };
      is_watch = record { named = parts.0; written = told.written; few = omega arith };
      are_words = one ∙ ap (λ (v : Words). name ∷ v) (two ∙ ap (λ (x : List ℕ). x ∷ vs) parts.1 ∙ ap (λ (v : Words). codes ":" ∷ v) told.are_words);
      stands = (named, stands);
    }

pub no_name : (ws : Words) → ws ≡ [] → AreOfNoWatch ws
no_name ws none = λ w is e. (let never : [] ≡ w.name ∷ codes ":" ∷ words_of w.formula = sym none ∙ e in cc)

pub no_colon : (ws us : Words) (name : List ℕ) → ws ≡ name ∷ us → us ≡ [] → AreOfNoWatch ws
no_colon ws us name one none = λ w is e.
    (let never : name ∷ [] ≡ w.name ∷ (codes ":" ∷ words_of w.formula) = ap (λ (v : Words). name ∷ v) (sym none) ∙ sym one ∙ e in
    let short : [] ≡ codes ":" ∷ words_of w.formula = cc in
    cc)

module _ (ws us vs : Words) (name colon : List ℕ) (one : ws ≡ name ∷ us) (two : us ≡ colon ∷ vs) where
  parts_of : (w : NamedFormula) → ws ≡ w.name ∷ codes ":" ∷ words_of w.formula → (name ≡ w.name) × (colon ≡ codes ":") × (vs ≡ words_of w.formula)
  parts_of w e =
      let all : name ∷ (colon ∷ vs) ≡ w.name ∷ (codes ":" ∷ words_of w.formula) = ap (λ (v : Words). name ∷ v) (sym two) ∙ sym one ∙ e in
      let first : name ≡ w.name = cc in
      let rest : colon ∷ vs ≡ codes ":" ∷ words_of w.formula = cc in
      let second : colon ≡ codes ":" = cc in
      let last : vs ≡ words_of w.formula = cc in
      (first, second, last)

  pub no_front : is_front name colon (length vs) ≡ false → AreOfNoWatch ws
  no_front none = λ w is e.
      (let parts = parts_of w e in
      let long : length vs ≡ length (words_of w.formula) = ap (λ (v : Words). length v) parts.2 in
      let few : length (words_of w.formula) ≤ 1000 = is.few in
      let yes : is_front name colon (length vs) ≡ true = both_true
      (is_identifier name)
      (bytes_eq colon (codes ":") && nat_le (length vs) 1000)
      (ap (λ (x : List ℕ). is_identifier x) parts.0 ∙ is.named)
      (both_true (bytes_eq colon (codes ":")) (nat_le (length vs) 1000) ((bytes_eq-Decides colon (codes ":")).1 parts.1) (le-leb (length vs) 1000 (omega arith))) in
      let never : false ≡ true = sym none ∙ yes in
      cc)

  pub no_formula : AreOfNoFormula vs → AreOfNoWatch ws
  no_formula none = λ w is e. none w.formula is.written (parts_of w e).2

-- The line

line_of : (name : List ℕ) (ws : Words) → 1 ≤ length ws → join_with_byte 32 (name ∷ codes ":" ∷ ws) ≡ name ++ (codes " : " ++ join_with_byte 32 ws)
line_of name [] some = absurd (omega arith)
line_of name (w ∷ ws) some = refl

watch_line : (w : NamedFormula) → join_with_byte 32 (w.name ∷ codes ":" ∷ words_of w.formula) ≡ watch_text w
watch_line w = line_of w.name (words_of w.formula) (some_words w.formula)

abbrev cuts : ℕ → List ℕ → Words
cuts c t = slice_split (λ b. eqb b c) t

pub read_from : (line : List ℕ) (parts : Words) (watch : Watch) → parts ≡ slice_split (λ b. eqb b 32) line → IsMadeFrom parts watch → IsReadFrom line watch
read_from line parts watch cut made = record {
  named = made.named;
  is_watch = made.is_watch;
  is_text = sym (join_with_byte-slice_split 32 line) ∙ ap (λ (ps : Words). join_with_byte 32 ps) (sym cut ∙ made.are_words) ∙ watch_line made.named;
  stands = made.stands;
}

pub never_read : (line : List ℕ) (parts : Words) → parts ≡ slice_split (λ b. eqb b 32) line → AreOfNoWatch parts → (w : NamedFormula) → IsWatch is_identifier w → line ≢ watch_text w
never_read line parts cut none w is = λ (e : line ≡ watch_text w).
    (let words : Words = w.name ∷ codes ":" ∷ words_of w.formula in
    let text : join_with_byte 32 (cuts 32 line) ≡ join_with_byte 32 (w.name ∷ codes ":" ∷ words_of w.formula) =
    join_with_byte-slice_split 32 line ∙ e ∙ sym (watch_line w) in
    let same : cuts 32 line ≡ w.name ∷ codes ":" ∷ words_of w.formula =
    joins
    (cuts 32 line)
    (w.name ∷ codes ":" ∷ words_of w.formula)
    (some_cut 32 line (cuts 32 line) refl)
    (omega arith)
    (split_lacks 32 line)
    (lacks_blank w.name (identifiers_are_words w.name is.named).inside, ((λ (c : 58 ≡ 32). omega arith, tt), each_lacks_blank (words_of w.formula) (words_inside w.formula is.written)))
    text in
    none w is (cut ∙ same))
