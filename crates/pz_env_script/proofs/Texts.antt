-- A text is one script at most, or it is none, from one line on.
use Rattle.std.proofs.Common.{◌≡◌, ◌≢◌, refl, sym, ap, subst, ◌∙◌, append_assoc, append-nil, ℕ, ◌≤◌, List, [], ◌∷◌, ◌++◌, length, arith}
use Rattle.pz_lines.proofs.Cutting.{cut}
use Rattle.pz_env_script.specs.declared.entry.Entry.{Entry}
use Rattle.pz_env_script.specs.Entries.{IsEntry}
use Rattle.pz_env_script.specs.Scripts.{lines_text, AreEntries, IsScript, BeginsWithNone, IsMalformedAt, empty, no_entry, too_many}
use Rattle.pz_env_script.proofs.Lines.{one_entry, lacks_an_end}

abbrev Texts : Type 0
Texts = List (List ℕ)

split : (line : List ℕ) (lines : Texts) (r : List ℕ) → lines_text (line ∷ lines) ++ r ≡ line ++ (10 ∷ (lines_text lines ++ r))
split line lines r = append_assoc line (10 ∷ lines_text lines) r

-- no line is nothing
pub some_bytes : (line rest : List ℕ) → [] ≡ line ++ (10 ∷ rest) → ⊥
some_bytes [] rest e = cc
some_bytes (b ∷ bs) rest e = cc

nothing : (a b : List ℕ) → [] ≡ a ++ b → b ≡ []
nothing [] b e = sym e
nothing (x ∷ a) b e = absurd cc

-- lines of entries that begin the same text are the same lines, and the entries are the same
first_line : (l k r s : List ℕ) (d e : Entry) → IsEntry l d → IsEntry k e → l ++ (10 ∷ r) ≡ k ++ (10 ∷ s) → (d ≡ e) × (r ≡ s)
first_line l k r s d e one two same =
    let parts = cut 10 l k r s (lacks_an_end l d one) (lacks_an_end k e two) same in
    (one_entry k d e (subst (λ (t : List ℕ). IsEntry t d) parts.0 one) two, parts.1)

both_split : (l k : List ℕ) (ls ks : Texts) (r s : List ℕ) → lines_text (l ∷ ls) ++ r ≡ lines_text (k ∷ ks) ++ s → l ++ (10 ∷ (lines_text ls ++ r)) ≡ k ++ (10 ∷ (lines_text ks ++ s))
both_split l k ls ks r s e = sym (split l ls r) ∙ e ∙ split k ks s

-- where no further line is one, there are not more entries
no_more : (ls ks : Texts) (ds es : List Entry) (r s : List ℕ) → AreEntries ls ds → AreEntries ks es → lines_text ls ++ r ≡ lines_text ks ++ s → BeginsWithNone r → length es ≤ length ds
no_more ls [] ds [] r s are is e none = omega arith
no_more ls [] ds (x ∷ es) r s are is e none = absurd is
no_more ls (k ∷ ks) ds [] r s are is e none = absurd is
no_more [] (k ∷ ks) [] (x ∷ es) r s are is e none =
    absurd (none k (lines_text ks ++ s) x is.0 (e ∙ split k ks s))
no_more [] (k ∷ ks) (y ∷ ds) (x ∷ es) r s are is e none = absurd are
no_more (l ∷ ls) (k ∷ ks) [] (x ∷ es) r s are is e none = absurd are
no_more (l ∷ ls) (k ∷ ks) (y ∷ ds) (x ∷ es) r s are is e none =
    let parts =
    first_line l k (lines_text ls ++ r) (lines_text ks ++ s) y x are.0 is.0 (both_split l k ls ks r s e)
    in
    let fewer : length es ≤ length ds = no_more ls ks ds es r s are.1 is.1 parts.1 none in
    omega arith

-- as many entries are the same ones
same_lists : (ls ks : Texts) (ds es : List Entry) (r s : List ℕ) → AreEntries ls ds → AreEntries ks es → lines_text ls ++ r ≡ lines_text ks ++ s → length ds ≡ length es → (ds ≡ es) × (r ≡ s)
same_lists [] [] [] [] r s are is e count = (refl, e)
same_lists [] ks (y ∷ ds) es r s are is e count = absurd are
same_lists ls [] ds (x ∷ es) r s are is e count = absurd is
same_lists (l ∷ ls) ks [] es r s are is e count = absurd are
same_lists ls (k ∷ ks) ds [] r s are is e count = absurd is
same_lists [] (k ∷ ks) [] (x ∷ es) r s are is e count = absurd (omega arith)
same_lists (l ∷ ls) [] (y ∷ ds) [] r s are is e count = absurd (omega arith)
same_lists (l ∷ ls) (k ∷ ks) (y ∷ ds) (x ∷ es) r s are is e count =
    let parts =
    first_line l k (lines_text ls ++ r) (lines_text ks ++ s) y x are.0 is.0 (both_split l k ls ks r s e)
    in
    let rest = same_lists ls ks ds es r s are.1 is.1 parts.1 (omega arith) in
    (ap (λ (d : Entry). d ∷ ds) parts.0 ∙ ap (λ (xs : List Entry). x ∷ xs) rest.0, rest.1)

at_end : BeginsWithNone []
at_end line rest entry is e = some_bytes line rest e

whole : (text : List ℕ) (es : List Entry) (is : IsScript text es) → lines_text is.lines ++ [] ≡ text
whole text es is = append-nil (lines_text is.lines) ∙ sym is.is_text

pub one_script : (text : List ℕ) (ds es : List Entry) → IsScript text ds → IsScript text es → ds ≡ es
one_script text ds es is are =
    let e : lines_text is.lines ++ [] ≡ lines_text are.lines ++ [] = whole text ds is ∙ sym (whole text es are) in
    let one : length es ≤ length ds = no_more is.lines are.lines ds es [] [] is.are are.are e at_end in
    let two : length ds ≤ length es = no_more are.lines is.lines es ds [] [] are.are is.are (sym e) at_end in
    (same_lists is.lines are.lines ds es [] [] is.are are.are e (omega arith)).0

some_text : (ls : Texts) (es : List Entry) → AreEntries ls es → es ≢ [] → [] ≡ lines_text ls → ⊥
some_text [] [] are some e = some refl
some_text [] (x ∷ es) are some e = are
some_text (l ∷ ls) [] are some e = are
some_text (l ∷ ls) (x ∷ es) are some e = some_bytes l (lines_text ls) e

pub never_both : (text : List ℕ) (es : List Entry) (at : ℕ) → IsScript text es → IsMalformedAt text at → ⊥
never_both text es _ is (empty none) = some_text is.lines es is.are is.some (sym none ∙ is.is_text)
never_both text es _ is (no_entry ks ds rest are few lines more none) =
    let e : lines_text is.lines ++ [] ≡ lines_text ks ++ rest = whole text es is ∙ lines in
    let one : length ds ≤ length es = no_more is.lines ks es ds [] rest is.are are e at_end in
    let two : length es ≤ length ds = no_more ks is.lines ds es rest [] are is.are (sym e) none in
    more (sym (same_lists is.lines ks es ds [] rest is.are are e (omega arith)).1)
never_both text es _ is (too_many ks ds rest are count lines more) =
    let e : lines_text is.lines ++ [] ≡ lines_text ks ++ rest = whole text es is ∙ lines in
    let one : length ds ≤ length es = no_more is.lines ks es ds [] rest is.are are e at_end in
    let most : length es ≤ 100000 = is.few in
    let full : length ds ≡ 100000 = count in
    more (sym (same_lists is.lines ks es ds [] rest is.are are e (omega arith)).1)

pub one_line : (text : List ℕ) (l k : ℕ) → IsMalformedAt text l → IsMalformedAt text k → l ≡ k
one_line text _ _ (empty none) (empty nil) = refl
one_line text _ _ (empty none) (no_entry ks es rest are few lines more bad) =
    absurd (more (nothing (lines_text ks) rest (sym none ∙ lines)))
one_line text _ _ (empty none) (too_many ks es rest are count lines more) =
    absurd (more (nothing (lines_text ks) rest (sym none ∙ lines)))
one_line text _ _ (no_entry ks es rest are few lines more bad) (empty none) =
    absurd (more (nothing (lines_text ks) rest (sym none ∙ lines)))
one_line text _ _ (too_many ks es rest are count lines more) (empty none) =
    absurd (more (nothing (lines_text ks) rest (sym none ∙ lines)))
one_line text _ _ (no_entry ls ds r are few lines more bad) (no_entry ks es s is less texts other worse) =
    let e : lines_text ls ++ r ≡ lines_text ks ++ s = sym lines ∙ texts in
    let one : length es ≤ length ds = no_more ls ks ds es r s are is e bad in
    let two : length ds ≤ length es = no_more ks ls es ds s r is are (sym e) worse in
    omega arith
one_line text _ _ (no_entry ls ds r are few lines more bad) (too_many ks es s is count texts other) =
    let e : lines_text ls ++ r ≡ lines_text ks ++ s = sym lines ∙ texts in
    let one : length es ≤ length ds = no_more ls ks ds es r s are is e bad in
    absurd (omega arith)
one_line text _ _ (too_many ls ds r are count lines more) (no_entry ks es s is few texts other bad) =
    let e : lines_text ks ++ s ≡ lines_text ls ++ r = sym texts ∙ lines in
    let one : length ds ≤ length es = no_more ks ls es ds s r is are e bad in
    absurd (omega arith)
one_line text _ _ (too_many ls ds r are count lines more) (too_many ks es s is full texts other) = omega arith
