-- The lines of a script, taken off one by one.
use Rattle.std.proofs.Common.{◌≡◌, ◌≢◌, refl, sym, ap, subst, ◌∙◌, append_assoc, append-nil, ℕ, zero, suc, ◌+◌, ◌≤◌, ◌<◌, Bool, true, false, List, [], ◌∷◌, ◌++◌, length, Option, Some, None, arith}
use Rattle.std.specs.Prelude.{eqb, ◌==◌, ◌⊎◌}
use Rattle.std.specs.List.{join_with_byte, slice_split}
use Rattle.std.proofs.Common.{inl, inr}
use Rattle.std.proofs.lemmas.Bool.{eqb-true}
use Rattle.std.proofs.lemmas.List.{length-append}
use Rattle.std.proofs.lemmas.List.Splits.{join_with_byte-slice_split}
use Rattle.pz_lines.specs.Words.{Words, over, is_end}
use Rattle.pz_lines.specs.devices.Lacking.{Lacks, EachLacks}
use Rattle.pz_lines.proofs.Cutting.{cut, lacks_not}
use Rattle.pz_lines.proofs.Splits.{split_lacks, some_cut}
use Rattle.pz_env_script.specs.declared.entry.Entry.{Entry}
use Rattle.pz_env_script.specs.declared.errors.ReadScriptError.TheVariants.{Malformed}
use Rattle.pz_env_script.specs.Entries.{IsEntry}
use Rattle.pz_env_script.specs.Scripts.{lines_text, AreEntries, IsScript, BeginsWithNone, IsMalformedAt, empty, no_entry, too_many}
use Rattle.pz_env_script.specs.devices.Reading.{entry_in}
use Rattle.pz_env_script.specs.devices.Taking.{IsTaken, AreTaken}
use Rattle.pz_env_script.proofs.Lines.{line_writes, line_found, lacks_an_end}
use Rattle.pz_env_script.proofs.Texts.{some_bytes}

abbrev pub text_of : Words → List ℕ
text_of ls = join_with_byte 10 ls

line_first : (line : List ℕ) (ls : Words) → over ls ≡ false → text_of (line ∷ ls) ≡ line ++ (10 ∷ text_of ls)
line_first line [] more = absurd cc
line_first line (u ∷ us) more = refl

line_alone : (line : List ℕ) (ls : Words) → over ls ≡ true → text_of (line ∷ ls) ≡ line
line_alone line [] end = refl
line_alone line (u ∷ us) end = absurd cc

-- One line

pub taken : (ls us : Words) (line : List ℕ) (entry : Entry) (before after : List Entry) → ls ≡ line ∷ us → over us ≡ false → entry_in line ≡ Some entry → after ≡ before ++ entry ∷ [] → IsTaken (text_of ls) (text_of us) before after
taken ls us line entry before after e more read added = record {
  line = line;
  entry = entry;
  is_entry = line_writes line entry read;
  is_text = ap (λ (v : Words). text_of v) e ∙ line_first line us more;
  added = added;
}

pub no_line : (ls : Words) → ls ≡ [] → BeginsWithNone (text_of ls)
no_line ls e = λ line rest entry is text. some_bytes line rest (ap (λ (v : Words). text_of v) (sym e) ∙ text)

pub last_line : (ls us : Words) (line : List ℕ) → ls ≡ line ∷ us → over us ≡ true → EachLacks 10 ls → BeginsWithNone (text_of ls)
last_line ls us line e end lacks = λ other rest entry is text.
    (let lacking : EachLacks 10 (line ∷ us) = subst (EachLacks 10) e lacks in
    let same : line ≡ other ++ (10 ∷ rest) = sym (ap (λ (v : Words). text_of v) e ∙ line_alone line us end) ∙ text in
    lacks_not 10 other rest (subst (Lacks 10) same lacking.0))

not_read : (line other : List ℕ) (entry : Entry) → entry_in line ≡ None → IsEntry other entry → line ≡ other → ⊥
not_read line other entry none is same =
    let never : None ≡ Some entry = sym none ∙ ap (λ (t : List ℕ). entry_in t) same ∙ line_found other entry is in
    cc

pub bad_line : (ls us : Words) (line : List ℕ) → ls ≡ line ∷ us → over us ≡ false → EachLacks 10 ls → entry_in line ≡ None → BeginsWithNone (text_of ls)
bad_line ls us line e more lacks none = λ other rest entry is text.
    (let lacking : EachLacks 10 (line ∷ us) = subst (EachLacks 10) e lacks in
    let same : line ++ (10 ∷ text_of us) ≡ other ++ (10 ∷ rest) = sym (ap (λ (v : Words). text_of v) e ∙ line_first line us more) ∙ text in
    not_read line other entry none is (cut 10 line other (text_of us) rest lacking.0 (lacks_an_end other entry is) same).0)

pub lacks_later : (ls us : Words) (line : List ℕ) → ls ≡ line ∷ us → EachLacks 10 ls → EachLacks 10 us
lacks_later ls us line e lacks =
    let lacking : EachLacks 10 (line ∷ us) = subst (EachLacks 10) e lacks in
    lacking.1

-- All lines

-- the entries of so many lines are added, and these lines are left
pub record HasRead (text : List ℕ) (count : ℕ) (lines : Words) (entries : List Entry) : Type 0 where
  pub read : List (List ℕ)
  pub are : AreEntries read entries
  pub counted : length entries ≡ count
  pub whole : text ≡ lines_text read ++ text_of lines
  pub lacks : EachLacks 10 lines
  pub some : over lines ≡ false

pub starts : (lines : Words) (entries : List Entry) → entries ≡ [] → EachLacks 10 lines → over lines ≡ false → HasRead (text_of lines) 0 lines entries
starts lines entries none lacks some = record {
  read = [];
  are = subst (AreEntries []) (sym none) tt;
  counted = ap (λ (es : List Entry). length es) none;
  whole = refl;
  lacks = lacks;
  some = some;
}

are_more : (ls : Words) (es : List Entry) (l : List ℕ) (e : Entry) → AreEntries ls es → IsEntry l e → AreEntries (ls ++ l ∷ []) (es ++ e ∷ [])
are_more [] [] l e are is = (is, tt)
are_more [] (d ∷ es) l e are is = absurd are
are_more (k ∷ ls) [] l e are is = absurd are
are_more (k ∷ ls) (d ∷ es) l e are is = (are.0, are_more ls es l e are.1 is)

text_more : (ls : Words) (l rest : List ℕ) → lines_text ls ++ (l ++ (10 ∷ rest)) ≡ lines_text (ls ++ l ∷ []) ++ rest
text_more [] l rest = sym (append_assoc l (10 ∷ []) rest)
text_more (k ∷ ls) l rest =
    append_assoc k (10 ∷ lines_text ls) (l ++ (10 ∷ rest))
    ∙ ap (λ (t : List ℕ). k ++ (10 ∷ t)) (text_more ls l rest)
    ∙ sym (append_assoc k (10 ∷ lines_text (ls ++ l ∷ [])) rest)

pub goes_on : (text : List ℕ) (n : ℕ) (ls us : Words) (before after : List Entry) → HasRead text n ls before → IsTaken (text_of ls) (text_of us) before after → EachLacks 10 us → over us ≡ false → HasRead text (n + 1) us after
goes_on text n ls us before after so is lacks some = record {
  read = so.read ++ is.line ∷ [];
  are = subst (AreEntries (so.read ++ is.line ∷ [])) (sym is.added) (are_more so.read before is.line is.entry so.are is.is_entry);
  counted = ap (λ (es : List Entry). length es) is.added ∙ length-append before (is.entry ∷ []) ∙ ap (λ (k : ℕ). k + 1) so.counted;
  whole = so.whole ∙ ap (λ (t : List ℕ). lines_text so.read ++ t) is.is_text ∙ text_more so.read is.line (text_of us);
  lacks = lacks;
  some = some;
}

end_text : (ls : Words) → is_end ls ≡ true → text_of ls ≡ []
end_text [] e = absurd cc
end_text ([] ∷ []) e = refl
end_text ((b ∷ bs) ∷ []) e = absurd cc
end_text (w ∷ v ∷ ws) e = absurd cc

more_text : (ls : Words) → over ls ≡ false → is_end ls ≡ false → text_of ls ≢ []
more_text [] some e = λ none. cc
more_text ([] ∷ []) some e = λ none. cc
more_text ((b ∷ bs) ∷ []) some e = λ none. cc
more_text ([] ∷ v ∷ ws) some e = λ none. cc
more_text ((b ∷ bs) ∷ v ∷ ws) some e = λ none. cc

pub ends : (text : List ℕ) (n : ℕ) (ls : Words) (entries : List Entry) → HasRead text n ls entries → n ≤ 100000 → is_end ls ≡ true → AreTaken text entries
ends text n ls entries so few end =
    let count : length entries ≡ n = so.counted in
    record {
      lines = so.read;
      is_text = so.whole ∙ ap (λ (t : List ℕ). lines_text so.read ++ t) (end_text ls end) ∙ append-nil (lines_text so.read);
      are = so.are;
      few = omega arith;
    }

pub refused_at : (text : List ℕ) (n line : ℕ) (ls : Words) (entries : List Entry) → HasRead text n ls entries → n < 100000 → is_end ls ≡ false → BeginsWithNone (text_of ls) → line ≡ n + 1 → IsMalformedAt text line
refused_at text n line ls entries so few more none is =
    let count : length entries ≡ n = so.counted in
    let at : suc (length entries) ≡ line = omega arith in
    subst
    (IsMalformedAt text)
    at
    (no_entry so.read entries (text_of ls) so.are (omega arith) so.whole (more_text ls so.some more) none)

pub refused_many : (text : List ℕ) (n : ℕ) (ls : Words) (entries : List Entry) → HasRead text n ls entries → n ≡ 100000 → is_end ls ≡ false → IsMalformedAt text 100001
refused_many text n ls entries so full more =
    let count : length entries ≡ n = so.counted in
    let at : suc (length entries) ≡ 100001 = omega arith in
    subst
    (IsMalformedAt text)
    at
    (too_many so.read entries (text_of ls) so.are (omega arith) so.whole (more_text ls so.some more))

-- The text

pub some_lines : (text : List ℕ) (parts : Words) → parts ≡ slice_split (λ b. eqb b 10) text → over parts ≡ false
some_lines text [] e =
    let some : 1 ≤ 0 = some_cut 10 text [] e in
    absurd (omega arith)
some_lines text (p ∷ ps) e = refl

pub whole_text : (text : List ℕ) (parts : Words) → parts ≡ slice_split (λ b. eqb b 10) text → text_of parts ≡ text
whole_text text parts e = ap (λ (v : Words). text_of v) e ∙ join_with_byte-slice_split 10 text

no_text : (lines : Words) (entries : List Entry) → AreEntries lines entries → entries ≡ [] → lines ≡ []
no_text [] entries are none = refl
no_text (l ∷ ls) [] are none = absurd are
no_text (l ∷ ls) (e ∷ es) are none = absurd cc

some_entries : (text : List ℕ) (lines : Words) (entries : List Entry) → text ≢ [] → text ≡ lines_text lines → AreEntries lines entries → entries ≢ []
some_entries text lines entries some e are = λ none. some (e ∙ ap (λ (ls : Words). lines_text ls) (no_text lines entries are none))

pub script_read : (text : List ℕ) (parts : Words) (entries : List Entry) → text ≢ [] → parts ≡ slice_split (λ b. eqb b 10) text → AreTaken (text_of parts) entries → IsScript text entries
script_read text parts entries some cut all =
    let lines : text ≡ lines_text all.lines = sym (whole_text text parts cut) ∙ all.is_text in
    record { lines = all.lines; is_text = lines; are = all.are; some = some_entries text all.lines entries some lines all.are; few = all.few }

pub script_refused : (text : List ℕ) (parts : Words) (line : ℕ) → parts ≡ slice_split (λ b. eqb b 10) text → IsMalformedAt (text_of parts) line → IsMalformedAt text line
script_refused text parts line cut is = subst (λ (t : List ℕ). IsMalformedAt t line) (whole_text text parts cut) is

pub nothing : (text : List ℕ) → (length text == 0) ≡ true → text ≡ []
nothing [] e = refl
nothing (b ∷ bs) e =
    let none : length (b ∷ bs) ≡ 0 = eqb-true (length (b ∷ bs)) 0 e in
    absurd (omega arith)

false_true : false ≡ true → ⊥
false_true e = cc

true_false : true ≡ false → ⊥
true_false e = cc

pub something : (text : List ℕ) → (length text == 0) ≡ false → text ≢ []
something text some = λ (e : text ≡ []). false_true (sym some ∙ ap (λ (t : List ℕ). length t == 0) e)

-- Each text has an answer

abbrev Answer : List ℕ → Type 0
Answer text = ((entries : List Entry) × IsScript text entries) ⊎ ((line : ℕ) × IsMalformedAt text line)

abbrev Case : Bool → Type 0
Case b = (b ≡ true) ⊎ (b ≡ false)

case : (b : Bool) → Case b
case true = inl refl
case false = inr refl

-- the lines of a text are gone through, with so many more entries that there may be
module _ (text : List ℕ) (some : text ≢ []) where
  over_now : (n : ℕ) (ls : Words) (es : List Entry) → HasRead text n ls es → n ≤ 100000 → is_end ls ≡ true → Answer text
  over_now n ls es so few end =
      let all = ends text n ls es so few end in
      inl (es, record { lines = all.lines; is_text = all.is_text; are = all.are; some = some_entries text all.lines es some all.is_text all.are; few = all.few })

  bad_now : (n : ℕ) (ls : Words) (es : List Entry) → HasRead text n ls es → n < 100000 → is_end ls ≡ false → BeginsWithNone (text_of ls) → Answer text
  bad_now n ls es so few more none = inr (n + 1, refused_at text n (n + 1) ls es so few more none refl)

  full_now : (n : ℕ) (ls : Words) (es : List Entry) → HasRead text n ls es → n ≡ 100000 → Case (is_end ls) → Answer text
  full_now n ls es so full (inl end) = over_now n ls es so (omega arith) end
  full_now n ls es so full (inr more) = inr (100001, refused_many text n ls es so full more)

  read_now : (n : ℕ) (line : List ℕ) (us : Words) (es : List Entry) → HasRead text n (line ∷ us) es → n < 100000 → is_end (line ∷ us) ≡ false → over us ≡ false → (o : Option Entry) → entry_in line ≡ o → ((entry : Entry) → HasRead text (n + 1) us (es ++ entry ∷ []) → Answer text) → Answer text
  read_now n line us es so few more later None none next =
      bad_now n (line ∷ us) es so few more (bad_line (line ∷ us) us line refl later so.lacks none)
  read_now n line us es so few more later (Some entry) is next =
      next entry (goes_on text n (line ∷ us) us es (es ++ entry ∷ []) so (taken (line ∷ us) us line entry es (es ++ entry ∷ []) refl later is refl) (lacks_later (line ∷ us) us line refl so.lacks) later)

  line_now : (n : ℕ) (line : List ℕ) (us : Words) (es : List Entry) → HasRead text n (line ∷ us) es → n < 100000 → Case (is_end (line ∷ us)) → Case (over us) → ((entry : Entry) → HasRead text (n + 1) us (es ++ entry ∷ []) → Answer text) → Answer text
  line_now n line us es so few (inl end) over next = over_now n (line ∷ us) es so (omega arith) end
  line_now n line us es so few (inr more) (inl last) next =
      bad_now n (line ∷ us) es so few more (last_line (line ∷ us) us line refl last so.lacks)
  line_now n line us es so few (inr more) (inr later) next =
      read_now n line us es so few more later (entry_in line) refl next

  go : (left n : ℕ) (ls : Words) (es : List Entry) → HasRead text n ls es → n + left ≡ 100000 → Answer text
  go zero n ls es so count = full_now n ls es so (omega arith) (case (is_end ls))
  go (suc left) n [] es so count = absurd (true_false so.some)
  go (suc left) n (line ∷ us) es so count =
      line_now n line us es so (omega arith) (case (is_end (line ∷ us))) (case (over us)) (λ entry on. go left (n + 1) us (es ++ entry ∷ []) on (omega arith))

pub has_an_answer : (text : List ℕ) → Answer text
has_an_answer [] = inr (1, empty refl)
has_an_answer (b ∷ bs) =
    let text : List ℕ = b ∷ bs in
    let parts : Words = slice_split (λ b. eqb b 10) text in
    let so = starts parts [] refl (split_lacks 10 text) (some_lines text parts refl) in
    go text (λ none. cc) 100000 0 parts [] (subst (λ (t : List ℕ). HasRead t 0 parts []) (whole_text text parts refl) so) refl

pub malformed_same : (n k : ℕ) → Malformed n ≡ Malformed k → k ≡ n
malformed_same n k e = cc
