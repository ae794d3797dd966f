-- The lines of a file, taken off one by one.
use Rattle.std.proofs.Common.{◌≡◌, ◌≢◌, refl, sym, ap, subst, ◌∙◌, append_assoc, append-nil, ℕ, suc, ◌+◌, ◌≤◌, ◌<◌, true, false, List, [], ◌∷◌, ◌++◌, length, arith}
use Rattle.std.specs.Prelude.{eqb, ◌==◌}
use Rattle.std.specs.List.{All, join_with_byte, slice_split}
use Rattle.std.proofs.lemmas.Bool.{eqb-true}
use Rattle.std.proofs.lemmas.List.{length-append}
use Rattle.std.proofs.lemmas.List.Elements.{All-nil, All-push}
use Rattle.std.proofs.lemmas.List.Splits.{join_with_byte-slice_split}
use Rattle.pz_lines.specs.Words.{Words, over, is_end}
use Rattle.pz_lines.specs.Identifiers.{is_identifier}
use Rattle.pz_lines.specs.devices.Lacking.{Lacks, EachLacks}
use Rattle.pz_lines.proofs.Cutting.{cut, lacks_not}
use Rattle.pz_lines.proofs.IdentifierWords.{identifiers_are_words}
use Rattle.pz_lines.proofs.Splits.{some_cut}
use Rattle.pz_watch.specs.declared.errors.ReadWatchesError.TheVariants.{Refused}
use Rattle.pz_watch.specs.declared.watch.Watch.{Watch}
use Rattle.pz_watch.specs.Files.{NamedFormula, watch_text, watches_text, IsWatch, BeginsWithNone, IsRefusedAt, no_watch, too_many}
use Rattle.pz_watch.specs.devices.Standing.{StandsForNamed, StandForEach}
use Rattle.pz_watch.specs.devices.Taking.{IsReadFrom, IsTaken, AreTaken, AreReadFrom}
use Rattle.pz_watch.proofs.Lists.{some_bytes, lacks_an_end}

abbrev pub text_of : Words → List ℕ
text_of ls = join_with_byte 10 ls

line_first : (line : List ℕ) (ls : Words) → over ls ≡ false → text_of (line ∷ ls) ≡ line ++ (10 ∷ text_of ls)
line_first line [] more = absurd cc
line_first line (u ∷ us) more = refl

line_alone : (line : List ℕ) (ls : Words) → over ls ≡ true → text_of (line ∷ ls) ≡ line
line_alone line [] end = refl
line_alone line (u ∷ us) end = absurd cc

-- One line

pub refused_same : (n k : ℕ) → Refused n ≡ Refused k → k ≡ n
refused_same n k e = cc

pub taken : (ls us : Words) (line : List ℕ) (watch : Watch) (before after : List Watch) → ls ≡ line ∷ us → over us ≡ false → IsReadFrom line watch → after ≡ before ++ watch ∷ [] → IsTaken (text_of ls) (text_of us) before after
taken ls us line watch before after e more read added = record {
  watch = watch;
  is_read = (line, read, ap (λ (v : Words). text_of v) e ∙ line_first line us more);
  added = added;
}

pub no_line : (ls : Words) → ls ≡ [] → BeginsWithNone is_identifier (text_of ls)
no_line ls e = λ w rest is text. some_bytes w rest (ap (λ (v : Words). text_of v) (sym e) ∙ text)

pub last_line : (ls us : Words) (line : List ℕ) → ls ≡ line ∷ us → over us ≡ true → EachLacks 10 ls → BeginsWithNone is_identifier (text_of ls)
last_line ls us line e end lacks = λ w rest is text.
    (let lacking : EachLacks 10 (line ∷ us) = subst (EachLacks 10) e lacks in
    let same : line ≡ watch_text w ++ (10 ∷ rest) = sym (ap (λ (v : Words). text_of v) e ∙ line_alone line us end) ∙ text in
    lacks_not 10 (watch_text w) rest (subst (Lacks 10) same lacking.0))

pub bad_line : (ls us : Words) (line : List ℕ) → ls ≡ line ∷ us → over us ≡ false → EachLacks 10 ls → ((w : NamedFormula) → IsWatch is_identifier w → line ≢ watch_text w) → BeginsWithNone is_identifier (text_of ls)
bad_line ls us line e more lacks bad = λ w rest is text.
    (let lacking : EachLacks 10 (line ∷ us) = subst (EachLacks 10) e lacks in
    let same : line ++ (10 ∷ text_of us) ≡ watch_text w ++ (10 ∷ rest) = sym (ap (λ (v : Words). text_of v) e ∙ line_first line us more) ∙ text in
    bad w is (cut 10 line (watch_text w) (text_of us) rest lacking.0 (lacks_an_end is_identifier identifiers_are_words w is) same).0)

pub lacks_later : (ls us : Words) (line : List ℕ) → ls ≡ line ∷ us → EachLacks 10 ls → EachLacks 10 us
lacks_later ls us line e lacks =
    let lacking : EachLacks 10 (line ∷ us) = subst (EachLacks 10) e lacks in
    lacking.1

-- All lines

-- the watches of so many lines are added, and these lines are left
pub record HasRead (text : List ℕ) (count : ℕ) (lines : Words) (watches : List Watch) : Type 0 where
  pub named : List NamedFormula
  pub each : All (IsWatch is_identifier) named
  pub counted : length named ≡ count
  pub whole : text ≡ watches_text named ++ text_of lines
  pub stand : StandForEach watches named []
  pub lacks : EachLacks 10 lines
  pub some : over lines ≡ false

pub starts : (lines : Words) (watches : List Watch) → watches ≡ [] → EachLacks 10 lines → over lines ≡ false → HasRead (text_of lines) 0 lines watches
starts lines watches none lacks some = record {
  named = [];
  each = All-nil (IsWatch is_identifier);
  counted = refl;
  whole = refl;
  stand = subst (λ (vs : List Watch). StandForEach vs [] []) (sym none) tt;
  lacks = lacks;
  some = some;
}

stand_more : (watches : List Watch) (ws : List NamedFormula) (watch : Watch) (w : NamedFormula) → StandForEach watches ws [] → StandsForNamed watch w [] → StandForEach (watches ++ watch ∷ []) (ws ++ w ∷ []) []
stand_more [] [] watch w each one = (one, tt)
stand_more [] (v ∷ vs) watch w each one = absurd each
stand_more (x ∷ xs) [] watch w each one = absurd each
stand_more (x ∷ xs) (v ∷ vs) watch w each one = (each.0, stand_more xs vs watch w each.1 one)

text_more : (ws : List NamedFormula) (w : NamedFormula) (rest : List ℕ) → watches_text ws ++ (watch_text w ++ (10 ∷ rest)) ≡ watches_text (ws ++ w ∷ []) ++ rest
text_more [] w rest = sym (append_assoc (watch_text w) (10 ∷ []) rest)
text_more (v ∷ vs) w rest =
    append_assoc (watch_text v) (10 ∷ watches_text vs) (watch_text w ++ (10 ∷ rest))
    ∙ ap (λ (t : List ℕ). watch_text v ++ (10 ∷ t)) (text_more vs w rest)
    ∙ sym (append_assoc (watch_text v) (10 ∷ watches_text (vs ++ w ∷ [])) rest)

pub goes_on : (text : List ℕ) (n : ℕ) (ls us : Words) (before after : List Watch) → HasRead text n ls before → IsTaken (text_of ls) (text_of us) before after → EachLacks 10 us → over us ≡ false → HasRead text (n + 1) us after
goes_on text n ls us before after so is lacks some =
    let line : List ℕ = is.is_read.0 in
    let read : IsReadFrom is.is_read.0 is.watch = is.is_read.1 in
    let w : NamedFormula = read.named in
    record {
      named = so.named ++ read.named ∷ [];
      each = All-push (IsWatch is_identifier) so.named read.named so.each read.is_watch;
      counted = length-append so.named (read.named ∷ []) ∙ ap (λ (k : ℕ). k + 1) so.counted;
      whole = so.whole
          ∙ ap (λ (t : List ℕ). watches_text so.named ++ t) (is.is_read.2 ∙ ap (λ (l : List ℕ). l ++ (10 ∷ text_of us)) read.is_text)
          ∙ text_more so.named read.named (text_of us);
      stand = subst (λ (vs : List Watch). StandForEach vs (so.named ++ read.named ∷ []) []) (sym is.added) (stand_more before so.named is.watch read.named so.stand read.stands);
      lacks = lacks;
      some = some;
    }

end_text : (ls : Words) → is_end ls ≡ true → text_of ls ≡ []
end_text [] e = absurd cc
end_text ([] ∷ []) e = refl
end_text ((b ∷ bs) ∷ []) e = absurd cc
end_text (w ∷ v ∷ ws) e = absurd cc

more_text : (ls : Words) → over ls ≡ false → is_end ls ≡ false → text_of ls ≢ []
more_text [] some e = λ none. cc
more_text ([] ∷ []) some e = λ none. cc
more_text ((b ∷ bs) ∷ []) some e = λ none. cc
more_text ([] ∷ v ∷ ws) some e = λ none. cc
more_text ((b ∷ bs) ∷ v ∷ ws) some e = λ none. cc

pub ends : (text : List ℕ) (n : ℕ) (ls : Words) (watches : List Watch) → HasRead text n ls watches → n ≤ 100 → is_end ls ≡ true → AreTaken text watches
ends text n ls watches so few end =
    let count : length so.named ≡ n = so.counted in
    record {
      named = so.named;
      lines = so.whole ∙ ap (λ (t : List ℕ). watches_text so.named ++ t) (end_text ls end) ∙ append-nil (watches_text so.named);
      each = so.each;
      few = omega arith;
      stand = so.stand;
    }

pub refused_at : (text : List ℕ) (n line : ℕ) (ls : Words) (watches : List Watch) → HasRead text n ls watches → n < 100 → is_end ls ≡ false → BeginsWithNone is_identifier (text_of ls) → line ≡ n + 1 → IsRefusedAt is_identifier text line
refused_at text n line ls watches so few more none is =
    let count : length so.named ≡ n = so.counted in
    let at : suc (length so.named) ≡ line = omega arith in
    subst
    (IsRefusedAt is_identifier text)
    at
    (no_watch so.named (text_of ls) so.each (omega arith) so.whole (more_text ls so.some more) none)

pub refused_many : (text : List ℕ) (n : ℕ) (ls : Words) (watches : List Watch) → HasRead text n ls watches → n ≡ 100 → is_end ls ≡ false → IsRefusedAt is_identifier text 101
refused_many text n ls watches so full more =
    let count : length so.named ≡ n = so.counted in
    let at : suc (length so.named) ≡ 101 = omega arith in
    subst
    (IsRefusedAt is_identifier text)
    at
    (too_many so.named (text_of ls) so.each (omega arith) so.whole (more_text ls so.some more))

-- The file

pub some_lines : (text : List ℕ) (parts : Words) → parts ≡ slice_split (λ b. eqb b 10) text → over parts ≡ false
some_lines text [] e =
    let some : 1 ≤ 0 = some_cut 10 text [] e in
    absurd (omega arith)
some_lines text (p ∷ ps) e = refl

whole_text : (text : List ℕ) (parts : Words) → parts ≡ slice_split (λ b. eqb b 10) text → text_of parts ≡ text
whole_text text parts e = ap (λ (v : Words). text_of v) e ∙ join_with_byte-slice_split 10 text

no_watches : (ws : List NamedFormula) (text : List ℕ) → text ≢ [] → text ≡ watches_text ws → ws ≢ []
no_watches ws text some e = λ none. some (e ∙ ap (λ (vs : List NamedFormula). watches_text vs) none)

pub file_read : (text : List ℕ) (parts : Words) (watches : List Watch) → text ≢ [] → parts ≡ slice_split (λ b. eqb b 10) text → AreTaken (text_of parts) watches → AreReadFrom text watches
file_read text parts watches some cut all =
    let lines : text ≡ watches_text all.named = sym (whole_text text parts cut) ∙ all.lines in
    record {
      named = all.named;
      are_watches = record { lines = lines; each = all.each; some = no_watches all.named text some lines; few = all.few };
      stand = all.stand;
    }

pub file_refused : (text : List ℕ) (parts : Words) (line : ℕ) → parts ≡ slice_split (λ b. eqb b 10) text → IsRefusedAt is_identifier (text_of parts) line → IsRefusedAt is_identifier text line
file_refused text parts line cut is = subst (λ (t : List ℕ). IsRefusedAt is_identifier t line) (whole_text text parts cut) is

pub nothing : (text : List ℕ) → (length text == 0) ≡ true → text ≡ []
nothing [] e = refl
nothing (b ∷ bs) e =
    let none : length (b ∷ bs) ≡ 0 = eqb-true (length (b ∷ bs)) 0 e in
    absurd (omega arith)

false_true : false ≡ true → ⊥
false_true e = cc

pub something : (text : List ℕ) → (length text == 0) ≡ false → text ≢ []
something text some = λ (e : text ≡ []). false_true (sym some ∙ ap (λ (t : List ℕ). length t == 0) e)
