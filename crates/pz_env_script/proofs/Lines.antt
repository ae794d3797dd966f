-- The line of an entry, and the entry of a line.
use Rattle.std.proofs.Common.{◌≡◌, refl, sym, ap, subst, ◌∙◌, ℕ, ◌<◌, ◌≤◌, ◌^◌, true, List, [], ◌∷◌, length, Some, arith}
use Rattle.std.specs.Prelude.{eqb}
use Rattle.std.specs.List.{list_all, slice_split}
use Rattle.std.specs.Fmt.{decimal}
use Rattle.std.proofs.lemmas.List.Splits.{join_with_byte-slice_split}
use Rattle.std.proofs.lemmas.Fmt.{decimal_is_IsNumeral}
use Rattle.pz_lines.specs.Words.{is_inside}
use Rattle.pz_lines.specs.Identifiers.{is_identifier}
use Rattle.pz_lines.specs.devices.Lacking.{Lacks}
use Rattle.pz_lines.proofs.Cutting.{EachInside, digits_inside, each_lacks_blank, joined_lacks_end, joins}
use Rattle.pz_lines.proofs.IdentifierWords.{identifiers_are_words}
use Rattle.pz_lines.proofs.Splits.{split_lacks, some_cut}
use Rattle.pz_value.specs.declared.value.Value.{Value}
use Rattle.pz_env_script.specs.declared.entry.Entry.{Entry}
use Rattle.pz_env_script.specs.declared.entry.Transfer.{Transfer}
use Rattle.pz_env_script.specs.Literals.{IsLiteral, AreLiterals, nothing, truth, falsehood, number, negative, none, more}
use Rattle.pz_env_script.specs.Entries.{IsTransfer, sends, receives, AreWordsOf, IsEntry}
use Rattle.pz_env_script.specs.devices.Reading.{entry_of, entry_in}
use Rattle.pz_env_script.proofs.EntryWords.{entry_writes, entry_found}

-- No blank and no end of a line stands in a word of an entry

decimal_inside : (n : ℕ) → n < 2 ^ 64 → list_all is_inside (decimal n) ≡ true
decimal_inside n short = digits_inside (decimal n) (decimal_is_IsNumeral n short).0.1

literal_inside : (w : List ℕ) (v : Value) → IsLiteral w v → list_all is_inside w ≡ true
literal_inside _ _ nothing = refl
literal_inside _ _ truth = refl
literal_inside _ _ falsehood = refl
literal_inside _ _ (number n short) = decimal_inside n (omega arith)
literal_inside _ _ (negative n short) = decimal_inside n (omega arith)

literals_inside : (ws : List (List ℕ)) (vs : List Value) → AreLiterals ws vs → EachInside ws
literals_inside _ _ none = tt
literals_inside _ _ (more w v ws vs is are) = (literal_inside w v is, literals_inside ws vs are)

action_inside : (action : List ℕ) (ws : List (List ℕ)) (t : Transfer) → IsTransfer action ws t → list_all is_inside action ≡ true
action_inside _ _ _ (sends ws vs are few) = refl
action_inside _ _ _ (receives k few) = refl

rest_inside : (action : List ℕ) (ws : List (List ℕ)) (t : Transfer) → IsTransfer action ws t → EachInside ws
rest_inside _ _ _ (sends ws vs are few) = literals_inside ws vs are
rest_inside _ _ _ (receives k few) = (decimal_inside k (omega arith), tt)

name_inside : (name : List ℕ) → is_identifier name ≡ true → list_all is_inside name ≡ true
name_inside name is = (identifiers_are_words name is).inside

words_inside : (ws : List (List ℕ)) (e : Entry) → AreWordsOf ws e → EachInside ws
words_inside ws e is =
    subst
    EachInside
    (sym is.are)
    (decimal_inside is.wait (omega (arith, is.short)), (action_inside is.action is.rest e.transfer is.transfer, (name_inside e.instance is.instance, (name_inside e.port is.port, (name_inside e.message is.message, rest_inside is.action is.rest e.transfer is.transfer)))))

some_words : (ws : List (List ℕ)) (e : Entry) → AreWordsOf ws e → 1 ≤ length ws
some_words [] e is = absurd cc
some_words (w ∷ ws) e is = omega arith

-- A line is that of an entry exactly where it is read as that entry

abbrev cuts : List ℕ → List (List ℕ)
cuts t = slice_split (λ b. eqb b 32) t

pub line_writes : (line : List ℕ) (e : Entry) → entry_in line ≡ Some e → IsEntry line e
line_writes line e is = record {
  words = cuts line;
  joined = sym (join_with_byte-slice_split 32 line);
  are = entry_writes (cuts line) e is;
}

pub line_found : (line : List ℕ) (e : Entry) → IsEntry line e → entry_in line ≡ Some e
line_found line e is =
    let same : cuts line ≡ is.words =
    joins
    (cuts line)
    is.words
    (some_cut 32 line (cuts line) refl)
    (some_words is.words e is.are)
    (split_lacks 32 line)
    (each_lacks_blank is.words (words_inside is.words e is.are))
    (join_with_byte-slice_split 32 line ∙ is.joined)
    in
    ap (λ (ws : List (List ℕ)). entry_of ws) same ∙ entry_found is.words e is.are

some_same : (d e : Entry) → Some d ≡ Some e → d ≡ e
some_same d e is = cc

pub one_entry : (line : List ℕ) (d e : Entry) → IsEntry line d → IsEntry line e → d ≡ e
one_entry line d e one two = some_same d e (sym (line_found line d one) ∙ line_found line e two)

pub lacks_an_end : (line : List ℕ) (e : Entry) → IsEntry line e → Lacks 10 line
lacks_an_end line e is =
    subst (Lacks 10) (sym is.joined) (joined_lacks_end is.words (words_inside is.words e is.are))
