-- Lines and texts, worked out.
use Rattle.std.proofs.Common.{◌≡◌, ◌≢◌, refl, sym, subst, ◌∙◌, ℕ, zero, suc, true, false, List, [], ◌∷◌, ◌++◌, length, Some, None, replicate, arith}
use Rattle.std.specs.Prelude.{codes, eqb, ℤ, pos, negsuc}
use Rattle.std.specs.Fmt.{digits}
use Rattle.std.specs.List.{slice_split}
use Rattle.std.proofs.lemmas.List.{length-replicate}
use Rattle.pz_lines.specs.Words.{Words, over}
use Rattle.pz_lines.proofs.Splits.{split_lacks}
use Rattle.pz_value.specs.declared.value.Value.TheVariants.{Nil, Bool as Truth, Int}
use Rattle.pz_env_script.specs.declared.entry.Entry.{Entry}
use Rattle.pz_env_script.specs.declared.entry.Transfer.{Transfer}
use Rattle.pz_env_script.specs.declared.entry.Transfer.TheVariants.{Send, Receive}
use Rattle.pz_env_script.specs.Entries.{IsEntry}
use Rattle.pz_env_script.specs.Scripts.{lines_text, AreEntries, IsScript, BeginsWithNone, IsMalformedAt, empty, no_entry, too_many}
use Rattle.pz_env_script.specs.devices.Reading.{entry_in}
use Rattle.pz_env_script.proofs.Lines.{line_writes, line_found}
use Rattle.pz_env_script.proofs.ScriptLines.{last_line, bad_line, whole_text}

abbrev entry : ℤ → List ℕ → List ℕ → List ℕ → Transfer → Entry
entry wait instance port message transfer =
    record { wait = wait; instance = instance; port = port; message = message; transfer = transfer }

-- Lines of entries

abbrev three : Entry
three = entry (pos 2) (codes "r") (codes "i") (codes "m") (Send (Int (pos 3) ∷ []))

sends_three : entry_in (codes "2 send r i m 3") ≡ Some three
unfolding digits
sends_three = refl

abbrev two : Entry
two = entry (pos 0) (codes "r_1") (codes "O") (codes "n") (Receive 2)

takes_two : entry_in (codes "0 receive r_1 O n 2") ≡ Some two
unfolding digits
takes_two = refl

-- a message without values, and one with each sort of value; a minus before 0, and the ends of 64 bits
sends_none : entry_in (codes "0 send r i m") ≡ Some (entry (pos 0) (codes "r") (codes "i") (codes "m") (Send []))
unfolding digits
sends_none = refl

sends_each : entry_in (codes "9223372036854775807 send r i m -0 nil true false -7 9223372036854775807 -9223372036854775808")
    ≡ Some (entry (pos 9223372036854775807) (codes "r") (codes "i") (codes "m") (Send (Int (pos 0) ∷ Nil ∷ Truth true ∷ Truth false ∷ Int (negsuc 6) ∷ Int (pos 9223372036854775807) ∷ Int (negsuc 9223372036854775807) ∷ [])))
unfolding digits
sends_each = refl

takes_a_hundred : entry_in (codes "0 receive r i m 100") ≡ Some (entry (pos 0) (codes "r") (codes "i") (codes "m") (Receive 100))
unfolding digits
takes_a_hundred = refl

-- Lines of no entry

never : (line : List ℕ) → entry_in line ≡ None → (e : Entry) → IsEntry line e → ⊥
never line none e is =
    let both : None ≡ Some e = sym none ∙ line_found line e is in
    cc

abbrev AreNone : List (List ℕ) → Type 0
AreNone [] = Unit {0}
AreNone (line ∷ lines) = (entry_in line ≡ None) × AreNone lines

-- waits: a leading zero, signs, one past 2^63 - 1
waits : AreNone (codes "07 send r i m" ∷ codes "+7 send r i m" ∷ codes "-0 send r i m" ∷ codes "9223372036854775808 send r i m" ∷ [])
unfolding digits
waits = (refl, (refl, (refl, (refl, tt))))

-- blanks: two, one at the end, one in front, a tab; a CR is no end of a line
blanks : AreNone (codes "1  send r i m" ∷ codes "1 send r i m " ∷ codes " 1 send r i m" ∷ codes "1\tsend r i m" ∷ codes "1 send r i m\r" ∷ [])
unfolding digits
blanks = (refl, (refl, (refl, (refl, (refl, tt)))))

-- names: a reserved word, one that begins with a digit, one with a dot, none
names : AreNone (codes "1 send par i m" ∷ codes "1 send r 1i m" ∷ codes "1 send r i a.b" ∷ codes "1 send r i" ∷ [])
unfolding digits
names = (refl, (refl, (refl, (refl, tt))))

-- literals: a leading zero, a plus, a minus alone, another word, past 64 bits
literals : AreNone (codes "1 send r i m 00" ∷ codes "1 send r i m +1" ∷ codes "1 send r i m -" ∷ codes "1 send r i m self" ∷ codes "1 send r i m 9223372036854775808" ∷ codes "1 send r i m -9223372036854775809" ∷ [])
unfolding digits
literals = (refl, (refl, (refl, (refl, (refl, (refl, tt))))))

-- counts: none, two, a sign, one past 100; and a word that is neither of the two
counts : AreNone (codes "1 receive r i m" ∷ codes "1 receive r i m 1 1" ∷ codes "1 receive r i m -0" ∷ codes "1 receive r i m 101" ∷ codes "1 sends r i m" ∷ [])
unfolding digits
counts = (refl, (refl, (refl, (refl, (refl, tt)))))

-- Texts

both_lines : IsScript (codes "2 send r i m 3\n0 receive r_1 O n 2\n") (three ∷ two ∷ [])
both_lines = record {
  lines = codes "2 send r i m 3" ∷ codes "0 receive r_1 O n 2" ∷ [];
  is_text = refl;
  are = (line_writes (codes "2 send r i m 3") three sends_three, (line_writes (codes "0 receive r_1 O n 2") two takes_two, tt));
  some = λ none. cc;
  few = omega arith;
}

nothing : IsMalformedAt [] 1
nothing = empty refl

none_here : (text line : List ℕ) (us : Words) → slice_split (λ b. eqb b 10) text ≡ line ∷ us → over us ≡ false → entry_in line ≡ None → BeginsWithNone text
none_here text line us cut more none =
    subst
    BeginsWithNone
    (whole_text text (slice_split (λ b. eqb b 10) text) refl)
    (bad_line (slice_split (λ b. eqb b 10) text) us line cut more (split_lacks 10 text) none)

-- no end of a line
no_end : IsMalformedAt (codes "2 send r i m 3") 1
no_end =
    let text = codes "2 send r i m 3" in
    no_entry [] [] text tt (omega arith) refl (λ none. cc)
    (subst BeginsWithNone (whole_text text (slice_split (λ b. eqb b 10) text) refl) (last_line (slice_split (λ b. eqb b 10) text) [] text refl refl (split_lacks 10 text)))

-- a second line with nothing in it
empty_line : IsMalformedAt (codes "2 send r i m 3\n\n") 2
empty_line =
    no_entry (codes "2 send r i m 3" ∷ []) (three ∷ []) (codes "\n")
    (line_writes (codes "2 send r i m 3") three sends_three, tt)
    (omega arith) refl (λ none. cc)
    (none_here (codes "\n") [] ([] ∷ []) refl refl refl)

-- as many lines as there may be, and more
module _ (line : List ℕ) (e : Entry) (is : IsEntry line e) where
  repeated : (n : ℕ) → AreEntries (replicate n line) (replicate n e)
  repeated zero = tt
  repeated (suc n) = (is, repeated n)

  some_more : (n : ℕ) → replicate (suc n) e ≢ []
  some_more n = λ none. cc

  -- n stands for 100,000
  most : (n : ℕ) → suc n ≡ 100000 → IsScript (lines_text (replicate (suc n) line)) (replicate (suc n) e)
  most n count =
      let long : length (replicate (suc n) e) ≡ suc n = length-replicate (suc n) e in
      record { lines = replicate (suc n) line; is_text = refl; are = repeated (suc n); some = some_more n; few = omega arith }

  past : (n : ℕ) (more : List ℕ) → n ≡ 100000 → more ≢ [] → IsMalformedAt (lines_text (replicate n line) ++ more) 100001
  past n more count some =
      let long : length (replicate n e) ≡ n = length-replicate n e in
      let at : suc (length (replicate n e)) ≡ 100001 = omega arith in
      subst (IsMalformedAt (lines_text (replicate n line) ++ more)) at (too_many (replicate n line) (replicate n e) more (repeated n) (omega arith) refl some)
