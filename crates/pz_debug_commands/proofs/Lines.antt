-- A text has one list of lines, and of commands.
use Rattle.std.proofs.Common.{◌≡◌, ◌≢◌, refl, sym, ap, subst, ◌∙◌, ℕ, Bool, true, false, ◌==◌, List, [], ◌∷◌, ◌++◌, map, eq-eqb}
use Rattle.std.specs.Prelude.{if◌then◌else◌}
use Rattle.std.proofs.lemmas.Bool.{eqb-true}
use Rattle.pz_words.proofs.Outcomes.{false_true}
use Rattle.pz_debug_commands.specs.Lines.{Lacks, BeginsWithLine, ended, last}
use Rattle.pz_debug_commands.specs.Commands.{Command, IsCommand}
use Rattle.pz_debug_commands.specs.Texts.{AreCommands, none, more}
use Rattle.pz_debug_commands.specs.devices.Reading.{read, ahead, lines_of, commands_of}
use Rattle.pz_debug_commands.proofs.Cuts.{cut_once, lacks_not}
use Rattle.pz_debug_commands.proofs.Spelled.{is_command, one_command}

-- At most one

one_line : (text l k r s : List ℕ) → BeginsWithLine text l r → BeginsWithLine text k s → (l ≡ k) × (r ≡ s)
one_line text l k r s (ended lacks is) (ended other are) = cut_once 10 l k r s lacks other (sym is ∙ are)
one_line text l k r s (ended lacks is) (last other some are over) = absurd (lacks_not 10 l r (subst (Lacks 10) (sym are ∙ is) other))
one_line text l k r s (last lacks some is over) (ended other are) = absurd (lacks_not 10 k s (subst (Lacks 10) (sym is ∙ are) lacks))
one_line text l k r s (last lacks some is over) (last other others are done) = (sym is ∙ are, over ∙ sym done)

pub line_there : (text l r : List ℕ) → BeginsWithLine text l r → text ≢ []
line_there text l r (ended lacks is) empty = some_there l r (sym empty ∙ is)
  where
    some_there : (l r : List ℕ) → [] ≡ l ++ (10 ∷ r) → ⊥
    some_there [] r e = cc
    some_there (b ∷ l) r e = cc
line_there text l r (last lacks some is over) empty = some (sym is ∙ empty)

pub one_list : (text : List ℕ) (cs ds : List Command) → AreCommands text cs → AreCommands text ds → cs ≡ ds
one_list _ _ _ none none = refl
one_list _ _ _ none (more text rest d ds begins are) = absurd (line_there text begins.line rest begins.begins refl)
one_list _ _ _ (more text rest c cs begins are) none = absurd (line_there text begins.line rest begins.begins refl)
one_list _ _ _ (more text rest c cs begins are) (more _ other d ds also be) =
    let lines = one_line text begins.line also.line rest other begins.begins also.begins in
    let first : c ≡ d = one_command begins.line c d begins.is_command (subst (λ (l : List ℕ). IsCommand l d) (sym lines.0) also.is_command) in
    let others : cs ≡ ds = one_list rest cs ds are (subst (λ (l : List ℕ). AreCommands l ds) (sym lines.1) be) in
    ap (λ (e : Command). e ∷ cs) first ∙ ap (λ (es : List Command). d ∷ es) others

-- At least one

data AreLines : List ℕ → List (List ℕ) → Type 0 where
  no_line : AreLines [] []
  one_more : (text line rest : List ℕ) (ls : List (List ℕ)) → BeginsWithLine text line rest → AreLines rest ls → AreLines text (line ∷ ls)

longer : (b : ℕ) (text : List ℕ) (ls : List (List ℕ)) → b ≢ 10 → AreLines text ls → AreLines (b ∷ text) (ahead b ls)
longer b _ _ apart no_line = one_more (b ∷ []) (b ∷ []) [] [] (last (apart, tt) (λ e. cc) refl refl) no_line
longer b _ _ apart (one_more text line rest ls (ended lacks is) are) =
    one_more (b ∷ text) (b ∷ line) rest ls (ended (apart, lacks) (ap (λ (l : List ℕ). b ∷ l) is)) are
longer b _ _ apart (one_more text line rest ls (last lacks some is over) are) =
    one_more (b ∷ text) (b ∷ line) rest ls (last (apart, lacks) (λ e. cc) (ap (λ (l : List ℕ). b ∷ l) is) over) are

ended_first : (b : ℕ) (text : List ℕ) (ls : List (List ℕ)) → b ≡ 10 → AreLines text ls → AreLines (b ∷ text) ([] ∷ ls)
ended_first b text ls same are = one_more (b ∷ text) [] text ls (ended tt (ap (λ (k : ℕ). k ∷ text) same)) are

are_lines : (text : List ℕ) → AreLines text (lines_of text)
are_lines [] = no_line
are_lines (b ∷ bs) = by (b == 10) refl (are_lines bs)
  where
    by : (v : Bool) → (b == 10) ≡ v → AreLines bs (lines_of bs) → AreLines (b ∷ bs) (if v then [] ∷ lines_of bs else ahead b (lines_of bs))
    by true e rest = ended_first b bs (lines_of bs) (eqb-true b 10 e) rest
    by false e rest = longer b bs (lines_of bs) (λ (same : b ≡ 10). false_true (sym e ∙ eq-eqb b 10 same)) rest

their_commands : (text : List ℕ) (ls : List (List ℕ)) → AreLines text ls → AreCommands text (map read ls)
their_commands _ _ no_line = none
their_commands _ _ (one_more text line rest ls begins are) =
    more text rest (read line) (map read ls) (record { line = line; begins = begins; is_command = is_command line }) (their_commands rest ls are)

pub every_list : (text : List ℕ) → AreCommands text (commands_of text)
every_list text = their_commands text (lines_of text) (are_lines text)
