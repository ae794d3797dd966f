-- Lines and commands, found by functions.
use Rattle.std.specs.Prelude.{ℕ, Bool, true, false, ◌&&◌, ◌==◌, not, nat_le, if◌then◌else◌, bytes_eq, eqb, List, [], ◌∷◌, map, Option, Some, None, codes}
use Rattle.std.specs.List.{slice_split, list_all}
use Rattle.pz_items.specs.Characters.{byte}
use Rattle.pz_words.specs.devices.Reading.{only_if, then_maybe, number_of}
use Rattle.pz_debug_commands.specs.Commands.{Command, menu, pick, pass, run, until, back, show, unknown, step_limit}

-- a number of steps that may be asked for
abbrev pub count_of : List ℕ → Option ℕ
count_of word = then_maybe (number_of word) (λ n. only_if (nat_le n step_limit) n)

-- the command that is made of a number, if there is one
abbrev pub with_number : (ℕ → Command) → Option ℕ → Command
with_number make None = unknown
with_number make (Some n) = make n

abbrev pub has_bytes : List ℕ → Bool
has_bytes [] = false
has_bytes (b ∷ bs) = true

abbrev pub is_unbroken : List ℕ → Bool
is_unbroken text = list_all (λ b. not (b == byte "\n")) text

-- this may be a word, in which no blank stands
abbrev pub is_word : List ℕ → Bool
is_word text = has_bytes text && is_unbroken text

abbrev pub alone : List ℕ → Command
alone word =
    if bytes_eq word (codes "menu") then menu
    else (if bytes_eq word (codes "pass") then pass else unknown)

abbrev pub with_one : List ℕ → List ℕ → Command
with_one name word =
    if bytes_eq name (codes "pick") then with_number (λ k. pick k) (number_of word)
    else (if bytes_eq name (codes "run") then with_number (λ n. run n) (count_of word)
    else (if bytes_eq name (codes "back") then with_number (λ n. back n) (count_of word) else unknown))

abbrev pub named : List ℕ → List ℕ → List ℕ → Command
named name first second =
    if bytes_eq name (codes "until") then with_number (λ n. until first n) (count_of second)
    else (if bytes_eq name (codes "show") && is_word second then show first second else unknown)

abbrev pub with_two : List ℕ → List ℕ → List ℕ → Command
with_two name first second = if is_word first then named name first second else unknown

abbrev pub command_in : List (List ℕ) → Command
command_in (w ∷ []) = alone w
command_in (w ∷ v ∷ []) = with_one w v
command_in (w ∷ u ∷ v ∷ []) = with_two w u v
command_in words = unknown

-- the words that stand between blanks
abbrev pub read : List ℕ → Command
read line = command_in (slice_split (λ b. eqb b 32) line)

-- a byte more at the front of the first line
abbrev pub ahead : ℕ → List (List ℕ) → List (List ℕ)
ahead b [] = (b ∷ []) ∷ []
ahead b (l ∷ ls) = (b ∷ l) ∷ ls

abbrev pub lines_of : List ℕ → List (List ℕ)
lines_of [] = []
lines_of (b ∷ bs) = if b == byte "\n" then [] ∷ lines_of bs else ahead b (lines_of bs)

abbrev pub commands_of : List ℕ → List Command
commands_of text = map read (lines_of text)
