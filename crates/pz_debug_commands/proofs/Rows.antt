-- Lines and texts of commands, worked out.
use Rattle.std.specs.Prelude.{[], ◌∷◌, codes}
use Rattle.std.specs.Fmt.{digits}
use Rattle.pz_debug_commands.specs.Commands.{menu, pick, pass, run, until, back, show, unknown, IsCommand}
use Rattle.pz_debug_commands.specs.Texts.{AreCommands}
use Rattle.pz_debug_commands.proofs.Spelled.{is_command}
use Rattle.pz_debug_commands.proofs.Lines.{every_list}

-- each command
menu_line : IsCommand (codes "menu") menu
unfolding digits
menu_line = is_command (codes "menu")

first_pick : IsCommand (codes "pick 0") (pick 0)
unfolding digits
first_pick = is_command (codes "pick 0")

last_pick : IsCommand (codes "pick 18446744073709551615") (pick 18446744073709551615)
unfolding digits
last_pick = is_command (codes "pick 18446744073709551615")

pass_line : IsCommand (codes "pass") pass
unfolding digits
pass_line = is_command (codes "pass")

run_line : IsCommand (codes "run 1000000") (run 1000000)
unfolding digits
run_line = is_command (codes "run 1000000")

until_line : IsCommand (codes "until run 9") (until (codes "run") 9)
unfolding digits
until_line = is_command (codes "until run 9")

back_line : IsCommand (codes "back 0") (back 0)
unfolding digits
back_line = is_command (codes "back 0")

show_line : IsCommand (codes "show a.b n") (show (codes "a.b") (codes "n"))
unfolding digits
show_line = is_command (codes "show a.b n")

-- a CR and a tab are bytes of a word as others are
odd_words : IsCommand (codes "show \tp n\r") (show (codes "\tp") (codes "n\r"))
unfolding digits
odd_words = is_command (codes "show \tp n\r")

-- numbers: none, a leading zero, a sign, no digit, and too great ones
no_number : IsCommand (codes "pick") unknown
unfolding digits
no_number = is_command (codes "pick")

nothing_behind : IsCommand (codes "pick ") unknown
unfolding digits
nothing_behind = is_command (codes "pick ")

leading_zero : IsCommand (codes "pick 01") unknown
unfolding digits
leading_zero = is_command (codes "pick 01")

sign : IsCommand (codes "pick +1") unknown
unfolding digits
sign = is_command (codes "pick +1")

no_digit : IsCommand (codes "pick 1x") unknown
unfolding digits
no_digit = is_command (codes "pick 1x")

too_great : IsCommand (codes "pick 18446744073709551616") unknown
unfolding digits
too_great = is_command (codes "pick 18446744073709551616")

too_many_steps : IsCommand (codes "run 1000001") unknown
unfolding digits
too_many_steps = is_command (codes "run 1000001")

too_many_until : IsCommand (codes "until m 1000001") unknown
unfolding digits
too_many_until = is_command (codes "until m 1000001")

too_many_back : IsCommand (codes "back 1000001") unknown
unfolding digits
too_many_back = is_command (codes "back 1000001")

-- blanks: before, behind, two of them
blank_before : IsCommand (codes " menu") unknown
unfolding digits
blank_before = is_command (codes " menu")

blank_behind : IsCommand (codes "menu ") unknown
unfolding digits
blank_behind = is_command (codes "menu ")

two_blanks : IsCommand (codes "pick  1") unknown
unfolding digits
two_blanks = is_command (codes "pick  1")

no_message : IsCommand (codes "until  9") unknown
unfolding digits
no_message = is_command (codes "until  9")

-- words: too few, too many, none, another, another case
too_few : IsCommand (codes "show p") unknown
unfolding digits
too_few = is_command (codes "show p")

too_many : IsCommand (codes "until m 9 9") unknown
unfolding digits
too_many = is_command (codes "until m 9 9")

no_word : IsCommand [] unknown
unfolding digits
no_word = is_command []

other_word : IsCommand (codes "step") unknown
unfolding digits
other_word = is_command (codes "step")

capital : IsCommand (codes "Menu") unknown
unfolding digits
capital = is_command (codes "Menu")

-- a CR before the end of a line, and a tab for a blank
return_behind : IsCommand (codes "menu\r") unknown
unfolding digits
return_behind = is_command (codes "menu\r")

tab : IsCommand (codes "pick\t1") unknown
unfolding digits
tab = is_command (codes "pick\t1")

-- Texts: none; a last line without its LF; two LF at the end; an empty line first

empty_text : AreCommands [] []
unfolding digits
empty_text = every_list []

no_end : AreCommands (codes "pass\nmenu") (pass ∷ menu ∷ [])
unfolding digits
no_end = every_list (codes "pass\nmenu")

two_ends : AreCommands (codes "menu\n\n") (menu ∷ unknown ∷ [])
unfolding digits
two_ends = every_list (codes "menu\n\n")

empty_first : AreCommands (codes "\nback 2") (unknown ∷ back 2 ∷ [])
unfolding digits
empty_first = every_list (codes "\nback 2")
