-- Sessions that take no step, worked out.
use Rattle.std.proofs.Common.{[], ◌∷◌, arith}
use Rattle.std.specs.Prelude.{codes}
use Rattle.std.specs.Fmt.{digits}
use Rattle.pz_rules.specs.Settings.{Setting}
use Rattle.pz_debug_commands.specs.Commands.{unknown, back}
use Rattle.pz_debug_commands.specs.Texts as texts
use Rattle.pz_debug_commands.proofs.Lines.{every_list}
use Rattle.pz_debug_replies.specs.Replies.{is_unknown, too_far}
use Rattle.pz_debug_replies.specs.Sessions.{IsSessionText, none, more}

-- no command
empty_file : (setting : Setting) → IsSessionText setting [] []
empty_file setting = record { are = []; are_commands = texts.none; steps = []; replies = none 1 [] }

-- a blank behind a command; more steps back than there are
refused_lines : (setting : Setting) → IsSessionText setting (codes "menu \nback 1") (codes "refused command 1\nrefused back 1 of 0\n")
unfolding digits
refused_lines setting = record {
  are = unknown ∷ back 1 ∷ [];
  are_commands = every_list (codes "menu \nback 1");
  steps = [];
  replies = more 1 [] [] [] unknown (back 1 ∷ []) (codes "refused command 1\n") (codes "refused back 1 of 0\n") (is_unknown []) (more 2 [] [] [] (back 1) [] (codes "refused back 1 of 0\n") [] (too_far 1 [] (omega arith)) (none 3 []));
}

-- an empty line, at the end
empty_line : (setting : Setting) → IsSessionText setting (codes "\n\n") (codes "refused command 1\nrefused command 2\n")
unfolding digits
empty_line setting = record {
  are = unknown ∷ unknown ∷ [];
  are_commands = every_list (codes "\n\n");
  steps = [];
  replies = more 1 [] [] [] unknown (unknown ∷ []) (codes "refused command 1\n") (codes "refused command 2\n") (is_unknown []) (more 2 [] [] [] unknown [] (codes "refused command 2\n") [] (is_unknown []) (none 3 []));
}
