-- How a run has ended, in words: those of a trace, and those of an entry that is no offer.
use Rattle.std.specs.Prelude.{ℕ, List, ◌++◌, codes}
use Rattle.std.specs.Fmt.{decimal}
use Rattle.pz_rules.specs.pz_syntax.Classes.{ModelTree}
use Rattle.pz_rules.specs.Runs.{Ending, ended, deadlocked, troubled, halted, refused}
use Rattle.pz_watch_points.specs.pz_trace.declared.ending.Ending.TheVariants.{End, Deadlock, Stop, Trouble}
use Rattle.pz_watch_points.specs.pz_trace.Lines.{newline, end_words}
use Rattle.pz_watch_points.specs.pz_trace.TraceText.{run_ending}
use Rattle.pz_run_playing.specs.declared.finale.Finale.{Finale}
use Rattle.pz_run_playing.specs.declared.finale.Finale.TheVariants as finale

-- the ending that a finale of the code is
abbrev pub ending_of : Finale → Ending
ending_of (finale.Ended ending) = run_ending ending
ending_of (finale.Refused entry offers) = refused entry offers

module _ (m : ModelTree) where
  -- an entry that is refused is told with the number of offers, which is 0 where it is left over
  abbrev pub ending_words : Ending → List ℕ
  ending_words ended = end_words m End
  ending_words deadlocked = end_words m Deadlock
  ending_words halted = end_words m Stop
  ending_words (troubled trouble) = end_words m (Trouble trouble)
  ending_words (refused entry count) = codes "refused " ++ (decimal entry ++ (codes " of " ++ decimal count))

  -- `clock words`
  abbrev pub last_line : ℕ → Ending → List ℕ
  last_line clock ending = decimal clock ++ (codes " " ++ (ending_words ending ++ newline))
