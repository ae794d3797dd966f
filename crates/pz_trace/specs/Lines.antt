-- The lines of a trace. Each begins with the clock, but for the first, and ends with LF.
use Rattle.std.specs.Prelude.{ℕ, List, ◌++◌, codes}
use Rattle.std.specs.Fmt.{decimal}
use Rattle.pz_rules.specs.pz_syntax.Classes.{ModelTree}
use Rattle.pz_rules.specs.pz_offer.declared.trouble.Trouble.{Trouble}
use Rattle.pz_rules.specs.pz_offer.declared.trouble.Trouble.TheVariants.{Fault, Spent, High}
use Rattle.pz_rules.specs.declared.action.Action.{Action}
use Rattle.pz_trace.specs.declared.forms.Form.{Form}
use Rattle.pz_trace.specs.declared.forms.Form.TheVariants.{One, Two, Three}
use Rattle.pz_trace.specs.declared.ending.Ending.{Ending}
use Rattle.pz_trace.specs.declared.ending.Ending.TheVariants as ending
use Rattle.pz_trace.specs.Words.{fault_word}
use Rattle.pz_trace.specs.Labels.{spot, label}

abbrev pub newline : List ℕ
newline = codes "\n"

-- the first line by its form: `poosl-trace 1`, `poosl-trace 2` or `poosl-trace 3 units`
abbrev pub header : Form → List ℕ
header One = codes "poosl-trace 1\n"
header Two = codes "poosl-trace 2\n"
header (Three units) = codes "poosl-trace 3 " ++ (decimal units ++ newline)

-- `clock time d`
abbrev pub time_line : ℕ → ℕ → List ℕ
time_line clock d = decimal clock ++ (codes " time " ++ (decimal d ++ newline))

module _ (m : ModelTree) where
  -- `clock n k label`: of n offers the one of number k
  abbrev pub action_line : ℕ → ℕ → ℕ → Action → List ℕ
  action_line clock n k a = decimal clock ++ (codes " " ++ (decimal n ++ (codes " " ++ (decimal k ++ (codes " " ++ (label m a ++ newline))))))

  -- `fault kind path line:column`, and the same with `spent` or `high` alone
  abbrev pub trouble_words : Trouble → List ℕ
  trouble_words (Fault kind process at) = codes "fault " ++ (fault_word kind ++ (codes " " ++ spot m process at))
  trouble_words (Spent process at) = codes "spent " ++ spot m process at
  trouble_words (High process at) = codes "high " ++ spot m process at

  abbrev pub end_words : Ending → List ℕ
  end_words ending.End = codes "end"
  end_words ending.Deadlock = codes "deadlock"
  end_words ending.Stop = codes "stop"
  end_words (ending.Trouble trouble) = trouble_words trouble

  -- `clock words`
  abbrev pub end_line : ℕ → Ending → List ℕ
  end_line clock end = decimal clock ++ (codes " " ++ (end_words end ++ newline))
