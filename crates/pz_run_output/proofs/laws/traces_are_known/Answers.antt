use Rattle.pz_run_output.proofs.OneEndings.{one_ending}
use Rattle.pz_run_output.proofs.laws.traces_are_known.Goals as goal

pub returns : goal.returns
returns c = record {
  lines = λ text setting is. record {
    names = c.names_are_unbroken.ensures.names text setting.model is;
    events = λ start last events standing begins reaches. c.runs_tell_lines.ensures.events text setting start last events standing is begins reaches;
  };
  one = one_ending c.lines_differ.ensures.first c.lines_stand_apart.ensures.header c.lines_stand_apart.ensures.end;
  told = c.headers_differ.ensures.told;
}
