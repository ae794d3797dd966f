use Rattle.pz_trace_laws.proofs.Kept.{start_whole, next_whole, passing_whole, offer_whole}
use Rattle.pz_trace_laws.proofs.Told.{events_told}
use Rattle.pz_trace_laws.proofs.laws.runs_tell_lines.Goals as goal

pub returns : goal.returns
returns c = record {
  start = start_whole;
  stays = λ setting config next a d whole counted all. (next_whole setting config all whole a next, passing_whole setting config next d counted all);
  offers = λ setting config a all. offer_whole setting config all a;
  events = λ text setting start end events standing is begins reaches.
      let names = c.names_are_unbroken.ensures.names text setting.model is in
      let messages = c.names_are_unbroken.ensures.messages text setting.model is in
      events_told setting names messages c.one_next.ensures.whole c.lines_stand_apart.ensures.time c.lines_stand_apart.ensures.action
      start end events standing begins.all (start_whole setting start (λ two. messages) begins) reaches;
}
