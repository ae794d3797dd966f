use Rattle.std.specs.Option.{option_map}
use Rattle.pz_run_replaying.proofs.Written.{refusal_cut}
use Rattle.pz_run_replaying.proofs.refusing.refuse.Goals as goal

pub returns-in_err-say_refused-clause-wrote : goal.returns-in_err-say_refused-clause-wrote
returns-in_err-say_refused-clause-wrote g c =
    refusal_cut c.rules_are_known.ensures (g.W.Sink.state c.args.out.now) (g.W.Sink.state c.say_refused.new.out) c.args.number (option_map (λ line. line.items) c.args.expected) c.in_err-say_refused.field-0.0
    c.from_residual.result c.from_residual.ensures.1 c.in_err-say_refused.ensures
