use Rattle.std.proofs.Common.{subst, ◌∙◌, List, ℕ}
use Rattle.std.specs.Result.{result_err}
use Rattle.pz_io.specs.Writing.{Wrote}
use Rattle.pz_run_replaying.proofs.Written.{none_written}
use Rattle.pz_run_replaying.proofs.refusing.say_refused.Goals as goal

pub returns-in_err-line : goal.returns-in_err-line
returns-in_err-line g c = none_written c.rules_are_known.ensures _ _ c.from_residual.result c.from_residual.ensures.1

pub returns : goal.returns
returns g c =
    subst (λ (l : List ℕ). Wrote (g.W.Sink.state c.args.out.now) (g.W.Sink.state c.put.new.out) l (result_err c.put.result)) (c.as_slice.ensures.value ∙ c.in_ok-line.ensures) c.put.ensures.wrote
