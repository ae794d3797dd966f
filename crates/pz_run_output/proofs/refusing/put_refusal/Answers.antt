use Rattle.std.specs.Result.{result_err}
use Rattle.pz_trace.specs.declared.forms.Form.TheVariants.{Three}
use Rattle.pz_trace.specs.Lines.{header}
use Rattle.pz_run_output.proofs.Headerless.{first_halts, both_written}
use Rattle.pz_run_output.proofs.refusing.put_refusal.Goals as goal

pub returns-in_err-put : goal.returns-in_err-put
returns-in_err-put g c =
    first_halts _ _ (header (Three c.args.units)) c.pieces_join.ensures.halts c.in_err-put.field-0.0 c.from_residual-in_err-put.result c.from_residual-in_err-put.ensures.1 c.in_err-put.ensures.wrote

pub returns : goal.returns
returns g c =
    both_written _ _ (header (Three c.args.units)) c.pieces_join.ensures.joins _ (result_err c.put-2.result) c.in_ok-put.ensures.wrote
    (rw (c.as_slice.ensures.value, c.in_ok-expected.ensures) at c.put-2.ensures.wrote)
