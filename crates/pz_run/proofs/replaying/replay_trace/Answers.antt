use Rattle.std.proofs.Common.{sym, ◌∙◌}
use Rattle.pz_run_output.specs.pz_trace.declared.forms.Form.TheVariants.{One}
use Rattle.pz_run.proofs.Replayed.{is_header, is_second}
use Rattle.pz_run.proofs.replaying.replay_trace.Goals as goal

pub replay_form-requires-clause-told : goal.replay_form-requires-clause-told
replay_form-requires-clause-told g c = is_header c.form_told-told.result c.args.trace.now c.form_told-told.ensures (sym c.is_first.ensures ∙ c.if-is_first.true)

pub replay_form-requires-clause-asked : goal.replay_form-requires-clause-asked
replay_form-requires-clause-asked g c = λ second. absurd (second (is_header c.form_told-told.result c.args.trace.now c.form_told-told.ensures (sym c.is_first.ensures ∙ c.if-is_first.true)))

pub replay_form-requires-clause-tells : goal.replay_form-requires-clause-tells
replay_form-requires-clause-tells g c = c.requires.tells One

pub replay_second-requires-clause-second : goal.replay_second-requires-clause-second
replay_second-requires-clause-second g c =
    is_second c.headers_differ.ensures.told c.form_told-told.result c.args.trace.now c.form_told-told.ensures (sym c.is_first.ensures ∙ c.if-is_first.false)
