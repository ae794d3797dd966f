use Rattle.std.proofs.Common.{◌≡◌, subst, ap, ◌∙◌}
use Rattle.std.specs.Prelude.{IfOk}
use Rattle.pz_watch_points.specs.pz_trace.declared.forms.Form.{Form}
use Rattle.pz_watch_points.specs.pz_trace.Lines.{header}
use Rattle.pz_watch_points.specs.pz_trace.Forms.{form_of}
use Rattle.pz_run_playing.proofs.telling.header_line.Goals as goal

pub returns : goal.returns
returns g c = subst (λ (form : Form). IfOk c.header.result (λ line. line.items ≡ header form)) (c.form_of.ensures ∙ ap form_of c.limits.ensures) c.header.ensures
