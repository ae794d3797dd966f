use Rattle.pz_check_names.proofs.Shown.{opened_shown}
use Rattle.pz_check_names.proofs.inherited.Inherited.open.Goals as goal

pub returns : goal.returns
returns c = λ decls shown. record {
  fields = opened_shown _ _ _ _ _ c.in_ok-open.ensures.opened shown.fields;
  variables = opened_shown _ _ _ _ _ c.in_ok-open-2.ensures.opened shown.variables;
  ports = opened_shown _ _ _ _ _ c.in_ok-open-3.ensures.opened shown.ports;
  messages = opened_shown _ _ _ _ _ c.in_ok-open-4.ensures.opened shown.messages;
  methods = opened_shown _ _ _ _ _ c.in_ok-open-5.ensures.opened shown.methods;
  starts = opened_shown _ _ _ _ _ c.in_ok-open-6.ensures.opened shown.starts;
}
