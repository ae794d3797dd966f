use Rattle.pz_check_names.proofs.Shown.{none_shown}
use Rattle.pz_check_names.proofs.inherited.Inherited.new.Goals as goal

pub returns : goal.returns
returns c = record {
  fields = none_shown _ _ c.new.result c.new.ensures.none;
  variables = none_shown _ _ c.new-2.result c.new-2.ensures.none;
  ports = none_shown _ _ c.new-3.result c.new-3.ensures.none;
  messages = none_shown _ _ c.new-4.result c.new-4.ensures.none;
  methods = none_shown _ _ c.new-5.result c.new-5.ensures.none;
  starts = none_shown _ _ c.new-6.result c.new-6.ensures.none;
}
