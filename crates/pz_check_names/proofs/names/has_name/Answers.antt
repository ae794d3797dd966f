use Rattle.std.proofs.Common.{◌≡◌, ◌∙◌, rules}
use Rattle.pz_check_names.proofs.Shown.{value_shown}
use Rattle.pz_check_names.proofs.names.has_name.Goals as goal

pub returns : goal.returns
returns c = λ lists shown.
    let named : c.as_bytes.result.now ≡ c.args.name.now = search rules in
    rw (← named) (c.is_some.ensures ∙ value_shown _ _ lists c.args.names.now c.as_bytes.result shown c.get.result c.get.ensures.value)
