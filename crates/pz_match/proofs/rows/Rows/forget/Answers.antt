-- `retain` keeps what its closure says.
use Rattle.std.proofs.Common.{rules, ap, ◌∙◌}
use Rattle.std.specs.Prelude.{not, nat_eq, filter}
use Rattle.std.proofs.lemmas.Fn.{filter_same}
use Rattle.pz_match.specs.declared.rows.Row.{Row}
use Rattle.pz_match.proofs.rows.Rows.forget.Goals as goal

pub returns : goal.returns
returns c =
    filter_same _ (λ (r : Row). not (nat_eq r.process c.args.process)) _ (λ x b f' k. search rules) _ _ c.retain.ensures.filtered
    ∙ ap (filter (λ (r : Row). not (nat_eq r.process c.args.process))) c.self.view_is
