use Rattle.std.proofs.Common.{ap, ◌∙◌, sym}
use Rattle.std.specs.Option.{option_flatten}
use Rattle.pz_check_scopes.proofs.Values.{value_of_notes}
use Rattle.pz_check_scopes.proofs.nested.Nested.get.Goals as goal

pub returns-in-Some : goal.returns-in-Some
returns-in-Some g c = record { value = λ scopes kept. ap option_flatten c.in-Some.ensures.value ∙ (kept.notes.values c.args.key ∙ sym (value_of_notes g.K.PartialEq.eq scopes c.args.key)) }

pub returns-in-None : goal.returns-in-None
returns-in-None g c = record { value = λ scopes kept. ap option_flatten c.in-None.ensures.value ∙ (kept.notes.values c.args.key ∙ sym (value_of_notes g.K.PartialEq.eq scopes c.args.key)) }
