use Rattle.std.proofs.Common.{◌∙◌, sym, ap, refl, Option, if◌then◌else◌}
use Rattle.pz_classes.specs.pz_syntax.declared.tokens.Pos.{Pos}
use Rattle.pz_check_duplicates.specs.devices.Earlier.{earlier}
use Rattle.pz_check_duplicates.specs.devices.Again.{same_key, thing_place}
use Rattle.pz_check_duplicates.proofs.Steps.{found_step, earliest_step}
use Rattle.pz_check_duplicates.proofs.again.least_again.Goals as goal

pub loop-thing-preserved : goal.loop-thing-preserved
loop-thing-preserved g c =
    let y = c.thing-item.result in
    record {
      noted = λ key.
          c.in_ok-first.ensures.noted key
          ∙ (ap (λ (o : Option Pos). if g.K.PartialEq.eq key y.key then earlier o y.place else o) (c.loop-thing.invariant.noted key)
          ∙ sym (earliest_step thing_place (λ x. g.K.PartialEq.eq key x.key) c.args.things.now y _ _ c.loop-thing-test.true c.thing-item.is refl));
      found = found_step (same_key g.K.PartialEq.eq) thing_place c.args.rule c.args.things.now y _ _ c.in_ok-first.first c.loop-thing.least _ _ c.loop-thing-test.true c.thing-item.is refl
          (c.in_ok-first.ensures.first ∙ c.loop-thing.invariant.noted y.key) c.least_later-least.ensures c.loop-thing.invariant.found;
    }
