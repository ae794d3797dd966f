use Rattle.std.proofs.Common.{◌≡◌, ◌∙◌, ◌∷◌, ap, sym, length, arith}
use Rattle.std.specs.Vec.Iter.{into_iter_items}
use Rattle.std.proofs.lemmas.List.{nil_from_length}
use Rattle.pz_term_enabled.specs.devices.Adding.{action_of}
use Rattle.pz_term_enabled.proofs.Moving.{moved_one, moved_all}
use Rattle.pz_term_enabled.proofs.adding.add_actions.Goals as goal

pub loop-doing-preserved : goal.loop-doing-preserved
loop-doing-preserved c =
    let steps : into_iter_items c.loop-doing.doing-iterator ≡ c.in-Some.doing ∷ into_iter_items c.next.new.self = c.in-Some.ensures.steps.0 in
    record {
      counted = let was = c.loop-doing.invariant.counted in let gone = c.in-Some.ensures.steps.1 in let short = ap length steps in omega arith;
      added = moved_one (action_of c.args.process) (into_iter_items c.loop-doing.doing-iterator) (into_iter_items c.next.new.self) c.in-Some.doing c.loop-doing.actions.items _ _ steps c.in_ok-push.ensures.items c.loop-doing.invariant.added;
    }

pub returns : goal.returns
returns c =
    let none = nil_from_length _ (sym c.loop-doing.invariant.counted ∙ c.in-None.ensures.steps.0) in
    moved_all (action_of c.args.process) _ c.loop-doing.actions.items _ none c.loop-doing.invariant.added
