use Rattle.std.proofs.Common.{refl, ap, ◌∙◌}
use Rattle.pz_classes_code.specs.pz_syntax.Classes.{ModelTree}
use Rattle.pz_debug_replies.specs.Lines.{show_line}
use Rattle.pz_debug_session.specs.Sessions.{stands_in, steps_in}
use Rattle.pz_debug_commands.specs.Commands.{show}
use Rattle.pz_debug_replies.proofs.Written.{err_is, put_line}
use Rattle.pz_debug_replies.proofs.Replied.{nothing_replied, can_show, value_told}
use Rattle.pz_debug_replies.proofs.showing.tell_value.Goals as goal

pub shown-requires : goal.shown-requires
shown-requires g c =
    can_show c.rules_are_known.ensures (steps_in c.args.session.now) (stands_in g.E.Simulator.simulation c.args.session.now) c.args.path.now c.args.name.now c.args.place.process c.args.place.variable c.requires.at c.requires.is

pub returns-in_err-value : goal.returns-in_err-value
returns-in_err-value g c = λ line.
    nothing_replied c.rules_are_known.ensures line (show c.args.path.now c.args.name.now) (steps_in c.args.session.now) (stands_in g.E.Simulator.simulation c.args.session.now) _ _ _ c.from_residual.result c.requires.at refl (err_is c.from_residual.result _ c.from_residual.ensures.1)

pub returns-in_err-line : goal.returns-in_err-line
returns-in_err-line g c = λ line.
    nothing_replied c.rules_are_known.ensures line (show c.args.path.now c.args.name.now) (steps_in c.args.session.now) (stands_in g.E.Simulator.simulation c.args.session.now) _ _ _ c.from_residual-in_err-line.result c.requires.at refl (err_is c.from_residual-in_err-line.result _ c.from_residual-in_err-line.ensures.1)

pub returns : goal.returns
returns g c = λ line.
    value_told c.rules_are_known.ensures line (steps_in c.args.session.now) (stands_in g.E.Simulator.simulation c.args.session.now) c.args.path.now c.args.name.now c.args.place.process c.args.place.variable c.in_ok-value.value _ _ c.put.result
    c.requires.at c.requires.is c.in_ok-value.ensures
    (put_line c.as_slice.result.now _ _ c.put.result _ c.put.ensures.wrote (c.as_slice.ensures.value ∙ c.in_ok-line.ensures ∙ ap (λ (m : ModelTree). show_line m c.args.path.now c.args.name.now c.in_ok-value.value) c.checked.ensures))
