use Rattle.std.proofs.Common.{subst, sym}
use Rattle.std.proofs.lemmas.Result.{IfOk-weaker}
use Rattle.pz_part_actions.specs.pz_classes.CheckedView.{checked_model}
use Rattle.pz_part_actions.specs.Becoming.{process_left}
use Rattle.pz_rules.specs.View.{term_view}
use Rattle.pz_tree_acting.specs.declared.how.How.{How}
use Rattle.pz_tree_acting.specs.devices.Begun.{ActsSo, IsTaken, DeedRule}
use Rattle.pz_tree_acting.proofs.Marked.{known_is}
use Rattle.pz_tree_acting.proofs.Begins.{done_alone, done_handing}
use Rattle.pz_tree_acting.proofs.beginning.do_deed.Goals as goal

pub perform-requires-clause-known : goal.perform-requires-clause-known
perform-requires-clause-known c = known_is (checked_model c.args.home.now.checked.now) c.args.here.now c.requires.knows

pub perform-requires-clause-acts : goal.perform-requires-clause-acts
perform-requires-clause-acts c = subst (λ (h : How). ActsSo h (term_view c.args.part.now)) c.in-Internal.is c.requires.acts

pub do_send-requires-clause-sends : goal.do_send-requires-clause-sends
do_send-requires-clause-sends c = subst (λ (h : How). ActsSo h (term_view c.args.part.now)) c.in-Send.is c.requires.acts

pub do_receive-requires-clause-receives : goal.do_receive-requires-clause-receives
do_receive-requires-clause-receives c = subst (λ (h : How). ActsSo h (term_view c.args.part.now)) c.in-Receive.is c.requires.acts

pub returns-in-Internal-clause-answers : goal.returns-in-Internal-clause-answers
returns-in-Internal-clause-answers c =
    done_alone c.args.here.now c.args.home.now c.args.how c.args.state.now.held c.perform.new.state.held c.args.frame.0 (term_view c.args.part.now) c.perform.result c.in-Internal.is
    (λ kind pos can. c.perform.ensures.performs kind pos c.requires.knows can)

pub returns-in-Send-clause-answers : goal.returns-in-Send-clause-answers
returns-in-Send-clause-answers c =
    done_handing c.args.here.now c.args.home.now c.args.how c.args.state.now.held c.do_send.new.state.held c.args.frame.0 (term_view c.args.part.now) c.do_send.result c.in-Send.is c.do_send.ensures.answers

pub returns-in-Receive-clause-answers : goal.returns-in-Receive-clause-answers
returns-in-Receive-clause-answers c = IfOk-weaker c.do_receive.result (IsTaken c.args.here.now c.args.home.now c.args.state.now.held c.args.frame.0 (term_view c.args.part.now) c.in-Receive.parcel.now c.do_receive.new.state.held)
    (λ left. DeedRule c.args.here.now c.args.home.now c.args.how c.args.state.now.held c.args.frame.0 (term_view c.args.part.now) (process_left c.do_receive.new.state.held left))
    (λ left rule. subst (λ (h : How). DeedRule c.args.here.now c.args.home.now h c.args.state.now.held c.args.frame.0 (term_view c.args.part.now) (process_left c.do_receive.new.state.held left)) (sym c.in-Receive.is) (λ parcel. rule)) c.do_receive.ensures.answers
