use Rattle.std.proofs.Common.{◌+◌, sym, subst, ◌∙◌}
use Rattle.std.proofs.lemmas.Result.{IfOk-weaker}
use Rattle.pz_tree_refreshing.specs.pz_part_queries.Standpoints.{seen_from}
use Rattle.pz_tree_refreshing.specs.pz_rules.Settings.{Context}
use Rattle.pz_tree_refreshing.specs.pz_tree_nodes.View.{head_view}
use Rattle.pz_tree_refreshing.specs.devices.Asked.{AskRule}
use Rattle.pz_tree_elapsing.proofs.ByForm.{anew_wakes}
use Rattle.pz_tree_elapsing.proofs.waking.wake.Goals as goal

pub returns-then-asked_anew-clause-wakes : goal.returns-then-asked_anew-clause-wakes
returns-then-asked_anew-clause-wakes g m class known =
    let f = g.args.spot.frame.0 in
    let h = head_view g.args.head in
    IfOk-weaker g.ask.result _ _ (λ x rule a d c seen time.
    anew_wakes a d f c h (head_view x.head) x.kept g.args.kept.now (sym g.asked_anew.ensures ∙ g.if-asked_anew.true)
    (subst (λ (b : Context). AskRule b f (c + d) h (head_view x.head) x.kept) (sym seen)
    (subst (λ z. AskRule (seen_from m g.args.here.now class g.args.state.now.held) f z h (head_view x.head) x.kept) (sym time) rule))) (g.ask.ensures.asked m class known)

pub returns-else-asked_anew-clause-wakes : goal.returns-else-asked_anew-clause-wakes
returns-else-asked_anew-clause-wakes g m class known =
    λ a d c seen time. g.gone_on.ensures.goes a d g.args.spot.frame.0 c time (sym g.asked_anew.ensures ∙ g.if-asked_anew.false)
