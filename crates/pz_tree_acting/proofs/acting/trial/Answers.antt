use Rattle.std.proofs.Common.{◌∙◌}
use Rattle.pz_nodes.specs.Arena.{find}
use Rattle.pz_tree_acting.proofs.Finished.{begun_latest, begun_trouble, begun_undone, tries_trouble, tries_well}
use Rattle.pz_tree_acting.proofs.acting.trial.Goals as goal

pub undo_to-requires : goal.undo_to-requires
undo_to-requires g c = begun_latest c.args.state.now c.begin.new.state c.in_ok-begun.field-0 c.in-Ok.begun c.in-Ok.is c.in_ok-begun.ensures.state

pub returns-in-Ok-clause-answers : goal.returns-in-Ok-clause-answers
returns-in-Ok-clause-answers g c =
    tries_well c.args.here.now c.args.home.now c.args.how (find c.args.nodes.now) c.args.root c.args.place.now c.args.state.now c.begin.new.state c.in_ok-begun.field-0 c.in_ok-begun.ensures.leaves c.in-Ok.begun c.in-Ok.is

pub returns-in-Ok-clause-stays : goal.returns-in-Ok-clause-stays
returns-in-Ok-clause-stays g c = c.undo_to.ensures ∙ begun_undone c.args.state.now c.begin.new.state c.in_ok-begun.field-0 c.in-Ok.begun c.in-Ok.is c.in_ok-begun.ensures.state

pub returns-in-Err-clause-answers : goal.returns-in-Err-clause-answers
returns-in-Err-clause-answers g c =
    tries_trouble c.args.here.now c.args.home.now c.args.how (find c.args.nodes.now) c.args.root c.args.place.now c.args.state.now c.begin.new.state c.in_ok-begun.field-0 c.in_ok-begun.ensures.leaves c.in-Err.trouble c.in-Err.is

pub returns-in-Err-clause-stays : goal.returns-in-Err-clause-stays
returns-in-Err-clause-stays g c = begun_trouble c.args.state.now c.begin.new.state c.in_ok-begun.field-0 c.in-Err.trouble c.in-Err.is c.in_ok-begun.ensures.state
