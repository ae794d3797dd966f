use Rattle.std.proofs.Common.{ap, subst}
use Rattle.std.specs.Prelude.{IfOk}
use Rattle.pz_classes_code.specs.CodeView.{list_view}
use Rattle.pz_copy.specs.pz_state.States.{StateView}
use Rattle.pz_copy.specs.pz_state.Marks.{Seen}
use Rattle.pz_eval.specs.Parcels.{FindsParcel}
use Rattle.pz_eval.proofs.Finding.{is_latest, is_back}
use Rattle.pz_eval.proofs.parcels.try_parcel.Goals as goal

pub undo_to-requires : goal.undo_to-requires
undo_to-requires c = is_latest c.args.state.now c.mark.new.self c.parcel_of-found.new.state c.in_ok-point.point c.in_ok-point.ensures.ok c.parcel_of-found.ensures.marks

pub returns-clause-finds : goal.returns-clause-finds
returns-clause-finds c m known =
    subst (λ (s : StateView). IfOk c.parcel_of-found.result (FindsParcel m c.args.clock c.args.frame.0 s (list_view c.args.codes.now) c.args.allowance)) (ap (λ (t : Seen). t.held) c.in_ok-point.ensures.ok) (c.parcel_of-found.ensures.finds m known)

pub returns-clause-state : goal.returns-clause-state
returns-clause-state c = is_back c.args.state.now c.mark.new.self c.parcel_of-found.new.state c.undo_to.new.self c.in_ok-point.point c.in_ok-point.ensures.ok c.parcel_of-found.ensures.marks c.undo_to.ensures
