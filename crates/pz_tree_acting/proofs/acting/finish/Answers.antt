use Rattle.std.proofs.Common.{List, ap, subst}
use Rattle.std.proofs.Math.Logic.{∥∥₁_map}
use Rattle.pz_nodes.specs.Arena.{find}
use Rattle.pz_part_actions.specs.pz_part_opening.Homes.{home_view}
use Rattle.pz_rules.specs.View.{term_view}
use Rattle.pz_rules.specs.pz_state.declared.state.FrameId.{FrameId}
use Rattle.pz_tree_regrowing.specs.pz_tree_nodes.Dropping.{numbers}
use Rattle.pz_tree_acting.specs.devices.Closing.{CloseRule}
use Rattle.pz_tree_acting.specs.devices.Begun.{MayGoOn}
use Rattle.pz_tree_regrowing.proofs.Shorts.{ends_in_time}
use Rattle.pz_tree_acting.proofs.Merely.{latest_merely}
use Rattle.pz_tree_acting.proofs.Finished.{stays, still_latest}
use Rattle.pz_tree_acting.proofs.acting.finish.Goals as goal

pub returns : goal.returns
returns g c =
    stays c.frames_are_counted.ensures.law c.openings_open_frames.ensures.law (home_view c.args.home.now) (find c.args.nodes.now) (find c.regrow.new.nodes) c.args.root c.args.clock c.args.place.now (term_view c.args.begun.part) c.in_ok-out.out
    c.args.state.now c.regrow.new.state c.close_frames.new.state c.keep.new.self (numbers c.new-lost.result.items) (numbers c.regrow.new.lost.items) c.args.listed.items c.list_part.new.listed.items c.regrow.new.gained.items c.args.steps.now c.regrow.new.steps
    (ap numbers c.new-lost.ensures.items) c.in_ok-list_part.ensures c.in_ok-out.ensures.regrown
    (subst (λ (l : List FrameId). CloseRule c.args.home.now.edition c.regrow.new.gained.items (numbers l) c.regrow.new.state c.close_frames.new.state) c.deref.ensures.value c.in_ok-close_frames.ensures.closed) c.keep.ensures

pub regrow-requires : goal.regrow-requires
regrow-requires g c = ends_in_time c.args.clock (term_view c.args.begun.part) c.requires.room c.requires.short

pub keep-requires : goal.keep-requires
keep-requires g c =
    latest_merely c.close_frames.new.state c.args.begun.point (∥∥₁_map c.requires.stands (λ (stands : MayGoOn (find c.args.nodes.now) c.args.root c.args.clock c.args.place.now).
    still_latest (home_view c.args.home.now) (find c.args.nodes.now) (find c.regrow.new.nodes) c.args.root c.args.clock c.args.place.now (term_view c.args.begun.part) c.in_ok-out.out c.args.state.now c.regrow.new.state c.close_frames.new.state
    (numbers c.new-lost.result.items) (numbers c.regrow.new.lost.items) c.list_part.new.listed.items c.regrow.new.gained.items c.args.steps.now c.regrow.new.steps c.args.begun.point c.in_ok-out.ensures.regrown stands c.requires.short c.in_ok-close_frames.ensures.marks c.requires.latest))
