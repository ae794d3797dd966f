use Rattle.std.proofs.Common.{◌≡◌, true, false, [], sym, ◌∙◌, subst}
use Rattle.pz_nodes.specs.Arena.{find}
use Rattle.pz_tree_nodes.specs.Dropping.{numbers}
use Rattle.pz_tree_regrowing.specs.devices.Levels.{BareRule}
use Rattle.pz_tree_regrowing.proofs.Calls.{frame_gives_way, frame_goes_on}
use Rattle.pz_tree_regrowing.proofs.Writes.{one_more, none_in, some_in}
use Rattle.pz_tree_regrowing.proofs.frames.frame_round.Goals as goal
use Rattle.pz_tree_regrowing.proofs.frames.frame_round.Goals.{else-bare-via-then-bare+else-is_empty, else-bare-via-else-bare}

pub returns-then-is_empty : goal.returns-then-is_empty
returns-then-is_empty g c =
    let m = find c.args.nodes.now in
    let call = c.args.call in
    let plain : call.results ≡ [] = sym c.get.ensures ∙ sym c.as_slice.ensures ∙ none_in c.as_slice.result.now (sym c.is_empty.ensures ∙ c.if-is_empty.true) in
    λ clock i. frame_gives_way clock c.args.key i c.args.kid call.own call.inputs call.results m (find c.release.new.nodes) (numbers c.args.lost.now.items) (numbers c.push.new.self.items)
    c.args.steps.now c.stands_bare-bare.new.steps c.release.new.steps plain (subst (BareRule m c.args.kid) c.if-bare.true c.stands_bare-bare.ensures.bare) c.release.ensures.free
    (one_more c.args.lost.now.items c.push.new.self.items call.own c.in_ok-push.ensures.items) c.stands_bare-bare.ensures.ticks c.release.ensures.ticks

pub returns : goal.returns
returns g c =
    let m = find c.args.nodes.now in
    let call = c.args.call in
    let bare = c.stands_bare-bare.result in
    let stays : bare ≡ true → call.results ≡ [] → ⊥ = elim c.else-bare.branch [
      | else-bare-via-then-bare+else-is_empty w ↦ λ b n. some_in w.as_slice.result.now (sym w.is_empty.ensures ∙ w.if-is_empty.false) (w.as_slice.ensures ∙ w.get.ensures ∙ n)
      | else-bare-via-else-bare w ↦ λ b n. absurd (let f : bare ≡ false = w.if-bare.false in cc)
    ] in
    λ clock i. frame_goes_on clock c.args.key i c.args.kid call.own call.inputs call.results bare c.one.result m (find c.write.new.nodes) c.in_ok-kept.kept c.kept_of-body.result (numbers c.args.lost.now.items)
    c.args.steps.now c.stands_bare-bare.new.steps c.kept_of-body.new.steps c.write.new.steps stays c.stands_bare-bare.ensures.bare c.one.ensures c.kept_of-body.ensures.kept c.in_ok-kept.ensures
    c.write.ensures.written c.stands_bare-bare.ensures.ticks c.kept_of-body.ensures.ticks c.write.ensures.ticks
