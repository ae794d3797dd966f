use Rattle.std.proofs.Common.{◌≡◌, refl, sym, ◌∙◌, Some, None, length}
use Rattle.std.proofs.lemmas.List.{length-map}
use Rattle.pz_syntax.specs.ClassView.{decl_view, model_view}
use Rattle.pz_env.specs.devices.Counting.{size_of, opened}
use Rattle.pz_env.proofs.Counted.{begun, goes_on, fewer, passed, fewer_left}
use Rattle.pz_env.proofs.room.is_large.Goals as goal

pub loop-counting-init : goal.loop-counting-init
loop-counting-init c =
    let deep : c.len.result ≡ length (model_view c.args.model.now).decls = c.len.ensures ∙ sym (length-map c.args.model.now.decls decl_view) in
    begun (model_view c.args.model.now) c.len.result (decl_view c.args.decl.now) c.new.result.items c.count.new.self deep c.new.ensures.items c.in_ok-count.ensures.left c.in_ok-count.ensures.processes c.in_ok-count.ensures.channels

pub loop-counting-smaller-in-Continue-branch-2 : goal.loop-counting-smaller-in-Continue-branch-2
loop-counting-smaller-in-Continue-branch-2 c =
    let at : opened (model_view c.args.model.now) c.in-Some.held ≡ Some (decl_view c.in-Some-declared.decl.now) = sym c.in-Some-declared.ensures in
    fewer (model_view c.args.model.now) c.in-Some.held c.pop.new.self.items c.loop-counting.counting.left.items c.count-in-Some-declared.new.self.left.items (decl_view c.in-Some-declared.decl.now) c.in-Some.ensures.items at c.in_ok-count-2.ensures.left

pub loop-counting-preserved-in-Continue-branch-2 : goal.loop-counting-preserved-in-Continue-branch-2
loop-counting-preserved-in-Continue-branch-2 c =
    let at : opened (model_view c.args.model.now) c.in-Some.held ≡ Some (decl_view c.in-Some-declared.decl.now) = sym c.in-Some-declared.ensures in
    goes_on (model_view c.args.model.now) c.in-Some.held c.pop.new.self.items (decl_view c.in-Some-declared.decl.now) c.loop-counting.counting c.count-in-Some-declared.new.self
    (size_of (model_view c.args.model.now) (decl_view c.args.decl.now)) c.loop-counting.invariant c.in-Some.ensures.items at c.in_ok-count-2.ensures.left c.in_ok-count-2.ensures.processes c.in_ok-count-2.ensures.channels

pub loop-counting-smaller : goal.loop-counting-smaller
loop-counting-smaller c = fewer_left (model_view c.args.model.now) c.in-Some.held c.pop.new.self.items c.loop-counting.counting.left.items c.in-Some.ensures.items

pub loop-counting-preserved : goal.loop-counting-preserved
loop-counting-preserved c =
    let at : opened (model_view c.args.model.now) c.in-Some.held ≡ None = sym c.in_default-declared.ensures in
    passed (model_view c.args.model.now) c.in-Some.held c.pop.new.self.items c.loop-counting.counting _
    (size_of (model_view c.args.model.now) (decl_view c.args.decl.now)) c.loop-counting.invariant c.in-Some.ensures.items at refl refl refl
