use Rattle.std.proofs.Common.{◌≡◌, ◌∙◌, ◌∷◌, ◌<◌, ◌+◌, suc, ap, sym, subst, List, length, map, take, arith}
use Rattle.std.specs.Vec.Iter.{into_iter_items}
use Rattle.std.proofs.lemmas.Option.{slice_get_within}
use Rattle.pz_classes_code.specs.pz_syntax.ClassView.{model_view}
use Rattle.pz_classes.specs.declared.entry.Entry.{Entry}
use Rattle.pz_classes.specs.devices.Rows.{rows, row_view}
use Rattle.pz_classes.proofs.Counting.{rows_step, all_rows, one_further, nothing_left}
use Rattle.pz_classes.proofs.tabling.entries_of.Goals as goal

pub entry_of-requires-clause-inherited : goal.entry_of-requires-clause-inherited
entry_of-requires-clause-inherited c =
    let at = one_further c.args.table.items c.loop-members.number c.in-Some.members _ (c.loop-members.invariant.left ∙ c.in-Some.ensures.steps.0) in
    c.requires.inherited.each c.loop-members.number c.in-Some.members at.0

pub loop-members-preserved : goal.loop-members-preserved
loop-members-preserved c =
    let steps : into_iter_items c.loop-members.members-iterator ≡ c.in-Some.members ∷ into_iter_items c.next.new.self = c.in-Some.ensures.steps.0 in
    let at = one_further c.args.table.items c.loop-members.number c.in-Some.members (into_iter_items c.next.new.self) (c.loop-members.invariant.left ∙ steps) in
    let inside = slice_get_within c.args.table.items c.loop-members.number c.in-Some.members at.0 in
    let sized = c.requires.inherited.counted in
    let below : c.loop-members.number < suc (length (model_view c.args.model.now).decls) = omega arith in
    record {
      left = at.1;
      counted = let was = c.loop-members.invariant.counted in let gone = c.in-Some.ensures.steps.1 in let short = ap length steps in omega arith;
      within = omega arith;
      numbered = c.in_ok-entry.ensures.next;
      listed = subst (λ (es : List Entry). map row_view es ≡ take (c.loop-members.number + 1) (rows (model_view c.args.model.now))) (sym c.in_ok-push.ensures.ok)
          (rows_step (model_view c.args.model.now) c.loop-members.entries c.in_ok-entry.entry c.loop-members.number below c.in_ok-entry.ensures.row c.loop-members.invariant.listed);
    }

pub returns : goal.returns
returns c =
    let none = nothing_left _ (sym c.loop-members.invariant.counted ∙ c.in-None.ensures.steps.0) in
    c.loop-members.invariant.listed ∙ all_rows (model_view c.args.model.now) c.args.table.items c.loop-members.number c.requires.inherited.counted (c.loop-members.invariant.left ∙ none)
