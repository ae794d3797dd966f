use Rattle.std.proofs.Common.{◌≡◌, ◌∙◌, ap, sym, ℕ, List, Option, length, arith}
use Rattle.pz_classes_code.specs.pz_syntax.ClassView.{model_view}
use Rattle.pz_check_violations.proofs.Leasts.{least_at_some, least_at_none}
use Rattle.pz_classes_rules.specs.Violations.{Violates}
use Rattle.pz_classes.proofs.Building.{each_is_within, rounds_are, nobody_seen, walk_is, walk_of}
use Rattle.pz_classes_rules.proofs.FewMarks.{room}
use Rattle.pz_classes_rules.proofs.Found.{least_found}
use Rattle.pz_classes_rules.proofs.Rounds.{nobody_goes_round}
use Rattle.pz_classes.proofs.classes.Classes.build.Goals as goal

pub returns-in-Some-clause-refused : goal.returns-in-Some-clause-refused
returns-in-Some-clause-refused c = least_at_some (Violates (model_view c.args.model.now)) _ c.in-Some.violation (sym c.least_violation.ensures ∙ c.in-Some.is) (least_found (model_view c.args.model.now))

pub go_round-requires : goal.go_round-requires
go_round-requires c = each_is_within c.args.model.now c.in_ok-parents.parents.items c.as_slice.result.now c.as_slice.ensures.value c.in_ok-parents.ensures.each c.in_ok-parents.ensures.counted

pub least_violation-requires-clause-rounds : goal.least_violation-requires-clause-rounds
least_violation-requires-clause-rounds c =
    rounds_are c.args.model.now c.in_ok-parents.parents.items c.as_slice.result.now c.as_slice.ensures.value c.in_ok-parents.ensures.each
    c.in_ok-round.round.items c.as_slice-2.result.now c.as_slice-2.ensures.value c.in_ok-round.ensures.exact

pub preorder-requires-clause-within : goal.preorder-requires-clause-within
preorder-requires-clause-within c = each_is_within c.args.model.now c.in_ok-parents.parents.items c.as_slice-3.result.now c.as_slice-3.ensures.value c.in_ok-parents.ensures.each c.in_ok-parents.ensures.counted

pub preorder-requires-clause-acyclic : goal.preorder-requires-clause-acyclic
preorder-requires-clause-acyclic c =
    nobody_seen c.args.model.now c.in_ok-parents.parents.items c.as_slice-3.result.now c.as_slice-3.ensures.value c.in_ok-parents.ensures.each
    (least_at_none (Violates (model_view c.args.model.now)) _ (sym c.least_violation.ensures ∙ c.in_default.is) (least_found (model_view c.args.model.now)))

pub members_of_classes-requires-clause-preorder : goal.members_of_classes-requires-clause-preorder
members_of_classes-requires-clause-preorder c =
    walk_is c.args.model.now c.in_ok-parents.parents.items c.as_slice-3.result.now c.as_slice-3.ensures.value c.in_ok-parents.ensures.each
    c.in_ok-visits.visits.items c.as_slice-5.result.now c.as_slice-5.ensures.value c.in_ok-parents.ensures.counted c.in_ok-visits.ensures

pub members_of_classes-requires-clause-acyclic : goal.members_of_classes-requires-clause-acyclic
members_of_classes-requires-clause-acyclic c =
    nobody_goes_round (model_view c.args.model.now) (least_at_none (Violates (model_view c.args.model.now)) _ (sym c.least_violation.ensures ∙ c.in_default.is) (least_found (model_view c.args.model.now)))

pub returns-clause-sound : goal.returns-clause-sound
returns-clause-sound c = least_at_none (Violates (model_view c.args.model.now)) _ (sym c.least_violation.ensures ∙ c.in_default.is) (least_found (model_view c.args.model.now))

pub returns-clause-classes : goal.returns-clause-classes
returns-clause-classes c = record {
  names = c.in_ok-names.ensures;
  numbers = c.in_ok-numbering.ensures;
  rows = c.in_ok-entries.ensures;
  bodies = c.in_ok-bodies.ensures;
  preorder = walk_of c.args.model.now c.from_vec.result
      (least_at_none (Violates (model_view c.args.model.now)) _ (sym c.least_violation.ensures ∙ c.in_default.is) (least_found (model_view c.args.model.now)))
      (walk_is c.args.model.now c.in_ok-parents.parents.items c.as_slice-3.result.now c.as_slice-3.ensures.value c.in_ok-parents.ensures.each
      c.in_ok-visits.visits.items c.from_vec.result c.from_vec.ensures c.in_ok-parents.ensures.counted c.in_ok-visits.ensures);
}

pub number_classes-requires : goal.number_classes-requires
number_classes-requires c = room c.args.model.now.decls c.requires

pub least_violation-requires-clause-room : goal.least_violation-requires-clause-room
least_violation-requires-clause-room c = room c.args.model.now.decls c.requires

pub preorder-requires-clause-room : goal.preorder-requires-clause-room
preorder-requires-clause-room c =
    let fits = room c.args.model.now.decls c.requires in
    let same : length c.as_slice-3.result.now ≡ length c.in_ok-parents.parents.items = ap (λ (ps : List (Option ℕ)). length ps) c.as_slice-3.ensures.value in
    let counted = c.in_ok-parents.ensures.counted in
    omega (arith, fits, same, counted)

pub entries_of-requires-clause-room : goal.entries_of-requires-clause-room
entries_of-requires-clause-room c = room c.args.model.now.decls c.requires

pub bodies_of-requires-clause-room : goal.bodies_of-requires-clause-room
bodies_of-requires-clause-room c = room c.args.model.now.decls c.requires

pub entries_of-requires-clause-acyclic : goal.entries_of-requires-clause-acyclic
entries_of-requires-clause-acyclic c =
    nobody_goes_round (model_view c.args.model.now) (least_at_none (Violates (model_view c.args.model.now)) _ (sym c.least_violation.ensures ∙ c.in_default.is) (least_found (model_view c.args.model.now)))
