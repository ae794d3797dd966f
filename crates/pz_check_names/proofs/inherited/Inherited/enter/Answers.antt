use Rattle.std.proofs.Common.{List, map, Option, ◌∷◌, sym, subst}
use Rattle.std.specs.Result.{OnOk}
use Rattle.pz_classes_code.specs.pz_syntax.Classes.{DeclTree}
use Rattle.pz_classes_code.specs.pz_syntax.ClassView.{decl_view, model_view}
use Rattle.pz_classes.specs.pz_classes_rules.Numbers.{declaration}
use Rattle.pz_classes.proofs.pz_classes_rules_proofs.FewMarks.{decl_fits}
use Rattle.pz_classes_lineage.specs.Preorder.{outermost}
use Rattle.pz_check_names.specs.devices.Inherited.{AreOpen}
use Rattle.pz_check_names.proofs.Shown.{map_outermost}
use Rattle.pz_check_names.proofs.inherited.Inherited.enter.Goals as goal

pub note_own-requires : goal.note_own-requires
note_own-requires c = decl_fits (model_view c.args.model.now) c.requires c.args.visit.class (decl_view c.in-Some.decl.now) (sym c.in-Some.ensures)

pub returns-in-Some : goal.returns-in-Some
returns-in-Some c = λ line shown.
    let m = model_view c.args.model.now in
    let depth = c.args.visit.depth in
    let outer : List (Option DeclTree) = map (declaration m) (outermost depth line) in
    let closed : AreOpen outer c.close_to.new.self = subst (λ ds. AreOpen ds c.close_to.new.self) (map_outermost (declaration m) depth line) (c.close_to.ensures (map (declaration m) line) shown) in
    let noted = c.note_own.ensures outer (c.in_ok-open.ensures outer closed) in
    subst (λ (d : Option DeclTree). OnOk c.note_own.result (AreOpen (d ∷ outer) c.note_own.new.self)) c.in-Some.ensures noted

pub returns-in-None : goal.returns-in-None
returns-in-None c = λ line shown.
    let m = model_view c.args.model.now in
    let depth = c.args.visit.depth in
    let outer : List (Option DeclTree) = map (declaration m) (outermost depth line) in
    let closed : AreOpen outer c.close_to.new.self = subst (λ ds. AreOpen ds c.close_to.new.self) (map_outermost (declaration m) depth line) (c.close_to.ensures (map (declaration m) line) shown) in
    subst (λ (d : Option DeclTree). AreOpen (d ∷ outer) c.open.new.self) c.in-None.ensures (c.in_ok-open.ensures outer closed)
