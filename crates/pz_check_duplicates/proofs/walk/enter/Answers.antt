use Rattle.std.proofs.Common.{◌≡◌, ap, ap₂, subst, ◌∙◌, List, [], ◌∷◌, append-nil, map}
use Rattle.std.specs.Result.{IfOk}
use Rattle.std.proofs.lemmas.Result.{on_ok_weaker}
use Rattle.pz_classes.specs.pz_syntax.declared.names.Id.{Id}
use Rattle.pz_classes.specs.pz_syntax.ClassView.{model_view}
use Rattle.pz_check_violations.specs.declared.violation.Violation.{Violation}
use Rattle.pz_check_violations.specs.Least.{least_from}
use Rattle.pz_check_duplicates.specs.devices.Names.{id_of}
use Rattle.pz_check_duplicates.specs.devices.Inheriting.{found_in}
use Rattle.pz_check_duplicates.specs.devices.Knowing.{spread, Knows}
use Rattle.pz_check_duplicates.specs.devices.RepeatList.{own_at}
use Rattle.pz_check_duplicates.proofs.Known.{knows_opened}
use Rattle.pz_check_duplicates.proofs.walk.enter.Goals as goal

pub returns-clause-known : goal.returns-clause-known
returns-clause-known c = λ outer kept.
    let names : map id_of c.as_slice.result.now ≡ own_at c.args.sort (model_view c.args.model.now) c.args.class = ap (map id_of) c.as_slice.ensures ∙ c.in_ok-names.ensures in
    let opened = knows_opened outer c.args.known.now c.open.new.self c.in_ok-open.ensures.opened kept in
    on_ok_weaker c.declare_all.result (subst (λ (own : List Id). Knows (own ∷ outer) c.declare_all.new.known) names) (c.declare_all.ensures.known [] outer opened)

pub returns-clause-found : goal.returns-clause-found
returns-clause-found c = λ outer kept.
    let names : map id_of c.as_slice.result.now ≡ own_at c.args.sort (model_view c.args.model.now) c.args.class = ap (map id_of) c.as_slice.ensures ∙ c.in_ok-names.ensures in
    let opened = knows_opened outer c.args.known.now c.open.new.self c.in_ok-open.ensures.opened kept in
    subst (λ (vs : List Violation). IfOk c.declare_all.result (λ least. least ≡ least_from c.args.before vs)) (ap₂ found_in (append-nil (spread outer)) names) (c.declare_all.ensures.found [] outer opened)
