use Rattle.std.proofs.Common.{◌≡◌, ap, subst, ◌∙◌, ℕ, List, length}
use Rattle.pz_classes_code.specs.pz_syntax.declared.stmts.Stmt.{Stmt}
use Rattle.pz_classes_code.specs.pz_syntax.ClassView.{process_method_view}
use Rattle.pz_classes_code.specs.pz_syntax.StatementView as tree
use Rattle.pz_classes_code.specs.NumberIn.{number_in}
use Rattle.pz_classes_code.specs.StepView.{sequence_view}
use Rattle.pz_classes_code.specs.Resolution.{resolved_statements}
use Rattle.pz_classes_code.specs.Places.{place_in}
use Rattle.pz_classes.proofs.Scopes.{held, process_body_is}
use Rattle.pz_classes.proofs.bodies.process_body.Goals as goal

pub returns : goal.returns
returns c =
    let placed : (q : List ℕ) → number_in c.in_ok-places.places q ≡ place_in c.in_ok-names.names q =
    subst (λ (ns : List (List ℕ)). (q : List ℕ) → number_in c.in_ok-places.places q ≡ place_in ns q) c.as_slice.ensures c.in_ok-places.ensures in
    let counts : c.count-locals.result ≡ length c.in_ok-names.names = c.count-locals.ensures ∙ ap (λ (ns : List (List ℕ)). length ns) c.as_slice-3.ensures in
    process_body_is c.args.around.now c.args.classes.now c.in_ok-places.places c.in_ok-names.names c.count-locals.result (process_method_view c.args.method.now) (sequence_view c.in_ok-stmts.stmts)
    c.in_ok-names.ensures placed counts
    (c.in_ok-stmts.ensures ∙ ap (λ (ss : List Stmt). resolved_statements (held c.args.around.now c.args.classes.now c.in_ok-places.places c.in_ok-names.names c.count-locals.result) (tree.sequence_view ss)) c.as_slice-2.ensures)
