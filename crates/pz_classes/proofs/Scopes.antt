-- What names stand for, by numberings and by the model.
use Rattle.std.proofs.Common.{◌≡◌, refl, ap, sym, ◌∙◌, ℕ, List, length, Option, Some, []}
use Rattle.std.specs.Option.{option_map, option_and_then}
use Rattle.std.proofs.lemmas.List.{length-map}
use Rattle.pz_classes_code.specs.pz_syntax.declared.names.Id.{Id}
use Rattle.pz_classes_code.specs.pz_syntax.Classes.{ProcessMethodTree, StartTree, ModelTree}
use Rattle.pz_classes_code.specs.pz_syntax.Statements.{Statements}
use Rattle.pz_classes_code.specs.pz_value.declared.value.ClassId.{ClassId}
use Rattle.pz_classes_code.specs.declared.numbering.Numbering.{Numbering}
use Rattle.pz_classes_code.specs.NumberIn.{number_in}
use Rattle.pz_classes_code.specs.Places.{place_in}
use Rattle.pz_classes_code.specs.declared.slot.Slot.{Slot}
use Rattle.pz_classes_code.specs.Resolution.{Scope, resolved_all, resolved_statements}
use Rattle.pz_classes_rules.specs.Numbers.{declaration}
use Rattle.pz_classes_rules.specs.Members as members
use Rattle.pz_classes_rules.specs.Members.{spelled}
use Rattle.pz_classes_rules.specs.Starts.{own_start, start_call, own_call}
use Rattle.pz_classes_code.specs.pz_syntax.Statements.{call}
use Rattle.pz_classes_code.specs.StepView.{Tree}
use Rattle.pz_classes_rules.specs.Bodies.{scope_of, process_scope, process_locals, process_body, process_body_in}
use Rattle.pz_classes.specs.devices.Surrounding.{scope_around}
use Rattle.pz_classes.specs.declared.surroundings.Surroundings.{Surroundings}
use Rattle.pz_classes_rules.proofs.Agreeing.{agreeing}

abbrev Table : Type 0
Table = List ℕ → Option ℕ

-- the scope of four tables
abbrev of_tables : Table → Table → Table → Table → Scope
of_tables l s p c = record { locals = l; shared = s; ports = p; classes = c }

same_scopes : (l s p c m t q d : Table) → l ≡ m → s ≡ t → p ≡ q → c ≡ d → of_tables l s p c ≡ of_tables m t q d
same_scopes l s p c m t q d e f g h = rw (e, f, g, h) refl

module _ (around : Surroundings) (classes places : Numbering) (names : List (List ℕ)) (count : ℕ) where
  -- a method's own names come from a numbering too
  abbrev pub held : Scope
  held = of_tables (number_in places) (place_in around.shared.now.names) (place_in around.ports.now.names) (number_in classes)

  held_is : (ids : List Id) → names ≡ spelled ids → ((q : List ℕ) → number_in places q ≡ place_in names q) → held ≡ scope_around around classes ids
  held_is ids spells placed = same_scopes (number_in places) (place_in around.shared.now.names) (place_in around.ports.now.names) (number_in classes)
      (place_in (spelled ids)) (place_in around.shared.now.names) (place_in around.ports.now.names) (number_in classes)
      (agreeing (number_in places) (place_in names) placed ∙ ap (λ (ns : List (List ℕ)). place_in ns) spells) refl refl refl

  counted : (ids : List Id) → names ≡ spelled ids → count ≡ length names → count ≡ length ids
  counted ids spells counts = counts ∙ ap (λ (ns : List (List ℕ)). length ns) spells ∙ length-map ids (λ x. x.name)

  pub process_body_is : (r : ProcessMethodTree) (stmts : Statements Slot ClassId ℕ) → names ≡ spelled (process_locals r) → ((q : List ℕ) → number_in places q ≡ place_in names q) → count ≡ length names
      → stmts ≡ resolved_statements held r.body → process_body count stmts ≡ process_body_in (scope_around around classes) r
  process_body_is r stmts spells placed counts resolves =
      let same : stmts ≡ resolved_statements (scope_around around classes (process_locals r)) r.body = resolves ∙ ap (λ (s : Scope). resolved_statements s r.body) (held_is (process_locals r) spells placed) in
      rw (counted (process_locals r) spells counts, same) refl

-- the call that the `init` of a class names
pub call_is : (m : ModelTree) (c : ℕ) (s : StartTree) (around : Surroundings) (classes : Numbering) (shared ports : List (List ℕ)) (step : Tree) → option_and_then own_start (declaration m c) ≡ Some s
    → scope_around around classes ≡ scope_of m shared ports → shared ≡ spelled (members.variables m c) → ports ≡ spelled (members.ports m c)
    → step ≡ call s.method.pos s.method (resolved_all (scope_around around classes []) s.args) [] → Some step ≡ own_call m c
call_is m c s around classes shared ports step starts scopes shares has is =
    let same : scope_around around classes ≡ process_scope m c = scopes ∙ rw (shares, has) refl in
    let found : own_call m c ≡ Some (start_call m c s) = ap (λ (o : Option StartTree). option_map (start_call m c) o) starts in
    ap Some (is ∙ ap (λ (f : List Id → Scope). call s.method.pos s.method (resolved_all (f []) s.args) []) same) ∙ sym found
