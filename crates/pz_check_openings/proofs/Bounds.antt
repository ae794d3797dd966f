-- Where all methods keep to the bounds, opening ends and is not too large, in every class.
use Rattle.std.proofs.Common.{◌≡◌, refl, sym, ap, subst, ◌∙◌, ℕ, zero, suc, ◌+◌, ◌<◌, ◌≤◌, min, Bool, true, ◌&&◌, nat_eq, IsTrue, List, length, Option, Some, None, slice_get, arith}
use Rattle.std.specs.List.{Contains, sum_by}
use Rattle.std.specs.Option.{option_map_or}
use Rattle.std.proofs.lemmas.Bool.Decides.{nat_tests}
use Rattle.std.proofs.lemmas.List.Sums.{sum_by-le-sum_by}
use Rattle.pz_classes.specs.pz_syntax.declared.names.Id.{Id}
use Rattle.pz_classes.specs.pz_syntax.Classes.{DeclTree, ProcessMethodTree, ModelTree}
use Rattle.pz_classes.specs.pz_syntax.Statements.{no_statements}
use Rattle.pz_classes.specs.pz_check_violations.declared.violation.Violation.{Violation}
use Rattle.pz_classes.specs.pz_classes_rules.declared.method_id.Counts.{Counts}
use Rattle.pz_classes.specs.pz_classes_rules.declared.method_id.Counts.TheVariants.{Data, Process}
use Rattle.pz_classes.specs.pz_classes_rules.declared.method_id.MethodId.{MethodId}
use Rattle.pz_classes.specs.pz_classes_rules.Members.{grouped}
use Rattle.pz_classes.specs.pz_classes_rules.Methods.{Signature, method_id, method_with, process_signature}
use Rattle.pz_classes_beginnings.specs.Beginning.{begun_all, all_plain_calls, statements_in_all}
use Rattle.pz_classes_openings.specs.Methods.{method_at, body_at}
use Rattle.pz_classes_openings.specs.Openings.{begun_at, calls_at, statements_at, called, Leads, itself, further, of_called, opened_to, spread_to}
use Rattle.pz_classes_openings.specs.OpeningRules.{BreaksC23, round, BreaksC24, too_large, Opens}
use Rattle.pz_classes_openings.proofs.Found.{found_process}
use Rattle.pz_check_openings.specs.declared.outline.Outline.{Outline}
use Rattle.pz_check_openings.specs.devices.Outlines.{outline_of, outlines}
use Rattle.pz_check_openings.specs.devices.Settling.{is_plain, Settles}
use Rattle.pz_check_openings.proofs.Listed.{outline_there}
use Rattle.pz_check_openings.proofs.Positive.{some_statement, counts}

inputs_of : Counts → ℕ
inputs_of (Data inputs) = inputs
inputs_of (Process inputs outputs) = inputs

outputs_of : Counts → ℕ
outputs_of (Data inputs) = 0
outputs_of (Process inputs outputs) = outputs

-- what is plain by its signature is plain by its outline
pub plain_so : (i o : ℕ) → Process 0 0 ≡ Process i o → (nat_eq i 0 && nat_eq o 0) ≡ true
unfolding inputs_of outputs_of
plain_so i o e =
    let first : 0 ≡ i = ap inputs_of e in
    let second : 0 ≡ o = ap outputs_of e in
    rw (← first, ← second) refl

module _ (m : ModelTree) (bound : List ℕ → ℕ) (settled : (k : ℕ) (o : Outline) → slice_get (outlines m) k ≡ Some (Some o) → Settles bound o) where
  -- a plain method has no more statements, with the bounds of the calls with which it begins, than the
  -- bound of its name
  covered : (c n : ℕ) (x : Id) → called m c x ≡ Some (method_id n) → statements_at m n + sum_by (λ y. bound y.name) (begun_at m n) ≤ bound x.name
  covered c n x is = by_method (found_process m (record { name = x.name; counts = Process 0 0 }) c n 0 0 refl is)
    where
      by_method : (r : ProcessMethodTree) × (method_at m n ≡ Some r) × (record { name = x.name; counts = Process 0 0 } ≡ process_signature r) → statements_at m n + sum_by (λ y. bound y.name) (begun_at m n) ≤ bound x.name
      by_method (r, at, same) =
          let keeps : Settles bound (outline_of r) = settled n (outline_of r) (outline_there m n r at) in
          let plain : is_plain (outline_of r) ≡ true = plain_so (length (grouped r.inputs)) (length (grouped r.outputs)) (ap (λ (s : Signature). s.counts) same) in
          let low : min (statements_in_all r.body) 1000001 + sum_by (λ y. bound y.name) (all_plain_calls r.body) ≤ 1000000 = keeps.small in
          let most : min (statements_in_all r.body) 1000001 + sum_by (λ y. bound y.name) (begun_all r.body) ≤ bound r.name.name = keeps.covered plain in
          let named : bound x.name ≡ bound r.name.name = ap (λ (s : Signature). bound s.name) same in
          let whole : statements_in_all r.body + sum_by (λ y. bound y.name) (begun_all r.body) ≤ bound x.name = omega arith in
          rw at whole

  -- a call with which it begins has a lesser bound
  lesser : (k : ℕ) (x : Id) (most : ℕ) → Contains (begun_at m k) x → statements_at m k + sum_by (λ y. bound y.name) (begun_at m k) ≤ most → bound x.name < most
  lesser k x most among within =
      let one : 1 ≤ statements_at m k = some_statement (body_at m k) x among in
      let part : bound x.name ≤ sum_by (λ (y : Id). bound y.name) (begun_at m k) = counts (λ (y : Id). bound y.name) (begun_at m k) x among in
      omega (arith, one, part)

  -- what a called method leads to is called, by a name with no greater bound
  leads_down : (c n k : ℕ) → Leads m c n k → (y : Id) → called m c y ≡ Some (method_id n) → (z : Id) × (called m c z ≡ Some (method_id k)) × (bound z.name ≤ bound y.name)
  leads_down c n _ itself y is = (y, is, omega arith)
  leads_down c n _ (further b l x before among finds) y is =
      let z = leads_down c n b before y is in
      let less : bound x.name < bound z.0.name = lesser b x (bound z.0.name) among (covered c b z.0 z.1) in
      let no_more : bound z.0.name ≤ bound y.name = z.2 in
      (x, finds, omega (arith, less, no_more))

  no_round : (v : Violation) → BreaksC23 m v → ⊥
  no_round _ (round c k n d x declared process has among is leads) =
      let z = leads_down c n k leads x is in
      let less : bound x.name < bound z.0.name = lesser k x (bound z.0.name) among (covered c k z.0 z.1) in
      let no_more : bound z.0.name ≤ bound x.name = z.2 in
      omega (arith, less, no_more)

  -- what a call opens as is within the bound of its name
  of_bound : (c depth : ℕ) → ((n : ℕ) (x : Id) → called m c x ≡ Some (method_id n) → opened_to m c depth n ≤ bound x.name) → (x : Id) → of_called (opened_to m c depth) (called m c x) ≤ bound x.name
  of_bound c depth each x = by_method (called m c x) refl
    where
      by_method : (o : Option MethodId) → called m c x ≡ o → of_called (opened_to m c depth) o ≤ bound x.name
      by_method None is = omega arith
      by_method (Some n) is = each n.0 x is

  opened_bound : (depth c n : ℕ) (x : Id) → called m c x ≡ Some (method_id n) → opened_to m c depth n ≤ bound x.name
  opened_bound zero c n x is = omega arith
  opened_bound (suc depth) c n x is =
      let s : sum_by (λ (y : Id). of_called (opened_to m c depth) (called m c y)) (begun_at m n) ≤ sum_by (λ (y : Id). bound y.name) (begun_at m n) =
      sum_by-le-sum_by (λ (y : Id). of_called (opened_to m c depth) (called m c y)) (λ (y : Id). bound y.name) (begun_at m n) (of_bound c depth (opened_bound depth c)) in
      let all : statements_at m n + sum_by (λ (y : Id). bound y.name) (begun_at m n) ≤ bound x.name = covered c n x is in
      omega (arith, s, all)

  no_large : (v : Violation) → BreaksC24 m v → ⊥
  no_large _ (too_large c k depth d r declared process has at much) =
      let keeps : Settles bound (outline_of r) = settled k (outline_of r) (outline_there m k r at) in
      let low : min (statements_in_all r.body) 1000001 + sum_by (λ (y : Id). bound y.name) (all_plain_calls r.body) ≤ 1000000 = keeps.small in
      let s : sum_by (λ (y : Id). of_called (opened_to m c depth) (called m c y)) (all_plain_calls r.body) ≤ sum_by (λ (y : Id). bound y.name) (all_plain_calls r.body) =
      sum_by-le-sum_by (λ (y : Id). of_called (opened_to m c depth) (called m c y)) (λ (y : Id). bound y.name) (all_plain_calls r.body) (of_bound c depth (opened_bound depth c)) in
      let large : 1000000 < statements_in_all r.body + sum_by (λ (y : Id). of_called (opened_to m c depth) (called m c y)) (all_plain_calls r.body) = rw at at much in
      omega (arith, low, s, large)

  pub settles_all : Opens m
  settles_all = record { rounds = no_round; sizes = no_large }
