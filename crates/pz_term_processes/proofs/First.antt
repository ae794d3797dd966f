-- The first process of a place.
use Rattle.std.proofs.Common.{◌≡◌, ◌<◌, ◌∙◌, ℕ, zero, suc, List, [], ◌∷◌, length, Option, Some, refl, sym, ap, subst, arith}
use Rattle.std.specs.Prelude.{slice_get, All, slice_index_or}
use Rattle.std.specs.Option.{option_map}
use Rattle.std.proofs.Math.Logic.{∥∥₁_elim}
use Rattle.std.proofs.Math.Nat.{ℕ_set}
use Rattle.std.proofs.Math.Bridge.{le_prop}
use Rattle.std.proofs.lemmas.List.{length-map}
use Rattle.std.specs.Coded.{coded_list}
use base.Stored.{Coded-set}
use Rattle.pz_classes_code.specs.pz_syntax.Classes.{ModelTree}
use Rattle.pz_classes_code.specs.pz_value.declared.value.ClassId.{ClassId}
use Rattle.pz_classes_code.specs.pz_value.declared.value.Value.{Value}
use Rattle.pz_classes_code.specs.pz_value.declared.value.Value.TheVariants as value
use Rattle.pz_classes_code.specs.pz_value.contracts.value.Value as value_contract
use Rattle.pz_classes_code.specs.declared.step.Step.{Step}
use Rattle.pz_classes_code.specs.StepView as step
use Rattle.pz_rules.specs.pz_state.Marks.{Seen, changed}
use Rattle.pz_rules.specs.pz_state.States.{StateView, initial}
use Rattle.pz_rules.specs.pz_state.References.{RefersWithin}
use Rattle.pz_bind.specs.pz_classes.declared.classes.Classes.{Classes}
use Rattle.pz_rules.specs.pz_classes_rules.ClassNames.{class_id}
use Rattle.pz_bind.specs.pz_classes.devices.Rows.{AreClasses}
use Rattle.pz_rules.specs.pz_classes_rules.Starts.{init}
use Rattle.pz_bind_levels.specs.Places.{Address}
use Rattle.pz_rules.specs.pz_bind_rules.Nest.{processes, class_at}
use Rattle.pz_rules.specs.pz_bind_rules.Values.{values_at}
use Rattle.pz_bind.specs.NetView.{HasProcess}
use Rattle.pz_bind.specs.devices.Nets.{IsNet, node_at}
use Rattle.pz_bind.specs.declared.net.Net.{Net}
use Rattle.pz_rules.specs.declared.limits.Limits.{Limits}
use Rattle.pz_rules.specs.Terms as terms
use Rattle.pz_rules.specs.Terms.{frames_in}
use Rattle.pz_rules.specs.Settings.{Process, Home}
use Rattle.pz_rules.specs.Opening.{opened}
use Rattle.pz_rules.specs.Leaving.{only_frames, swept}
use Rattle.pz_rules.specs.Becoming.{Became}
use Rattle.pz_rules.specs.Starting.{home_at, StartsAs}
use Rattle.pz_term_processes.specs.Standing.{setting_of}
use Rattle.pz_term_processes.proofs.Given.{values_plain}

pub there : {X : Type 0} (xs : List X) (i : ℕ) → i < length xs → (x : X) × (slice_get xs i ≡ Some x)
there [] i within = absurd (omega (arith, within))
there (x ∷ xs) zero within = (x, refl)
there (x ∷ xs) (suc i) within = there xs i (omega (arith, within))

-- each process of a net stands somewhere
pub stands : (m : ModelTree) (net : Net) (i : ℕ) → IsNet m net → HasProcess net i → (place : Address) × (slice_get (processes m) i ≡ Some place)
stands m net i known within =
    let count : length net.nodes ≡ length (processes m) = ap (λ xs. length xs) known.nodes ∙ length-map (processes m) (node_at m) in
    there (processes m) i (subst (λ (n : ℕ). i < n) count within)

refers_prop : (count : ℕ) (v : Value) → IsProp (RefersWithin count v)
refers_prop count (value.Ref r) = le_prop
refers_prop count value.Nil = λ x y. refl
refers_prop count (value.Bool b) = λ x y. refl
refers_prop count (value.Int n) = λ x y. refl
refers_prop count (value.Char c) = λ x y. refl
refers_prop count (value.Str t) = λ x y. refl

abbrev AreValues : Net → ℕ → List Value → Type 0
AreValues net i values = (m : ModelTree) (place : Address) → IsNet m net → slice_get (processes m) i ≡ Some place → values ≡ values_at m place

-- the values that a process has at first are no references
pub plain_values : (m : ModelTree) (net : Net) (i : ℕ) (values : List Value) → ∥ IsNet m net ∥₁ → HasProcess net i → AreValues net i values → All (RefersWithin 0) values
plain_values m net i values known within are k d below =
    ∥∥₁_elim known (refers_prop 0 (slice_index_or values k d)) (λ net_is.
    let place = stands m net i net_is within in
    subst (λ (vs : List Value). All (RefersWithin 0) vs) (sym (are m place.0 net_is place.1)) (values_plain 0 m place.0) k d below)

values_merely : {A : Type 0} (xs ys : List Value) → ∥ A ∥₁ → (A → xs ≡ ys) → xs ≡ ys
values_merely xs ys a is = ∥∥₁_elim a (Coded-set (coded_list value_contract.the_row.coded) xs ys) is

some_is : {X : Type 0} {x y : X} → Some x ≡ Some y → x ≡ y
some_is e = cc

abbrev IsClassOf : Net → ℕ → ClassId → Type 0
IsClassOf net i class = (m : ModelTree) (place : Address) → IsNet m net → slice_get (processes m) i ≡ Some place → class ≡ class_id (class_at m place)

abbrev IsCallOf : Classes → ClassId → Option Step → Type 0
IsCallOf classes class call = (m : ModelTree) → AreClasses m classes → option_map step.view call ≡ init m class.0

-- the class and the call are those of the model
pub call_is : (set : IsSet (Option terms.Step)) (m : ModelTree) (classes : Classes) (net : Net) (i : ℕ) (class : ClassId) (call : Step) (place : Address) → ∥ AreClasses m classes ∥₁ → ∥ IsNet m net ∥₁
    → slice_get (processes m) i ≡ Some place → IsClassOf net i class → IsCallOf classes class (Some call) → init m (class_at m place) ≡ Some (step.view call)
call_is set m classes net i class call place tabled known at is calls =
    let here : class.0 ≡ class_at m place = ∥∥₁_elim known (ℕ_set class.0 (class_at m place)) (λ k. ap (λ (c : ClassId). c.0) (is m place k at)) in
    ∥∥₁_elim tabled (set (init m (class_at m place)) (Some (step.view call))) (λ k. sym (calls m k ∙ ap (init m) here))

-- a process that opens its call and then keeps the frames that stand
pub starts_as : (set : IsSet (Option terms.Step)) (m : ModelTree) (classes : Classes) (net : Net) (limits : Limits) (i : ℕ) (class : ClassId) (call : Step) (values : List Value) (h : Home) (t : terms.Term) (first opened_in swept_in : Seen) (place : Address)
    → ∥ AreClasses m classes ∥₁ → ∥ IsNet m net ∥₁ → slice_get (processes m) i ≡ Some place → IsClassOf net i class → IsCallOf classes class (Some call) → AreValues net i values
    → h ≡ home_at (setting_of m limits) place → first.held ≡ initial values → Became (opened h (step.view call) first.held) t first opened_in
    → swept_in ≡ changed opened_in (only_frames (frames_in t) opened_in.held)
    → StartsAs (setting_of m limits) place (record { term = t; state = swept_in.held })
starts_as set m classes net limits i class call values h t first opened_in swept_in place tabled known at is calls are home held became sweeps =
    let given : values ≡ values_at m place = values_merely values (values_at m place) known (λ k. are m place k at) in
    let p = opened h (step.view call) first.held in
    record {
      call = step.view call;
      is_call = call_is set m classes net i class call place tabled known at is calls;
      stands =
          ap (λ (z : Seen). let q : Process = record { term = t; state = z.held } in q) sweeps
          ∙ ap (λ (z : Seen). let q : Process = record { term = t; state = only_frames (frames_in t) z.held } in q) became.state
          ∙ ap (λ (u : terms.Term). let q : Process = record { term = u; state = only_frames (frames_in u) p.state } in q) became.term
          ∙ ap (λ (k : Home). swept (opened k (step.view call) first.held)) home
          ∙ ap (λ (s : StateView). swept (opened (home_at (setting_of m limits) place) (step.view call) s)) held
          ∙ ap (λ (vs : List Value). swept (opened (home_at (setting_of m limits) place) (step.view call) (initial vs))) given;
    }
