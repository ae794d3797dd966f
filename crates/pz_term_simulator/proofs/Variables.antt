-- What a simulator shows of a variable.
use Rattle.std.proofs.Common.{◌≡◌, ◌<◌, ◌∙◌, ℕ, zero, suc, List, [], ◌∷◌, length, get_or, Some, refl, sym, ap, subst, arith}
use Rattle.std.specs.Prelude.{slice_get, All}
use Rattle.std.specs.Option.{option_map}
use Rattle.std.specs.Coded.{coded_list}
use Rattle.std.proofs.Math.Logic.{∥∥₁_elim}
use Rattle.std.proofs.Math.Nat.{ℕ_set}
use Rattle.std.proofs.Math.Bridge.{le_prop}
use Rattle.std.proofs.lemmas.List.{length-map}
use Rattle.std.proofs.lemmas.Option.{slice_get-map}
use base.Stored.{Coded-set}
use Rattle.pz_rules.specs.pz_syntax.Classes.{ModelTree}
use Rattle.pz_rules.specs.pz_value.declared.value.Value.{Value}
use Rattle.pz_rules.specs.pz_value.declared.value.Value.TheVariants as value
use Rattle.pz_rules.specs.pz_value.contracts.value.Value as value_contract
use Rattle.pz_rules.specs.pz_state.References.{RefersWithin}
use Rattle.pz_rules.specs.pz_state.States.{initial, value_at}
use Rattle.pz_rules.specs.pz_copy.Parcels.{ParcelView}
use Rattle.pz_rules.specs.pz_copy.Packing.{IsParcelOf}
use Rattle.pz_bind_levels.specs.Places.{Address}
use Rattle.pz_rules.specs.pz_bind_rules.Nest.{processes}
use Rattle.pz_bind.specs.NetView.{HasProcess}
use Rattle.pz_rules.specs.pz_bind_rules.Values.{values_at}
use Rattle.pz_bind.specs.devices.Nets.{IsNet, node_at}
use Rattle.pz_bind.specs.declared.net.Net.{Net}
use Rattle.pz_rules.specs.Settings.{Setting}
use Rattle.pz_rules.specs.devices.Start.{start_at, start_of}
use Rattle.pz_term_simulator.specs.Shown.{HoldsValue}
use Rattle.pz_term_simulator.proofs.Given.{values_plain}
use Rattle.pz_term_simulator.proofs.Opened.{begun_shows}

there : {X : Type 0} (xs : List X) (i : ℕ) → i < length xs → (x : X) × (slice_get xs i ≡ Some x)
there [] i within = absurd (omega (arith, within))
there (x ∷ xs) zero within = (x, refl)
there (x ∷ xs) (suc i) within = there xs i (omega (arith, within))

-- Processes that have just begun

abbrev pub AreValues : Net → ℕ → List Value → Type 0
AreValues net i values = (m : ModelTree) (place : Address) → IsNet m net → slice_get (processes m) i ≡ Some place → values ≡ values_at m place

all_nodes : (m : ModelTree) (net : Net) → IsNet m net → length net.nodes ≡ length (processes m)
all_nodes m net k = ap (λ xs. length xs) k.nodes ∙ length-map (processes m) (node_at m)

-- no object is named in two ways, where there is none
refers_prop : (v : Value) (x y : RefersWithin 0 v) → x ≡ y
refers_prop value.Nil x y = refl
refers_prop (value.Bool b) x y = refl
refers_prop (value.Int n) x y = refl
refers_prop (value.Char c) x y = refl
refers_prop (value.Str text) x y = refl
refers_prop (value.Ref r) x y = le_prop x y

module _ (net : Net) (i : ℕ) (values : List Value) (within : HasProcess net i) (are : AreValues net i values) where
  plain_of : (m : ModelTree) → IsNet m net → All (RefersWithin 0) values
  plain_of m known =
      let place = there (processes m) i (omega (arith, within, all_nodes m net known)) in
      subst (λ (vs : List Value). All (RefersWithin 0) vs) (sym (are m place.0 known place.1)) (values_plain 0 m place.0)

  pub begun_plain : ∥ ((m : ModelTree) × IsNet m net) ∥₁ → All (RefersWithin 0) values
  begun_plain known k d below = ∥∥₁_elim known (refers_prop (get_or values k d)) (λ x. plain_of x.0 x.1 k d below)

  pub begun_holds : (setting : Setting) → ∥ IsNet setting.model net ∥₁ → (v : ℕ) (parcel : ParcelView) → IsParcelOf (initial values) (value_at values v ∷ []) parcel → HoldsValue (start_of setting) i v parcel
  begun_holds setting known v parcel is =
      let all : length net.nodes ≡ length (processes setting.model) = ∥∥₁_elim known (ℕ_set (length net.nodes) (length (processes setting.model))) (all_nodes setting.model net) in
      let place = there (processes setting.model) i (omega (arith, within, all)) in
      let given : values ≡ values_at setting.model place.0 = ∥∥₁_elim known (Coded-set (coded_list value_contract.the_row.coded) values (values_at setting.model place.0)) (λ k. are setting.model place.0 k place.1) in
      record {
        process = start_at setting place.0;
        stands = slice_get-map (start_at setting) (processes setting.model) i ∙ ap (option_map (start_at setting)) place.1;
        is_parcel = begun_shows setting place.0 v parcel (subst (λ (vs : List Value). IsParcelOf (initial vs) (value_at vs v ∷ []) parcel) given is);
      }
