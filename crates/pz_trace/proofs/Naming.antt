-- What a net and a checked model say of what is named and there.
use Rattle.std.proofs.Common.{◌≡◌, sym, ap, subst, ◌∙◌, ℕ, ◌<◌, List, [], length, Some, get_or}
use Rattle.std.proofs.Math.Logic.{∥∥₁_elim}
use Rattle.std.specs.Coded.{coded_ℕ, coded_list}
use base.Stored.{Coded-set}
use Rattle.std.specs.Prelude.{slice_get}
use Rattle.std.specs.Option.{option_map_or}
use Rattle.std.proofs.lemmas.List.{length-map}
use Rattle.std.proofs.lemmas.Option.{slice_get-get_or}
use Rattle.pz_rules.specs.pz_syntax.Classes.{ModelTree}
use Rattle.pz_bind_levels.specs.Places.{Address}
use Rattle.pz_bind_levels.specs.Wires.{Channel, channel}
use Rattle.pz_bind.specs.declared.net.Net.{Net}
use Rattle.pz_rules.specs.pz_bind_rules.Nest.{processes}
use Rattle.pz_rules.specs.pz_bind_rules.Names.{path, wire_name}
use Rattle.pz_rules.specs.pz_bind_rules.Wires.{wires}
use Rattle.pz_bind.specs.NetView.{HasProcess, IsWireOf}
use Rattle.pz_bind.specs.devices.Nets.{IsNet, node_at}
use Rattle.pz_trace.specs.Labels.{path_of, wire_of}

-- a text and a list of names are those of a set
pub text_merely : {A : Type 0} (s t : List ℕ) → ∥ A ∥₁ → (A → s ≡ t) → s ≡ t
text_merely s t a is = ∥∥₁_elim a (Coded-set (coded_list coded_ℕ) s t) is

pub names_merely : {A : Type 0} (xs ys : List (List ℕ)) → ∥ A ∥₁ → (A → xs ≡ ys) → xs ≡ ys
names_merely xs ys a is = ∥∥₁_elim a (Coded-set (coded_list (coded_list coded_ℕ)) xs ys) is

process_there : (m : ModelTree) (net : Net) → IsNet m net → (i : ℕ) → HasProcess net i → slice_get (processes m) i ≡ Some (get_or (processes m) i [])
process_there m net is i below =
    let count : length net.nodes ≡ length (processes m) = ap (λ xs. length xs) is.nodes ∙ length-map (processes m) (node_at m) in
    slice_get-get_or (processes m) i [] (subst (λ (n : ℕ). i < n) count below)

pub path_is : (m : ModelTree) (net : Net) (i : ℕ) (text : List ℕ) → HasProcess net i → ((t : ModelTree) (place : Address) → IsNet t net → slice_get (processes t) i ≡ Some place → text ≡ path t place) → ∥ IsNet m net ∥₁ → text ≡ path_of m i
path_is m net i text below says is = text_merely text (path_of m i) is (λ known.
    let there = process_there m net known i below in
    says m (get_or (processes m) i []) known there ∙ sym (ap (λ o. option_map_or (path m) o []) there))

wire_there : (m : ModelTree) (net : Net) → IsNet m net → (w : ℕ) → IsWireOf net w → slice_get (wires m) w ≡ Some (get_or (wires m) w (channel [] 0))
wire_there m net is w below =
    let count : length net.wire_names ≡ length (wires m) = ap (λ xs. length xs) is.wire_names ∙ length-map (wires m) (wire_name m) in
    slice_get-get_or (wires m) w (channel [] 0) (subst (λ (n : ℕ). w < n) count below)

pub wire_is : (m : ModelTree) (net : Net) (w : ℕ) (text : List ℕ) → IsWireOf net w → ((t : ModelTree) (c : Channel) → IsNet t net → slice_get (wires t) w ≡ Some c → text ≡ wire_name t c) → ∥ IsNet m net ∥₁ → text ≡ wire_of m w
wire_is m net w text below says is = text_merely text (wire_of m w) is (λ known.
    let there = wire_there m net known w below in
    says m (get_or (wires m) w (channel [] 0)) known there ∙ sym (ap (λ o. option_map_or (wire_name m) o []) there))
