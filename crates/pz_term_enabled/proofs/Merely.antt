-- What is so where the net is the model's, is so where that is a bare fact.
use Rattle.std.proofs.Common.{◌≡◌, ◌<◌, ℕ, List, [], length, get_or, Option, Some, None, refl, sym, subst, ap, ◌∙◌}
use Rattle.std.proofs.Math.Logic.{∥∥₁_elim}
use Rattle.std.specs.Coded.{coded_ℕ, coded_option}
use base.Stored.{Coded-set}
use Rattle.std.specs.Prelude.{MatchOption, slice_get}
use Rattle.std.proofs.lemmas.List.{length-map}
use Rattle.std.proofs.lemmas.Option.{same_Some, slice_get-get_or}
use Rattle.pz_classes_code.specs.pz_syntax.Classes.{ModelTree}
use Rattle.pz_classes_code.specs.pz_syntax.declared.names.Id.{Id}
use Rattle.pz_rules.specs.pz_classes_rules.Members.{ports, spelled}
use Rattle.pz_bind_levels.specs.Places.{Address}
use Rattle.pz_rules.specs.pz_bind_rules.Nest.{processes, class_at}
use Rattle.pz_rules.specs.pz_bind_rules.Connections.{end, IsIn, IsInNone}
use Rattle.pz_rules.specs.pz_bind_rules.Wires.{HasWire}
use Rattle.pz_bind.specs.devices.Nets.{IsNet}
use Rattle.pz_bind.specs.declared.net.Net.{Net}
use Rattle.pz_rules.specs.Ports.{IsWire}
use Rattle.pz_term_enabled.specs.devices.Seen.{Wired, HasPort, wire_at}

pub number_merely : {A : Type 0} (m n : ℕ) → ∥ A ∥₁ → (A → m ≡ n) → m ≡ n
number_merely m n a is = ∥∥₁_elim a (Coded-set coded_ℕ m n) is

-- the ports of a class, by number
named_at : (m : ModelTree) (class port : ℕ) → port < length (ports m class) → slice_get (spelled (ports m class)) port ≡ Some (get_or (spelled (ports m class)) port [])
named_at m class port within =
    slice_get-get_or (spelled (ports m class)) port [] (subst (λ (n : ℕ). port < n) (sym (length-map (ports m class) (λ (x : Id). x.name))) within)

module _ (m : ModelTree) (net : Net) (i port : ℕ) (wired : Wired m net i) (name : List ℕ) (named : slice_get (spelled (ports m (class_at m wired.place))) port ≡ Some name) where
  -- a port that is in no channel has no wire
  no_wire : (w : ℕ) → IsInNone m (end wired.place name) → IsWire m i port w → ⊥
  no_wire w none is =
      let place : is.place ≡ wired.place = same_Some is.place wired.place (sym is.is_process ∙ wired.is_process) in
      let same : is.name ≡ name = same_Some is.name name (sym is.named ∙ ap (λ (l : Address). slice_get (spelled (ports m (class_at m l))) port) place ∙ named) in
      let first = is.has_wire.reached.first in
      none first (subst (λ (n : List ℕ). IsIn m (end wired.place n) first) same (subst (λ (l : Address). IsIn m (end l is.name) first) place is.has_wire.reached.starts))

  none_is : (o : Option ℕ) → wire_at wired port ≡ o → IsInNone m (end wired.place name) → None ≡ o
  none_is None e none = refl
  none_is (Some w) e none = absurd (no_wire w none (wired.wires.has i port w e))

  wire_so : (r : Option ℕ) → MatchOption r (IsInNone m (end wired.place name)) (HasWire m (end wired.place name)) → r ≡ wire_at wired port
  wire_so None none = none_is (wire_at wired port) refl none
  wire_so (Some w) has = sym (wired.wires.only i port w (record { place = wired.place; is_process = wired.is_process; name = name; named = named; has_wire = has }))

-- what the net says is the wire of the port
pub wire_is : (m : ModelTree) (net : Net) (i port : ℕ) (wired : Wired m net i) (r : Option ℕ) → HasPort wired port
    → ((t : ModelTree) (place : Address) (name : List ℕ) → IsNet t net → slice_get (processes t) i ≡ Some place → slice_get (spelled (ports t (class_at t place))) port ≡ Some name
    → MatchOption r (IsInNone t (end place name)) (HasWire t (end place name)))
    → r ≡ wire_at wired port
wire_is m net i port wired r has says =
    let class = class_at m wired.place in
    let name = get_or (spelled (ports m class)) port [] in
    let named : slice_get (spelled (ports m class)) port ≡ Some name = named_at m class port has in
    ∥∥₁_elim wired.of_model (Coded-set (coded_option coded_ℕ) r (wire_at wired port)) (λ known. wire_so m net i port wired name named r (says m wired.place name known wired.is_process named))
