-- Each class has what its parent has, and its own behind that.
use Rattle.std.proofs.Common.{◌≡◌, sym, ap, ◌∙◌, ℕ, List, [], ◌∷◌, ◌++◌}
use Rattle.std.specs.Option.{option_map_or}
use Rattle.std.proofs.lemmas.List.{map-append}
use Rattle.pz_classes_code.specs.pz_syntax.declared.names.Id.{Id}
use Rattle.pz_classes_code.specs.pz_syntax.Classes.{ModelTree}
use Rattle.pz_classes_rules.specs.Numbers.{declaration}
use Rattle.pz_classes_rules.specs.Members.{from_root, own_fields, own_variables, own_ports, spelled}
use Rattle.pz_classes.specs.declared.members.Members.{Members}
use Rattle.pz_classes.specs.devices.Inherited.{HasMembers, AddsAt}

one_more : (old : List Id) (own : List Id) (before now : List (List ℕ)) → before ≡ spelled old → now ≡ before ++ spelled own → now ≡ spelled (old ++ own)
one_more old own before now is grown = grown ∙ ap (λ (xs : List (List ℕ)). xs ++ spelled own) is ∙ sym (map-append (λ (x : Id). x.name) old own)

module _ (m : ModelTree) where
  pub grows : (c : ℕ) (line : List ℕ) (old new : Members) → HasMembers m line old → AddsAt m c old new → HasMembers m (c ∷ line) new
  grows c line old new has adds = record {
    fields = one_more (from_root own_fields m line) (option_map_or own_fields (declaration m c) []) old.fields new.fields has.fields adds.fields;
    variables = one_more (from_root own_variables m line) (option_map_or own_variables (declaration m c) []) old.variables new.variables has.variables adds.variables;
    ports = one_more (from_root own_ports m line) (option_map_or own_ports (declaration m c) []) old.ports new.ports has.ports adds.ports;
  }
