-- Methods of process classes, and the calls by which they are noted.
use Rattle.std.proofs.Common.{◌≡◌, refl, sym, ap, ◌∙◌, ℕ, suc, Bool, true, false, ◌&&◌, nat_eq, List, [], ◌∷◌, map, Option, Some, None}
use Rattle.std.specs.List.{list_any}
use Rattle.std.specs.Option.{is_some, unwrap_or, option_map, option_map_or}
use Rattle.std.specs.Str.{bytes_eq}
use Rattle.std.proofs.Math.Bool.{and_comm}
use Rattle.pz_classes_code.specs.pz_syntax.Classes.{DeclTree, data_class, process_class, cluster_class, system, DataMethodTree, ProcessMethodTree, ModelTree}
use Rattle.pz_classes.specs.pz_classes_rules.Numbers.{declaration}
use Rattle.pz_classes.specs.pz_classes_rules.Methods.{Signature, same_signature, data_signature, process_signature, signatures, methods_before, first_with, method_id, own_method}
use Rattle.pz_check_names.specs.declared.methods.Call.{Call}
use Rattle.pz_check_names.specs.devices.Shown.{called, signature_of, same_call, is_call_of}
use Rattle.pz_check_names.specs.devices.Inherited.{of_each, own_methods, method_along}
use Rattle.pz_check_names.proofs.Shown.{some_or}

-- the call of a method is that by which it is noted
pub call_alike : (k call : Call) (r : ProcessMethodTree) → signature_of call ≡ process_signature r → same_call k call ≡ is_call_of k r
call_alike k call r is =
    and_comm (bytes_eq k.name.now call.name.now) (nat_eq k.inputs call.inputs && nat_eq k.outputs call.outputs)
    ∙ ap (λ (s : Signature). same_signature (signature_of k) s) is

module _ (name : List ℕ) (inputs outputs : ℕ) where
  abbrev Sought : Signature
  Sought = called name inputs outputs

  abbrev is_sought : ProcessMethodTree → Bool
  is_sought r = same_signature Sought (process_signature r)

  first_some : (n : ℕ) (rs : List ProcessMethodTree) → list_any is_sought rs ≡ is_some (first_with n Sought (map process_signature rs))
  first_some n [] = refl
  first_some n (r ∷ rs) = by_test (first_some (suc n) rs) (is_sought r) refl
    where
      by_test : list_any is_sought rs ≡ is_some (first_with (suc n) Sought (map process_signature rs)) → (b : Bool) → is_sought r ≡ b
          → list_any is_sought (r ∷ rs) ≡ is_some (first_with n Sought (map process_signature (r ∷ rs)))
      by_test later true is = rw is refl
      by_test later false is = rw is later

  -- no method of a data class has outputs
  none_first : (n : ℕ) (rs : List DataMethodTree) → false ≡ is_some (first_with n Sought (map data_signature rs))
  none_first n [] = refl
  none_first n (r ∷ rs) = none_first (suc n) rs

  decl_some : (n : ℕ) (d : DeclTree) → list_any is_sought (own_methods d) ≡ is_some (first_with n Sought (signatures d))
  decl_some n (data_class c) = none_first n (unwrap_or c.methods [])
  decl_some n (process_class c) = first_some n (unwrap_or c.methods [])
  decl_some n (cluster_class c) = refl
  decl_some n (system s) = refl

  numbered_some : (o : Option ℕ) → is_some o ≡ is_some (option_map method_id o)
  numbered_some None = refl
  numbered_some (Some n) = refl

  own_some : (n : ℕ) (d : Option DeclTree) → list_any is_sought (option_map_or own_methods d []) ≡ is_some (option_map method_id (first_with n Sought (option_map_or signatures d [])))
  own_some n None = refl
  own_some n (Some d) = decl_some n d ∙ numbered_some (first_with n Sought (signatures d))

module _ (m : ModelTree) (name : List ℕ) (inputs outputs : ℕ) where
  -- a method of these classes
  pub methods_along : (line : List ℕ) → list_any (λ rs. list_any (is_sought name inputs outputs) rs) (of_each own_methods (map (declaration m) line)) ≡ is_some (method_along m (called name inputs outputs) line)
  methods_along [] = refl
  methods_along (c ∷ line) =
      rw (own_some name inputs outputs (methods_before m c) (declaration m c), methods_along line)
      (sym (some_or (own_method m (called name inputs outputs) c) (method_along m (called name inputs outputs) line)))
