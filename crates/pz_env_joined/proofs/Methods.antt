-- The method that a name and its counts mean has the same body, and a process starts with the same call.
use Rattle.std.proofs.Common.{◌≡◌, refl, sym, ap, ◌∙◌, ℕ, suc, List, [], ◌∷◌, length, map, Option, Some, None}
use Rattle.std.specs.Option.{unwrap_or, option_map, option_map_or, option_and_then}
use Rattle.pz_env_mimics.specs.pz_syntax.Classes.{StartTree, ProcessMethodTree, DeclTree, data_class, process_class, cluster_class, system, ModelTree}
use Rattle.pz_env_mimics.specs.pz_classes_rules.declared.method_id.Counts.TheVariants.{Data, Process}
use Rattle.pz_env_mimics.specs.pz_classes_rules.Numbers.{declaration}
use Rattle.pz_env_mimics.specs.pz_classes_rules.Ancestors.{ancestors}
use Rattle.pz_env_mimics.specs.pz_classes_rules.Methods.{Signature, data_signature, process_signature, nearest}
use Rattle.pz_env_mimics.specs.pz_classes_rules.Soundness.{IsSound}
use Rattle.pz_env_mimics.specs.pz_classes_rules.Reached.{AncestorsAreReached}
use Rattle.pz_env_mimics.specs.pz_classes_rules.Bodies.{data_body, process_body, data_scope, process_scope, data_locals, process_locals}
use Rattle.pz_env_mimics.specs.pz_classes_rules.Starts.{own_start, start_call, own_call, init}
use Rattle.pz_env_mimics.specs.pz_classes_rules.MethodBodies.{data_method_in, process_method_in, own_methods, first_body, own_body, body_with, method_body, process_method_body}
use Rattle.pz_env_grown.specs.Growth.{Alike, same, systems, Both, old, nothing, new, Grown}
use Rattle.pz_env_grown.proofs.Alike.{became, IsDeclared}
use Rattle.pz_env_joined.proofs.Members.{nearest_same, line_declared, line_same}
use Rattle.pz_env_joined.proofs.Bodies.{map_same, data_code_same, process_code_same, start_same}

-- a method of a process class is none of a data class
no_data_body : (scope : _) (name : List ℕ) (inputs : ℕ) (rs : List ProcessMethodTree)
    → first_body (record { name = name; counts = Data inputs }) (map (process_method_in scope) rs) ≡ None
no_data_body scope name inputs [] = refl
no_data_body scope name inputs (r ∷ rs) = no_data_body scope name inputs rs

module _ (m n : ModelTree) (reached : AncestorsAreReached) (sound : IsSound m) (grown : Grown m n) where
  methods_same : (c : ℕ) (d e : DeclTree) → declaration m c ≡ Some d → Alike d e → own_methods m c d ≡ own_methods n c e
  methods_same c _ _ is (systems s t) = refl
  methods_same c _ _ is (same (data_class d)) =
      map_same (data_method_in (data_scope m c)) (data_method_in (data_scope n c)) (unwrap_or d.methods [])
      (λ r at. ap (λ code. record { signature = data_signature r; body = data_body (length (data_locals r)) code }) (data_code_same m n reached sound grown c d r is at))
  methods_same c _ _ is (same (process_class d)) =
      map_same (process_method_in (process_scope m c)) (process_method_in (process_scope n c)) (unwrap_or d.methods [])
      (λ r at. ap (λ code. record { signature = process_signature r; body = process_body (length (process_locals r)) code }) (process_code_same m n reached sound grown c d r is at))
  methods_same c _ _ is (same (cluster_class d)) = refl
  methods_same c _ _ is (same (system d)) = refl

  own_body_same : (s : Signature) (c : ℕ) → IsDeclared m c → own_body m s c ≡ own_body n s c
  own_body_same s c (d, is) =
      let now = became m n grown c d is in
      ap (λ (o : Option DeclTree). first_body s (option_map_or (own_methods m c) o [])) is
      ∙ ap (first_body s) (methods_same c d now.decl is now.like)
      ∙ sym (ap (λ (o : Option DeclTree). first_body s (option_map_or (own_methods n c) o [])) now.there)

  -- of each number, for a method of a data class
  own_data_body_same : (name : List ℕ) (inputs c : ℕ)
      → own_body m (record { name = name; counts = Data inputs }) c ≡ own_body n (record { name = name; counts = Data inputs }) c
  own_data_body_same name inputs c = by (declaration m c) (declaration n c) refl (grown.at c)
    where
      by : (o q : Option DeclTree) → declaration m c ≡ o → Both o q
          → first_body (record { name = name; counts = Data inputs }) (option_map_or (own_methods m c) o []) ≡ first_body (record { name = name; counts = Data inputs }) (option_map_or (own_methods n c) q [])
      by _ _ is (old d e like) = ap (first_body (record { name = name; counts = Data inputs })) (methods_same c d e is like)
      by _ _ is nothing = refl
      by _ _ is (new p root) = sym (no_data_body (process_scope n c) name inputs (unwrap_or p.methods []))

  pub method_body_same : (c : ℕ) (name : List ℕ) (inputs : ℕ) → method_body m c name inputs ≡ method_body n c name inputs
  method_body_same c name inputs =
      let s : Signature = record { name = name; counts = Data inputs } in
      nearest_same (own_body m s) (own_body n s) (ancestors m c) (λ a at. own_data_body_same name inputs a)
      ∙ ap (nearest (own_body n s)) (line_same m n reached sound grown c)

  pub body_same : (c : ℕ) (s : Signature) → IsDeclared m c → body_with m c s ≡ body_with n c s
  body_same c s is =
      nearest_same (own_body m s) (own_body n s) (ancestors m c) (λ a at. own_body_same s a (line_declared m sound (suc (length m.decls)) c is a at))
      ∙ ap (nearest (own_body n s)) (line_same m n reached sound grown c)

  pub process_method_body_same : (c : ℕ) (name : List ℕ) (inputs outputs : ℕ) → IsDeclared m c
      → process_method_body m c name inputs outputs ≡ process_method_body n c name inputs outputs
  process_method_body_same c name inputs outputs is = body_same c (record { name = name; counts = Process inputs outputs }) is

  call_same : (c : ℕ) (d e : DeclTree) → declaration m c ≡ Some d → Alike d e
      → option_map (start_call m c) (own_start d) ≡ option_map (start_call n c) (own_start e)
  call_same c _ _ is (systems s t) = refl
  call_same c _ _ is (same (data_class d)) = refl
  call_same c _ _ is (same (cluster_class d)) = refl
  call_same c _ _ is (same (system d)) = refl
  call_same c _ _ is (same (process_class d)) = by d.start refl
    where
      by : (o : Option StartTree) → d.start ≡ o → option_map (start_call m c) o ≡ option_map (start_call n c) o
      by None eq = refl
      by (Some s) eq = ap Some (start_same m n reached sound grown c d s is eq)

  own_call_same : (c : ℕ) → IsDeclared m c → own_call m c ≡ own_call n c
  own_call_same c (d, is) =
      let now = became m n grown c d is in
      ap (λ (o : Option DeclTree). option_map (start_call m c) (option_and_then own_start o)) is
      ∙ call_same c d now.decl is now.like
      ∙ sym (ap (λ (o : Option DeclTree). option_map (start_call n c) (option_and_then own_start o)) now.there)

  pub init_same : (c : ℕ) → IsDeclared m c → init m c ≡ init n c
  init_same c is =
      nearest_same (own_call m) (own_call n) (ancestors m c) (λ a at. own_call_same a (line_declared m sound (suc (length m.decls)) c is a at))
      ∙ ap (nearest (own_call n)) (line_same m n reached sound grown c)
