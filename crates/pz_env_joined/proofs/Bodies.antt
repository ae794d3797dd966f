-- The bodies of methods, and the calls with which processes start, are the same in what has grown out of a
-- sound model: each class that they create is one of the model.
use Rattle.std.proofs.Common.{◌≡◌, refl, sym, ap, ◌∙◌, ℕ, zero, suc, Bool, true, false, not, ◌&&◌, List, [], ◌∷◌, ◌++◌, map, Option, Some, None, IsTrue, arith}
use Rattle.std.specs.Prelude.{if◌then◌else◌, cond}
use Rattle.std.specs.List.{Contains}
use Rattle.std.specs.Option.{option_map_or, option_and_then, unwrap_or}
use Rattle.std.proofs.lemmas.List.Elements.{Contains-append_right}
use Rattle.pz_env_mimics.specs.pz_syntax.declared.names.Id.{Id}
use Rattle.pz_env_mimics.specs.pz_syntax.Expressions.{Expressions}
use Rattle.pz_env_mimics.specs.pz_syntax.Statements.{call}
use Rattle.pz_env_mimics.specs.pz_syntax.Classes.{DataMethodTree, DataClassTree, StartTree, ProcessMethodTree, ProcessClassTree, DeclTree, data_class, process_class, ModelTree}
use Rattle.pz_env_mimics.specs.pz_value.declared.value.ClassId.{ClassId}
use Rattle.pz_env_mimics.specs.pz_check_violations.Order.{violation}
use Rattle.pz_classes_mentions.specs.declared.mention.Mention.{Mention}
use Rattle.pz_classes_mentions.specs.declared.mention.Mention.TheVariants as w
use Rattle.pz_classes_mentions.specs.declared.local_scope.LocalScope.{LocalScope}
use Rattle.pz_classes_mentions.specs.Expressions.{count, mentioned_all}
use Rattle.pz_classes_mentions.specs.Statements.{mentioned_statements}
use Rattle.pz_classes_mentions.specs.Declarations.{types, section_types, extended, mentioned_messages, mentioned_start, data_head, data_method, process_head, process_method, parts}
use Rattle.pz_env_mimics.specs.pz_classes_code.ReservedNames.{is_primitive, is_unsupported, is_array}
use Rattle.pz_env_mimics.specs.pz_classes_code.declared.slot.Slot.{Slot}
use Rattle.pz_env_mimics.specs.pz_classes_code.Resolution.{unknown, resolved_all, resolved_statements}
use Rattle.pz_env_mimics.specs.pz_classes_rules.Numbers.{declaration, class}
use Rattle.pz_env_mimics.specs.pz_classes_rules.Kinds.{is_data, is_declared_as}
use Rattle.pz_env_mimics.specs.pz_classes_rules.Members.{spelled, fields, variables, ports}
use Rattle.pz_env_mimics.specs.pz_classes_rules.Words.{Mentions}
use Rattle.pz_env_mimics.specs.pz_classes_rules.WordRules.{c12, c18}
use Rattle.pz_env_mimics.specs.pz_classes_rules.NameRules.{may_create}
use Rattle.pz_env_mimics.specs.pz_classes_rules.Soundness.{IsSound, a_word}
use Rattle.pz_env_mimics.specs.pz_classes_rules.Reached.{AncestorsAreReached}
use Rattle.pz_env_mimics.specs.pz_classes_code.Places.{place_in}
use Rattle.pz_env_mimics.specs.pz_classes_rules.Bodies.{scope_of, data_scope, process_scope, data_locals, process_locals}
use Rattle.pz_env_mimics.specs.pz_classes_rules.Starts.{start_call}
use Rattle.pz_env_grown.specs.Growth.{Grown}
use Rattle.pz_env_grown.proofs.Elements.{first_in, later_in}
use Rattle.pz_env_grown.proofs.Alike.{IsDeclared}
use Rattle.pz_env_joined.proofs.Members.{fields_same, variables_same, ports_same}
use Rattle.pz_env_joined.proofs.Resolving as resolving

-- a name that stands for a class of some sort is that of a class
sort_known : (f : ℕ → Option DeclTree) (sort : DeclTree → Bool) (o : Option ℕ)
    → option_map_or sort (option_and_then f o) false ≡ true → (k : ℕ) × (o ≡ Some k)
sort_known f sort None is = cc
sort_known f sort (Some k) is = (k, refl)

not_both : (a b : Bool) → a ≡ false → (IsTrue (not a && not b) → ⊥) → b ≡ true
not_both _ true is never = refl
not_both true false is never = cc
not_both false false is never = absurd (never refl)

pub map_same : {A B : Type 0} (f g : A → B) (xs : List A) → ((x : A) → Contains xs x → f x ≡ g x) → map f xs ≡ map g xs
map_same f g [] each = refl
map_same f g (x ∷ xs) each = rw (each x (first_in x xs), map_same f g xs (λ y at. each y (later_in x xs y at))) refl

in_map : {A B : Type 0} (f : A → B) (xs : List A) (x : A) → Contains xs x → Contains (map f xs) (f x)
in_map f [] x (k, low, is) = absurd (omega (arith, low))
in_map f (y ∷ ys) x (zero, low, is) = (0, omega arith, ap f is)
in_map f (y ∷ ys) x (suc k, low, is) = later_in (f y) (map f ys) (f x) (in_map f ys x (k, omega (arith, low), is))

module _ (m n : ModelTree) (reached : AncestorsAreReached) (sound : IsSound m) (grown : Grown m n) where
  -- the number of a class that a body of the model creates is the same
  created_same : (c : ℕ) (d : DeclTree) (p : LocalScope) (x : Id) → Mentions m c d p (w.Created x)
      → cond (is_array x.name) 0 (unwrap_or (class m x.name) unknown) ≡ cond (is_array x.name) 0 (unwrap_or (class n x.name) unknown)
  created_same c d p x at = by_tests (is_primitive x.name) refl
    where
      supported : (b : Bool) → is_unsupported x.name ≡ b → is_unsupported x.name ≡ false
      supported true is = absurd (sound.rules (violation 18 x.pos) (a_word (violation 18 x.pos) (c18 c d p (w.Created x) at is)))
      supported false is = is

      may : may_create m x.name ≡ true
      may = not_both (is_unsupported x.name) (may_create m x.name) (supported (is_unsupported x.name) refl) (λ wrong. sound.rules (violation 12 x.pos) (a_word (violation 12 x.pos) (c12 c d p (w.Created x) at wrong)))

      by_tests : (b : Bool) → is_primitive x.name ≡ b
          → cond (is_array x.name) 0 (unwrap_or (class m x.name) unknown) ≡ cond (is_array x.name) 0 (unwrap_or (class n x.name) unknown)
      by_tests true is =
          let array : is_array x.name ≡ true = ap (λ (b : Bool). if b then is_array x.name else is_declared_as is_data m x.name) (sym is) ∙ may in
          rw array refl
      by_tests false is =
          let of_sort : is_declared_as is_data m x.name ≡ true = ap (λ (b : Bool). if b then is_array x.name else is_declared_as is_data m x.name) (sym is) ∙ may in
          let known = sort_known (declaration m) is_data (class m x.name) of_sort in
          ap (λ (o : Option ℕ). cond (is_array x.name) 0 (unwrap_or o unknown)) (known.1 ∙ sym (grown.classes x.name known.0 known.1))

  -- so it is in a part of the model with these mentions
  each_known : (c : ℕ) (d : DeclTree) (p : LocalScope) (some : List Mention) (locals shared ports_there : List ℕ → Option ℕ)
      → declaration m c ≡ Some d → Contains (parts d) p
      → ((x : Mention) → Contains some x → Contains p.mentions x) → resolving.Each locals shared ports_there (class m) (class n) some
  each_known c d p some locals shared ports_there is part within (w.Created x) at = ap (λ (k : ℕ). record { 0 = k }) (created_same c d p x (record { declared = is; part_of = part; mentioned = within (w.Created x) at }))
  each_known c d p some locals shared ports_there is part within (w.Declared x) at = tt
  each_known c d p some locals shared ports_there is part within (w.Extended x) at = tt
  each_known c d p some locals shared ports_there is part within (w.Typed x) at = tt
  each_known c d p some locals shared ports_there is part within (w.Variable x) at = tt
  each_known c d p some locals shared ports_there is part within (w.Selector name k) at = tt
  each_known c d p some locals shared ports_there is part within (w.Called name k l) at = tt
  each_known c d p some locals shared ports_there is part within (w.Port x) at = tt
  each_known c d p some locals shared ports_there is part within (w.Sent port name k) at = tt
  each_known c d p some locals shared ports_there is part within (w.Received port name k) at = tt
  each_known c d p some locals shared ports_there is part within (w.Instantiated x) at = tt
  each_known c d p some locals shared ports_there is part within (w.Clock pos) at = tt
  each_known c d p some locals shared ports_there is part within (w.Me pos) at = tt
  each_known c d p some locals shared ports_there is part within (w.Return pos) at = tt
  each_known c d p some locals shared ports_there is part within (w.Float pos) at = tt

  pub data_code_same : (c : ℕ) (d : DataClassTree) (r : DataMethodTree) → declaration m c ≡ Some (data_class d) → Contains (unwrap_or d.methods []) r
      → resolved_all (data_scope m c (data_locals r)) r.body ≡ resolved_all (data_scope n c (data_locals r)) r.body
  data_code_same c d r is among =
      let locals = place_in (spelled (data_locals r)) in
      let part : Contains (parts (data_class d)) (data_method r) = later_in (data_head d) (map data_method (unwrap_or d.methods [])) (data_method r) (in_map data_method (unwrap_or d.methods []) r among) in
      let within : (x : Mention) → Contains (mentioned_all r.body) x → Contains (data_method r).mentions x = λ x at.
      Contains-append_right (section_types r.inputs) (w.Typed r.result ∷ (section_types r.locals ++ mentioned_all r.body)) x
      (later_in (w.Typed r.result) (section_types r.locals ++ mentioned_all r.body) x
      (Contains-append_right (section_types r.locals) (mentioned_all r.body) x at)) in
      resolving.all_same locals (place_in (spelled (fields m c))) (place_in (spelled (ports m c))) (class m) (class n) r.body
      (each_known c (data_class d) (data_method r) (mentioned_all r.body) locals (place_in (spelled (fields m c))) (place_in (spelled (ports m c))) is part within)
      ∙ ap (λ (fs : List Id). resolved_all (scope_of n (spelled fs) (spelled (ports m c)) (data_locals r)) r.body) (fields_same m n reached sound grown c)
      ∙ ap (λ (ps : List Id). resolved_all (scope_of n (spelled (fields n c)) (spelled ps) (data_locals r)) r.body) (ports_same m n reached sound grown c (data_class d, is))

  -- the scope of a process class, from that of the one to that of the other
  process_scope_same : {A : Type 0} (c : ℕ) (locals : List Id) (f : (List ℕ → Option ℕ) → (List ℕ → Option ℕ) → A) → IsDeclared m c
      → f (place_in (spelled (variables m c))) (place_in (spelled (ports m c))) ≡ f (place_in (spelled (variables n c))) (place_in (spelled (ports n c)))
  process_scope_same c locals f is =
      ap (λ (vs : List Id). f (place_in (spelled vs)) (place_in (spelled (ports m c)))) (variables_same m n reached sound grown c is)
      ∙ ap (λ (ps : List Id). f (place_in (spelled (variables n c))) (place_in (spelled ps))) (ports_same m n reached sound grown c is)

  pub process_code_same : (c : ℕ) (d : ProcessClassTree) (r : ProcessMethodTree) → declaration m c ≡ Some (process_class d)
      → Contains (unwrap_or d.methods []) r
      → resolved_statements (process_scope m c (process_locals r)) r.body ≡ resolved_statements (process_scope n c (process_locals r)) r.body
  process_code_same c d r is among =
      let locals = place_in (spelled (process_locals r)) in
      let part : Contains (parts (process_class d)) (process_method r) = later_in (process_head d) (map process_method (unwrap_or d.methods [])) (process_method r) (in_map process_method (unwrap_or d.methods []) r among) in
      let within : (x : Mention) → Contains (mentioned_statements r.body) x → Contains (process_method r).mentions x = λ x at.
      Contains-append_right (types r.inputs) (types r.outputs ++ (section_types r.locals ++ mentioned_statements r.body)) x
      (Contains-append_right (types r.outputs) (section_types r.locals ++ mentioned_statements r.body) x
      (Contains-append_right (section_types r.locals) (mentioned_statements r.body) x at)) in
      resolving.statements_same locals (place_in (spelled (variables m c))) (place_in (spelled (ports m c))) (class m) (class n) r.body
      (each_known c (process_class d) (process_method r) (mentioned_statements r.body) locals (place_in (spelled (variables m c))) (place_in (spelled (ports m c))) is part within)
      ∙ process_scope_same c (process_locals r) (λ shared there. resolved_statements (record { locals = locals; shared = shared; ports = there; classes = class n }) r.body) (process_class d, is)

  pub start_same : (c : ℕ) (d : ProcessClassTree) (s : StartTree) → declaration m c ≡ Some (process_class d) → d.start ≡ Some s
      → start_call m c s ≡ start_call n c s
  start_same c d s is start =
      let locals = place_in (spelled []) in
      let part : Contains (parts (process_class d)) (process_head d) = first_in (process_head d) (map process_method (unwrap_or d.methods [])) in
      let behind = w.Called s.method (count s.args) 0 ∷ mentioned_all s.args in
      let starts : mentioned_start d.start ≡ behind = ap mentioned_start start in
      let within : (x : Mention) → Contains (mentioned_all s.args) x → Contains (process_head d).mentions x = λ x at.
      later_in (w.Declared d.name) (section_types d.parameters ++ (extended d.parent ++ (mentioned_messages (unwrap_or d.messages []) ++ (section_types d.variables ++ mentioned_start d.start)))) x
      (Contains-append_right (section_types d.parameters) (extended d.parent ++ (mentioned_messages (unwrap_or d.messages []) ++ (section_types d.variables ++ mentioned_start d.start))) x
      (Contains-append_right (extended d.parent) (mentioned_messages (unwrap_or d.messages []) ++ (section_types d.variables ++ mentioned_start d.start)) x
      (Contains-append_right (mentioned_messages (unwrap_or d.messages [])) (section_types d.variables ++ mentioned_start d.start) x
      (Contains-append_right (section_types d.variables) (mentioned_start d.start) x
      (rw starts (later_in (w.Called s.method (count s.args) 0) (mentioned_all s.args) x at)))))) in
      ap (λ (args : Expressions Slot ClassId). call s.method.pos s.method args [])
      (resolving.all_same locals (place_in (spelled (variables m c))) (place_in (spelled (ports m c))) (class m) (class n) s.args
      (each_known c (process_class d) (process_head d) (mentioned_all s.args) locals (place_in (spelled (variables m c))) (place_in (spelled (ports m c))) is part within)
      ∙ process_scope_same c [] (λ shared there. resolved_all (record { locals = locals; shared = shared; ports = there; classes = class n }) s.args) (process_class d, is))
