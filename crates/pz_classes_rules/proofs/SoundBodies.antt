-- The bodies of a sound model.
use Rattle.std.proofs.Common.{◌≡◌, refl, sym, ap, ◌∙◌, subst, ℕ, suc, ◌+◌, ◌<◌, ◌≤◌, Bool, true, false, not, ◌&&◌, nat_eq, cond, IsTrue, List, [], ◌∷◌, ◌++◌, append_assoc, map, length, Option, Some, None, slice_get, arith, ◌⊎◌, inl, inr}
use Rattle.std.specs.List.{Contains}
use Rattle.std.specs.Option.{option_and_then, option_map, option_map_or, unwrap_or}
use Rattle.std.specs.Str.{bytes_eq}
use Rattle.std.proofs.lemmas.Bool.{eqb-true}
use Rattle.std.proofs.lemmas.List.{length-append}
use Rattle.std.proofs.lemmas.List.Elements.{Contains-append_right, All-nil}
use Rattle.pz_classes_code.specs.pz_syntax.declared.names.Id.{Id}
use Rattle.pz_classes_code.specs.pz_syntax.Classes.{DataMethodTree, DataClassTree, ProcessMethodTree, ProcessClassTree, DeclTree, data_class, process_class, cluster_class, system, StartTree, ModelTree}
use Rattle.pz_check_violations.specs.Order.{violation}
use Rattle.pz_classes_mentions.specs.declared.mention.Mention.{Mention}
use Rattle.pz_classes_mentions.specs.declared.mention.Mention.TheVariants as w
use Rattle.pz_classes_mentions.specs.declared.local_scope.LocalScope.{LocalScope}
use Rattle.pz_classes_mentions.specs.Declarations.{parts, types, section_types, data_head, data_method, process_head, process_method, mentioned_start}
use Rattle.pz_classes_mentions.specs.Expressions.{count, mentioned_all}
use Rattle.pz_classes_mentions.specs.Statements.{mentioned_statements}
use Rattle.pz_classes_code.specs.ReservedNames.{is_primitive, is_unsupported, is_array}
use Rattle.pz_classes_code.specs.Resolution.{Scope, slot_by, unknown}
use Rattle.pz_classes_code.specs.StepView.{Tree}
use Rattle.pz_classes_rules.specs.declared.method_id.Counts.{Counts}
use Rattle.pz_classes_rules.specs.declared.method_id.Counts.TheVariants.{Data, Process}
use Rattle.pz_classes_rules.specs.Numbers.{declaration, class}
use Rattle.pz_classes_rules.specs.Ancestors.{ancestors}
use Rattle.pz_classes_rules.specs.Members.{section, grouped, spelled, ports}
use Rattle.pz_classes_rules.specs.Methods.{Signature, same_counts, same_signature}
use Rattle.pz_classes_code.specs.Places.{place_from, place_in}
use Rattle.pz_classes_rules.specs.Bodies.{BodyTree, own_bodies, bodies_from, bodies, scope_of, data_scope, process_scope, data_locals, process_locals}
use Rattle.pz_classes_rules.specs.Starts.{own_start, start_call, own_call, init}
use Rattle.pz_classes_rules.specs.Kinds.{is_data}
use Rattle.pz_classes_rules.specs.Words.{Mentions, is_among}
use Rattle.pz_classes_rules.specs.NameRules.{shared, may_create}
use Rattle.pz_classes_rules.specs.WordRules.{c6, c9, c12, c18, c21, c22}
use Rattle.pz_classes_rules.specs.MethodBodies.{Method, data_method_in, process_method_in, own_methods, first_body, own_body, body_with}
use Rattle.pz_classes_rules.specs.FitBodies.{Sort, data_code, process_code, shared_by, MayBeCreated, an_array, a_data_class, SlotFits, StatementFits, BodyFits}
use Rattle.pz_classes_rules.specs.Soundness.{IsSound, a_word}
use Rattle.pz_classes_rules.specs.SoundClasses.{BeginsWith, ClassesFit}
use Rattle.pz_classes_rules.specs.SoundBodies.{FitsItsClass, SoundBodiesFit}
use Rattle.pz_classes_rules.proofs.Elements.{both_true, none_in, first_in, later_in, in_cases}
use Rattle.pz_classes_rules.proofs.Mentioned.{Right, all_fit, statements_fit, call_fits}
use Rattle.pz_classes_rules.proofs.MethodBodies.{bodies_are, has_body}
use Rattle.pz_classes_rules.proofs.SoundClasses.{Nearest, nearest_has, classes_of, start_words}
use Rattle.pz_classes_rules.proofs.SoundEnds.{placed_from}

-- ---- elements of mapped lists

record From {A B : Type 0} (f : A → B) (xs : List A) (y : B) : Type 0 where
  one : A
  one_in : Contains xs one
  is : f one ≡ y

module _ {A B : Type 0} (f : A → B) where
  in_map : (xs : List A) (x : A) → Contains xs x → Contains (map f xs) (f x)
  in_map [] x here = absurd (none_in x here)
  in_map (z ∷ zs) x here = by_part (in_map zs x) (in_cases z zs x here)
    where
      by_part : (Contains zs x → Contains (map f zs) (f x)) → (z ≡ x) ⊎ Contains zs x → Contains (map f (z ∷ zs)) (f x)
      by_part later (inl is) = rw (← is) (first_in (f z) (map f zs))
      by_part later (inr behind) = later_in (f z) (map f zs) (f x) (later behind)

  from_map : (xs : List A) (y : B) → Contains (map f xs) y → From f xs y
  from_map [] y here = absurd (none_in y here)
  from_map (z ∷ zs) y here = by_part (from_map zs y) (in_cases (f z) (map f zs) y here)
    where
      by_part : (Contains (map f zs) y → From f zs y) → (f z ≡ y) ⊎ Contains (map f zs) y → From f (z ∷ zs) y
      by_part later (inl is) = record { one = z; one_in = first_in z zs; is = is }
      by_part later (inr behind) = let r = later behind in record { one = r.one; one_in = later_in z zs r.one r.one_in; is = r.is }

-- ---- what names stand for

not_not : (b : Bool) → (IsTrue (not b) → ⊥) → IsTrue b
not_not true never = refl
not_not false never = absurd (never refl)

not_true : (b : Bool) → (IsTrue b → ⊥) → b ≡ false
not_true true never = absurd (never refl)
not_true false never = refl

place_below : (n : ℕ) (ids : List Id) (name : List ℕ) (k : ℕ) → place_from n (spelled ids) name ≡ Some k → k < n + length ids
place_below n [] name k is = cc
place_below n (x ∷ xs) name k is = by_test (bytes_eq name x.name) refl (place_below (suc n) xs name k)
  where
    by_test : (b : Bool) → bytes_eq name x.name ≡ b → (place_from (suc n) (spelled xs) name ≡ Some k → k < suc n + length xs) → k < n + length (x ∷ xs)
    by_test true does later = let found : Some n ≡ Some k = rw does at is in let first : n ≡ k = cc in omega arith
    by_test false does later = let behind : k < suc n + length xs = later (rw does at is) in omega arith

unplaced : (ids : List Id) (name : List ℕ) → place_in (spelled ids) name ≡ None → is_among ids name ≡ false
unplaced ids name none = not_true (is_among ids name) (λ is. let at = placed_from 0 ids name is in let wrong : None ≡ Some at.0 = sym none ∙ at.1 in cc)

slot_fits : (m : ModelTree) (c : ℕ) (sort : Sort) (ids more : List Id) → length more ≤ length (shared_by sort m c) → (name : List ℕ)
    → (IsTrue (not (is_among ids name) && not (is_among more name)) → ⊥) → SlotFits m c sort (length ids) (slot_by (place_in (spelled ids) name) (place_in (spelled more) name))
slot_fits m c sort ids more fewer name known = by_places (place_in (spelled ids) name) (place_in (spelled more) name) refl refl
  where
    by_places : (o p : Option ℕ) → place_in (spelled ids) name ≡ o → place_in (spelled more) name ≡ p → SlotFits m c sort (length ids) (slot_by o p)
    by_places (Some i) p first second = let below : i < 0 + length ids = place_below 0 ids name i first in omega arith
    by_places None (Some i) first second = let below : i < 0 + length more = place_below 0 more name i second in omega (arith, fewer)
    by_places None None first second = known (rw (unplaced ids name first, unplaced more name second) refl)

port_fits : (all here : List Id) → length here ≤ length all → (name : List ℕ) → IsTrue (is_among here name) → unwrap_or (place_in (spelled here) name) unknown < length all
port_fits all here fewer name is =
    let at = placed_from 0 here name is in
    let below : at.0 < 0 + length here = place_below 0 here name at.0 at.1 in
    let within : at.0 < length all = omega (arith, fewer) in
    rw at.1 within

may_be : (m : ModelTree) (name : List ℕ) → IsTrue (may_create m name) → MayBeCreated m (cond (is_array name) 0 (unwrap_or (class m name) unknown))
may_be m name may = by_tests (is_array name) (is_primitive name) refl refl
  where
    by_decl : (k : ℕ) (o : Option DeclTree) → declaration m k ≡ o → IsTrue (option_map_or is_data o false) → MayBeCreated m k
    by_decl k None here is = cc
    by_decl k (Some (data_class d)) here is = a_data_class k d here
    by_decl k (Some (process_class d)) here is = cc
    by_decl k (Some (cluster_class d)) here is = cc
    by_decl k (Some (system d)) here is = cc

    by_class : (o : Option ℕ) → IsTrue (option_map_or is_data (option_and_then (declaration m) o) false) → MayBeCreated m (unwrap_or o unknown)
    by_class None is = cc
    by_class (Some k) is = by_decl k (declaration m k) refl is

    by_tests : (a p : Bool) → is_array name ≡ a → is_primitive name ≡ p → MayBeCreated m (cond (is_array name) 0 (unwrap_or (class m name) unknown))
    by_tests true p array primitive = rw array an_array
    by_tests false true array primitive = let wrong : false ≡ true = rw (primitive, array) at may in cc
    by_tests false false array primitive = rw array (by_class (class m name) (rw primitive at may))

-- ---- classes of both sorts

data Kind : DeclTree → Sort → Type 0 where
  of_data : (e : DataClassTree) → Kind (data_class e) data_code
  of_process : (e : ProcessClassTree) → Kind (process_class e) process_code

shares : (m : ModelTree) (a : ℕ) (d : DeclTree) (sort : Sort) → Kind d sort → shared m a d ≡ shared_by sort m a
shares m a _ _ (of_data e) = refl
shares m a _ _ (of_process e) = refl

in_process : (d : DeclTree) (sort : Sort) → Kind d sort → (IsTrue (is_data d) → ⊥) → sort ≡ process_code
in_process _ _ (of_data e) never = absurd (never refl)
in_process _ _ (of_process e) never = refl

in_data : (d : DeclTree) (sort : Sort) → Kind d sort → (IsTrue (not (is_data d)) → ⊥) → sort ≡ data_code
in_data _ _ (of_data e) never = refl
in_data _ _ (of_process e) never = absurd (never refl)

longer : (all first : List Id) → BeginsWith all first → length first ≤ length all
longer all first b = let sum : length all ≡ length first + length b.more = ap (λ (xs : List Id). length xs) b.is ∙ length-append first b.more in omega arith

module _ (m : ModelTree) (sound : IsSound m) where
  -- what the class a says of its words holds in each class c that descends from it
  module _ (c a : ℕ) (heir : Contains (ancestors m c) a) (d : DeclTree) (sort : Sort) (kind : Kind d sort) where
    fits : ClassesFit m
    fits = classes_of m sound

    fewer : (s : Sort) → length (shared_by s m a) ≤ length (shared_by s m c)
    fewer data_code = longer (shared_by data_code m c) (shared_by data_code m a) (fits.inherits c a heir).fields_begin
    fewer process_code = longer (shared_by process_code m c) (shared_by process_code m a) (fits.inherits c a heir).variables_begin

    abbrev scope : List Id → Scope
    scope ids = scope_of m (spelled (shared_by sort m a)) (spelled (ports m a)) ids

    variable_fits : (p : LocalScope) (ids : List Id) → p.locals ≡ ids → (x : Id) → Mentions m a d p (w.Variable x) → Right m c sort (length ids) (scope ids) (w.Variable x)
    variable_fits p ids own x here = slot_fits m c sort ids (shared_by sort m a) (fewer sort) x.name
        (λ out. sound.rules (violation 6 x.pos) (a_word (violation 6 x.pos) (c6 a d p (w.Variable x) here (rw (own, shares m a d sort kind) out))))

    created_fits : (p : LocalScope) (ids : List Id) (x : Id) → Mentions m a d p (w.Created x) → Right m c sort (length ids) (scope ids) (w.Created x)
    created_fits p ids x here =
        let supported : is_unsupported x.name ≡ false = not_true (is_unsupported x.name) (λ is. sound.rules (violation 18 x.pos) (a_word (violation 18 x.pos) (c18 a d p (w.Created x) here is))) in
        may_be m x.name (not_not (may_create m x.name) (λ out. sound.rules (violation 12 x.pos) (a_word (violation 12 x.pos) (c12 a d p (w.Created x) here (rw supported out)))))

    port_is : (p : LocalScope) (ids : List Id) (x : Id) → Mentions m a d p (w.Port x) → Right m c sort (length ids) (scope ids) (w.Port x)
    port_is p ids x here = port_fits (ports m c) (ports m a) (longer (ports m c) (ports m a) (fits.inherits c a heir).ports_begin) x.name
        (not_not (is_among (ports m a) x.name) (λ out. sound.rules (violation 9 x.pos) (a_word (violation 9 x.pos) (c9 a d p (w.Port x) here out))))

    word : (p : LocalScope) (ids : List Id) → p.locals ≡ ids → (x : Mention) → Mentions m a d p x → Right m c sort (length ids) (scope ids) x
    word p ids own (w.Declared x) here = tt
    word p ids own (w.Extended x) here = tt
    word p ids own (w.Typed x) here = tt
    word p ids own (w.Variable x) here = variable_fits p ids own x here
    word p ids own (w.Created x) here = created_fits p ids x here
    word p ids own (w.Selector x n) here = tt
    word p ids own (w.Called x inputs outputs) here = has_body m (record { name = x.name; counts = Process inputs outputs }) c (fits.called a d p x inputs outputs here c heir)
    word p ids own (w.Port x) here = port_is p ids x here
    word p ids own (w.Sent port x n) here = tt
    word p ids own (w.Received port x n) here = tt
    word p ids own (w.Instantiated x) here = tt
    word p ids own (w.Clock pos) here = in_process d sort kind (λ is. sound.rules (violation 21 pos) (a_word (violation 21 pos) (c21 a d p (w.Clock pos) here is)))
    word p ids own (w.Me pos) here = in_data d sort kind (λ is. sound.rules (violation 22 pos) (a_word (violation 22 pos) (c22 a d p (w.Me pos) here is)))
    word p ids own (w.Return pos) here = in_data d sort kind (λ is. sound.rules (violation 22 pos) (a_word (violation 22 pos) (c22 a d p (w.Return pos) here is)))
    word p ids own (w.Float pos) here = sound.rules (violation 18 pos) (a_word (violation 18 pos) (c18 a d p (w.Float pos) here refl))

  module _ (c a : ℕ) (heir : Contains (ancestors m c) a) where
    data_fits : (e : DataClassTree) (r : DataMethodTree) → declaration m a ≡ Some (data_class e) → Contains (unwrap_or e.methods []) r
        → BodyFits m c (data_method_in (data_scope m a) r).signature.counts (data_method_in (data_scope m a) r).body
    data_fits e r declared among =
        let sum : length (data_locals r) ≡ length (section r.inputs) + length (section r.locals) = length-append (section r.inputs) (section r.locals) in
        let part : Contains (parts (data_class e)) (data_method r) = later_in (data_head e) (map data_method (unwrap_or e.methods [])) (data_method r) (in_map data_method (unwrap_or e.methods []) r among) in
        let room : length (section r.inputs) ≤ length (data_locals r) = omega arith in
        let mentions : (x : Mention) → Contains (mentioned_all r.body) x → Mentions m a (data_class e) (data_method r) x = (λ x here. record {
          declared = declared;
          part_of = part;
          mentioned = Contains-append_right (section_types r.inputs) (w.Typed r.result ∷ (section_types r.locals ++ mentioned_all r.body)) x
              (later_in (w.Typed r.result) (section_types r.locals ++ mentioned_all r.body) x (Contains-append_right (section_types r.locals) (mentioned_all r.body) x here));
        }) in
        (room, all_fit m c data_code (length (data_locals r)) (data_scope m a (data_locals r)) r.body (λ x here. word c a heir (data_class e) data_code (of_data e) (data_method r) (data_locals r) refl x (mentions x here)))

    process_fits : (e : ProcessClassTree) (r : ProcessMethodTree) → declaration m a ≡ Some (process_class e) → Contains (unwrap_or e.methods []) r
        → BodyFits m c (process_method_in (process_scope m a) r).signature.counts (process_method_in (process_scope m a) r).body
    process_fits e r declared among =
        let sum : length (process_locals r) ≡ length (grouped r.inputs) + length (grouped r.outputs) + length (section r.locals) =
        length-append (grouped r.inputs ++ grouped r.outputs) (section r.locals) ∙ ap (λ (n : ℕ). n + length (section r.locals)) (length-append (grouped r.inputs) (grouped r.outputs)) in
        let part : Contains (parts (process_class e)) (process_method r) = later_in (process_head e) (map process_method (unwrap_or e.methods [])) (process_method r) (in_map process_method (unwrap_or e.methods []) r among) in
        let room : length (grouped r.inputs) + length (grouped r.outputs) ≤ length (process_locals r) = omega arith in
        let own : (process_method r).locals ≡ process_locals r = sym (append_assoc (grouped r.inputs) (grouped r.outputs) (section r.locals)) in
        let behind_outputs = section_types r.locals ++ mentioned_statements r.body in
        let mentions : (x : Mention) → Contains (mentioned_statements r.body) x → Mentions m a (process_class e) (process_method r) x = (λ x here. record {
          declared = declared;
          part_of = part;
          mentioned = Contains-append_right (types r.inputs) (types r.outputs ++ behind_outputs) x
              (Contains-append_right (types r.outputs) behind_outputs x (Contains-append_right (section_types r.locals) (mentioned_statements r.body) x here));
        }) in
        (room, statements_fit m c (length (process_locals r)) (process_scope m a (process_locals r)) r.body (λ x here. word c a heir (process_class e) process_code (of_process e) (process_method r) (process_locals r) own x (mentions x here)))

    own_fit : (d : DeclTree) (x : Method) → declaration m a ≡ Some d → Contains (own_methods m a d) x → BodyFits m c x.signature.counts x.body
    own_fit (data_class e) x declared among =
        let r = from_map (data_method_in (data_scope m a)) (unwrap_or e.methods []) x among in
        subst (λ (y : Method). BodyFits m c y.signature.counts y.body) r.is (data_fits e r.one declared r.one_in)
    own_fit (process_class e) x declared among =
        let r = from_map (process_method_in (process_scope m a)) (unwrap_or e.methods []) x among in
        subst (λ (y : Method). BodyFits m c y.signature.counts y.body) r.is (process_fits e r.one declared r.one_in)
    own_fit (cluster_class e) x declared among = absurd (none_in x among)
    own_fit (system e) x declared among = absurd (none_in x among)

    start_fits : (p : ProcessClassTree) (s : StartTree) → declaration m a ≡ Some (process_class p) → p.start ≡ Some s → StatementFits m c 0 (start_call m a s)
    start_fits p s declared starts =
        let right : (x : Mention) → Contains (mentioned_start (Some s)) x → Right m c process_code 0 (process_scope m a []) x =
        (λ x here. word c a heir (process_class p) process_code (of_process p) (process_head p) [] refl x (start_words m sound a p s declared starts x here)) in
        let called = w.Called s.method (count s.args) 0 in (
          call_fits m c 0 (process_scope m a []) s.method s.args [] (right called (first_in called (mentioned_all s.args))),
          all_fit m c process_code 0 (process_scope m a []) s.args (λ x here. right x (later_in called (mentioned_all s.args) x here)),
          All-nil (SlotFits m c process_code 0),
        )

-- ---- the methods of a class

-- the method whose body is the first
record First (s : Signature) (xs : List Method) (b : BodyTree) : Type 0 where
  method : Method
  method_in : Contains xs method
  alike : IsTrue (same_counts s.counts method.signature.counts)
  is : method.body ≡ b

first_has : (s : Signature) (xs : List Method) (b : BodyTree) → first_body s xs ≡ Some b → First s xs b
first_has s [] b is = cc
first_has s (x ∷ xs) b is = by_test (first_has s xs b) (same_signature s x.signature) refl
  where
    by_test : (first_body s xs ≡ Some b → First s xs b) → (t : Bool) → same_signature s x.signature ≡ t → First s (x ∷ xs) b
    by_test rest true same =
        let found : Some x.body ≡ Some b = rw same at is in
        let here : x.body ≡ b = cc in
        record { method = x; method_in = first_in x xs; alike = (both_true (same_counts s.counts x.signature.counts) (bytes_eq s.name x.signature.name) same).0; is = here }
    by_test rest false other = let r = rest (rw other at is) in record { method = r.method; method_in = later_in x xs r.method r.method_in; alike = r.alike; is = r.is }

counts_are : (x y : Counts) → IsTrue (same_counts x y) → x ≡ y
counts_are (Data i) (Data j) same = ap Data (eqb-true i j same)
counts_are (Data i) (Process j o) same = cc
counts_are (Process i o) (Data j) same = cc
counts_are (Process i o) (Process j p) same =
    let each = both_true (nat_eq i j) (nat_eq o p) same in
    rw (eqb-true i j each.0, eqb-true o p each.1) refl

module _ (m : ModelTree) (sound : IsSound m) where
  methods_fit : (c : ℕ) (s : Signature) (b : BodyTree) → body_with m c s ≡ Some b → BodyFits m c s.counts b
  methods_fit c s b is = by_nearest (nearest_has (own_body m s) (ancestors m c) b is)
    where
      by_first : (a : ℕ) → Contains (ancestors m c) a → (d : DeclTree) → declaration m a ≡ Some d → First s (own_methods m a d) b → BodyFits m c s.counts b
      by_first a heir d here f =
          let fits : BodyFits m c f.method.signature.counts f.method.body = own_fit m sound c a heir d f.method here f.method_in in
          rw (counts_are s.counts f.method.signature.counts f.alike, ← f.is) fits

      by_decl : (a : ℕ) → Contains (ancestors m c) a → (o : Option DeclTree) → declaration m a ≡ o → first_body s (option_map_or (own_methods m a) o []) ≡ Some b → BodyFits m c s.counts b
      by_decl a heir None here found = cc
      by_decl a heir (Some d) here found = by_first a heir d here (first_has s (own_methods m a d) b found)

      by_nearest : Nearest (own_body m s) (ancestors m c) b → BodyFits m c s.counts b
      by_nearest n = by_decl n.class n.class_in (declaration m n.class) refl n.has

  starts_fit : (c : ℕ) (start : Tree) → init m c ≡ Some start → StatementFits m c 0 start
  starts_fit c start is = by_nearest (nearest_has (own_call m) (ancestors m c) start is)
    where
      by_start : (a : ℕ) → Contains (ancestors m c) a → (p : ProcessClassTree) → declaration m a ≡ Some (process_class p) → (o : Option StartTree) → p.start ≡ o → option_map (start_call m a) o ≡ Some start → StatementFits m c 0 start
      by_start a heir p here None starts made = cc
      by_start a heir p here (Some s) starts made =
          let same : start_call m a s ≡ start = cc in
          subst (λ (t : Tree). StatementFits m c 0 t) same (start_fits m sound c a heir p s here starts)

      by_decl : (a : ℕ) → Contains (ancestors m c) a → (o : Option DeclTree) → declaration m a ≡ o → option_map (start_call m a) (option_and_then own_start o) ≡ Some start → StatementFits m c 0 start
      by_decl a heir None here made = cc
      by_decl a heir (Some (data_class e)) here made = cc
      by_decl a heir (Some (process_class p)) here made = by_start a heir p here p.start refl made
      by_decl a heir (Some (cluster_class e)) here made = cc
      by_decl a heir (Some (system e)) here made = cc

      by_nearest : Nearest (own_call m) (ancestors m c) start → StatementFits m c 0 start
      by_nearest n = by_decl n.class n.class_in (declaration m n.class) refl n.has

-- ---- all bodies

in_either : {A : Type 0} (xs ys : List A) (y : A) → Contains (xs ++ ys) y → Contains xs y ⊎ Contains ys y
in_either [] ys y here = inr here
in_either {A} (x ∷ xs) ys y here = by_part (in_either xs ys y) (in_cases x (xs ++ ys) y here)
  where
    by_part : (Contains (xs ++ ys) y → Contains xs y ⊎ Contains ys y) → (x ≡ y) ⊎ Contains (xs ++ ys) y → Contains (x ∷ xs) y ⊎ Contains ys y
    by_part rest (inl is) = inl (subst (λ (z : A). Contains (x ∷ xs) z) is (first_in x xs))
    by_part rest (inr behind) = by_rest (rest behind)
      where
        by_rest : Contains xs y ⊎ Contains ys y → Contains (x ∷ xs) y ⊎ Contains ys y
        by_rest (inl later) = inl (later_in x xs y later)
        by_rest (inr other) = inr other

-- the class whose body it is, of these, of which the first has number n
record Owner (m : ModelTree) (n : ℕ) (ds : List DeclTree) (b : BodyTree) : Type 0 where
  place : ℕ
  number : ℕ
  decl : DeclTree
  numbered : number ≡ n + place
  there : slice_get ds place ≡ Some decl
  owns : Contains (own_bodies m number decl) b

owner : (m : ModelTree) (n : ℕ) (ds : List DeclTree) (b : BodyTree) → Contains (bodies_from m n ds) b → Owner m n ds b
owner m n [] b here = absurd (none_in b here)
owner m n (d ∷ ds) b here = by_part (owner m (suc n) ds b) (in_either (own_bodies m n d) (bodies_from m (suc n) ds) b here)
  where
    by_part : (Contains (bodies_from m (suc n) ds) b → Owner m (suc n) ds b) → Contains (own_bodies m n d) b ⊎ Contains (bodies_from m (suc n) ds) b → Owner m n (d ∷ ds) b
    by_part rest (inl own) = record { place = 0; number = n; decl = d; numbered = omega arith; there = refl; owns = own }
    by_part rest (inr behind) = let o = rest behind in let at = o.numbered in record { place = suc o.place; number = o.number; decl = o.decl; numbered = omega arith; there = o.there; owns = o.owns }

each_fits : (m : ModelTree) → IsSound m → (b : BodyTree) → Contains (bodies m) b → FitsItsClass m b
each_fits m sound b here = by_owner (owner m 1 m.decls b here)
  where
    by_owner : Owner m 1 m.decls b → FitsItsClass m b
    by_owner o =
        let at = o.numbered in
        let number : o.number ≡ suc o.place = omega arith in
        let declared : declaration m o.number ≡ Some o.decl = rw number o.there in
        let method = from_map (λ (x : Method). x.body) (own_methods m o.number o.decl) b (subst (λ (bs : List BodyTree). Contains bs b) (sym (bodies_are m o.number o.decl)) o.owns) in
        record {
          class = o.number;
          counts = method.one.signature.counts;
          fits = λ c heir. subst (λ (y : BodyTree). BodyFits m c method.one.signature.counts y) method.is (own_fit m sound c o.number heir o.decl method.one declared method.one_in);
        }

pub bodies_fit : SoundBodiesFit
bodies_fit m sound = record {
  own_fit = λ c a d x heir declared among. own_fit m sound c a heir d x declared among;
  methods_fit = methods_fit m sound;
  each_fits = each_fits m sound;
  starts_fit = starts_fit m sound;
}
