-- The text of a model has at least as many marks as it has classes, methods and names in one place:
-- so 32 bits number them where it has fewer than 2^32 - 1.
use Rattle.std.proofs.Common.{◌≡◌, refl, sym, ap, ◌∙◌, subst, ℕ, zero, suc, ◌+◌, ◌-◌, ◌<◌, ◌≤◌, ◌^◌, Bool, true, false, List, [], ◌∷◌, ◌++◌, map, length, length-append, take, Option, Some, None, slice_get, get_or, eqb, arith, ◌⊎◌, inl, inr}
use Rattle.std.specs.List.{All, sum_by, list_any}
use Rattle.std.specs.Option.{option_map, option_map_or, unwrap_or}
use Rattle.std.proofs.lemmas.List.{length-map}
use Rattle.std.proofs.lemmas.List.Sums.{sum_by-cons, sum_by_more, sum_by_more_le, sum_by-take-le, sum_by-le-sum_by, get_or-le-sum_by}
use Rattle.std.proofs.lemmas.Option.{slice_get_cases, get_or_from_slice_get, slice_get_within, slice_get-map, slice_get-get_or, slice_get_read}
use Rattle.pz_classes_code.specs.pz_syntax.declared.tokens.Symbol.{Symbol}
use Rattle.pz_classes_code.specs.pz_syntax.declared.tokens.Symbol.TheVariants as s
use Rattle.pz_classes_code.specs.pz_syntax.declared.tokens.Keyword.{Keyword}
use Rattle.pz_classes_code.specs.pz_syntax.declared.tokens.Keyword.TheVariants as k
use Rattle.pz_classes_code.specs.pz_syntax.declared.tokens.Mark.{Mark}
use Rattle.pz_classes_code.specs.pz_syntax.declared.names.Id.{Id}
use Rattle.pz_classes_code.specs.pz_syntax.declared.classes.VarGroup.{VarGroup}
use Rattle.pz_classes_code.specs.pz_syntax.Marks.{each_text, separated, tail_separated, section as part, optional, names_text, word_text}
use Rattle.pz_classes_code.specs.pz_syntax.ClassText.{group_names, group_names_from, group_text, variables_text, formal_text, locals_text, data_method_text, data_class_text, process_method_text, process_class_text}
use Rattle.pz_classes_code.specs.pz_syntax.ModelText.{instance_text, decl_text, text, HasFewMarks}
use Rattle.pz_classes_code.specs.pz_syntax.Classes.{DataMethodTree, DataClassTree, ProcessMethodTree, ProcessClassTree, DeclTree, data_class, process_class, cluster_class, system, ModelTree}
use Rattle.pz_classes_code.specs.pz_syntax.declared.clusters.Decl.{Decl}
use Rattle.pz_classes_code.specs.pz_syntax.declared.clusters.Decl.TheVariants as decl
use Rattle.pz_classes_code.specs.pz_syntax.declared.classes.DataClass.{DataClass}
use Rattle.pz_classes_code.specs.pz_syntax.declared.classes.DataMethod.{DataMethod}
use Rattle.pz_classes_code.specs.pz_syntax.declared.classes.ProcessClass.{ProcessClass}
use Rattle.pz_classes_code.specs.pz_syntax.declared.classes.ProcessMethod.{ProcessMethod}
use Rattle.pz_classes_code.specs.pz_syntax.ClassView.{decl_view, data_class_view, data_method_view, process_class_view, process_method_view}
use Rattle.pz_classes_rules.specs.Numbers.{declaration}
use Rattle.pz_classes_lineage.specs.Reached.{GoesRound, round}
use Rattle.pz_classes_rules.specs.Ancestors.{parent, ancestors, followed}
use Rattle.pz_classes_rules.specs.Members.{grouped, section, own_fields, own_variables, own_ports, from_root, fields, variables, ports}
use Rattle.pz_classes_rules.specs.Instances.{instances}
use Rattle.pz_classes_rules.specs.Methods.{Signature, signatures, data_signature, process_signature, methods_before}
use Rattle.pz_classes_rules.specs.Bodies.{data_locals, process_locals}
use Rattle.pz_classes_rules.proofs.Acyclic.{inside}
use Rattle.pz_classes_rules.proofs.Within.{methods}
use Rattle.pz_classes_rules.proofs.MethodCounts.{methods_after}
use Rattle.pz_classes_rules.proofs.Reaching.{followed_from}
use Rattle.pz_classes_rules.proofs.Weights.{total, below, Differ, total_below}

-- ---- lists of things

sum_is : {A : Type 0} (f : A → List Mark) (xs : List A) → sum_by (λ x. length (f x)) xs ≡ length (each_text f xs)
sum_is f [] = refl
sum_is f (x ∷ xs) = sum_by-cons (λ x. length (f x)) x xs ∙ ap (λ (n : ℕ). length (f x) + n) (sum_is f xs) ∙ sym (length-append (f x) (each_text f xs))

count_each : {A : Type 0} (f : A → List Mark) → ((x : A) → 1 ≤ length (f x)) → (xs : List A) → length xs ≤ length (each_text f xs)
count_each f some [] = omega arith
count_each f some (x ∷ xs) = simp length-append (omega (arith, some x, count_each f some xs))

one_of_each : {A : Type 0} (f : A → List Mark) (xs : List A) (i : ℕ) (x : A) → slice_get xs i ≡ Some x → length (f x) ≤ length (each_text f xs)
one_of_each f xs i x here =
    let all = sum_is f xs in
    let one = get_or-le-sum_by (λ y. length (f y)) xs i x (slice_get_within xs i x here) in
    let same : length (f (get_or xs i x)) ≡ length (f x) = ap (λ y. length (f y)) (get_or_from_slice_get xs i x x here) in
    omega (arith, all, one, same)

count_tail : {A : Type 0} (f : A → List Mark) (separator : Symbol) (xs : List A) → length xs ≤ length (tail_separated f separator xs)
count_tail f separator [] = omega arith
count_tail f separator (x ∷ xs) = simp length-append (omega (arith, count_tail f separator xs))

count_separated : {A : Type 0} (f : A → List Mark) (separator : Symbol) → ((x : A) → 1 ≤ length (f x)) → (xs : List A) → length xs ≤ length (separated f separator xs)
count_separated f separator some [] = omega arith
count_separated f separator some (x ∷ xs) = simp length-append (omega (arith, some x, count_tail f separator xs))

-- ---- names that are declared

names_from : (x : Id) (xs : List Id) → suc (length xs) ≤ length (group_names_from x xs)
names_from x [] = omega arith
names_from x (y ∷ ys) = omega (arith, names_from y ys)

in_names : (xs : List Id) → length xs ≤ length (group_names xs)
in_names [] = omega arith
in_names (x ∷ xs) = omega (arith, names_from x xs)

in_tail : (gs : List VarGroup) → length (grouped gs) ≤ length (tail_separated group_text s.Comma gs)
in_tail [] = omega arith
in_tail (g ∷ gs) = simp length-append (omega (arith, in_names g.names, in_tail gs))

pub in_groups : (gs : List VarGroup) → length (grouped gs) ≤ length (variables_text gs)
in_groups [] = omega arith
in_groups (g ∷ gs) = simp length-append (omega (arith, in_names g.names, in_tail gs))

in_formal : (gs : List VarGroup) → length (grouped gs) ≤ length (formal_text gs)
in_formal gs = simp length-append (omega (arith, in_groups gs))

in_optional : (gs : Option (List VarGroup)) → length (section gs) ≤ length (optional formal_text gs)
in_optional None = omega arith
in_optional (Some gs) = in_formal gs

in_locals : (gs : Option (List VarGroup)) → length (section gs) ≤ length (optional locals_text gs)
in_locals None = omega arith
in_locals (Some gs) = simp length-append (omega (arith, in_groups gs))

in_section : (begin : Keyword) (gs : Option (List VarGroup)) → length (section gs) ≤ length (part begin variables_text gs)
in_section begin None = omega arith
in_section begin (Some gs) = omega (arith, in_groups gs)

in_ports : (begin : Keyword) (ids : Option (List Id)) → length (unwrap_or ids []) ≤ length (part begin names_text ids)
in_ports begin None = omega arith
in_ports begin (Some ids) = omega (arith, count_separated word_text s.Comma (λ x. omega arith) ids)

-- ---- methods

pub data_locals_few : (r : DataMethodTree) → length (data_locals r) ≤ length (data_method_text r)
data_locals_few r = simp length-append (omega (arith, in_optional r.inputs, in_locals r.locals))

pub process_locals_few : (r : ProcessMethodTree) → length (process_locals r) ≤ length (process_method_text r)
process_locals_few r = simp length-append (omega (arith, in_groups r.inputs, in_groups r.outputs, in_locals r.locals))

in_each_text : {A : Type 0} (begin : Keyword) (f : A → List Mark) → ((x : A) → 1 ≤ length (f x)) → (rs : Option (List A)) → length (unwrap_or rs []) ≤ length (part begin (each_text f) rs)
in_each_text begin f some None = omega arith
in_each_text begin f some (Some rs) = omega (arith, count_each f some rs)

-- ---- declarations

pub own_fields_few : (d : DeclTree) → length (own_fields d) ≤ length (decl_text d)
own_fields_few (data_class c) = simp length-append (omega (arith, in_section k.Variables c.variables))
own_fields_few (process_class c) = omega arith
own_fields_few (cluster_class c) = omega arith
own_fields_few (system d) = omega arith

pub own_variables_few : (d : DeclTree) → length (own_variables d) ≤ length (decl_text d)
own_variables_few (data_class c) = omega arith
own_variables_few (process_class c) = simp length-append (omega (arith, in_optional c.parameters, in_section k.Variables c.variables))
own_variables_few (cluster_class c) = omega arith
own_variables_few (system d) = omega arith

pub own_ports_few : (d : DeclTree) → length (own_ports d) ≤ length (decl_text d)
own_ports_few (data_class c) = omega arith
own_ports_few (process_class c) = simp length-append (omega (arith, in_ports k.Ports c.ports))
own_ports_few (cluster_class c) = simp length-append (omega (arith, in_ports k.Ports c.ports))
own_ports_few (system d) = omega arith

some_marks : (d : DeclTree) → 1 ≤ length (decl_text d)
some_marks (data_class c) = omega arith
some_marks (process_class c) = omega arith
some_marks (cluster_class c) = omega arith
some_marks (system d) = omega arith

methods_few : (d : DeclTree) → methods d ≤ length (decl_text d)
methods_few (data_class c) =
    let count : length (signatures (data_class c)) ≡ length (unwrap_or c.methods []) = length-map (unwrap_or c.methods []) data_signature in
    simp length-append (omega (arith, count, in_each_text k.Methods data_method_text (λ r. omega arith) c.methods))
methods_few (process_class c) =
    let count : length (signatures (process_class c)) ≡ length (unwrap_or c.methods []) = length-map (unwrap_or c.methods []) process_signature in
    simp length-append (omega (arith, count, in_each_text k.Methods process_method_text (λ r. omega arith) c.methods))
methods_few (cluster_class c) = omega arith
methods_few (system d) = omega arith

pub instances_few : (d : DeclTree) → length (instances d) ≤ length (decl_text d)
instances_few (data_class c) = omega arith
instances_few (process_class c) = omega arith
instances_few (cluster_class c) = simp length-append (omega (arith, in_each_text k.Instances instance_text (λ i. omega arith) c.instances))
instances_few (system d) = simp length-append (omega (arith, in_each_text k.Instances instance_text (λ i. omega arith) d.instances))

-- ---- a model

abbrev size : DeclTree → ℕ
size d = length (decl_text d)

module _ (m : ModelTree) where
  pub decls_few : length m.decls ≤ length (text m)
  decls_few = count_each decl_text some_marks m.decls

  pub decl_few : (c : ℕ) (d : DeclTree) → declaration m c ≡ Some d → length (decl_text d) ≤ length (text m)
  decl_few zero d here = cc
  decl_few (suc i) d here = one_of_each decl_text m.decls i d here

  -- the methods of the classes before one
  pub before_few : (c : ℕ) → methods_before m c ≤ length (text m)
  before_few c =
      let part = sum_by-take-le methods m.decls (c - 1) in
      let each = sum_by-le-sum_by methods size m.decls methods_few in
      let all = sum_is decl_text m.decls in
      omega (arith, part, each, all)

  module _ (own : DeclTree → List Id) (few : (d : DeclTree) → length (own d) ≤ length (decl_text d)) where
    abbrev weight : ℕ → ℕ
    weight c = length (option_map_or own (declaration m c) [])

    line_weighs : (line : List ℕ) → length (from_root own m line) ≡ total weight line
    line_weighs [] = refl
    line_weighs (c ∷ line) =
        let both = length-append (from_root own m line) (option_map_or own (declaration m c) []) in
        omega (arith, both, line_weighs line)

    below_few : (i : ℕ) → i ≤ length m.decls → below weight (suc i) ≤ sum_by size (take i m.decls)
    below_few zero fits = omega arith
    below_few (suc i) fits = by_place (slice_get_cases m.decls i).1 (below_few i (omega arith))
      where
        by_place : ((d : DeclTree) × (i < length m.decls) × (slice_get m.decls i ≡ Some d) × (get_or m.decls i d ≡ d)) ⊎ ((length m.decls ≤ i) × (slice_get m.decls i ≡ None))
            → below weight (suc i) ≤ sum_by size (take i m.decls) → below weight (suc (suc i)) ≤ sum_by size (take (suc i) m.decls)
        by_place (inl at) rest =
            let more : sum_by size (take (i + 1) m.decls) ≡ sum_by size (take i m.decls) + size (get_or m.decls i at.0) = sum_by_more size m.decls i at.0 at.1 in
            let there : size (get_or m.decls i at.0) ≡ size at.0 = ap size at.3 in
            let mine : weight (suc i) ≡ length (own at.0) = ap (λ (o : Option DeclTree). length (option_map_or own o [])) at.2 in
            let bound = few at.0 in
            let on : i + 1 ≡ suc i = omega arith in
            let next : sum_by size (take (suc i) m.decls) ≡ sum_by size (take (i + 1) m.decls) = ap (λ (j : ℕ). sum_by size (take j m.decls)) (sym on) in
            omega (arith, rest, more, there, mine, bound, next)
        by_place (inr past) rest = absurd (omega (arith, past.0))

    all_few : below weight (suc (length m.decls)) ≤ length (text m)
    all_few =
        let part = below_few (length m.decls) (omega arith) in
        let within = sum_by-take-le size m.decls (length m.decls) in
        let all = sum_is decl_text m.decls in
        omega (arith, part, within, all)

    -- what a class and its ancestors have, where no class is among its own ancestors
    pub line_few : (flat : (c : ℕ) → GoesRound (parent m) c → ⊥) (c : ℕ) → c < suc (length m.decls) → length (from_root own m (ancestors m c)) ≤ length (text m)
    line_few flat c within =
        let weighs = line_weighs (ancestors m c) in
        let under = total_below weight (suc (length m.decls)) (ancestors m c) (differ (suc (length m.decls)) c) (λ q is. inside m flat (suc (length m.decls)) c q within is) in
        omega (arith, weighs, under, all_few)
      where
        differ : (n a : ℕ) → Differ (followed (parent m) n a)
        differ zero a = tt
        differ (suc n) a = by_parent (parent m a) refl (differ n)
          where
            by_parent : (o : Option ℕ) → parent m a ≡ o → ((p : ℕ) → Differ (followed (parent m) n p)) → Differ (a ∷ option_map_or (followed (parent m) n) o [])
            by_parent None up rest = (refl, tt)
            by_parent (Some p) up rest = (none (list_any (eqb a) (followed (parent m) n p)) refl, rest p)
              where
                none : (b : Bool) → list_any (eqb a) (followed (parent m) n p) ≡ b → list_any (eqb a) (followed (parent m) n p) ≡ false
                none true is = absurd (flat a (round a p up (followed_from m n p a is)))
                none false is = is

  pub fields_few : ((c : ℕ) → GoesRound (parent m) c → ⊥) → (c : ℕ) → c < suc (length m.decls) → length (fields m c) ≤ length (text m)
  fields_few = line_few own_fields own_fields_few

  pub variables_few : ((c : ℕ) → GoesRound (parent m) c → ⊥) → (c : ℕ) → c < suc (length m.decls) → length (variables m c) ≤ length (text m)
  variables_few = line_few own_variables own_variables_few

  pub ports_few : ((c : ℕ) → GoesRound (parent m) c → ⊥) → (c : ℕ) → c < suc (length m.decls) → length (ports m c) ≤ length (text m)
  ports_few = line_few own_ports own_ports_few

-- ---- what 32 bits number

pub room : (ds : List Decl) → HasFewMarks (record { decls = map decl_view ds }) → length ds + 1 < 2 ^ 32
room ds few =
    let same = length-map ds decl_view in
    let count = decls_few (record { decls = map decl_view ds }) in
    omega (arith, few, same, count)

module _ (m : ModelTree) (few : HasFewMarks m) where
  -- the number after those of the methods of a class
  pub numbers_fit : (c first : ℕ) (ss : List Signature) → first ≡ methods_before m c → ss ≡ option_map_or signatures (declaration m c) [] → first + length ss < 2 ^ 32
  numbers_fit c first ss counted are =
      let after = methods_after m c in
      let within = before_few m (c + 1) in
      let same : length ss ≡ length (option_map_or signatures (declaration m c) []) = ap (λ (ts : List Signature). length ts) are in
      omega (arith, few, after, within, same, counted)

  pub decl_fits : (c : ℕ) (d : DeclTree) → declaration m c ≡ Some d → length (decl_text d) < 2 ^ 32
  decl_fits c d here = let one = decl_few m c d here in omega (arith, few, one)

-- the names of each method of a class
pub data_names_fit : (c : DataClassTree) → length (data_class_text c) < 2 ^ 32 → (rs : List DataMethodTree) → c.methods ≡ Some rs → (i : ℕ) (r : DataMethodTree) → slice_get rs i ≡ Some r → length (data_locals r) < 2 ^ 32
data_names_fit c fits rs are i r here =
    let one = one_of_each data_method_text rs i r here in
    let names = data_locals_few r in
    let all : length (each_text data_method_text rs) ≤ length (part k.Methods (each_text data_method_text) c.methods) = rw are (omega arith) in
    let whole : length (part k.Methods (each_text data_method_text) c.methods) ≤ length (data_class_text c) = simp length-append (omega arith) in
    omega (arith, one, names, all, whole, fits)

pub process_names_fit : (c : ProcessClassTree) → length (process_class_text c) < 2 ^ 32 → (rs : List ProcessMethodTree) → c.methods ≡ Some rs → (i : ℕ) (r : ProcessMethodTree) → slice_get rs i ≡ Some r → length (process_locals r) < 2 ^ 32
process_names_fit c fits rs are i r here =
    let one = one_of_each process_method_text rs i r here in
    let names = process_locals_few r in
    let all : length (each_text process_method_text rs) ≤ length (part k.Methods (each_text process_method_text) c.methods) = rw are (omega arith) in
    let whole : length (part k.Methods (each_text process_method_text) c.methods) ≤ length (process_class_text c) = simp length-append (omega arith) in
    omega (arith, one, names, all, whole, fits)

pub data_methods_fit : (d : Decl) (class : DataClass) (rs : List DataMethod) → d ≡ decl.Data class → class.methods ≡ Some rs → length (decl_text (decl_view d)) < 2 ^ 32
    → All (λ r. length (data_locals (data_method_view r)) < 2 ^ 32) rs
data_methods_fit d class rs is has fits i r within =
    let marks : length (data_class_text (data_class_view class)) < 2 ^ 32 = subst (λ (e : Decl). length (decl_text (decl_view e)) < 2 ^ 32) is fits in
    let there = slice_get-map data_method_view rs i ∙ ap (λ (o : Option DataMethod). option_map data_method_view o) (slice_get-get_or rs i r within) in
    data_names_fit (data_class_view class) marks (map data_method_view rs) (ap (λ (o : Option (List DataMethod)). option_map (map data_method_view) o) has) i (data_method_view (get_or rs i r)) there

pub process_methods_fit : (d : Decl) (class : ProcessClass) (rs : List ProcessMethod) → d ≡ decl.Process class → class.methods ≡ Some rs → length (decl_text (decl_view d)) < 2 ^ 32
    → All (λ r. length (process_locals (process_method_view r)) < 2 ^ 32) rs
process_methods_fit d class rs is has fits i r within =
    let marks : length (process_class_text (process_class_view class)) < 2 ^ 32 = subst (λ (e : Decl). length (decl_text (decl_view e)) < 2 ^ 32) is fits in
    let there = slice_get-map process_method_view rs i ∙ ap (λ (o : Option ProcessMethod). option_map process_method_view o) (slice_get-get_or rs i r within) in
    process_names_fit (process_class_view class) marks (map process_method_view rs) (ap (λ (o : Option (List ProcessMethod)). option_map (map process_method_view) o) has) i (process_method_view (get_or rs i r)) there

pub item_fits : (ds : List Decl) → HasFewMarks (record { decls = map decl_view ds }) → (i : ℕ) (x : Decl) → i < length ds → x ≡ get_or ds i x → length (decl_text (decl_view x)) < 2 ^ 32
item_fits ds few i x within here =
    let there = slice_get-map decl_view ds i ∙ ap (λ (o : Option Decl). option_map decl_view o) (slice_get_read ds (length ds) i x refl within here) in
    decl_fits (record { decls = map decl_view ds }) few (suc i) (decl_view x) there

-- ---- names, counted group by group

grouped_sum : (gs : List VarGroup) → length (grouped gs) ≡ sum_by (λ g. length g.names) gs
grouped_sum [] = refl
grouped_sum (g ∷ gs) = length-append g.names (grouped gs) ∙ ap (λ (n : ℕ). length g.names + n) (grouped_sum gs) ∙ sym (sum_by-cons (λ (h : VarGroup). length h.names) g gs)

-- the names so far and those of the next group
pub one_more_group : (gs : List VarGroup) (i : ℕ) (g : VarGroup) → i < length gs → g ≡ get_or gs i g → length (grouped (take i gs)) + length g.names ≤ length (grouped gs)
one_more_group gs i g within here =
    let more = sum_by_more_le (λ (h : VarGroup). length h.names) gs i g within in
    let so_far = grouped_sum (take i gs) in
    let all = grouped_sum gs in
    let next : length g.names ≡ length (get_or gs i g).names = ap (λ (h : VarGroup). length h.names) here in
    omega (arith, more, so_far, all, next)

pub data_inputs_fit : (rs : List DataMethod) → All (λ r. length (data_locals (data_method_view r)) < 2 ^ 32) rs → All (λ r. length (section r.inputs) < 2 ^ 32) rs
data_inputs_fit rs fit i r within =
    let x = get_or rs i r in
    let all : length (data_locals (data_method_view x)) < 2 ^ 32 = fit i r within in
    let sum = length-append (section x.inputs) (section x.locals) in
    omega (arith, all, sum)

pub process_inputs_fit : (rs : List ProcessMethod) → All (λ r. length (process_locals (process_method_view r)) < 2 ^ 32) rs → All (λ r. length (grouped r.inputs) < 2 ^ 32) rs
process_inputs_fit rs fit i r within =
    let x = get_or rs i r in
    let all : length (process_locals (process_method_view x)) < 2 ^ 32 = fit i r within in
    let sum = length-append (grouped x.inputs ++ grouped x.outputs) (section x.locals) in
    let both = length-append (grouped x.inputs) (grouped x.outputs) in
    omega (arith, all, sum, both)

pub process_outputs_fit : (rs : List ProcessMethod) → All (λ r. length (process_locals (process_method_view r)) < 2 ^ 32) rs → All (λ r. length (grouped r.outputs) < 2 ^ 32) rs
process_outputs_fit rs fit i r within =
    let x = get_or rs i r in
    let all : length (process_locals (process_method_view x)) < 2 ^ 32 = fit i r within in
    let sum = length-append (grouped x.inputs ++ grouped x.outputs) (section x.locals) in
    let both = length-append (grouped x.inputs) (grouped x.outputs) in
    omega (arith, all, sum, both)
