-- The classes of a sound model.
use Rattle.std.proofs.Common.{◌≡◌, refl, sym, ◌∙◌, subst, ℕ, Bool, true, false, IsTrue, List, [], ◌∷◌, Option, Some, None, is_none, IsSome}
use Rattle.std.specs.List.{Contains}
use Rattle.std.specs.Option.{option_and_then, option_map, option_or, unwrap_or}
use Rattle.std.proofs.lemmas.List.Elements.{Contains-append_right}
use Rattle.pz_classes_code.specs.pz_syntax.declared.names.Id.{Id}
use Rattle.pz_classes_code.specs.pz_syntax.Classes.{ProcessClassTree, DeclTree, data_class, process_class, cluster_class, system, StartTree, ModelTree}
use Rattle.pz_check_violations.specs.Order.{violation}
use Rattle.pz_classes_mentions.specs.declared.mention.Mention.{Mention}
use Rattle.pz_classes_mentions.specs.declared.mention.Mention.TheVariants.{Declared, Called}
use Rattle.pz_classes_mentions.specs.declared.local_scope.LocalScope.{LocalScope}
use Rattle.pz_classes_mentions.specs.Declarations.{parts, process_head, section_types, extended, mentioned_messages, mentioned_start}
use Rattle.pz_classes_mentions.specs.Expressions.{count, mentioned_all}
use Rattle.pz_classes_lineage.specs.Reached.{GoesRound}
use Rattle.pz_classes_code.specs.ReservedNames.{is_unsupported}
use Rattle.pz_classes_rules.specs.Numbers.{declaration}
use Rattle.pz_classes_rules.specs.Ancestors.{parent, ancestors}
use Rattle.pz_classes_rules.specs.Members.{own_fields, own_variables, own_ports, fields, variables, ports, from_root}
use Rattle.pz_classes_rules.specs.Methods.{process_method, own_method, nearest}
use Rattle.pz_classes_rules.specs.Starts.{own_start, start_call}
use Rattle.pz_classes_rules.specs.CallRules.{start}
use Rattle.pz_classes_rules.specs.Kinds.{is_process}
use Rattle.pz_classes_rules.specs.Words.{Mentions}
use Rattle.pz_classes_rules.specs.WordRules.{c7, c11, c18}
use Rattle.pz_classes_rules.specs.RepeatRules.{same_name, again_field, again_variable, again_port}
use Rattle.pz_classes_rules.specs.Soundness.{IsSound, a_word, a_repeat}
use Rattle.pz_classes_rules.specs.SoundClasses.{BeginsWith, Inherits, StartsWell, ClassesFit, SoundClassesFit}
use Rattle.pz_classes_rules.proofs.Apart.{apart}
use Rattle.pz_classes_rules.proofs.Turned.{names_turned}
use Rattle.pz_classes_rules.proofs.Elements.{first_in, later_in}
use Rattle.pz_classes_rules.proofs.Heirs.{Line, line_of, begins_on, nearest_on}
use Rattle.pz_classes_rules.proofs.Rounds.{nobody_goes_round}

-- ---- what the nearest of some classes has

-- the class that has it
pub record Nearest {A : Type 0} (f : ℕ → Option A) (line : List ℕ) (x : A) : Type 0 where
  pub class : ℕ
  pub class_in : Contains line class
  pub has : f class ≡ Some x

pub nearest_has : {A : Type 0} (f : ℕ → Option A) (line : List ℕ) (x : A) → nearest f line ≡ Some x → Nearest f line x
nearest_has f [] x is = cc
nearest_has {A} f (c ∷ line) x is = by_first (f c) refl (nearest_has f line x)
  where
    by_first : (o : Option A) → f c ≡ o → (nearest f line ≡ Some x → Nearest f line x) → Nearest f (c ∷ line) x
    by_first None none rest = let r = rest (rw none at is) in record { class = r.class; class_in = later_in c line r.class r.class_in; has = r.has }
    by_first (Some y) some rest = let same : Some y ≡ Some x = rw some at is in record { class = c; class_in = first_in c line; has = some ∙ same }

-- what is made of what the nearest has is what the nearest makes
nearest_made : {A B : Type 0} (f : ℕ → Option A) (g : ℕ → A → B) (line : List ℕ) (x : A) → (n : Nearest f line x) → nearest f line ≡ Some x
    → (c : ℕ) × Contains line c × (f c ≡ Some x) × (nearest (λ a. option_map (g a) (f a)) line ≡ Some (g c x))
nearest_made f g [] x n is = cc
nearest_made {A} {B} f g (c ∷ line) x n is = by_first (f c) refl (λ m so. nearest_made f g line x m so)
  where
    by_first : (o : Option A) → f c ≡ o
        → (Nearest f line x → nearest f line ≡ Some x → (a : ℕ) × Contains line a × (f a ≡ Some x) × (nearest (λ b. option_map (g b) (f b)) line ≡ Some (g a x)))
        → (a : ℕ) × Contains (c ∷ line) a × (f a ≡ Some x) × (option_or (option_map (g c) (f c)) (nearest (λ b. option_map (g b) (f b)) line) ≡ Some (g a x))
    by_first None none rest =
        let later : nearest f line ≡ Some x = rw none at is in
        let r = rest (nearest_has f line x later) later in
        (r.0, later_in c line r.0 r.1, r.2, rw none r.3)
    by_first (Some y) some rest =
        let same : Some y ≡ Some x = rw some at is in
        (c, first_in c line, some ∙ same, rw (some ∙ same) refl)

some_or_none : {A : Type 0} (o : Option A) → (IsTrue (is_none o) → ⊥) → (x : A) × (o ≡ Some x)
some_or_none None never = absurd (never refl)
some_or_none (Some x) never = (x, refl)

is_there : {A : Type 0} (o : Option A) → (IsTrue (is_none o) → ⊥) → IsSome o
is_there None never = absurd (never refl)
is_there (Some x) never = refl

not_true : (b : Bool) → (b ≡ true → ⊥) → b ≡ false
not_true true never = absurd (never refl)
not_true false never = refl

module _ (m : ModelTree) (sound : IsSound m) where
  flat : (c : ℕ) → GoesRound (parent m) c → ⊥
  flat = nobody_goes_round m sound.classes

  inherits : (c a : ℕ) → Contains (ancestors m c) a → Inherits m c a
  inherits c a here = by_line (line_of m flat c a here)
    where
      begins : (own : DeclTree → List Id) (l : Line m c a) → BeginsWith (from_root own m (ancestors m c)) (from_root own m (ancestors m a))
      begins own l = subst (λ (line : List ℕ). BeginsWith (from_root own m line) (from_root own m (ancestors m a))) (sym l.is) (begins_on own m l.front (ancestors m a))

      by_line : Line m c a → Inherits m c a
      by_line l = record { fields_begin = begins own_fields l; variables_begin = begins own_variables l; ports_begin = begins own_ports l }

  has_called : (a : ℕ) (d : DeclTree) (p : LocalScope) (name : Id) (inputs outputs : ℕ) → Mentions m a d p (Called name inputs outputs) → IsSome (process_method m a name.name inputs outputs)
  has_called a d p name inputs outputs here =
      is_there (process_method m a name.name inputs outputs)
      (λ none. sound.rules (violation 7 name.pos) (a_word (violation 7 name.pos) (c7 a d p (Called name inputs outputs) here none)))

  called : (a : ℕ) (d : DeclTree) (p : LocalScope) (name : Id) (inputs outputs : ℕ) → Mentions m a d p (Called name inputs outputs)
      → (c : ℕ) → Contains (ancestors m c) a → IsSome (process_method m c name.name inputs outputs)
  called a d p name inputs outputs here c heir =
      let l = line_of m flat c a heir in
      let f = own_method m (record { name = name.name; counts = _ }) in
      subst (λ (line : List ℕ). IsSome (nearest f line)) (sym l.is) (nearest_on f l.front (ancestors m a) (has_called a d p name inputs outputs here))

  -- ---- how processes start

  head_in : (p : ProcessClassTree) → Contains (parts (process_class p)) (process_head p)
  head_in p = first_in (process_head p) _

  name_mentioned : (a : ℕ) (p : ProcessClassTree) → declaration m a ≡ Some (process_class p) → Mentions m a (process_class p) (process_head p) (Declared p.name)
  name_mentioned a p here = record { declared = here; part_of = head_in p; mentioned = first_in (Declared p.name) _ }

  -- the words of an `init`
  pub start_words : (a : ℕ) (p : ProcessClassTree) (s : StartTree) → declaration m a ≡ Some (process_class p) → p.start ≡ Some s
      → (x : Mention) → Contains (mentioned_start (Some s)) x → Mentions m a (process_class p) (process_head p) x
  start_words a p s here is x among =
      let last : Contains (mentioned_start p.start) x = rw is among in
      record {
        declared = here;
        part_of = head_in p;
        mentioned = later_in (Declared p.name) _ x
            (Contains-append_right (section_types p.parameters) _ x
            (Contains-append_right (extended p.parent) _ x
            (Contains-append_right (mentioned_messages (unwrap_or p.messages [])) _ x
            (Contains-append_right (section_types p.variables) (mentioned_start p.start) x last))));
      }

  start_mentioned : (a : ℕ) (p : ProcessClassTree) (s : StartTree) → declaration m a ≡ Some (process_class p) → p.start ≡ Some s
      → Mentions m a (process_class p) (process_head p) (Called s.method (count s.args) 0)
  start_mentioned a p s here is = start_words a p s here is (Called s.method (count s.args) 0) (first_in (Called s.method (count s.args) 0) (mentioned_all s.args))

  -- the class that declares an `init`
  own_start_called : (a : ℕ) (s : StartTree) → option_and_then own_start (declaration m a) ≡ Some s
      → (p : ProcessClassTree) × Mentions m a (process_class p) (process_head p) (Called s.method (count s.args) 0)
  own_start_called a s is = by_decl (declaration m a) refl
    where
      of_decl : (d : DeclTree) → declaration m a ≡ Some d → own_start d ≡ Some s → (p : ProcessClassTree) × Mentions m a (process_class p) (process_head p) (Called s.method (count s.args) 0)
      of_decl (data_class c) here starts = cc
      of_decl (process_class p) here starts = (p, start_mentioned a p s here starts)
      of_decl (cluster_class c) here starts = cc
      of_decl (system c) here starts = cc

      by_decl : (o : Option DeclTree) → declaration m a ≡ o → (p : ProcessClassTree) × Mentions m a (process_class p) (process_head p) (Called s.method (count s.args) 0)
      by_decl None here = let none : None ≡ Some s = rw here at is in cc
      by_decl (Some d) here = of_decl d here (rw here at is)

  starts_from : (c : ℕ) (s : StartTree) → start m c ≡ Some s → StartsWell m c
  starts_from c s is =
      let own : ℕ → Option StartTree = λ a. option_and_then own_start (declaration m a) in
      let n = nearest_made own (start_call m) (ancestors m c) s (nearest_has own (ancestors m c) s is) is in
      let o = own_start_called n.0 s n.2 in
      record {
        from = n.0;
        from_in = n.1;
        the_start = s;
        is_start = is;
        is_call = n.3;
        has_method = called n.0 (process_class o.0) (process_head o.0) s.method (count s.args) 0 o.1 c n.1;
      }

  starts : (c : ℕ) (d : DeclTree) → declaration m c ≡ Some d → IsTrue (is_process d) → StartsWell m c
  starts c (data_class d) here process = cc
  starts c (process_class p) here process =
      let named = name_mentioned c p here in
      let supported : is_unsupported p.name.name ≡ false = not_true (is_unsupported p.name.name) (λ is. sound.rules (violation 18 p.name.pos) (a_word (violation 18 p.name.pos) (c18 c (process_class p) (process_head p) (Declared p.name) named is))) in
      let some = some_or_none (start m c)
      (λ none. sound.rules (violation 11 p.name.pos) (a_word (violation 11 p.name.pos) (c11 c (process_class p) (process_head p) (Declared p.name) named (rw (supported, none) refl)))) in
      starts_from c some.0 some.1
  starts c (cluster_class d) here process = cc
  starts c (system d) here process = cc

  pub classes_of : ClassesFit m
  classes_of = record {
    inherits = inherits;
    fields_apart = λ c. apart same_name (λ x. x.pos) (fields m c) names_turned (λ y again. sound.rules (violation 4 y.pos) (a_repeat (violation 4 y.pos) (again_field c y again)));
    variables_apart = λ c. apart same_name (λ x. x.pos) (variables m c) names_turned (λ y again. sound.rules (violation 4 y.pos) (a_repeat (violation 4 y.pos) (again_variable c y again)));
    ports_apart = λ c. apart same_name (λ x. x.pos) (ports m c) names_turned (λ y again. sound.rules (violation 4 y.pos) (a_repeat (violation 4 y.pos) (again_port c y again)));
    starts = starts;
    called = called;
  }

pub classes_fit : SoundClassesFit
classes_fit m sound = classes_of m sound
