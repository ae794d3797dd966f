-- A worked system may be closed by a worked script.
use Rattle.std.proofs.Common.{◌≡◌, refl, sym, ap, subst, ◌∙◌, ℕ, zero, suc, ◌+◌, ◌≤◌, Bool, true, false, not, ◌&&◌, List, [], ◌∷◌, map, Option, Some, None, codes, arith, lit<, lit≤, ◌⊎◌, inl, inr}
use Rattle.std.specs.Prelude.{pos}
use Rattle.std.specs.List.{Contains, list_all, sum_by}
use Rattle.std.specs.Option.{option_map_or}
use Rattle.std.specs.Fmt.{digits}
use Rattle.std.proofs.lemmas.Bool.{and_parts, both_ways, false≢true, not-true}
use Rattle.std.proofs.lemmas.List.Elements.{All-contains}
use Rattle.std.proofs.lemmas.List.Sums.{AllPass-from_list_all}
use Rattle.pz_env_tree.specs.pz_syntax.declared.names.Id.{Id}
use Rattle.pz_env_tree.specs.pz_syntax.declared.classes.Message.{Message}
use Rattle.pz_env_tree.specs.pz_syntax.declared.clusters.Instance.{Instance}
use Rattle.pz_env_tree.specs.pz_syntax.declared.clusters.ChannelEnd.{ChannelEnd}
use Rattle.pz_env_tree.specs.pz_syntax.declared.clusters.SystemDecl.{SystemDecl}
use Rattle.pz_env_tree.specs.pz_syntax.Classes.{DeclTree}
use Rattle.pz_env_tree.specs.pz_value.declared.value.Value.TheVariants.{Int}
use Rattle.pz_classes_mentions.specs.declared.mention.Mention.{Mention}
use Rattle.pz_classes_mentions.specs.declared.local_scope.LocalScope.{LocalScope}
use Rattle.pz_classes_mentions.specs.Declarations.{parts}
use Rattle.pz_env_tree.specs.pz_check_violations.declared.violation.Violation.{Violation}
use Rattle.pz_env_tree.specs.pz_classes_rules.Numbers.{declared_name, declaration}
use Rattle.pz_env_tree.specs.pz_classes_rules.Ancestors.{extended, parent}
use Rattle.pz_env_tree.specs.pz_classes_rules.Kinds.{is_cluster}
use Rattle.pz_env_tree.specs.pz_classes_rules.Members.{fields, variables, ports, spelled}
use Rattle.pz_env_tree.specs.pz_classes_rules.Instances.{instances, instance_class, parameters}
use Rattle.pz_env_tree.specs.pz_classes_rules.InstanceRules.{given_names, gives_each, BreaksC14, ill_given, holds_itself}
use Rattle.pz_env_tree.specs.pz_classes_rules.CallRules.{own_messages}
use Rattle.pz_env_tree.specs.pz_classes_rules.RepeatRules.{Repeats, same_name, RepeatsName, Heading, headings, same_heading, same_message, BreaksC4, again_field, again_variable, again_port, again_local, again_instance, again_method, again_message}
use Rattle.pz_env_tree.specs.pz_classes_rules.ChannelRules.{end_place, ends, no_end, same_end, again_end, again_outer}
use Rattle.pz_env_tree.specs.pz_classes_rules.SizeRules.{system_size, is_too_large, too_large, again_system, no_system}
use Rattle.pz_env_tree.specs.pz_classes_rules.Soundness.{Breaks, a_word, a_repeat, given, holding, an_end, two_ends, size, the_system as the_system_rule, IsSound}
use Rattle.pz_env_tree.specs.pz_classes_rules.Violations.{breaks_c1, breaks_c2, Violates, c1, c2, c3}
use Rattle.pz_env_tree.specs.pz_classes_rules.Words.{Mentions}
use Rattle.pz_classes_openings.specs.Openings.{begun_at, calls_at, statements_at, called, of_called, opened_to}
use Rattle.pz_classes_openings.specs.OpeningRules.{BreaksC23, round, BreaksC24, too_large as too_large_method, Opens}
use Rattle.pz_env_tree.specs.pz_env_script.Literals.{number, none as no_more, more}
use Rattle.pz_env_tree.specs.pz_env_script.Entries.{sends}
use Rattle.pz_env_tree.specs.pz_env_script.Scripts.{IsWritten}
use Rattle.pz_env_tree.proofs.pz_env_rules_proofs.WorkedSystem.{at, id, class_R, system_of, instance_r, model, script}
use Rattle.pz_env_tree.proofs.Refusing.{refused_found}
use Rattle.pz_env_grown.proofs.Elements.{none_in, in_cases}
use Rattle.pz_env_grown.proofs.Numbers.{none_some, some_same}
use Rattle.pz_env_sound.specs.MayClose.{MayClose}
use Rattle.pz_env_sound.proofs.RepeatsInParts.{none_repeats, one_repeats}
use Rattle.pz_env_sound.proofs.KeptWords.{broken, NoneHolds}
use Rattle.pz_env_sound.proofs.Words.{no_broken_word}

-- what is so of both declarations is so of each
by_number : (P : ℕ → DeclTree → Type 0) → P 1 class_R → P 2 (system_of (instance_r ∷ []) None) → (c : ℕ) (d : DeclTree)
    → declaration model c ≡ Some d → P c d
by_number P one two zero d is = absurd (none_some d is)
by_number P one two (suc zero) d is = subst (P 1) (some_same class_R d is) one
by_number P one two (suc (suc zero)) d is = subst (P 2) (some_same (system_of (instance_r ∷ []) None) d is) two
by_number P one two (suc (suc (suc c))) d is = absurd (none_some d is)

passes_in : {A : Type 0} (test : A → Bool) (xs : List A) (x : A) → list_all test xs ≡ true → Contains xs x → test x ≡ true
passes_in test xs x all there = All-contains (λ y. test y ≡ true) xs x (AllPass-from_list_all test xs all) there

abbrev none : List Bool → Bool
none [] = true
none (b ∷ bs) = not b && none bs

none_holds : (bs : List Bool) → none bs ≡ true → NoneHolds bs
none_holds [] all = tt
none_holds (b ∷ bs) all = let each = and_parts (not b) (none bs) all in (not-true b each.0, none_holds bs each.1)

abbrev part_stands : ℕ → DeclTree → LocalScope → Bool
part_stands c d p = list_all (λ x. none (broken model c d p.locals x)) p.mentions

all_stand : (c : ℕ) (d : DeclTree) → declaration model c ≡ Some d → list_all (part_stands c d) (parts d) ≡ true
all_stand = by_number (λ c d. list_all (part_stands c d) (parts d) ≡ true) refl refl

words_stand : (c : ℕ) (d : DeclTree) (p : LocalScope) (x : Mention) → Mentions model c d p x → NoneHolds (broken model c d p.locals x)
words_stand c d p x there =
    none_holds (broken model c d p.locals x)
    (passes_in (λ y. none (broken model c d p.locals y)) p.mentions x (passes_in (part_stands c d) (parts d) p (all_stand c d there.declared) there.part_of) there.mentioned)

-- a test of what is there
passes : {A : Type 0} (test : A → Bool) (o : Option A) (x : A) (b : Bool) → option_map_or test o b ≡ b → o ≡ Some x → test x ≡ b
passes {A} test o x b all is = sym (ap (λ (p : Option A). option_map_or test p b) is) ∙ all

no_class : (v : Violation) → Violates model v → ⊥
no_class _ (c1 c d name at is breaks) =
    both_ways (breaks_c1 model c name.name)
    (passes (λ (x : Id). breaks_c1 model c x.name) (declared_name d) name false
    (by_number (λ k e. option_map_or (λ (x : Id). breaks_c1 model k x.name) (declared_name e) false ≡ false) refl refl c d at) is) breaks
no_class _ (c2 c d name at is breaks) =
    both_ways (breaks_c2 model d name.name)
    (passes (λ (x : Id). breaks_c2 model d x.name) (extended d) name false
    (by_number (λ k e. option_map_or (λ (x : Id). breaks_c2 model e x.name) (extended e) false ≡ false) refl refl c d at) is) breaks
no_class _ (c3 c p d name at is over among) = none_some p (sym (by_number (λ k e. parent model k ≡ None) refl refl c d at) ∙ over)

abbrev no_names : List Id → Bool
no_names [] = true
no_names (x ∷ xs) = false

no_locals : (c : ℕ) (d : DeclTree) → declaration model c ≡ Some d → list_all (λ p. no_names p.locals) (parts d) ≡ true
no_locals = by_number (λ c d. list_all (λ p. no_names p.locals) (parts d) ≡ true) refl refl

none_there : (xs : List Id) (y : Id) → no_names xs ≡ true → RepeatsName xs y → ⊥
none_there [] y is again = none_repeats same_name (λ (x : Id). x.pos) y again
none_there (x ∷ xs) y is again = false≢true is

of_name : (x y : Id) → RepeatsName (x ∷ []) y → ⊥
of_name = one_repeats same_name (λ (x : Id). x.pos)

of_none : (y : Id) → RepeatsName [] y → ⊥
of_none = none_repeats same_name (λ (x : Id). x.pos)

fields_once : (c : ℕ) (y : Id) → RepeatsName (fields model c) y → ⊥
fields_once zero y = of_none y
fields_once (suc zero) y = of_none y
fields_once (suc (suc zero)) y = of_none y
fields_once (suc (suc (suc c))) y = of_none y

variables_once : (c : ℕ) (y : Id) → RepeatsName (variables model c) y → ⊥
variables_once zero y = of_none y
variables_once (suc zero) y = of_name (id (codes "x") 4 11) y
variables_once (suc (suc zero)) y = of_none y
variables_once (suc (suc (suc c))) y = of_none y

ports_once : (c : ℕ) (y : Id) → RepeatsName (ports model c) y → ⊥
ports_once zero y = of_none y
ports_once (suc zero) y = of_name (id (codes "i") 2 7) y
ports_once (suc (suc zero)) y = of_none y
ports_once (suc (suc (suc c))) y = of_none y

nothing_twice : (v : Violation) → BreaksC4 model v → ⊥
nothing_twice _ (again_field c y again) = fields_once c y again
nothing_twice _ (again_variable c y again) = variables_once c y again
nothing_twice _ (again_port c y again) = ports_once c y again
nothing_twice _ (again_local c d p y at has again) = none_there p.locals y (passes_in (λ q. no_names q.locals) (parts d) p (no_locals c d at) has) again
nothing_twice _ (again_instance c d y at again) =
    by_number (λ k e. (z : Id) → RepeatsName (map (λ i. i.name) (instances e)) z → ⊥) of_none (of_name instance_r.name) c d at y again
nothing_twice _ (again_method c d y at again) =
    by_number (λ k e. (z : Heading) → Repeats same_heading (λ x. x.name.pos) (headings e) z → ⊥)
    (λ z r. one_repeats same_heading (λ (x : Heading). x.name.pos) _ z r) (none_repeats same_heading (λ (x : Heading). x.name.pos)) c d at y again
nothing_twice _ (again_message c d y at again) =
    by_number (λ k e. (z : Message) → Repeats same_message (λ x. x.name.pos) (own_messages e) z → ⊥)
    (λ z r. one_repeats same_message (λ (x : Message). x.name.pos) _ z r) (none_repeats same_message (λ (x : Message). x.name.pos)) c d at y again

each_given : (v : Violation) → BreaksC14 model v → ⊥
each_given _ (ill_given c k d i at has is wrong) =
    by_number (λ n e. (j : Instance) → Contains (instances e) j → (l : ℕ) → instance_class model j.class.name ≡ Some l → gives_each (given_names j) (spelled (parameters model l)) ≡ false → ⊥)
    (λ j none. absurd (none_in j none)) (λ j one. in_system j (in_cases instance_r [] j one)) c d at i has k is wrong
  where
    in_system : (j : Instance) → (instance_r ≡ j) ⊎ Contains [] j → (l : ℕ) → instance_class model j.class.name ≡ Some l
        → gives_each (given_names j) (spelled (parameters model l)) ≡ false → ⊥
    in_system j (inr none) l of ill = none_in j none
    in_system j (inl same) l of ill =
        let number : 1 ≡ l = some_same 1 l (ap (λ (x : Instance). instance_class model x.class.name) same ∙ of) in
        both_ways (gives_each (given_names j) (spelled (parameters model l))) ill
        (ap (λ (x : Instance). gives_each (given_names x) (spelled (parameters model l))) (sym same) ∙ ap (λ (n : ℕ). gives_each (given_names instance_r) (spelled (parameters model n))) (sym number))

no_cluster : (c : ℕ) (d : DeclTree) → declaration model c ≡ Some d → is_cluster d ≡ false
no_cluster = by_number (λ c d. is_cluster d ≡ false) refl refl

no_ends : (c : ℕ) (d : DeclTree) → declaration model c ≡ Some d → ends d ≡ []
no_ends = by_number (λ c d. ends d ≡ []) refl refl

abbrev the_system : SystemDecl
the_system = record { pos = at 7 1; instances = Some (instance_r ∷ []); channels = None }

no_break : (v : Violation) → Breaks model v → ⊥
no_break v (a_word w breaks) = no_broken_word model words_stand w breaks
no_break v (a_repeat w breaks) = nothing_twice w breaks
no_break v (given w breaks) = each_given w breaks
no_break v (holding _ (holds_itself c k d i at cluster has is holds)) = both_ways (is_cluster d) (no_cluster c d at) cluster
no_break v (an_end _ (no_end c d e at has breaks)) = none_in e (subst (λ (es : List ChannelEnd). Contains es e) (no_ends c d at) has)
no_break v (two_ends _ (again_end c d e at again)) =
    none_repeats same_end end_place e (subst (λ (es : List ChannelEnd). Repeats same_end end_place es e) (no_ends c d at) again)
no_break v (two_ends _ (again_outer c d h e at cluster has again)) = both_ways (is_cluster d) (no_cluster c d at) cluster
no_break v (size _ (too_large s sized has large)) = by (in_cases the_system [] s has)
  where
    by : (the_system ≡ s) ⊎ Contains [] s → ⊥
    by (inl same) = both_ways (is_too_large (system_size model s)) (ap (λ (x : SystemDecl). is_too_large (system_size model x)) (sym same)) large
    by (inr nowhere) = none_in s nowhere
no_break v (the_system_rule _ (again_system s again)) = one_repeats (λ x y. true) (λ (x : SystemDecl). x.pos) the_system s again
no_break v (the_system_rule _ (no_system is)) = cc

model_is_sound : IsSound model
model_is_sound = record { classes = no_class; rules = no_break }

-- Its one method has two statements, and calls nothing

begins_quietly : (k : ℕ) → begun_at model k ≡ []
begins_quietly zero = refl
begins_quietly (suc k) = refl

calls_none : (k : ℕ) → calls_at model k ≡ []
calls_none zero = refl
calls_none (suc k) = refl

few_statements : (k : ℕ) → statements_at model k ≤ 2
few_statements zero = lit≤ tt
few_statements (suc k) = lit≤ tt

model_opens : Opens model
model_opens = record { rounds = rounds; sizes = sizes }
  where
    rounds : (v : Violation) → BreaksC23 model v → ⊥
    rounds _ (round c k n d x at process has begins is leads) = none_in x (subst (λ (xs : List Id). Contains xs x) (begins_quietly k) begins)

    sizes : (v : Violation) → BreaksC24 model v → ⊥
    sizes _ (too_large_method c k depth d r at process has is large) =
        let f : Id → ℕ = λ x. of_called (opened_to model c depth) (called model c x) in
        let small : statements_at model k + sum_by f (calls_at model k) ≤ 2 =
        subst (λ (xs : List Id). statements_at model k + sum_by f xs ≤ 2) (sym (calls_none k)) (omega (arith, few_statements k)) in
        omega (arith, large, small)

-- The script is a line of a text

is_written : IsWritten script
unfolding digits
is_written = (
  codes "2 send r i m 3\n",
  record {
    lines = codes "2 send r i m 3" ∷ [];
    is_text = refl;
    are = (
      record {
        words = codes "2" ∷ codes "send" ∷ codes "r" ∷ codes "i" ∷ codes "m" ∷ codes "3" ∷ [];
        joined = refl;
        are = record {
          wait = 2;
          action = codes "send";
          rest = codes "3" ∷ [];
          are = refl;
          waits = refl;
          short = lit< tt;
          instance = refl;
          port = refl;
          message = refl;
          transfer = sends (codes "3" ∷ []) (Int (pos 3) ∷ []) (more (codes "3") (Int (pos 3)) [] [] (number 3 (lit< tt)) no_more) (lit≤ tt);
        };
      },
      tt,
    );
    some = λ e. cc;
    few = lit≤ tt;
  },
)

worked : MayClose model script
worked = record {
  sound = model_is_sound;
  opens = model_opens;
  few = lit< tt;
  written = ∣ is_written ∣₁;
  unrefused = λ line is. none_some line (refused_found model script line is);
}
