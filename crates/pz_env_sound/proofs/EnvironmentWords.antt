-- The words of the class of an environment break no rule.
use Rattle.std.proofs.Common.{◌≡◌, refl, sym, ap, subst, ◌∙◌, ℕ, suc, Bool, true, false, not, ◌&&◌, ◌||◌, nat_eq, List, [], ◌∷◌, map, length, Option, arith, ◌⊎◌, inl, inr}
use Rattle.std.specs.List.{Contains, list_any}
use Rattle.std.specs.Bool.{beq}
use Rattle.std.specs.Option.{is_none, unwrap_or}
use Rattle.std.specs.Str.{bytes_eq}
use Rattle.std.proofs.lemmas.Bool.{and_from, or_left, or_right, not_from_true}
use Rattle.std.proofs.lemmas.Bool.Decides.{nat_tests}
use Rattle.pz_env_tree.specs.pz_syntax.declared.names.Id.{Id}
use Rattle.pz_env_tree.specs.pz_syntax.declared.clusters.SystemDecl.{SystemDecl}
use Rattle.pz_env_tree.specs.pz_syntax.Classes.{StartTree, process_class, ModelTree}
use Rattle.pz_classes_mentions.specs.declared.mention.Mention.{Mention}
use Rattle.pz_classes_mentions.specs.declared.mention.Mention.TheVariants.{Declared, Typed, Variable, Called}
use Rattle.pz_classes_mentions.specs.declared.local_scope.LocalScope.{LocalScope}
use Rattle.pz_classes_mentions.specs.Declarations.{parts}
use Rattle.pz_env_tree.specs.pz_classes_code.ReservedNames.{is_unsupported}
use Rattle.pz_env_tree.specs.pz_classes_rules.declared.method_id.MethodId.{MethodId}
use Rattle.pz_env_tree.specs.pz_classes_rules.declared.method_id.Counts.TheVariants.{Process}
use Rattle.pz_env_tree.specs.pz_classes_rules.Members.{ports}
use Rattle.pz_env_tree.specs.pz_classes_rules.Words.{is_among}
use Rattle.pz_env_tree.specs.pz_classes_rules.Reached.{AncestorsAreReached}
use Rattle.pz_env_tree.specs.pz_classes_rules.NameRules.{is_type, breaks_c5, breaks_c6}
use Rattle.pz_env_tree.specs.pz_classes_rules.CallRules.{breaks_c7, is_message, messages, breaks_c11}
use Rattle.pz_env_tree.specs.pz_classes_rules.Soundness.{IsSound}
use Rattle.pz_env_tree.specs.pz_env_script.Entries.{count_in}
use Rattle.pz_env_tree.specs.pz_env_rules.Environment.{Line}
use Rattle.pz_env_tree.specs.pz_env_rules.Ends.{first_mentions, named_at}
use Rattle.pz_env_tree.specs.Names.{class_name, method_name, variable_name, kind_name, port_of}
use Rattle.pz_env_tree.specs.EnvironmentClass.{named, is_sent, first_messages, message_of, environment_class}
use Rattle.pz_env_grown.proofs.Elements.{none_in, in_cases}
use Rattle.pz_env_sound.proofs.Grown.{grown}
use Rattle.pz_env_sound.proofs.Members.{variables_new, ports_new, messages_new, start_new, method_new}
use Rattle.pz_env_sound.proofs.NewParts.{IsFresh}
use Rattle.pz_env_sound.proofs.KeptWords.{broken, NoneHolds}
use Rattle.pz_env_sound.proofs.Ports.{bytes_same, Said, mentioned_first, said_first, port_told}
use Rattle.pz_env_sound.proofs.EnvironmentNames.{counted}
use Rattle.pz_env_sound.proofs.EnvironmentMentions.{IsSaid, declared, typed, called, variable, port, sent, received, each_said}

-- a test that an element of a list passes
pub any_in : {A B : Type 0} (p : B → Bool) (g : A → B) (xs : List A) (x : A) → Contains xs x → p (g x) ≡ true → list_any p (map g xs) ≡ true
any_in p g [] x has is = absurd (none_in x has)
any_in p g (y ∷ ys) x has is = by (in_cases y ys x has) (any_in p g ys x)
  where
    by : (y ≡ x) ⊎ Contains ys x → (Contains ys x → p (g x) ≡ true → list_any p (map g ys) ≡ true) → p (g y) || list_any p (map g ys) ≡ true
    by (inl same) rest = or_left (p (g y)) (list_any p (map g ys)) (ap (λ z. p (g z)) same ∙ is)
    by (inr later) rest = or_right (p (g y)) (list_any p (map g ys)) (rest later is)

same_flag : (b : Bool) → beq b b ≡ true
same_flag true = refl
same_flag false = refl

same_number : (a b : ℕ) → a ≡ b → nat_eq a b ≡ true
same_number a b is = grind (arith, nat_tests)

module _ (f : SystemDecl → SystemDecl) (lines : List Line) (m : ModelTree) (sound : IsSound m) (reached : AncestorsAreReached)
    (fresh : IsFresh m (environment_class lines)) where
  abbrev n : ModelTree
  n = grown m f (environment_class lines)

  -- the number of the class
  abbrev c : ℕ
  c = suc (length m.decls)

  -- a port of the environment is there
  pub port_there : (x : Line) → Contains lines x → is_among (ports n c) (port_of lines x).name ≡ true
  port_there x has =
      let first = mentioned_first lines x has in
      ap (λ (ids : List Id). is_among ids (port_of lines x).name) (ports_new f (environment_class lines) m sound reached fresh.alone)
      ∙ any_in (λ (y : Id). bytes_eq (port_of lines x).name y.name) (port_of lines) (first_mentions lines) first.0 first.1
      (bytes_same (port_of lines x).name (port_of lines first.0).name (port_told lines x first.0 (sym first.2)))

  -- what a line says is declared
  message_there : (x : Line) (k : ℕ) (out : Bool) → Contains lines x → is_sent x.entry.transfer ≡ out → k ≡ count_in x.entry.transfer
      → list_any (is_message (port_of lines x).name out x.entry.message k) (messages n c) ≡ true
  message_there x k out has way number =
      let first = said_first lines x has in
      let y = first.0 in
      ap (list_any (is_message (port_of lines x).name out x.entry.message k)) (messages_new f (environment_class lines) m sound reached fresh.alone)
      ∙ any_in (is_message (port_of lines x).name out x.entry.message k) (message_of lines) (first_messages lines) y first.1
      (and_from _ _
      (and_from _ _
      (and_from (bytes_eq (port_of lines x).name (port_of lines y).name) (beq out (is_sent y.entry.transfer))
      (bytes_same (port_of lines x).name (port_of lines y).name (port_told lines x y (ap (λ (s : Said). s.end) (sym first.2))))
      (ap (beq out) (ap (λ (s : Said). s.out) first.2 ∙ way) ∙ same_flag out))
      (bytes_same x.entry.message y.entry.message (ap (λ (s : Said). s.message) (sym first.2))))
      (same_number k (length (unwrap_or (message_of lines y).types [])) (number ∙ ap (λ (s : Said). s.count) (sym first.2) ∙ sym (counted (count_in y.entry.transfer) (named_at y kind_name)))))

  said_stands : (x : Mention) → IsSaid lines x → NoneHolds (broken n c (process_class (environment_class lines)) [] x)
  said_stands _ declared =
      (refl, (refl, (refl, (refl, (refl, (refl, (starts, (refl, (refl, (refl, (refl, (refl, tt))))))))))))
    where
      starts : breaks_c11 n c (process_class (environment_class lines)) (Declared (named class_name)) ≡ false
      starts = ap (λ (o : Option StartTree). is_none o) (start_new f (environment_class lines) m sound reached fresh.alone)
  said_stands _ (typed x is) =
      (types, (refl, (refl, (refl, (refl, (refl, (refl, (refl, (refl, (ap is_unsupported is, (refl, (refl, tt))))))))))))
    where
      types : breaks_c5 n (Typed x) ≡ false
      types = ap (λ (name : List ℕ). not (is_unsupported name) && not (is_type n name)) is
  said_stands _ called =
      (refl, (refl, (there, (refl, (refl, (refl, (refl, (refl, (refl, (refl, (refl, (refl, tt))))))))))))
    where
      there : breaks_c7 n c (Called (named method_name) 0 0) ≡ false
      there =
          ap (λ (o : Option MethodId). is_none o) (method_new f (environment_class lines) m sound reached fresh.alone (record { name = method_name; counts = Process 0 0 }))
  said_stands _ (variable x is) =
      (refl, (there, (refl, (refl, (refl, (refl, (refl, (refl, (refl, (refl, (refl, (refl, tt))))))))))))
    where
      there : breaks_c6 n c (process_class (environment_class lines)) [] (Variable x) ≡ false
      there =
          ap (λ (ids : List Id). not (is_among ids x.name)) (variables_new f (environment_class lines) m sound reached fresh.alone)
          ∙ ap (λ (name : List ℕ). not (is_among (named variable_name ∷ []) name)) is
  said_stands _ (port x has) =
      (refl, (refl, (refl, (refl, (not_from_true _ (port_there x has), (refl, (refl, (refl, (refl, (refl, (refl, (refl, tt))))))))))))
  said_stands _ (sent x k has way number) =
      (refl, (refl, (refl, (refl, (refl, (not_from_true _ (message_there x k true has way number), (refl, (refl, (refl, (refl, (refl, (refl, tt))))))))))))
  said_stands _ (received x k has way number) =
      (refl, (refl, (refl, (refl, (refl, (not_from_true _ (message_there x k false has way number), (refl, (refl, (refl, (refl, (refl, (refl, tt))))))))))))

  pub environment_words : (p : LocalScope) (x : Mention) → Contains (parts (process_class (environment_class lines))) p
      → Contains p.mentions x → NoneHolds (broken n c (process_class (environment_class lines)) p.locals x)
  environment_words p x has at =
      let its = each_said lines p x has at in
      subst (λ (ids : List Id). NoneHolds (broken n c (process_class (environment_class lines)) ids x)) (sym its.1) (said_stands x its.0)
