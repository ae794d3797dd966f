-- What the class of an environment mentions.
use Rattle.std.proofs.Common.{◌≡◌, refl, sym, ap, subst, ◌∙◌, ℕ, zero, suc, true, false, List, [], ◌∷◌, ◌++◌, append-nil, map, length, replicate, ◌⊎◌, inl, inr}
use Rattle.std.specs.List.{Contains, AllByRecursion}
use Rattle.std.specs.Option.{unwrap_or}
use Rattle.std.proofs.lemmas.List.{length-replicate}
use Rattle.pz_env_tree.specs.pz_syntax.declared.tokens.Pos.{Pos}
use Rattle.pz_env_tree.specs.pz_syntax.declared.names.Id.{Id}
use Rattle.pz_env_tree.specs.pz_syntax.Classes.{process_class}
use Rattle.pz_classes_mentions.specs.declared.mention.Mention.{Mention}
use Rattle.pz_classes_mentions.specs.declared.mention.Mention.TheVariants.{Declared, Typed, Variable, Called, Port, Sent, Received}
use Rattle.pz_classes_mentions.specs.declared.local_scope.LocalScope.{LocalScope}
use Rattle.pz_classes_mentions.specs.Expressions.{count, count_written, mentioned_all, mentioned_part, mentioned_literal}
use Rattle.pz_classes_mentions.specs.Statements as statement
use Rattle.pz_classes_mentions.specs.Statements.{variables, received as received_names, mentioned_statements}
use Rattle.pz_classes_mentions.specs.Declarations.{parts, named_types, mentioned_message, mentioned_messages, process_head, process_method}
use Rattle.pz_env_tree.specs.pz_value.declared.value.Value.{Value}
use Rattle.pz_env_tree.specs.pz_value.declared.value.Value.TheVariants as value
use Rattle.pz_env_tree.specs.pz_env_script.declared.entry.Transfer.{Transfer}
use Rattle.pz_env_tree.specs.pz_env_script.declared.entry.Transfer.TheVariants.{Send, Receive}
use Rattle.pz_env_tree.specs.pz_env_script.Entries.{count_in}
use Rattle.pz_env_tree.specs.pz_env_rules.Environment.{Line, at_line}
use Rattle.pz_env_tree.specs.pz_env_rules.Ends.{named_at}
use Rattle.pz_env_tree.specs.Names.{class_name, method_name, variable_name, kind_name, port_of}
use Rattle.pz_env_tree.specs.EnvironmentClass.{named, is_sent, first_messages, unless_none, message_of, literal_of, literals, arguments, exchange, statements, method_of, environment_class}
use Rattle.pz_env_grown.proofs.Elements.{none_in, first_in, later_in, in_cases}
use Rattle.pz_env_sound.proofs.Distinct.{each_of_all, all_both}
use Rattle.pz_env_sound.proofs.Ports.{message_in}

-- The words that stand there: the name of the class, the type of all values, the call of the method, the
-- one variable, and of the lines their ports and what goes over them.
pub data IsSaid (lines : List Line) : Mention → Type 0 where
  declared : IsSaid lines (Declared (named class_name))
  typed : (x : Id) → x.name ≡ kind_name → IsSaid lines (Typed x)
  called : IsSaid lines (Called (named method_name) 0 0)
  variable : (x : Id) → x.name ≡ variable_name → IsSaid lines (Variable x)
  port : (x : Line) → Contains lines x → IsSaid lines (Port (port_of lines x))
  sent : (x : Line) (n : ℕ) → Contains lines x → is_sent x.entry.transfer ≡ true → n ≡ count_in x.entry.transfer
      → IsSaid lines (Sent (port_of lines x) (named_at x x.entry.message) n)
  received : (x : Line) (n : ℕ) → Contains lines x → is_sent x.entry.transfer ≡ false → n ≡ count_in x.entry.transfer
      → IsSaid lines (Received (port_of lines x) (named_at x x.entry.message) n)

-- constants mention nothing, and are as many as the values

no_float : (at : Pos) (v : Value) → mentioned_literal at (literal_of v) ≡ []
no_float at value.Nil = refl
no_float at (value.Bool true) = refl
no_float at (value.Bool false) = refl
no_float at (value.Int n) = refl
no_float at (value.Char b) = refl
no_float at (value.Str text) = refl
no_float at (value.Ref r) = refl

none_mentioned : (at : Pos) (vs : List Value) → mentioned_all (literals at vs) ≡ []
none_mentioned at [] = refl
none_mentioned at (v ∷ vs) = ap (λ (xs : List Mention). xs ++ mentioned_all (literals at vs)) (no_float at v) ∙ none_mentioned at vs

in_arguments : (at : Pos) (vs : List Value) → mentioned_part (arguments at vs) ≡ []
in_arguments at [] = refl
in_arguments at (v ∷ vs) = none_mentioned at (v ∷ vs)

literals_counted : (at : Pos) (vs : List Value) → count (literals at vs) ≡ length vs
literals_counted at [] = refl
literals_counted at (v ∷ vs) = ap (λ (k : ℕ). suc k) (literals_counted at vs)

arguments_counted : (at : Pos) (vs : List Value) → count_written (arguments at vs) ≡ length vs
arguments_counted at [] = refl
arguments_counted at (v ∷ vs) = literals_counted at (v ∷ vs)

received_all : (xs : List Id) → received_names (unless_none xs) ≡ xs
received_all [] = refl
received_all (x ∷ xs) = refl

module _ (lines : List Line) where
  types_said : (n : ℕ) (x : Id) → x.name ≡ kind_name → AllByRecursion (IsSaid lines) (named_types (replicate n x))
  types_said zero x is = tt
  types_said (suc n) x is = (typed x is, types_said n x is)

  variables_said : (n : ℕ) (x : Id) → x.name ≡ variable_name → AllByRecursion (IsSaid lines) (variables (replicate n x))
  variables_said zero x is = tt
  variables_said (suc n) x is = (variable x is, variables_said n x is)

  message_said : (x : Line) → Contains lines x → AllByRecursion (IsSaid lines) (mentioned_message (message_of lines x))
  message_said x has =
      (port x has, subst (λ (ids : List Id). AllByRecursion (IsSaid lines) (named_types ids)) (sym (unwrapped (replicate (count_in x.entry.transfer) (named_at x kind_name)))) (types_said (count_in x.entry.transfer) (named_at x kind_name) refl))
    where
      unwrapped : (xs : List Id) → unwrap_or (unless_none xs) [] ≡ xs
      unwrapped [] = refl
      unwrapped (y ∷ ys) = refl

  messages_said : (xs : List Line) → ((x : Line) → Contains xs x → Contains lines x)
      → AllByRecursion (IsSaid lines) (mentioned_messages (map (message_of lines) xs))
  messages_said [] within = tt
  messages_said (x ∷ xs) within =
      all_both (IsSaid lines) (mentioned_message (message_of lines x)) (mentioned_messages (map (message_of lines) xs))
      (message_said x (within x (first_in x xs))) (messages_said xs (λ y has. within y (later_in x xs y has)))

  exchange_said : (x : Line) → Contains lines x → (t : Transfer) → x.entry.transfer ≡ t → (rest : List Mention)
      → AllByRecursion (IsSaid lines) rest
      → AllByRecursion (IsSaid lines) (statement.mentioned (exchange lines x t) ++ rest)
  exchange_said x has (Send vs) is rest all = (
    port x has,
    (
      sent x (count_written (arguments (at_line x) vs)) has (ap is_sent is) (arguments_counted (at_line x) vs ∙ sym (ap count_in is)),
      subst (λ (xs : List Mention). AllByRecursion (IsSaid lines) ((xs ++ []) ++ rest)) (sym (in_arguments (at_line x) vs)) all,
    ),
  )
  exchange_said x has (Receive n) is rest all = (
    port x has,
    (
      received x (length (received_names (unless_none (replicate n (named_at x variable_name))))) has (ap is_sent is)
          (ap length (received_all (replicate n (named_at x variable_name))) ∙ length-replicate n (named_at x variable_name) ∙ sym (ap count_in is)),
      subst (λ (ids : List Id). AllByRecursion (IsSaid lines) ((variables ids ++ []) ++ rest)) (sym (received_all (replicate n (named_at x variable_name))))
          (subst (λ (xs : List Mention). AllByRecursion (IsSaid lines) (xs ++ rest)) (sym (append-nil (variables (replicate n (named_at x variable_name)))))
          (all_both (IsSaid lines) (variables (replicate n (named_at x variable_name))) rest (variables_said n (named_at x variable_name) refl) all)),
    ),
  )

  statements_said : (xs : List Line) → ((x : Line) → Contains xs x → Contains lines x)
      → AllByRecursion (IsSaid lines) (mentioned_statements (statements lines xs))
  statements_said [] within = tt
  statements_said (x ∷ xs) within =
      exchange_said x (within x (first_in x xs)) x.entry.transfer refl (mentioned_statements (statements lines xs))
      (statements_said xs (λ y has. within y (later_in x xs y has)))

  head_said : AllByRecursion (IsSaid lines) (process_head (environment_class lines)).mentions
  head_said = (
    declared,
    all_both (IsSaid lines) (mentioned_messages (map (message_of lines) (first_messages lines))) (Typed (named kind_name) ∷ Called (named method_name) 0 0 ∷ [])
        (messages_said (first_messages lines) (message_in lines)) (typed (named kind_name) refl, (called, tt)),
  )

  method_said : AllByRecursion (IsSaid lines) (process_method (method_of lines)).mentions
  method_said = statements_said lines (λ x has. has)

  pub each_said : (p : LocalScope) (x : Mention) → Contains (parts (process_class (environment_class lines))) p → Contains p.mentions x
      → IsSaid lines x × (p.locals ≡ [])
  each_said p x has at = first (in_cases (process_head (environment_class lines)) (process_method (method_of lines) ∷ []) p has)
    where
      of : (q : LocalScope) → AllByRecursion (IsSaid lines) q.mentions → q.locals ≡ [] → q ≡ p → IsSaid lines x × (p.locals ≡ [])
      of q all none same = (
        each_of_all (IsSaid lines) q.mentions all x (subst (λ (r : LocalScope). Contains r.mentions x) (sym same) at),
        ap (λ (r : LocalScope). r.locals) (sym same) ∙ none,
      )

      second : (process_method (method_of lines) ≡ p) ⊎ Contains [] p → IsSaid lines x × (p.locals ≡ [])
      second (inl same) = of (process_method (method_of lines)) method_said refl same
      second (inr none) = absurd (none_in p none)

      first : (process_head (environment_class lines) ≡ p) ⊎ Contains (process_method (method_of lines) ∷ []) p
          → IsSaid lines x × (p.locals ≡ [])
      first (inl same) = of (process_head (environment_class lines)) head_said refl same
      first (inr later) = second (in_cases (process_method (method_of lines)) [] p later)
