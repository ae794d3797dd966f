-- The class of an environment declares nothing twice.
use Rattle.std.proofs.Common.{◌≡◌, refl, sym, ap, subst, ◌∙◌, ℕ, ◌≤◌, Bool, true, false, ◌&&◌, nat_eq, List, [], ◌∷◌, map, length, replicate, IsTrue, arith, ◌⊎◌, inl, inr}
use Rattle.std.specs.List.{Contains}
use Rattle.std.specs.Bool.{beq}
use Rattle.std.specs.Option.{unwrap_or}
use Rattle.std.specs.Str.{bytes_eq}
use Rattle.std.proofs.lemmas.Bool.{and_parts, both_ways}
use Rattle.std.proofs.lemmas.Bool.Decides.{nat_tests}
use Rattle.std.proofs.lemmas.List.{length-replicate}
use Rattle.pz_env_tree.specs.pz_syntax.declared.names.Id.{Id}
use Rattle.pz_env_tree.specs.pz_syntax.declared.classes.Message.{Message}
use Rattle.pz_env_tree.specs.pz_syntax.Classes.{process_class}
use Rattle.pz_classes_mentions.specs.declared.local_scope.LocalScope.{LocalScope}
use Rattle.pz_classes_mentions.specs.Declarations.{parts, process_head, process_method}
use Rattle.pz_env_tree.specs.pz_classes_rules.RepeatRules.{same_name, RepeatsName, Heading, process_heading, same_heading, same_message}
use Rattle.pz_env_tree.specs.pz_env_script.Entries.{count_in}
use Rattle.pz_env_tree.specs.pz_env_rules.Environment.{Line}
use Rattle.pz_env_tree.specs.pz_env_rules.Ends.{first_mentions, named_at}
use Rattle.pz_env_tree.specs.Names.{variable_name, kind_name, port_of}
use Rattle.pz_env_tree.specs.EnvironmentClass.{named, is_sent, first_messages, unless_none, message_of, method_of, environment_class}
use Rattle.pz_env_grown.proofs.Elements.{none_in, in_cases}
use Rattle.pz_env_sound.proofs.RepeatsInParts.{none_repeats, one_repeats}
use Rattle.pz_env_sound.proofs.RepeatedNames.{IsApart}
use Rattle.pz_env_sound.proofs.Distinct.{AreApart, no_repeat, apart_by}
use Rattle.pz_env_sound.proofs.Ports.{EndKey, end_key, same_bytes, said, mentions_apart, messages_apart, mention_in, message_in, port_tells}

pub counted : {A : Type 0} (n : ℕ) (x : A) → length (unwrap_or (unless_none (replicate n x)) []) ≡ n
counted {A} n x = by (replicate n x) ∙ many n
  where
    by : (xs : List A) → length (unwrap_or (unless_none xs) []) ≡ length xs
    by [] = refl
    by (y ∷ ys) = refl

    many : (k : ℕ) → length (replicate k x) ≡ k
    many k = length-replicate k x

same_number : (a b : ℕ) → nat_eq a b ≡ true → a ≡ b
same_number a b is = grind (arith, nat_tests)

same_way : (a b : Bool) → beq a b ≡ true → a ≡ b
same_way true true is = refl
same_way true false is = absurd (both_ways false refl is)
same_way false true is = absurd (both_ways false refl is)
same_way false false is = refl

-- a message by its port, its way, its name and how many values it has
pub record MessageKey : Type 0 where
  pub port : List ℕ
  pub out : Bool
  pub name : List ℕ
  pub count : ℕ

abbrev pub message_key : Message → MessageKey
message_key x = record { port = x.port.name; out = x.out; name = x.name.name; count = length (unwrap_or x.types []) }

message_tells : (x y : Message) → IsTrue (same_message x y) → message_key x ≡ message_key y
message_tells x y is =
    let last =
    and_parts (bytes_eq x.port.name y.port.name && beq x.out y.out && bytes_eq x.name.name y.name.name) (nat_eq (length (unwrap_or x.types [])) (length (unwrap_or y.types []))) is in
    let third = and_parts (bytes_eq x.port.name y.port.name && beq x.out y.out) (bytes_eq x.name.name y.name.name) last.0 in
    let two = and_parts (bytes_eq x.port.name y.port.name) (beq x.out y.out) third.0 in
    ap (λ (n : List ℕ). record { port = n; out = x.out; name = x.name.name; count = length (unwrap_or x.types []) }) (same_bytes x.port.name y.port.name two.0)
    ∙ ap (λ (b : Bool). record { port = y.port.name; out = b; name = x.name.name; count = length (unwrap_or x.types []) }) (same_way x.out y.out two.1)
    ∙ ap (λ (n : List ℕ). record { port = y.port.name; out = y.out; name = n; count = length (unwrap_or x.types []) }) (same_bytes x.name.name y.name.name third.1)
    ∙ ap (λ (n : ℕ). record { port = y.port.name; out = y.out; name = y.name.name; count = n }) (same_number (length (unwrap_or x.types [])) (length (unwrap_or y.types [])) last.1)

name_tells : (x y : Id) → IsTrue (same_name x y) → x.name ≡ y.name
name_tells x y is = same_bytes x.name y.name is

module _ (lines : List Line) (few : length lines ≤ 100000) where
  abbrev name_of : Id → List ℕ
  name_of x = x.name

  ports_apart : AreApart name_of (map (port_of lines) (first_mentions lines))
  ports_apart =
      apart_by end_key name_of (port_of lines) (first_mentions lines)
      (λ x y has_x has_y same. port_tells lines few x y (mention_in lines x has_x) (mention_in lines y has_y) same)
      (mentions_apart lines)

  said_by : (x y : Line) → Contains (first_messages lines) x → Contains (first_messages lines) y
      → message_key (message_of lines x) ≡ message_key (message_of lines y) → said x ≡ said y
  said_by x y has_x has_y same =
      let ends = port_tells lines few x y (message_in lines x has_x) (message_in lines y has_y) (ap (λ (k : MessageKey). k.port) same) in
      let count : count_in x.entry.transfer ≡ count_in y.entry.transfer =
      sym (counted (count_in x.entry.transfer) (named_at x kind_name))
      ∙ ap (λ (k : MessageKey). k.count) same
      ∙ counted (count_in y.entry.transfer) (named_at y kind_name) in
      ap (λ (k : EndKey). record { end = k; out = is_sent x.entry.transfer; message = x.entry.message; count = count_in x.entry.transfer }) ends
      ∙ ap (λ (b : Bool). record { end = end_key y; out = b; message = x.entry.message; count = count_in x.entry.transfer }) (ap (λ (k : MessageKey). k.out) same)
      ∙ ap (λ (n : List ℕ). record { end = end_key y; out = is_sent y.entry.transfer; message = n; count = count_in x.entry.transfer }) (ap (λ (k : MessageKey). k.name) same)
      ∙ ap (λ (n : ℕ). record { end = end_key y; out = is_sent y.entry.transfer; message = y.entry.message; count = n }) count

  said_apart : AreApart message_key (map (message_of lines) (first_messages lines))
  said_apart = apart_by said message_key (message_of lines) (first_messages lines) said_by (messages_apart lines)

  no_locals : (p : LocalScope) → Contains (parts (process_class (environment_class lines))) p → p.locals ≡ []
  no_locals p has = first (in_cases (process_head (environment_class lines)) (process_method (method_of lines) ∷ []) p has)
    where
      second : (process_method (method_of lines) ≡ p) ⊎ Contains [] p → p.locals ≡ []
      second (inl same) = ap (λ (q : LocalScope). q.locals) (sym same)
      second (inr none) = absurd (none_in p none)

      first : (process_head (environment_class lines) ≡ p) ⊎ Contains (process_method (method_of lines) ∷ []) p → p.locals ≡ []
      first (inl same) = ap (λ (q : LocalScope). q.locals) (sym same)
      first (inr later) = second (in_cases (process_method (method_of lines)) [] p later)

  pub environment_apart : IsApart (environment_class lines)
  environment_apart = record {
    variables = one_repeats same_name (λ (x : Id). x.pos) (named variable_name);
    ports = λ y again. no_repeat name_of same_name (λ (x : Id). x.pos) name_tells (map (port_of lines) (first_mentions lines)) y ports_apart again;
    locals = λ p has y again. none_repeats same_name (λ (x : Id). x.pos) y (subst (λ (ids : List Id). RepeatsName ids y) (no_locals p has) again);
    methods = one_repeats same_heading (λ (x : Heading). x.name.pos) (process_heading (method_of lines));
    messages =
        λ y again. no_repeat message_key same_message (λ (x : Message). x.name.pos) message_tells (map (message_of lines) (first_messages lines)) y said_apart again;
  }
