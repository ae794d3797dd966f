-- How many marks the text of a closed tree has.
use Rattle.std.proofs.Common.{◌≡◌, subst, ℕ, suc, ◌+◌, ◌*◌, ◌≤◌, List, [], ◌∷◌, ◌++◌, map, length, length-append, replicate, Option, Some, None, arith}
use Rattle.std.specs.List.{Contains}
use Rattle.std.specs.Option.{unwrap_or}
use Rattle.std.proofs.lemmas.List.{length-map, length-replicate}
use Rattle.pz_env_tree.specs.pz_syntax.declared.tokens.Symbol.{Symbol}
use Rattle.pz_env_tree.specs.pz_syntax.declared.tokens.Symbol.TheVariants as s
use Rattle.pz_env_tree.specs.pz_syntax.declared.tokens.Keyword.{Keyword}
use Rattle.pz_env_tree.specs.pz_syntax.declared.tokens.Mark.{Mark}
use Rattle.pz_env_tree.specs.pz_syntax.declared.tokens.Pos.{Pos}
use Rattle.pz_env_tree.specs.pz_syntax.declared.names.Id.{Id}
use Rattle.pz_env_tree.specs.pz_syntax.declared.classes.Message.{Message}
use Rattle.pz_env_tree.specs.pz_syntax.Marks.{symbol, section, separated, tail_separated, each_text, optional, word_text, names_text}
use Rattle.pz_env_tree.specs.pz_syntax.ExpressionText as expression
use Rattle.pz_env_tree.specs.pz_syntax.ExpressionText.{arguments_text}
use Rattle.pz_env_tree.specs.pz_syntax.StatementText as statement
use Rattle.pz_env_tree.specs.pz_syntax.StatementText.{reception_text}
use Rattle.pz_env_tree.specs.pz_syntax.ClassText.{types_text, message_text, messages_text, process_class_text}
use Rattle.pz_env_tree.specs.pz_value.declared.value.Value.{Value}
use Rattle.pz_env_tree.specs.pz_env_script.declared.entry.Transfer.{Transfer}
use Rattle.pz_env_tree.specs.pz_env_script.declared.entry.Transfer.TheVariants.{Send, Receive}
use Rattle.pz_env_tree.specs.pz_env_script.Entries.{count_in}
use Rattle.pz_env_tree.specs.pz_env_rules.Environment.{Line, at_line}
use Rattle.pz_env_tree.specs.pz_env_rules.Ends.{first_mentions, named_at}
use Rattle.pz_env_tree.specs.Names.{port_of, variable_name, kind_name}
use Rattle.pz_env_tree.specs.EnvironmentClass.{unless_none, message_of, literals, arguments, exchange, statements, environment_class, first_messages}
use Rattle.pz_env_grown.proofs.Elements.{first_in, later_in}
use Rattle.pz_env_sound.proofs.Ports.{few_mentions, few_messages, message_in}
use Rattle.pz_env_sound.proofs.NewEnds.{from_map}

-- Lists of things of at most so many marks

module _ {A : Type 0} (f : A → List Mark) where
  pub each_marks : (b : ℕ) (xs : List A) → ((x : A) → Contains xs x → length (f x) ≤ b) → length (each_text f xs) ≤ b * length xs
  each_marks b [] few = omega arith
  each_marks b (x ∷ xs) few =
      let this = few x (first_in x xs) in
      let rest = each_marks b xs (λ y has. few y (later_in x xs y has)) in
      let all = length-append (f x) (each_text f xs) in
      omega (arith, this, rest, all)

  tail_marks : (b : ℕ) (separator : Symbol) (xs : List A) → ((x : A) → Contains xs x → length (f x) ≤ b)
      → length (tail_separated f separator xs) ≤ suc b * length xs
  tail_marks b separator [] few = omega arith
  tail_marks b separator (x ∷ xs) few =
      let this = few x (first_in x xs) in
      let rest = tail_marks b separator xs (λ y has. few y (later_in x xs y has)) in
      let all = length-append (f x) (tail_separated f separator xs) in
      omega (arith, this, rest, all)

  separated_marks : (b : ℕ) (separator : Symbol) (xs : List A) → ((x : A) → Contains xs x → length (f x) ≤ b)
      → length (separated f separator xs) ≤ suc b * length xs
  separated_marks b separator [] few = omega arith
  separated_marks b separator (x ∷ xs) few =
      let this = few x (first_in x xs) in
      let rest = tail_marks b separator xs (λ y has. few y (later_in x xs y has)) in
      let all = length-append (f x) (tail_separated f separator xs) in
      omega (arith, this, rest, all)

  each_both : (xs ys : List A) → length (each_text f (xs ++ ys)) ≡ length (each_text f xs) + length (each_text f ys)
  each_both [] ys = omega arith
  each_both (x ∷ xs) ys =
      let all = length-append (f x) (each_text f (xs ++ ys)) in
      let front = length-append (f x) (each_text f xs) in
      let rest = each_both xs ys in
      omega (arith, all, front, rest)

  -- a section to which something is added
  pub section_marks : (begin : Keyword) (o : Option (List A)) (ys : List A)
      → length (section begin (each_text f) (Some (unwrap_or o [] ++ ys))) ≤ length (section begin (each_text f) o) + (1 + length (each_text f ys))
  section_marks begin None ys = omega arith
  section_marks begin (Some xs) ys = let all = each_both xs ys in omega (arith, all)

words_marks : (xs : List Id) → length (names_text xs) ≤ 2 * length xs
words_marks xs = separated_marks word_text 1 s.Comma xs (λ x has. omega arith)

-- The class

module _ (lines : List Line) where
  types_marks : (x : Line) → count_in x.entry.transfer ≤ 100 → length (message_text (message_of lines x)) ≤ 205
  types_marks x few = by (replicate (count_in x.entry.transfer) (named_at x kind_name)) (length-replicate (count_in x.entry.transfer) (named_at x kind_name))
    where
      by : (xs : List Id) → length xs ≡ count_in x.entry.transfer → suc (suc (suc (length (optional types_text (unless_none xs))))) ≤ 205
      by [] is = omega arith
      by (y ∷ ys) is =
          let marks = words_marks (y ∷ ys) in
          let all = length-append (names_text (y ∷ ys)) (symbol s.RightParen ∷ []) in
          omega (arith, is, few, marks, all)

  literals_tail : (at : Pos) (vs : List Value) → length (expression.tail_texts s.Comma (literals at vs)) ≤ 2 * length vs
  literals_tail at [] = omega arith
  literals_tail at (v ∷ vs) = let rest = literals_tail at vs in omega (arith, rest)

  literals_marks : (at : Pos) (vs : List Value) → length (expression.texts s.Comma (literals at vs)) ≤ 2 * length vs
  literals_marks at [] = omega arith
  literals_marks at (v ∷ vs) = let rest = literals_tail at vs in omega (arith, rest)

  arguments_marks : (at : Pos) (vs : List Value) → length (arguments_text (arguments at vs)) ≤ 2 + 2 * length vs
  arguments_marks at [] = omega arith
  arguments_marks at (v ∷ vs) =
      let marks = literals_marks at (v ∷ vs) in
      let all = length-append (expression.texts s.Comma (literals at (v ∷ vs))) (symbol s.RightParen ∷ []) in
      omega (arith, marks, all)

  reception_marks : (xs : List Id) → length (reception_text (unless_none xs) None) ≤ 2 + 2 * length xs
  reception_marks [] = omega arith
  reception_marks (x ∷ xs) =
      let marks = words_marks (x ∷ xs) in
      let inner = length-append (names_text (x ∷ xs)) [] in
      let all = length-append (names_text (x ∷ xs) ++ []) (symbol s.RightParen ∷ []) in
      omega (arith, marks, inner, all)

  exchange_marks : (x : Line) (t : Transfer) → count_in t ≤ 100 → length (statement.text (exchange lines x t)) ≤ 205
  exchange_marks x (Send vs) few =
      let marks = arguments_marks (at_line x) vs in
      let all = length-append (arguments_text (arguments (at_line x) vs)) [] in
      omega (arith, marks, all, few)
  exchange_marks x (Receive n) few =
      let marks = reception_marks (replicate n (named_at x variable_name)) in
      let many = length-replicate n (named_at x variable_name) in
      let all = length-append (reception_text (unless_none (replicate n (named_at x variable_name))) None) [] in
      omega (arith, marks, many, all, few)

  module _ (values : (x : Line) → Contains lines x → count_in x.entry.transfer ≤ 100) where
    -- a delay has two marks, and a semicolon stands before each statement
    statements_tail : (xs : List Line) → ((x : Line) → Contains xs x → Contains lines x)
        → length (statement.tail_texts (statements lines xs)) ≤ 209 * length xs
    statements_tail [] within = omega arith
    statements_tail (x ∷ xs) within =
        let this = exchange_marks x x.entry.transfer (values x (within x (first_in x xs))) in
        let rest = statements_tail xs (λ y has. within y (later_in x xs y has)) in
        let all = length-append (statement.text (exchange lines x x.entry.transfer)) (statement.tail_texts (statements lines xs)) in
        omega (arith, this, rest, all)

    statements_marks : (xs : List Line) → ((x : Line) → Contains xs x → Contains lines x)
        → length (statement.texts (statements lines xs)) ≤ 209 * length xs
    statements_marks [] within = omega arith
    statements_marks (x ∷ xs) within =
        let this = exchange_marks x x.entry.transfer (values x (within x (first_in x xs))) in
        let rest = statements_tail xs (λ y has. within y (later_in x xs y has)) in
        let all = length-append (statement.text (exchange lines x x.entry.transfer)) (statement.tail_texts (statements lines xs)) in
        omega (arith, this, rest, all)

    ports_marks : length (names_text (map (port_of lines) (first_mentions lines))) ≤ 2 * length lines
    ports_marks =
        let marks = words_marks (map (port_of lines) (first_mentions lines)) in
        let many = length-map (first_mentions lines) (port_of lines) in
        let few = few_mentions lines in
        omega (arith, marks, many, few)

    messages_marks : length (messages_text (map (message_of lines) (first_messages lines))) ≤ 206 * length lines
    messages_marks =
        let marks = separated_marks message_text 205 s.Comma (map (message_of lines) (first_messages lines)) each in
        let many = length-map (first_messages lines) (message_of lines) in
        let few = few_messages lines in
        omega (arith, marks, many, few)
      where
        each : (y : Message) → Contains (map (message_of lines) (first_messages lines)) y → length (message_text y) ≤ 205
        each y has =
            let r = from_map (message_of lines) (first_messages lines) y has in
            subst (λ (z : Message). length (message_text z) ≤ 205) r.2 (types_marks r.0 (values r.0 (message_in lines r.0 r.1)))

    pub class_marks : length (process_class_text (environment_class lines)) ≤ 30 + 417 * length lines
    class_marks =
        let p = ports_marks in
        let h = messages_marks in
        let b = statements_marks lines (λ x has. has) in
        simp length-append (omega (arith, p, h, b))
