-- Each send, reception and call within the nesting is read from its text, with the places of the
-- tokens, before what does not go on with it.
use Rattle.std.proofs.Common.{◌≡◌, ◌≢◌, ℕ, suc, ◌+◌, ◌<◌, true, List, [], ◌∷◌, ◌++◌, length, Option, Some, None, Ok, refl, ap, sym, ◌∙◌, arith, append_assoc, length-append}
use Rattle.pz_syntax.specs.declared.tokens.Pos.{Pos}
use Rattle.pz_syntax.specs.declared.tokens.Symbol.TheVariants as s
use Rattle.pz_syntax.specs.declared.tokens.TokenKind.TheVariants as kind
use Rattle.pz_syntax.specs.declared.tokens.Mark.{Mark}
use Rattle.pz_syntax.specs.declared.names.Id.{Id}
use Rattle.pz_syntax.specs.Marks.{symbol, names_text, optional as optional_text}
use Rattle.pz_syntax.specs.Expressions.{Expression, Expressions, Part, left_out, written}
use Rattle.pz_syntax.specs.ExpressionText.{arguments_text}
use Rattle.pz_syntax.specs.ExpressionText as expression_text
use Rattle.pz_syntax.specs.ExpressionForm.{IsValue, AreArguments, AreExpressions}
use Rattle.pz_syntax.specs.ExpressionNesting.{bracketed_nesting}
use Rattle.pz_syntax.specs.ExpressionNesting as expression_nesting
use Rattle.pz_syntax.specs.Statements.{send, receive, call}
use Rattle.pz_syntax.specs.StatementText.{text, after_text, condition_text, reception_text}
use Rattle.pz_syntax.specs.StatementForm.{IsAfter, IsReception}
use Rattle.pz_syntax.specs.StatementNesting.{condition_nesting, reception_nesting}
use Rattle.pz_syntax.specs.ModelForm.{IfWritten}
use Rattle.pz_parser_cursor.specs.declared.ahead.Next.{Next}
use Rattle.pz_parser_cursor.specs.declared.ahead.Next.TheVariants as n
use Rattle.pz_parser_cursor.specs.devices.LookAhead.{next, same}
use Rattle.pz_parser_cursor.specs.devices.Input.{Tokens, after, position, identifier, name, sees}
use Rattle.pz_parser_cursor.specs.devices.Device.{expect, expect_id}
use Rattle.pz_parser_cursor.specs.Places.{located, place_names}
use Rattle.pz_parser_cursor.proofs.Steps.{deepen_is, expect_is}
use Rattle.pz_parser_cursor.proofs.Reading.{split_located}
use Rattle.pz_parser_cursor.proofs.Joined.{token}
use Rattle.pz_parser_cursor.proofs.Named.{optional_names_complete}
use Rattle.pz_parser_expressions.specs.declared.rule.Rule.TheVariants as rule
use Rattle.pz_parser_expressions.specs.devices.Values.{below}
use Rattle.pz_parser_expressions.specs.ExpressionPlaces.{place_all, place_part}
use Rattle.pz_parser_expressions.proofs.Texts.{to_list, list_back}
use Rattle.pz_parser_expressions.proofs.Completeness.{block_given, arguments_given, optional_given, below_complete}
use Rattle.pz_parser_statements.specs.devices.Messages.{call_results, after_by, after_message, sent, condition, enclosed_reception, reception_by, reception, received, call_arguments, called}
use Rattle.pz_parser_statements.specs.StatementPlaces.{place_into, place_condition, place}
use Rattle.pz_parser_statements.proofs.MessageReadings.{results_text}

results_given : (at : ℕ → Pos) (q : ℕ) (xs : List Id) (j : Tokens) → call_results (located at q (results_text xs) ++ j) ≡ Ok (place_names at (suc q) xs, j)
unfolding call_results next after expect sees same
results_given at q xs j =
    let r = located at (suc q + length (names_text xs)) (symbol s.RightParen ∷ []) ++ j in
    rw (split_located at (suc q) (names_text xs) (symbol s.RightParen ∷ []) j, optional_names_complete.gives at (suc q) xs r tt ((λ e. absurd cc), (λ e. absurd cc))) refl

-- brackets, and what stands behind them
brackets_split : (at : ℕ → Pos) (q : ℕ) (x rest : List Mark) (j : Tokens) → located at q (symbol s.LeftParen ∷ (x ++ symbol s.RightParen ∷ rest)) ++ j ≡ located at q (symbol s.LeftParen ∷ (x ++ symbol s.RightParen ∷ [])) ++ (located at (suc (suc q + length x)) rest ++ j)
brackets_split at q x rest j =
    let e : q + suc (length (x ++ symbol s.RightParen ∷ [])) ≡ suc (suc q + length x) = omega (arith, length-append x (symbol s.RightParen ∷ [])) in
    ap (λ z. located at q (symbol s.LeftParen ∷ z) ++ j) (sym (append_assoc x (symbol s.RightParen ∷ []) rest))
    ∙ split_located at q (symbol s.LeftParen ∷ (x ++ symbol s.RightParen ∷ [])) rest j
    ∙ ap (λ m. located at q (symbol s.LeftParen ∷ (x ++ symbol s.RightParen ∷ [])) ++ (located at m rest ++ j)) e

right_seen : (p : Pos) (i : Tokens) → sees n.RightParen (token (kind.Sym s.RightParen) p ∷ i) ≡ true
unfolding sees same next
right_seen p i = refl

module _ (depth : ℕ) where
  after_default : (x : Next) (j : Tokens) → x ≢ n.LeftBrace → after_by depth x j ≡ Ok (left_out, j)
  after_default n.LeftBrace j h = absurd (h refl)
  after_default _ j h = refl

  after_given : (at : ℕ → Pos) (m : ℕ) (p : Part Id Id) (j : Tokens) → IsAfter p → bracketed_nesting p < suc depth → next j ≢ n.LeftBrace → after_message depth (located at m (after_text p) ++ j) ≡ Ok (place_part at m p, j)
  unfolding after_message next
  after_given at m left_out j h lt stop = after_default (next j) j stop
  after_given at m (written es) j h lt stop = rw (block_given depth (below depth) (below_complete depth) at m es j h (omega (arith, lt)), list_back (place_all at (suc m) es)) refl

  after_no_bracket : (at : ℕ → Pos) (m : ℕ) (p : Part Id Id) (j : Tokens) → next j ≢ n.LeftParen → next (located at m (after_text p) ++ j) ≢ n.LeftParen
  unfolding next
  after_no_bracket at m left_out j stop e = stop e
  after_no_bracket at m (written es) j stop e = absurd cc

  pub sent_given : (at : ℕ → Pos) (m : ℕ) (pos : Pos) (port message : Id) (args block : Part Id Id) (j : Tokens) → AreArguments args → IsAfter block → bracketed_nesting args < suc depth → bracketed_nesting block < suc depth → next j ≢ n.LeftParen → next j ≢ n.LeftBrace
      → sent depth (located at m (text (send pos port message args block)) ++ j) ≡ Ok (place at m (send pos port message args block), j)
  unfolding sent next after position identifier name expect_id sees same
  sent_given at m pos port message args block j h g lt le stop brace =
      let a = suc (suc (suc m)) in
      let b = a + length (arguments_text args) in
      rw (
        split_located at a (arguments_text args) (after_text block) j,
        optional_given depth (below depth) (below_complete depth) at a args (located at b (after_text block) ++ j) h lt (after_no_bracket at b block j stop),
        after_given at b block j g le brace,
      ) refl

  -- ---- receptions

  condition_given : (at : ℕ → Pos) (m : ℕ) (c : Option (Expression Id Id)) (p : Pos) (j : Tokens) → IfWritten IsValue c → condition_nesting c < depth → condition depth (located at m (condition_text c) ++ token (kind.Sym s.RightParen) p ∷ j) ≡ Ok (place_condition at m c, token (kind.Sym s.RightParen) p ∷ j)
  unfolding condition next after sees same
  condition_given at m None p j h lt = refl
  condition_given at m (Some e) p j h lt = rw ((below_complete depth rule.Value).gives at (suc m) e (token (kind.Sym s.RightParen) p ∷ j) (h.0, h.1, lt) (omega arith)) refl

  condition_stops : (at : ℕ → Pos) (m : ℕ) (c : Option (Expression Id Id)) (p : Pos) (j : Tokens) → (next (located at m (condition_text c) ++ token (kind.Sym s.RightParen) p ∷ j) ≢ n.Comma) × (next (located at m (condition_text c) ++ token (kind.Sym s.RightParen) p ∷ j) ≢ n.Word)
  unfolding next
  condition_stops at m None p j = ((λ e. absurd cc), (λ e. absurd cc))
  condition_stops at m (Some e) p j = ((λ e. absurd cc), (λ e. absurd cc))

  enclosed_given : (at : ℕ → Pos) (m : ℕ) (xs : List Id) (c : Option (Expression Id Id)) (j : Tokens) → IfWritten IsValue c → condition_nesting c < depth
      → enclosed_reception depth (located at m (reception_text (Some xs) c) ++ j) ≡ Ok ((Some (place_names at (suc m) xs), place_condition at (suc m + length (names_text xs)) c), j)
  unfolding enclosed_reception after
  enclosed_given at m xs c j h lt =
      let a = suc m + length (names_text xs) in
      let b = suc m + length (names_text xs ++ condition_text c) in
      let right = token (kind.Sym s.RightParen) (at b) ∷ j in
      rw (
        deepen_is depth (located at m (reception_text (Some xs) c) ++ j) (omega (arith, lt)),
        split_located at (suc m) (names_text xs ++ condition_text c) (symbol s.RightParen ∷ []) j,
        split_located at (suc m) (names_text xs) (condition_text c) right,
        optional_names_complete.gives at (suc m) xs (located at a (condition_text c) ++ right) tt (condition_stops at a c (at b) j),
        condition_given at a c (at b) j h lt,
        expect_is n.RightParen right (right_seen (at b) j),
      ) refl

  reception_default : (x : Next) (j : Tokens) → x ≢ n.LeftParen → reception_by depth x j ≡ Ok ((None, None), j)
  reception_default n.LeftParen j h = absurd (h refl)
  reception_default _ j h = refl

  reception_given : (at : ℕ → Pos) (m : ℕ) (into : Option (List Id)) (c : Option (Expression Id Id)) (j : Tokens) → IsReception into c → reception_nesting into c < suc depth → next j ≢ n.LeftParen
      → reception depth (located at m (reception_text into c) ++ j) ≡ Ok ((place_into at m into, place_condition at (suc m + length (optional_text names_text into)) c), j)
  unfolding reception next
  reception_given at m None None j h lt stop = reception_default (next j) j stop
  reception_given at m None (Some e) j h lt stop = absurd h
  reception_given at m (Some xs) None j h lt stop = enclosed_given at m xs None j tt (omega (arith, lt))
  reception_given at m (Some xs) (Some e) j h lt stop = enclosed_given at m xs (Some e) j h (omega (arith, lt))

  pub received_given : (at : ℕ → Pos) (m : ℕ) (pos : Pos) (port message : Id) (into : Option (List Id)) (c : Option (Expression Id Id)) (block : Part Id Id) (j : Tokens) → IsReception into c → IsAfter block → reception_nesting into c < suc depth → bracketed_nesting block < suc depth → next j ≢ n.LeftParen → next j ≢ n.LeftBrace
      → received depth (located at m (text (receive pos port message into c block)) ++ j) ≡ Ok (place at m (receive pos port message into c block), j)
  unfolding received next after position identifier name expect_id sees same
  received_given at m pos port message into c block j h g lt le stop brace =
      let a = suc (suc (suc m)) in
      let b = a + length (reception_text into c) in
      rw (
        split_located at a (reception_text into c) (after_text block) j,
        reception_given at a into c (located at b (after_text block) ++ j) h lt (after_no_bracket at b block j stop),
        after_given at b block j g le brace,
      ) refl

  -- ---- calls

  call_arguments_given : (at : ℕ → Pos) (m : ℕ) (ts : Expressions Id Id) (j : Tokens) → AreExpressions ts → expression_nesting.nestings ts < depth → call_arguments depth (located at m (symbol s.LeftParen ∷ (expression_text.texts s.Comma ts ++ symbol s.RightParen ∷ [])) ++ j) ≡ Ok (to_list (place_all at (suc m) ts), j)
  unfolding call_arguments sees same next
  call_arguments_given at m ts j h lt = arguments_given depth (below depth) (below_complete depth) at m ts j h lt

  pub called_given : (at : ℕ → Pos) (m : ℕ) (pos : Pos) (method : Id) (args : Expressions Id Id) (results : List Id) (j : Tokens) → AreExpressions args → expression_nesting.nestings args < depth
      → called depth (located at m (text (call pos method args results)) ++ j) ≡ Ok (place at m (call pos method args results), j)
  unfolding called after position identifier name
  called_given at m pos method args results j h lt =
      let q = suc (suc (suc m) + length (expression_text.texts s.Comma args)) in
      rw (
        brackets_split at (suc m) (expression_text.texts s.Comma args) (results_text results) j,
        call_arguments_given at (suc m) args (located at q (results_text results) ++ j) h lt,
        results_given at q results j,
        list_back (place_all at (suc (suc m)) args),
      ) refl
