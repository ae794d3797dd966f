-- What the rules for sends, receptions and calls read is the text of a statement that the grammar
-- has, within the nesting.
use Rattle.std.proofs.Common.{◌≡◌, ℕ, suc, ◌<◌, Bool, true, false, cond, List, [], ◌∷◌, ◌++◌, Option, Some, None, Ok, refl, ap, sym, ◌∙◌, arith, append_assoc}
use Rattle.pz_syntax.specs.declared.tokens.Symbol.TheVariants as s
use Rattle.pz_syntax.specs.declared.tokens.TokenKind.TheVariants as kind
use Rattle.pz_syntax.specs.declared.tokens.Mark.{Mark}
use Rattle.pz_syntax.specs.declared.names.Id.{Id}
use Rattle.pz_syntax.specs.Marks.{symbol, word, head, names_text, in_parentheses}
use Rattle.pz_syntax.specs.Expressions.{Part, left_out, written}
use Rattle.pz_syntax.specs.ExpressionView.{list_of as expressions}
use Rattle.pz_syntax.specs.ExpressionView as expression
use Rattle.pz_syntax.specs.ExpressionText.{arguments_text}
use Rattle.pz_syntax.specs.ExpressionText as expression_text
use Rattle.pz_syntax.specs.ExpressionForm.{IsValue}
use Rattle.pz_syntax.specs.ExpressionNesting.{bracketed_nesting}
use Rattle.pz_syntax.specs.Statements.{send, receive, call}
use Rattle.pz_syntax.specs.StatementView.{Tree}
use Rattle.pz_syntax.specs.StatementText.{text, after_text, condition_text, reception_text}
use Rattle.pz_syntax.specs.StatementForm.{IsAfter, IsReception}
use Rattle.pz_syntax.specs.StatementNesting.{condition_nesting, reception_nesting}
use Rattle.pz_syntax.specs.ModelForm.{Each, IfWritten}
use Rattle.pz_parser_cursor.specs.declared.ahead.Next.{Next}
use Rattle.pz_parser_cursor.specs.declared.ahead.Next.TheVariants as n
use Rattle.pz_parser_cursor.specs.devices.LookAhead.{next}
use Rattle.pz_parser_cursor.specs.devices.Input.{Tokens, marks, after, position, identifier, sees}
use Rattle.pz_parser_cursor.specs.devices.Device.{Parser, ◌>>◌, ◌<$>◌, refuse, skip, expect, expect_id, deepen}
use Rattle.pz_parser_cursor.specs.devices.Names.{optional_names}
use Rattle.pz_parser_cursor.proofs.Shown.{token_of}
use Rattle.pz_parser_cursor.proofs.Steps.{bind_ok, takes, sees_is, expected, opened}
use Rattle.pz_parser_cursor.proofs.Words.{word_is, head_is}
use Rattle.pz_parser_cursor.proofs.Reading.{Took, Sound, ok_took, done}
use Rattle.pz_parser_cursor.proofs.Named.{word_sound, optional_names_sound, Any}
use Rattle.pz_parser_expressions.specs.declared.rule.Rule.TheVariants as rule
use Rattle.pz_parser_expressions.specs.devices.Values.{below, enclosed, arguments}
use Rattle.pz_parser_expressions.proofs.Texts.{are, nested}
use Rattle.pz_parser_expressions.proofs.Texts as expression_proofs
use Rattle.pz_parser_expressions.proofs.Readings.{bracketed, enclosed_sound, arguments_sound, below_sound}
use Rattle.pz_parser_statements.specs.devices.Messages.{ReceptionTree, call_results, after_by, after_message, sent, condition, enclosed_reception, reception_by, reception, received, call_arguments, called}
use Rattle.pz_parser_statements.proofs.Lists.{Fits}

-- the second group of a call
abbrev pub results_text : List Id → List Mark
results_text xs = in_parentheses (names_text xs)

results_sound : Sound results_text call_results (Each Any)
unfolding call_results
results_sound = record {
  reads = λ i y e.
      let a = bind_ok (expect n.LeftParen i) _ y e in
      let left = expected n.LeftParen (kind.Sym s.LeftParen) i a.0 refl a.1 in
      let b = bind_ok (optional_names a.0.1) _ y a.2 in
      let names = optional_names_sound.reads a.0.1 b.0 b.1 in
      let c = bind_ok (expect n.RightParen b.0.1) _ y b.2 in
      let right = expected n.RightParen (kind.Sym s.RightParen) b.0.1 c.0 refl c.1 in
      ok_took (b.0.0, c.0.1) y c.2 (record {
        parts = left ∙ ap (λ r. symbol s.LeftParen ∷ r) (names.parts ∙ ap (λ r. names_text b.0.0 ++ r) right ∙ sym (append_assoc (names_text b.0.0) (symbol s.RightParen ∷ []) (marks c.0.1)));
        meets = names.meets;
      });
}

module _ (depth : ℕ) where
  abbrev AfterFits : Part Id Id → Type 0
  AfterFits p = IsAfter p × (bracketed_nesting p < suc depth)

  after_sound : Sound after_text (after_message depth) AfterFits
  unfolding after_message
  after_sound = record { reads = λ i y e. at i y (next i) refl e }
    where
      at : (i : Tokens) (y : Part Id Id × Tokens) (x : Next) → next i ≡ x → after_by depth x i ≡ Ok y → Took after_text AfterFits i y
      at i y n.LeftBrace h e =
          let b = bind_ok (enclosed depth (below depth) n.Semicolon n.RightBrace i) _ y e in
          let ts = enclosed_sound depth (below depth) (below_sound depth) n.Semicolon n.RightBrace s.LeftBrace s.Semicolon s.RightBrace refl refl i b.0 (ap token_of h) b.1 in
          ok_took (written (expressions b.0.0), b.0.1) y b.2 (record {
            parts = ts.1.parts;
            meets = (are depth b.0.0 ts.1.meets, omega (arith, nested depth b.0.0 ts.0 ts.1.meets));
          })
      at i y _ h e = ok_took (left_out, i) y e (record { parts = refl; meets = (tt, omega arith) })

  -- ---- sends

  pub sent_sound : (i : Tokens) (y : Tree × Tokens) → next i ≡ n.Word → next (after i) ≡ n.Bang → sent depth i ≡ Ok y → Took text (Fits (suc depth)) i y
  unfolding sent
  sent_sound i y h g e =
      let a = bind_ok (expect_id n.Word (after (after i))) _ y e in
      let message = word_sound.reads (after (after i)) a.0 a.1 in
      let b = bind_ok (arguments depth (below depth) a.0.1) _ y a.2 in
      let args = (arguments_sound depth (below depth) (below_sound depth)).reads a.0.1 b.0 b.1 in
      let c = bind_ok (after_message depth b.0.1) _ y b.2 in
      let block = after_sound.reads b.0.1 c.0 c.1 in
      ok_took (send (position i) (identifier i) a.0.0 b.0.0 c.0.0, c.0.1) y c.2 (record {
        parts = word_is i h ∙ ap (λ r. word (identifier i) ∷ r) (takes (kind.Sym s.Bang) (after i) (ap token_of g)
            ∙ ap (λ r. symbol s.Bang ∷ r) (message.parts ∙ ap (λ r. word a.0.0 ∷ r) (args.parts ∙ ap (λ r. arguments_text b.0.0 ++ r) block.parts ∙ sym (append_assoc (arguments_text b.0.0) (after_text c.0.0) (marks c.0.1)))));
        meets = ((args.meets.0, block.meets.0), omega (arith, args.meets.1, block.meets.1));
      })

  -- ---- receptions

  abbrev ConditionFits : Option expression.Tree → Type 0
  ConditionFits c = IfWritten IsValue c × (0 < depth → condition_nesting c < depth)

  condition_by : (i : Tokens) (y : Option expression.Tree × Tokens) (b : Bool) → sees n.Bar i ≡ b → cond b ((Some <$> (skip >> below depth rule.Value)) i) (done (None, i)) ≡ Ok y → Took condition_text ConditionFits i y
  condition_by i y true h e =
      let a = bind_ok (below depth rule.Value (after i)) _ y e in
      let t = (below_sound depth rule.Value).reads (after i) a.0 a.1 in
      ok_took (Some a.0.0, a.0.1) y a.2 (record {
        parts = takes (kind.Sym s.Bar) i (ap token_of (sees_is n.Bar i h)) ∙ ap (λ r. symbol s.Bar ∷ r) t.parts;
        meets = ((t.meets.0, t.meets.1), λ lt. t.meets.2);
      })
  condition_by i y false h e = ok_took (None, i) y e (record { parts = refl; meets = (tt, λ lt. lt) })

  condition_sound : Sound condition_text (condition depth) ConditionFits
  unfolding condition
  condition_sound = record { reads = λ i y e. condition_by i y (sees n.Bar i) refl e }

  abbrev text_of : ReceptionTree → List Mark
  text_of r = reception_text r.0 r.1

  abbrev ReceptionFits : ReceptionTree → Type 0
  ReceptionFits r = IsReception r.0 r.1 × (reception_nesting r.0 r.1 < suc depth)

  received_form : (xs : List Id) (c : Option expression.Tree) → IfWritten IsValue c → IsReception (Some xs) c
  received_form xs None h = tt
  received_form xs (Some e) h = h

  enclosed_reception_sound : (i : Tokens) (y : ReceptionTree × Tokens) → next i ≡ n.LeftParen → enclosed_reception depth i ≡ Ok y → Took text_of ReceptionFits i y
  unfolding enclosed_reception
  enclosed_reception_sound i y h e =
      let a = bind_ok (deepen depth i) _ y e in
      let d = opened depth (kind.Sym s.LeftParen) i a.0 (ap token_of h) a.1 in
      let b = bind_ok (optional_names a.0.1) _ y a.2 in
      let names = optional_names_sound.reads a.0.1 b.0 b.1 in
      let c = bind_ok (condition depth b.0.1) _ y b.2 in
      let test = condition_sound.reads b.0.1 c.0 c.1 in
      let r = bind_ok (expect n.RightParen c.0.1) _ y c.2 in
      let right = expected n.RightParen (kind.Sym s.RightParen) c.0.1 r.0 refl r.1 in
      let lt = d.0 in
      ok_took ((Some b.0.0, c.0.0), r.0.1) y r.2 (record {
        parts = d.1 ∙ ap (λ x. symbol s.LeftParen ∷ x) (names.parts ∙ ap (λ x. names_text b.0.0 ++ x) (test.parts ∙ ap (λ x. condition_text c.0.0 ++ x) right) ∙ closed b.0.0 c.0.0 (marks r.0.1));
        meets = (received_form b.0.0 c.0.0 test.meets.0, omega (arith, test.meets.1 lt));
      })
    where
      closed : (xs : List Id) (c : Option expression.Tree) (r : List Mark) → names_text xs ++ (condition_text c ++ symbol s.RightParen ∷ r) ≡ ((names_text xs ++ condition_text c) ++ symbol s.RightParen ∷ []) ++ r
      closed xs c r = sym (append_assoc (names_text xs) (condition_text c) (symbol s.RightParen ∷ r)) ∙ sym (append_assoc (names_text xs ++ condition_text c) (symbol s.RightParen ∷ []) r)

  reception_sound : Sound text_of (reception depth) ReceptionFits
  unfolding reception
  reception_sound = record { reads = λ i y e. at i y (next i) refl e }
    where
      at : (i : Tokens) (y : ReceptionTree × Tokens) (x : Next) → next i ≡ x → reception_by depth x i ≡ Ok y → Took text_of ReceptionFits i y
      at i y n.LeftParen h e = enclosed_reception_sound i y h e
      at i y _ h e = ok_took ((None, None), i) y e (record { parts = refl; meets = (tt, omega arith) })

  pub received_sound : (i : Tokens) (y : Tree × Tokens) → next i ≡ n.Word → next (after i) ≡ n.Query → received depth i ≡ Ok y → Took text (Fits (suc depth)) i y
  unfolding received
  received_sound i y h g e =
      let a = bind_ok (expect_id n.Word (after (after i))) _ y e in
      let message = word_sound.reads (after (after i)) a.0 a.1 in
      let b = bind_ok (reception depth a.0.1) _ y a.2 in
      let into = reception_sound.reads a.0.1 b.0 b.1 in
      let c = bind_ok (after_message depth b.0.1) _ y b.2 in
      let block = after_sound.reads b.0.1 c.0 c.1 in
      ok_took (receive (position i) (identifier i) a.0.0 b.0.0.0 b.0.0.1 c.0.0, c.0.1) y c.2 (record {
        parts = word_is i h ∙ ap (λ r. word (identifier i) ∷ r) (takes (kind.Sym s.Query) (after i) (ap token_of g)
            ∙ ap (λ r. symbol s.Query ∷ r) (message.parts ∙ ap (λ r. word a.0.0 ∷ r) (into.parts ∙ ap (λ r. text_of b.0.0 ++ r) block.parts ∙ sym (append_assoc (text_of b.0.0) (after_text c.0.0) (marks c.0.1)))));
        meets = ((into.meets.0, block.meets.0), omega (arith, into.meets.1, block.meets.1));
      })

  -- ---- calls

  abbrev no_arguments : Parser (List expression.Tree)
  no_arguments = refuse

  arguments_by : (i : Tokens) (y : List expression.Tree × Tokens) (b : Bool) → sees n.LeftParen i ≡ b → cond b (enclosed depth (below depth) n.Comma n.RightParen i) (no_arguments i) ≡ Ok y
      → (0 < depth) × Took (bracketed s.LeftParen s.Comma s.RightParen) (Each (expression_proofs.Fits depth 0)) i y
  arguments_by i y true h e = enclosed_sound depth (below depth) (below_sound depth) n.Comma n.RightParen s.LeftParen s.Comma s.RightParen refl refl i y (ap token_of (sees_is n.LeftParen i h)) e
  arguments_by i y false h e = absurd cc

  call_arguments_sound : (i : Tokens) (y : List expression.Tree × Tokens) → call_arguments depth i ≡ Ok y → (0 < depth) × Took (bracketed s.LeftParen s.Comma s.RightParen) (Each (expression_proofs.Fits depth 0)) i y
  unfolding call_arguments
  call_arguments_sound i y e = arguments_by i y (sees n.LeftParen i) refl e

  pub called_sound : (i : Tokens) (y : Tree × Tokens) → next i ≡ n.Head → called depth i ≡ Ok y → Took text (Fits (suc depth)) i y
  unfolding called
  called_sound i y h e =
      let a = bind_ok (call_arguments depth (after i)) _ y e in
      let args = call_arguments_sound (after i) a.0 a.1 in
      let b = bind_ok (call_results a.0.1) _ y a.2 in
      let results = results_sound.reads a.0.1 b.0 b.1 in
      ok_took (call (position i) (identifier i) (expressions a.0.0) b.0.0, b.0.1) y b.2 (record {
        parts = head_is i h ∙ ap (λ r. head (identifier i) ∷ r) (args.1.parts ∙ ap (λ r. bracketed s.LeftParen s.Comma s.RightParen a.0.0 ++ r) results.parts ∙ closed a.0.0 (results_text b.0.0) (marks b.0.1));
        meets = (are depth a.0.0 args.1.meets, omega (arith, nested depth a.0.0 args.0 args.1.meets));
      })
    where
      closed : (es : List expression.Tree) (rs r : List Mark) → bracketed s.LeftParen s.Comma s.RightParen es ++ (rs ++ r) ≡ (symbol s.LeftParen ∷ (expression_text.texts s.Comma (expressions es) ++ symbol s.RightParen ∷ rs)) ++ r
      closed es rs r =
          let x = expression_text.texts s.Comma (expressions es) in
          ap (λ z. symbol s.LeftParen ∷ z) (append_assoc x (symbol s.RightParen ∷ []) (rs ++ r) ∙ sym (append_assoc x (symbol s.RightParen ∷ rs) r))
