-- What each rule for statements reads is the text of a statement that the grammar has, within the
-- nesting.
use Rattle.std.proofs.Common.{◌≡◌, ℕ, zero, suc, ◌≤◌, ◌<◌, Bool, true, false, cond, List, [], ◌∷◌, ◌++◌, Some, Ok, refl, ap, sym, ◌∙◌, arith, append_assoc}
use Rattle.pz_syntax.specs.declared.tokens.Pos.{Pos}
use Rattle.pz_syntax.specs.declared.tokens.Symbol.TheVariants as s
use Rattle.pz_syntax.specs.declared.tokens.Keyword.{Keyword}
use Rattle.pz_syntax.specs.declared.tokens.Keyword.TheVariants as k
use Rattle.pz_syntax.specs.declared.tokens.TokenKind.TheVariants as kind
use Rattle.pz_syntax.specs.declared.tokens.Mark.{Mark}
use Rattle.pz_syntax.specs.declared.names.Id.{Id}
use Rattle.pz_syntax.specs.Marks.{symbol, keyword, word}
use Rattle.pz_syntax.specs.ExpressionView.{list_of as expressions}
use Rattle.pz_syntax.specs.ExpressionView as expression
use Rattle.pz_syntax.specs.ExpressionText as expression_text
use Rattle.pz_syntax.specs.Statements.{Statements, StatementPart, not_written}
use Rattle.pz_syntax.specs.Statements as tree
use Rattle.pz_syntax.specs.StatementView.{Tree, sequence_of, branches_of}
use Rattle.pz_syntax.specs.StatementText.{text, texts, otherwise_text, branches_text}
use Rattle.pz_syntax.specs.StatementForm.{AreStatements, IsOtherwise}
use Rattle.pz_syntax.specs.StatementNesting.{nestings, otherwise_nesting}
use Rattle.pz_parser_cursor.specs.declared.ahead.Next.{Next}
use Rattle.pz_parser_cursor.specs.declared.ahead.Next.TheVariants as n
use Rattle.pz_parser_cursor.specs.devices.LookAhead.{next}
use Rattle.pz_parser_cursor.specs.devices.Input.{Tokens, marks, after, position, identifier, sees}
use Rattle.pz_parser_cursor.specs.devices.Device.{Parser, refuse, expect, deepen}
use Rattle.pz_parser_cursor.specs.devices.Lists.{list_of}
use Rattle.pz_parser_cursor.proofs.Shown.{token_of}
use Rattle.pz_parser_cursor.proofs.Steps.{bind_ok, takes, sees_is, expected, opened}
use Rattle.pz_parser_cursor.proofs.Words.{word_is}
use Rattle.pz_parser_cursor.proofs.Reading.{Took, Sound, ok_took}
use Rattle.pz_parser_cursor.proofs.Joined.{joined_sound, Filled}
use Rattle.pz_parser_expressions.specs.declared.rule.Rule.TheVariants as rule
use Rattle.pz_parser_expressions.specs.devices.Values.{expr, below, enclosed, tested}
use Rattle.pz_parser_expressions.proofs.Texts as value
use Rattle.pz_parser_expressions.proofs.Readings.{enclosed_sound, test_sound, expr_sound, below_sound}
use Rattle.pz_parser_statements.specs.devices.Messages.{sent, received}
use Rattle.pz_parser_statements.specs.devices.Statements.{delayed, block, assigned, valued, worded, sequence, bracketed, guarded, branched, parallel, selection, otherwise_by, otherwise, conditional, repeated, handled, aborted, interrupted, statement_by, statement, stmt, stmts}
use Rattle.pz_parser_statements.proofs.Lists.{Fits, texts_are, sequence_text, branches_are, are, nested, are_branches, branches_nested}
use Rattle.pz_parser_statements.proofs.Beginnings.{begins_value, is_statement}
use Rattle.pz_parser_statements.proofs.MessageReadings.{sent_sound, received_sound, called_sound}

module _ (depth : ℕ) where
  delayed_sound : (i : Tokens) (y : Tree × Tokens) → next i ≡ n.Delay → delayed depth i ≡ Ok y → Took text (Fits (suc depth)) i y
  unfolding delayed
  delayed_sound i y h e =
      let a = bind_ok (expr depth rule.Value (after i)) _ y e in
      let t = (expr_sound depth rule.Value).reads (after i) a.0 a.1 in
      ok_took (tree.delay (position i) a.0.0, a.0.1) y a.2 (record { parts = takes (kind.Key k.Delay) i (ap token_of h) ∙ ap (λ r. keyword k.Delay ∷ r) t.parts; meets = ((t.meets.0, t.meets.1), t.meets.2) })

  block_sound : (i : Tokens) (y : Tree × Tokens) → next i ≡ n.LeftBrace → block depth i ≡ Ok y → Took text (Fits (suc depth)) i y
  unfolding block
  block_sound i y h e =
      let a = bind_ok (enclosed depth (below depth) n.Semicolon n.RightBrace i) _ y e in
      let ts = enclosed_sound depth (below depth) (below_sound depth) n.Semicolon n.RightBrace s.LeftBrace s.Semicolon s.RightBrace refl refl i a.0 (ap token_of h) a.1 in
      ok_took (tree.block (position i) (expressions a.0.0), a.0.1) y a.2 (record { parts = ts.1.parts; meets = (value.are depth a.0.0 ts.1.meets, omega (arith, value.nested depth a.0.0 ts.0 ts.1.meets)) })

  assigned_sound : (i : Tokens) (y : Tree × Tokens) → next i ≡ n.Word → next (after i) ≡ n.Assign → assigned depth i ≡ Ok y → Took text (Fits (suc depth)) i y
  unfolding assigned
  assigned_sound i y h g e =
      let a = bind_ok (expr depth rule.Value (after (after i))) _ y e in
      let t = (expr_sound depth rule.Value).reads (after (after i)) a.0 a.1 in
      ok_took (tree.assignment (position i) (identifier i) a.0.0, a.0.1) y a.2 (record {
        parts = word_is i h ∙ ap (λ r. word (identifier i) ∷ r) (takes (kind.Sym s.Assign) (after i) (ap token_of g) ∙ ap (λ r. symbol s.Assign ∷ r) t.parts);
        meets = ((t.meets.0, t.meets.1), t.meets.2);
      })

  valued_sound : (i : Tokens) (y : Tree × Tokens) → begins_value (next i) ≡ true → valued depth i ≡ Ok y → Took text (Fits (suc depth)) i y
  unfolding valued
  valued_sound i y h e =
      let a = bind_ok (expr depth rule.Value i) _ y e in
      let t = (expr_sound depth rule.Value).reads i a.0 a.1 in
      ok_took (tree.value (position i) a.0.0, a.0.1) y a.2 (record {
        parts = t.parts;
        meets = (((t.meets.0, t.meets.1), is_statement i a.0.0 (marks a.0.1) h t.parts t.meets.0 t.meets.1), t.meets.2);
      })

  worded_sound : (i : Tokens) (y : Tree × Tokens) → next i ≡ n.Word → worded depth i ≡ Ok y → Took text (Fits (suc depth)) i y
  unfolding worded
  worded_sound i y h e = first (sees n.Bang (after i)) refl e
    where
      third : (b : Bool) → sees n.Assign (after i) ≡ b → cond b (assigned depth i) (valued depth i) ≡ Ok y → Took text (Fits (suc depth)) i y
      third true g e = assigned_sound i y h (sees_is n.Assign (after i) g) e
      third false g e = valued_sound i y (ap begins_value h) e

      second : (b : Bool) → sees n.Query (after i) ≡ b → cond b (received depth i) (cond (sees n.Assign (after i)) (assigned depth i) (valued depth i)) ≡ Ok y → Took text (Fits (suc depth)) i y
      second true g e = received_sound depth i y h (sees_is n.Query (after i) g) e
      second false g e = third (sees n.Assign (after i)) refl e

      first : (b : Bool) → sees n.Bang (after i) ≡ b → cond b (sent depth i) (cond (sees n.Query (after i)) (received depth i) (cond (sees n.Assign (after i)) (assigned depth i) (valued depth i))) ≡ Ok y → Took text (Fits (suc depth)) i y
      first true g e = sent_sound depth i y h (sees_is n.Bang (after i) g) e
      first false g e = second (sees n.Query (after i)) refl e

  -- ---- over the statements one construct further in

  module _ (inner : Parser Tree) (inner_sound : Sound text inner (Fits depth)) where
    sequence_sound : Sound sequence_text (sequence depth inner) (Filled (Fits depth))
    sequence_sound = record {
      reads = λ i y e.
          let t = (joined_sound text inner (Fits depth) n.Semicolon (kind.Sym s.Semicolon) refl inner_sound).reads i y e in
          record { parts = t.parts ∙ ap (λ r. r ++ marks y.1) (texts_are y.0); meets = t.meets };
    }

    bracketed_sound : (i : Tokens) (y : Tree × Tokens) → next i ≡ n.LeftParen → bracketed depth inner i ≡ Ok y → Took text (Fits (suc depth)) i y
    unfolding bracketed
    bracketed_sound i y h e =
        let a = bind_ok (deepen depth i) _ y e in
        let d = opened depth (kind.Sym s.LeftParen) i a.0 (ap token_of h) a.1 in
        let b = bind_ok (sequence depth inner a.0.1) _ y a.2 in
        let ts = sequence_sound.reads a.0.1 b.0 b.1 in
        let c = bind_ok (expect n.RightParen b.0.1) _ y b.2 in
        let last = expected n.RightParen (kind.Sym s.RightParen) b.0.1 c.0 refl c.1 in
        ok_took (tree.bracketed (position i) (sequence_of b.0.0), c.0.1) y c.2 (record {
          parts = d.1 ∙ ap (λ r. symbol s.LeftParen ∷ r) (ts.parts ∙ ap (λ r. sequence_text b.0.0 ++ r) last ∙ sym (append_assoc (sequence_text b.0.0) (symbol s.RightParen ∷ []) (marks c.0.1)));
          meets = (are depth b.0.0 ts.meets, omega (arith, nested depth b.0.0 ts.meets));
        })

    guarded_sound : (i : Tokens) (y : Tree × Tokens) → next i ≡ n.LeftBracket → guarded depth inner i ≡ Ok y → Took text (Fits (suc depth)) i y
    unfolding guarded
    guarded_sound i y h e =
        let a = bind_ok (deepen depth i) _ y e in
        let d = opened depth (kind.Sym s.LeftBracket) i a.0 (ap token_of h) a.1 in
        let b = bind_ok (tested (below depth) n.RightBracket a.0.1) _ y a.2 in
        let t = (test_sound depth (below depth) (below_sound depth) n.RightBracket (kind.Sym s.RightBracket) refl).reads a.0.1 b.0 b.1 in
        let c = bind_ok (inner b.0.1) _ y b.2 in
        let u = inner_sound.reads b.0.1 c.0 c.1 in
        ok_took (tree.guarded (position i) b.0.0 c.0.0, c.0.1) y c.2 (record {
          parts = d.1 ∙ ap (λ r. symbol s.LeftBracket ∷ r) (t.parts ∙ append_assoc (expression_text.text b.0.0) (symbol s.RightBracket ∷ []) (marks b.0.1) ∙ ap (λ r. expression_text.text b.0.0 ++ symbol s.RightBracket ∷ r) u.parts
              ∙ sym (append_assoc (expression_text.text b.0.0) (symbol s.RightBracket ∷ text c.0.0) (marks c.0.1)));
          meets = (((t.meets.0, t.meets.1), u.meets.0), omega (arith, t.meets.2, u.meets.1));
        })

    -- ---- branches

    branched_sound : (sep close : Next) (first between last : Keyword) → token_of sep ≡ Some (kind.Key between) → token_of close ≡ Some (kind.Key last)
        → (i : Tokens) (y : List (List Tree) × Tokens) → token_of (next i) ≡ Some (kind.Key first) → branched depth inner sep close i ≡ Ok y
        → Took (λ bs. keyword first ∷ (branches_text between (branches_of bs) ++ keyword last ∷ [])) (Filled (Filled (Fits depth))) i y
    unfolding branched
    branched_sound sep close first between last shows closes i y opens e =
        let a = bind_ok (deepen depth i) _ y e in
        let d = opened depth (kind.Key first) i a.0 opens a.1 in
        let b = bind_ok (list_of (sequence depth inner) sep a.0.1) _ y a.2 in
        let bs = (joined_sound sequence_text (sequence depth inner) (Filled (Fits depth)) sep (kind.Key between) shows sequence_sound).reads a.0.1 b.0 b.1 in
        let c = bind_ok (expect close b.0.1) _ y b.2 in
        let end = expected close (kind.Key last) b.0.1 c.0 closes c.1 in
        let x = branches_text between (branches_of b.0.0) in
        ok_took (b.0.0, c.0.1) y c.2 (record {
          parts = d.1 ∙ ap (λ r. keyword first ∷ r) (bs.parts ∙ ap (λ r. r ++ marks b.0.1) (branches_are between b.0.0) ∙ ap (λ r. x ++ r) end ∙ sym (append_assoc x (keyword last ∷ []) (marks c.0.1)));
          meets = bs.meets;
        })

    parallel_sound : (i : Tokens) (y : Tree × Tokens) → next i ≡ n.Par → parallel depth inner i ≡ Ok y → Took text (Fits (suc depth)) i y
    unfolding parallel
    parallel_sound i y h e =
        let a = bind_ok (branched depth inner n.And n.Rap i) _ y e in
        let bs = branched_sound n.And n.Rap k.Par k.And k.Rap refl refl i a.0 (ap token_of h) a.1 in
        ok_took (tree.parallel (position i) (branches_of a.0.0), a.0.1) y a.2 (record { parts = bs.parts; meets = (are_branches depth a.0.0 bs.meets, omega (arith, branches_nested depth a.0.0 bs.meets)) })

    selection_sound : (i : Tokens) (y : Tree × Tokens) → next i ≡ n.Sel → selection depth inner i ≡ Ok y → Took text (Fits (suc depth)) i y
    unfolding selection
    selection_sound i y h e =
        let a = bind_ok (branched depth inner n.Or n.Les i) _ y e in
        let bs = branched_sound n.Or n.Les k.Sel k.Or k.Les refl refl i a.0 (ap token_of h) a.1 in
        ok_took (tree.select (position i) (branches_of a.0.0), a.0.1) y a.2 (record { parts = bs.parts; meets = (are_branches depth a.0.0 bs.meets, omega (arith, branches_nested depth a.0.0 bs.meets)) })

    -- ---- choices and loops

    abbrev OtherFits : StatementPart Id Id Id → Type 0
    OtherFits p = IsOtherwise p × (0 < depth → otherwise_nesting p < depth)

    otherwise_sound : Sound otherwise_text (otherwise depth inner) OtherFits
    unfolding otherwise
    otherwise_sound = record { reads = λ i y e. at i y (next i) refl e }
      where
        at : (i : Tokens) (y : StatementPart Id Id Id × Tokens) (x : Next) → next i ≡ x → otherwise_by depth inner x i ≡ Ok y → Took otherwise_text OtherFits i y
        at i y n.Else h e =
            let b = bind_ok (sequence depth inner (after i)) _ y e in
            let ts = sequence_sound.reads (after i) b.0 b.1 in
            ok_took (tree.otherwise (sequence_of b.0.0), b.0.1) y b.2 (record {
              parts = takes (kind.Key k.Else) i (ap token_of h) ∙ ap (λ r. keyword k.Else ∷ r) ts.parts;
              meets = (are depth b.0.0 ts.meets, λ lt. nested depth b.0.0 ts.meets);
            })
        at i y _ h e = ok_took (not_written, i) y e (record { parts = refl; meets = (tt, λ lt. lt) })

    conditional_sound : (i : Tokens) (y : Tree × Tokens) → next i ≡ n.If → conditional depth inner i ≡ Ok y → Took text (Fits (suc depth)) i y
    unfolding conditional
    conditional_sound i y h e =
        let a = bind_ok (deepen depth i) _ y e in
        let d = opened depth (kind.Key k.If) i a.0 (ap token_of h) a.1 in
        let b = bind_ok (tested (below depth) n.Then a.0.1) _ y a.2 in
        let t = (test_sound depth (below depth) (below_sound depth) n.Then (kind.Key k.Then) refl).reads a.0.1 b.0 b.1 in
        let f = bind_ok (sequence depth inner b.0.1) _ y b.2 in
        let ts = sequence_sound.reads b.0.1 f.0 f.1 in
        let o = bind_ok (otherwise depth inner f.0.1) _ y f.2 in
        let rest = otherwise_sound.reads f.0.1 o.0 o.1 in
        let l = bind_ok (expect n.Fi o.0.1) _ y o.2 in
        let last = expected n.Fi (kind.Key k.Fi) o.0.1 l.0 refl l.1 in
        let lt = d.0 in
        ok_took (tree.conditional (position i) b.0.0 (sequence_of f.0.0) o.0.0, l.0.1) y l.2 (record {
          parts = d.1 ∙ ap (λ r. keyword k.If ∷ r) (t.parts ∙ append_assoc (expression_text.text b.0.0) (keyword k.Then ∷ []) (marks b.0.1) ∙ ap (λ r. expression_text.text b.0.0 ++ keyword k.Then ∷ r) (ts.parts ∙ ap (λ r. sequence_text f.0.0 ++ r) (rest.parts ∙ ap (λ r. otherwise_text o.0.0 ++ r) last)))
              ∙ closed (position i) b.0.0 (sequence_of f.0.0) o.0.0 (marks l.0.1);
          meets = (((t.meets.0, t.meets.1), are depth f.0.0 ts.meets, rest.meets.0), omega (arith, t.meets.2, nested depth f.0.0 ts.meets, rest.meets.1 lt));
        })
      where
        closed : (pos : Pos) (t : expression.Tree) (ts : Statements Id Id Id) (o : StatementPart Id Id Id) (j : List Mark) → keyword k.If ∷ (expression_text.text t ++ keyword k.Then ∷ (texts ts ++ (otherwise_text o ++ keyword k.Fi ∷ j))) ≡ text (tree.conditional pos t ts o) ++ j
        closed pos t ts o j = sym (ap (λ r. keyword k.If ∷ r) (append_assoc (expression_text.text t) _ j ∙ ap (λ r. expression_text.text t ++ keyword k.Then ∷ r) (append_assoc (texts ts) _ j ∙ ap (λ r. texts ts ++ r) (append_assoc (otherwise_text o) (keyword k.Fi ∷ []) j))))

    repeated_sound : (i : Tokens) (y : Tree × Tokens) → next i ≡ n.While → repeated depth inner i ≡ Ok y → Took text (Fits (suc depth)) i y
    unfolding repeated
    repeated_sound i y h e =
        let a = bind_ok (deepen depth i) _ y e in
        let d = opened depth (kind.Key k.While) i a.0 (ap token_of h) a.1 in
        let b = bind_ok (tested (below depth) n.Do a.0.1) _ y a.2 in
        let t = (test_sound depth (below depth) (below_sound depth) n.Do (kind.Key k.Do) refl).reads a.0.1 b.0 b.1 in
        let f = bind_ok (sequence depth inner b.0.1) _ y b.2 in
        let ts = sequence_sound.reads b.0.1 f.0 f.1 in
        let l = bind_ok (expect n.Od f.0.1) _ y f.2 in
        let last = expected n.Od (kind.Key k.Od) f.0.1 l.0 refl l.1 in
        ok_took (tree.repeated (position i) b.0.0 (sequence_of f.0.0), l.0.1) y l.2 (record {
          parts = d.1 ∙ ap (λ r. keyword k.While ∷ r) (t.parts ∙ append_assoc (expression_text.text b.0.0) (keyword k.Do ∷ []) (marks b.0.1) ∙ ap (λ r. expression_text.text b.0.0 ++ keyword k.Do ∷ r) (ts.parts ∙ ap (λ r. sequence_text f.0.0 ++ r) last))
              ∙ closed (position i) b.0.0 (sequence_of f.0.0) (marks l.0.1);
          meets = (((t.meets.0, t.meets.1), are depth f.0.0 ts.meets), omega (arith, t.meets.2, nested depth f.0.0 ts.meets));
        })
      where
        closed : (pos : Pos) (t : expression.Tree) (ts : Statements Id Id Id) (j : List Mark) → keyword k.While ∷ (expression_text.text t ++ keyword k.Do ∷ (texts ts ++ keyword k.Od ∷ j)) ≡ text (tree.repeated pos t ts) ++ j
        closed pos t ts j = sym (ap (λ r. keyword k.While ∷ r) (append_assoc (expression_text.text t) _ j ∙ ap (λ r. expression_text.text t ++ keyword k.Do ∷ r) (append_assoc (texts ts) (keyword k.Od ∷ []) j)))

    -- ---- `abort` and `interrupt`

    abbrev HandledFits : List Tree × Tree → Type 0
    HandledFits p = Filled (Fits depth) p.0 × Fits depth p.1

    handled_sound : (word : Keyword) (i : Tokens) (y : (List Tree × Tree) × Tokens) → token_of (next i) ≡ Some (kind.Key word) → handled depth inner i ≡ Ok y
        → Took (λ p. keyword word ∷ (sequence_text p.0 ++ keyword k.With ∷ text p.1)) HandledFits i y
    unfolding handled
    handled_sound word i y opens e =
        let a = bind_ok (deepen depth i) _ y e in
        let d = opened depth (kind.Key word) i a.0 opens a.1 in
        let b = bind_ok (sequence depth inner a.0.1) _ y a.2 in
        let ts = sequence_sound.reads a.0.1 b.0 b.1 in
        let c = bind_ok (expect n.With b.0.1) _ y b.2 in
        let with_ = expected n.With (kind.Key k.With) b.0.1 c.0 refl c.1 in
        let f = bind_ok (inner c.0.1) _ y c.2 in
        let t = inner_sound.reads c.0.1 f.0 f.1 in
        ok_took ((b.0.0, f.0.0), f.0.1) y f.2 (record {
          parts = d.1 ∙ ap (λ r. keyword word ∷ r) (ts.parts ∙ ap (λ r. sequence_text b.0.0 ++ r) (with_ ∙ ap (λ r. keyword k.With ∷ r) t.parts) ∙ sym (append_assoc (sequence_text b.0.0) (keyword k.With ∷ text f.0.0) (marks f.0.1)));
          meets = (ts.meets, t.meets);
        })

    aborted_sound : (i : Tokens) (y : Tree × Tokens) → next i ≡ n.Abort → aborted depth inner i ≡ Ok y → Took text (Fits (suc depth)) i y
    unfolding aborted
    aborted_sound i y h e =
        let a = bind_ok (handled depth inner i) _ y e in
        let p = handled_sound k.Abort i a.0 (ap token_of h) a.1 in
        ok_took (tree.abort (position i) (sequence_of a.0.0.0) a.0.0.1, a.0.1) y a.2 (record { parts = p.parts; meets = ((are depth a.0.0.0 p.meets.0, p.meets.1.0), omega (arith, nested depth a.0.0.0 p.meets.0, p.meets.1.1)) })

    interrupted_sound : (i : Tokens) (y : Tree × Tokens) → next i ≡ n.Interrupt → interrupted depth inner i ≡ Ok y → Took text (Fits (suc depth)) i y
    unfolding interrupted
    interrupted_sound i y h e =
        let a = bind_ok (handled depth inner i) _ y e in
        let p = handled_sound k.Interrupt i a.0 (ap token_of h) a.1 in
        ok_took (tree.interrupt (position i) (sequence_of a.0.0.0) a.0.0.1, a.0.1) y a.2 (record { parts = p.parts; meets = ((are depth a.0.0.0 p.meets.0, p.meets.1.0), omega (arith, nested depth a.0.0.0 p.meets.0, p.meets.1.1)) })

    statement_at : (i : Tokens) (y : Tree × Tokens) (x : Next) → next i ≡ x → statement_by depth inner x i ≡ Ok y → Took text (Fits (suc depth)) i y
    statement_at i y n.Skip h e = ok_took (tree.skip (position i), after i) y e (record { parts = takes (kind.Key k.Skip) i (ap token_of h); meets = (tt, omega arith) })
    statement_at i y n.Delay h e = delayed_sound i y h e
    statement_at i y n.LeftParen h e = bracketed_sound i y h e
    statement_at i y n.LeftBrace h e = block_sound i y h e
    statement_at i y n.LeftBracket h e = guarded_sound i y h e
    statement_at i y n.Par h e = parallel_sound i y h e
    statement_at i y n.Sel h e = selection_sound i y h e
    statement_at i y n.If h e = conditional_sound i y h e
    statement_at i y n.While h e = repeated_sound i y h e
    statement_at i y n.Abort h e = aborted_sound i y h e
    statement_at i y n.Interrupt h e = interrupted_sound i y h e
    statement_at i y n.Head h e = called_sound depth i y h e
    statement_at i y n.Word h e = worded_sound i y h e
    statement_at i y n.Int h e = valued_sound i y (ap begins_value h) e
    statement_at i y n.Literal h e = valued_sound i y (ap begins_value h) e
    statement_at i y n.New h e = valued_sound i y (ap begins_value h) e
    statement_at i y n.CurrentTime h e = valued_sound i y (ap begins_value h) e
    statement_at i y _ h e = absurd cc

    statement_sound : Sound text (statement depth inner) (Fits (suc depth))
    unfolding statement
    statement_sound = record { reads = λ i y e. statement_at i y (next i) refl e }

-- What is read as a statement is the text of a statement that the grammar has, of at most this nesting.
pub stmt_sound : (d : ℕ) → Sound text (stmt d) (Fits (suc d))
unfolding stmt
stmt_sound zero = statement_sound zero refuse (record { reads = λ i y e. absurd cc })
stmt_sound (suc d) = statement_sound (suc d) (stmt d) (stmt_sound d)

-- a body of the grammar, with at most so many constructs one in another
abbrev pub BodyFits : ℕ → Statements Id Id Id → Type 0
BodyFits d ts = AreStatements ts × (nestings ts ≤ d)

-- What is read as a body is the text of a body of at most this nesting.
pub stmts_sound : (d : ℕ) → Sound texts (stmts d) (BodyFits d)
unfolding stmts
stmts_sound d = record {
  reads = λ i y e.
      let a = bind_ok (list_of (stmt d) n.Semicolon i) _ y e in
      let ts = (joined_sound text (stmt d) (Fits (suc d)) n.Semicolon (kind.Sym s.Semicolon) refl (stmt_sound d)).reads i a.0 a.1 in
      ok_took (sequence_of a.0.0, a.0.1) y a.2 (record { parts = ts.parts ∙ ap (λ r. r ++ marks a.0.1) (texts_are a.0.0); meets = (are (suc d) a.0.0 ts.meets, omega (arith, nested (suc d) a.0.0 ts.meets)) });
}
