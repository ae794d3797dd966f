-- What each rule reads is the text of an expression that the grammar has, within the nesting.
use Rattle.std.proofs.Common.{◌≡◌, ℕ, zero, suc, ◌<◌, Bool, true, false, not, cond, List, [], ◌∷◌, ◌++◌, Some, Ok, refl, ap, sym, ◌∙◌, arith, append_assoc}
use Rattle.pz_syntax.specs.declared.tokens.Pos.{Pos}
use Rattle.pz_syntax.specs.declared.tokens.Symbol.{Symbol}
use Rattle.pz_syntax.specs.declared.tokens.Symbol.TheVariants as s
use Rattle.pz_syntax.specs.declared.tokens.TokenKind.{TokenKind}
use Rattle.pz_syntax.specs.declared.tokens.Keyword.TheVariants as k
use Rattle.pz_syntax.specs.declared.tokens.TokenKind.TheVariants as kind
use Rattle.pz_syntax.specs.declared.tokens.Mark.{Mark}
use Rattle.pz_syntax.specs.declared.names.Id.{Id}
use Rattle.pz_syntax.specs.Marks.{mark, symbol, keyword, word, selector, each_text}
use Rattle.pz_syntax.specs.Expressions.{literal, variable, me, clock, creation, group, unary, assign, returned as return_of, choice, loop, Expressions, Part, left_out, written}
use Rattle.pz_syntax.specs.ExpressionView.{Tree, list_of as expressions, SendingTree, sendings_of}
use Rattle.pz_syntax.specs.ExpressionText.{text, texts, otherwise_text, sendings_text, arguments_text}
use Rattle.pz_syntax.specs.ExpressionForm.{IsOtherwise, AreArguments, AreSendings, IsSign}
use Rattle.pz_syntax.specs.ExpressionNesting.{otherwise_nesting, sendings_nesting, bracketed_nesting}
use Rattle.pz_syntax.specs.ModelForm.{Each}
use Rattle.pz_parser_cursor.specs.declared.ahead.Next.{Next}
use Rattle.pz_parser_cursor.specs.declared.ahead.Next.TheVariants as n
use Rattle.pz_parser_cursor.specs.devices.LookAhead.{next}
use Rattle.pz_parser_cursor.specs.devices.Input.{Tokens, marks, after, position, identifier, literal as literal_at, sees, selects}
use Rattle.pz_parser_cursor.specs.devices.Device.{Parser, refuse, expect, expect_id, deepen}
use Rattle.pz_parser_cursor.specs.devices.Lists.{list_of}
use Rattle.pz_parser_cursor.proofs.Shown.{token_of}
use Rattle.pz_parser_cursor.proofs.Steps.{bind_ok, takes, sees_is, expected, opened}
use Rattle.pz_parser_cursor.proofs.Words.{word_is, selector_is, literal_is, int_literal_is}
use Rattle.pz_parser_cursor.proofs.Reading.{Took, Sound, ok_took}
use Rattle.pz_parser_cursor.proofs.Joined.{joined_sound, Filled}
use Rattle.pz_parser_cursor.proofs.Each.{each_sound}
use Rattle.pz_parser_cursor.proofs.Optional.{or_none_sound}
use Rattle.pz_parser_cursor.proofs.Named.{word_sound}
use Rattle.pz_parser_expressions.specs.declared.rule.Rule.{Rule}
use Rattle.pz_parser_expressions.specs.declared.rule.Rule.TheVariants as rule
use Rattle.pz_parser_expressions.specs.devices.Rules.{rank}
use Rattle.pz_parser_expressions.specs.devices.Values.{expr, below, by_rule, assignment, returned, named, expression, expression_by, created, tested, otherwise, otherwise_by, exprs_before, enclosed, grouped, conditional, repetition, primary, primary_by, arguments, arguments_by, one_sending, all_sendings, sent, sent_to, signed, operand, operand_by, products, sums, comparisons, conjunctions, values}
use Rattle.pz_parser_expressions.proofs.Texts.{Fits, texts_are, are, nested, body, body_nested}
use Rattle.pz_parser_expressions.proofs.Linked.{chain_sound}

-- brackets with expressions in them
abbrev pub bracketed : Symbol → Symbol → Symbol → List Tree → List Mark
bracketed left separator right ts = symbol left ∷ (texts separator (expressions ts) ++ symbol right ∷ [])

abbrev pub sending_text : SendingTree → List Mark
sending_text x = selector x.0 ∷ arguments_text x.1

pub sendings_are : (xs : List SendingTree) → each_text sending_text xs ≡ sendings_text (sendings_of xs)
sendings_are [] = refl
sendings_are (x ∷ xs) = ap (λ r. selector x.0 ∷ (arguments_text x.1 ++ r)) (sendings_are xs)

module _ (depth : ℕ) where
  abbrev pub SendingFits : SendingTree → Type 0
  SendingFits x = AreArguments x.1 × (bracketed_nesting x.1 < suc depth)

  pub sendings_fit : (xs : List SendingTree) → Each SendingFits xs → AreSendings (sendings_of xs) × (sendings_nesting (sendings_of xs) < suc depth)
  sendings_fit [] h = (tt, omega arith)
  sendings_fit (x ∷ xs) h = let r = sendings_fit xs h.1 in ((h.0.0, r.0), omega (arith, h.0.1, r.1))

  module _ (inner : Rule → Parser Tree) (inner_sound : (r : Rule) → Sound text (inner r) (Fits depth (rank r))) where
    pub exprs_sound : (sep : Next) (x : Symbol) → token_of sep ≡ Some (kind.Sym x) → Sound (λ ts. texts x (expressions ts)) (list_of (inner rule.Expression) sep) (Filled (Fits depth 0))
    exprs_sound sep x shows = record {
      reads = λ i y e.
          let t = (joined_sound text (inner rule.Expression) (Fits depth 0) sep (kind.Sym x) shows (inner_sound rule.Expression)).reads i y e in
          record { parts = t.parts ∙ ap (λ r. r ++ marks y.1) (texts_are x y.0); meets = t.meets };
    }

    pub enclosed_sound : (sep close : Next) (left separator right : Symbol) → token_of sep ≡ Some (kind.Sym separator) → token_of close ≡ Some (kind.Sym right)
        → (i : Tokens) (y : List Tree × Tokens) → token_of (next i) ≡ Some (kind.Sym left) → enclosed depth inner sep close i ≡ Ok y → (0 < depth) × Took (bracketed left separator right) (Each (Fits depth 0)) i y
    unfolding enclosed exprs_before
    enclosed_sound sep close left separator right shows closes i y opens e =
        let a = bind_ok (deepen depth i) _ y e in
        let d = opened depth (kind.Sym left) i a.0 opens a.1 in
        let b = bind_ok (exprs_before inner sep close a.0.1) _ y a.2 in
        let ts = (or_none_sound (λ ts. texts separator (expressions ts)) (λ i. not (sees close i)) (list_of (inner rule.Expression) sep) (Fits depth 0) refl (exprs_sound sep separator shows)).reads a.0.1 b.0 b.1 in
        let c = bind_ok (expect close b.0.1) _ y b.2 in
        let last = expected close (kind.Sym right) b.0.1 c.0 closes c.1 in (
          d.0,
          ok_took (b.0.0, c.0.1) y c.2 (record {
            parts = d.1 ∙ ap (λ r. symbol left ∷ r) (ts.parts ∙ ap (λ r. texts separator (expressions b.0.0) ++ r) last ∙ sym (append_assoc (texts separator (expressions b.0.0)) (symbol right ∷ []) (marks c.0.1)));
            meets = ts.meets;
          }),
        )

    grouped_sound : (i : Tokens) (y : Tree × Tokens) → next i ≡ n.LeftParen → grouped depth inner i ≡ Ok y → Took text (Fits (suc depth) 8) i y
    unfolding grouped
    grouped_sound i y h e =
        let a = bind_ok (deepen depth i) _ y e in
        let d = opened depth (kind.Sym s.LeftParen) i a.0 (ap token_of h) a.1 in
        let b = bind_ok (list_of (inner rule.Expression) n.Semicolon a.0.1) _ y a.2 in
        let ts = (exprs_sound n.Semicolon s.Semicolon refl).reads a.0.1 b.0 b.1 in
        let c = bind_ok (expect n.RightParen b.0.1) _ y b.2 in
        let last = expected n.RightParen (kind.Sym s.RightParen) b.0.1 c.0 refl c.1 in
        ok_took (group (position i) (expressions b.0.0), c.0.1) y c.2 (record {
          parts = d.1 ∙ ap (λ r. symbol s.LeftParen ∷ r) (ts.parts ∙ ap (λ r. texts s.Semicolon (expressions b.0.0) ++ r) last ∙ sym (append_assoc (texts s.Semicolon (expressions b.0.0)) (symbol s.RightParen ∷ []) (marks c.0.1)));
          meets = (body depth b.0.0 ts.meets, omega arith, omega (arith, body_nested depth b.0.0 ts.meets));
        })

    pub test_sound : (x : Next) (w : TokenKind) → token_of x ≡ Some w → Sound (λ t. text t ++ mark w ∷ []) (tested inner x) (Fits depth 1)
    unfolding tested
    test_sound x w shows = record {
      reads = λ i y e.
          let a = bind_ok (inner rule.Value i) _ y e in
          let t = (inner_sound rule.Value).reads i a.0 a.1 in
          let b = bind_ok (expect x a.0.1) _ y a.2 in
          let last = expected x w a.0.1 b.0 shows b.1 in
          ok_took (a.0.0, b.0.1) y b.2 (record { parts = t.parts ∙ ap (λ r. text a.0.0 ++ r) last ∙ sym (append_assoc (text a.0.0) (mark w ∷ []) (marks b.0.1)); meets = t.meets });
    }

    abbrev OtherFits : Part Id Id → Type 0
    OtherFits p = IsOtherwise p × (0 < depth → otherwise_nesting p < depth)

    otherwise_sound : Sound otherwise_text (otherwise inner) OtherFits
    unfolding otherwise
    otherwise_sound = record { reads = λ i y e. at i y (next i) refl e }
      where
        at : (i : Tokens) (y : Part Id Id × Tokens) (x : Next) → next i ≡ x → otherwise_by inner x i ≡ Ok y → Took otherwise_text OtherFits i y
        at i y n.Else h e =
            let b = bind_ok (list_of (inner rule.Expression) n.Semicolon (after i)) _ y e in
            let ts = (exprs_sound n.Semicolon s.Semicolon refl).reads (after i) b.0 b.1 in
            ok_took (written (expressions b.0.0), b.0.1) y b.2 (record {
              parts = takes (kind.Key k.Else) i (ap token_of h) ∙ ap (λ r. keyword k.Else ∷ r) ts.parts;
              meets = (body depth b.0.0 ts.meets, λ lt. body_nested depth b.0.0 ts.meets);
            })
        at i y _ h e = ok_took (left_out, i) y e (record { parts = refl; meets = (tt, λ lt. lt) })

    conditional_sound : (i : Tokens) (y : Tree × Tokens) → next i ≡ n.If → conditional depth inner i ≡ Ok y → Took text (Fits (suc depth) 8) i y
    unfolding conditional
    conditional_sound i y h e =
        let a = bind_ok (deepen depth i) _ y e in
        let d = opened depth (kind.Key k.If) i a.0 (ap token_of h) a.1 in
        let b = bind_ok (tested inner n.Then a.0.1) _ y a.2 in
        let t = (test_sound n.Then (kind.Key k.Then) refl).reads a.0.1 b.0 b.1 in
        let f = bind_ok (list_of (inner rule.Expression) n.Semicolon b.0.1) _ y b.2 in
        let ts = (exprs_sound n.Semicolon s.Semicolon refl).reads b.0.1 f.0 f.1 in
        let o = bind_ok (otherwise inner f.0.1) _ y f.2 in
        let rest = otherwise_sound.reads f.0.1 o.0 o.1 in
        let l = bind_ok (expect n.Fi o.0.1) _ y o.2 in
        let last = expected n.Fi (kind.Key k.Fi) o.0.1 l.0 refl l.1 in
        let lt = d.0 in
        ok_took (choice (position i) b.0.0 (expressions f.0.0) o.0.0, l.0.1) y l.2 (record {
          parts = d.1 ∙ ap (λ r. keyword k.If ∷ r) (t.parts ∙ append_assoc (text b.0.0) (keyword k.Then ∷ []) (marks b.0.1) ∙ ap (λ r. text b.0.0 ++ keyword k.Then ∷ r) (ts.parts ∙ ap (λ r. texts s.Semicolon (expressions f.0.0) ++ r) (rest.parts ∙ ap (λ r. otherwise_text o.0.0 ++ r) last)))
              ∙ fold_choice (position i) b.0.0 (expressions f.0.0) o.0.0 (marks l.0.1);
          meets = ((t.meets.0, t.meets.1, body depth f.0.0 ts.meets, rest.meets.0), omega arith, omega (arith, t.meets.2, body_nested depth f.0.0 ts.meets, rest.meets.1 lt));
        })
      where
        fold_choice : (pos : Pos) (t : Tree) (ts : Expressions Id Id) (o : Part Id Id) (j : List Mark) → keyword k.If ∷ (text t ++ keyword k.Then ∷ (texts s.Semicolon ts ++ (otherwise_text o ++ keyword k.Fi ∷ j))) ≡ text (choice pos t ts o) ++ j
        fold_choice pos t ts o j = sym (ap (λ r. keyword k.If ∷ r) (append_assoc (text t) _ j ∙ ap (λ r. text t ++ keyword k.Then ∷ r) (append_assoc (texts s.Semicolon ts) _ j ∙ ap (λ r. texts s.Semicolon ts ++ r) (append_assoc (otherwise_text o) (keyword k.Fi ∷ []) j))))

    repetition_sound : (i : Tokens) (y : Tree × Tokens) → next i ≡ n.While → repetition depth inner i ≡ Ok y → Took text (Fits (suc depth) 8) i y
    unfolding repetition
    repetition_sound i y h e =
        let a = bind_ok (deepen depth i) _ y e in
        let d = opened depth (kind.Key k.While) i a.0 (ap token_of h) a.1 in
        let b = bind_ok (tested inner n.Do a.0.1) _ y a.2 in
        let t = (test_sound n.Do (kind.Key k.Do) refl).reads a.0.1 b.0 b.1 in
        let f = bind_ok (list_of (inner rule.Expression) n.Semicolon b.0.1) _ y b.2 in
        let ts = (exprs_sound n.Semicolon s.Semicolon refl).reads b.0.1 f.0 f.1 in
        let l = bind_ok (expect n.Od f.0.1) _ y f.2 in
        let last = expected n.Od (kind.Key k.Od) f.0.1 l.0 refl l.1 in
        ok_took (loop (position i) b.0.0 (expressions f.0.0), l.0.1) y l.2 (record {
          parts = d.1 ∙ ap (λ r. keyword k.While ∷ r) (t.parts ∙ append_assoc (text b.0.0) (keyword k.Do ∷ []) (marks b.0.1) ∙ ap (λ r. text b.0.0 ++ keyword k.Do ∷ r) (ts.parts ∙ ap (λ r. texts s.Semicolon (expressions f.0.0) ++ r) last))
              ∙ fold_loop (position i) b.0.0 (expressions f.0.0) (marks l.0.1);
          meets = ((t.meets.0, t.meets.1, body depth f.0.0 ts.meets), omega arith, omega (arith, t.meets.2, body_nested depth f.0.0 ts.meets));
        })
      where
        fold_loop : (pos : Pos) (t : Tree) (ts : Expressions Id Id) (j : List Mark) → keyword k.While ∷ (text t ++ keyword k.Do ∷ (texts s.Semicolon ts ++ keyword k.Od ∷ j)) ≡ text (loop pos t ts) ++ j
        fold_loop pos t ts j = sym (ap (λ r. keyword k.While ∷ r) (append_assoc (text t) _ j ∙ ap (λ r. text t ++ keyword k.Do ∷ r) (append_assoc (texts s.Semicolon ts) (keyword k.Od ∷ []) j)))

    created_sound : (i : Tokens) (y : Tree × Tokens) → next i ≡ n.New → created i ≡ Ok y → Took text (Fits (suc depth) 8) i y
    unfolding created
    created_sound i y h e =
        let a = bind_ok (expect n.LeftParen (after i)) _ y e in
        let left = expected n.LeftParen (kind.Sym s.LeftParen) (after i) a.0 refl a.1 in
        let b = bind_ok (expect_id n.Word a.0.1) _ y a.2 in
        let class = word_sound.reads a.0.1 b.0 b.1 in
        let c = bind_ok (expect n.RightParen b.0.1) _ y b.2 in
        let right = expected n.RightParen (kind.Sym s.RightParen) b.0.1 c.0 refl c.1 in
        ok_took (creation (position i) b.0.0, c.0.1) y c.2 (record {
          parts = takes (kind.Key k.New) i (ap token_of h) ∙ ap (λ r. keyword k.New ∷ r) (left ∙ ap (λ r. symbol s.LeftParen ∷ r) (class.parts ∙ ap (λ r. word b.0.0 ∷ r) right));
          meets = (tt, omega arith, omega arith);
        })

    primary_at : (i : Tokens) (y : Tree × Tokens) (x : Next) → next i ≡ x → primary_by depth inner x i ≡ Ok y → Took text (Fits (suc depth) 8) i y
    primary_at i y n.Int h e = ok_took (literal (position i) (literal_at i), after i) y e (record { parts = int_literal_is i h; meets = (tt, omega arith, omega arith) })
    primary_at i y n.Literal h e = ok_took (literal (position i) (literal_at i), after i) y e (record { parts = literal_is i h; meets = (tt, omega arith, omega arith) })
    primary_at i y n.Word h e = ok_took (variable (identifier i).pos (identifier i), after i) y e (record { parts = word_is i h; meets = (tt, omega arith, omega arith) })
    primary_at i y n.Me h e = ok_took (me (position i), after i) y e (record { parts = takes (kind.Key k.Me) i (ap token_of h); meets = (tt, omega arith, omega arith) })
    primary_at i y n.CurrentTime h e = ok_took (clock (position i), after i) y e (record { parts = takes (kind.Key k.CurrentTime) i (ap token_of h); meets = (tt, omega arith, omega arith) })
    primary_at i y n.New h e = created_sound i y h e
    primary_at i y n.LeftParen h e = grouped_sound i y h e
    primary_at i y n.If h e = conditional_sound i y h e
    primary_at i y n.While h e = repetition_sound i y h e
    primary_at i y _ h e = absurd cc

    primary_sound : Sound text (primary depth inner) (Fits (suc depth) 8)
    unfolding primary
    primary_sound = record { reads = λ i y e. primary_at i y (next i) refl e }

    pub arguments_sound : Sound arguments_text (arguments depth inner) (λ p. AreArguments p × (bracketed_nesting p < suc depth))
    unfolding arguments
    arguments_sound = record { reads = λ i y e. at i y (next i) refl e }
      where
        at : (i : Tokens) (y : Part Id Id × Tokens) (x : Next) → next i ≡ x → arguments_by depth inner x i ≡ Ok y → Took arguments_text (λ p. AreArguments p × (bracketed_nesting p < suc depth)) i y
        at i y n.LeftParen h e =
            let b = bind_ok (enclosed depth inner n.Comma n.RightParen i) _ y e in
            let ts = enclosed_sound n.Comma n.RightParen s.LeftParen s.Comma s.RightParen refl refl i b.0 (ap token_of h) b.1 in
            ok_took (written (expressions b.0.0), b.0.1) y b.2 (record {
              parts = ts.1.parts;
              meets = (are depth b.0.0 ts.1.meets, omega (arith, nested depth b.0.0 ts.0 ts.1.meets));
            })
        at i y _ h e = ok_took (left_out, i) y e (record { parts = refl; meets = (tt, omega arith) })

    sending_sound : (i : Tokens) (y : SendingTree × Tokens) → selects i ≡ true → one_sending depth inner i ≡ Ok y → Took sending_text SendingFits i y
    unfolding one_sending
    sending_sound i y h e =
        let a = bind_ok (arguments depth inner (after i)) _ y e in
        let args = arguments_sound.reads (after i) a.0 a.1 in
        ok_took ((identifier i, a.0.0), a.0.1) y a.2 (record { parts = selector_is i h ∙ ap (λ r. selector (identifier i) ∷ r) args.parts; meets = args.meets })

    sent_to_sound : Sound text (sent_to depth inner) (Fits (suc depth) 7)
    unfolding sent_to all_sendings
    sent_to_sound = record {
      reads = λ i y e.
          let a = bind_ok (primary depth inner i) _ y e in
          let first = primary_sound.reads i a.0 a.1 in
          let b = bind_ok (all_sendings depth inner a.0.1) _ y a.2 in
          let rest = (each_sound sending_text selects (one_sending depth inner) SendingFits sending_sound).reads a.0.1 b.0 b.1 in
          ok_took (sent (position i) a.0.0 b.0.0, b.0.1) y b.2 (whole (position i) a.0.0 b.0.0 b.0.1 i a.0.1 first.parts first.meets (rest.parts ∙ ap (λ r. r ++ marks b.0.1) (sendings_are b.0.0)) (sendings_fit b.0.0 rest.meets));
    }
      where
        whole : (pos : Pos) (t : Tree) (xs : List SendingTree) (j i k : Tokens) → marks i ≡ text t ++ marks k → Fits (suc depth) 8 t → marks k ≡ sendings_text (sendings_of xs) ++ marks j → AreSendings (sendings_of xs) × (sendings_nesting (sendings_of xs) < suc depth) → Took text (Fits (suc depth) 7) i (sent pos t xs, j)
        whole pos t [] j i k p m q f = record { parts = p ∙ ap (λ x. text t ++ x) q; meets = (m.0, omega (arith, m.1), m.2) }
        whole pos t (x ∷ xs) j i k p m q f = record {
          parts = p ∙ ap (λ x. text t ++ x) q ∙ sym (append_assoc (text t) (sendings_text (sendings_of (x ∷ xs))) (marks j));
          meets = ((m.0, m.1, f.0), omega arith, omega (arith, m.2, f.1));
        }

    signed_sound : (x : Next) (op : Symbol) → token_of x ≡ Some (kind.Sym op) → IsSign op → (i : Tokens) (y : Tree × Tokens) → next i ≡ x → signed depth inner op i ≡ Ok y → Took text (Fits (suc depth) 6) i y
    unfolding signed
    signed_sound x op shows sign i y h e =
        let a = bind_ok (deepen depth i) _ y e in
        let d = opened depth (kind.Sym op) i a.0 (ap token_of h ∙ shows) a.1 in
        let b = bind_ok (inner rule.Operand a.0.1) _ y a.2 in
        let t = (inner_sound rule.Operand).reads a.0.1 b.0 b.1 in
        ok_took (unary (position i) op b.0.0, b.0.1) y b.2 (record { parts = d.1 ∙ ap (λ r. symbol op ∷ r) t.parts; meets = ((sign, t.meets.0, t.meets.1), omega arith, omega (arith, t.meets.2)) })

    operand_sound : Sound text (operand depth inner) (Fits (suc depth) 6)
    unfolding operand
    operand_sound = record { reads = λ i y e. at i y (next i) refl e }
      where
        at : (i : Tokens) (y : Tree × Tokens) (x : Next) → next i ≡ x → operand_by depth inner x i ≡ Ok y → Took text (Fits (suc depth) 6) i y
        at i y n.Minus h e = signed_sound n.Minus s.Minus refl tt i y h e
        at i y n.Bang h e = signed_sound n.Bang s.Bang refl tt i y h e
        at i y _ h e = let t = sent_to_sound.reads i y e in record { parts = t.parts; meets = (t.meets.0, omega (arith, t.meets.1), t.meets.2) }

    products_sound : Sound text (products depth inner) (Fits (suc depth) 5)
    products_sound = chain_sound (suc depth) (omega arith) rule.Product (operand depth inner) operand_sound (omega arith)

    sums_sound : Sound text (sums depth inner) (Fits (suc depth) 4)
    sums_sound = chain_sound (suc depth) (omega arith) rule.Sum (products depth inner) products_sound (omega arith)

    comparisons_sound : Sound text (comparisons depth inner) (Fits (suc depth) 3)
    comparisons_sound = chain_sound (suc depth) (omega arith) rule.Comparison (sums depth inner) sums_sound (omega arith)

    conjunctions_sound : Sound text (conjunctions depth inner) (Fits (suc depth) 2)
    conjunctions_sound = chain_sound (suc depth) (omega arith) rule.Conjunction (comparisons depth inner) comparisons_sound (omega arith)

    values_sound : Sound text (values depth inner) (Fits (suc depth) 1)
    values_sound = chain_sound (suc depth) (omega arith) rule.Value (conjunctions depth inner) conjunctions_sound (omega arith)

    value_expression : (i : Tokens) (y : Tree × Tokens) → values depth inner i ≡ Ok y → Took text (Fits (suc depth) 0) i y
    value_expression i y e = let t = values_sound.reads i y e in record { parts = t.parts; meets = (t.meets.0, omega arith, t.meets.2) }

    assignment_sound : (i : Tokens) (y : Tree × Tokens) → next i ≡ n.Word → next (after i) ≡ n.Assign → assignment (values depth inner) i ≡ Ok y → Took text (Fits (suc depth) 0) i y
    unfolding assignment
    assignment_sound i y h g e =
        let a = bind_ok (values depth inner (after (after i))) _ y e in
        let t = values_sound.reads (after (after i)) a.0 a.1 in
        ok_took (assign (position i) (identifier i) a.0.0, a.0.1) y a.2 (record { parts = word_is i h ∙ ap (λ r. word (identifier i) ∷ r) (takes (kind.Sym s.Assign) (after i) (ap token_of g) ∙ ap (λ r. symbol s.Assign ∷ r) t.parts); meets = ((t.meets.0, t.meets.1), omega arith, t.meets.2) })

    returned_sound : (i : Tokens) (y : Tree × Tokens) → next i ≡ n.Return → returned (values depth inner) i ≡ Ok y → Took text (Fits (suc depth) 0) i y
    unfolding returned
    returned_sound i y h e =
        let a = bind_ok (values depth inner (after i)) _ y e in
        let t = values_sound.reads (after i) a.0 a.1 in
        ok_took (return_of (position i) a.0.0, a.0.1) y a.2 (record { parts = takes (kind.Key k.Return) i (ap token_of h) ∙ ap (λ r. keyword k.Return ∷ r) t.parts; meets = ((t.meets.0, t.meets.1), omega arith, t.meets.2) })

    named_sound : (i : Tokens) (y : Tree × Tokens) → next i ≡ n.Word → named (values depth inner) i ≡ Ok y → Took text (Fits (suc depth) 0) i y
    unfolding named
    named_sound i y h e = by (sees n.Assign (after i)) refl e
      where
        by : (b : Bool) → sees n.Assign (after i) ≡ b → cond b (assignment (values depth inner) i) (values depth inner i) ≡ Ok y → Took text (Fits (suc depth) 0) i y
        by true g e = assignment_sound i y h (sees_is n.Assign (after i) g) e
        by false g e = value_expression i y e

    expression_sound : Sound text (expression (values depth inner)) (Fits (suc depth) 0)
    unfolding expression
    expression_sound = record { reads = λ i y e. at i y (next i) refl e }
      where
        at : (i : Tokens) (y : Tree × Tokens) (x : Next) → next i ≡ x → expression_by (values depth inner) x i ≡ Ok y → Took text (Fits (suc depth) 0) i y
        at i y n.Return h e = returned_sound i y h e
        at i y n.Word h e = named_sound i y h e
        at i y _ h e = value_expression i y e

    pub by_rule_sound : (r : Rule) → Sound text (by_rule depth inner r) (Fits (suc depth) (rank r))
    by_rule_sound rule.Expression = expression_sound
    by_rule_sound rule.Value = values_sound
    by_rule_sound rule.Conjunction = conjunctions_sound
    by_rule_sound rule.Comparison = comparisons_sound
    by_rule_sound rule.Sum = sums_sound
    by_rule_sound rule.Product = products_sound
    by_rule_sound rule.Operand = operand_sound

-- What a rule reads is the text of an expression that the grammar has, of at most this nesting.
pub expr_sound : (d : ℕ) (r : Rule) → Sound text (expr d r) (Fits (suc d) (rank r))
unfolding expr
expr_sound zero r = by_rule_sound zero (λ _. refuse) (λ r. record { reads = λ i y e. absurd cc }) r
expr_sound (suc d) r = by_rule_sound (suc d) (expr d) (expr_sound d) r

-- the same one construct further in
pub below_sound : (d : ℕ) (r : Rule) → Sound text (below d r) (Fits d (rank r))
below_sound zero r = record { reads = λ i y e. absurd cc }
below_sound (suc d) r = expr_sound d r
