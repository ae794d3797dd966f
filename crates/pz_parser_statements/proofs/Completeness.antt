-- Each statement that the grammar has, within the nesting, is read from its text, with the places of
-- the tokens, before what does not go on with it.
use Rattle.std.proofs.Common.{◌≡◌, ◌≢◌, ℕ, zero, suc, ◌+◌, ◌<◌, true, [], ◌∷◌, ◌++◌, length, Ok, refl, ap, ◌∙◌, arith}
use Rattle.pz_syntax.specs.declared.tokens.Pos.{Pos}
use Rattle.pz_syntax.specs.declared.tokens.Symbol.TheVariants as s
use Rattle.pz_syntax.specs.declared.tokens.Keyword.{Keyword}
use Rattle.pz_syntax.specs.declared.tokens.Keyword.TheVariants as k
use Rattle.pz_syntax.specs.declared.tokens.TokenKind.TheVariants as kind
use Rattle.pz_syntax.specs.declared.names.Id.{Id}
use Rattle.pz_syntax.specs.Marks.{symbol, keyword}
use Rattle.pz_syntax.specs.Expressions.{Expression, Expressions}
use Rattle.pz_syntax.specs.ExpressionText as expression_text
use Rattle.pz_syntax.specs.ExpressionForm.{AreExpressions}
use Rattle.pz_syntax.specs.ExpressionNesting as expression_nesting
use Rattle.pz_syntax.specs.Statements.{skip, delay, bracketed as brackets, block as block_of, guarded as guard, parallel as par, select, conditional as choice, repeated as loop, abort, interrupt, send, receive, call, assignment, value, Statements, StatementPart, not_written, otherwise as written_else, Branches}
use Rattle.pz_syntax.specs.StatementView.{Tree, sequence_of}
use Rattle.pz_syntax.specs.StatementText.{text, texts, otherwise_text, branches_text}
use Rattle.pz_syntax.specs.StatementForm.{MayBeginStatement, AreStatements, IsOtherwise, AreBranches}
use Rattle.pz_syntax.specs.StatementNesting.{nestings, otherwise_nesting, branches_nesting}
use Rattle.pz_parser_cursor.specs.declared.ahead.Next.{Next}
use Rattle.pz_parser_cursor.specs.declared.ahead.Next.TheVariants as n
use Rattle.pz_parser_cursor.specs.devices.LookAhead.{next, same}
use Rattle.pz_parser_cursor.specs.devices.Input.{Tokens, after, position, identifier, name, sees}
use Rattle.pz_parser_cursor.specs.devices.Device.{Parser, refuse}
use Rattle.pz_parser_cursor.specs.devices.Lists.{list_of}
use Rattle.pz_parser_cursor.specs.Places.{located}
use Rattle.pz_parser_cursor.proofs.Steps.{deepen_is, expect_is, not_seen}
use Rattle.pz_parser_cursor.proofs.Reading.{Complete, split_located}
use Rattle.pz_parser_cursor.proofs.Joined.{joined_complete, Filled, token}
use Rattle.pz_parser_expressions.specs.declared.rule.Rule.TheVariants as rule
use Rattle.pz_parser_expressions.specs.devices.Values.{below, tested}
use Rattle.pz_parser_expressions.specs.ExpressionPlaces as expression_places
use Rattle.pz_parser_expressions.proofs.Texts.{stands, list_back as expressions_back}
use Rattle.pz_parser_expressions.proofs.Texts as value_texts
use Rattle.pz_parser_expressions.proofs.Operators.{binding}
use Rattle.pz_parser_expressions.proofs.Firsts.{no_second}
use Rattle.pz_parser_expressions.proofs.Completeness.{semicolon_is, semicolon_seen, unbound, block_given, expr_complete, below_complete}
use Rattle.pz_parser_statements.specs.devices.Statements.{delayed, block, assigned, valued, worded, sequence, bracketed, guarded, branched, parallel, selection, otherwise_by, otherwise, conditional, repeated, handled, aborted, interrupted, statement_by, statement, stmt, stmts}
use Rattle.pz_parser_statements.specs.StatementPlaces.{place, place_all, place_otherwise, place_branches}
use Rattle.pz_parser_statements.proofs.Lists.{Fits, to_list, list_back, texts_of, places_are, sequence_text, place_sequence, to_lists, lists_back, branches_texts, branch_places, are, nested, filled_of, filled_of_branches}
use Rattle.pz_parser_statements.proofs.Ends.{EndsStatement, EndsBody, ends_body, semicolon_ends, and_is, and_seen, or_is, or_seen}
use Rattle.pz_parser_statements.proofs.Beginnings.{begins_value, value_begins}
use Rattle.pz_parser_statements.proofs.MessagesGiven.{sent_given, received_given, called_given}
use Rattle.pz_parser_statements.proofs.Readings.{BodyFits}

-- a body, where its statements are read so
sequence_given : (bound : ℕ) (item : Parser Tree) → Complete text place item (Fits bound) EndsStatement → (at : ℕ → Pos) (m : ℕ) (ts : Statements Id Id Id) (j : Tokens) → AreStatements ts → nestings ts < bound → EndsBody (next j) → list_of item n.Semicolon (located at m (texts ts) ++ j) ≡ Ok (to_list (place_all at m ts), j)
sequence_given bound item c at m ts j h lt stop =
    ap (λ r. list_of item n.Semicolon (located at m r ++ j)) (texts_of ts)
    ∙ (joined_complete text place item (Fits bound) n.Semicolon (kind.Sym s.Semicolon) EndsStatement semicolon_ends semicolon_is semicolon_seen c).gives at m (to_list ts) j (filled_of bound ts h lt) stop
    ∙ ap (λ l. Ok (l, j)) (places_are at m ts)

otherwise_default : (depth : ℕ) (inner : Parser Tree) (x : Next) (j : Tokens) → x ≢ n.Else → otherwise_by depth inner x j ≡ Ok (not_written, j)
otherwise_default depth inner n.Else j h = absurd (h refl)
otherwise_default depth inner _ j h = refl

module _ (depth : ℕ) where
  delayed_given : (at : ℕ → Pos) (m : ℕ) (pos : Pos) (e : Expression Id Id) (j : Tokens) → value_texts.Fits (suc depth) 1 e → binding (next j) < 1 → delayed depth (located at m (text (delay pos e)) ++ j) ≡ Ok (place at m (delay pos e), j)
  unfolding delayed after position
  delayed_given at m pos e j f stop = rw ((expr_complete depth rule.Value).gives at (suc m) e j f stop) refl

  block_read : (at : ℕ → Pos) (m : ℕ) (pos : Pos) (es : Expressions Id Id) (j : Tokens) → AreExpressions es → expression_nesting.nestings es < depth → block depth (located at m (text (block_of pos es)) ++ j) ≡ Ok (place at m (block_of pos es), j)
  unfolding block position
  block_read at m pos es j h lt = rw (block_given depth (below depth) (below_complete depth) at m es j h lt, expressions_back (expression_places.place_all at (suc m) es)) refl

  assigned_given : (at : ℕ → Pos) (m : ℕ) (pos : Pos) (x : Id) (e : Expression Id Id) (j : Tokens) → value_texts.Fits (suc depth) 1 e → binding (next j) < 1 → assigned depth (located at m (text (assignment pos x e)) ++ j) ≡ Ok (place at m (assignment pos x e), j)
  unfolding assigned after position identifier name
  assigned_given at m pos x e j f stop = rw ((expr_complete depth rule.Value).gives at (suc (suc m)) e j f stop) refl

  valued_given : (at : ℕ → Pos) (m : ℕ) (pos : Pos) (e : Expression Id Id) (j : Tokens) → value_texts.Fits (suc depth) 1 e → binding (next j) < 1 → valued depth (located at m (text (value pos e)) ++ j) ≡ Ok (place at m (value pos e), j)
  unfolding valued
  valued_given at m pos e j f stop = rw (stands at m e j, (expr_complete depth rule.Value).gives at m e j f stop) refl

  -- ---- over the statements one construct further in

  module _ (inner : Parser Tree) (inner_complete : Complete text place inner (Fits depth) EndsStatement) where
    body_given : (at : ℕ → Pos) (m : ℕ) (ts : Statements Id Id Id) (j : Tokens) → AreStatements ts → nestings ts < depth → EndsBody (next j) → sequence depth inner (located at m (texts ts) ++ j) ≡ Ok (to_list (place_all at m ts), j)
    body_given = sequence_given depth inner inner_complete

    bracketed_given : (at : ℕ → Pos) (m : ℕ) (pos : Pos) (ts : Statements Id Id Id) (j : Tokens) → AreStatements ts → nestings ts < depth → bracketed depth inner (located at m (text (brackets pos ts)) ++ j) ≡ Ok (place at m (brackets pos ts), j)
    unfolding bracketed next after position sees same
    bracketed_given at m pos ts j h lt =
        let r = token (kind.Sym s.RightParen) (at (suc m + length (texts ts))) ∷ j in
        rw (
          deepen_is depth (located at m (text (brackets pos ts)) ++ j) (omega (arith, lt)),
          split_located at (suc m) (texts ts) (symbol s.RightParen ∷ []) j,
          body_given at (suc m) ts r h lt (ends_body n.RightParen refl),
          expect_is n.RightParen r refl,
          list_back (place_all at (suc m) ts),
        ) refl

    guarded_given : (at : ℕ → Pos) (m : ℕ) (pos : Pos) (e : Expression Id Id) (t : Tree) (j : Tokens) → value_texts.Fits depth 1 e → Fits depth t → EndsStatement (next j) → guarded depth inner (located at m (text (guard pos e t)) ++ j) ≡ Ok (place at m (guard pos e t), j)
    unfolding guarded tested next after position sees same
    guarded_given at m pos e t j f g stop =
        let a = suc m + length (expression_text.text e) in
        let right = token (kind.Sym s.RightBracket) (at a) ∷ (located at (suc a) (text t) ++ j) in
        rw (
          deepen_is depth (located at m (text (guard pos e t)) ++ j) (omega (arith, g.1)),
          split_located at (suc m) (expression_text.text e) (symbol s.RightBracket ∷ text t) j,
          (below_complete depth rule.Value).gives at (suc m) e right f (omega arith),
          expect_is n.RightBracket right refl,
          inner_complete.gives at (suc a) t j g stop,
        ) refl

    -- ---- branches

    sequence_complete : Complete sequence_text place_sequence (sequence depth inner) (Filled (Fits depth)) EndsBody
    sequence_complete = record { gives = λ at m xs j p stop. body_given at m (sequence_of xs) j (are depth xs p) (nested depth xs p) stop }

    branches_given : (sep : Next) (word : Keyword) → EndsBody sep → ((p : Pos) (i : Tokens) → next (token (kind.Key word) p ∷ i) ≡ sep) → ((p : Pos) (i : Tokens) → sees sep (token (kind.Key word) p ∷ i) ≡ true)
        → (at : ℕ → Pos) (m : ℕ) (bs : Branches Id Id Id) (j : Tokens) → AreBranches bs → branches_nesting bs < depth → EndsBody (next j) → next j ≢ sep → list_of (sequence depth inner) sep (located at m (branches_text word bs) ++ j) ≡ Ok (to_lists (place_branches at m bs), j)
    branches_given sep word ends is_sep sees_sep at m bs j h lt stop ne =
        ap (λ r. list_of (sequence depth inner) sep (located at m r ++ j)) (branches_texts word bs)
        ∙ (joined_complete sequence_text place_sequence (sequence depth inner) (Filled (Fits depth)) sep (kind.Key word) EndsBody ends is_sep sees_sep sequence_complete).gives at m (to_lists bs) j (filled_of_branches depth bs h lt) (stop, ne)
        ∙ ap (λ l. Ok (l, j)) (branch_places at m bs)

    parallel_given : (at : ℕ → Pos) (m : ℕ) (pos : Pos) (bs : Branches Id Id Id) (j : Tokens) → AreBranches bs → branches_nesting bs < depth → parallel depth inner (located at m (text (par pos bs)) ++ j) ≡ Ok (place at m (par pos bs), j)
    unfolding parallel branched next after position sees same
    parallel_given at m pos bs j h lt =
        let r = token (kind.Key k.Rap) (at (suc m + length (branches_text k.And bs))) ∷ j in
        rw (
          deepen_is depth (located at m (text (par pos bs)) ++ j) (omega (arith, lt)),
          split_located at (suc m) (branches_text k.And bs) (keyword k.Rap ∷ []) j,
          branches_given n.And k.And (ends_body n.And refl) and_is and_seen at (suc m) bs r h lt (ends_body n.Rap refl) (λ e. absurd cc),
          expect_is n.Rap r refl,
          lists_back (place_branches at (suc m) bs),
        ) refl

    selection_given : (at : ℕ → Pos) (m : ℕ) (pos : Pos) (bs : Branches Id Id Id) (j : Tokens) → AreBranches bs → branches_nesting bs < depth → selection depth inner (located at m (text (select pos bs)) ++ j) ≡ Ok (place at m (select pos bs), j)
    unfolding selection branched next after position sees same
    selection_given at m pos bs j h lt =
        let r = token (kind.Key k.Les) (at (suc m + length (branches_text k.Or bs))) ∷ j in
        rw (
          deepen_is depth (located at m (text (select pos bs)) ++ j) (omega (arith, lt)),
          split_located at (suc m) (branches_text k.Or bs) (keyword k.Les ∷ []) j,
          branches_given n.Or k.Or (ends_body n.Or refl) or_is or_seen at (suc m) bs r h lt (ends_body n.Les refl) (λ e. absurd cc),
          expect_is n.Les r refl,
          lists_back (place_branches at (suc m) bs),
        ) refl

    -- ---- choices and loops

    -- the part behind `else`, before `fi`
    otherwise_given : (at : ℕ → Pos) (m : ℕ) (o : StatementPart Id Id Id) (p : Pos) (j : Tokens) → IsOtherwise o → otherwise_nesting o < depth → otherwise depth inner (located at m (otherwise_text o) ++ token (kind.Key k.Fi) p ∷ j) ≡ Ok (place_otherwise at m o, token (kind.Key k.Fi) p ∷ j)
    unfolding otherwise next after sees same
    otherwise_given at m not_written p j h lt = refl
    otherwise_given at m (written_else ts) p j h lt = rw (body_given at (suc m) ts (token (kind.Key k.Fi) p ∷ j) h lt (ends_body n.Fi refl), list_back (place_all at (suc m) ts)) refl

    other_ends : (at : ℕ → Pos) (m : ℕ) (o : StatementPart Id Id Id) (p : Pos) (j : Tokens) → EndsBody (next (located at m (otherwise_text o) ++ token (kind.Key k.Fi) p ∷ j))
    unfolding next
    other_ends at m not_written p j = ends_body n.Fi refl
    other_ends at m (written_else ts) p j = ends_body n.Else refl

    conditional_given : (at : ℕ → Pos) (m : ℕ) (pos : Pos) (e : Expression Id Id) (ts : Statements Id Id Id) (o : StatementPart Id Id Id) (j : Tokens) → value_texts.Fits depth 1 e → AreStatements ts → nestings ts < depth → IsOtherwise o → otherwise_nesting o < depth → conditional depth inner (located at m (text (choice pos e ts o)) ++ j) ≡ Ok (place at m (choice pos e ts o), j)
    unfolding conditional tested next after position sees same
    conditional_given at m pos e ts o j f body lt h ne =
        let a = suc m + length (expression_text.text e) in
        let b = suc a + length (texts ts) in
        let c = b + length (otherwise_text o) in
        let fi = token (kind.Key k.Fi) (at c) ∷ j in
        let other = located at b (otherwise_text o) ++ fi in
        let then = token (kind.Key k.Then) (at a) ∷ (located at (suc a) (texts ts) ++ other) in
        rw (
          deepen_is depth (located at m (text (choice pos e ts o)) ++ j) (omega (arith, lt)),
          split_located at (suc m) (expression_text.text e) (keyword k.Then ∷ (texts ts ++ (otherwise_text o ++ keyword k.Fi ∷ []))) j,
          split_located at (suc a) (texts ts) (otherwise_text o ++ keyword k.Fi ∷ []) j,
          split_located at b (otherwise_text o) (keyword k.Fi ∷ []) j,
          (below_complete depth rule.Value).gives at (suc m) e then f (omega arith),
          expect_is n.Then then refl,
          body_given at (suc a) ts other body lt (other_ends at b o (at c) j),
          otherwise_given at b o (at c) j h ne,
          expect_is n.Fi fi refl,
          list_back (place_all at (suc a) ts),
        ) refl

    repeated_given : (at : ℕ → Pos) (m : ℕ) (pos : Pos) (e : Expression Id Id) (ts : Statements Id Id Id) (j : Tokens) → value_texts.Fits depth 1 e → AreStatements ts → nestings ts < depth → repeated depth inner (located at m (text (loop pos e ts)) ++ j) ≡ Ok (place at m (loop pos e ts), j)
    unfolding repeated tested next after position sees same
    repeated_given at m pos e ts j f body lt =
        let a = suc m + length (expression_text.text e) in
        let b = suc a + length (texts ts) in
        let od = token (kind.Key k.Od) (at b) ∷ j in
        let do_ = token (kind.Key k.Do) (at a) ∷ (located at (suc a) (texts ts) ++ od) in
        rw (
          deepen_is depth (located at m (text (loop pos e ts)) ++ j) (omega (arith, lt)),
          split_located at (suc m) (expression_text.text e) (keyword k.Do ∷ (texts ts ++ keyword k.Od ∷ [])) j,
          split_located at (suc a) (texts ts) (keyword k.Od ∷ []) j,
          (below_complete depth rule.Value).gives at (suc m) e do_ f (omega arith),
          expect_is n.Do do_ refl,
          body_given at (suc a) ts od body lt (ends_body n.Od refl),
          expect_is n.Od od refl,
          list_back (place_all at (suc a) ts),
        ) refl

    -- ---- `abort` and `interrupt`

    aborted_given : (at : ℕ → Pos) (m : ℕ) (pos : Pos) (ts : Statements Id Id Id) (t : Tree) (j : Tokens) → AreStatements ts → nestings ts < depth → Fits depth t → EndsStatement (next j) → aborted depth inner (located at m (text (abort pos ts t)) ++ j) ≡ Ok (place at m (abort pos ts t), j)
    unfolding aborted handled next after position sees same
    aborted_given at m pos ts t j h lt f stop =
        let a = suc m + length (texts ts) in
        let with_ = token (kind.Key k.With) (at a) ∷ (located at (suc a) (text t) ++ j) in
        rw (
          deepen_is depth (located at m (text (abort pos ts t)) ++ j) (omega (arith, lt)),
          split_located at (suc m) (texts ts) (keyword k.With ∷ text t) j,
          body_given at (suc m) ts with_ h lt (ends_body n.With refl),
          expect_is n.With with_ refl,
          inner_complete.gives at (suc a) t j f stop,
          list_back (place_all at (suc m) ts),
        ) refl

    interrupted_given : (at : ℕ → Pos) (m : ℕ) (pos : Pos) (ts : Statements Id Id Id) (t : Tree) (j : Tokens) → AreStatements ts → nestings ts < depth → Fits depth t → EndsStatement (next j) → interrupted depth inner (located at m (text (interrupt pos ts t)) ++ j) ≡ Ok (place at m (interrupt pos ts t), j)
    unfolding interrupted handled next after position sees same
    interrupted_given at m pos ts t j h lt f stop =
        let a = suc m + length (texts ts) in
        let with_ = token (kind.Key k.With) (at a) ∷ (located at (suc a) (text t) ++ j) in
        rw (
          deepen_is depth (located at m (text (interrupt pos ts t)) ++ j) (omega (arith, lt)),
          split_located at (suc m) (texts ts) (keyword k.With ∷ text t) j,
          body_given at (suc m) ts with_ h lt (ends_body n.With refl),
          expect_is n.With with_ refl,
          inner_complete.gives at (suc a) t j f stop,
          list_back (place_all at (suc m) ts),
        ) refl

    -- ---- values

    value_by : (i : Tokens) (x : Next) → begins_value x ≡ true → (x ≡ n.Word → (next (after i) ≢ n.Bang) × (next (after i) ≢ n.Query) × (next (after i) ≢ n.Assign)) → statement_by depth inner x i ≡ valued depth i
    unfolding worded
    value_by i n.Word e h = let g = h refl in rw (not_seen n.Bang (after i) g.0, not_seen n.Query (after i) g.1, not_seen n.Assign (after i) g.2) refl
    value_by i n.Int e h = refl
    value_by i n.Literal e h = refl
    value_by i n.New e h = refl
    value_by i n.CurrentTime e h = refl
    value_by i _ e h = absurd cc

    value_given : (at : ℕ → Pos) (m : ℕ) (pos : Pos) (e : Expression Id Id) (j : Tokens) → value_texts.Fits (suc depth) 1 e → MayBeginStatement e → EndsStatement (next j) → statement depth inner (located at m (text (value pos e)) ++ j) ≡ Ok (place at m (value pos e), j)
    unfolding statement
    value_given at m pos e j f may stop =
        let i = located at m (expression_text.text e) ++ j in
        value_by i (next i) (value_begins at m e j f.0 may) (λ w. (
          no_second n.Bang (λ b. refl) (λ l a b q. absurd (omega (arith, a, q))) at m e j f.0 f.1 stop.1 w,
          no_second n.Query (λ b. refl) (λ l a b q. absurd (omega (arith, a, q))) at m e j f.0 f.1 stop.2 w,
          no_second n.Assign (λ b. refl) (λ l a b q. absurd (omega (arith, b, q))) at m e j f.0 f.1 (unbound (next j) n.Assign 1 stop.0 (omega arith)) w,
        ))
        ∙ valued_given at m pos e j f stop.0

    statement_given : (at : ℕ → Pos) (m : ℕ) (t : Tree) (j : Tokens) → Fits (suc depth) t → EndsStatement (next j) → statement depth inner (located at m (text t) ++ j) ≡ Ok (place at m t, j)
    unfolding statement worded next after position sees same
    statement_given at m (skip pos) j f stop = refl
    statement_given at m (delay pos e) j f stop = delayed_given at m pos e j (f.0.0, f.0.1, f.1) stop.0
    statement_given at m (brackets pos ts) j f stop = bracketed_given at m pos ts j f.0 (omega (arith, f.1))
    statement_given at m (block_of pos es) j f stop = block_read at m pos es j f.0 (omega (arith, f.1))
    statement_given at m (guard pos e t) j f stop = guarded_given at m pos e t j (f.0.0.0, f.0.0.1, omega (arith, f.1)) (f.0.1, omega (arith, f.1)) stop
    statement_given at m (par pos bs) j f stop = parallel_given at m pos bs j f.0 (omega (arith, f.1))
    statement_given at m (select pos bs) j f stop = selection_given at m pos bs j f.0 (omega (arith, f.1))
    statement_given at m (choice pos e ts o) j f stop = conditional_given at m pos e ts o j (f.0.0.0, f.0.0.1, omega (arith, f.1)) f.0.1 (omega (arith, f.1)) f.0.2 (omega (arith, f.1))
    statement_given at m (loop pos e ts) j f stop = repeated_given at m pos e ts j (f.0.0.0, f.0.0.1, omega (arith, f.1)) f.0.1 (omega (arith, f.1))
    statement_given at m (abort pos ts t) j f stop = aborted_given at m pos ts t j f.0.0 (omega (arith, f.1)) (f.0.1, omega (arith, f.1)) stop
    statement_given at m (interrupt pos ts t) j f stop = interrupted_given at m pos ts t j f.0.0 (omega (arith, f.1)) (f.0.1, omega (arith, f.1)) stop
    statement_given at m (send pos port message args block) j f stop = sent_given depth at m pos port message args block j f.0.0 f.0.1 (omega (arith, f.1)) (omega (arith, f.1)) (unbound (next j) n.LeftParen 1 stop.0 (omega arith)) stop.3
    statement_given at m (receive pos port message into c block) j f stop = received_given depth at m pos port message into c block j f.0.0 f.0.1 (omega (arith, f.1)) (omega (arith, f.1)) (unbound (next j) n.LeftParen 1 stop.0 (omega arith)) stop.3
    statement_given at m (call pos method args results) j f stop = called_given depth at m pos method args results j f.0 (omega (arith, f.1))
    statement_given at m (assignment pos x e) j f stop = assigned_given at m pos x e j (f.0.0, f.0.1, f.1) stop.0
    statement_given at m (value pos e) j f stop = value_given at m pos e j (f.0.0.0, f.0.0.1, f.1) f.0.1 stop

    statement_complete : Complete text place (statement depth inner) (Fits (suc depth)) EndsStatement
    statement_complete = record { gives = statement_given }

-- Each statement of at most this nesting is read from its text.
pub stmt_complete : (d : ℕ) → Complete text place (stmt d) (Fits (suc d)) EndsStatement
unfolding stmt
stmt_complete zero = statement_complete zero refuse (record { gives = λ at m t j f stop. absurd (omega (arith, f.1)) })
stmt_complete (suc d) = statement_complete (suc d) (stmt d) (stmt_complete d)

-- Each body of at most this nesting is read from its text.
pub stmts_complete : (d : ℕ) → Complete texts place_all (stmts d) (BodyFits d) EndsBody
unfolding stmts
stmts_complete d = record { gives = λ at m ts j p stop. rw (sequence_given (suc d) (stmt d) (stmt_complete d) at m ts j p.0 (omega (arith, p.1)) stop, list_back (place_all at m ts)) refl }
