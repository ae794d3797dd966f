-- Where the rules of statements stop.
use Rattle.std.proofs.Common.{◌≡◌, ℕ, zero, suc, ◌≤◌, ◌<◌, Bool, true, false, cond, List, [], ◌∷◌, ◌++◌, length, Some, refl, ap, sym, ◌∙◌, arith, append_assoc}
use Rattle.std.proofs.lemmas.List.{append-nil}
use Rattle.pz_syntax.specs.declared.tokens.Pos.{Pos}
use Rattle.pz_syntax.specs.declared.tokens.Symbol.TheVariants as s
use Rattle.pz_syntax.specs.declared.tokens.Keyword.{Keyword}
use Rattle.pz_syntax.specs.declared.tokens.Keyword.TheVariants as k
use Rattle.pz_syntax.specs.declared.tokens.TokenKind.{TokenKind}
use Rattle.pz_syntax.specs.declared.tokens.TokenKind.TheVariants as kind
use Rattle.pz_syntax.specs.declared.tokens.Mark.{Mark}
use Rattle.pz_syntax.specs.declared.names.Id.{Id}
use Rattle.pz_syntax.specs.Marks.{symbol, keyword, head, mark}
use Rattle.pz_syntax.specs.ExpressionErasure.{origin}
use Rattle.pz_syntax.specs.ExpressionView.{list_of as expressions}
use Rattle.pz_syntax.specs.ExpressionView as expression
use Rattle.pz_syntax.specs.ExpressionText.{text as expression_text}
use Rattle.pz_syntax.specs.Statements.{Statements, StatementPart, Branches, not_written, otherwise as otherwise_part, then, no_statements, branch, no_branches}
use Rattle.pz_syntax.specs.Statements as tree
use Rattle.pz_syntax.specs.StatementView.{Tree, sequence_of, branches_of}
use Rattle.pz_syntax.specs.StatementText.{text, texts, otherwise_text, branches_text}
use Rattle.pz_syntax.specs.StatementForm.{IsStatement, AreStatements, IsOtherwise, AreBranches, MayBeginStatement}
use Rattle.pz_syntax.specs.StatementNesting.{nesting, nestings, otherwise_nesting, branches_nesting}
use Rattle.pz_parser_cursor.specs.declared.ahead.Next.{Next}
use Rattle.pz_parser_cursor.specs.declared.ahead.Next.TheVariants as n
use Rattle.pz_parser_cursor.specs.devices.LookAhead.{next}
use Rattle.pz_parser_cursor.specs.devices.Input.{Tokens, marks, after, identifier, position, sees}
use Rattle.pz_parser_cursor.specs.devices.Device.{Outcome, Parser, ◌>>=◌, pure, refuse, skip, take_id, expect, deepen}
use Rattle.pz_parser_cursor.specs.devices.Lists.{list_of}
use Rattle.pz_parser_cursor.specs.Places.{located}
use Rattle.pz_parser_cursor.proofs.Shown.{token_of}
use Rattle.pz_parser_cursor.proofs.Steps.{takes, sees_is}
use Rattle.pz_parser_cursor.proofs.Words.{word_is}
use Rattle.pz_parser_cursor.proofs.Reading.{marks_located}
use Rattle.pz_parser_cursor.proofs.Joined.{Filled}
use Rattle.pz_parser_expressions.specs.declared.rule.Rule.TheVariants as rule
use Rattle.pz_parser_expressions.specs.devices.Values.{expr, below, enclosed, tested}
use Rattle.pz_parser_expressions.proofs.Texts as value
use Rattle.pz_parser_statements.specs.devices.Messages.{sent, received}
use Rattle.pz_parser_statements.specs.devices.Statements as spec
use Rattle.pz_parser_statements.proofs.Lists.{Fits, sequence_text, texts_are, branches_are, are, nested, are_branches, branches_nested}
use Rattle.pz_parser_statements.proofs.Beginnings.{begins_value, is_statement}
use Rattle.pz_parser_cursor.proofs.Stopping.{Form, token_form, both, Begun, Front, begun, named, Pass, took, stopped, Low, low_ok, ExactAt, Exact, low, low_bind, into, bind_at, bind_exact, pure_exact, mapped, refuse_exact, take_then, second_at, dispatch, placed, opening, below_none}
use Rattle.pz_parser_cursor.proofs.StoppingLists.{identifier_peeks, sees_peeks, word_form, expect_exact, skip_at, list_exact}
use Rattle.pz_parser_expressions.proofs.StoppingExpressions.{ruled}
use Rattle.pz_parser_expressions.proofs.StoppingValues.{tested_exact, enclosed_at, expr_exact, below_exact, expr_past}
use Rattle.pz_parser_statements.proofs.StoppingMessages.{statement_form, sent_at, received_at, called_at}

-- ---- forms

abbrev listed_form : Form
listed_form = record { Shape = List Tree; text = sequence_text; Fits = λ n. Filled (Fits n); some = λ n lt. (tree.skip origin ∷ [], ((tt, lt), tt)) }

abbrev pub sequence_form : Form
sequence_form = record { Shape = Statements Id Id Id; text = texts; Fits = λ n ts. AreStatements ts × (nestings ts < n); some = λ n lt. (then (tree.skip origin) no_statements, ((tt, tt), lt)) }

abbrev otherwise_form : Form
otherwise_form = record { Shape = StatementPart Id Id Id; text = otherwise_text; Fits = λ n o. IsOtherwise o × (otherwise_nesting o < n); some = λ n lt. (not_written, (tt, lt)) }

abbrev branches_form : Keyword → Form
branches_form x = record { Shape = Branches Id Id Id; text = branches_text x; Fits = λ n bs. AreBranches bs × (branches_nesting bs < n); some = λ n lt. (branch (then (tree.skip origin) no_statements) no_branches, (((tt, tt), tt), lt)) }

-- ---- values that are statements

next_alike : (x y : Tokens) (m : Mark) (p q : List Mark) → marks x ≡ m ∷ p → marks y ≡ m ∷ q → next x ≡ next y
unfolding next
next_alike [] y m p q e f = absurd cc
next_alike (t ∷ ts) [] m p q e f = absurd cc
next_alike (t ∷ ts) (v ∷ vs) m p q e f = let a : t.mark ≡ v.mark = cc in ap (λ (z : Mark). next (record { mark = z; pos = origin } ∷ [])) a

-- what begins as a value that is a statement may is one
may_begin : (i : Tokens) (t : expression.Tree) (m : Mark) (p q : List Mark) (n : ℕ) → begins_value (next i) ≡ true → marks i ≡ m ∷ p → expression_text t ≡ m ∷ q → value.Fits n 1 t → MayBeginStatement t
may_begin i t m p q n h e f fits =
    let j = located (λ k. origin) 0 (expression_text t) in
    let shown = marks_located (λ k. origin) 0 (expression_text t) in
    is_statement j t [] (ap begins_value (next_alike j i m q p (shown ∙ f) e) ∙ h) (shown ∙ sym (append-nil (expression_text t))) fits.0 fits.1

module _ (i : Tokens) (h : begins_value (next i) ≡ true) where
  value_begun : (n : ℕ) → 0 < n → (p ahead : List Mark) → marks i ≡ p ++ ahead → Begun (ruled rule.Value) n p → Begun statement_form n p
  value_begun n lt [] ahead e f = record { whole = tree.skip origin; rest = keyword k.Skip ∷ []; meets = (tt, lt); parts = refl }
  value_begun n lt (m ∷ p) ahead e f = record { whole = tree.value origin f.whole; rest = f.rest; meets = (((f.meets.0, f.meets.1), may_begin i f.whole m (p ++ ahead) (p ++ f.rest) n h e f.parts f.meets), f.meets.2); parts = f.parts }

  -- a name that stands alone is no value
  skipped : (n : ℕ) → 0 < n → (x : Id) (p ahead : List Mark) → marks i ≡ (p ++ head x ∷ []) ++ ahead → Begun (ruled rule.Value) n (p ++ keyword k.Skip ∷ []) → Begun statement_form n (p ++ keyword k.Skip ∷ [])
  skipped n lt x [] ahead e f = record { whole = tree.skip origin; rest = []; meets = (tt, lt); parts = refl }
  skipped n lt x (m ∷ p) ahead e f = record { whole = tree.value origin f.whole; rest = f.rest; meets = (((f.meets.0, f.meets.1), may_begin i f.whole m ((p ++ head x ∷ []) ++ ahead) ((p ++ keyword k.Skip ∷ []) ++ f.rest) n h e f.parts f.meets), f.meets.2); parts = f.parts }

  value_front : (n : ℕ) → 0 < n → (p ahead : List Mark) → marks i ≡ p ++ ahead → Front (ruled rule.Value) n p → Front statement_form n p
  value_front n lt _ ahead e (begun p f) = begun p (value_begun n lt p ahead e f)
  value_front n lt _ ahead e (named p x f g) = named p x (skipped n lt x p ahead e f) (λ m le. value_begun m (omega (arith, le)) (p ++ head x ∷ []) ahead e (g m le))

  value_pass : {V : Type 0} (b : ℕ) (o : Outcome V) → Pass b (ruled rule.Value) i o → Pass b statement_form i o
  value_pass b _ (took y t) = took y (record {
    shape = tree.value origin t.shape;
    parts = t.parts;
    meets = λ n le lt. let f = t.meets n le lt in (((f.0, f.1), is_statement i t.shape (marks y.1) h t.parts f.0 f.1), f.2);
  })
  value_pass b _ (stopped r s) = stopped r (record {
    passed = s.passed;
    ahead = s.ahead;
    parts = s.parts;
    place = s.place;
    begins = λ n le lt. value_front n lt s.passed s.ahead s.parts (s.begins n le lt);
    deeper = λ x. let d = s.deeper x in record {
      first = d.first;
      others = d.others;
      parts = d.parts;
      plain = d.plain;
      begins = λ n lt. value_front n (omega (arith, lt)) (s.passed ++ d.first ∷ []) d.others (s.parts ∙ ap (λ z. s.passed ++ z) d.parts ∙ sym (append_assoc s.passed (d.first ∷ []) d.others)) (d.begins n lt);
    };
  })

module _ (W : Type 0) (d e : ℕ) (le : d ≤ e) (wide : d < e → W) where
  abbrev b : ℕ
  b = suc d

  delayed_at : (i : Tokens) → next i ≡ n.Delay → ExactAt W b (spec.delayed d) (spec.delayed e) statement_form i
  unfolding spec.delayed
  delayed_at i h =
      let rest : (m : ℕ) → Pos → Parser Tree = λ m at. skip >>= (λ u. expr m rule.Value >>= (λ x. pure (tree.delay at x))) in
      let c = placed W b (rest d) (rest e) statement_form i (λ at. into W b (λ v. tree.delay origin v.1) (λ v. refl) (λ n lt v f. ((f.1.0, f.1.1), f.1.2)) (bind_at W b (skip_at W b n.Delay (kind.Key k.Delay) i refl h) (λ u j. mapped W b (λ x. tree.delay at x) (expr_exact W d e le wide rule.Value j)))) in
      record { pass = c.pass; same = c.same }

  block_at : (i : Tokens) → next i ≡ n.LeftBrace → ExactAt W b (spec.block d) (spec.block e) statement_form i
  unfolding spec.block
  block_at i h =
      let rest : (m : ℕ) → Pos → Parser Tree = λ m at. enclosed m (below m) n.Semicolon n.RightBrace >>= (λ es. pure (tree.block at (expressions es))) in
      let c = placed W b (rest d) (rest e) statement_form i (λ at. mapped W b (λ es. tree.block at (expressions es)) (enclosed_at W d e le wide (below d) (below e) (below_exact W d e le wide) n.Semicolon n.RightBrace s.LeftBrace s.Semicolon s.RightBrace statement_form (λ ts. tree.block origin ts) refl refl (λ ts. refl) (λ n lt ts f. (f.0, omega (arith, f.1))) i (ap token_of h))) in
      record { pass = c.pass; same = c.same }

  assigned_at : (i : Tokens) → next i ≡ n.Word → sees n.Assign (after i) ≡ true → ExactAt W b (spec.assigned d) (spec.assigned e) statement_form i × Low (length (after i)) (spec.assigned d i)
  unfolding spec.assigned
  assigned_at i h g =
      let behind : (m : ℕ) → Pos → Id → Parser Tree = λ m at x. skip >>= (λ u. expr m rule.Value >>= (λ v. pure (tree.assignment at x v))) in
      let F = both (token_form (symbol s.Assign)) (ruled rule.Value) in
      let known : (at : Pos) (x : Id) → ExactAt W b (behind d at x) (behind e at x) F (after i) =
      λ at x. bind_at W b (skip_at W b n.Assign (kind.Sym s.Assign) (after i) refl (sees_is n.Assign (after i) g)) (λ u j. mapped W b (λ v. tree.assignment at x v) (expr_exact W d e le wide rule.Value j)) in
      let c = placed W b (λ at. take_id >>= behind d at) (λ at. take_id >>= behind e at) statement_form i
      (λ at. into W b (λ v. tree.assignment origin v.0 v.1.1) (λ v. refl) (λ n lt v f. ((f.1.1.0, f.1.1.1), f.1.1.2)) (take_then W b identifier (behind d at) (behind e at) word_form F (identifier i) i identifier_peeks (word_is i h) (λ n. tt) (known at))) in
      (record { pass = c.pass; same = c.same }, low (known (position i) (identifier i)).pass)

  valued_at : (i : Tokens) → begins_value (next i) ≡ true → ExactAt W b (spec.valued d) (spec.valued e) statement_form i
  unfolding spec.valued
  valued_at i h =
      let c = placed W b (λ at. expr d rule.Value >>= (λ x. pure (tree.value at x))) (λ at. expr e rule.Value >>= (λ x. pure (tree.value at x))) statement_form i
      (λ at. let x = mapped W b (λ x. tree.value at x) (expr_exact W d e le wide rule.Value i) in record { pass = value_pass i h b _ x.pass; same = x.same }) in
      record { pass = c.pass; same = c.same }

  valued_past : (i : Tokens) → next i ≡ n.Word → Low (length (after i)) (spec.valued d i)
  unfolding spec.valued
  valued_past i h = low_bind (length (after i)) (expr d rule.Value i) (λ x. pure (tree.value (position i) x)) (expr_past W d i h) (λ y. low_ok (tree.value (position i) y.0, y.1) (omega arith))

  worded_at : (i : Tokens) → next i ≡ n.Word → ExactAt W b (spec.worded d) (spec.worded e) statement_form i
  unfolding spec.worded
  worded_at i h =
      let plain = valued_at i (ap begins_value h) in
      let past = valued_past i h in
      let last : (m : ℕ) → Parser Tree = λ m j. cond (sees n.Assign (after j)) (spec.assigned m j) (spec.valued m j) in
      let more : (m : ℕ) → Parser Tree = λ m j. cond (sees n.Query (after j)) (received m j) (last m j) in
      let third : ExactAt W b (last d) (last e) statement_form i = second_at W b (sees n.Assign) (spec.assigned d) (spec.assigned e) (spec.valued d) (spec.valued e) statement_form i (sees_peeks n.Assign) (assigned_at i h) (λ g. (plain, past)) in
      let second : ExactAt W b (more d) (more e) statement_form i = second_at W b (sees n.Query) (received d) (received e) (last d) (last e) statement_form i (sees_peeks n.Query) (received_at W d e le wide i h) (λ g. (third, either (sees n.Assign (after i)) (spec.assigned d i) (spec.valued d i) (λ z. (assigned_at i h z).1) past)) in
      let c = second_at W b (sees n.Bang) (sent d) (sent e) (more d) (more e) statement_form i (sees_peeks n.Bang) (sent_at W d e le wide i h)
      (λ g. (second, either (sees n.Query (after i)) (received d i) (last d i) (λ z. (received_at W d e le wide i h z).1) (either (sees n.Assign (after i)) (spec.assigned d i) (spec.valued d i) (λ z. (assigned_at i h z).1) past))) in
      record { pass = c.pass; same = c.same }
    where
      either : {m : ℕ} (c : Bool) (x y : Outcome Tree) → (c ≡ true → Low m x) → Low m y → Low m (cond c x y)
      either true x y f g = f refl
      either false x y f g = g

  -- ---- over the statements one construct further in

  module _ (inner other : Parser Tree) (x : Exact W d inner other statement_form) where
    listed_exact : Exact W d (spec.sequence d inner) (spec.sequence e other) listed_form
    listed_exact i = into W d (λ ts. ts) (λ ts. sym (texts_are ts)) (λ n lt ts f. f) (list_exact d statement_form n.Semicolon (kind.Sym s.Semicolon) refl W inner other x i)

    sequence_exact : Exact W d (spec.sequence d inner) (spec.sequence e other) sequence_form
    sequence_exact i = into W d (λ ts. sequence_of ts) (λ ts. refl) (λ n lt ts f. (are n ts f, nested n ts f)) (listed_exact i)

    bracketed_at : (i : Tokens) → next i ≡ n.LeftParen → ExactAt W b (spec.bracketed d inner) (spec.bracketed e other) statement_form i
    unfolding spec.bracketed
    bracketed_at i h =
        let rest : Parser (List Tree) → Pos → Parser Tree = λ q at. q >>= (λ ts. expect n.RightParen >>= (λ u. pure (tree.bracketed at (sequence_of ts)))) in
        let c = placed W b (λ at. deepen d >>= (λ u. rest (spec.sequence d inner) at)) (λ at. deepen e >>= (λ u. rest (spec.sequence e other) at)) statement_form i (λ at.
        opening W d d e (λ u. rest (spec.sequence d inner) at) (λ u. rest (spec.sequence e other) at) (both sequence_form (token_form (symbol s.RightParen))) statement_form (symbol s.LeftParen) refl (λ v. tree.bracketed origin v.0) i le wide (λ v. refl) (λ n lt v f. (f.0.0, omega (arith, f.0.1)))
        (bind_exact W d sequence_exact (λ ts j. mapped W d (λ v. tree.bracketed at (sequence_of ts)) (expect_exact W d n.RightParen (kind.Sym s.RightParen) refl j))) (takes (kind.Sym s.LeftParen) i (ap token_of h))) in
        record { pass = c.pass; same = c.same }

    test_exact : (close : Next) (y : TokenKind) → token_of close ≡ Some y → Exact W d (tested (below d) close) (tested (below e) close) (both (ruled rule.Value) (token_form (mark y)))
    test_exact close y shows = tested_exact W d e le wide (below d) (below e) (below_exact W d e le wide) close y shows

    guarded_at : (i : Tokens) → next i ≡ n.LeftBracket → ExactAt W b (spec.guarded d inner) (spec.guarded e other) statement_form i
    unfolding spec.guarded
    guarded_at i h =
        let rest : (m : ℕ) → Parser Tree → Pos → Parser Tree = λ m q at. tested (below m) n.RightBracket >>= (λ v. q >>= (λ t. pure (tree.guarded at v t))) in
        let c = placed W b (λ at. deepen d >>= (λ u. rest d inner at)) (λ at. deepen e >>= (λ u. rest e other at)) statement_form i (λ at.
        opening W d d e (λ u. rest d inner at) (λ u. rest e other at) (both (both (ruled rule.Value) (token_form (symbol s.RightBracket))) statement_form) statement_form (symbol s.LeftBracket) refl (λ v. tree.guarded origin v.0.0 v.1) i le wide
        (λ v. ap (λ z. symbol s.LeftBracket ∷ z) (sym (append_assoc (expression_text v.0.0) (symbol s.RightBracket ∷ []) (text v.1))))
        (λ n lt v f. (((f.0.0.0, f.0.0.1), f.1.0), omega (arith, f.0.0.2, f.1.1)))
        (bind_exact W d (test_exact n.RightBracket (kind.Sym s.RightBracket) refl) (λ v j. mapped W d (λ t. tree.guarded at v t) (x j))) (takes (kind.Sym s.LeftBracket) i (ap token_of h))) in
        record { pass = c.pass; same = c.same }

    branched_at : (sep close : Next) (z end : Keyword) (y : Keyword) (make : Branches Id Id Id → Tree) → token_of sep ≡ Some (kind.Key z) → token_of close ≡ Some (kind.Key end) → ((bs : Branches Id Id Id) → text (make bs) ≡ keyword y ∷ (branches_text z bs ++ keyword end ∷ [])) → ((n : ℕ) → 0 < n → (bs : Branches Id Id Id) → AreBranches bs × (branches_nesting bs < n) → IsStatement (make bs) × (nesting (make bs) < suc n)) → (i : Tokens) → token_of (next i) ≡ Some (kind.Key y)
        → ExactAt W b (spec.branched d inner sep close) (spec.branched e other sep close) statement_form i
    unfolding spec.branched
    branched_at sep close z end y make shows closes spelled fits i opens =
        let branches : Exact W d (list_of (spec.sequence d inner) sep) (list_of (spec.sequence e other) sep) (branches_form z) =
        λ j. into W d (λ bs. branches_of bs) (λ bs. sym (branches_are z bs)) (λ n lt bs f. (are_branches n bs f, branches_nested n bs f)) (list_exact d listed_form sep (kind.Key z) shows W (spec.sequence d inner) (spec.sequence e other) listed_exact j) in
        opening W d d e (λ u. list_of (spec.sequence d inner) sep >>= (λ bs. expect close >>= (λ v. pure bs))) (λ u. list_of (spec.sequence e other) sep >>= (λ bs. expect close >>= (λ v. pure bs))) (both (branches_form z) (token_form (keyword end))) statement_form (keyword y) refl (λ v. make v.0) i le wide (λ v. spelled v.0) (λ n lt v f. fits n lt v.0 f.0)
        (bind_exact W d branches (λ bs j. mapped W d (λ v. bs) (expect_exact W d close (kind.Key end) closes j))) (takes (kind.Key y) i opens)

    parallel_at : (i : Tokens) → next i ≡ n.Par → ExactAt W b (spec.parallel d inner) (spec.parallel e other) statement_form i
    unfolding spec.parallel
    parallel_at i h =
        let c = placed W b (λ at. spec.branched d inner n.And n.Rap >>= (λ bs. pure (tree.parallel at (branches_of bs)))) (λ at. spec.branched e other n.And n.Rap >>= (λ bs. pure (tree.parallel at (branches_of bs)))) statement_form i
        (λ at. mapped W b (λ bs. tree.parallel at (branches_of bs)) (branched_at n.And n.Rap k.And k.Rap k.Par (λ bs. tree.parallel origin bs) refl refl (λ bs. refl) (λ n lt bs f. (f.0, omega (arith, f.1))) i (ap token_of h))) in
        record { pass = c.pass; same = c.same }

    selection_at : (i : Tokens) → next i ≡ n.Sel → ExactAt W b (spec.selection d inner) (spec.selection e other) statement_form i
    unfolding spec.selection
    selection_at i h =
        let c = placed W b (λ at. spec.branched d inner n.Or n.Les >>= (λ bs. pure (tree.select at (branches_of bs)))) (λ at. spec.branched e other n.Or n.Les >>= (λ bs. pure (tree.select at (branches_of bs)))) statement_form i
        (λ at. mapped W b (λ bs. tree.select at (branches_of bs)) (branched_at n.Or n.Les k.Or k.Les k.Sel (λ bs. tree.select origin bs) refl refl (λ bs. refl) (λ n lt bs f. (f.0, omega (arith, f.1))) i (ap token_of h))) in
        record { pass = c.pass; same = c.same }

    otherwise_exact : Exact W d (spec.otherwise d inner) (spec.otherwise e other) otherwise_form
    unfolding spec.otherwise
    otherwise_exact = dispatch W d (spec.otherwise_by d inner) (spec.otherwise_by e other) otherwise_form at
      where
        at : (z : Next) (i : Tokens) → next i ≡ z → ExactAt W d (spec.otherwise_by d inner z) (spec.otherwise_by e other z) otherwise_form i
        at n.Else i h = into W d (λ v. otherwise_part v.1) (λ v. refl) (λ n lt v f. f.1) (mapped W d (λ ts. otherwise_part (sequence_of ts)) (bind_at W d (skip_at W d n.Else (kind.Key k.Else) i refl h) (λ u. sequence_exact)))
        at _ i h = into W d (λ v. not_written) (λ v. refl) (λ n lt v f. (tt, lt)) (pure_exact W d not_written i)

    conditional_at : (i : Tokens) → next i ≡ n.If → ExactAt W b (spec.conditional d inner) (spec.conditional e other) statement_form i
    unfolding spec.conditional
    conditional_at i h =
        let rest : (m : ℕ) → Parser Tree → Pos → Parser Tree = λ m q at. tested (below m) n.Then >>= (λ v. spec.sequence m q >>= (λ ts. spec.otherwise m q >>= (λ o. expect n.Fi >>= (λ u. pure (tree.conditional at v (sequence_of ts) o))))) in
        let F = both (both (ruled rule.Value) (token_form (keyword k.Then))) (both sequence_form (both otherwise_form (token_form (keyword k.Fi)))) in
        let c = placed W b (λ at. deepen d >>= (λ u. rest d inner at)) (λ at. deepen e >>= (λ u. rest e other at)) statement_form i (λ at.
        opening W d d e (λ u. rest d inner at) (λ u. rest e other at) F statement_form (keyword k.If) refl (λ v. tree.conditional origin v.0.0 v.1.0 v.1.1.0) i le wide
        (λ v. ap (λ z. keyword k.If ∷ z) (sym (append_assoc (expression_text v.0.0) (keyword k.Then ∷ []) (texts v.1.0 ++ (otherwise_text v.1.1.0 ++ keyword k.Fi ∷ [])))))
        (λ n lt v f. (((f.0.0.0, f.0.0.1), f.1.0.0, f.1.1.0.0), omega (arith, f.0.0.2, f.1.0.1, f.1.1.0.1)))
        (bind_exact W d (test_exact n.Then (kind.Key k.Then) refl) (λ v. bind_exact W d sequence_exact (λ ts. bind_exact W d otherwise_exact (λ o j. mapped W d (λ u. tree.conditional at v (sequence_of ts) o) (expect_exact W d n.Fi (kind.Key k.Fi) refl j))))) (takes (kind.Key k.If) i (ap token_of h))) in
        record { pass = c.pass; same = c.same }

    repeated_at : (i : Tokens) → next i ≡ n.While → ExactAt W b (spec.repeated d inner) (spec.repeated e other) statement_form i
    unfolding spec.repeated
    repeated_at i h =
        let rest : (m : ℕ) → Parser Tree → Pos → Parser Tree = λ m q at. tested (below m) n.Do >>= (λ v. spec.sequence m q >>= (λ ts. expect n.Od >>= (λ u. pure (tree.repeated at v (sequence_of ts))))) in
        let F = both (both (ruled rule.Value) (token_form (keyword k.Do))) (both sequence_form (token_form (keyword k.Od))) in
        let c = placed W b (λ at. deepen d >>= (λ u. rest d inner at)) (λ at. deepen e >>= (λ u. rest e other at)) statement_form i (λ at.
        opening W d d e (λ u. rest d inner at) (λ u. rest e other at) F statement_form (keyword k.While) refl (λ v. tree.repeated origin v.0.0 v.1.0) i le wide
        (λ v. ap (λ z. keyword k.While ∷ z) (sym (append_assoc (expression_text v.0.0) (keyword k.Do ∷ []) (texts v.1.0 ++ keyword k.Od ∷ []))))
        (λ n lt v f. (((f.0.0.0, f.0.0.1), f.1.0.0), omega (arith, f.0.0.2, f.1.0.1)))
        (bind_exact W d (test_exact n.Do (kind.Key k.Do) refl) (λ v. bind_exact W d sequence_exact (λ ts j. mapped W d (λ u. tree.repeated at v (sequence_of ts)) (expect_exact W d n.Od (kind.Key k.Od) refl j)))) (takes (kind.Key k.While) i (ap token_of h))) in
        record { pass = c.pass; same = c.same }

    handled_at : (y : Keyword) (make : Statements Id Id Id → Tree → Tree) → ((ts : Statements Id Id Id) (t : Tree) → text (make ts t) ≡ keyword y ∷ (texts ts ++ keyword k.With ∷ text t)) → ((n : ℕ) → 0 < n → (ts : Statements Id Id Id) (t : Tree) → AreStatements ts × (nestings ts < n) → IsStatement t × (nesting t < n) → IsStatement (make ts t) × (nesting (make ts t) < suc n)) → (i : Tokens) → token_of (next i) ≡ Some (kind.Key y)
        → ExactAt W b (spec.handled d inner) (spec.handled e other) statement_form i
    unfolding spec.handled
    handled_at y make spelled fits i opens =
        let rest : (m : ℕ) → Parser Tree → Parser (List Tree × Tree) = λ m q. spec.sequence m q >>= (λ ts. expect n.With >>= (λ u. q >>= (λ t. pure (ts, t)))) in
        opening W d d e (λ u. rest d inner) (λ u. rest e other) (both sequence_form (both (token_form (keyword k.With)) statement_form)) statement_form (keyword y) refl (λ v. make v.0 v.1.1) i le wide (λ v. spelled v.0 v.1.1) (λ n lt v f. fits n lt v.0 v.1.1 f.0 f.1.1)
        (bind_exact W d sequence_exact (λ ts. bind_exact W d (expect_exact W d n.With (kind.Key k.With) refl) (λ u j. mapped W d (λ t. (ts, t)) (x j)))) (takes (kind.Key y) i opens)

    aborted_at : (i : Tokens) → next i ≡ n.Abort → ExactAt W b (spec.aborted d inner) (spec.aborted e other) statement_form i
    unfolding spec.aborted
    aborted_at i h =
        let c = placed W b (λ at. spec.handled d inner >>= (λ v. pure (tree.abort at (sequence_of v.0) v.1))) (λ at. spec.handled e other >>= (λ v. pure (tree.abort at (sequence_of v.0) v.1))) statement_form i
        (λ at. mapped W b (λ v. tree.abort at (sequence_of v.0) v.1) (handled_at k.Abort (λ ts t. tree.abort origin ts t) (λ ts t. refl) (λ n lt ts t f g. ((f.0, g.0), omega (arith, f.1, g.1))) i (ap token_of h))) in
        record { pass = c.pass; same = c.same }

    interrupted_at : (i : Tokens) → next i ≡ n.Interrupt → ExactAt W b (spec.interrupted d inner) (spec.interrupted e other) statement_form i
    unfolding spec.interrupted
    interrupted_at i h =
        let c = placed W b (λ at. spec.handled d inner >>= (λ v. pure (tree.interrupt at (sequence_of v.0) v.1))) (λ at. spec.handled e other >>= (λ v. pure (tree.interrupt at (sequence_of v.0) v.1))) statement_form i
        (λ at. mapped W b (λ v. tree.interrupt at (sequence_of v.0) v.1) (handled_at k.Interrupt (λ ts t. tree.interrupt origin ts t) (λ ts t. refl) (λ n lt ts t f g. ((f.0, g.0), omega (arith, f.1, g.1))) i (ap token_of h))) in
        record { pass = c.pass; same = c.same }

    statement_at : (z : Next) (i : Tokens) → next i ≡ z → ExactAt W b (spec.statement_by d inner z) (spec.statement_by e other z) statement_form i
    statement_at n.Skip i h = placed W b (λ at. skip >>= (λ u. pure (tree.skip at))) (λ at. skip >>= (λ u. pure (tree.skip at))) statement_form i (λ at. into W b (λ v. tree.skip origin) (λ v. refl) (λ n lt v f. (tt, lt)) (mapped W b (λ u. tree.skip at) (skip_at W b n.Skip (kind.Key k.Skip) i refl h)))
    statement_at n.Delay i h = delayed_at i h
    statement_at n.LeftParen i h = bracketed_at i h
    statement_at n.LeftBrace i h = block_at i h
    statement_at n.LeftBracket i h = guarded_at i h
    statement_at n.Par i h = parallel_at i h
    statement_at n.Sel i h = selection_at i h
    statement_at n.If i h = conditional_at i h
    statement_at n.While i h = repeated_at i h
    statement_at n.Abort i h = aborted_at i h
    statement_at n.Interrupt i h = interrupted_at i h
    statement_at n.Head i h = called_at W d e le wide i h
    statement_at n.Word i h = worded_at i h
    statement_at n.Int i h = valued_at i (ap begins_value h)
    statement_at n.Literal i h = valued_at i (ap begins_value h)
    statement_at n.New i h = valued_at i (ap begins_value h)
    statement_at n.CurrentTime i h = valued_at i (ap begins_value h)
    statement_at _ i h = refuse_exact W b statement_form i

    statement_exact : Exact W b (spec.statement d inner) (spec.statement e other) statement_form
    unfolding spec.statement
    statement_exact = dispatch W b (spec.statement_by d inner) (spec.statement_by e other) statement_form statement_at

-- What the rule of statements passes begins the text of a statement.
pub stmt_exact : (W : Type 0) (d e : ℕ) → d ≤ e → (d < e → W) → Exact W (suc d) (spec.stmt d) (spec.stmt e) statement_form
unfolding spec.stmt
stmt_exact W zero zero le wide = statement_exact W zero zero le wide refuse refuse (below_none W refuse statement_form)
stmt_exact W zero (suc e) le wide = statement_exact W zero (suc e) le wide refuse (spec.stmt e) (below_none W (spec.stmt e) statement_form)
stmt_exact W (suc d) zero le wide = absurd (omega (arith, le))
stmt_exact W (suc d) (suc e) le wide = statement_exact W (suc d) (suc e) le wide (spec.stmt d) (spec.stmt e) (stmt_exact W d e (omega (arith, le)) (λ lt. wide (omega (arith, lt))))

pub stmts_exact : (W : Type 0) (d e : ℕ) → d ≤ e → (d < e → W) → Exact W (suc d) (spec.stmts d) (spec.stmts e) sequence_form
unfolding spec.stmts
stmts_exact W d e le wide i = mapped W (suc d) sequence_of (into W (suc d) (λ ts. sequence_of ts) (λ ts. sym (texts_are ts)) (λ n lt ts f. (are n ts f, nested n ts f)) (list_exact (suc d) statement_form n.Semicolon (kind.Sym s.Semicolon) refl W (spec.stmt d) (spec.stmt e) (stmt_exact W d e le wide) i))
