-- Where the rules of expressions stop that stand over the rules one construct further in.
use Rattle.std.proofs.Common.{◌≡◌, ℕ, zero, suc, ◌≤◌, ◌<◌, true, not, List, [], ◌∷◌, ◌++◌, length, Some, refl, ap, sym, ◌∙◌, arith, append_assoc}
use Rattle.std.specs.Prelude.{⊤}
use Rattle.std.proofs.lemmas.List.{append-nil}
use Rattle.pz_syntax.specs.declared.tokens.Pos.{Pos}
use Rattle.pz_syntax.specs.declared.tokens.Symbol.{Symbol}
use Rattle.pz_syntax.specs.declared.tokens.Symbol.TheVariants as s
use Rattle.pz_syntax.specs.declared.tokens.Keyword.TheVariants as k
use Rattle.pz_syntax.specs.declared.tokens.TokenKind.{TokenKind}
use Rattle.pz_syntax.specs.declared.tokens.TokenKind.TheVariants as kind
use Rattle.pz_syntax.specs.declared.names.Id.{Id}
use Rattle.pz_syntax.specs.declared.exprs.Literal.{Literal}
use Rattle.pz_syntax.specs.declared.exprs.Literal.TheVariants as lit
use Rattle.pz_syntax.specs.Marks.{mark, symbol, keyword, selector, each_text}
use Rattle.pz_syntax.specs.Expressions.{Expressions, none, more, Part, left_out, written}
use Rattle.pz_syntax.specs.Expressions as tree
use Rattle.pz_syntax.specs.ExpressionErasure.{origin}
use Rattle.pz_syntax.specs.ExpressionView.{Tree, list_of as expressions, SendingTree, sendings_of}
use Rattle.pz_syntax.specs.ExpressionText.{text, texts, otherwise_text, literal_kind}
use Rattle.pz_syntax.specs.ExpressionForm.{AreExpressions, IsSign, AreArguments, AreSendings}
use Rattle.pz_syntax.specs.ExpressionNesting.{nestings, sendings_nesting, bracketed_nesting}
use Rattle.pz_syntax.specs.ModelForm.{Each}
use Rattle.pz_parser_cursor.specs.declared.ahead.Next.{Next}
use Rattle.pz_parser_cursor.specs.declared.ahead.Next.TheVariants as n
use Rattle.pz_parser_cursor.specs.devices.LookAhead.{next}
use Rattle.pz_parser_cursor.specs.devices.Input.{Tokens, marks, after, identifier, name, position, literal, sees, selects, spelled_init}
use Rattle.pz_parser_cursor.specs.devices.Device.{Parser, ◌>>=◌, pure, refuse, skip, take_literal, expect, expect_id, deepen}
use Rattle.pz_parser_cursor.specs.devices.Lists.{list_of}
use Rattle.pz_parser_cursor.proofs.Shown.{token_of}
use Rattle.pz_parser_cursor.proofs.Steps.{takes}
use Rattle.pz_parser_cursor.proofs.Words.{literal_is, int_literal_is, selector_is}
use Rattle.pz_parser_expressions.specs.declared.rule.Rule.{Rule}
use Rattle.pz_parser_expressions.specs.declared.rule.Rule.TheVariants as rule
use Rattle.pz_parser_expressions.specs.devices.Values as spec
use Rattle.pz_parser_expressions.proofs.Texts.{Fits, texts_are, body, body_nested}
use Rattle.pz_parser_expressions.proofs.Readings.{sending_text, sendings_are}
use Rattle.pz_parser_cursor.proofs.Stopping.{Form, token_form, both, Low, low_ok, ExactAt, Exact, low, low_bind, pass_mapped, into, bind_at, bind_exact, pure_exact, mapped, refuse_exact, Peeks, taking, take_then, dispatch, placed, opening, below_none}
use Rattle.pz_parser_cursor.proofs.StoppingLists.{identifier_peeks, sees_peeks, some_id, name_form, each_form, expect_exact, word_exact, skip_at, take_word_at, or_none_exact, list_exact, each_exact}
use Rattle.pz_parser_expressions.proofs.StoppingExpressions.{rank_le, ruled, primary_form, sent_form, body_form, list_form, otherwise_form, arguments_form, body_each, chain_exact, chain_low, relevel, expression_exact}

abbrev literal_form : Form
literal_form = record { Shape = Literal; text = λ x. mark (literal_kind x) ∷ []; Fits = λ n x. ⊤; some = λ n lt. (lit.Nil, tt) }

literal_peeks : Peeks literal
unfolding literal
literal_peeks t u w = refl

selects_peeks : Peeks selects
unfolding selects spelled_init next name
selects_peeks t u w = refl

abbrev sending_form : Form
sending_form = record { Shape = SendingTree; text = sending_text; Fits = λ n x. AreArguments x.1 × (bracketed_nesting x.1 < n); some = λ n lt. ((some_id, left_out), (tt, lt)) }

sendings_meet : (n : ℕ) → 0 < n → (xs : List SendingTree) → Each (sending_form.Fits n) xs → AreSendings (sendings_of xs) × (sendings_nesting (sendings_of xs) < n)
sendings_meet n lt [] f = (tt, lt)
sendings_meet n lt (x ∷ xs) f = let r = sendings_meet n lt xs f.1 in ((f.0.0, r.0), omega (arith, f.0.1, r.1))

sent_text : (t : Tree) (xs : List SendingTree) → text (spec.sent origin t xs) ≡ text t ++ each_text sending_text xs
sent_text t [] = sym (append-nil (text t))
sent_text t (x ∷ xs) = ap (λ r. text t ++ r) (sym (sendings_are (x ∷ xs)))

sent_fits : (n : ℕ) → 0 < n → (t : Tree) (xs : List SendingTree) → Fits n 8 t → Each (sending_form.Fits n) xs → Fits n 7 (spec.sent origin t xs)
sent_fits n lt t [] f g = (f.0, omega (arith, f.1), f.2)
sent_fits n lt t (x ∷ xs) f g = let r = sendings_meet n lt (x ∷ xs) g in ((f.0, f.1, r.0), omega arith, omega (arith, f.2, r.1))

module _ (W : Type 0) (d e : ℕ) (le : d ≤ e) (wide : d < e → W) (inner other : Rule → Parser Tree) where
  module _ (x : (r : Rule) → Exact W d (inner r) (other r) (ruled r)) where
    pub body_exact : (sep : Next) (y : Symbol) → token_of sep ≡ Some (kind.Sym y) → Exact W d (list_of (inner rule.Expression) sep) (list_of (other rule.Expression) sep) (body_form y)
    body_exact sep y shows i = into W d (λ ts. expressions ts) (λ ts. sym (texts_are y ts)) (λ n lt ts f. (body n ts f, body_nested n ts f)) (list_exact d (ruled rule.Expression) sep (kind.Sym y) shows W (inner rule.Expression) (other rule.Expression) (x rule.Expression) i)

    pub tested_exact : (close : Next) (y : TokenKind) → token_of close ≡ Some y → Exact W d (spec.tested inner close) (spec.tested other close) (both (ruled rule.Value) (token_form (mark y)))
    unfolding spec.tested
    tested_exact close y shows = bind_exact W d (x rule.Value) (λ t j. mapped W d (λ u. t) (expect_exact W d close y shows j))

    otherwise_exact : Exact W d (spec.otherwise inner) (spec.otherwise other) otherwise_form
    unfolding spec.otherwise
    otherwise_exact = dispatch W d (spec.otherwise_by inner) (spec.otherwise_by other) otherwise_form at
      where
        at : (z : Next) (i : Tokens) → next i ≡ z → ExactAt W d (spec.otherwise_by inner z) (spec.otherwise_by other z) otherwise_form i
        at n.Else i h = into W d (λ v. written v.1) (λ v. refl) (λ n lt v f. f.1) (mapped W d (λ ts. written (expressions ts)) (bind_at W d (skip_at W d n.Else (kind.Key k.Else) i refl h) (λ u. body_exact n.Semicolon s.Semicolon refl)))
        at _ i h = into W d (λ v. left_out) (λ v. refl) (λ n lt v f. (tt, lt)) (pure_exact W d left_out i)

    pub before_exact : (sep close : Next) (y : Symbol) → token_of sep ≡ Some (kind.Sym y) → Exact W d (spec.exprs_before inner sep close) (spec.exprs_before other sep close) (list_form y)
    unfolding spec.exprs_before
    before_exact sep close y shows = or_none_exact W d (list_of (inner rule.Expression) sep) (list_of (other rule.Expression) sep) (list_form y) (λ i. not (sees close i)) none refl (λ n lt. (tt, lt)) (λ t u w. ap not (sees_peeks close t u w)) (λ i h. into W d (λ ts. ts) (λ ts. refl) (λ n lt ts f. (body_each ts f.0, f.1)) (body_exact sep y shows i))

    -- expressions between an opening and a closing token
    pub enclosed_at : (sep close : Next) (left y right : Symbol) (G : Form) (h : Expressions Id Id → G.Shape) → token_of sep ≡ Some (kind.Sym y) → token_of close ≡ Some (kind.Sym right)
        → ((ts : Expressions Id Id) → G.text (h ts) ≡ symbol left ∷ (texts y ts ++ symbol right ∷ [])) → ((n : ℕ) → 0 < n → (ts : Expressions Id Id) → AreExpressions ts × (nestings ts < n) → G.Fits (suc n) (h ts))
        → (i : Tokens) → token_of (next i) ≡ Some (kind.Sym left) → ExactAt W (suc d) (spec.enclosed d inner sep close) (spec.enclosed e other sep close) G i
    unfolding spec.enclosed
    enclosed_at sep close left y right G h shows closes spelled fits i opens =
        opening W d d e (λ u. spec.exprs_before inner sep close >>= (λ ts. expect close >>= (λ v. pure ts))) (λ u. spec.exprs_before other sep close >>= (λ ts. expect close >>= (λ v. pure ts))) (both (list_form y) (token_form (symbol right))) G (symbol left) refl (λ v. h v.0) i le wide (λ v. spelled v.0) (λ n lt v f. fits n lt v.0 f.0)
        (bind_exact W d (before_exact sep close y shows) (λ ts j. mapped W d (λ v. ts) (expect_exact W d close (kind.Sym right) closes j))) (takes (kind.Sym left) i opens)

    -- ---- what selectors are sent to

    abbrev b : ℕ
    b = suc d

    grouped_at : (i : Tokens) → next i ≡ n.LeftParen → ExactAt W b (spec.grouped d inner) (spec.grouped e other) primary_form i
    unfolding spec.grouped
    grouped_at i h =
        let rest : (q : Rule → Parser Tree) → Pos → Parser Tree = λ q pos. list_of (q rule.Expression) n.Semicolon >>= (λ ts. expect n.RightParen >>= (λ u. pure (tree.group pos (expressions ts)))) in
        let c = placed W b (λ pos. deepen d >>= (λ u. rest inner pos)) (λ pos. deepen e >>= (λ u. rest other pos)) primary_form i (λ pos.
        opening W d d e (λ u. rest inner pos) (λ u. rest other pos) (both (body_form s.Semicolon) (token_form (symbol s.RightParen))) primary_form (symbol s.LeftParen) refl (λ v. tree.group origin v.0) i le wide (λ v. refl) (λ n lt v f. (f.0.0, omega arith, omega (arith, f.0.1)))
        (bind_exact W d (body_exact n.Semicolon s.Semicolon refl) (λ ts j. mapped W d (λ v. tree.group pos (expressions ts)) (expect_exact W d n.RightParen (kind.Sym s.RightParen) refl j))) (takes (kind.Sym s.LeftParen) i (ap token_of h))) in
        record { pass = c.pass; same = c.same }

    conditional_at : (i : Tokens) → next i ≡ n.If → ExactAt W b (spec.conditional d inner) (spec.conditional e other) primary_form i
    unfolding spec.conditional
    conditional_at i h =
        let rest : (q : Rule → Parser Tree) → Pos → Parser Tree = λ q pos. spec.tested q n.Then >>= (λ t. list_of (q rule.Expression) n.Semicolon >>= (λ ts. spec.otherwise q >>= (λ o. expect n.Fi >>= (λ u. pure (tree.choice pos t (expressions ts) o))))) in
        let F = both (both (ruled rule.Value) (token_form (keyword k.Then))) (both (body_form s.Semicolon) (both otherwise_form (token_form (keyword k.Fi)))) in
        let c = placed W b (λ pos. deepen d >>= (λ u. rest inner pos)) (λ pos. deepen e >>= (λ u. rest other pos)) primary_form i (λ pos.
        opening W d d e (λ u. rest inner pos) (λ u. rest other pos) F primary_form (keyword k.If) refl (λ v. tree.choice origin v.0.0 v.1.0 v.1.1.0) i le wide
        (λ v. ap (λ z. keyword k.If ∷ z) (sym (append_assoc (text v.0.0) (keyword k.Then ∷ []) (texts s.Semicolon v.1.0 ++ (otherwise_text v.1.1.0 ++ keyword k.Fi ∷ [])))))
        (λ n lt v f. ((f.0.0.0, f.0.0.1, f.1.0.0, f.1.1.0.0), omega arith, omega (arith, f.0.0.2, f.1.0.1, f.1.1.0.1)))
        (bind_exact W d (tested_exact n.Then (kind.Key k.Then) refl) (λ t. bind_exact W d (body_exact n.Semicolon s.Semicolon refl) (λ ts. bind_exact W d otherwise_exact (λ o j. mapped W d (λ u. tree.choice pos t (expressions ts) o) (expect_exact W d n.Fi (kind.Key k.Fi) refl j))))) (takes (kind.Key k.If) i (ap token_of h))) in
        record { pass = c.pass; same = c.same }

    repetition_at : (i : Tokens) → next i ≡ n.While → ExactAt W b (spec.repetition d inner) (spec.repetition e other) primary_form i
    unfolding spec.repetition
    repetition_at i h =
        let rest : (q : Rule → Parser Tree) → Pos → Parser Tree = λ q pos. spec.tested q n.Do >>= (λ t. list_of (q rule.Expression) n.Semicolon >>= (λ ts. expect n.Od >>= (λ u. pure (tree.loop pos t (expressions ts))))) in
        let F = both (both (ruled rule.Value) (token_form (keyword k.Do))) (both (body_form s.Semicolon) (token_form (keyword k.Od))) in
        let c = placed W b (λ pos. deepen d >>= (λ u. rest inner pos)) (λ pos. deepen e >>= (λ u. rest other pos)) primary_form i (λ pos.
        opening W d d e (λ u. rest inner pos) (λ u. rest other pos) F primary_form (keyword k.While) refl (λ v. tree.loop origin v.0.0 v.1.0) i le wide
        (λ v. ap (λ z. keyword k.While ∷ z) (sym (append_assoc (text v.0.0) (keyword k.Do ∷ []) (texts s.Semicolon v.1.0 ++ keyword k.Od ∷ []))))
        (λ n lt v f. ((f.0.0.0, f.0.0.1, f.1.0.0), omega arith, omega (arith, f.0.0.2, f.1.0.1)))
        (bind_exact W d (tested_exact n.Do (kind.Key k.Do) refl) (λ t. bind_exact W d (body_exact n.Semicolon s.Semicolon refl) (λ ts j. mapped W d (λ u. tree.loop pos t (expressions ts)) (expect_exact W d n.Od (kind.Key k.Od) refl j)))) (takes (kind.Key k.While) i (ap token_of h))) in
        record { pass = c.pass; same = c.same }

    created_at : (i : Tokens) → next i ≡ n.New → ExactAt W b spec.created spec.created primary_form i
    unfolding spec.created
    created_at i h =
        let rest : Pos → Parser Tree = λ pos. skip >>= (λ u. expect n.LeftParen >>= (λ v. expect_id n.Word >>= (λ x. expect n.RightParen >>= (λ w. pure (tree.creation pos x))))) in
        let c = placed W b rest rest primary_form i (λ pos. into W b (λ v. tree.creation origin v.1.1.0) (λ v. refl) (λ n lt v f. (tt, omega arith, lt))
        (bind_at W b (skip_at W b n.New (kind.Key k.New) i refl h) (λ u. bind_exact W b (expect_exact W b n.LeftParen (kind.Sym s.LeftParen) refl) (λ v. bind_exact W b (word_exact W b) (λ x j. mapped W b (λ w. tree.creation pos x) (expect_exact W b n.RightParen (kind.Sym s.RightParen) refl j)))))) in
        record { pass = c.pass; same = c.same }

    constant_at : (i : Tokens) → marks i ≡ mark (literal_kind (literal i)) ∷ marks (after i) → ExactAt W b spec.constant spec.constant primary_form i
    constant_at i shows = placed W b (λ pos. take_literal >>= (λ x. pure (tree.literal pos x))) (λ pos. take_literal >>= (λ x. pure (tree.literal pos x))) primary_form i (λ pos. into W b (λ x. tree.literal origin x) (λ x. refl) (λ n lt x f. (tt, omega arith, lt)) (mapped W b (λ x. tree.literal pos x) (taking W b literal literal_form (literal i) i literal_peeks shows (λ n. tt))))

    primary_at : (z : Next) (i : Tokens) → next i ≡ z → ExactAt W b (spec.primary_by d inner z) (spec.primary_by e other z) primary_form i
    primary_at n.Int i h = constant_at i (int_literal_is i h)
    primary_at n.Literal i h = constant_at i (literal_is i h)
    primary_at n.Word i h = into W b (λ x. tree.variable origin x) (λ x. refl) (λ n lt x f. (tt, omega arith, lt)) (mapped W b (λ x. tree.variable x.pos x) (take_word_at W b i h))
    primary_at n.Me i h = placed W b (λ pos. skip >>= (λ u. pure (tree.me pos))) (λ pos. skip >>= (λ u. pure (tree.me pos))) primary_form i (λ pos. into W b (λ v. tree.me origin) (λ v. refl) (λ n lt v f. (tt, omega arith, lt)) (mapped W b (λ u. tree.me pos) (skip_at W b n.Me (kind.Key k.Me) i refl h)))
    primary_at n.CurrentTime i h = placed W b (λ pos. skip >>= (λ u. pure (tree.clock pos))) (λ pos. skip >>= (λ u. pure (tree.clock pos))) primary_form i (λ pos. into W b (λ v. tree.clock origin) (λ v. refl) (λ n lt v f. (tt, omega arith, lt)) (mapped W b (λ u. tree.clock pos) (skip_at W b n.CurrentTime (kind.Key k.CurrentTime) i refl h)))
    primary_at n.New i h = created_at i h
    primary_at n.LeftParen i h = grouped_at i h
    primary_at n.If i h = conditional_at i h
    primary_at n.While i h = repetition_at i h
    primary_at _ i h = refuse_exact W b primary_form i

    primary_exact : Exact W b (spec.primary d inner) (spec.primary e other) primary_form
    unfolding spec.primary
    primary_exact = dispatch W b (spec.primary_by d inner) (spec.primary_by e other) primary_form primary_at

    pub arguments_exact : Exact W b (spec.arguments d inner) (spec.arguments e other) arguments_form
    unfolding spec.arguments
    arguments_exact = dispatch W b (spec.arguments_by d inner) (spec.arguments_by e other) arguments_form at
      where
        at : (z : Next) (i : Tokens) → next i ≡ z → ExactAt W b (spec.arguments_by d inner z) (spec.arguments_by e other z) arguments_form i
        at n.LeftParen i h = mapped W b (λ ts. written (expressions ts)) (enclosed_at n.Comma n.RightParen s.LeftParen s.Comma s.RightParen arguments_form (λ ts. written ts) refl refl (λ ts. refl) (λ n lt ts f. (f.0, omega (arith, f.1))) i (ap token_of h))
        at _ i h = into W b (λ v. left_out) (λ v. refl) (λ n lt v f. (tt, lt)) (pure_exact W b left_out i)

    sending_at : (i : Tokens) → selects i ≡ true → ExactAt W b (spec.one_sending d inner) (spec.one_sending e other) sending_form i
    unfolding spec.one_sending
    sending_at i h =
        let c = into W b (λ v. (v.0, v.1)) (λ v. refl) (λ n lt v f. f.1) (take_then W b identifier (λ x. spec.arguments d inner >>= (λ a. pure (x, a))) (λ x. spec.arguments e other >>= (λ a. pure (x, a))) (name_form selector) arguments_form (identifier i) i identifier_peeks (selector_is i h) (λ n. tt) (λ x. mapped W b (λ a. (x, a)) (arguments_exact (after i)))) in
        record { pass = c.pass; same = c.same }

    sendings_exact : Exact W b (spec.all_sendings d inner) (spec.all_sendings e other) (each_form sending_form)
    unfolding spec.all_sendings
    sendings_exact = each_exact b sending_form (λ x. omega arith) selects selects_peeks W (spec.one_sending d inner) (spec.one_sending e other) sending_at

    sent_exact : Exact W b (spec.sent_to d inner) (spec.sent_to e other) sent_form
    unfolding spec.sent_to
    sent_exact i =
        let c = placed W b (λ pos. spec.primary d inner >>= (λ t. spec.all_sendings d inner >>= (λ ss. pure (spec.sent pos t ss)))) (λ pos. spec.primary e other >>= (λ t. spec.all_sendings e other >>= (λ ss. pure (spec.sent pos t ss)))) sent_form i
        (λ pos. into W b (λ v. spec.sent origin v.0 v.1) (λ v. sent_text v.0 v.1) (λ n lt v f. sent_fits n lt v.0 v.1 f.0 f.1) (bind_at W b (primary_exact i) (λ t j. mapped W b (λ ss. spec.sent pos t ss) (sendings_exact j)))) in
        record { pass = c.pass; same = c.same }

    -- ---- operands and chains

    signed_at : (z : Next) (op : Symbol) (i : Tokens) → token_of z ≡ Some (kind.Sym op) → IsSign op → next i ≡ z → ExactAt W b (spec.signed d inner op) (spec.signed e other op) (ruled rule.Operand) i
    unfolding spec.signed
    signed_at z op i shows sign h =
        let rest : (q : Rule → Parser Tree) → Pos → Parser Tree = λ q pos. q rule.Operand >>= (λ t. pure (tree.unary pos op t)) in
        let c = placed W b (λ pos. deepen d >>= (λ u. rest inner pos)) (λ pos. deepen e >>= (λ u. rest other pos)) (ruled rule.Operand) i (λ pos.
        opening W d d e (λ u. rest inner pos) (λ u. rest other pos) (ruled rule.Operand) (ruled rule.Operand) (symbol op) refl (λ t. tree.unary origin op t) i le wide (λ t. refl) (λ n lt t f. ((sign, f.0, f.1), omega arith, omega (arith, f.2)))
        (λ j. mapped W d (λ t. tree.unary pos op t) (x rule.Operand j)) (takes (kind.Sym op) i (ap token_of h ∙ shows))) in
        record { pass = c.pass; same = c.same }

    operand_at : (z : Next) (i : Tokens) → next i ≡ z → ExactAt W b (spec.operand_by d inner z) (spec.operand_by e other z) (ruled rule.Operand) i
    operand_at n.Minus i h = signed_at n.Minus s.Minus i refl tt h
    operand_at n.Bang i h = signed_at n.Bang s.Bang i refl tt h
    operand_at _ i h = into W b (λ t. t) (λ t. refl) (λ n lt t f. (f.0, omega (arith, f.1), f.2)) (sent_exact i)

    operand_exact : Exact W b (spec.operand d inner) (spec.operand e other) (ruled rule.Operand)
    unfolding spec.operand
    operand_exact = dispatch W b (spec.operand_by d inner) (spec.operand_by e other) (ruled rule.Operand) operand_at

    products_exact : Exact W b (spec.products d inner) (spec.products e other) (ruled rule.Product)
    products_exact = chain_exact W b rule.Product (omega arith) (omega arith) (spec.operand d inner) (spec.operand e other) (relevel W 6 (rank_le rule.Operand) (omega arith) operand_exact)

    sums_exact : Exact W b (spec.sums d inner) (spec.sums e other) (ruled rule.Sum)
    sums_exact = chain_exact W b rule.Sum (omega arith) (omega arith) (spec.products d inner) (spec.products e other) (relevel W 5 (rank_le rule.Product) (omega arith) products_exact)

    comparisons_exact : Exact W b (spec.comparisons d inner) (spec.comparisons e other) (ruled rule.Comparison)
    comparisons_exact = chain_exact W b rule.Comparison (omega arith) (omega arith) (spec.sums d inner) (spec.sums e other) (relevel W 4 (rank_le rule.Sum) (omega arith) sums_exact)

    conjunctions_exact : Exact W b (spec.conjunctions d inner) (spec.conjunctions e other) (ruled rule.Conjunction)
    conjunctions_exact = chain_exact W b rule.Conjunction (omega arith) (omega arith) (spec.comparisons d inner) (spec.comparisons e other) (relevel W 3 (rank_le rule.Comparison) (omega arith) comparisons_exact)

    values_exact : Exact W b (spec.values d inner) (spec.values e other) (ruled rule.Value)
    values_exact = chain_exact W b rule.Value (omega arith) (omega arith) (spec.conjunctions d inner) (spec.conjunctions e other) (relevel W 2 (rank_le rule.Conjunction) (omega arith) conjunctions_exact)

    -- a value that begins with an identifier goes past it
    primary_past : (i : Tokens) → next i ≡ n.Word → Low (length (after i)) (spec.primary d inner i)
    unfolding spec.primary
    primary_past i h = rw h (low_ok (tree.variable (identifier i).pos (identifier i), after i) (omega arith))

    sent_past : (i : Tokens) → next i ≡ n.Word → Low (length (after i)) (spec.sent_to d inner i)
    unfolding spec.sent_to
    sent_past i h = low_bind (length (after i)) (spec.primary d inner i) (λ t. spec.all_sendings d inner >>= (λ ss. pure (spec.sent (position i) t ss))) (primary_past i h) (λ y. low (pass_mapped b (each_form sending_form) y.1 (spec.all_sendings d inner y.1) (λ ss. spec.sent (position i) y.0 ss) (sendings_exact y.1).pass))

    operand_past : (i : Tokens) → next i ≡ n.Word → Low (length (after i)) (spec.operand d inner i)
    unfolding spec.operand
    operand_past i h = rw h (sent_past i h)

    value_past : (i : Tokens) → next i ≡ n.Word → Low (length (after i)) (spec.values d inner i)
    value_past i h =
        let m = length (after i) in
        let a = chain_low W b rule.Product (omega arith) (omega arith) (spec.operand d inner) (spec.operand e other) (relevel W 6 (rank_le rule.Operand) (omega arith) operand_exact) m i (operand_past i h) in
        let c = chain_low W b rule.Sum (omega arith) (omega arith) (spec.products d inner) (spec.products e other) (relevel W 5 (rank_le rule.Product) (omega arith) products_exact) m i a in
        let f = chain_low W b rule.Comparison (omega arith) (omega arith) (spec.sums d inner) (spec.sums e other) (relevel W 4 (rank_le rule.Sum) (omega arith) sums_exact) m i c in
        let g = chain_low W b rule.Conjunction (omega arith) (omega arith) (spec.comparisons d inner) (spec.comparisons e other) (relevel W 3 (rank_le rule.Comparison) (omega arith) comparisons_exact) m i f in
        chain_low W b rule.Value (omega arith) (omega arith) (spec.conjunctions d inner) (spec.conjunctions e other) (relevel W 2 (rank_le rule.Conjunction) (omega arith) conjunctions_exact) m i g

    by_rule_exact : (r : Rule) → Exact W b (spec.by_rule d inner r) (spec.by_rule e other r) (ruled r)
    by_rule_exact rule.Expression = expression_exact W b (spec.values d inner) (spec.values e other) values_exact value_past
    by_rule_exact rule.Value = values_exact
    by_rule_exact rule.Conjunction = conjunctions_exact
    by_rule_exact rule.Comparison = comparisons_exact
    by_rule_exact rule.Sum = sums_exact
    by_rule_exact rule.Product = products_exact
    by_rule_exact rule.Operand = operand_exact

-- What a rule of expressions passes begins the text of an expression that it has.
pub expr_exact : (W : Type 0) (d e : ℕ) → d ≤ e → (d < e → W) → (r : Rule) → Exact W (suc d) (spec.expr d r) (spec.expr e r) (ruled r)
unfolding spec.expr
expr_exact W zero zero le wide r = by_rule_exact W zero zero le wide (λ _. refuse) (λ _. refuse) (λ q. below_none W refuse (ruled q)) r
expr_exact W zero (suc e) le wide r = by_rule_exact W zero (suc e) le wide (λ _. refuse) (spec.expr e) (λ q. below_none W (spec.expr e q) (ruled q)) r
expr_exact W (suc d) zero le wide r = absurd (omega (arith, le))
expr_exact W (suc d) (suc e) le wide r = by_rule_exact W (suc d) (suc e) le wide (spec.expr d) (spec.expr e) (expr_exact W d e (omega (arith, le)) (λ lt. wide (omega (arith, lt)))) r

-- the same one construct further in
pub below_exact : (W : Type 0) (d e : ℕ) → d ≤ e → (d < e → W) → (r : Rule) → Exact W d (spec.below d r) (spec.below e r) (ruled r)
below_exact W zero e le wide r = below_none W (spec.below e r) (ruled r)
below_exact W (suc d) zero le wide r = absurd (omega (arith, le))
below_exact W (suc d) (suc e) le wide r = expr_exact W d e (omega (arith, le)) (λ lt. wide (omega (arith, lt))) r

pub expr_past : (W : Type 0) (d : ℕ) (i : Tokens) → next i ≡ n.Word → Low (length (after i)) (spec.expr d rule.Value i)
unfolding spec.expr
expr_past W zero i h = value_past W zero zero (omega arith) (λ lt. absurd (omega (arith, lt))) (λ _. refuse) (λ _. refuse) (λ q. below_none W refuse (ruled q)) i h
expr_past W (suc d) i h = value_past W (suc d) (suc d) (omega arith) (λ lt. absurd (omega (arith, lt))) (spec.expr d) (spec.expr d) (expr_exact W d d (omega arith) (λ lt. absurd (omega (arith, lt)))) i h
