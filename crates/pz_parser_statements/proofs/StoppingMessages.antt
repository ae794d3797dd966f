-- Where sends, receptions and calls stop.
use Rattle.std.proofs.Common.{◌≡◌, ℕ, zero, suc, ◌+◌, ◌≤◌, ◌<◌, Bool, true, false, cond, List, [], ◌∷◌, ◌++◌, length, Option, Some, None, Ok, Err, refl, ap, sym, arith, append_assoc}
use Rattle.std.specs.Prelude.{⊤}
use Rattle.pz_syntax.specs.declared.tokens.Pos.{Pos}
use Rattle.pz_syntax.specs.declared.tokens.Symbol.TheVariants as s
use Rattle.pz_syntax.specs.declared.tokens.Keyword.TheVariants as k
use Rattle.pz_syntax.specs.declared.tokens.TokenKind.TheVariants as kind
use Rattle.pz_syntax.specs.declared.tokens.Mark.{Mark}
use Rattle.pz_syntax.specs.declared.names.Id.{Id}
use Rattle.pz_syntax.specs.Marks.{symbol, keyword, head, in_parentheses, names_text}
use Rattle.pz_syntax.specs.Expressions.{Expressions, none, Part, left_out, written}
use Rattle.pz_syntax.specs.ExpressionErasure.{origin}
use Rattle.pz_syntax.specs.ExpressionView.{list_of as expressions}
use Rattle.pz_syntax.specs.ExpressionView as expression
use Rattle.pz_syntax.specs.ExpressionText.{texts as expression_texts}
use Rattle.pz_syntax.specs.ExpressionForm.{AreExpressions, IsValue}
use Rattle.pz_syntax.specs.ExpressionNesting.{nestings, bracketed_nesting}
use Rattle.pz_syntax.specs.Statements as tree
use Rattle.pz_syntax.specs.StatementView.{Tree}
use Rattle.pz_syntax.specs.StatementText.{text, after_text, condition_text, reception_text}
use Rattle.pz_syntax.specs.StatementForm.{IsStatement, IsAfter, IsReception}
use Rattle.pz_syntax.specs.StatementNesting.{nesting, condition_nesting, reception_nesting}
use Rattle.pz_syntax.specs.ModelForm.{IfWritten}
use Rattle.pz_parser_cursor.specs.declared.ahead.Next.{Next}
use Rattle.pz_parser_cursor.specs.declared.ahead.Next.TheVariants as n
use Rattle.pz_parser_cursor.specs.devices.LookAhead.{next}
use Rattle.pz_parser_cursor.specs.devices.Input.{Tokens, marks, after, identifier, position, sees}
use Rattle.pz_parser_cursor.specs.devices.Device.{Outcome, Parser, ◌>>=◌, ◌>>◌, pure, refuse, skip, take_id, and_then, expect, expect_id, deepen}
use Rattle.pz_parser_cursor.specs.devices.Names.{optional_names}
use Rattle.pz_parser_cursor.proofs.Shown.{token_of}
use Rattle.pz_parser_cursor.proofs.Steps.{takes, sees_is}
use Rattle.pz_parser_cursor.proofs.Words.{word_is, head_is}
use Rattle.pz_parser_expressions.specs.declared.rule.Rule.TheVariants as rule
use Rattle.pz_parser_expressions.specs.devices.Values.{below, enclosed, exprs_before, arguments}
use Rattle.pz_parser_statements.specs.devices.Messages as spec
use Rattle.pz_parser_cursor.proofs.Stopping.{Form, token_form, both, Begun, Front, front_as, begun, named, Taken, Pass, took, stopped, Low, ExactAt, Exact, low, into, bind_at, bind_exact, pure_exact, mapped, refuse_exact, take_then, if_at, dispatch, placed, opening, as_equal}
use Rattle.pz_parser_cursor.proofs.StoppingLists.{identifier_peeks, sees_peeks, name_form, word_form, optional_form, expect_exact, word_exact, skip_at, optional_exact}
use Rattle.pz_parser_cursor.proofs.StoppingNames.{names_form, optional_names_exact}
use Rattle.pz_parser_expressions.proofs.StoppingExpressions.{ruled, list_form, arguments_form}
use Rattle.pz_parser_expressions.proofs.StoppingValues.{enclosed_at, before_exact, arguments_exact, below_exact}

abbrev pub statement_form : Form
statement_form = record { Shape = Tree; text = text; Fits = λ n t. IsStatement t × (nesting t < n); some = λ n lt. (tree.skip origin, (tt, lt)) }

abbrev after_form : Form
after_form = record { Shape = Part Id Id; text = after_text; Fits = λ n a. IsAfter a × (bracketed_nesting a < n); some = λ n lt. (left_out, (tt, lt)) }

abbrev condition_form : Form
condition_form = record { Shape = Option expression.Tree; text = condition_text; Fits = λ n o. IfWritten IsValue o × (condition_nesting o < n); some = λ n lt. (None, (tt, lt)) }

abbrev reception_form : Form
reception_form = record { Shape = spec.ReceptionTree; text = λ r. reception_text r.0 r.1; Fits = λ n r. IsReception r.0 r.1 × (reception_nesting r.0 r.1 < n); some = λ n lt. ((None, None), (tt, lt)) }

abbrev results_form : Form
results_form = record { Shape = List Id; text = λ xs. in_parentheses (names_text xs); Fits = λ n x. ⊤; some = λ n lt. ([], tt) }

condition_of : (o : Option (Unit {0} × expression.Tree)) → Option expression.Tree
condition_of None = None
condition_of (Some v) = Some v.1

is_reception : (xs : List Id) (o : Option expression.Tree) → IfWritten IsValue o → IsReception (Some xs) o
is_reception xs None h = tt
is_reception xs (Some e) h = h

-- What stands behind the name of a call. Where nothing may nest the brackets are missing.
abbrev rest_text : Option (Expressions Id Id × List Id) → List Mark
rest_text None = []
rest_text (Some v) = symbol s.LeftParen ∷ (expression_texts s.Comma v.0 ++ symbol s.RightParen ∷ in_parentheses (names_text v.1))

abbrev RestFits : ℕ → Option (Expressions Id Id × List Id) → Type 0
RestFits n None = n ≤ 1
RestFits n (Some v) = AreExpressions v.0 × (suc (nestings v.0) < n)

some_rest : (n : ℕ) → 0 < n → (x : Option (Expressions Id Id × List Id)) × RestFits n x
some_rest zero lt = absurd (omega (arith, lt))
some_rest (suc zero) lt = (None, omega arith)
some_rest (suc (suc n)) lt = (Some (none, []), (tt, omega arith))

abbrev rest_form : Form
rest_form = record { Shape = Option (Expressions Id Id × List Id); text = rest_text; Fits = RestFits; some = some_rest }

abbrev call_form : Form
call_form = both (name_form head) rest_form

module _ where
  called_tree : Id → Expressions Id Id × List Id → Tree
  called_tree x v = tree.call origin x v.0 v.1

  call_begun : (n : ℕ) → 1 < n → (p : List Mark) → Begun call_form n p → Begun statement_form n p
  unfolding called_tree
  call_begun n lt p f = by f.whole f.meets f.parts
    where
      by : (w : Id × Option (Expressions Id Id × List Id)) → call_form.Fits n w → call_form.text w ≡ p ++ f.rest → Begun statement_form n p
      by (x, None) h e = absurd (omega (arith, h.1, lt))
      by (x, Some v) h e = record { whole = called_tree x v; rest = f.rest; meets = h.1; parts = e }

  skip_begun : (n : ℕ) → 0 < n → Begun statement_form n (keyword k.Skip ∷ [])
  skip_begun n lt = record { whole = tree.skip origin; rest = []; meets = (tt, lt); parts = refl }

  name_begun : (x : Id) (n m : ℕ) → 0 < n → n < m → Begun statement_form m (head x ∷ [])
  name_begun x n m lt le = record { whole = tree.call origin x none []; rest = rest_text (Some (none, [])); meets = (tt, omega (arith, lt, le)); parts = refl }

  -- of a call where nothing may nest the name alone stands
  name_alone : (x : Id) (p r : List Mark) (n : ℕ) → 0 < n → head x ∷ [] ≡ p ++ r → Front statement_form n p
  name_alone x [] r n lt e = begun [] (record { whole = tree.skip origin; rest = keyword k.Skip ∷ []; meets = (tt, lt); parts = refl })
  name_alone x (y ∷ []) r n lt e =
      let same : head x ≡ y = cc in
      front_as statement_form n (head x ∷ []) (y ∷ []) (ap (λ z. z ∷ []) same) (named [] x (skip_begun n lt) (λ m le. name_begun x n m lt le))
  name_alone x (y ∷ z ∷ p) r n lt e = absurd cc

  call_front : (n : ℕ) → 0 < n → (p : List Mark) → Front call_form n p → Front statement_form n p
  call_front zero lt p f = absurd (omega (arith, lt))
  call_front (suc zero) lt _ (begun p f) = by f.whole f.meets f.parts
    where
      by : (w : Id × Option (Expressions Id Id × List Id)) → call_form.Fits 1 w → call_form.text w ≡ p ++ f.rest → Front statement_form 1 p
      by (x, None) h e = name_alone x p f.rest 1 (omega arith) e
      by (x, Some v) h e = absurd (omega (arith, h.1.1))
  call_front (suc zero) lt _ (named p y f g) = by p f.whole f.meets f.parts
    where
      by : (q : List Mark) (w : Id × Option (Expressions Id Id × List Id)) → call_form.Fits 1 w → call_form.text w ≡ (q ++ keyword k.Skip ∷ []) ++ f.rest → Front statement_form 1 (p ++ head y ∷ [])
      by [] (x, None) h e = let same : head x ≡ keyword k.Skip = cc in let g : true ≡ false = ap (λ (m : Mark). m.head) same in absurd cc
      by (z ∷ []) (x, None) h e = absurd cc
      by (z ∷ v ∷ q) (x, None) h e = absurd cc
      by q (x, Some v) h e = absurd (omega (arith, h.1.1))
  call_front (suc (suc n)) lt _ (begun p f) = begun p (call_begun (suc (suc n)) (omega arith) p f)
  call_front (suc (suc n)) lt _ (named p y f g) = named p y (call_begun (suc (suc n)) (omega arith) (p ++ keyword k.Skip ∷ []) f) (λ m le. call_begun m (omega (arith, le)) (p ++ head y ∷ []) (g m le))

  call_pass : {V : Type 0} (b : ℕ) (i : Tokens) (o : Outcome V) → Pass b call_form i o → Pass b statement_form i o
  unfolding called_tree
  call_pass b i _ (took y t) = took y (by t.shape t.parts t.meets)
    where
      by : (w : Id × Option (Expressions Id Id × List Id)) → marks i ≡ call_form.text w ++ marks y.1 → ((n : ℕ) → b ≤ n → 0 < n → call_form.Fits n w) → Taken b statement_form i y.1
      by (x, None) e h = absurd (let l = (h (b + 2) (omega arith) (omega arith)).1 in omega (arith, l))
      by (x, Some v) e h = record { shape = called_tree x v; parts = e; meets = λ n le lt. (h n le lt).1 }
  call_pass b i _ (stopped r s) = stopped r (record {
    passed = s.passed;
    ahead = s.ahead;
    parts = s.parts;
    place = s.place;
    begins = λ n le lt. call_front n lt s.passed (s.begins n le lt);
    deeper = λ h. let d = s.deeper h in record { first = d.first; others = d.others; parts = d.parts; plain = d.plain; begins = λ n lt. call_front n (omega (arith, lt)) (s.passed ++ d.first ∷ []) (d.begins n lt) };
  })

condition_texts : (o : Option (Unit {0} × expression.Tree)) → condition_text (condition_of o) ≡ (optional_form (both (token_form (symbol s.Bar)) (ruled rule.Value))).text o
unfolding condition_of
condition_texts None = refl
condition_texts (Some v) = refl

condition_fits : (n : ℕ) → 0 < n → (o : Option (Unit {0} × expression.Tree)) → (optional_form (both (token_form (symbol s.Bar)) (ruled rule.Value))).Fits n o → condition_form.Fits n (condition_of o)
unfolding condition_of
condition_fits n lt None f = (tt, lt)
condition_fits n lt (Some v) f = ((f.1.0, f.1.1), f.1.2)

abbrev spec_before : ℕ → Parser (List expression.Tree)
spec_before m = exprs_before (below m) n.Comma n.RightParen

results_exact : (W : Type 0) (b : ℕ) → Exact W b spec.call_results spec.call_results results_form
unfolding spec.call_results
results_exact W b i = into W b (λ v. v.1.0) (λ v. refl) (λ n lt v f. tt) (bind_at W b (expect_exact W b n.LeftParen (kind.Sym s.LeftParen) refl i) (λ u. bind_exact W b (optional_names_exact W b) (λ xs j. mapped W b (λ v. xs) (expect_exact W b n.RightParen (kind.Sym s.RightParen) refl j))))

module _ (W : Type 0) (d e : ℕ) (le : d ≤ e) (wide : d < e → W) where
  abbrev b : ℕ
  b = suc d

  pub after_exact : Exact W b (spec.after_message d) (spec.after_message e) after_form
  unfolding spec.after_message
  after_exact = dispatch W b (spec.after_by d) (spec.after_by e) after_form at
    where
      at : (x : Next) (i : Tokens) → next i ≡ x → ExactAt W b (spec.after_by d x) (spec.after_by e x) after_form i
      at n.LeftBrace i h = mapped W b (λ es. written (expressions es)) (enclosed_at W d e le wide (below d) (below e) (below_exact W d e le wide) n.Semicolon n.RightBrace s.LeftBrace s.Semicolon s.RightBrace after_form (λ ts. written ts) refl refl (λ ts. refl) (λ n lt ts f. (f.0, omega (arith, f.1))) i (ap token_of h))
      at _ i h = into W b (λ v. left_out) (λ v. refl) (λ n lt v f. (tt, lt)) (pure_exact W b left_out i)

  pub sent_at : (i : Tokens) → next i ≡ n.Word → sees n.Bang (after i) ≡ true → ExactAt W b (spec.sent d) (spec.sent e) statement_form i × Low (length (after i)) (spec.sent d i)
  unfolding spec.sent
  sent_at i h g =
      let behind : (m : ℕ) → Pos → Id → Parser Tree = λ m at port. skip >>= (λ u. expect_id n.Word >>= (λ message. arguments m (below m) >>= (λ args. spec.after_message m >>= (λ block. pure (tree.send at port message args block))))) in
      let F = both (token_form (symbol s.Bang)) (both word_form (both arguments_form after_form)) in
      let known : (at : Pos) (port : Id) → ExactAt W b (behind d at port) (behind e at port) F (after i) =
      λ at port. bind_at W b (skip_at W b n.Bang (kind.Sym s.Bang) (after i) refl (sees_is n.Bang (after i) g)) (λ u. bind_exact W b (word_exact W b) (λ message. bind_exact W b (arguments_exact W d e le wide (below d) (below e) (below_exact W d e le wide)) (λ args j. mapped W b (λ block. tree.send at port message args block) (after_exact j)))) in
      let c = placed W b (λ at. take_id >>= behind d at) (λ at. take_id >>= behind e at) statement_form i
      (λ at. into W b (λ v. tree.send origin v.0 v.1.1.0 v.1.1.1.0 v.1.1.1.1) (λ v. refl) (λ n lt v f. ((f.1.1.1.0.0, f.1.1.1.1.0), omega (arith, f.1.1.1.0.1, f.1.1.1.1.1))) (take_then W b identifier (behind d at) (behind e at) word_form F (identifier i) i identifier_peeks (word_is i h) (λ n. tt) (known at))) in
      (record { pass = c.pass; same = c.same }, low (known (position i) (identifier i)).pass)

  condition_exact : Exact W d (spec.condition d) (spec.condition e) condition_form
  unfolding spec.condition
  condition_exact i = into W d condition_of condition_texts condition_fits (optional_exact W d (skip >> below d rule.Value) (skip >> below e rule.Value) (both (token_form (symbol s.Bar)) (ruled rule.Value)) (sees n.Bar) (sees_peeks n.Bar) (λ j h. bind_at W d (skip_at W d n.Bar (kind.Sym s.Bar) j refl (sees_is n.Bar j h)) (λ u. below_exact W d e le wide rule.Value)) i)

  reception_at : (i : Tokens) → next i ≡ n.LeftParen → ExactAt W b (spec.enclosed_reception d) (spec.enclosed_reception e) reception_form i
  unfolding spec.enclosed_reception
  reception_at i h =
      let rest : (m : ℕ) → Parser spec.ReceptionTree = λ m. optional_names >>= (λ xs. spec.condition m >>= (λ o. expect n.RightParen >>= (λ v. pure (Some xs, o)))) in
      let c = opening W d d e (λ u. rest d) (λ u. rest e) (both names_form (both condition_form (token_form (symbol s.RightParen)))) reception_form (symbol s.LeftParen) refl (λ v. (Some v.0, v.1.0)) i le wide
      (λ v. ap (λ z. symbol s.LeftParen ∷ z) (append_assoc (names_text v.0) (condition_text v.1.0) (symbol s.RightParen ∷ [])))
      (λ n lt v f. (is_reception v.0 v.1.0 f.1.0.0, omega (arith, f.1.0.1)))
      (bind_exact W d (optional_names_exact W d) (λ xs. bind_exact W d condition_exact (λ o j. mapped W d (λ v. (Some xs, o)) (expect_exact W d n.RightParen (kind.Sym s.RightParen) refl j)))) (takes (kind.Sym s.LeftParen) i (ap token_of h)) in
      record { pass = c.pass; same = c.same }

  reception_exact : Exact W b (spec.reception d) (spec.reception e) reception_form
  unfolding spec.reception
  reception_exact = dispatch W b (spec.reception_by d) (spec.reception_by e) reception_form at
    where
      at : (x : Next) (i : Tokens) → next i ≡ x → ExactAt W b (spec.reception_by d x) (spec.reception_by e x) reception_form i
      at n.LeftParen i h = reception_at i h
      at _ i h = into W b (λ v. (None, None)) (λ v. refl) (λ n lt v f. (tt, lt)) (pure_exact W b (None, None) i)

  pub received_at : (i : Tokens) → next i ≡ n.Word → sees n.Query (after i) ≡ true → ExactAt W b (spec.received d) (spec.received e) statement_form i × Low (length (after i)) (spec.received d i)
  unfolding spec.received
  received_at i h g =
      let behind : (m : ℕ) → Pos → Id → Parser Tree = λ m at port. skip >>= (λ u. expect_id n.Word >>= (λ message. spec.reception m >>= (λ r. spec.after_message m >>= (λ block. pure (tree.receive at port message r.0 r.1 block))))) in
      let F = both (token_form (symbol s.Query)) (both word_form (both reception_form after_form)) in
      let known : (at : Pos) (port : Id) → ExactAt W b (behind d at port) (behind e at port) F (after i) =
      λ at port. bind_at W b (skip_at W b n.Query (kind.Sym s.Query) (after i) refl (sees_is n.Query (after i) g)) (λ u. bind_exact W b (word_exact W b) (λ message. bind_exact W b reception_exact (λ r j. mapped W b (λ block. tree.receive at port message r.0 r.1 block) (after_exact j)))) in
      let c = placed W b (λ at. take_id >>= behind d at) (λ at. take_id >>= behind e at) statement_form i
      (λ at. into W b (λ v. tree.receive origin v.0 v.1.1.0 v.1.1.1.0.0 v.1.1.1.0.1 v.1.1.1.1) (λ v. refl) (λ n lt v f. ((f.1.1.1.0.0, f.1.1.1.1.0), omega (arith, f.1.1.1.0.1, f.1.1.1.1.1))) (take_then W b identifier (behind d at) (behind e at) word_form F (identifier i) i identifier_peeks (word_is i h) (λ n. tt) (known at))) in
      (record { pass = c.pass; same = c.same }, low (known (position i) (identifier i)).pass)

  -- ---- calls

  abbrev inside : (m : ℕ) → Pos → Id → Parser Tree
  inside m at method = (spec_before m >>= (λ ts. expect n.RightParen >>= (λ v. pure ts))) >>= (λ ts. spec.call_results >>= (λ results. pure (tree.call at method (expressions ts) results)))

  abbrev behind : (m : ℕ) → Pos → Id → Parser Tree
  behind m at method = spec.call_arguments m >>= (λ ts. spec.call_results >>= (λ results. pure (tree.call at method (expressions ts) results)))

  inside_exact : (at : Pos) (method : Id) → Exact W d (inside d at method) (inside e at method) (both (both (list_form s.Comma) (token_form (symbol s.RightParen))) results_form)
  inside_exact at method = bind_exact W d (bind_exact W d (before_exact W d e le wide (below d) (below e) (below_exact W d e le wide) n.Comma n.RightParen s.Comma refl) (λ ts j. mapped W d (λ v. ts) (expect_exact W d n.RightParen (kind.Sym s.RightParen) refl j))) (λ ts j. mapped W d (λ results. tree.call at method (expressions ts) results) (results_exact W d j))

  behind_is : (m : ℕ) (at : Pos) (method : Id) (j : Tokens) → behind m at method j ≡ cond (sees n.LeftParen j) ((deepen m >>= (λ u. inside m at method)) j) (let o : Outcome Tree = refuse j in o)
  unfolding spec.call_arguments enclosed
  behind_is m at method j = by (sees n.LeftParen j)
    where
      assoc : (o : Outcome (Unit {0})) (g : Unit {0} → Parser (List expression.Tree)) (f : List expression.Tree → Parser Tree) → and_then (and_then o g) f ≡ and_then o (λ u. g u >>= f)
      assoc (Ok y) g f = refl
      assoc (Err r) g f = refl

      f : List expression.Tree → Parser Tree
      f ts = spec.call_results >>= (λ results. pure (tree.call at method (expressions ts) results))

      by : (c : Bool) → and_then (cond c (enclosed m (below m) n.Comma n.RightParen j) (refuse j)) (λ ts. spec.call_results >>= (λ results. pure (tree.call at method (expressions ts) results))) ≡ cond c ((deepen m >>= (λ u. inside m at method)) j) (refuse j)
      by true = assoc (deepen m j) (λ u. spec_before m >>= (λ ts. expect n.RightParen >>= (λ v. pure ts))) (λ ts. spec.call_results >>= (λ results. pure (tree.call at method (expressions ts) results)))
      by false = refl

  rest_exact : (at : Pos) (method : Id) → Exact W b (behind d at method) (behind e at method) rest_form
  rest_exact at method i =
      let none : Parser Tree = refuse in
      as_equal W b (λ j. cond (sees n.LeftParen j) ((deepen d >>= (λ u. inside d at method)) j) (none j)) (λ j. cond (sees n.LeftParen j) ((deepen e >>= (λ u. inside e at method)) j) (none j)) (behind d at method) (behind e at method) rest_form i (behind_is d at method) (behind_is e at method)
      (if_at W b (sees n.LeftParen) (deepen d >>= (λ u. inside d at method)) (deepen e >>= (λ u. inside e at method)) none none rest_form i (sees_peeks n.LeftParen)
      (λ h. opening W d d e (λ u. inside d at method) (λ u. inside e at method) (both (both (list_form s.Comma) (token_form (symbol s.RightParen))) results_form) rest_form (symbol s.LeftParen) refl (λ v. Some (v.0.0, v.1)) i le wide
      (λ v. ap (λ z. symbol s.LeftParen ∷ z) (sym (append_assoc (expression_texts s.Comma v.0.0) (symbol s.RightParen ∷ []) (in_parentheses (names_text v.1)))))
      (λ n lt v f. (f.0.0.0, omega (arith, f.0.0.1)))
      (inside_exact at method) (takes (kind.Sym s.LeftParen) i (ap token_of (sees_is n.LeftParen i h))))
      (λ h. refuse_exact W b rest_form i))

  pub called_at : (i : Tokens) → next i ≡ n.Head → ExactAt W b (spec.called d) (spec.called e) statement_form i
  unfolding spec.called
  called_at i h =
      let c = placed W b (λ at. take_id >>= behind d at) (λ at. take_id >>= behind e at) statement_form i (λ at.
      let k = take_then W b identifier (behind d at) (behind e at) (name_form head) rest_form (identifier i) i identifier_peeks (head_is i h) (λ n. tt) (λ x. rest_exact at x (after i)) in
      record { pass = call_pass b i ((take_id >>= behind d at) i) k.pass; same = k.same }) in
      record { pass = c.pass; same = c.same }
