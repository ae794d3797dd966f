-- What may stand of a statement, against the fronts of its text.
use Rattle.std.proofs.Common.{◌≡◌, ℕ, zero, suc, ◌≤◌, inl, inr, true, false, List, [], ◌∷◌, ◌++◌, Option, Some, None, refl, ap, sym, subst, arith}
use Rattle.std.specs.Prelude.{⊤, max}
use Rattle.pz_syntax.specs.declared.tokens.Pos.{Pos}
use Rattle.pz_syntax.specs.declared.tokens.Symbol.TheVariants as s
use Rattle.pz_syntax.specs.declared.tokens.Keyword.{Keyword}
use Rattle.pz_syntax.specs.declared.tokens.Keyword.TheVariants as k
use Rattle.pz_syntax.specs.declared.tokens.Mark.{Mark}
use Rattle.pz_syntax.specs.declared.names.Id.{Id}
use Rattle.pz_syntax.specs.Marks.{symbol, keyword, word, head, names_text}
use Rattle.pz_syntax.specs.Expressions.{Expression, Expressions, none, Part, left_out, written}
use Rattle.pz_syntax.specs.ExpressionErasure.{origin}
use Rattle.pz_syntax.specs.ExpressionNesting.{bracketed_nesting}
use Rattle.pz_syntax.specs.ExpressionForm.{IsValue, AreExpressions}
use Rattle.pz_syntax.specs.Statements.{Statement, skip, delay, bracketed, block, guarded, parallel, select, conditional, repeated, abort, interrupt, send, receive, call, assignment, value, Statements, no_statements, then, StatementPart, not_written, otherwise, Branches, no_branches, branch}
use Rattle.pz_syntax.specs.StatementText.{after_text, condition_text, reception_text, text, texts, tail_texts, otherwise_text, branches_text, tail_branches}
use Rattle.pz_syntax.specs.StatementNesting.{condition_nesting, reception_nesting, nesting, nestings, otherwise_nesting, branches_nesting}
use Rattle.pz_syntax.specs.StatementForm.{IsAfter, IsReception, IsStatement, AreStatements, FollowStatements, IsOtherwise, AreBranches, FollowBranches}
use Rattle.pz_parser.specs.CutParts.{marks_then, construct}
use Rattle.pz_parser.specs.CutStatements.{after_cut, condition_cut, reception_cut, cut, cuts, tail_cuts, otherwise_cut, branches_cut, tail_branches_cut}
use Rattle.pz_parser.proofs.Cutting.{Kind, marks, both, Begun, Named, Completes, in_construct, Cutting, Plain, cutting_marks, cutting_both, cutting_into, cutting_construct}
use Rattle.pz_parser.proofs.WithoutSkip.{Other, other_symbol, other_keyword, other_word, other_head, mark_more, nothing_plain, names_plain, closed_plain}
use Rattle.pz_parser.proofs.CuttingExpressions.{leveled, listed, arguments, one_mark, behind_mark, expression, lists, given}
use Rattle.pz_parser.proofs.CuttingExpressions as expressions

-- ---- kinds

abbrev valued : Kind
valued = leveled false 1 (omega arith)

abbrev after : Kind
after = record { Shape = Part Id Id; text = after_text; nesting = bracketed_nesting; Is = IsAfter; cut = after_cut; some = left_out; some_is = tt; some_flat = omega arith }

-- behind these variables
abbrev condition : List Id → Kind
condition into = record { Shape = Option (Expression Id Id); text = condition_text; nesting = condition_nesting; Is = IsReception (Some into); cut = condition_cut; some = None; some_is = tt; some_flat = omega arith }

-- these variables and the condition
abbrev listed_names : List Id → Kind
listed_names into = record { Shape = Option (Expression Id Id); text = λ c. names_text into ++ condition_text c; nesting = condition_nesting; Is = IsReception (Some into); cut = λ c. marks_then (names_text into) (condition_cut c); some = None; some_is = tt; some_flat = omega arith }

abbrev reception : Kind
reception = record { Shape = Option (List Id) × Option (Expression Id Id); text = λ x. reception_text x.0 x.1; nesting = λ x. reception_nesting x.0 x.1; Is = λ x. IsReception x.0 x.1; cut = λ x. reception_cut x.0 x.1; some = (None, None); some_is = tt; some_flat = omega arith }

abbrev some_skip : Statement Id Id Id
some_skip = skip origin

abbrev one : Kind
one = record { Shape = Statement Id Id Id; text = text; nesting = nesting; Is = IsStatement; cut = cut; some = some_skip; some_is = tt; some_flat = omega arith }

abbrev later_statements : Kind
later_statements = record { Shape = Statements Id Id Id; text = tail_texts; nesting = nestings; Is = FollowStatements; cut = tail_cuts; some = no_statements; some_is = tt; some_flat = omega arith }

abbrev pub sequence : Kind
sequence = record { Shape = Statements Id Id Id; text = texts; nesting = nestings; Is = AreStatements; cut = cuts; some = then some_skip no_statements; some_is = (tt, tt); some_flat = omega arith }

abbrev else_statements : Kind
else_statements = record { Shape = StatementPart Id Id Id; text = otherwise_text; nesting = otherwise_nesting; Is = IsOtherwise; cut = otherwise_cut; some = not_written; some_is = tt; some_flat = omega arith }

abbrev branches : Keyword → Kind
branches x = record { Shape = Branches Id Id Id; text = branches_text x; nesting = branches_nesting; Is = AreBranches; cut = branches_cut x; some = branch (then some_skip no_statements) no_branches; some_is = ((tt, tt), tt); some_flat = omega arith }

abbrev later : Keyword → Kind
later x = record { Shape = Branches Id Id Id; text = tail_branches x; nesting = branches_nesting; Is = FollowBranches; cut = tail_branches_cut x; some = no_branches; some_is = tt; some_flat = omega arith }

-- ---- parts that have expressions

abbrev key : Keyword → Kind
key x = marks (keyword x ∷ [])

value_of : (e : Expression Id Id) → IsValue e → Cutting valued e
value_of e is = expression false 1 (omega arith) e is.0 is.1 tt

behind_key : (x : Keyword) → (x ≡ k.Skip → ⊥) → (K : Kind) (y : K.Shape) → K.Is y → Cutting K y → Cutting (both (key x) K) (tt, y)
behind_key x other K y is c = behind_mark (keyword x) (other_keyword x other) K y is c

before_key : (x : Keyword) → (x ≡ k.Skip → ⊥) → (K : Kind) (y : K.Shape) → K.Is y → Cutting K y → Cutting (both K (key x)) (y, tt)
before_key x other K y is c = cutting_both K (key x) y tt is tt c (one_mark (keyword x) (other_keyword x other))

after_cutting : (a : Part Id Id) → IsAfter a → Cutting after a
after_cutting left_out is = cutting_into (marks []) after (λ v. left_out) (λ v. refl) (λ v f. tt) (λ v. refl) (λ v limit p c. c) tt (λ limit p c. c) (cutting_marks [] nothing_plain)
after_cutting (written es) is = expressions.bracketed (listed s.Semicolon) after s.LeftBrace s.RightBrace (λ v. written v) (λ v. refl) (λ v f. f) (λ v. refl) (λ v limit p c. c) es (λ limit p c. c) is (lists s.Semicolon es is)

condition_cutting : (into : List Id) (c : Option (Expression Id Id)) → IsReception (Some into) c → Cutting (condition into) c
condition_cutting into None is = cutting_into (marks []) (condition into) (λ v. None) (λ v. refl) (λ v f. tt) (λ v. refl) (λ v limit p c. c) tt (λ limit p c. c) (cutting_marks [] nothing_plain)
condition_cutting into (Some e) is = cutting_into (both (marks (symbol s.Bar ∷ [])) valued) (condition into) (λ v. Some v.1) (λ v. refl) (λ v f. (f.1.0, f.1.1)) (λ v. omega arith) (λ v limit p c. c) (tt, e) (λ limit p c. c) (behind_mark (symbol s.Bar) (other_symbol s.Bar) valued e (is.0, is.1, tt) (value_of e is))

none_received : (c : Option (Expression Id Id)) → IsReception None c → Cutting reception (None, c)
none_received None is = cutting_into (marks []) reception (λ v. (None, None)) (λ v. refl) (λ v f. tt) (λ v. refl) (λ v limit p c. c) tt (λ limit p c. c) (cutting_marks [] nothing_plain)
none_received (Some e) is = absurd is

reception_cutting : (into : Option (List Id)) (c : Option (Expression Id Id)) → IsReception into c → Cutting reception (into, c)
reception_cutting None c is = none_received c is
reception_cutting (Some xs) c is =
    let names = marks (names_text xs) in
    expressions.bracketed (listed_names xs) reception s.LeftParen s.RightParen (λ v. (Some xs, v)) (λ v. refl) (λ v f. f) (λ v. refl) (λ v limit p c. c) c (λ limit p c. c) is
    (cutting_into (both names (condition xs)) (listed_names xs) (λ v. v.1) (λ v. refl) (λ v f. f.1) (λ v. omega arith) (λ v limit p c. c) (tt, c) (λ limit p c. c) (cutting_both names (condition xs) tt c tt is (cutting_marks (names_text xs) (names_plain xs)) (condition_cutting xs c is)))

-- ---- `skip`, in whose place a call may stand

abbrev some_call : Id → Statement Id Id Id
some_call z = call origin z none []

skip_cutting : (pos : Pos) → Cutting one (skip pos)
skip_cutting pos = record {
  fronts = λ limit p rest e le. (rest, e);
  swaps = swaps;
  completes = λ limit p c. inl (record { whole = skip pos; rest = c.0; is = tt; low = omega arith; parts = c.1 });
}
  where
    swaps : (limit : ℕ) (z : Id) (p rest : List Mark) → text (skip pos) ≡ p ++ keyword k.Skip ∷ rest → nesting (skip pos) ≤ limit → (y : Statement Id Id Id) × IsStatement y × cut y limit (p ++ head z ∷ [])
    swaps limit z [] rest e le = (some_call z, tt, inr ([], refl, omega arith, tt))
    swaps limit z (x ∷ []) rest e le = absurd (let h : [] ≡ keyword k.Skip ∷ rest = cc in cc)
    swaps limit z (x ∷ y ∷ p) rest e le = absurd (let h : [] ≡ y ∷ (p ++ keyword k.Skip ∷ rest) = cc in cc)

-- ---- a call, of which the name may stand alone

module _ (pos : Pos) (method : Id) (args : Expressions Id Id) (results : List Id) (is : AreExpressions args) where
  abbrev closing : List Mark
  closing = symbol s.RightParen ∷ symbol s.LeftParen ∷ (names_text results ++ symbol s.RightParen ∷ [])

  abbrev bracket_lists : Kind
  bracket_lists = both (marks (symbol s.LeftParen ∷ [])) (both (listed s.Comma) (marks closing))

  lists_cutting : Cutting bracket_lists (tt, (args, tt))
  lists_cutting = behind_mark (symbol s.LeftParen) (other_symbol s.LeftParen) (both (listed s.Comma) (marks closing)) (args, tt) (is, tt)
      (cutting_both (listed s.Comma) (marks closing) args tt is tt (lists s.Comma args is) (cutting_marks closing (mark_more (other_symbol s.RightParen) (mark_more (other_symbol s.LeftParen) (closed_plain (names_text results) s.RightParen (names_plain results))))))

  called_cutting : Cutting one (call pos method args results)
  called_cutting = record { fronts = fronts; swaps = swaps; completes = completes }
    where
      fronts : (limit : ℕ) (p rest : List Mark) → text (call pos method args results) ≡ p ++ rest → nesting (call pos method args results) ≤ limit → cut (call pos method args results) limit p
      fronts limit [] rest e le = inl (head method ∷ [], refl)
      fronts limit (x ∷ []) rest e le = let h : head method ≡ x = cc in inr ([], ap (λ m. m ∷ []) (sym h), omega arith, tt)
      fronts zero (x ∷ y ∷ p) rest e le = absurd (omega (arith, le))
      fronts (suc limit) (x ∷ y ∷ p) rest e le =
          let h : head method ≡ x = cc in
          let others : bracket_lists.text (tt, (args, tt)) ≡ (y ∷ p) ++ rest = cc in
          inr (y ∷ p, ap (λ m. m ∷ y ∷ p) (sym h), omega arith, lists_cutting.fronts limit (y ∷ p) rest others (omega (arith, le)))

      swaps : (limit : ℕ) (z : Id) (p rest : List Mark) → text (call pos method args results) ≡ p ++ keyword k.Skip ∷ rest → nesting (call pos method args results) ≤ limit → (y : Statement Id Id Id) × IsStatement y × cut y limit (p ++ head z ∷ [])
      swaps limit z [] rest e le = absurd (other_head method cc)
      swaps zero z (x ∷ p) rest e le = absurd (omega (arith, le))
      swaps (suc limit) z (x ∷ p) rest e le =
          let others : bracket_lists.text (tt, (args, tt)) ≡ p ++ keyword k.Skip ∷ rest = cc in
          let h : head method ≡ x = cc in
          let c = lists_cutting.swaps limit z p rest others (omega (arith, le)) in
          (call pos method c.0.1.0 results, c.1.1.0, inr (p ++ head z ∷ [], ap (λ m. m ∷ (p ++ head z ∷ [])) (sym h), omega arith, in_construct (bracket_lists.cut c.0) limit p (head z) c.2))

      named : (limit : ℕ) → Named one limit (head method ∷ [])
      named limit = record {
        front = [];
        name = method;
        parts = refl;
        depth = 1;
        begins = record { whole = some_call method; rest = symbol s.LeftParen ∷ symbol s.RightParen ∷ symbol s.LeftParen ∷ symbol s.RightParen ∷ []; is = tt; low = omega arith; parts = refl };
        skipped = record { whole = some_skip; rest = []; is = tt; low = omega arith; parts = refl };
      }

      -- the name stands, or nothing
      before : (limit : ℕ) (p : List Mark) → (missing : List Mark) × (head method ∷ [] ≡ p ++ missing) → Completes one limit p
      before limit [] c = inl (record { whole = some_skip; rest = keyword k.Skip ∷ []; is = tt; low = omega arith; parts = refl })
      before limit (x ∷ []) c = let e = c.1 in let h : head method ≡ x = cc in inr (subst (λ m. Named one limit (m ∷ [])) h (named limit))
      before limit (x ∷ y ∷ p) c = absurd (let e = c.1 in let h : [] ≡ y ∷ (p ++ c.0) = cc in cc)

      begun_call : (limit : ℕ) (p : List Mark) → Begun bracket_lists limit p → Begun one (suc limit) (head method ∷ p)
      begun_call limit p f = record { whole = call pos method f.whole.1.0 results; rest = f.rest; is = f.is.1.0; low = let l = f.low in omega (arith, l); parts = ap (λ l. head method ∷ l) f.parts }

      -- some of the brackets stand
      called_parts : (limit : ℕ) (q : List Mark) → Completes bracket_lists limit q → Completes one (suc limit) (head method ∷ q)
      called_parts limit q (inl f) = inl (begun_call limit q f)
      called_parts limit q (inr f) = inr (record { front = head method ∷ f.front; name = f.name; parts = ap (λ l. head method ∷ l) f.parts; depth = suc f.depth; begins = begun_call f.depth q f.begins; skipped = begun_call limit (f.front ++ keyword k.Skip ∷ []) f.skipped })

      inside : (limit : ℕ) (p q : List Mark) → p ≡ head method ∷ q → construct (bracket_lists.cut (tt, (args, tt))) limit q → Completes one limit p
      inside limit p [] e c = inr (subst (Named one limit) (sym e) (named limit))
      inside zero p (y ∷ q) e c = absurd c
      inside (suc limit) p (y ∷ q) e c = subst (Completes one (suc limit)) (sym e) (called_parts limit (y ∷ q) (lists_cutting.completes limit (y ∷ q) c))

      completes : (limit : ℕ) (p : List Mark) → cut (call pos method args results) limit p → Completes one limit p
      completes limit p (inl c) = before limit p c
      completes limit p (inr c) = inside limit p c.0 c.1 c.3

-- ---- statements

mutual
  statement : (t : Statement Id Id Id) → IsStatement t → Cutting one t
  statement (skip pos) is = skip_cutting pos
  statement (delay pos e) is = cutting_into (both (key k.Delay) valued) one (λ v. delay pos v.1) (λ v. refl) (λ v f. (f.1.0, f.1.1)) (λ v. omega arith) (λ v limit p c. c) (tt, e) (λ limit p c. c) (behind_key k.Delay (λ e. absurd cc) valued e (is.0, is.1, tt) (value_of e is))
  statement (bracketed pos ts) is = expressions.bracketed sequence one s.LeftParen s.RightParen (λ v. bracketed pos v) (λ v. refl) (λ v f. f) (λ v. refl) (λ v limit p c. c) ts (λ limit p c. c) is (statements ts is)
  statement (block pos es) is = expressions.bracketed (listed s.Semicolon) one s.LeftBrace s.RightBrace (λ v. block pos v) (λ v. refl) (λ v f. f) (λ v. refl) (λ v limit p c. c) es (λ limit p c. c) is (lists s.Semicolon es is)
  statement (guarded pos e t) is =
      let behind = both (marks (symbol s.RightBracket ∷ [])) one in
      cutting_construct (both (marks (symbol s.LeftBracket ∷ [])) (both valued behind)) one (λ v. guarded pos v.1.0 v.1.1.1) (λ v. refl) (λ v f. ((f.1.0.0, f.1.0.1), f.1.1.1)) (λ v. omega arith) (λ v limit p c. c) (tt, (e, (tt, t))) (λ limit p c. c)
      (behind_mark (symbol s.LeftBracket) (other_symbol s.LeftBracket) (both valued behind) (e, (tt, t)) ((is.0.0, is.0.1, tt), (tt, is.1))
      (cutting_both valued behind e (tt, t) (is.0.0, is.0.1, tt) (tt, is.1) (value_of e is.0) (behind_mark (symbol s.RightBracket) (other_symbol s.RightBracket) one t is.1 (statement t is.1))))
  statement (parallel pos bs) is =
      cutting_construct (both (key k.Par) (both (branches k.And) (key k.Rap))) one (λ v. parallel pos v.1.0) (λ v. refl) (λ v f. f.1.0) (λ v. omega arith) (λ v limit p c. c) (tt, (bs, tt)) (λ limit p c. c)
      (behind_key k.Par (λ e. absurd cc) (both (branches k.And) (key k.Rap)) (bs, tt) (is, tt) (before_key k.Rap (λ e. absurd cc) (branches k.And) bs is (all_branches k.And (λ e. absurd cc) bs is)))
  statement (select pos bs) is =
      cutting_construct (both (key k.Sel) (both (branches k.Or) (key k.Les))) one (λ v. select pos v.1.0) (λ v. refl) (λ v f. f.1.0) (λ v. omega arith) (λ v limit p c. c) (tt, (bs, tt)) (λ limit p c. c)
      (behind_key k.Sel (λ e. absurd cc) (both (branches k.Or) (key k.Les)) (bs, tt) (is, tt) (before_key k.Les (λ e. absurd cc) (branches k.Or) bs is (all_branches k.Or (λ e. absurd cc) bs is)))
  statement (conditional pos e ts other) is =
      let last = both else_statements (key k.Fi) in
      let behind = both (key k.Then) (both sequence last) in
      cutting_construct (both (key k.If) (both valued behind)) one (λ v. conditional pos v.1.0 v.1.1.1.0 v.1.1.1.1.0) (λ v. refl) (λ v f. ((f.1.0.0, f.1.0.1), f.1.1.1.0, f.1.1.1.1.0)) (λ v. omega arith) (λ v limit p c. c) (tt, (e, (tt, (ts, (other, tt))))) (λ limit p c. c)
      (behind_key k.If (λ e. absurd cc) (both valued behind) (e, (tt, (ts, (other, tt)))) ((is.0.0, is.0.1, tt), (tt, (is.1, (is.2, tt))))
      (cutting_both valued behind e (tt, (ts, (other, tt))) (is.0.0, is.0.1, tt) (tt, (is.1, (is.2, tt))) (value_of e is.0)
      (behind_key k.Then (λ e. absurd cc) (both sequence last) (ts, (other, tt)) (is.1, (is.2, tt)) (cutting_both sequence last ts (other, tt) is.1 (is.2, tt) (statements ts is.1) (before_key k.Fi (λ e. absurd cc) else_statements other is.2 (others other is.2))))))
  statement (repeated pos e ts) is =
      let last = both sequence (key k.Od) in
      let behind = both (key k.Do) last in
      cutting_construct (both (key k.While) (both valued behind)) one (λ v. repeated pos v.1.0 v.1.1.1.0) (λ v. refl) (λ v f. ((f.1.0.0, f.1.0.1), f.1.1.1.0)) (λ v. omega arith) (λ v limit p c. c) (tt, (e, (tt, (ts, tt)))) (λ limit p c. c)
      (behind_key k.While (λ e. absurd cc) (both valued behind) (e, (tt, (ts, tt))) ((is.0.0, is.0.1, tt), (tt, (is.1, tt)))
      (cutting_both valued behind e (tt, (ts, tt)) (is.0.0, is.0.1, tt) (tt, (is.1, tt)) (value_of e is.0) (behind_key k.Do (λ e. absurd cc) last (ts, tt) (is.1, tt) (before_key k.Od (λ e. absurd cc) sequence ts is.1 (statements ts is.1)))))
  statement (abort pos ts t) is =
      let behind = both (key k.With) one in
      cutting_construct (both (key k.Abort) (both sequence behind)) one (λ v. abort pos v.1.0 v.1.1.1) (λ v. refl) (λ v f. (f.1.0, f.1.1.1)) (λ v. omega arith) (λ v limit p c. c) (tt, (ts, (tt, t))) (λ limit p c. c)
      (behind_key k.Abort (λ e. absurd cc) (both sequence behind) (ts, (tt, t)) (is.0, (tt, is.1)) (cutting_both sequence behind ts (tt, t) is.0 (tt, is.1) (statements ts is.0) (behind_key k.With (λ e. absurd cc) one t is.1 (statement t is.1))))
  statement (interrupt pos ts t) is =
      let behind = both (key k.With) one in
      cutting_construct (both (key k.Interrupt) (both sequence behind)) one (λ v. interrupt pos v.1.0 v.1.1.1) (λ v. refl) (λ v f. (f.1.0, f.1.1.1)) (λ v. omega arith) (λ v limit p c. c) (tt, (ts, (tt, t))) (λ limit p c. c)
      (behind_key k.Interrupt (λ e. absurd cc) (both sequence behind) (ts, (tt, t)) (is.0, (tt, is.1)) (cutting_both sequence behind ts (tt, t) is.0 (tt, is.1) (statements ts is.0) (behind_key k.With (λ e. absurd cc) one t is.1 (statement t is.1))))
  statement (send pos port message args more) is =
      let front = word port ∷ symbol s.Bang ∷ word message ∷ [] in
      let parts = both arguments after in
      cutting_into (both (marks front) parts) one (λ v. send pos port message v.1.0 v.1.1) (λ v. refl) (λ v f. f.1) (λ v. omega arith) (λ v limit p c. c) (tt, (args, more)) (λ limit p c. c)
      (cutting_both (marks front) parts tt (args, more) tt is (cutting_marks front (mark_more (other_word port) (mark_more (other_symbol s.Bang) (mark_more (other_word message) nothing_plain)))) (cutting_both arguments after args more is.0 is.1 (given args is.0) (after_cutting more is.1)))
  statement (receive pos port message into test more) is =
      let front = word port ∷ symbol s.Query ∷ word message ∷ [] in
      let parts = both reception after in
      cutting_into (both (marks front) parts) one (λ v. receive pos port message v.1.0.0 v.1.0.1 v.1.1) (λ v. refl) (λ v f. f.1) (λ v. omega arith) (λ v limit p c. c) (tt, ((into, test), more)) (λ limit p c. c)
      (cutting_both (marks front) parts tt ((into, test), more) tt is (cutting_marks front (mark_more (other_word port) (mark_more (other_symbol s.Query) (mark_more (other_word message) nothing_plain)))) (cutting_both reception after (into, test) more is.0 is.1 (reception_cutting into test is.0) (after_cutting more is.1)))
  statement (call pos method args results) is = called_cutting pos method args results is
  statement (assignment pos x e) is =
      let front = word x ∷ symbol s.Assign ∷ [] in
      cutting_into (both (marks front) valued) one (λ v. assignment pos x v.1) (λ v. refl) (λ v f. (f.1.0, f.1.1)) (λ v. omega arith) (λ v limit p c. c) (tt, e) (λ limit p c. c)
      (cutting_both (marks front) valued tt e tt (is.0, is.1, tt) (cutting_marks front (mark_more (other_word x) (mark_more (other_symbol s.Assign) nothing_plain))) (value_of e is))
  statement (value pos e) is = cutting_into (leveled true 1 (omega arith)) one (λ v. value pos v) (λ v. refl) (λ v f. ((f.0, f.1), f.2)) (λ v. refl) (λ v limit p c. c) e (λ limit p c. c) (expression true 1 (omega arith) e is.0.0 is.0.1 is.1)

  pub statements : (ts : Statements Id Id Id) → AreStatements ts → Cutting sequence ts
  statements no_statements is = absurd is
  statements (then t ts) is = cutting_into (both one later_statements) sequence (λ v. then v.0 v.1) (λ v. refl) (λ v f. f) (λ v. refl) (λ v limit p c. c) (t, ts) (λ limit p c. c) (cutting_both one later_statements t ts is.0 is.1 (statement t is.0) (follow ts is.1))

  follow : (ts : Statements Id Id Id) → FollowStatements ts → Cutting later_statements ts
  follow no_statements is = cutting_into (marks []) later_statements (λ v. no_statements) (λ v. refl) (λ v f. tt) (λ v. refl) (λ v limit p c. c) tt (λ limit p c. c) (cutting_marks [] nothing_plain)
  follow (then t ts) is = cutting_into (both (marks (symbol s.Semicolon ∷ [])) (both one later_statements)) later_statements (λ v. then v.1.0 v.1.1) (λ v. refl) (λ v f. f.1) (λ v. omega arith) (λ v limit p c. c) (tt, (t, ts)) (λ limit p c. c) (behind_mark (symbol s.Semicolon) (other_symbol s.Semicolon) (both one later_statements) (t, ts) is (cutting_both one later_statements t ts is.0 is.1 (statement t is.0) (follow ts is.1)))

  others : (o : StatementPart Id Id Id) → IsOtherwise o → Cutting else_statements o
  others not_written is = cutting_into (marks []) else_statements (λ v. not_written) (λ v. refl) (λ v f. tt) (λ v. refl) (λ v limit p c. c) tt (λ limit p c. c) (cutting_marks [] nothing_plain)
  others (otherwise ts) is = cutting_into (both (key k.Else) sequence) else_statements (λ v. otherwise v.1) (λ v. refl) (λ v f. f.1) (λ v. omega arith) (λ v limit p c. c) (tt, ts) (λ limit p c. c) (behind_key k.Else (λ e. absurd cc) sequence ts is (statements ts is))

  all_branches : (x : Keyword) → (x ≡ k.Skip → ⊥) → (bs : Branches Id Id Id) → AreBranches bs → Cutting (branches x) bs
  all_branches x other no_branches is = absurd is
  all_branches x other (branch b bs) is = cutting_into (both sequence (later x)) (branches x) (λ v. branch v.0 v.1) (λ v. refl) (λ v f. f) (λ v. refl) (λ v limit p c. c) (b, bs) (λ limit p c. c) (cutting_both sequence (later x) b bs is.0 is.1 (statements b is.0) (later_branches x other bs is.1))

  later_branches : (x : Keyword) → (x ≡ k.Skip → ⊥) → (bs : Branches Id Id Id) → FollowBranches bs → Cutting (later x) bs
  later_branches x other no_branches is = cutting_into (marks []) (later x) (λ v. no_branches) (λ v. refl) (λ v f. tt) (λ v. refl) (λ v limit p c. c) tt (λ limit p c. c) (cutting_marks [] nothing_plain)
  later_branches x other (branch b bs) is = cutting_into (both (key x) (both sequence (later x))) (later x) (λ v. branch v.1.0 v.1.1) (λ v. refl) (λ v f. f.1) (λ v. omega arith) (λ v limit p c. c) (tt, (b, bs)) (λ limit p c. c) (behind_key x other (both sequence (later x)) (b, bs) is (cutting_both sequence (later x) b bs is.0 is.1 (statements b is.0) (later_branches x other bs is.1)))
