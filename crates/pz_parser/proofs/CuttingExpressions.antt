-- What may stand of an expression, against the fronts of its text.
use Rattle.std.proofs.Common.{◌≡◌, ℕ, suc, ◌≤◌, Bool, true, false, List, [], ◌∷◌, ◌++◌, refl, arith}
use Rattle.std.specs.Prelude.{⊤, max}
use Rattle.pz_syntax.specs.declared.tokens.Symbol.{Symbol}
use Rattle.pz_syntax.specs.declared.tokens.Symbol.TheVariants as s
use Rattle.pz_syntax.specs.declared.tokens.Keyword.TheVariants as k
use Rattle.pz_syntax.specs.declared.tokens.Mark.{Mark}
use Rattle.pz_syntax.specs.declared.names.Id.{Id}
use Rattle.pz_syntax.specs.declared.exprs.Literal.TheVariants as lit
use Rattle.pz_syntax.specs.Marks.{symbol, keyword, word, selector}
use Rattle.pz_syntax.specs.Expressions.{Expression, literal, variable, me, clock, creation, group, chain, sends, unary, assign, returned, choice, loop, Expressions, none, more, Part, left_out, written, Links, no_links, link, Sendings, no_sendings, sending}
use Rattle.pz_syntax.specs.ExpressionErasure.{origin}
use Rattle.pz_syntax.specs.ExpressionText.{text, texts, tail_texts, otherwise_text, links_text, sendings_text, arguments_text}
use Rattle.pz_syntax.specs.ExpressionNesting.{nesting, nestings, otherwise_nesting, links_nesting, sendings_nesting, bracketed_nesting}
use Rattle.pz_syntax.specs.ExpressionForm.{operator_level, level, IsSign, IsExpression, AreExpressions, IsBody, IsOtherwise, AreLinks, AreSendings, AreArguments}
use Rattle.pz_syntax.specs.StatementForm.{MayBeginStatement}
use Rattle.pz_parser_expressions.proofs.Firsts.{level_le}
use Rattle.pz_parser.specs.CutParts.{of_marks, enclosed}
use Rattle.pz_parser.specs.CutExpressions.{cut, cuts, tail_cuts, otherwise_cut, links_cut, sendings_cut, arguments_cut}
use Rattle.pz_parser.proofs.Cutting.{Kind, marks, both, Cutting, Plain, cutting_marks, cutting_both, cutting_into, cutting_construct}
use Rattle.pz_parser.proofs.WithoutSkip.{Other, other_symbol, other_keyword, other_word, other_selector, other_literal, mark_more, nothing_plain, word_plain}

-- ---- kinds

abbrev nil : Expression Id Id
nil = literal origin lit.Nil

abbrev if_asked : Bool → Type 0 → Type 0
if_asked true A = A
if_asked false A = ⊤

-- one that begins as a statement may, if that is asked
abbrev pub Starts : Bool → Expression Id Id → Type 0
Starts b t = if_asked b (MayBeginStatement t)

pub nil_starts : (b : Bool) → Starts b nil
nil_starts true = tt
nil_starts false = tt

-- expressions of at least this level
abbrev pub leveled : Bool → (n : ℕ) → n ≤ 8 → Kind
leveled b n le = record { Shape = Expression Id Id; text = text; nesting = nesting; Is = λ t. IsExpression t × (n ≤ level t) × Starts b t; cut = cut; some = nil; some_is = (tt, le, nil_starts b); some_flat = omega arith }

abbrev tails : Symbol → Kind
tails x = record { Shape = Expressions Id Id; text = tail_texts x; nesting = nestings; Is = AreExpressions; cut = tail_cuts x; some = none; some_is = tt; some_flat = omega arith }

-- none or more
abbrev pub listed : Symbol → Kind
listed x = record { Shape = Expressions Id Id; text = texts x; nesting = nestings; Is = AreExpressions; cut = cuts x; some = none; some_is = tt; some_flat = omega arith }

-- one or more
abbrev pub body : Symbol → Kind
body x = record { Shape = Expressions Id Id; text = texts x; nesting = nestings; Is = IsBody; cut = cuts x; some = more nil none; some_is = (tt, tt); some_flat = omega arith }

abbrev else_part : Kind
else_part = record { Shape = Part Id Id; text = otherwise_text; nesting = otherwise_nesting; Is = IsOtherwise; cut = otherwise_cut; some = left_out; some_is = tt; some_flat = omega arith }

abbrev linked : ℕ → Kind
linked n = record { Shape = Links Id Id; text = links_text; nesting = links_nesting; Is = AreLinks n; cut = links_cut; some = no_links; some_is = tt; some_flat = omega arith }

abbrev sent : Kind
sent = record { Shape = Sendings Id Id; text = sendings_text; nesting = sendings_nesting; Is = AreSendings; cut = sendings_cut; some = no_sendings; some_is = tt; some_flat = omega arith }

abbrev pub arguments : Kind
arguments = record { Shape = Part Id Id; text = arguments_text; nesting = bracketed_nesting; Is = AreArguments; cut = arguments_cut; some = left_out; some_is = tt; some_flat = omega arith }

-- ---- levels

operand_le : (op : Symbol) → suc (operator_level op) ≤ 8
operand_le op = let h = level_le op in omega (arith, h)

-- ---- single marks, and what stands behind them

pub one_mark : (m : Mark) → Other m → Cutting (marks (m ∷ [])) tt
one_mark m other = cutting_marks (m ∷ []) (mark_more other nothing_plain)

pub behind_mark : (m : Mark) → Other m → (K : Kind) (x : K.Shape) → K.Is x → Cutting K x → Cutting (both (marks (m ∷ [])) K) (tt, x)
behind_mark m other K x is c = cutting_both (marks (m ∷ [])) K tt x tt is (one_mark m other) c

abbrev close : Symbol → Kind
close x = marks (symbol x ∷ [])

pub closed : (K : Kind) (x : K.Shape) (right : Symbol) → K.Is x → Cutting K x → Cutting (both K (close right)) (x, tt)
closed K x right is c = cutting_both K (close right) x tt is tt c (one_mark (symbol right) (other_symbol right))

-- a part between brackets
pub bracketed : (K G : Kind) (left right : Symbol) (h : K.Shape → G.Shape) → ((x : K.Shape) → G.text (h x) ≡ symbol left ∷ (K.text x ++ symbol right ∷ [])) → ((x : K.Shape) → K.Is x → G.Is (h x)) → ((x : K.Shape) → G.nesting (h x) ≡ suc (K.nesting x))
    → ((x : K.Shape) (limit : ℕ) (p : List Mark) → enclosed left (K.text x) (K.nesting x) (K.cut x) right limit p → G.cut (h x) limit p) → (x : K.Shape) → ((limit : ℕ) (p : List Mark) → G.cut (h x) limit p → enclosed left (K.text x) (K.nesting x) (K.cut x) right limit p)
    → K.Is x → Cutting K x → Cutting G (h x)
bracketed K G left right h texts fits nests goes x back is c =
    cutting_construct (both (marks (symbol left ∷ [])) (both K (close right))) G (λ v. h v.1.0) (λ v. texts v.1.0) (λ v f. fits v.1.0 f.1.0) (λ v. let n = nests v.1.0 in omega (arith, n)) (λ v. goes v.1.0) (tt, (x, tt)) back
    (behind_mark (symbol left) (other_symbol left) (both K (close right)) (x, tt) (is, tt) (closed K x right is c))

-- without parts
flat : (b : Bool) (n : ℕ) (le : n ≤ 8) (t : Expression Id Id) → IsExpression t → n ≤ level t → Starts b t → Plain (text t) → nesting t ≡ 0 → ((limit : ℕ) (p : List Mark) → of_marks (text t) limit p → cut t limit p) → ((limit : ℕ) (p : List Mark) → cut t limit p → of_marks (text t) limit p) → Cutting (leveled b n le) t
flat b n le t is at st plain low goes back = cutting_into (marks (text t)) (leveled b n le) (λ v. t) (λ v. refl) (λ v f. (is, at, st)) (λ v. low) (λ v. goes) tt back (cutting_marks (text t) plain)

-- the first of a list, and the others
first_and : (x : Symbol) (t : Expression Id Id) (ts : Expressions Id Id) → IsExpression t → AreExpressions ts → Cutting (leveled false 0 (omega arith)) t → Cutting (tails x) ts → Cutting (both (leveled false 0 (omega arith)) (tails x)) (t, ts)
first_and x t ts is are c d = cutting_both (leveled false 0 (omega arith)) (tails x) t ts (is, omega arith, tt) are c d

one_sent : (x : Id) (args : Part Id Id) (ss : Sendings Id Id) → AreArguments args → AreSendings ss → Cutting arguments args → Cutting sent ss → Cutting (both (marks (selector x ∷ [])) (both arguments sent)) (tt, (args, ss))
one_sent x args ss is are c d = behind_mark (selector x) (other_selector x) (both arguments sent) (args, ss) (is, are) (cutting_both arguments sent args ss is are c d)

-- ---- expressions

mutual
  pub expression : (b : Bool) (n : ℕ) (le : n ≤ 8) (t : Expression Id Id) → IsExpression t → n ≤ level t → Starts b t → Cutting (leveled b n le) t
  expression b n le (literal pos x) is at st = flat b n le (literal pos x) is at st (mark_more (other_literal x) nothing_plain) refl (λ limit p c. c) (λ limit p c. c)
  expression b n le (variable pos x) is at st = flat b n le (variable pos x) is at st (word_plain x) refl (λ limit p c. c) (λ limit p c. c)
  expression b n le (me pos) is at st = flat b n le (me pos) is at st (mark_more (other_keyword k.Me (λ e. absurd cc)) nothing_plain) refl (λ limit p c. c) (λ limit p c. c)
  expression b n le (clock pos) is at st = flat b n le (clock pos) is at st (mark_more (other_keyword k.CurrentTime (λ e. absurd cc)) nothing_plain) refl (λ limit p c. c) (λ limit p c. c)
  expression b n le (creation pos class) is at st = flat b n le (creation pos class) is at st (mark_more (other_keyword k.New (λ e. absurd cc)) (mark_more (other_symbol s.LeftParen) (mark_more (other_word class) (mark_more (other_symbol s.RightParen) nothing_plain)))) refl (λ limit p c. c) (λ limit p c. c)
  expression b n le (group pos ts) is at st = bracketed (body s.Semicolon) (leveled b n le) s.LeftParen s.RightParen (λ v. group pos v) (λ v. refl) (λ v f. (f, at, st)) (λ v. refl) (λ v limit p c. c) ts (λ limit p c. c) is (bodies s.Semicolon ts is)
  expression b n le (chain pos t no_links) is at st = absurd is
  expression b n le (chain pos t (link op place u ls)) is at st =
      let l = operator_level op in
      let room = operand_le op in
      let first = leveled b (suc l) room in
      let operand = leveled false (suc l) room in
      let behind = both (marks (symbol op ∷ [])) (both operand (linked l)) in
      cutting_into (both first behind) (leveled b n le) (λ v. chain pos v.0 (link op place v.1.1.0 v.1.1.1)) (λ v. refl) (λ v f. ((is.0, f.0.0, omega (arith, f.0.1), (refl, f.1.1.0.0, omega (arith, f.1.1.0.1), f.1.1.1)), at, f.0.2)) (λ v. omega arith) (λ v limit p c. c) (t, (tt, (u, ls))) (λ limit p c. c)
      (cutting_both first behind t (tt, (u, ls)) (is.1, omega (arith, is.2), st) (tt, ((is.3.1, omega (arith, is.3.2), tt), is.3.3)) (expression b (suc l) room t is.1 (omega (arith, is.2)) st)
      (behind_mark (symbol op) (other_symbol op) (both operand (linked l)) (u, ls) ((is.3.1, omega (arith, is.3.2), tt), is.3.3) (cutting_both operand (linked l) u ls (is.3.1, omega (arith, is.3.2), tt) is.3.3 (expression false (suc l) room u is.3.1 (omega (arith, is.3.2)) tt) (links l room ls is.3.3))))
  expression b n le (sends pos t no_sendings) is at st = absurd is
  expression b n le (sends pos t (sending x args ss)) is at st =
      let primary = leveled b 8 (omega arith) in
      cutting_into (both primary (both (marks (selector x ∷ [])) (both arguments sent))) (leveled b n le) (λ v. sends pos v.0 (sending x v.1.1.0 v.1.1.1)) (λ v. refl) (λ v f. ((f.0.0, f.0.1, (f.1.1.0, f.1.1.1)), at, f.0.2)) (λ v. omega arith) (λ v limit p c. c) (t, (tt, (args, ss))) (λ limit p c. c)
      (cutting_both primary (both (marks (selector x ∷ [])) (both arguments sent)) t (tt, (args, ss)) (is.0, is.1, st) (tt, (is.2.0, is.2.1)) (expression b 8 (omega arith) t is.0 is.1 st) (one_sent x args ss is.2.0 is.2.1 (given args is.2.0) (sendings ss is.2.1)))
  expression b n le (unary pos op t) is at st =
      let operand = leveled false 6 (omega arith) in
      cutting_construct (both (marks (symbol op ∷ [])) operand) (leveled b n le) (λ v. unary pos op v.1) (λ v. refl) (λ v f. ((is.0, f.1.0, f.1.1), at, st)) (λ v. omega arith) (λ v limit p c. c) (tt, t) (λ limit p c. c)
      (behind_mark (symbol op) (other_symbol op) operand t (is.1, is.2, tt) (expression false 6 (omega arith) t is.1 is.2 tt))
  expression b n le (assign pos x t) is at st =
      let ahead = marks (word x ∷ symbol s.Assign ∷ []) in
      let value = leveled false 1 (omega arith) in
      cutting_into (both ahead value) (leveled b n le) (λ v. assign pos x v.1) (λ v. refl) (λ v f. ((f.1.0, f.1.1), at, st)) (λ v. omega arith) (λ v limit p c. c) (tt, t) (λ limit p c. c)
      (cutting_both ahead value tt t tt (is.0, is.1, tt) (cutting_marks (word x ∷ symbol s.Assign ∷ []) (mark_more (other_word x) (mark_more (other_symbol s.Assign) nothing_plain))) (expression false 1 (omega arith) t is.0 is.1 tt))
  expression b n le (returned pos t) is at st =
      let value = leveled false 1 (omega arith) in
      cutting_into (both (marks (keyword k.Return ∷ [])) value) (leveled b n le) (λ v. returned pos v.1) (λ v. refl) (λ v f. ((f.1.0, f.1.1), at, st)) (λ v. omega arith) (λ v limit p c. c) (tt, t) (λ limit p c. c)
      (behind_mark (keyword k.Return) (other_keyword k.Return (λ e. absurd cc)) value t (is.0, is.1, tt) (expression false 1 (omega arith) t is.0 is.1 tt))
  expression b n le (choice pos test ts other) is at st =
      let value = leveled false 1 (omega arith) in
      let end = marks (keyword k.Fi ∷ []) in
      let last = both else_part end in
      let behind = both (marks (keyword k.Then ∷ [])) (both (body s.Semicolon) last) in
      cutting_construct (both (marks (keyword k.If ∷ [])) (both value behind)) (leveled b n le) (λ v. choice pos v.1.0 v.1.1.1.0 v.1.1.1.1.0) (λ v. refl) (λ v f. ((f.1.0.0, f.1.0.1, f.1.1.1.0, f.1.1.1.1.0), at, st)) (λ v. omega arith) (λ v limit p c. c) (tt, (test, (tt, (ts, (other, tt))))) (λ limit p c. c)
      (behind_mark (keyword k.If) (other_keyword k.If (λ e. absurd cc)) (both value behind) (test, (tt, (ts, (other, tt)))) ((is.0, is.1, tt), (tt, (is.2, (is.3, tt))))
      (cutting_both value behind test (tt, (ts, (other, tt))) (is.0, is.1, tt) (tt, (is.2, (is.3, tt))) (expression false 1 (omega arith) test is.0 is.1 tt)
      (behind_mark (keyword k.Then) (other_keyword k.Then (λ e. absurd cc)) (both (body s.Semicolon) last) (ts, (other, tt)) (is.2, (is.3, tt))
      (cutting_both (body s.Semicolon) last ts (other, tt) is.2 (is.3, tt) (bodies s.Semicolon ts is.2)
      (cutting_both else_part end other tt is.3 tt (otherwise other is.3) (one_mark (keyword k.Fi) (other_keyword k.Fi (λ e. absurd cc))))))))
  expression b n le (loop pos test ts) is at st =
      let value = leveled false 1 (omega arith) in
      let end = marks (keyword k.Od ∷ []) in
      let behind = both (marks (keyword k.Do ∷ [])) (both (body s.Semicolon) end) in
      cutting_construct (both (marks (keyword k.While ∷ [])) (both value behind)) (leveled b n le) (λ v. loop pos v.1.0 v.1.1.1.0) (λ v. refl) (λ v f. ((f.1.0.0, f.1.0.1, f.1.1.1.0), at, st)) (λ v. omega arith) (λ v limit p c. c) (tt, (test, (tt, (ts, tt)))) (λ limit p c. c)
      (behind_mark (keyword k.While) (other_keyword k.While (λ e. absurd cc)) (both value behind) (test, (tt, (ts, tt))) ((is.0, is.1, tt), (tt, (is.2, tt)))
      (cutting_both value behind test (tt, (ts, tt)) (is.0, is.1, tt) (tt, (is.2, tt)) (expression false 1 (omega arith) test is.0 is.1 tt)
      (behind_mark (keyword k.Do) (other_keyword k.Do (λ e. absurd cc)) (both (body s.Semicolon) end) (ts, tt) (is.2, tt)
      (cutting_both (body s.Semicolon) end ts tt is.2 tt (bodies s.Semicolon ts is.2) (one_mark (keyword k.Od) (other_keyword k.Od (λ e. absurd cc)))))))

  tailed : (x : Symbol) (ts : Expressions Id Id) → AreExpressions ts → Cutting (tails x) ts
  tailed x none is = cutting_into (marks []) (tails x) (λ v. none) (λ v. refl) (λ v f. tt) (λ v. refl) (λ v limit p c. c) tt (λ limit p c. c) (cutting_marks [] nothing_plain)
  tailed x (more t ts) is =
      let any = leveled false 0 (omega arith) in
      cutting_into (both (marks (symbol x ∷ [])) (both any (tails x))) (tails x) (λ v. more v.1.0 v.1.1) (λ v. refl) (λ v f. (f.1.0.0, f.1.1)) (λ v. omega arith) (λ v limit p c. c) (tt, (t, ts)) (λ limit p c. c)
      (behind_mark (symbol x) (other_symbol x) (both any (tails x)) (t, ts) ((is.0, omega arith, tt), is.1) (cutting_both any (tails x) t ts (is.0, omega arith, tt) is.1 (expression false 0 (omega arith) t is.0 (omega arith) tt) (tailed x ts is.1)))

  pub lists : (x : Symbol) (ts : Expressions Id Id) → AreExpressions ts → Cutting (listed x) ts
  lists x none is = cutting_into (marks []) (listed x) (λ v. none) (λ v. refl) (λ v f. tt) (λ v. refl) (λ v limit p c. c) tt (λ limit p c. c) (cutting_marks [] nothing_plain)
  lists x (more t ts) is = cutting_into (both (leveled false 0 (omega arith)) (tails x)) (listed x) (λ v. more v.0 v.1) (λ v. refl) (λ v f. (f.0.0, f.1)) (λ v. refl) (λ v limit p c. c) (t, ts) (λ limit p c. c) (first_and x t ts is.0 is.1 (expression false 0 (omega arith) t is.0 (omega arith) tt) (tailed x ts is.1))

  pub bodies : (x : Symbol) (ts : Expressions Id Id) → IsBody ts → Cutting (body x) ts
  bodies x none is = absurd is
  bodies x (more t ts) is = cutting_into (both (leveled false 0 (omega arith)) (tails x)) (body x) (λ v. more v.0 v.1) (λ v. refl) (λ v f. (f.0.0, f.1)) (λ v. refl) (λ v limit p c. c) (t, ts) (λ limit p c. c) (first_and x t ts is.0 is.1 (expression false 0 (omega arith) t is.0 (omega arith) tt) (tailed x ts is.1))

  otherwise : (o : Part Id Id) → IsOtherwise o → Cutting else_part o
  otherwise left_out is = cutting_into (marks []) else_part (λ v. left_out) (λ v. refl) (λ v f. tt) (λ v. refl) (λ v limit p c. c) tt (λ limit p c. c) (cutting_marks [] nothing_plain)
  otherwise (written ts) is = cutting_into (both (marks (keyword k.Else ∷ [])) (body s.Semicolon)) else_part (λ v. written v.1) (λ v. refl) (λ v f. f.1) (λ v. omega arith) (λ v limit p c. c) (tt, ts) (λ limit p c. c) (behind_mark (keyword k.Else) (other_keyword k.Else (λ e. absurd cc)) (body s.Semicolon) ts is (bodies s.Semicolon ts is))

  links : (l : ℕ) (room : suc l ≤ 8) (ls : Links Id Id) → AreLinks l ls → Cutting (linked l) ls
  links l room no_links is = cutting_into (marks []) (linked l) (λ v. no_links) (λ v. refl) (λ v f. tt) (λ v. refl) (λ v limit p c. c) tt (λ limit p c. c) (cutting_marks [] nothing_plain)
  links l room (link op place t ls) is =
      let operand = leveled false (suc l) room in
      cutting_into (both (marks (symbol op ∷ [])) (both operand (linked l))) (linked l) (λ v. link op place v.1.0 v.1.1) (λ v. refl) (λ v f. (is.0, f.1.0.0, omega (arith, f.1.0.1), f.1.1)) (λ v. omega arith) (λ v limit p c. c) (tt, (t, ls)) (λ limit p c. c)
      (behind_mark (symbol op) (other_symbol op) (both operand (linked l)) (t, ls) ((is.1, omega (arith, is.2), tt), is.3) (cutting_both operand (linked l) t ls (is.1, omega (arith, is.2), tt) is.3 (expression false (suc l) room t is.1 (omega (arith, is.2)) tt) (links l room ls is.3)))

  sendings : (ss : Sendings Id Id) → AreSendings ss → Cutting sent ss
  sendings no_sendings is = cutting_into (marks []) sent (λ v. no_sendings) (λ v. refl) (λ v f. tt) (λ v. refl) (λ v limit p c. c) tt (λ limit p c. c) (cutting_marks [] nothing_plain)
  sendings (sending x args ss) is = cutting_into (both (marks (selector x ∷ [])) (both arguments sent)) sent (λ v. sending x v.1.0 v.1.1) (λ v. refl) (λ v f. f.1) (λ v. omega arith) (λ v limit p c. c) (tt, (args, ss)) (λ limit p c. c) (one_sent x args ss is.0 is.1 (given args is.0) (sendings ss is.1))

  pub given : (a : Part Id Id) → AreArguments a → Cutting arguments a
  given left_out is = cutting_into (marks []) arguments (λ v. left_out) (λ v. refl) (λ v f. tt) (λ v. refl) (λ v limit p c. c) tt (λ limit p c. c) (cutting_marks [] nothing_plain)
  given (written ts) is = bracketed (listed s.Comma) arguments s.LeftParen s.RightParen (λ v. written v) (λ v. refl) (λ v f. f) (λ v. refl) (λ v limit p c. c) ts (λ limit p c. c) is (lists s.Comma ts is)
