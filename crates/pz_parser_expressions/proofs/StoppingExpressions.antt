-- Where the rules of expressions stop.
use Rattle.std.proofs.Common.{◌≡◌, ℕ, zero, suc, ◌≤◌, ◌<◌, true, List, [], ◌∷◌, ◌++◌, length, Option, Some, None, refl, sym, subst, arith, length-append}
use Rattle.std.proofs.lemmas.List.{append-nil}
use Rattle.pz_syntax.specs.declared.tokens.Pos.{Pos}
use Rattle.pz_syntax.specs.declared.tokens.Symbol.{Symbol}
use Rattle.pz_syntax.specs.declared.tokens.Symbol.TheVariants as s
use Rattle.pz_syntax.specs.declared.tokens.Keyword.TheVariants as k
use Rattle.pz_syntax.specs.declared.tokens.TokenKind.TheVariants as kind
use Rattle.pz_syntax.specs.declared.names.Id.{Id}
use Rattle.pz_syntax.specs.declared.exprs.Literal.TheVariants as lit
use Rattle.pz_syntax.specs.Marks.{symbol}
use Rattle.pz_syntax.specs.Expressions.{Expressions, none, more, Part, left_out, written, Links, Sendings}
use Rattle.pz_syntax.specs.Expressions as tree
use Rattle.pz_syntax.specs.ExpressionErasure.{origin}
use Rattle.pz_syntax.specs.ExpressionView.{Tree, LinkTree, links_of}
use Rattle.pz_syntax.specs.ExpressionText.{text, texts, links_text, otherwise_text, arguments_text}
use Rattle.pz_syntax.specs.ExpressionForm.{IsExpression, AreExpressions, IsBody, IsOtherwise, AreLinks, AreArguments, level}
use Rattle.pz_syntax.specs.ExpressionNesting.{nestings, links_nesting, otherwise_nesting, bracketed_nesting}
use Rattle.pz_parser_cursor.specs.declared.ahead.Next.{Next}
use Rattle.pz_parser_cursor.specs.declared.ahead.Next.TheVariants as n
use Rattle.pz_parser_cursor.specs.devices.LookAhead.{next, next_by}
use Rattle.pz_parser_cursor.specs.devices.Input.{Tokens, after, identifier, position, sees}
use Rattle.pz_parser_cursor.specs.devices.Device.{Parser, ◌>>=◌, pure, skip, take_id}
use Rattle.pz_parser_cursor.specs.devices.Lists.{turns}
use Rattle.pz_parser_cursor.proofs.Shown.{token_of}
use Rattle.pz_parser_cursor.proofs.Steps.{sees_is}
use Rattle.pz_parser_cursor.proofs.Words.{word_is}
use Rattle.pz_parser_expressions.specs.declared.rule.Rule.{Rule}
use Rattle.pz_parser_expressions.specs.declared.rule.Rule.TheVariants as rule
use Rattle.pz_parser_expressions.specs.devices.Rules.{rank, operator}
use Rattle.pz_parser_expressions.specs.devices.Values as spec
use Rattle.pz_parser_expressions.proofs.Texts.{Fits}
use Rattle.pz_parser_expressions.proofs.Operators.{operator_sound}
use Rattle.pz_parser_cursor.proofs.Stopping.{Form, token_form, both, Pass, took, Low, Kept, beyond, alike, ExactAt, Exact, low, low_bind, bind_pass, pass_into, pass_mapped, kept_bind, same_all, into, bind_at, mapped, second_at, dispatch, placed, take_then}
use Rattle.pz_parser_cursor.proofs.StoppingLists.{identifier_peeks, sees_peeks, word_form, skip_at, shorter, low_pure}

-- ---- forms

abbrev pub nil_tree : Tree
nil_tree = tree.literal origin lit.Nil

-- expressions of at least this level
abbrev pub leveled : (l : ℕ) → l ≤ 8 → Form
leveled l le = record { Shape = Tree; text = text; Fits = λ n t. Fits n l t; some = λ n lt. (nil_tree, (tt, le, lt)) }

pub rank_le : (r : Rule) → rank r ≤ 8
rank_le rule.Expression = omega arith
rank_le rule.Value = omega arith
rank_le rule.Conjunction = omega arith
rank_le rule.Comparison = omega arith
rank_le rule.Sum = omega arith
rank_le rule.Product = omega arith
rank_le rule.Operand = omega arith

abbrev pub ruled : Rule → Form
ruled r = leveled (rank r) (rank_le r)

abbrev pub primary_form : Form
primary_form = leveled 8 (omega arith)

abbrev pub sent_form : Form
sent_form = leveled 7 (omega arith)

abbrev pub body_form : Symbol → Form
body_form x = record { Shape = Expressions Id Id; text = texts x; Fits = λ n ts. IsBody ts × (nestings ts < n); some = λ n lt. (more nil_tree none, ((tt, tt), omega (arith, lt))) }

-- none or more
abbrev pub list_form : Symbol → Form
list_form x = record { Shape = Expressions Id Id; text = texts x; Fits = λ n ts. AreExpressions ts × (nestings ts < n); some = λ n lt. (none, (tt, lt)) }

abbrev pub otherwise_form : Form
otherwise_form = record { Shape = Part Id Id; text = otherwise_text; Fits = λ n o. IsOtherwise o × (otherwise_nesting o < n); some = λ n lt. (left_out, (tt, lt)) }

abbrev pub arguments_form : Form
arguments_form = record { Shape = Part Id Id; text = arguments_text; Fits = λ n a. AreArguments a × (bracketed_nesting a < n); some = λ n lt. (left_out, (tt, lt)) }

pub body_each : (ts : Expressions Id Id) → IsBody ts → AreExpressions ts
body_each none h = absurd h
body_each (more t ts) h = h

module _ (W : Type 0) where
  -- ---- chains

  module _ (b : ℕ) (r : Rule) (le : 1 ≤ rank r) (room : suc (rank r) ≤ 8) where
    abbrev links_form : Form
    links_form = record { Shape = List LinkTree; text = λ ls. links_text (links_of ls); Fits = λ n ls. AreLinks (rank r) (links_of ls) × (links_nesting (links_of ls) < n); some = λ n lt. ([], (tt, lt)) }

    module _ (item other : Parser Tree) (e : Exact W b item other (leveled (suc (rank r)) room)) where
      link_at : (op : Symbol) (i : Tokens) → (token_of (next i) ≡ Some (kind.Sym op)) → ExactAt W b (spec.one_link op item) (spec.one_link op other) (both (token_form (symbol op)) (leveled (suc (rank r)) room)) i
      unfolding spec.one_link
      link_at op i shows =
          let c = placed W b (λ pos. skip >>= (λ u. item >>= (λ t. pure (op, pos, t)))) (λ pos. skip >>= (λ u. other >>= (λ t. pure (op, pos, t)))) (both (token_form (symbol op)) (leveled (suc (rank r)) room)) i
          (λ pos. bind_at W b (skip_at W b (next i) (kind.Sym op) i shows refl) (λ u j. mapped W b (λ t. (op, pos, t)) (e j))) in
          record { pass = c.pass; same = c.same }

      links_pass : (turn : ℕ) (i : Tokens) → Pass b links_form i (spec.links_by (operator r) item turn i)
      unfolding spec.links_by
      links_pass zero i = took ([], i) (record { shape = []; parts = refl; meets = λ n le lt. (tt, lt) })
      links_pass (suc turn) i = by (λ j. links_pass turn j) (operator r (next i)) refl
        where
          by : ((j : Tokens) → Pass b links_form j (spec.links_by (operator r) item turn j)) → (o : Option Symbol) → operator r (next i) ≡ o → Pass b links_form i (spec.link_at o item (spec.links_by (operator r) item turn) i)
          by again None h = took ([], i) (record { shape = []; parts = refl; meets = λ n le lt. (tt, lt) })
          by again (Some op) h =
              let o = operator_sound r (next i) op h in
              let F = both (token_form (symbol op)) (leveled (suc (rank r)) room) in
              pass_into b (both F links_form) links_form i (spec.link_at (Some op) item (spec.links_by (operator r) item turn) i) (λ v. (op, origin, v.0.1) ∷ v.1) (λ v. refl)
              (λ n lt v f. ((o.1, f.0.1.0, omega (arith, f.0.1.1), f.1.0), omega (arith, f.0.1.2, f.1.1)))
              (bind_pass b F links_form i (spec.one_link op item i) (λ l. spec.links_by (operator r) item turn >>= (λ ls. pure (l ∷ ls))) (link_at op i o.0).pass (λ y. pass_mapped b links_form y.1 (spec.links_by (operator r) item turn y.1) (λ ls. y.0 ∷ ls) (again y.1)))

      kept_links : 0 < b → (turn turns : ℕ) (a u w : Tokens) → length (a ++ u) ≤ turn → length (a ++ w) ≤ turns → Kept W u w (spec.links_by (operator r) item turn (a ++ u)) (spec.links_by (operator r) other turns (a ++ w))
      unfolding spec.links_by next
      kept_links lt turn turns [] u w le ge = beyond (spec.links_by (operator r) item turn u) (spec.links_by (operator r) other turns w) (low (links_pass turn u))
      kept_links lt zero turns (t ∷ a) u w le ge = absurd (omega (arith, le))
      kept_links lt (suc turn) zero (t ∷ a) u w le ge = absurd (omega (arith, ge))
      kept_links lt (suc turn) (suc turns) (t ∷ a) u w le ge = by (λ c p q. kept_links lt turn turns c u w p q) (operator r (next_by t.mark.head t.mark.kind)) refl
        where
          by : ((c : Tokens) → length (c ++ u) ≤ turn → length (c ++ w) ≤ turns → Kept W u w (spec.links_by (operator r) item turn (c ++ u)) (spec.links_by (operator r) other turns (c ++ w))) → (o : Option Symbol) → operator r (next_by t.mark.head t.mark.kind) ≡ o → Kept W u w (spec.link_at o item (spec.links_by (operator r) item turn) (t ∷ (a ++ u))) (spec.link_at o other (spec.links_by (operator r) other turns) (t ∷ (a ++ w)))
          by again None h = alike [] (t ∷ a)
          by again (Some op) h =
              let F = both (token_form (symbol op)) (leveled (suc (rank r)) room) in
              let l = link_at op (t ∷ (a ++ u)) (operator_sound r (next_by t.mark.head t.mark.kind) op h).0 in
              kept_bind W u w (spec.one_link op item (t ∷ (a ++ u))) (spec.one_link op other (t ∷ (a ++ w))) (λ l. spec.links_by (operator r) item turn >>= (λ ls. pure (l ∷ ls))) (λ l. spec.links_by (operator r) other turns >>= (λ ls. pure (l ∷ ls))) (same_all lt (t ∷ a) u w l)
              (λ y. low (pass_mapped b links_form y.1 (spec.links_by (operator r) item turn y.1) (λ ls. y.0 ∷ ls) (links_pass turn y.1)))
              (λ z c q.
              let k = shorter b F (λ x. omega arith) (t ∷ (a ++ u)) (spec.one_link op item (t ∷ (a ++ u))) (z, c ++ u) l.pass q in
              let fits : length (c ++ u) ≤ turn = omega (arith, le, k) in
              let less : length (c ++ w) ≤ turns = omega (arith, ge, k, length-append c u, length-append a u, length-append c w, length-append a w) in
              kept_bind W u w (spec.links_by (operator r) item turn (c ++ u)) (spec.links_by (operator r) other turns (c ++ w)) (λ ls. pure (z ∷ ls)) (λ ls. pure (z ∷ ls)) (again c fits less) (λ y. low_pure (z ∷ y.0) y.1) (λ xs d q. alike (z ∷ xs) d))

      links_exact : Exact W b (spec.all_links (operator r) item) (spec.all_links (operator r) other) links_form
      unfolding spec.all_links
      links_exact i = record {
        pass = links_pass (turns i) i;
        same = λ lt t a u w h. subst (λ k. Kept W u w (spec.links_by (operator r) item (turns k) k) (spec.links_by (operator r) other (turns (t ∷ (a ++ w))) (t ∷ (a ++ w)))) (sym h) (kept_links lt (length (t ∷ (a ++ u))) (length (t ∷ (a ++ w))) (t ∷ a) u w (omega arith) (omega arith));
      }

      chained_text : (t : Tree) (ls : List LinkTree) → text (spec.chained origin t ls) ≡ text t ++ links_text (links_of ls)
      chained_text t [] = sym (append-nil (text t))
      chained_text t (l ∷ ls) = refl

      chained_fits : (n : ℕ) (t : Tree) (ls : List LinkTree) → Fits n (suc (rank r)) t → AreLinks (rank r) (links_of ls) × (links_nesting (links_of ls) < n) → Fits n (rank r) (spec.chained origin t ls)
      chained_fits n t [] m f = (m.0, omega (arith, m.1), m.2)
      chained_fits n t (l ∷ ls) m f = (subst (λ n. (1 ≤ n) × IsExpression t × (n < level t) × AreLinks n (tree.link l.0 l.1 l.2 (links_of ls))) (sym f.0.0) (le, m.0, omega (arith, m.1), f.0), omega (arith, f.0.0), omega (arith, m.2, f.1))

      pub chain_exact : Exact W b (spec.chain_of (operator r) item) (spec.chain_of (operator r) other) (ruled r)
      unfolding spec.chain_of
      chain_exact i =
          let c = placed W b (λ pos. item >>= (λ t. spec.all_links (operator r) item >>= (λ ls. pure (spec.chained pos t ls)))) (λ pos. other >>= (λ t. spec.all_links (operator r) other >>= (λ ls. pure (spec.chained pos t ls)))) (ruled r) i
          (λ pos. into W b (λ v. spec.chained origin v.0 v.1) (λ v. chained_text v.0 v.1) (λ n lt v f. chained_fits n v.0 v.1 f.0 f.1) (bind_at W b (e i) (λ t j. mapped W b (λ ls. spec.chained pos t ls) (links_exact j)))) in
          record { pass = c.pass; same = c.same }

      -- where an operand goes past the first token a chain does
      pub chain_low : (n : ℕ) (i : Tokens) → Low n (item i) → Low n (spec.chain_of (operator r) item i)
      unfolding spec.chain_of
      chain_low n i h = low_bind n (item i) (λ t. spec.all_links (operator r) item >>= (λ ls. pure (spec.chained (position i) t ls))) h (λ y. low (pass_mapped b links_form y.1 (spec.all_links (operator r) item y.1) (λ ls. spec.chained (position i) y.0 ls) (links_exact y.1).pass))

  -- the same level in other words
  pub relevel : {b : ℕ} {p q : Parser Tree} (l : ℕ) (le ge : l ≤ 8) → Exact W b p q (leveled l le) → Exact W b p q (leveled l ge)
  relevel {b = b} l le ge e i = into W b (λ t. t) (λ t. refl) (λ n lt t f. f) (e i)

  -- ---- what is no value

  module _ (b : ℕ) (value other : Parser Tree) (e : Exact W b value other (ruled rule.Value)) (past : (i : Tokens) → next i ≡ n.Word → Low (length (after i)) (value i)) where
    assign_at : (i : Tokens) → next i ≡ n.Word → sees n.Assign (after i) ≡ true → ExactAt W b (spec.assignment value) (spec.assignment other) (ruled rule.Expression) i × Low (length (after i)) (spec.assignment value i)
    unfolding spec.assignment
    assign_at i h a =
        let known : (pos : Pos) (x : Id) → ExactAt W b (skip >>= (λ u. value >>= (λ t. pure (tree.assign pos x t)))) (skip >>= (λ u. other >>= (λ t. pure (tree.assign pos x t)))) (both (token_form (symbol s.Assign)) (ruled rule.Value)) (after i) =
        λ pos x. bind_at W b (skip_at W b n.Assign (kind.Sym s.Assign) (after i) refl (sees_is n.Assign (after i) a)) (λ u j. mapped W b (λ t. tree.assign pos x t) (e j)) in
        let c = placed W b (λ pos. take_id >>= (λ x. skip >>= (λ u. value >>= (λ t. pure (tree.assign pos x t))))) (λ pos. take_id >>= (λ x. skip >>= (λ u. other >>= (λ t. pure (tree.assign pos x t))))) (ruled rule.Expression) i
        (λ pos. into W b (λ v. tree.assign origin v.0 v.1.1) (λ v. refl) (λ n lt v f. ((f.1.1.0, f.1.1.1), omega arith, f.1.1.2)) (take_then W b identifier _ _ word_form (both (token_form (symbol s.Assign)) (ruled rule.Value)) (identifier i) i identifier_peeks (word_is i h) (λ n. tt) (known pos))) in
        (record { pass = c.pass; same = c.same }, low (known (position i) (identifier i)).pass)

    named_at : (i : Tokens) → next i ≡ n.Word → ExactAt W b (spec.named value) (spec.named other) (ruled rule.Expression) i
    unfolding spec.named
    named_at i h =
        let c = second_at W b (sees n.Assign) (spec.assignment value) (spec.assignment other) value other (ruled rule.Expression) i (sees_peeks n.Assign) (assign_at i h) (λ z. (into W b (λ t. t) (λ t. refl) (λ n lt t f. (f.0, omega arith, f.2)) (e i), past i h)) in
        record { pass = c.pass; same = c.same }

    returned_at : (i : Tokens) → next i ≡ n.Return → ExactAt W b (spec.returned value) (spec.returned other) (ruled rule.Expression) i
    unfolding spec.returned
    returned_at i h =
        let c = placed W b (λ pos. skip >>= (λ u. value >>= (λ t. pure (tree.returned pos t)))) (λ pos. skip >>= (λ u. other >>= (λ t. pure (tree.returned pos t)))) (ruled rule.Expression) i
        (λ pos. into W b (λ v. tree.returned origin v.1) (λ v. refl) (λ n lt v f. ((f.1.0, f.1.1), omega arith, f.1.2)) (bind_at W b (skip_at W b n.Return (kind.Key k.Return) i refl h) (λ u j. mapped W b (λ t. tree.returned pos t) (e j)))) in
        record { pass = c.pass; same = c.same }

    pub expression_exact : Exact W b (spec.expression value) (spec.expression other) (ruled rule.Expression)
    unfolding spec.expression
    expression_exact = dispatch W b (spec.expression_by value) (spec.expression_by other) (ruled rule.Expression) at
      where
        at : (x : Next) (i : Tokens) → next i ≡ x → ExactAt W b (spec.expression_by value x) (spec.expression_by other x) (ruled rule.Expression) i
        at n.Return i h = returned_at i h
        at n.Word i h = named_at i h
        at _ i h = into W b (λ t. t) (λ t. refl) (λ n lt t f. (f.0, omega arith, f.2)) (e i)
