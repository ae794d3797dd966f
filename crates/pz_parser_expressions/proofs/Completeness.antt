-- Each expression that the grammar has, within the nesting, is read from its text, with the places
-- of the tokens, before what does not go on with it.
use Rattle.std.proofs.Common.{◌≡◌, ◌≢◌, ℕ, zero, suc, ◌+◌, ◌≤◌, ◌<◌, Bool, true, false, List, [], ◌∷◌, ◌++◌, length, Ok, refl, ap, sym, ◌∙◌, subst, arith}
use Rattle.pz_syntax.specs.declared.tokens.Pos.{Pos}
use Rattle.pz_syntax.specs.declared.tokens.Symbol.{Symbol}
use Rattle.pz_syntax.specs.declared.tokens.Symbol.TheVariants as s
use Rattle.pz_syntax.specs.declared.tokens.Keyword.TheVariants as k
use Rattle.pz_syntax.specs.declared.tokens.TokenKind.TheVariants as kind
use Rattle.pz_syntax.specs.declared.names.Id.{Id}
use Rattle.pz_syntax.specs.declared.exprs.Literal.{Literal}
use Rattle.pz_syntax.specs.declared.exprs.Literal.TheVariants as lit
use Rattle.pz_syntax.specs.Marks.{symbol, keyword, selector, each_text}
use Rattle.pz_syntax.specs.Expressions.{literal, variable, me, clock, creation, group, chain, sends, unary, assign, returned as return_of, choice, loop, Expressions, none, more, Part, left_out, written, no_links, link, Sendings, no_sendings, sending}
use Rattle.pz_syntax.specs.ExpressionView.{Tree, SendingTree, sendings_of}
use Rattle.pz_syntax.specs.ExpressionText.{text, texts, tail_texts, otherwise_text, sendings_text, arguments_text, literal_kind}
use Rattle.pz_syntax.specs.ExpressionForm.{IsBody, AreExpressions, IsOtherwise, AreArguments, AreSendings}
use Rattle.pz_syntax.specs.ExpressionNesting.{nestings, otherwise_nesting, sendings_nesting, bracketed_nesting}
use Rattle.pz_syntax.specs.ModelForm.{Each}
use Rattle.pz_parser_cursor.specs.declared.ahead.Next.{Next}
use Rattle.pz_parser_cursor.specs.declared.ahead.Next.TheVariants as n
use Rattle.pz_parser_cursor.specs.devices.LookAhead.{next, same}
use Rattle.pz_parser_cursor.specs.devices.Input.{Tokens, after, position, identifier, name, literal as literal_at, sees, selects}
use Rattle.pz_parser_cursor.specs.devices.Device.{Parser, refuse, expect, expect_id}
use Rattle.pz_parser_cursor.specs.devices.Lists.{list_of, each_of}
use Rattle.pz_parser_cursor.specs.Places.{located, Placing, place_id, place_each}
use Rattle.pz_parser_cursor.proofs.Steps.{deepen_is, expect_is, not_seen}
use Rattle.pz_parser_cursor.proofs.Words.{selector_seen}
use Rattle.pz_parser_cursor.proofs.Reading.{Complete, split_located}
use Rattle.pz_parser_cursor.proofs.Joined.{joined_complete, token}
use Rattle.pz_parser_cursor.proofs.Each.{each_complete}
use Rattle.pz_parser_expressions.specs.declared.rule.Rule.{Rule}
use Rattle.pz_parser_expressions.specs.declared.rule.Rule.TheVariants as rule
use Rattle.pz_parser_expressions.specs.devices.Rules.{rank}
use Rattle.pz_parser_expressions.specs.devices.Values.{expr, below, by_rule, assignment, returned, named, expression, expression_by, created, tested, otherwise, otherwise_by, exprs_before, enclosed, grouped, conditional, repetition, primary, arguments, arguments_by, one_sending, all_sendings, sent_to, signed, operand, products, sums, comparisons, conjunctions, values}
use Rattle.pz_parser_expressions.specs.ExpressionPlaces.{place, place_all, place_part, place_sendings}
use Rattle.pz_parser_expressions.proofs.Loops.{operand_default}
use Rattle.pz_parser_expressions.proofs.Texts.{Fits, starts, begins, stands, to_list, list_back, texts_of, places_are, filled_of_body}
use Rattle.pz_parser_expressions.proofs.Operators.{binding, Stops}
use Rattle.pz_parser_expressions.proofs.Firsts.{level_le, not_selected, selector_no_bracket, no_return, no_assign, unsigned}
use Rattle.pz_parser_expressions.proofs.Readings.{sending_text, SendingFits}
use Rattle.pz_parser_expressions.proofs.Linked.{chain_complete}

-- what is bound less tightly than this is not that
pub unbound : (x y : Next) (m : ℕ) → binding x < m → m ≤ binding y → x ≢ y
unbound x y m lt le e = let f : binding x ≡ binding y = ap binding e in absurd (omega (arith, lt, le, f))

pub semicolon_is : (p : Pos) (i : Tokens) → next (token (kind.Sym s.Semicolon) p ∷ i) ≡ n.Semicolon
unfolding next
semicolon_is p i = refl

pub semicolon_seen : (p : Pos) (i : Tokens) → sees n.Semicolon (token (kind.Sym s.Semicolon) p ∷ i) ≡ true
unfolding sees same next
semicolon_seen p i = refl

comma_is : (p : Pos) (i : Tokens) → next (token (kind.Sym s.Comma) p ∷ i) ≡ n.Comma
unfolding next
comma_is p i = refl

comma_seen : (p : Pos) (i : Tokens) → sees n.Comma (token (kind.Sym s.Comma) p ∷ i) ≡ true
unfolding sees same next
comma_seen p i = refl

otherwise_default : (inner : Rule → Parser Tree) (x : Next) (j : Tokens) → x ≢ n.Else → otherwise_by inner x j ≡ Ok (left_out, j)
otherwise_default inner n.Else j h = absurd (h refl)
otherwise_default inner _ j h = refl

arguments_default : (depth : ℕ) (inner : Rule → Parser Tree) (x : Next) (j : Tokens) → x ≢ n.LeftParen → arguments_by depth inner x j ≡ Ok (left_out, j)
arguments_default depth inner n.LeftParen j h = absurd (h refl)
arguments_default depth inner _ j h = refl

abbrev pub to_sendings : Sendings Id Id → List SendingTree
to_sendings no_sendings = []
to_sendings (sending x a ss) = (x, a) ∷ to_sendings ss

sendings_back : (ss : Sendings Id Id) → sendings_of (to_sendings ss) ≡ ss
sendings_back no_sendings = refl
sendings_back (sending x a ss) = ap (sending x a) (sendings_back ss)

sendings_texts : (ss : Sendings Id Id) → sendings_text ss ≡ each_text sending_text (to_sendings ss)
sendings_texts no_sendings = refl
sendings_texts (sending x a ss) = ap (λ r. selector x ∷ (arguments_text a ++ r)) (sendings_texts ss)

abbrev place_sending : Placing SendingTree
place_sending at k x = (place_id at k x.0, place_part at (suc k) x.1)

sendings_places : (at : ℕ → Pos) (k : ℕ) (ss : Sendings Id Id) → place_each sending_text place_sending at k (to_sendings ss) ≡ to_sendings (place_sendings at k ss)
sendings_places at k no_sendings = refl
sendings_places at k (sending x a ss) =
    let e : k + suc (length (arguments_text a)) ≡ suc k + length (arguments_text a) = omega arith in
    ap (λ r. (place_id at k x, place_part at (suc k) a) ∷ r) (ap (λ m. place_each sending_text place_sending at m (to_sendings ss)) e ∙ sendings_places at (suc k + length (arguments_text a)) ss)

sendings_fit : (depth : ℕ) (ss : Sendings Id Id) → AreSendings ss → sendings_nesting ss < suc depth → Each (SendingFits depth) (to_sendings ss)
sendings_fit depth no_sendings h lt = tt
sendings_fit depth (sending x a ss) h lt = ((h.0, omega (arith, lt)), sendings_fit depth ss h.1 (omega (arith, lt)))

module _ (depth : ℕ) (inner : Rule → Parser Tree) (inner_complete : (r : Rule) → Complete text place (inner r) (Fits depth (rank r)) (Stops r)) where
  -- lists with this separator
  module _ (sep : Next) (x : Symbol) (loose : binding sep < 1) (is_sep : (p : Pos) (i : Tokens) → next (token (kind.Sym x) p ∷ i) ≡ sep) (sees_sep : (p : Pos) (i : Tokens) → sees sep (token (kind.Sym x) p ∷ i) ≡ true) where
    pub list_given : (at : ℕ → Pos) (k : ℕ) (ts : Expressions Id Id) (j : Tokens) → IsBody ts → nestings ts < depth → binding (next j) < 1 → next j ≢ sep → list_of (inner rule.Expression) sep (located at k (texts x ts) ++ j) ≡ Ok (to_list (place_all at k ts), j)
    list_given at k ts j body lt h ne =
        ap (λ r. list_of (inner rule.Expression) sep (located at k r ++ j)) (texts_of x ts)
        ∙ (joined_complete text place (inner rule.Expression) (Fits depth 0) sep (kind.Sym x) (Stops rule.Expression) loose is_sep sees_sep (inner_complete rule.Expression)).gives at k (to_list ts) j (filled_of_body depth ts body lt) (h, ne)
        ∙ ap (λ l. Ok (l, j)) (places_are at k ts)

    pub before_given : (close : Next) (at : ℕ → Pos) (k : ℕ) (ts : Expressions Id Id) (j : Tokens) → starts close ≡ false → AreExpressions ts → nestings ts < depth → sees close j ≡ true → binding (next j) < 1 → next j ≢ sep → exprs_before inner sep close (located at k (texts x ts) ++ j) ≡ Ok (to_list (place_all at k ts), j)
    unfolding exprs_before
    before_given close at k none j st each lt seen h ne = rw seen refl
    before_given close at k (more t ts) j st each lt seen h ne =
        let i = located at k (texts x (more t ts)) ++ j in
        let first : starts (next i) ≡ true = ap (λ z. starts (next z)) (split_located at k (text t) (tail_texts x ts) j) ∙ begins at k t (located at (k + length (text t)) (tail_texts x ts) ++ j) each.0 in
        let other : sees close i ≡ false = not_seen close i (λ e. clash (ap starts e) first st) in
        rw other (list_given at k (more t ts) j each lt h ne)
      where
        clash : {b c : Bool} → b ≡ c → b ≡ true → c ≡ false → ⊥
        clash e f g = absurd cc

    enclosed_given : (close : Next) (left right : Symbol) (at : ℕ → Pos) (k : ℕ) (ts : Expressions Id Id) (j : Tokens) → starts close ≡ false → binding close < 1 → close ≢ sep → ((p : Pos) (i : Tokens) → next (token (kind.Sym right) p ∷ i) ≡ close) → ((p : Pos) (i : Tokens) → sees close (token (kind.Sym right) p ∷ i) ≡ true)
        → AreExpressions ts → nestings ts < depth → enclosed depth inner sep close (located at k (symbol left ∷ (texts x ts ++ symbol right ∷ [])) ++ j) ≡ Ok (to_list (place_all at (suc k) ts), j)
    unfolding enclosed after
    enclosed_given close left right at k ts j st un ne is_close sees_close each lt =
        let m = suc k + length (texts x ts) in
        let r = token (kind.Sym right) (at m) ∷ j in
        let seen = sees_close (at m) j in
        let shown : binding (next r) < 1 = subst (λ z. binding z < 1) (sym (is_close (at m) j)) un in
        let other : next r ≢ sep = λ e. ne (sym (is_close (at m) j) ∙ e) in
        rw (deepen_is depth (located at k (symbol left ∷ (texts x ts ++ symbol right ∷ [])) ++ j) (omega (arith, lt)), split_located at (suc k) (texts x ts) (symbol right ∷ []) j, before_given close at (suc k) ts r st each lt seen shown other, expect_is close r seen) refl

  pub body_given : (at : ℕ → Pos) (k : ℕ) (ts : Expressions Id Id) (j : Tokens) → IsBody ts → nestings ts < depth → binding (next j) < 1 → next j ≢ n.Semicolon → list_of (inner rule.Expression) n.Semicolon (located at k (texts s.Semicolon ts) ++ j) ≡ Ok (to_list (place_all at k ts), j)
  body_given = list_given n.Semicolon s.Semicolon (omega arith) semicolon_is semicolon_seen

  pub arguments_given : (at : ℕ → Pos) (k : ℕ) (ts : Expressions Id Id) (j : Tokens) → AreExpressions ts → nestings ts < depth → enclosed depth inner n.Comma n.RightParen (located at k (symbol s.LeftParen ∷ (texts s.Comma ts ++ symbol s.RightParen ∷ [])) ++ j) ≡ Ok (to_list (place_all at (suc k) ts), j)
  unfolding sees same next
  arguments_given at k ts j each lt = enclosed_given n.Comma s.Comma (omega arith) comma_is comma_seen n.RightParen s.LeftParen s.RightParen at k ts j refl (omega arith) (λ e. absurd cc) (λ p i. refl) (λ p i. refl) each lt

  pub block_given : (at : ℕ → Pos) (k : ℕ) (ts : Expressions Id Id) (j : Tokens) → AreExpressions ts → nestings ts < depth → enclosed depth inner n.Semicolon n.RightBrace (located at k (symbol s.LeftBrace ∷ (texts s.Semicolon ts ++ symbol s.RightBrace ∷ [])) ++ j) ≡ Ok (to_list (place_all at (suc k) ts), j)
  unfolding sees same next
  block_given at k ts j each lt = enclosed_given n.Semicolon s.Semicolon (omega arith) semicolon_is semicolon_seen n.RightBrace s.LeftBrace s.RightBrace at k ts j refl (omega arith) (λ e. absurd cc) (λ p i. refl) (λ p i. refl) each lt

  -- ---- what selectors are sent to

  constant_given : (p : Pos) (x : Literal) (j : Tokens) → primary depth inner (token (literal_kind x) p ∷ j) ≡ Ok (literal p x, j)
  unfolding primary next after position literal_at
  constant_given p (lit.Int v) j = refl
  constant_given p lit.Float j = refl
  constant_given p (lit.Char c) j = refl
  constant_given p (lit.Str bytes) j = refl
  constant_given p lit.True j = refl
  constant_given p lit.False j = refl
  constant_given p lit.Nil j = refl

  grouped_given : (at : ℕ → Pos) (m : ℕ) (pos : Pos) (ts : Expressions Id Id) (j : Tokens) → IsBody ts → nestings ts < depth → grouped depth inner (located at m (text (group pos ts)) ++ j) ≡ Ok (place at m (group pos ts), j)
  unfolding grouped next after position sees same
  grouped_given at m pos ts j body lt =
      let r = token (kind.Sym s.RightParen) (at (suc m + length (texts s.Semicolon ts))) ∷ j in
      rw (deepen_is depth (located at m (text (group pos ts)) ++ j) (omega (arith, lt)), split_located at (suc m) (texts s.Semicolon ts) (symbol s.RightParen ∷ []) j, body_given at (suc m) ts r body lt (omega arith) (λ e. absurd cc), expect_is n.RightParen r refl, list_back (place_all at (suc m) ts)) refl

  -- the part behind `else`, before `fi`
  otherwise_given : (at : ℕ → Pos) (m : ℕ) (o : Part Id Id) (p : Pos) (j : Tokens) → IsOtherwise o → otherwise_nesting o < depth → otherwise inner (located at m (otherwise_text o) ++ token (kind.Key k.Fi) p ∷ j) ≡ Ok (place_part at m o, token (kind.Key k.Fi) p ∷ j)
  unfolding otherwise next after sees same
  otherwise_given at m left_out p j h lt = refl
  otherwise_given at m (written ts) p j h lt = rw (body_given at (suc m) ts (token (kind.Key k.Fi) p ∷ j) h lt (omega arith) (λ e. absurd cc), list_back (place_all at (suc m) ts)) refl

  other_stops : (at : ℕ → Pos) (m : ℕ) (o : Part Id Id) (p : Pos) (j : Tokens) → (binding (next (located at m (otherwise_text o) ++ token (kind.Key k.Fi) p ∷ j)) < 1) × (next (located at m (otherwise_text o) ++ token (kind.Key k.Fi) p ∷ j) ≢ n.Semicolon)
  unfolding next
  other_stops at m left_out p j = (omega arith, λ e. absurd cc)
  other_stops at m (written ts) p j = (omega arith, λ e. absurd cc)

  conditional_given : (at : ℕ → Pos) (m : ℕ) (pos : Pos) (t : Tree) (ts : Expressions Id Id) (o : Part Id Id) (j : Tokens) → Fits depth 1 t → IsBody ts → nestings ts < depth → IsOtherwise o → otherwise_nesting o < depth → conditional depth inner (located at m (text (choice pos t ts o)) ++ j) ≡ Ok (place at m (choice pos t ts o), j)
  unfolding conditional tested next after position sees same
  conditional_given at m pos t ts o j f body lt h ne =
      let a = suc m + length (text t) in
      let b = suc a + length (texts s.Semicolon ts) in
      let c = b + length (otherwise_text o) in
      let fi = token (kind.Key k.Fi) (at c) ∷ j in
      let other = located at b (otherwise_text o) ++ fi in
      let then = token (kind.Key k.Then) (at a) ∷ (located at (suc a) (texts s.Semicolon ts) ++ other) in
      let stop = other_stops at b o (at c) j in
      rw (
        deepen_is depth (located at m (text (choice pos t ts o)) ++ j) (omega (arith, lt)),
        split_located at (suc m) (text t) (keyword k.Then ∷ (texts s.Semicolon ts ++ (otherwise_text o ++ keyword k.Fi ∷ []))) j,
        split_located at (suc a) (texts s.Semicolon ts) (otherwise_text o ++ keyword k.Fi ∷ []) j,
        split_located at b (otherwise_text o) (keyword k.Fi ∷ []) j,
        (inner_complete rule.Value).gives at (suc m) t then f (omega arith),
        expect_is n.Then then refl,
        body_given at (suc a) ts other body lt stop.0 stop.1,
        otherwise_given at b o (at c) j h ne,
        expect_is n.Fi fi refl,
        list_back (place_all at (suc a) ts),
      ) refl

  repetition_given : (at : ℕ → Pos) (m : ℕ) (pos : Pos) (t : Tree) (ts : Expressions Id Id) (j : Tokens) → Fits depth 1 t → IsBody ts → nestings ts < depth → repetition depth inner (located at m (text (loop pos t ts)) ++ j) ≡ Ok (place at m (loop pos t ts), j)
  unfolding repetition tested next after position sees same
  repetition_given at m pos t ts j f body lt =
      let a = suc m + length (text t) in
      let b = suc a + length (texts s.Semicolon ts) in
      let od = token (kind.Key k.Od) (at b) ∷ j in
      let do_ = token (kind.Key k.Do) (at a) ∷ (located at (suc a) (texts s.Semicolon ts) ++ od) in
      rw (
        deepen_is depth (located at m (text (loop pos t ts)) ++ j) (omega (arith, lt)),
        split_located at (suc m) (text t) (keyword k.Do ∷ (texts s.Semicolon ts ++ keyword k.Od ∷ [])) j,
        split_located at (suc a) (texts s.Semicolon ts) (keyword k.Od ∷ []) j,
        (inner_complete rule.Value).gives at (suc m) t do_ f (omega arith),
        expect_is n.Do do_ refl,
        body_given at (suc a) ts od body lt (omega arith) (λ e. absurd cc),
        expect_is n.Od od refl,
        list_back (place_all at (suc a) ts),
      ) refl

  -- a primary is read whatever stands behind it
  primary_given : (at : ℕ → Pos) (m : ℕ) (t : Tree) (j : Tokens) → Fits (suc depth) 8 t → primary depth inner (located at m (text t) ++ j) ≡ Ok (place at m t, j)
  unfolding primary next after position identifier name created expect expect_id sees same
  primary_given at m (literal pos x) j f = constant_given (at m) x j
  primary_given at m (variable pos x) j f = refl
  primary_given at m (me pos) j f = refl
  primary_given at m (clock pos) j f = refl
  primary_given at m (creation pos class) j f = refl
  primary_given at m (group pos ts) j f = grouped_given at m pos ts j f.0 (omega (arith, f.2))
  primary_given at m (chain pos t no_links) j f = absurd f.0
  primary_given at m (chain pos t (link op p u ls)) j f = absurd (omega (arith, f.1, level_le op))
  primary_given at m (sends pos t ss) j f = absurd (omega (arith, f.1))
  primary_given at m (unary pos op t) j f = absurd (omega (arith, f.1))
  primary_given at m (assign pos x t) j f = absurd (omega (arith, f.1))
  primary_given at m (return_of pos t) j f = absurd (omega (arith, f.1))
  primary_given at m (choice pos test body other) j f = conditional_given at m pos test body other j (f.0.0, f.0.1, omega (arith, f.2)) f.0.2 (omega (arith, f.2)) f.0.3 (omega (arith, f.2))
  primary_given at m (loop pos test body) j f = repetition_given at m pos test body j (f.0.0, f.0.1, omega (arith, f.2)) f.0.2 (omega (arith, f.2))

  -- ---- sendings

  pub optional_given : (at : ℕ → Pos) (m : ℕ) (a : Part Id Id) (j : Tokens) → AreArguments a → bracketed_nesting a < suc depth → next j ≢ n.LeftParen → arguments depth inner (located at m (arguments_text a) ++ j) ≡ Ok (place_part at m a, j)
  unfolding arguments next
  optional_given at m left_out j h lt stop = arguments_default depth inner (next j) j stop
  optional_given at m (written ts) j h lt stop = rw (arguments_given at m ts j h (omega (arith, lt)), list_back (place_all at (suc m) ts)) refl

  sending_complete : Complete sending_text place_sending (one_sending depth inner) (SendingFits depth) (λ x. x ≢ n.LeftParen)
  unfolding one_sending after
  sending_complete = record { gives = λ at m x j f stop. rw (optional_given at (suc m) x.1 j f.0 f.1 stop, (selector_seen (at m) x.0 (located at (suc m) (arguments_text x.1) ++ j)).1) refl }

  sendings_given : (at : ℕ → Pos) (m : ℕ) (ss : Sendings Id Id) (j : Tokens) → AreSendings ss → sendings_nesting ss < suc depth → binding (next j) < 6 → all_sendings depth inner (located at m (sendings_text ss) ++ j) ≡ Ok (to_sendings (place_sendings at m ss), j)
  unfolding all_sendings
  sendings_given at m ss j h lt stop =
      ap (λ r. each_of selects (one_sending depth inner) (located at m r ++ j)) (sendings_texts ss)
      ∙ each_complete sending_text selects (one_sending depth inner) (SendingFits depth) place_sending (λ x. x ≢ n.LeftParen)
      (λ at m x j f. ((selector_seen (at m) x.0 (located at (suc m) (arguments_text x.1) ++ j)).0, selector_no_bracket (at m) x.0 (located at (suc m) (arguments_text x.1) ++ j)))
      (λ x f. omega arith) sending_complete at m (to_sendings ss) j (sendings_fit depth ss h lt) (unbound (next j) n.LeftParen 6 stop (omega arith))
      (not_selected j (unbound (next j) n.Word 6 stop (omega arith)) (unbound (next j) n.Init 6 stop (omega arith)))
      ∙ ap (λ l. Ok (l, j)) (sendings_places at m ss)

  sent_given : (at : ℕ → Pos) (m : ℕ) (pos : Pos) (t : Tree) (x : Id) (a : Part Id Id) (ss : Sendings Id Id) (j : Tokens) → Fits (suc depth) 8 t → AreSendings (sending x a ss) → sendings_nesting (sending x a ss) < suc depth → binding (next j) < 6
      → sent_to depth inner (located at m (text (sends pos t (sending x a ss))) ++ j) ≡ Ok (place at m (sends pos t (sending x a ss)), j)
  unfolding sent_to
  sent_given at m pos t x a ss j f h lt stop =
      let b = m + length (text t) in
      rw (stands at m (sends pos t (sending x a ss)) j, split_located at m (text t) (sendings_text (sending x a ss)) j, primary_given at m t (located at b (sendings_text (sending x a ss)) ++ j) f, sendings_given at b (sending x a ss) j h lt stop, sendings_back (place_sendings at (suc b + length (arguments_text a)) ss)) refl

  unsent : (at : ℕ → Pos) (m : ℕ) (t : Tree) (j : Tokens) → Fits (suc depth) 8 t → binding (next j) < 6 → sent_to depth inner (located at m (text t) ++ j) ≡ Ok (place at m t, j)
  unfolding sent_to
  unsent at m t j f stop = rw (primary_given at m t j f, sendings_given at m no_sendings j tt (omega arith) stop) refl

  sent_to_given : (at : ℕ → Pos) (m : ℕ) (t : Tree) (j : Tokens) → Fits (suc depth) 7 t → binding (next j) < 6 → sent_to depth inner (located at m (text t) ++ j) ≡ Ok (place at m t, j)
  sent_to_given at m (sends pos t no_sendings) j f stop = absurd f.0
  sent_to_given at m (sends pos t (sending x a ss)) j f stop = sent_given at m pos t x a ss j (f.0.0, f.0.1, omega (arith, f.2)) f.0.2 (omega (arith, f.2)) stop
  sent_to_given at m (literal pos x) j f stop = unsent at m (literal pos x) j (f.0, omega arith, f.2) stop
  sent_to_given at m (variable pos x) j f stop = unsent at m (variable pos x) j (f.0, omega arith, f.2) stop
  sent_to_given at m (me pos) j f stop = unsent at m (me pos) j (f.0, omega arith, f.2) stop
  sent_to_given at m (clock pos) j f stop = unsent at m (clock pos) j (f.0, omega arith, f.2) stop
  sent_to_given at m (creation pos x) j f stop = unsent at m (creation pos x) j (f.0, omega arith, f.2) stop
  sent_to_given at m (group pos ts) j f stop = unsent at m (group pos ts) j (f.0, omega arith, f.2) stop
  sent_to_given at m (choice pos t ts o) j f stop = unsent at m (choice pos t ts o) j (f.0, omega arith, f.2) stop
  sent_to_given at m (loop pos t ts) j f stop = unsent at m (loop pos t ts) j (f.0, omega arith, f.2) stop
  sent_to_given at m (chain pos t no_links) j f stop = absurd f.0
  sent_to_given at m (chain pos t (link op p u ls)) j f stop = absurd (omega (arith, f.1, level_le op))
  sent_to_given at m (unary pos op t) j f stop = absurd (omega (arith, f.1))
  sent_to_given at m (assign pos x t) j f stop = absurd (omega (arith, f.1))
  sent_to_given at m (return_of pos t) j f stop = absurd (omega (arith, f.1))

  -- ---- operands

  signed_given : (at : ℕ → Pos) (m : ℕ) (pos : Pos) (op : Symbol) (t : Tree) (j : Tokens) → Fits depth 6 t → binding (next j) < 6 → signed depth inner op (located at m (text (unary pos op t)) ++ j) ≡ Ok (place at m (unary pos op t), j)
  unfolding signed after position
  signed_given at m pos op t j f stop = rw (deepen_is depth (located at m (text (unary pos op t)) ++ j) (omega (arith, f.2)), (inner_complete rule.Operand).gives at (suc m) t j f stop) refl

  plain : (at : ℕ → Pos) (m : ℕ) (t : Tree) (j : Tokens) → Fits (suc depth) 7 t → binding (next j) < 6 → operand depth inner (located at m (text t) ++ j) ≡ Ok (place at m t, j)
  unfolding operand
  plain at m t j f stop = let u = unsigned at m t j f.0 f.1 in ap (λ (p : Parser Tree). p (located at m (text t) ++ j)) (sym (operand_default depth inner (next (located at m (text t) ++ j)) u.0 u.1)) ∙ sent_to_given at m t j f stop

  operand_given : (at : ℕ → Pos) (m : ℕ) (t : Tree) (j : Tokens) → Fits (suc depth) 6 t → binding (next j) < 6 → operand depth inner (located at m (text t) ++ j) ≡ Ok (place at m t, j)
  unfolding operand next
  operand_given at m (unary pos s.Minus t) j f stop = signed_given at m pos s.Minus t j (f.0.1, f.0.2, omega (arith, f.2)) stop
  operand_given at m (unary pos s.Bang t) j f stop = signed_given at m pos s.Bang t j (f.0.1, f.0.2, omega (arith, f.2)) stop
  operand_given at m (unary pos _ t) j f stop = absurd f.0.0
  operand_given at m (sends pos t ss) j f stop = plain at m (sends pos t ss) j (f.0, omega arith, f.2) stop
  operand_given at m (literal pos x) j f stop = plain at m (literal pos x) j (f.0, omega arith, f.2) stop
  operand_given at m (variable pos x) j f stop = plain at m (variable pos x) j (f.0, omega arith, f.2) stop
  operand_given at m (me pos) j f stop = plain at m (me pos) j (f.0, omega arith, f.2) stop
  operand_given at m (clock pos) j f stop = plain at m (clock pos) j (f.0, omega arith, f.2) stop
  operand_given at m (creation pos x) j f stop = plain at m (creation pos x) j (f.0, omega arith, f.2) stop
  operand_given at m (group pos ts) j f stop = plain at m (group pos ts) j (f.0, omega arith, f.2) stop
  operand_given at m (choice pos t ts o) j f stop = plain at m (choice pos t ts o) j (f.0, omega arith, f.2) stop
  operand_given at m (loop pos t ts) j f stop = plain at m (loop pos t ts) j (f.0, omega arith, f.2) stop
  operand_given at m (chain pos t no_links) j f stop = absurd f.0
  operand_given at m (chain pos t (link op p u ls)) j f stop = absurd (omega (arith, f.1, level_le op))
  operand_given at m (assign pos x t) j f stop = absurd (omega (arith, f.1))
  operand_given at m (return_of pos t) j f stop = absurd (omega (arith, f.1))

  operand_complete : Complete text place (operand depth inner) (Fits (suc depth) 6) (Stops rule.Operand)
  operand_complete = record { gives = operand_given }

  -- ---- chains

  products_complete : Complete text place (products depth inner) (Fits (suc depth) 5) (Stops rule.Product)
  products_complete = chain_complete (suc depth) (omega arith) rule.Product (operand depth inner) tt (omega arith) refl (Stops rule.Operand) (λ x lt. lt) operand_complete

  sums_complete : Complete text place (sums depth inner) (Fits (suc depth) 4) (Stops rule.Sum)
  sums_complete = chain_complete (suc depth) (omega arith) rule.Sum (products depth inner) tt (omega arith) refl (Stops rule.Product) (λ x lt. lt) products_complete

  comparisons_complete : Complete text place (comparisons depth inner) (Fits (suc depth) 3) (Stops rule.Comparison)
  comparisons_complete = chain_complete (suc depth) (omega arith) rule.Comparison (sums depth inner) tt (omega arith) refl (Stops rule.Sum) (λ x lt. lt) sums_complete

  conjunctions_complete : Complete text place (conjunctions depth inner) (Fits (suc depth) 2) (Stops rule.Conjunction)
  conjunctions_complete = chain_complete (suc depth) (omega arith) rule.Conjunction (comparisons depth inner) tt (omega arith) refl (Stops rule.Comparison) (λ x lt. lt) comparisons_complete

  values_complete : Complete text place (values depth inner) (Fits (suc depth) 1) (Stops rule.Value)
  values_complete = chain_complete (suc depth) (omega arith) rule.Value (conjunctions depth inner) tt (omega arith) refl (Stops rule.Conjunction) (λ x lt. lt) conjunctions_complete

  -- ---- what is no value

  assignment_given : (at : ℕ → Pos) (m : ℕ) (pos : Pos) (x : Id) (t : Tree) (j : Tokens) → Fits (suc depth) 1 t → binding (next j) < 1 → expression (values depth inner) (located at m (text (assign pos x t)) ++ j) ≡ Ok (place at m (assign pos x t), j)
  unfolding expression named assignment next after position identifier name sees same
  assignment_given at m pos x t j f stop = rw (values_complete.gives at (suc (suc m)) t j f stop) refl

  returned_given : (at : ℕ → Pos) (m : ℕ) (pos : Pos) (t : Tree) (j : Tokens) → Fits (suc depth) 1 t → binding (next j) < 1 → expression (values depth inner) (located at m (text (return_of pos t)) ++ j) ≡ Ok (place at m (return_of pos t), j)
  unfolding expression returned next after position
  returned_given at m pos t j f stop = rw (values_complete.gives at (suc m) t j f stop) refl

  value_by : (i : Tokens) (x : Next) → next i ≡ x → x ≢ n.Return → (x ≡ n.Word → next (after i) ≢ n.Assign) → expression_by (values depth inner) x i ≡ values depth inner i
  unfolding named
  value_by i n.Return e h g = absurd (h refl)
  value_by i n.Word e h g = rw (not_seen n.Assign (after i) (g refl)) refl
  value_by i _ e h g = refl

  value_given : (at : ℕ → Pos) (m : ℕ) (t : Tree) (j : Tokens) → Fits (suc depth) 1 t → binding (next j) < 1 → expression (values depth inner) (located at m (text t) ++ j) ≡ Ok (place at m t, j)
  unfolding expression
  value_given at m t j f stop =
      let i = located at m (text t) ++ j in
      value_by i (next i) refl (no_return at m t j f.0 f.1) (no_assign at m t j f.0 f.1 (unbound (next j) n.Assign 1 stop (omega arith))) ∙ values_complete.gives at m t j f stop

  expression_given : (at : ℕ → Pos) (m : ℕ) (t : Tree) (j : Tokens) → Fits (suc depth) 0 t → binding (next j) < 1 → expression (values depth inner) (located at m (text t) ++ j) ≡ Ok (place at m t, j)
  expression_given at m (assign pos x t) j f stop = assignment_given at m pos x t j (f.0.0, f.0.1, f.2) stop
  expression_given at m (return_of pos t) j f stop = returned_given at m pos t j (f.0.0, f.0.1, f.2) stop
  expression_given at m (literal pos x) j f stop = value_given at m (literal pos x) j (f.0, omega arith, f.2) stop
  expression_given at m (variable pos x) j f stop = value_given at m (variable pos x) j (f.0, omega arith, f.2) stop
  expression_given at m (me pos) j f stop = value_given at m (me pos) j (f.0, omega arith, f.2) stop
  expression_given at m (clock pos) j f stop = value_given at m (clock pos) j (f.0, omega arith, f.2) stop
  expression_given at m (creation pos x) j f stop = value_given at m (creation pos x) j (f.0, omega arith, f.2) stop
  expression_given at m (group pos ts) j f stop = value_given at m (group pos ts) j (f.0, omega arith, f.2) stop
  expression_given at m (chain pos t no_links) j f stop = absurd f.0
  expression_given at m (chain pos t (link op p u ls)) j f stop = value_given at m (chain pos t (link op p u ls)) j (f.0, omega (arith, f.0.0), f.2) stop
  expression_given at m (sends pos t ss) j f stop = value_given at m (sends pos t ss) j (f.0, omega arith, f.2) stop
  expression_given at m (unary pos op t) j f stop = value_given at m (unary pos op t) j (f.0, omega arith, f.2) stop
  expression_given at m (choice pos t ts o) j f stop = value_given at m (choice pos t ts o) j (f.0, omega arith, f.2) stop
  expression_given at m (loop pos t ts) j f stop = value_given at m (loop pos t ts) j (f.0, omega arith, f.2) stop

  pub by_rule_complete : (r : Rule) → Complete text place (by_rule depth inner r) (Fits (suc depth) (rank r)) (Stops r)
  by_rule_complete rule.Expression = record { gives = expression_given }
  by_rule_complete rule.Value = values_complete
  by_rule_complete rule.Conjunction = conjunctions_complete
  by_rule_complete rule.Comparison = comparisons_complete
  by_rule_complete rule.Sum = sums_complete
  by_rule_complete rule.Product = products_complete
  by_rule_complete rule.Operand = operand_complete

-- Each expression that the rule has, of at most this nesting, is read from its text.
pub expr_complete : (d : ℕ) (r : Rule) → Complete text place (expr d r) (Fits (suc d) (rank r)) (Stops r)
unfolding expr
expr_complete zero r = by_rule_complete zero (λ _. refuse) (λ r. record { gives = λ at m t j f stop. absurd (omega (arith, f.2)) }) r
expr_complete (suc d) r = by_rule_complete (suc d) (expr d) (expr_complete d) r

-- the same one construct further in
pub below_complete : (d : ℕ) (r : Rule) → Complete text place (below d r) (Fits d (rank r)) (Stops r)
below_complete zero r = record { gives = λ at m t j f stop. absurd (omega (arith, f.2)) }
below_complete (suc d) r = expr_complete d r
