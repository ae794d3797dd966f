-- Chains of operators of one level.
use Rattle.std.proofs.Common.{◌≡◌, ℕ, zero, suc, ◌+◌, ◌≤◌, ◌<◌, List, [], ◌∷◌, ◌++◌, length, Option, Some, None, Ok, refl, ap, sym, ◌∙◌, subst, arith, append_assoc, length-append, inl, inr, ◌⊎◌}
use Rattle.std.proofs.Math.Nat.{eq-or-lt_of_le}
use Rattle.pz_syntax.specs.declared.tokens.Pos.{Pos}
use Rattle.pz_syntax.specs.declared.tokens.Symbol.{Symbol}
use Rattle.pz_syntax.specs.declared.tokens.TokenKind.TheVariants as kind
use Rattle.pz_syntax.specs.declared.tokens.Mark.{Mark}
use Rattle.pz_syntax.specs.declared.names.Id.{Id}
use Rattle.pz_syntax.specs.Marks.{symbol}
use Rattle.pz_syntax.specs.Expressions.{literal, variable, me, clock, creation, group, chain, sends, unary, assign, returned, choice, loop, Links, no_links, link}
use Rattle.pz_syntax.specs.ExpressionView.{Tree, LinkTree, links_of}
use Rattle.pz_syntax.specs.ExpressionText.{text, links_text}
use Rattle.pz_syntax.specs.ExpressionForm.{IsExpression, AreLinks, level}
use Rattle.pz_syntax.specs.ExpressionNesting.{links_nesting}
use Rattle.pz_parser_cursor.specs.declared.ahead.Next.{Next}
use Rattle.pz_parser_cursor.specs.devices.LookAhead.{next}
use Rattle.pz_parser_cursor.specs.devices.Input.{Tokens, marks, after, position}
use Rattle.pz_parser_cursor.specs.devices.Device.{Parser, pure}
use Rattle.pz_parser_cursor.specs.devices.Lists.{turns}
use Rattle.pz_parser_cursor.specs.Places.{located}
use Rattle.pz_parser_cursor.proofs.Steps.{bind_ok, takes}
use Rattle.pz_parser_cursor.proofs.Reading.{Took, Sound, Complete, ok_took, split_located, located_length}
use Rattle.pz_parser_expressions.specs.declared.rule.Rule.{Rule}
use Rattle.pz_parser_expressions.specs.declared.rule.Rule.TheVariants as rule
use Rattle.pz_parser_expressions.specs.devices.Rules.{rank, operator}
use Rattle.pz_parser_expressions.specs.devices.Values.{links_by, link_at, one_link, all_links, chain_of, chained}
use Rattle.pz_parser_expressions.specs.ExpressionPlaces.{place, place_links}
use Rattle.pz_parser_expressions.proofs.Texts.{Fits, stands}
use Rattle.pz_parser_expressions.proofs.Operators.{operator_sound, operator_none, operator_seen, IsChain, binding, strength, Stops}

abbrev pub links : Links Id Id → List LinkTree
links no_links = []
links (link op pos t ls) = (op, pos, t) ∷ links ls

links_back : (ls : Links Id Id) → links_of (links ls) ≡ ls
links_back no_links = refl
links_back (link op pos t ls) = ap (link op pos t) (links_back ls)

abbrev count : Links Id Id → ℕ
count no_links = 0
count (link op pos t ls) = suc (count ls)

count-le : (ls : Links Id Id) → count ls ≤ length (links_text ls)
count-le no_links = omega arith
count-le (link op pos t ls) = omega (arith, count-le ls, length-append (text t) (links_text ls))

abbrev text_of : List LinkTree → List Mark
text_of ls = links_text (links_of ls)

either : (a b : ℕ) → a ≤ b → (b ≡ a) ⊎ (a < b)
either a b le = elim (eq-or-lt_of_le le) [
  | inl e ↦ inl (sym e)
  | inr lt ↦ inr lt
]

top : (r : Rule) (n : ℕ) → IsChain r → n ≡ rank r → 5 < n → ⊥
top rule.Expression n c e lt = c
top rule.Value n c e lt = absurd (omega (arith, e, lt))
top rule.Conjunction n c e lt = absurd (omega (arith, e, lt))
top rule.Comparison n c e lt = absurd (omega (arith, e, lt))
top rule.Sum n c e lt = absurd (omega (arith, e, lt))
top rule.Product n c e lt = absurd (omega (arith, e, lt))
top rule.Operand n c e lt = c

module _ (bound : ℕ) (positive : 0 < bound) (r : Rule) (item : Parser Tree) where
  abbrev LinksFit : Links Id Id → Type 0
  LinksFit ls = AreLinks (rank r) ls × (links_nesting ls < bound)

  module _ (s : Sound text item (Fits bound (suc (rank r)))) where
    links_sound : (turn : ℕ) (i : Tokens) (y : List LinkTree × Tokens) → links_by (operator r) item turn i ≡ Ok y → Took text_of (λ ls. LinksFit (links_of ls)) i y
    unfolding links_by one_link
    links_sound zero i y e = ok_took ([], i) y e (record { parts = refl; meets = (tt, positive) })
    links_sound (suc turn) i y e = split (λ j z f. links_sound turn j z f) (operator r (next i)) refl e
      where
        split : ((j : Tokens) (z : List LinkTree × Tokens) → links_by (operator r) item turn j ≡ Ok z → Took text_of (λ ls. LinksFit (links_of ls)) j z) → (o : Option Symbol) → operator r (next i) ≡ o → link_at o item (links_by (operator r) item turn) i ≡ Ok y → Took text_of (λ ls. LinksFit (links_of ls)) i y
        split again None h e = ok_took ([], i) y e (record { parts = refl; meets = (tt, positive) })
        split again (Some op) h e =
            let l = bind_ok (one_link op item i) _ y e in
            let a = bind_ok (item (after i)) (λ t. pure (op, position i, t)) l.0 l.1 in
            let first = s.reads (after i) a.0 a.1 in
            let b = bind_ok (links_by (operator r) item turn l.0.1) _ y l.2 in
            let rest = again l.0.1 b.0 b.1 in
            let o = operator_sound r (next i) op h in
            let same : ((op, position i, a.0.0), a.0.1) ≡ l.0 = cc in
            let behind : marks a.0.1 ≡ text_of b.0.0 ++ marks b.0.1 = ap (λ z. marks z.1) same ∙ rest.parts in
            ok_took (l.0.0 ∷ b.0.0, b.0.1) y b.2 (subst (λ (z : LinkTree × Tokens). Took text_of (λ ls. LinksFit (links_of ls)) i (z.0 ∷ b.0.0, b.0.1)) same (record {
              parts = takes (kind.Sym op) i o.0 ∙ ap (λ x. symbol op ∷ x) (first.parts ∙ ap (λ x. text a.0.0 ++ x) behind ∙ sym (append_assoc (text a.0.0) (text_of b.0.0) (marks b.0.1)));
              meets = ((o.1, first.meets.0, omega (arith, first.meets.1), rest.meets.0), omega (arith, first.meets.2, rest.meets.1));
            }))

    pub chain_sound : 1 ≤ rank r → Sound text (chain_of (operator r) item) (Fits bound (rank r))
    unfolding chain_of all_links
    chain_sound le = record {
      reads = λ i y e.
          let a = bind_ok (item i) _ y e in
          let first = s.reads i a.0 a.1 in
          let b = bind_ok (links_by (operator r) item (turns a.0.1) a.0.1) _ y a.2 in
          let rest = links_sound (turns a.0.1) a.0.1 b.0 b.1 in
          ok_took (chained (position i) a.0.0 b.0.0, b.0.1) y b.2 (whole (position i) a.0.0 b.0.0 b.0.1 i a.0.1 first.parts first.meets rest.parts rest.meets);
    }
      where
        whole : (pos : Pos) (t : Tree) (ls : List LinkTree) (j i k : Tokens) → marks i ≡ text t ++ marks k → Fits bound (suc (rank r)) t → marks k ≡ text_of ls ++ marks j → LinksFit (links_of ls) → Took text (Fits bound (rank r)) i (chained pos t ls, j)
        whole pos t [] j i k p m q f = record { parts = p ∙ ap (λ x. text t ++ x) q; meets = (m.0, omega (arith, m.1), m.2) }
        whole pos t (l ∷ ls) j i k p m q f = record {
          parts = p ∙ ap (λ x. text t ++ x) q ∙ sym (append_assoc (text t) (text_of (l ∷ ls)) (marks j));
          meets = (subst (λ n. (1 ≤ n) × IsExpression t × (n < level t) × AreLinks n (link l.0 l.1 l.2 (links_of ls))) (sym f.0.0) (le, m.0, omega (arith, m.1), f.0), omega (arith, f.0.0), omega (arith, m.2, f.1));
        }

  module _ (chained_rule : IsChain r) (le : 1 ≤ rank r) (same : strength r ≡ rank r) (Stop : Next → Type 0) (stops : (x : Next) → binding x < suc (rank r) → Stop x) (c : Complete text place item (Fits bound (suc (rank r))) Stop) where
    next_behind : (at : ℕ → Pos) (k : ℕ) (ls : Links Id Id) (j : Tokens) → AreLinks (rank r) ls → binding (next j) < rank r → Stop (next (located at k (links_text ls) ++ j))
    next_behind at k no_links j h lt = stops (next j) (omega (arith, lt))
    next_behind at k (link op pos t ls) j h lt =
        let b = (operator_seen r op (at k) (located at (suc k) (text t ++ links_text ls) ++ j) chained_rule h.0).1 in
        stops (next (located at k (links_text (link op pos t ls)) ++ j)) (omega (arith, b))

    links_complete : (turn : ℕ) (at : ℕ → Pos) (k : ℕ) (ls : Links Id Id) (j : Tokens) → count ls ≤ turn → AreLinks (rank r) ls → links_nesting ls < bound → binding (next j) < rank r → links_by (operator r) item turn (located at k (links_text ls) ++ j) ≡ Ok (links (place_links at k ls), j)
    unfolding links_by one_link after position
    links_complete zero at k no_links j room h ne lt = refl
    links_complete zero at k (link op pos t ls) j room h ne lt = absurd (omega (arith, room))
    links_complete (suc turn) at k no_links j room h ne lt = rw (operator_none r (next j) (omega (arith, lt, same))) refl
    links_complete (suc turn) at k (link op pos t ls) j room h ne lt =
        let m = suc k + length (text t) in
        rw ((operator_seen r op (at k) (located at (suc k) (text t ++ links_text ls) ++ j) chained_rule h.0).0, split_located at (suc k) (text t) (links_text ls) j, c.gives at (suc k) t (located at m (links_text ls) ++ j) (h.1, omega (arith, h.2), omega (arith, ne)) (next_behind at m ls j h.3 lt), links_complete turn at m ls j (omega (arith, room)) h.3 (omega (arith, ne)) lt) refl

    alone : (at : ℕ → Pos) (k : ℕ) (t : Tree) (j : Tokens) → Fits bound (suc (rank r)) t → binding (next j) < rank r → chain_of (operator r) item (located at k (text t) ++ j) ≡ Ok (place at k t, j)
    unfolding chain_of all_links
    alone at k t j f lt = rw (c.gives at k t j f (stops (next j) (omega (arith, lt))), links_complete (length j) at k no_links j (omega arith) tt positive lt) refl

    linked : (at : ℕ → Pos) (k : ℕ) (pos : Pos) (t : Tree) (op : Symbol) (p : Pos) (u : Tree) (ls : Links Id Id) (j : Tokens) → Fits bound (suc (rank r)) t → LinksFit (link op p u ls) → binding (next j) < rank r
        → chain_of (operator r) item (located at k (text (chain pos t (link op p u ls))) ++ j) ≡ Ok (place at k (chain pos t (link op p u ls)), j)
    unfolding chain_of all_links
    linked at k pos t op p u ls j f g lt =
        let m = k + length (text t) in
        let x = link op p u ls in
        let behind = located at m (links_text x) ++ j in
        let room : count x ≤ length behind = omega (arith, count-le x, length-append (located at m (links_text x)) j, located_length at m (links_text x)) in
        rw (stands at k (chain pos t x) j, split_located at k (text t) (links_text x) j, c.gives at k t behind f (next_behind at m x j g.0 lt), links_complete (length behind) at m x j room g.0 g.1 lt, links_back (place_links at (suc m + length (text u)) ls)) refl

    give : (at : ℕ → Pos) (k : ℕ) (t : Tree) (j : Tokens) → Fits bound (rank r) t → binding (next j) < rank r → (level t ≡ rank r) ⊎ (rank r < level t) → chain_of (operator r) item (located at k (text t) ++ j) ≡ Ok (place at k t, j)
    give at k t j f lt (inr more) = alone at k t j (f.0, omega (arith, more), f.2) lt
    give at k (chain pos t no_links) j f lt (inl e) = absurd f.0
    give at k (chain pos t (link op p u ls)) j f lt (inl e) = linked at k pos t op p u ls j (f.0.1, omega (arith, f.0.2, e), omega (arith, f.2)) (subst (λ n. AreLinks n (link op p u ls)) e f.0.3, omega (arith, f.2)) lt
    give at k (literal pos x) j f lt (inl e) = absurd (top r 8 chained_rule e (omega arith))
    give at k (variable pos x) j f lt (inl e) = absurd (top r 8 chained_rule e (omega arith))
    give at k (me pos) j f lt (inl e) = absurd (top r 8 chained_rule e (omega arith))
    give at k (clock pos) j f lt (inl e) = absurd (top r 8 chained_rule e (omega arith))
    give at k (creation pos x) j f lt (inl e) = absurd (top r 8 chained_rule e (omega arith))
    give at k (group pos ts) j f lt (inl e) = absurd (top r 8 chained_rule e (omega arith))
    give at k (sends pos t ss) j f lt (inl e) = absurd (top r 7 chained_rule e (omega arith))
    give at k (unary pos op t) j f lt (inl e) = absurd (top r 6 chained_rule e (omega arith))
    give at k (assign pos x t) j f lt (inl e) = absurd (omega (arith, e, le))
    give at k (returned pos t) j f lt (inl e) = absurd (omega (arith, e, le))
    give at k (choice pos test body other) j f lt (inl e) = absurd (top r 8 chained_rule e (omega arith))
    give at k (loop pos test body) j f lt (inl e) = absurd (top r 8 chained_rule e (omega arith))

    pub chain_complete : Complete text place (chain_of (operator r) item) (Fits bound (rank r)) (Stops r)
    chain_complete = record { gives = λ at k t j f lt. give at k t j f (omega (arith, lt, same)) (either (rank r) (level t) f.1) }
