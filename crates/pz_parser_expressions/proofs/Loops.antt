-- Chains beside the loop that reads them, and the rules unfolded once.
use Rattle.std.proofs.Common.{◌≡◌, ℕ, zero, suc, List, [], ◌∷◌, ◌++◌, Option, Some, None, Result, Ok, Err, refl, ap, sym, ◌∙◌, subst}
use Rattle.std.proofs.lemmas.List.{append-nil}
use Rattle.pz_syntax.specs.declared.tokens.Symbol.{Symbol}
use Rattle.pz_syntax.specs.ExpressionView.{Tree, LinkTree, view}
use Rattle.pz_parser_cursor.specs.declared.ahead.Next.{Next}
use Rattle.pz_parser_cursor.specs.declared.ahead.Next.TheVariants as n
use Rattle.pz_parser_cursor.specs.declared.refusal.Refusal.{Refusal}
use Rattle.pz_parser_cursor.specs.devices.LookAhead.{next}
use Rattle.pz_parser_cursor.specs.devices.Input.{Tokens}
use Rattle.pz_parser_cursor.specs.devices.Device.{Parser, Outcome, Reads, MakesOr}
use Rattle.pz_parser_cursor.specs.devices.Lists.{with_front}
use Rattle.pz_parser_cursor.proofs.Loops.{with_front_more}
use Rattle.pz_syntax.specs.declared.exprs.Expr.{Expr}
use Rattle.pz_parser_expressions.specs.declared.rule.Rule.{Rule}
use Rattle.pz_parser_expressions.specs.declared.rule.Rule.TheVariants as rule
use Rattle.pz_parser_expressions.specs.devices.Rules.{operator}
use Rattle.pz_parser_expressions.specs.devices.Values.{links_by, one_link, expr, by_rule, below, sent_to, operand_by, chain_of, expression}

pub links_more : (ops : Next → Option Symbol) (item : Parser Tree) (turn : ℕ) (front : List LinkTree) (i j : Tokens) (op : Symbol) (l : LinkTree) → ops (next i) ≡ Some op → one_link op item i ≡ Ok (l, j)
    → with_front front (links_by ops item (suc turn) i) ≡ with_front (front ++ l ∷ []) (links_by ops item turn j)
unfolding links_by
links_more ops item turn front i j op l s r = rw (s, r) (with_front_more front l (links_by ops item turn j))

pub links_stop : (ops : Next → Option Symbol) (item : Parser Tree) (turn : ℕ) (front : List LinkTree) (i : Tokens) → ops (next i) ≡ None
    → with_front front (links_by ops item (suc turn) i) ≡ Ok (front, i)
unfolding links_by
links_stop ops item turn front i s = rw s (ap (λ l. Ok (l, i)) (append-nil front))

pub made : {X A : Type 0} (view : X → A) (o : Outcome A) (result : Result X Refusal) (a : A) (j : Tokens) → o ≡ Ok (a, j) → MakesOr (λ x. view x ≡ a) result → Reads view o result j
made view o (Ok x) a j e m = e ∙ ap (λ b. Ok (b, j)) (sym m)
made view o (Err d) a j e m = λ ne. absurd (ne m)

pub operand_default : (depth : ℕ) (inner : Rule → Parser Tree) (x : Next) → (x ≡ n.Minus → ⊥) → (x ≡ n.Bang → ⊥) → sent_to depth inner ≡ operand_by depth inner x
operand_default depth inner n.Minus h g = absurd (h refl)
operand_default depth inner n.Bang h g = absurd (g refl)
operand_default depth inner _ h g = refl

pub expr_is : (d : ℕ) (r : Rule) → expr d r ≡ by_rule d (below d) r
unfolding expr
expr_is zero r = refl
expr_is (suc d) r = refl

-- a chain over what a later rule reads is what its own rule reads
pub chain_whole : (depth : ℕ) (q r t : Rule) (i : Tokens) (result : Result Expr Refusal) (j : Tokens) → by_rule depth (below depth) r ≡ chain_of (operator r) (by_rule depth (below depth) t) → q ≡ r
    → Reads view (chain_of (operator q) (expr depth t) i) result j → Reads view (by_rule depth (below depth) q i) result j
chain_whole depth q r t i result j same e h =
    let a : Reads view (chain_of (operator r) (by_rule depth (below depth) t) i) result j = subst (λ p. Reads view (chain_of (operator r) p i) result j) (expr_is depth t) (subst (λ x. Reads view (chain_of (operator x) (expr depth t) i) result j) e h) in
    subst (λ x. Reads view (by_rule depth (below depth) x i) result j) (sym e) (subst (λ (p : Parser Tree). Reads view (p i) result j) (sym same) a)

pub expression_whole : (depth : ℕ) (q : Rule) (i : Tokens) (result : Result Expr Refusal) (j : Tokens) → q ≡ rule.Expression
    → Reads view (expression (expr depth rule.Value) i) result j → Reads view (by_rule depth (below depth) q i) result j
expression_whole depth q i result j e h =
    subst (λ x. Reads view (by_rule depth (below depth) x i) result j) (sym e) (subst (λ (p : Parser Tree). Reads view (expression p i) result j) (expr_is depth rule.Value) h)
