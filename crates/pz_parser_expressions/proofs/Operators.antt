-- The operators of each rule, and what goes on with what a rule has read.
use Rattle.std.proofs.Common.{◌≡◌, ◌≢◌, ℕ, ◌<◌, ◌∷◌, Option, Some, None, refl, subst, arith}
use Rattle.std.specs.Prelude.{⊤}
use Rattle.pz_syntax.specs.declared.tokens.Pos.{Pos}
use Rattle.pz_syntax.specs.declared.tokens.Symbol.{Symbol}
use Rattle.pz_syntax.specs.declared.tokens.Symbol.TheVariants as s
use Rattle.pz_syntax.specs.declared.tokens.TokenKind.TheVariants as kind
use Rattle.pz_syntax.specs.ExpressionForm.{operator_level}
use Rattle.pz_parser_cursor.specs.declared.ahead.Next.{Next}
use Rattle.pz_parser_cursor.specs.declared.ahead.Next.TheVariants as n
use Rattle.pz_parser_cursor.specs.devices.LookAhead.{next, next_symbol}
use Rattle.pz_parser_cursor.specs.devices.Input.{Tokens}
use Rattle.pz_parser_cursor.proofs.Shown.{token_of}
use Rattle.pz_parser_cursor.proofs.Joined.{token}
use Rattle.pz_parser_expressions.specs.declared.rule.Rule.{Rule}
use Rattle.pz_parser_expressions.specs.declared.rule.Rule.TheVariants as rule
use Rattle.pz_parser_expressions.specs.devices.Rules.{rank, disjunction, conjunction, comparison, sum, product, operator}

-- How tightly what comes next goes on with what was read before it: an operator by its level, a
-- selector, brackets and `:=` more tightly, the rest not at all.
abbrev pub binding : Next → ℕ
binding n.Bar = 1
binding n.Ampersand = 2
binding n.Equal = 3
binding n.Same = 3
binding n.Unequal = 3
binding n.Distinct = 3
binding n.Less = 3
binding n.LessEqual = 3
binding n.Greater = 3
binding n.GreaterEqual = 3
binding n.Plus = 4
binding n.Minus = 4
binding n.Star = 5
binding n.Slash = 5
binding n.Word = 7
binding n.Init = 7
binding n.LeftParen = 7
binding n.Assign = 7
binding _ = 0

abbrev pub strength : Rule → ℕ
strength rule.Expression = 1
strength rule.Value = 1
strength rule.Conjunction = 2
strength rule.Comparison = 3
strength rule.Sum = 4
strength rule.Product = 5
strength rule.Operand = 6

-- what does not go on with what the rule has read
abbrev pub Stops : Rule → Next → Type 0
Stops r x = binding x < strength r

pub no_word : (x : Next) → binding x < 7 → x ≢ n.Word
no_word n.Word lt e = absurd (omega (arith, lt))
no_word _ lt e = absurd cc

-- an operator of the chain at this level
abbrev pub OperatorOf : ℕ → Next → Symbol → Type 0
OperatorOf m x op = (token_of x ≡ Some (kind.Sym op)) × (operator_level op ≡ m)

op_is : (x : Next) (m : ℕ) (a b : Symbol) → (let o : Option Symbol = Some a in o) ≡ Some b → OperatorOf m x a → OperatorOf m x b
op_is x m a b e h = let p : a ≡ b = cc in subst (OperatorOf m x) p h

disjunction_sound : (x : Next) (op : Symbol) → disjunction x ≡ Some op → OperatorOf 1 x op
disjunction_sound n.Bar op h = op_is n.Bar 1 s.Bar op h (refl, refl)
disjunction_sound _ op h = absurd cc

conjunction_sound : (x : Next) (op : Symbol) → conjunction x ≡ Some op → OperatorOf 2 x op
conjunction_sound n.Ampersand op h = op_is n.Ampersand 2 s.Ampersand op h (refl, refl)
conjunction_sound _ op h = absurd cc

comparison_sound : (x : Next) (op : Symbol) → comparison x ≡ Some op → OperatorOf 3 x op
comparison_sound n.Equal op h = op_is n.Equal 3 s.Equal op h (refl, refl)
comparison_sound n.Same op h = op_is n.Same 3 s.Same op h (refl, refl)
comparison_sound n.Unequal op h = op_is n.Unequal 3 s.Unequal op h (refl, refl)
comparison_sound n.Distinct op h = op_is n.Distinct 3 s.Distinct op h (refl, refl)
comparison_sound n.Less op h = op_is n.Less 3 s.Less op h (refl, refl)
comparison_sound n.LessEqual op h = op_is n.LessEqual 3 s.LessEqual op h (refl, refl)
comparison_sound n.Greater op h = op_is n.Greater 3 s.Greater op h (refl, refl)
comparison_sound n.GreaterEqual op h = op_is n.GreaterEqual 3 s.GreaterEqual op h (refl, refl)
comparison_sound _ op h = absurd cc

sum_sound : (x : Next) (op : Symbol) → sum x ≡ Some op → OperatorOf 4 x op
sum_sound n.Plus op h = op_is n.Plus 4 s.Plus op h (refl, refl)
sum_sound n.Minus op h = op_is n.Minus 4 s.Minus op h (refl, refl)
sum_sound _ op h = absurd cc

product_sound : (x : Next) (op : Symbol) → product x ≡ Some op → OperatorOf 5 x op
product_sound n.Star op h = op_is n.Star 5 s.Star op h (refl, refl)
product_sound n.Slash op h = op_is n.Slash 5 s.Slash op h (refl, refl)
product_sound _ op h = absurd cc

pub operator_sound : (r : Rule) (x : Next) (op : Symbol) → operator r x ≡ Some op → OperatorOf (rank r) x op
operator_sound rule.Expression x op h = absurd cc
operator_sound rule.Value x op h = disjunction_sound x op h
operator_sound rule.Conjunction x op h = conjunction_sound x op h
operator_sound rule.Comparison x op h = comparison_sound x op h
operator_sound rule.Sum x op h = sum_sound x op h
operator_sound rule.Product x op h = product_sound x op h
operator_sound rule.Operand x op h = absurd cc

disjunction_none : (x : Next) → binding x < 1 → disjunction x ≡ None
disjunction_none n.Bar lt = absurd (omega (arith, lt))
disjunction_none _ lt = refl

conjunction_none : (x : Next) → binding x < 2 → conjunction x ≡ None
conjunction_none n.Ampersand lt = absurd (omega (arith, lt))
conjunction_none _ lt = refl

comparison_none : (x : Next) → binding x < 3 → comparison x ≡ None
comparison_none n.Equal lt = absurd (omega (arith, lt))
comparison_none n.Same lt = absurd (omega (arith, lt))
comparison_none n.Unequal lt = absurd (omega (arith, lt))
comparison_none n.Distinct lt = absurd (omega (arith, lt))
comparison_none n.Less lt = absurd (omega (arith, lt))
comparison_none n.LessEqual lt = absurd (omega (arith, lt))
comparison_none n.Greater lt = absurd (omega (arith, lt))
comparison_none n.GreaterEqual lt = absurd (omega (arith, lt))
comparison_none _ lt = refl

sum_none : (x : Next) → binding x < 4 → sum x ≡ None
sum_none n.Plus lt = absurd (omega (arith, lt))
sum_none n.Minus lt = absurd (omega (arith, lt))
sum_none _ lt = refl

product_none : (x : Next) → binding x < 5 → product x ≡ None
product_none n.Star lt = absurd (omega (arith, lt))
product_none n.Slash lt = absurd (omega (arith, lt))
product_none _ lt = refl

pub operator_none : (r : Rule) (x : Next) → binding x < strength r → operator r x ≡ None
operator_none rule.Expression x lt = refl
operator_none rule.Value x lt = disjunction_none x lt
operator_none rule.Conjunction x lt = conjunction_none x lt
operator_none rule.Comparison x lt = comparison_none x lt
operator_none rule.Sum x lt = sum_none x lt
operator_none rule.Product x lt = product_none x lt
operator_none rule.Operand x lt = refl

-- an operator of the rule is seen as one
abbrev Seen : Rule → Symbol → Type 0
Seen r op = (operator r (next_symbol op) ≡ Some op) × (binding (next_symbol op) ≡ rank r)

value_seen : (op : Symbol) → operator_level op ≡ 1 → Seen rule.Value op
value_seen s.Bar e = (refl, refl)
value_seen _ e = absurd (omega (arith, e))

conjunction_seen : (op : Symbol) → operator_level op ≡ 2 → Seen rule.Conjunction op
conjunction_seen s.Ampersand e = (refl, refl)
conjunction_seen _ e = absurd (omega (arith, e))

comparison_seen : (op : Symbol) → operator_level op ≡ 3 → Seen rule.Comparison op
comparison_seen s.Equal e = (refl, refl)
comparison_seen s.Same e = (refl, refl)
comparison_seen s.Unequal e = (refl, refl)
comparison_seen s.Distinct e = (refl, refl)
comparison_seen s.Less e = (refl, refl)
comparison_seen s.LessEqual e = (refl, refl)
comparison_seen s.Greater e = (refl, refl)
comparison_seen s.GreaterEqual e = (refl, refl)
comparison_seen _ e = absurd (omega (arith, e))

sum_seen : (op : Symbol) → operator_level op ≡ 4 → Seen rule.Sum op
sum_seen s.Plus e = (refl, refl)
sum_seen s.Minus e = (refl, refl)
sum_seen _ e = absurd (omega (arith, e))

product_seen : (op : Symbol) → operator_level op ≡ 5 → Seen rule.Product op
product_seen s.Star e = (refl, refl)
product_seen s.Slash e = (refl, refl)
product_seen _ e = absurd (omega (arith, e))

-- the rules that are chains of operators
abbrev pub IsChain : Rule → Type 0
IsChain rule.Expression = ⊥
IsChain rule.Operand = ⊥
IsChain _ = ⊤

seen_by : (r : Rule) (op : Symbol) → IsChain r → operator_level op ≡ rank r → Seen r op
seen_by rule.Expression op c e = absurd c
seen_by rule.Value op c e = value_seen op e
seen_by rule.Conjunction op c e = conjunction_seen op e
seen_by rule.Comparison op c e = comparison_seen op e
seen_by rule.Sum op c e = sum_seen op e
seen_by rule.Product op c e = product_seen op e
seen_by rule.Operand op c e = absurd c

pub operator_seen : (r : Rule) (op : Symbol) (p : Pos) (i : Tokens) → IsChain r → operator_level op ≡ rank r → (operator r (next (token (kind.Sym op) p ∷ i)) ≡ Some op) × (binding (next (token (kind.Sym op) p ∷ i)) ≡ rank r)
unfolding next
operator_seen r op p i c e = seen_by r op c e
