-- What each step takes, and when it takes it.
use Rattle.std.proofs.Common.{◌≡◌, ℕ, zero, suc, ◌<◌, Bool, true, false, cond, [], ◌∷◌, length, Some, Ok, Err, refl, ap, ◌∙◌, arith, rules}
use denote.Enum.Bare.{same_true}
use Rattle.pz_syntax.specs.declared.tokens.TokenKind.{TokenKind}
use Rattle.pz_syntax.specs.declared.tokens.Mark.{Mark}
use Rattle.pz_syntax.specs.declared.names.Id.{Id}
use Rattle.pz_syntax.specs.Marks.{mark}
use Rattle.pz_parser_cursor.specs.declared.ahead.Next.{Next}
use Rattle.pz_parser_cursor.specs.declared.refusal.Refusal.TheVariants.{Syntax}
use Rattle.pz_parser_cursor.specs.contracts.ahead.Next.{the_type}
use Rattle.pz_parser_cursor.specs.devices.LookAhead.{next, same}
use Rattle.pz_parser_cursor.specs.devices.Input.{Tokens, marks, after, identifier, sees}
use Rattle.pz_parser_cursor.specs.devices.Device.{Outcome, Parser, and_then, expect, expect_id, deepen}
use Rattle.pz_parser_cursor.proofs.Shown.{token_of, takes_kind}

pub bind_ok : {A B : Type 0} (o : Outcome A) (f : A → Parser B) (y : B × Tokens) → and_then o f ≡ Ok y → (p : A × Tokens) × (o ≡ Ok p) × (f p.0 p.1 ≡ Ok y)
bind_ok (Ok p) f y e = (p, refl, e)
bind_ok (Err d) f y e = absurd cc

pub mark_is : (m : Mark) (h : Bool) (x : TokenKind) → m.head ≡ h → m.kind ≡ x → m ≡ record { kind = x; head = h }
mark_is m h x p q = ap (λ (b : Bool). record { kind = m.kind; head = b }) p ∙ ap (λ (y : TokenKind). record { kind = y; head = h }) q

-- a token that shows what it is
pub takes : (x : TokenKind) (i : Tokens) → token_of (next i) ≡ Some x → marks i ≡ mark x ∷ marks (after i)
unfolding next after
takes x [] e = absurd cc
takes x (t ∷ ts) e = let s = takes_kind t.mark.head t.mark.kind x e in ap (λ (p : Mark). p ∷ marks ts) (mark_is t.mark false x s.0 s.1)

pub sees_is : (x : Next) (i : Tokens) → sees x i ≡ true → next i ≡ x
unfolding sees same
sees_is x i e = same_true the_type (search rules) _ _ e

not_seen_by : (x : Next) (i : Tokens) (b : Bool) → (next i ≡ x → ⊥) → sees x i ≡ b → sees x i ≡ false
not_seen_by x i true h e = absurd (h (sees_is x i e))
not_seen_by x i false h e = e

pub not_seen : (x : Next) (i : Tokens) → (next i ≡ x → ⊥) → sees x i ≡ false
not_seen x i h = not_seen_by x i (sees x i) h refl

pub deepen_is : (d : ℕ) (i : Tokens) → 0 < d → deepen d i ≡ Ok (tt, after i)
unfolding deepen
deepen_is zero i lt = absurd (omega arith)
deepen_is (suc d) i lt = refl

pub deepen_ok : (d : ℕ) (i : Tokens) (y : Unit {0} × Tokens) → deepen d i ≡ Ok y → (0 < d) × (after i ≡ y.1)
unfolding deepen
deepen_ok zero i y e = absurd cc
deepen_ok (suc d) i y e = let p : (tt, after i) ≡ y = cc in (omega arith, ap (λ q. q.1) p)

pub expect_is : (x : Next) (i : Tokens) → sees x i ≡ true → expect x i ≡ Ok (tt, after i)
unfolding expect
expect_is x i h = rw h refl

abbrev done : {A : Type 0} → A × Tokens → Outcome A
done x = Ok x

expect_by : (b : Bool) (i : Tokens) (y : Unit {0} × Tokens) → cond b (done (tt, after i)) (Err (Syntax (length i))) ≡ Ok y → (b ≡ true) × (after i ≡ y.1)
expect_by true i y e = let p : (tt, after i) ≡ y = cc in (refl, ap (λ q. q.1) p)
expect_by false i y e = absurd cc

pub expect_ok : (x : Next) (i : Tokens) (y : Unit {0} × Tokens) → expect x i ≡ Ok y → (next i ≡ x) × (after i ≡ y.1)
unfolding expect
expect_ok x i y e = let r = expect_by (sees x i) i y e in (sees_is x i r.0, r.1)

expect_id_by : (b : Bool) (i : Tokens) (y : Id × Tokens) → cond b (done (identifier i, after i)) (Err (Syntax (length i))) ≡ Ok y → (b ≡ true) × (identifier i ≡ y.0) × (after i ≡ y.1)
expect_id_by true i y e = let p : (identifier i, after i) ≡ y = cc in (refl, ap (λ q. q.0) p, ap (λ q. q.1) p)
expect_id_by false i y e = absurd cc

pub expect_id_ok : (x : Next) (i : Tokens) (y : Id × Tokens) → expect_id x i ≡ Ok y → (next i ≡ x) × (identifier i ≡ y.0) × (after i ≡ y.1)
unfolding expect_id
expect_id_ok x i y e = let r = expect_id_by (sees x i) i y e in (sees_is x i r.0, r.1, r.2)

-- a keyword or a symbol that is expected
pub expected : (x : Next) (y : TokenKind) (i : Tokens) (z : Unit {0} × Tokens) → token_of x ≡ Some y → expect x i ≡ Ok z → marks i ≡ mark y ∷ marks z.1
expected x y i z shows e = let r = expect_ok x i z e in takes y i (ap token_of r.0 ∙ shows) ∙ ap (λ j. mark y ∷ marks j) r.1

-- a token that opens a construct
pub opened : (depth : ℕ) (y : TokenKind) (i : Tokens) (z : Unit {0} × Tokens) → token_of (next i) ≡ Some y → deepen depth i ≡ Ok z → (0 < depth) × (marks i ≡ mark y ∷ marks z.1)
opened depth y i z shows e = let r = deepen_ok depth i z e in (r.0, takes y i shows ∙ ap (λ j. mark y ∷ marks j) r.1)
