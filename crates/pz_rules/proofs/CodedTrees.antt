-- Trees of bodies have codes, so that two of them which are merely equal are equal.
use Rattle.std.proofs.Common.{◌≡◌, ℕ, zero, suc, List, [], ◌∷◌, Option, refl, sym, subst, ap}
use Rattle.std.specs.Coded.{Coded, Coded-set, coded_ℕ, coded_list, coded_option}
use base.Stored.{Gv, gnil, gnum, gcons, num}
use Rattle.pz_bind_rules.specs.pz_syntax.declared.tokens.Pos.{Pos}
use Rattle.pz_bind_rules.specs.pz_syntax.declared.tokens.Symbol.{Symbol}
use Rattle.pz_bind_rules.specs.pz_syntax.declared.names.Id.{Id}
use Rattle.pz_bind_rules.specs.pz_syntax.declared.exprs.Literal.{Literal}
use Rattle.pz_bind_rules.specs.pz_syntax.contracts.tokens.Pos as pos
use Rattle.pz_bind_rules.specs.pz_syntax.contracts.tokens.Symbol as symbol
use Rattle.pz_bind_rules.specs.pz_syntax.contracts.names.Id as id
use Rattle.pz_bind_rules.specs.pz_syntax.contracts.exprs.Literal as constant
use Rattle.pz_bind_rules.specs.pz_syntax.Expressions.{Expression, literal, variable, me, clock, creation, group, chain, sends, unary, assign, returned, choice, loop, Expressions, none, more, Part, left_out, written, Links, no_links, link, Sendings, no_sendings, sending}
use Rattle.pz_bind_rules.specs.pz_syntax.Statements.{Statement, skip, delay, bracketed, block, guarded, parallel, select, conditional, repeated, abort, interrupt, send, receive, call, assignment, value, Statements, no_statements, then, StatementPart, not_written, otherwise, Branches, no_branches, branch}
use Rattle.pz_bind_rules.specs.pz_value.declared.value.ClassId.{ClassId}
use Rattle.pz_bind_rules.specs.pz_value.contracts.value.ClassId as class
use Rattle.pz_bind_rules.specs.pz_classes_code.declared.slot.Slot.{Slot}
use Rattle.pz_bind_rules.specs.pz_classes_code.contracts.slot.Slot as slot
use Rattle.pz_bind_rules.specs.pz_classes_rules.Bodies.{BodyTree, data_body, process_body}

-- a form of a tree: its number, and its parts
abbrev row : List Gv → Gv
row [] = gnil
row (g ∷ gs) = gcons g (row gs)

abbrev form : ℕ → List Gv → Gv
form n gs = gcons (gnum n) (row gs)

abbrev first : Gv → Gv
first (gcons a b) = a
first g = gnil

abbrev rest : Gv → Gv
rest (gcons a b) = b
rest g = gnil

-- the parts stand from 1 on
abbrev part : ℕ → Gv → Gv
part zero g = first g
part (suc i) g = part i (rest g)

abbrev which : Gv → ℕ
which g = num (first g)

abbrev Differ : ℕ → ℕ → Type 0
Differ zero zero = ⊥
Differ (suc m) (suc n) = Differ m n
Differ m n = Unit {0}

not_itself : (m : ℕ) → Differ m m → ⊥
not_itself zero d = d
not_itself (suc m) d = not_itself m d

differ : (m n : ℕ) → Differ m n → m ≡ n → ⊥
differ m n d e = not_itself m (subst (λ (k : ℕ). Differ m k) (sym e) d)

abbrev coded_pos : Coded Pos
coded_pos = pos.the_row.coded

abbrev coded_symbol : Coded Symbol
coded_symbol = symbol.the_row.coded

abbrev coded_id : Coded Id
coded_id = id.the_row.coded

abbrev coded_literal : Coded Literal
coded_literal = constant.the_row.coded

abbrev coded_class : Coded ClassId
coded_class = class.the_row.coded

abbrev coded_slot : Coded Slot
coded_slot = slot.the_row.coded

abbrev coded_slots : Coded (List Slot)
coded_slots = coded_list coded_slot

abbrev coded_into : Coded (Option (List Slot))
coded_into = coded_option coded_slots

abbrev mutual
  pub code_e : Expression Slot ClassId → Gv
  code_e (literal p x) = form 0 (coded_pos.code p ∷ coded_literal.code x ∷ [])
  code_e (variable p x) = form 1 (coded_pos.code p ∷ coded_slot.code x ∷ [])
  code_e (me p) = form 2 (coded_pos.code p ∷ [])
  code_e (clock p) = form 3 (coded_pos.code p ∷ [])
  code_e (creation p k) = form 4 (coded_pos.code p ∷ coded_class.code k ∷ [])
  code_e (group p ts) = form 5 (coded_pos.code p ∷ code_es ts ∷ [])
  code_e (chain p t ls) = form 6 (coded_pos.code p ∷ code_e t ∷ code_links ls ∷ [])
  code_e (sends p t ss) = form 7 (coded_pos.code p ∷ code_e t ∷ code_sendings ss ∷ [])
  code_e (unary p op t) = form 8 (coded_pos.code p ∷ coded_symbol.code op ∷ code_e t ∷ [])
  code_e (assign p x t) = form 9 (coded_pos.code p ∷ coded_slot.code x ∷ code_e t ∷ [])
  code_e (returned p t) = form 10 (coded_pos.code p ∷ code_e t ∷ [])
  code_e (choice p t ts o) = form 11 (coded_pos.code p ∷ code_e t ∷ code_es ts ∷ code_part o ∷ [])
  code_e (loop p t ts) = form 12 (coded_pos.code p ∷ code_e t ∷ code_es ts ∷ [])

  pub code_es : Expressions Slot ClassId → Gv
  code_es none = form 0 []
  code_es (more t ts) = form 1 (code_e t ∷ code_es ts ∷ [])

  pub code_part : Part Slot ClassId → Gv
  code_part left_out = form 0 []
  code_part (written ts) = form 1 (code_es ts ∷ [])

  pub code_links : Links Slot ClassId → Gv
  code_links no_links = form 0 []
  code_links (link op p t ls) = form 1 (coded_symbol.code op ∷ coded_pos.code p ∷ code_e t ∷ code_links ls ∷ [])

  pub code_sendings : Sendings Slot ClassId → Gv
  code_sendings no_sendings = form 0 []
  code_sendings (sending x o ss) = form 1 (coded_id.code x ∷ code_part o ∷ code_sendings ss ∷ [])

mutual
  pub inj_e : (x y : Expression Slot ClassId) → code_e x ≡ code_e y → x ≡ y
  inj_e (literal p x) (literal p' x') e = λ i. literal (coded_pos.inj p p' (ap (part 1) e) i) (coded_literal.inj x x' (ap (part 2) e) i)
  inj_e (variable p x) (variable p' x') e = λ i. variable (coded_pos.inj p p' (ap (part 1) e) i) (coded_slot.inj x x' (ap (part 2) e) i)
  inj_e (me p) (me p') e = λ i. me (coded_pos.inj p p' (ap (part 1) e) i)
  inj_e (clock p) (clock p') e = λ i. clock (coded_pos.inj p p' (ap (part 1) e) i)
  inj_e (creation p k) (creation p' k') e = λ i. creation (coded_pos.inj p p' (ap (part 1) e) i) (coded_class.inj k k' (ap (part 2) e) i)
  inj_e (group p ts) (group p' ts') e = λ i. group (coded_pos.inj p p' (ap (part 1) e) i) (inj_es ts ts' (ap (part 2) e) i)
  inj_e (chain p t ls) (chain p' t' ls') e = λ i. chain (coded_pos.inj p p' (ap (part 1) e) i) (inj_e t t' (ap (part 2) e) i) (inj_links ls ls' (ap (part 3) e) i)
  inj_e (sends p t ss) (sends p' t' ss') e = λ i. sends (coded_pos.inj p p' (ap (part 1) e) i) (inj_e t t' (ap (part 2) e) i) (inj_sendings ss ss' (ap (part 3) e) i)
  inj_e (unary p op t) (unary p' op' t') e = λ i. unary (coded_pos.inj p p' (ap (part 1) e) i) (coded_symbol.inj op op' (ap (part 2) e) i) (inj_e t t' (ap (part 3) e) i)
  inj_e (assign p x t) (assign p' x' t') e = λ i. assign (coded_pos.inj p p' (ap (part 1) e) i) (coded_slot.inj x x' (ap (part 2) e) i) (inj_e t t' (ap (part 3) e) i)
  inj_e (returned p t) (returned p' t') e = λ i. returned (coded_pos.inj p p' (ap (part 1) e) i) (inj_e t t' (ap (part 2) e) i)
  inj_e (choice p t ts o) (choice p' t' ts' o') e = λ i. choice (coded_pos.inj p p' (ap (part 1) e) i) (inj_e t t' (ap (part 2) e) i) (inj_es ts ts' (ap (part 3) e) i) (inj_part o o' (ap (part 4) e) i)
  inj_e (loop p t ts) (loop p' t' ts') e = λ i. loop (coded_pos.inj p p' (ap (part 1) e) i) (inj_e t t' (ap (part 2) e) i) (inj_es ts ts' (ap (part 3) e) i)
  inj_e x y e = absurd (differ (which (code_e x)) (which (code_e y)) tt (ap which e))

  pub inj_es : (x y : Expressions Slot ClassId) → code_es x ≡ code_es y → x ≡ y
  inj_es none none e = refl
  inj_es (more t ts) (more t' ts') e = λ i. more (inj_e t t' (ap (part 1) e) i) (inj_es ts ts' (ap (part 2) e) i)
  inj_es x y e = absurd (differ (which (code_es x)) (which (code_es y)) tt (ap which e))

  pub inj_part : (x y : Part Slot ClassId) → code_part x ≡ code_part y → x ≡ y
  inj_part left_out left_out e = refl
  inj_part (written ts) (written ts') e = λ i. written (inj_es ts ts' (ap (part 1) e) i)
  inj_part x y e = absurd (differ (which (code_part x)) (which (code_part y)) tt (ap which e))

  pub inj_links : (x y : Links Slot ClassId) → code_links x ≡ code_links y → x ≡ y
  inj_links no_links no_links e = refl
  inj_links (link op p t ls) (link op' p' t' ls') e = λ i. link (coded_symbol.inj op op' (ap (part 1) e) i) (coded_pos.inj p p' (ap (part 2) e) i) (inj_e t t' (ap (part 3) e) i) (inj_links ls ls' (ap (part 4) e) i)
  inj_links x y e = absurd (differ (which (code_links x)) (which (code_links y)) tt (ap which e))

  pub inj_sendings : (x y : Sendings Slot ClassId) → code_sendings x ≡ code_sendings y → x ≡ y
  inj_sendings no_sendings no_sendings e = refl
  inj_sendings (sending x o ss) (sending x' o' ss') e = λ i. sending (coded_id.inj x x' (ap (part 1) e) i) (inj_part o o' (ap (part 2) e) i) (inj_sendings ss ss' (ap (part 3) e) i)
  inj_sendings x y e = absurd (differ (which (code_sendings x)) (which (code_sendings y)) tt (ap which e))

abbrev coded_code : Coded (Expression Slot ClassId)
coded_code = record { code = code_e; inj = inj_e }

abbrev coded_codes : Coded (Expressions Slot ClassId)
coded_codes = record { code = code_es; inj = inj_es }

abbrev coded_part : Coded (Part Slot ClassId)
coded_part = record { code = code_part; inj = inj_part }

abbrev coded_condition : Coded (Option (Expression Slot ClassId))
coded_condition = coded_option coded_code

abbrev mutual
  pub code_step : Statement Slot ClassId ℕ → Gv
  code_step (skip p) = form 0 (coded_pos.code p ∷ [])
  code_step (delay p t) = form 1 (coded_pos.code p ∷ coded_code.code t ∷ [])
  code_step (bracketed p ts) = form 2 (coded_pos.code p ∷ code_steps ts ∷ [])
  code_step (block p es) = form 3 (coded_pos.code p ∷ coded_codes.code es ∷ [])
  code_step (guarded p x t) = form 4 (coded_pos.code p ∷ coded_code.code x ∷ code_step t ∷ [])
  code_step (parallel p bs) = form 5 (coded_pos.code p ∷ code_branches bs ∷ [])
  code_step (select p bs) = form 6 (coded_pos.code p ∷ code_branches bs ∷ [])
  code_step (conditional p t ts o) = form 7 (coded_pos.code p ∷ coded_code.code t ∷ code_steps ts ∷ code_other o ∷ [])
  code_step (repeated p t ts) = form 8 (coded_pos.code p ∷ coded_code.code t ∷ code_steps ts ∷ [])
  code_step (abort p ts t) = form 9 (coded_pos.code p ∷ code_steps ts ∷ code_step t ∷ [])
  code_step (interrupt p ts t) = form 10 (coded_pos.code p ∷ code_steps ts ∷ code_step t ∷ [])
  code_step (send p n x es fs) = form 11 (coded_pos.code p ∷ coded_ℕ.code n ∷ coded_id.code x ∷ coded_part.code es ∷ coded_part.code fs ∷ [])
  code_step (receive p n x xs o es) = form 12 (coded_pos.code p ∷ coded_ℕ.code n ∷ coded_id.code x ∷ coded_into.code xs ∷ coded_condition.code o ∷ coded_part.code es ∷ [])
  code_step (call p x es xs) = form 13 (coded_pos.code p ∷ coded_id.code x ∷ coded_codes.code es ∷ coded_slots.code xs ∷ [])
  code_step (assignment p x t) = form 14 (coded_pos.code p ∷ coded_slot.code x ∷ coded_code.code t ∷ [])
  code_step (value p t) = form 15 (coded_pos.code p ∷ coded_code.code t ∷ [])

  pub code_steps : Statements Slot ClassId ℕ → Gv
  code_steps no_statements = form 0 []
  code_steps ((then) s ss) = form 1 (code_step s ∷ code_steps ss ∷ [])

  pub code_other : StatementPart Slot ClassId ℕ → Gv
  code_other not_written = form 0 []
  code_other (otherwise ss) = form 1 (code_steps ss ∷ [])

  pub code_branches : Branches Slot ClassId ℕ → Gv
  code_branches no_branches = form 0 []
  code_branches (branch ss bs) = form 1 (code_steps ss ∷ code_branches bs ∷ [])

mutual
  pub inj_step : (x y : Statement Slot ClassId ℕ) → code_step x ≡ code_step y → x ≡ y
  inj_step (skip p) (skip p') e = λ i. skip (coded_pos.inj p p' (ap (part 1) e) i)
  inj_step (delay p t) (delay p' t') e = λ i. delay (coded_pos.inj p p' (ap (part 1) e) i) (coded_code.inj t t' (ap (part 2) e) i)
  inj_step (bracketed p ts) (bracketed p' ts') e = λ i. bracketed (coded_pos.inj p p' (ap (part 1) e) i) (inj_steps ts ts' (ap (part 2) e) i)
  inj_step (block p es) (block p' es') e = λ i. block (coded_pos.inj p p' (ap (part 1) e) i) (coded_codes.inj es es' (ap (part 2) e) i)
  inj_step (guarded p x t) (guarded p' x' t') e = λ i. guarded (coded_pos.inj p p' (ap (part 1) e) i) (coded_code.inj x x' (ap (part 2) e) i) (inj_step t t' (ap (part 3) e) i)
  inj_step (parallel p bs) (parallel p' bs') e = λ i. parallel (coded_pos.inj p p' (ap (part 1) e) i) (inj_branches bs bs' (ap (part 2) e) i)
  inj_step (select p bs) (select p' bs') e = λ i. select (coded_pos.inj p p' (ap (part 1) e) i) (inj_branches bs bs' (ap (part 2) e) i)
  inj_step (conditional p t ts o) (conditional p' t' ts' o') e = λ i. conditional (coded_pos.inj p p' (ap (part 1) e) i) (coded_code.inj t t' (ap (part 2) e) i) (inj_steps ts ts' (ap (part 3) e) i) (inj_other o o' (ap (part 4) e) i)
  inj_step (repeated p t ts) (repeated p' t' ts') e = λ i. repeated (coded_pos.inj p p' (ap (part 1) e) i) (coded_code.inj t t' (ap (part 2) e) i) (inj_steps ts ts' (ap (part 3) e) i)
  inj_step (abort p ts t) (abort p' ts' t') e = λ i. abort (coded_pos.inj p p' (ap (part 1) e) i) (inj_steps ts ts' (ap (part 2) e) i) (inj_step t t' (ap (part 3) e) i)
  inj_step (interrupt p ts t) (interrupt p' ts' t') e = λ i. interrupt (coded_pos.inj p p' (ap (part 1) e) i) (inj_steps ts ts' (ap (part 2) e) i) (inj_step t t' (ap (part 3) e) i)
  inj_step (send p n x es fs) (send p' n' x' es' fs') e = λ i. send (coded_pos.inj p p' (ap (part 1) e) i) (coded_ℕ.inj n n' (ap (part 2) e) i) (coded_id.inj x x' (ap (part 3) e) i) (coded_part.inj es es' (ap (part 4) e) i) (coded_part.inj fs fs' (ap (part 5) e) i)
  inj_step (receive p n x xs o es) (receive p' n' x' xs' o' es') e = λ i. receive (coded_pos.inj p p' (ap (part 1) e) i) (coded_ℕ.inj n n' (ap (part 2) e) i) (coded_id.inj x x' (ap (part 3) e) i) (coded_into.inj xs xs' (ap (part 4) e) i) (coded_condition.inj o o' (ap (part 5) e) i) (coded_part.inj es es' (ap (part 6) e) i)
  inj_step (call p x es xs) (call p' x' es' xs') e = λ i. call (coded_pos.inj p p' (ap (part 1) e) i) (coded_id.inj x x' (ap (part 2) e) i) (coded_codes.inj es es' (ap (part 3) e) i) (coded_slots.inj xs xs' (ap (part 4) e) i)
  inj_step (assignment p x t) (assignment p' x' t') e = λ i. assignment (coded_pos.inj p p' (ap (part 1) e) i) (coded_slot.inj x x' (ap (part 2) e) i) (coded_code.inj t t' (ap (part 3) e) i)
  inj_step (value p t) (value p' t') e = λ i. value (coded_pos.inj p p' (ap (part 1) e) i) (coded_code.inj t t' (ap (part 2) e) i)
  inj_step x y e = absurd (differ (which (code_step x)) (which (code_step y)) tt (ap which e))

  pub inj_steps : (x y : Statements Slot ClassId ℕ) → code_steps x ≡ code_steps y → x ≡ y
  inj_steps no_statements no_statements e = refl
  inj_steps ((then) s ss) ((then) s' ss') e = λ i. (then) (inj_step s s' (ap (part 1) e) i) (inj_steps ss ss' (ap (part 2) e) i)
  inj_steps x y e = absurd (differ (which (code_steps x)) (which (code_steps y)) tt (ap which e))

  pub inj_other : (x y : StatementPart Slot ClassId ℕ) → code_other x ≡ code_other y → x ≡ y
  inj_other not_written not_written e = refl
  inj_other (otherwise ss) (otherwise ss') e = λ i. otherwise (inj_steps ss ss' (ap (part 1) e) i)
  inj_other x y e = absurd (differ (which (code_other x)) (which (code_other y)) tt (ap which e))

  pub inj_branches : (x y : Branches Slot ClassId ℕ) → code_branches x ≡ code_branches y → x ≡ y
  inj_branches no_branches no_branches e = refl
  inj_branches (branch ss bs) (branch ss' bs') e = λ i. branch (inj_steps ss ss' (ap (part 1) e) i) (inj_branches bs bs' (ap (part 2) e) i)
  inj_branches x y e = absurd (differ (which (code_branches x)) (which (code_branches y)) tt (ap which e))

abbrev code_body : BodyTree → Gv
code_body (data_body n es) = form 0 (coded_ℕ.code n ∷ code_es es ∷ [])
code_body (process_body n ss) = form 1 (coded_ℕ.code n ∷ code_steps ss ∷ [])

inj_body : (x y : BodyTree) → code_body x ≡ code_body y → x ≡ y
inj_body (data_body n es) (data_body n' es') e = λ i. data_body (coded_ℕ.inj n n' (ap (part 1) e) i) (inj_es es es' (ap (part 2) e) i)
inj_body (process_body n ss) (process_body n' ss') e = λ i. process_body (coded_ℕ.inj n n' (ap (part 1) e) i) (inj_steps ss ss' (ap (part 2) e) i)
inj_body x y e = absurd (differ (which (code_body x)) (which (code_body y)) tt (ap which e))

pub steps_set : IsSet (Option (Statement Slot ClassId ℕ))
steps_set = Coded-set (coded_option (record { code = code_step; inj = inj_step }))

pub bodies_set : IsSet (Option BodyTree)
bodies_set = Coded-set (coded_option (record { code = code_body; inj = inj_body }))
