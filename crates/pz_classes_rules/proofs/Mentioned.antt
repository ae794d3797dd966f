-- Where each word that code mentions is right, the code fits once slots and numbers stand in place
-- of names.
use Rattle.std.proofs.Common.{◌≡◌, refl, ℕ, List, [], ◌∷◌, ◌++◌, length, Option, Some, None}
use Rattle.std.specs.List.{All, Contains}
use Rattle.std.specs.Option.{option_map}
use Rattle.std.proofs.lemmas.List.{length-map}
use Rattle.std.proofs.lemmas.List.Elements.{Contains-append_left, Contains-append_right, All-nil, All-cons}
use Rattle.pz_classes_code.specs.pz_syntax.declared.tokens.Pos.{Pos}
use Rattle.pz_classes_code.specs.pz_syntax.declared.names.Id.{Id}
use Rattle.pz_classes_code.specs.pz_syntax.declared.exprs.Literal.{Literal}
use Rattle.pz_classes_code.specs.pz_syntax.declared.exprs.Literal.TheVariants as lit
use Rattle.pz_classes_code.specs.pz_syntax.Expressions.{Expression, literal, variable, me, clock, creation, group, chain, sends, unary, assign, returned, choice, loop, Expressions, none, more, Part, left_out, written, Links, no_links, link, Sendings, no_sendings, sending}
use Rattle.pz_classes_code.specs.pz_syntax.Statements.{Statement, skip, delay, bracketed, block, guarded, parallel, select, conditional, repeated, abort, interrupt, send, receive, call, assignment, value, Statements, no_statements, then, StatementPart, not_written, otherwise, Branches, no_branches, branch}
use Rattle.pz_classes_code.specs.pz_syntax.Classes.{ModelTree}
use Rattle.pz_classes_mentions.specs.declared.mention.Mention.{Mention}
use Rattle.pz_classes_mentions.specs.declared.mention.Mention.TheVariants as w
use Rattle.pz_classes_mentions.specs.Expressions.{count, count_written, mentioned_literal, mentioned, mentioned_all, mentioned_part, mentioned_links, mentioned_sendings}
use Rattle.pz_classes_mentions.specs.Statements.{variables, received, mentioned_condition, mentioned_statements, mentioned_otherwise, mentioned_branches}
use Rattle.pz_classes_mentions.specs.Statements as statement
use Rattle.pz_classes_code.specs.Resolution.{Scope, slot_of, class_of, port_of, slots_of, resolved, resolved_all, resolved_part, resolved_links, resolved_sendings, resolved_statement, resolved_statements, resolved_otherwise, resolved_branches}
use Rattle.pz_classes_rules.specs.FitBodies.{Sort, data_code, process_code, MayBeCreated, LiteralFits, how_many, SlotFits, ExpressionFits, ExpressionsFit, PartFits, LinksFit, SendingsFit, PortFits, ReceivedFit, ConditionFits, CallFits, StatementFits, StatementsFit, OtherwiseFits, BranchesFit}
use Rattle.pz_classes_rules.proofs.Elements.{first_in, later_in}

-- as many as before
pub as_many : (scope : Scope) (ts : Expressions Id Id) → how_many (resolved_all scope ts) ≡ count ts
as_many scope none = refl
as_many scope (more t ts) = rw (as_many scope ts) refl

module _ (m : ModelTree) (c : ℕ) (sort : Sort) (locals : ℕ) (scope : Scope) where
  -- what is asked of a word
  abbrev pub Right : Mention → Type 0
  Right (w.Variable x) = SlotFits m c sort locals (slot_of scope x.name)
  Right (w.Created k) = MayBeCreated m (class_of scope k.name).0
  Right (w.Called name inputs outputs) = CallFits m c locals name inputs outputs
  Right (w.Port x) = PortFits m c locals (port_of scope x.name)
  Right (w.Clock pos) = sort ≡ process_code
  Right (w.Me pos) = sort ≡ data_code
  Right (w.Return pos) = sort ≡ data_code
  Right (w.Float pos) = ⊥
  Right _ = Unit {0}

  abbrev pub Each : List Mention → Type 0
  Each xs = (x : Mention) → Contains xs x → Right x

  front : (xs ys : List Mention) → Each (xs ++ ys) → Each xs
  front xs ys each x here = each x (Contains-append_left xs ys x here)

  back : (xs ys : List Mention) → Each (xs ++ ys) → Each ys
  back xs ys each x here = each x (Contains-append_right xs ys x here)

  head : (x : Mention) (xs : List Mention) → Each (x ∷ xs) → Right x
  head x xs each = each x (first_in x xs)

  tail : (x : Mention) (xs : List Mention) → Each (x ∷ xs) → Each xs
  tail x xs each y here = each y (later_in x xs y here)

  literal_fits : (pos : Pos) (x : Literal) → Each (mentioned_literal pos x) → LiteralFits x
  literal_fits pos (lit.Int n) each = tt
  literal_fits pos lit.Float each = head (w.Float pos) [] each
  literal_fits pos (lit.Char k) each = tt
  literal_fits pos (lit.Str bytes) each = tt
  literal_fits pos lit.True each = tt
  literal_fits pos lit.False each = tt
  literal_fits pos lit.Nil each = tt

  mutual
    fits : (t : Expression Id Id) → Each (mentioned t) → ExpressionFits m c sort locals (resolved scope t)
    fits (literal pos x) each = literal_fits pos x each
    fits (variable pos x) each = head (w.Variable x) [] each
    fits (me pos) each = head (w.Me pos) [] each
    fits (clock pos) each = head (w.Clock pos) [] each
    fits (creation pos k) each = head (w.Created k) [] each
    fits (group pos ts) each = all_fit ts each
    fits (chain pos t ls) each = (fits t (front (mentioned t) (mentioned_links ls) each), links_fit ls (back (mentioned t) (mentioned_links ls) each))
    fits (sends pos t ss) each = (fits t (front (mentioned t) (mentioned_sendings ss) each), sendings_fit ss (back (mentioned t) (mentioned_sendings ss) each))
    fits (unary pos op t) each = fits t each
    fits (assign pos x t) each = (head (w.Variable x) (mentioned t) each, fits t (tail (w.Variable x) (mentioned t) each))
    fits (returned pos t) each = (head (w.Return pos) (mentioned t) each, fits t (tail (w.Return pos) (mentioned t) each))
    fits (choice pos test body other) each =
        let later = back (mentioned test) (mentioned_all body ++ mentioned_part other) each in
        (fits test (front (mentioned test) (mentioned_all body ++ mentioned_part other) each), all_fit body (front (mentioned_all body) (mentioned_part other) later), part_fits other (back (mentioned_all body) (mentioned_part other) later))
    fits (loop pos test body) each = (fits test (front (mentioned test) (mentioned_all body) each), all_fit body (back (mentioned test) (mentioned_all body) each))

    pub all_fit : (ts : Expressions Id Id) → Each (mentioned_all ts) → ExpressionsFit m c sort locals (resolved_all scope ts)
    all_fit none each = tt
    all_fit (more t ts) each = (fits t (front (mentioned t) (mentioned_all ts) each), all_fit ts (back (mentioned t) (mentioned_all ts) each))

    part_fits : (other : Part Id Id) → Each (mentioned_part other) → PartFits m c sort locals (resolved_part scope other)
    part_fits left_out each = tt
    part_fits (written ts) each = all_fit ts each

    links_fit : (ls : Links Id Id) → Each (mentioned_links ls) → LinksFit m c sort locals (resolved_links scope ls)
    links_fit no_links each = tt
    links_fit (link op pos t ls) each = (fits t (front (mentioned t) (mentioned_links ls) each), links_fit ls (back (mentioned t) (mentioned_links ls) each))

    sendings_fit : (ss : Sendings Id Id) → Each (mentioned_sendings ss) → SendingsFit m c sort locals (resolved_sendings scope ss)
    sendings_fit no_sendings each = tt
    sendings_fit (sending x args ss) each =
        let later = tail (w.Selector x (count_written args)) (mentioned_part args ++ mentioned_sendings ss) each in
        (part_fits args (front (mentioned_part args) (mentioned_sendings ss) later), sendings_fit ss (back (mentioned_part args) (mentioned_sendings ss) later))

  slots_fit : (xs : List Id) → Each (variables xs) → All (SlotFits m c sort locals) (slots_of scope xs)
  slots_fit [] each = All-nil (SlotFits m c sort locals)
  slots_fit (x ∷ xs) each =
      All-cons (SlotFits m c sort locals) (slot_of scope x.name) (slots_of scope xs)
      (head (w.Variable x) (variables xs) each) (slots_fit xs (tail (w.Variable x) (variables xs) each))

-- statements stand in process classes
module _ (m : ModelTree) (c : ℕ) (locals : ℕ) (scope : Scope) where
  abbrev Each_word : List Mention → Type 0
  Each_word xs = Each m c process_code locals scope xs

  first : (xs ys : List Mention) → Each_word (xs ++ ys) → Each_word xs
  first xs ys each = front m c process_code locals scope xs ys each

  last : (xs ys : List Mention) → Each_word (xs ++ ys) → Each_word ys
  last xs ys each = back m c process_code locals scope xs ys each

  one : (x : Mention) (xs : List Mention) → Each_word (x ∷ xs) → Right m c process_code locals scope x
  one x xs each = head m c process_code locals scope x xs each

  rest : (x : Mention) (xs : List Mention) → Each_word (x ∷ xs) → Each_word xs
  rest x xs each = tail m c process_code locals scope x xs each

  of_expression : (t : Expression Id Id) → Each_word (mentioned t) → ExpressionFits m c process_code locals (resolved scope t)
  of_expression t each = fits m c process_code locals scope t each

  of_list : (ts : Expressions Id Id) → Each_word (mentioned_all ts) → ExpressionsFit m c process_code locals (resolved_all scope ts)
  of_list ts each = all_fit m c process_code locals scope ts each

  of_part : (ts : Part Id Id) → Each_word (mentioned_part ts) → PartFits m c process_code locals (resolved_part scope ts)
  of_part ts each = part_fits m c process_code locals scope ts each

  of_slots : (xs : List Id) → Each_word (variables xs) → All (SlotFits m c process_code locals) (slots_of scope xs)
  of_slots xs each = slots_fit m c process_code locals scope xs each

  received_fit : (into : Option (List Id)) → Each_word (variables (received into)) → ReceivedFit m c locals (option_map (slots_of scope) into)
  received_fit None each = tt
  received_fit (Some xs) each = of_slots xs each

  condition_fits : (condition : Option (Expression Id Id)) → Each_word (mentioned_condition condition) → ConditionFits m c locals (option_map (resolved scope) condition)
  condition_fits None each = tt
  condition_fits (Some e) each = of_expression e each

  -- a call has as many arguments and results as before
  pub call_fits : (method : Id) (args : Expressions Id Id) (results : List Id) → CallFits m c locals method (count args) (length results)
      → CallFits m c locals method (how_many (resolved_all scope args)) (length (slots_of scope results))
  call_fits method args results has = rw (as_many scope args, length-map results (λ (x : Id). slot_of scope x.name)) has

  mutual
    statement_fits : (t : Statement Id Id Id) → Each_word (statement.mentioned t) → StatementFits m c locals (resolved_statement scope t)
    statement_fits (skip pos) each = tt
    statement_fits (delay pos e) each = of_expression e each
    statement_fits (bracketed pos ts) each = statements_fit ts each
    statement_fits (block pos es) each = of_list es each
    statement_fits (guarded pos e t) each = (of_expression e (first (mentioned e) (statement.mentioned t) each), statement_fits t (last (mentioned e) (statement.mentioned t) each))
    statement_fits (parallel pos bs) each = branches_fit bs each
    statement_fits (select pos bs) each = branches_fit bs each
    statement_fits (conditional pos e body other) each =
        let later = last (mentioned e) (mentioned_statements body ++ mentioned_otherwise other) each in
        (of_expression e (first (mentioned e) (mentioned_statements body ++ mentioned_otherwise other) each), statements_fit body (first (mentioned_statements body) (mentioned_otherwise other) later), otherwise_fits other (last (mentioned_statements body) (mentioned_otherwise other) later))
    statement_fits (repeated pos e body) each = (of_expression e (first (mentioned e) (mentioned_statements body) each), statements_fit body (last (mentioned e) (mentioned_statements body) each))
    statement_fits (abort pos ts t) each = (statements_fit ts (first (mentioned_statements ts) (statement.mentioned t) each), statement_fits t (last (mentioned_statements ts) (statement.mentioned t) each))
    statement_fits (interrupt pos ts t) each = (statements_fit ts (first (mentioned_statements ts) (statement.mentioned t) each), statement_fits t (last (mentioned_statements ts) (statement.mentioned t) each))
    statement_fits (send pos port name args after) each =
        let sent = w.Sent port name (count_written args) in
        let named = mentioned_part args ++ mentioned_part after in
        let later = rest sent named (rest (w.Port port) (sent ∷ named) each) in
        (one (w.Port port) (sent ∷ named) each, of_part args (first (mentioned_part args) (mentioned_part after) later), of_part after (last (mentioned_part args) (mentioned_part after) later))
    statement_fits (receive pos port name into condition after) each =
        let taken = w.Received port name (length (received into)) in
        let behind = mentioned_condition condition ++ mentioned_part after in
        let named = variables (received into) ++ behind in
        let later = rest taken named (rest (w.Port port) (taken ∷ named) each) in
        let last_ones = last (variables (received into)) behind later in
        (one (w.Port port) (taken ∷ named) each, received_fit into (first (variables (received into)) behind later), condition_fits condition (first (mentioned_condition condition) (mentioned_part after) last_ones), of_part after (last (mentioned_condition condition) (mentioned_part after) last_ones))
    statement_fits (call pos method args results) each =
        let called = w.Called method (count args) (length results) in
        let named = mentioned_all args ++ variables results in
        let later = rest called named each in
        (call_fits method args results (one called named each), of_list args (first (mentioned_all args) (variables results) later), of_slots results (last (mentioned_all args) (variables results) later))
    statement_fits (assignment pos x e) each = (one (w.Variable x) (mentioned e) each, of_expression e (rest (w.Variable x) (mentioned e) each))
    statement_fits (value pos e) each = of_expression e each

    pub statements_fit : (ts : Statements Id Id Id) → Each_word (mentioned_statements ts) → StatementsFit m c locals (resolved_statements scope ts)
    statements_fit no_statements each = tt
    statements_fit (then t ts) each = (statement_fits t (first (statement.mentioned t) (mentioned_statements ts) each), statements_fit ts (last (statement.mentioned t) (mentioned_statements ts) each))

    otherwise_fits : (other : StatementPart Id Id Id) → Each_word (mentioned_otherwise other) → OtherwiseFits m c locals (resolved_otherwise scope other)
    otherwise_fits not_written each = tt
    otherwise_fits (otherwise ts) each = statements_fit ts each

    branches_fit : (bs : Branches Id Id Id) → Each_word (mentioned_branches bs) → BranchesFit m c locals (resolved_branches scope bs)
    branches_fit no_branches each = tt
    branches_fit (branch ts bs) each = (statements_fit ts (first (mentioned_statements ts) (mentioned_branches bs) each), branches_fit bs (last (mentioned_statements ts) (mentioned_branches bs) each))
