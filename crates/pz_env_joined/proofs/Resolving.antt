-- Code is the same where the classes that it creates have the same numbers.
use Rattle.std.proofs.Common.{◌≡◌, refl, ap, ℕ, suc, List, [], ◌∷◌, ◌++◌, length, Option, Some, None, arith}
use Rattle.std.specs.List.{Contains}
use Rattle.std.specs.Option.{option_map}
use Rattle.std.proofs.lemmas.List.Elements.{Contains-append_left, Contains-append_right}
use Rattle.pz_env_mimics.specs.pz_syntax.declared.names.Id.{Id}
use Rattle.pz_env_mimics.specs.pz_syntax.Expressions.{Expression, literal, variable, me, clock, creation, group, chain, sends, unary, assign, returned, choice, loop, Expressions, none, more, Part, left_out, written, Links, no_links, link, Sendings, no_sendings, sending}
use Rattle.pz_env_mimics.specs.pz_syntax.Statements.{Statement, skip, delay, bracketed, block, guarded, parallel, select, conditional, repeated, abort, interrupt, send, receive, call, assignment, value, Statements, no_statements, then, StatementPart, not_written, otherwise, Branches, no_branches, branch}
use Rattle.pz_classes_mentions.specs.declared.mention.Mention.{Mention}
use Rattle.pz_classes_mentions.specs.declared.mention.Mention.TheVariants as w
use Rattle.pz_classes_mentions.specs.Expressions.{count, count_written, mentioned, mentioned_all, mentioned_part, mentioned_links, mentioned_sendings}
use Rattle.pz_classes_mentions.specs.Statements.{variables, received, mentioned_condition, mentioned_statements, mentioned_otherwise, mentioned_branches}
use Rattle.pz_classes_mentions.specs.Statements as statement
use Rattle.pz_env_mimics.specs.pz_classes_code.Resolution.{Scope, class_of, resolved, resolved_all, resolved_part, resolved_links, resolved_sendings, resolved_statement, resolved_statements, resolved_otherwise, resolved_branches}

-- the same names, but for those of classes
module _ (locals shared ports one_classes other_classes : List ℕ → Option ℕ) where
  abbrev one : Scope
  one = record { locals = locals; shared = shared; ports = ports; classes = one_classes }

  abbrev other : Scope
  other = record { locals = locals; shared = shared; ports = ports; classes = other_classes }

  abbrev Known : Mention → Type 0
  Known (w.Created k) = class_of one k.name ≡ class_of other k.name
  Known _ = Unit {0}

  abbrev pub Each : List Mention → Type 0
  Each xs = (x : Mention) → Contains xs x → Known x

  front : (xs ys : List Mention) → Each (xs ++ ys) → Each xs
  front xs ys each x at = each x (Contains-append_left xs ys x at)

  back : (xs ys : List Mention) → Each (xs ++ ys) → Each ys
  back xs ys each x at = each x (Contains-append_right xs ys x at)

  head : (x : Mention) (xs : List Mention) → Each (x ∷ xs) → Known x
  head x xs each = each x (0, omega arith, refl)

  tail : (x : Mention) (xs : List Mention) → Each (x ∷ xs) → Each xs
  tail x xs each y (k, low, is) = each y (suc k, omega (arith, low), is)

  mutual
    same : (t : Expression Id Id) → Each (mentioned t) → resolved one t ≡ resolved other t
    same (literal pos x) each = refl
    same (variable pos x) each = refl
    same (me pos) each = refl
    same (clock pos) each = refl
    same (creation pos k) each = ap (creation pos) (head (w.Created k) [] each)
    same (group pos ts) each = rw (all_same ts each) refl
    same (chain pos t ls) each = rw (same t (front (mentioned t) (mentioned_links ls) each), links_same ls (back (mentioned t) (mentioned_links ls) each)) refl
    same (sends pos t ss) each = rw (same t (front (mentioned t) (mentioned_sendings ss) each), sendings_same ss (back (mentioned t) (mentioned_sendings ss) each)) refl
    same (unary pos op t) each = rw (same t each) refl
    same (assign pos x t) each = rw (same t (tail (w.Variable x) (mentioned t) each)) refl
    same (returned pos t) each = rw (same t (tail (w.Return pos) (mentioned t) each)) refl
    same (choice pos test body rest) each =
        let later = back (mentioned test) (mentioned_all body ++ mentioned_part rest) each in
        rw (same test (front (mentioned test) (mentioned_all body ++ mentioned_part rest) each), all_same body (front (mentioned_all body) (mentioned_part rest) later), part_same rest (back (mentioned_all body) (mentioned_part rest) later)) refl
    same (loop pos test body) each = rw (same test (front (mentioned test) (mentioned_all body) each), all_same body (back (mentioned test) (mentioned_all body) each)) refl

    pub all_same : (ts : Expressions Id Id) → Each (mentioned_all ts) → resolved_all one ts ≡ resolved_all other ts
    all_same none each = refl
    all_same (more t ts) each = rw (same t (front (mentioned t) (mentioned_all ts) each), all_same ts (back (mentioned t) (mentioned_all ts) each)) refl

    part_same : (rest : Part Id Id) → Each (mentioned_part rest) → resolved_part one rest ≡ resolved_part other rest
    part_same left_out each = refl
    part_same (written ts) each = rw (all_same ts each) refl

    links_same : (ls : Links Id Id) → Each (mentioned_links ls) → resolved_links one ls ≡ resolved_links other ls
    links_same no_links each = refl
    links_same (link op pos t ls) each = rw (same t (front (mentioned t) (mentioned_links ls) each), links_same ls (back (mentioned t) (mentioned_links ls) each)) refl

    sendings_same : (ss : Sendings Id Id) → Each (mentioned_sendings ss) → resolved_sendings one ss ≡ resolved_sendings other ss
    sendings_same no_sendings each = refl
    sendings_same (sending x args ss) each =
        let later = tail (w.Selector x (count_written args)) (mentioned_part args ++ mentioned_sendings ss) each in
        rw (part_same args (front (mentioned_part args) (mentioned_sendings ss) later), sendings_same ss (back (mentioned_part args) (mentioned_sendings ss) later)) refl

  condition_same : (condition : Option (Expression Id Id)) → Each (mentioned_condition condition)
      → option_map (resolved one) condition ≡ option_map (resolved other) condition
  condition_same None each = refl
  condition_same (Some e) each = ap Some (same e each)

  mutual
    statement_same : (t : Statement Id Id Id) → Each (statement.mentioned t) → resolved_statement one t ≡ resolved_statement other t
    statement_same (skip pos) each = refl
    statement_same (delay pos e) each = rw (same e each) refl
    statement_same (bracketed pos ts) each = rw (statements_same ts each) refl
    statement_same (block pos es) each = rw (all_same es each) refl
    statement_same (guarded pos e t) each = rw (same e (front (mentioned e) (statement.mentioned t) each), statement_same t (back (mentioned e) (statement.mentioned t) each)) refl
    statement_same (parallel pos bs) each = rw (branches_same bs each) refl
    statement_same (select pos bs) each = rw (branches_same bs each) refl
    statement_same (conditional pos e body rest) each =
        let later = back (mentioned e) (mentioned_statements body ++ mentioned_otherwise rest) each in
        rw (same e (front (mentioned e) (mentioned_statements body ++ mentioned_otherwise rest) each), statements_same body (front (mentioned_statements body) (mentioned_otherwise rest) later), otherwise_same rest (back (mentioned_statements body) (mentioned_otherwise rest) later)) refl
    statement_same (repeated pos e body) each = rw (same e (front (mentioned e) (mentioned_statements body) each), statements_same body (back (mentioned e) (mentioned_statements body) each)) refl
    statement_same (abort pos ts t) each = rw (statements_same ts (front (mentioned_statements ts) (statement.mentioned t) each), statement_same t (back (mentioned_statements ts) (statement.mentioned t) each)) refl
    statement_same (interrupt pos ts t) each = rw (statements_same ts (front (mentioned_statements ts) (statement.mentioned t) each), statement_same t (back (mentioned_statements ts) (statement.mentioned t) each)) refl
    statement_same (send pos port name args after) each =
        let sent = w.Sent port name (count_written args) in
        let named = mentioned_part args ++ mentioned_part after in
        let later = tail sent named (tail (w.Port port) (sent ∷ named) each) in
        rw (part_same args (front (mentioned_part args) (mentioned_part after) later), part_same after (back (mentioned_part args) (mentioned_part after) later)) refl
    statement_same (receive pos port name into condition after) each =
        let taken = w.Received port name (length (received into)) in
        let behind = mentioned_condition condition ++ mentioned_part after in
        let named = variables (received into) ++ behind in
        let later = tail taken named (tail (w.Port port) (taken ∷ named) each) in
        let last_ones = back (variables (received into)) behind later in
        rw (condition_same condition (front (mentioned_condition condition) (mentioned_part after) last_ones), part_same after (back (mentioned_condition condition) (mentioned_part after) last_ones)) refl
    statement_same (call pos method args results) each =
        let called = w.Called method (count args) (length results) in
        let named = mentioned_all args ++ variables results in
        rw (all_same args (front (mentioned_all args) (variables results) (tail called named each))) refl
    statement_same (assignment pos x e) each = rw (same e (tail (w.Variable x) (mentioned e) each)) refl
    statement_same (value pos e) each = rw (same e each) refl

    pub statements_same : (ts : Statements Id Id Id) → Each (mentioned_statements ts) → resolved_statements one ts ≡ resolved_statements other ts
    statements_same no_statements each = refl
    statements_same (then t ts) each = rw (statement_same t (front (statement.mentioned t) (mentioned_statements ts) each), statements_same ts (back (statement.mentioned t) (mentioned_statements ts) each)) refl

    otherwise_same : (rest : StatementPart Id Id Id) → Each (mentioned_otherwise rest) → resolved_otherwise one rest ≡ resolved_otherwise other rest
    otherwise_same not_written each = refl
    otherwise_same (otherwise ts) each = rw (statements_same ts each) refl

    branches_same : (bs : Branches Id Id Id) → Each (mentioned_branches bs) → resolved_branches one bs ≡ resolved_branches other bs
    branches_same no_branches each = refl
    branches_same (branch ts bs) each = rw (statements_same ts (front (mentioned_statements ts) (mentioned_branches bs) each), branches_same bs (back (mentioned_statements ts) (mentioned_branches bs) each)) refl
