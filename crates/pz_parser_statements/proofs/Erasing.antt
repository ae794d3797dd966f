-- The positions of the tokens change nothing else of a statement.
use Rattle.std.proofs.Common.{◌≡◌, ℕ, suc, ◌+◌, length, map, refl, ap, ◌∙◌}
use Rattle.std.specs.Prelude.{option_map}
use Rattle.pz_syntax.specs.declared.tokens.Pos.{Pos}
use Rattle.pz_syntax.specs.declared.tokens.Symbol.TheVariants as s
use Rattle.pz_syntax.specs.declared.names.Id.{Id}
use Rattle.pz_syntax.specs.Marks.{names_text, optional}
use Rattle.pz_syntax.specs.ExpressionText.{arguments_text}
use Rattle.pz_syntax.specs.ExpressionText as expression_text
use Rattle.pz_syntax.specs.ExpressionErasure.{origin, erase_id, erase_all, erase_part}
use Rattle.pz_syntax.specs.ExpressionErasure as expression
use Rattle.pz_syntax.specs.Statements.{Statement, skip, delay, bracketed, block, guarded, parallel, select, conditional, repeated, abort, interrupt, send, receive, call, assignment, value, Statements, no_statements, then, StatementPart, not_written, otherwise, Branches, no_branches, branch}
use Rattle.pz_syntax.specs.StatementText.{text, texts, reception_text}
use Rattle.pz_syntax.specs.StatementErasure.{erase, erase_sequence, erase_otherwise, erase_branches}
use Rattle.pz_parser_cursor.specs.Places.{place_names}
use Rattle.pz_parser_cursor.proofs.Erasing.{Erased, erased_optional, erased_names}
use Rattle.pz_parser_expressions.specs.ExpressionPlaces.{place_part}
use Rattle.pz_parser_expressions.specs.ExpressionPlaces as expression_places
use Rattle.pz_parser_expressions.proofs.Erasing.{erase_place_all, erase_place_part}
use Rattle.pz_parser_expressions.proofs.Erasing as values
use Rattle.pz_parser_statements.specs.StatementPlaces.{place_into, place_condition, place, place_all, place_tail, place_otherwise, place_branches, place_tail_branches}

into_erased : Erased (option_map (map erase_id)) place_into
into_erased = erased_optional (map erase_id) (λ at k xs. place_names at (suc k) xs) (λ at k xs. erased_names at (suc k) xs)

condition_erased : Erased (option_map expression.erase) place_condition
condition_erased = erased_optional expression.erase (λ at k e. expression_places.place at (suc k) e) (λ at k e. values.erase_place at (suc k) e)

mutual
  pub erase_place : (at : ℕ → Pos) (k : ℕ) (t : Statement Id Id Id) → erase (place at k t) ≡ erase t
  erase_place at k (skip pos) = refl
  erase_place at k (delay pos e) = ap (delay origin) (values.erase_place at (suc k) e)
  erase_place at k (bracketed pos ts) = ap (bracketed origin) (erase_place_sequence at (suc k) ts)
  erase_place at k (block pos es) = ap (block origin) (erase_place_all at (suc k) es)
  erase_place at k (guarded pos e t) =
      let m = suc (suc k + length (expression_text.text e)) in
      ap (λ u. guarded origin u (erase (place at m t))) (values.erase_place at (suc k) e) ∙ ap (guarded origin (expression.erase e)) (erase_place at m t)
  erase_place at k (parallel pos bs) = ap (parallel origin) (erase_place_branches at (suc k) bs)
  erase_place at k (select pos bs) = ap (select origin) (erase_place_branches at (suc k) bs)
  erase_place at k (conditional pos e ts o) =
      let m = suc (suc k + length (expression_text.text e)) in
      let l = m + length (texts ts) in
      ap (λ u. conditional origin u (erase_sequence (place_all at m ts)) (erase_otherwise (place_otherwise at l o))) (values.erase_place at (suc k) e)
      ∙ ap (λ us. conditional origin (expression.erase e) us (erase_otherwise (place_otherwise at l o))) (erase_place_sequence at m ts)
      ∙ ap (conditional origin (expression.erase e) (erase_sequence ts)) (erase_place_otherwise at l o)
  erase_place at k (repeated pos e ts) =
      let m = suc (suc k + length (expression_text.text e)) in
      ap (λ u. repeated origin u (erase_sequence (place_all at m ts))) (values.erase_place at (suc k) e) ∙ ap (repeated origin (expression.erase e)) (erase_place_sequence at m ts)
  erase_place at k (abort pos ts t) =
      let m = suc (suc k + length (texts ts)) in
      ap (λ us. abort origin us (erase (place at m t))) (erase_place_sequence at (suc k) ts) ∙ ap (abort origin (erase_sequence ts)) (erase_place at m t)
  erase_place at k (interrupt pos ts t) =
      let m = suc (suc k + length (texts ts)) in
      ap (λ us. interrupt origin us (erase (place at m t))) (erase_place_sequence at (suc k) ts) ∙ ap (interrupt origin (erase_sequence ts)) (erase_place at m t)
  erase_place at k (send pos port message args after) =
      let a = suc (suc (suc k)) in
      let b = a + length (arguments_text args) in
      ap (λ u. send origin (erase_id port) (erase_id message) u (erase_part (place_part at b after))) (erase_place_part at a args) ∙ ap (send origin (erase_id port) (erase_id message) (erase_part args)) (erase_place_part at b after)
  erase_place at k (receive pos port message into condition after) =
      let a = suc (suc (suc k)) in
      let c = suc a + length (optional names_text into) in
      let b = a + length (reception_text into condition) in
      ap (λ u. receive origin (erase_id port) (erase_id message) u (option_map expression.erase (place_condition at c condition)) (erase_part (place_part at b after))) (into_erased at a into)
      ∙ ap (λ u. receive origin (erase_id port) (erase_id message) (option_map (map erase_id) into) u (erase_part (place_part at b after))) (condition_erased at c condition)
      ∙ ap (receive origin (erase_id port) (erase_id message) (option_map (map erase_id) into) (option_map expression.erase condition)) (erase_place_part at b after)
  erase_place at k (call pos method args results) =
      let a = suc (suc k) in
      let b = suc (suc (a + length (expression_text.texts s.Comma args))) in
      ap (λ u. call origin (erase_id method) u (map erase_id (place_names at b results))) (erase_place_all at a args) ∙ ap (call origin (erase_id method) (erase_all args)) (erased_names at b results)
  erase_place at k (assignment pos x e) = ap (assignment origin (erase_id x)) (values.erase_place at (suc (suc k)) e)
  erase_place at k (value pos e) = ap (value origin) (values.erase_place at k e)

  pub erase_place_sequence : (at : ℕ → Pos) (k : ℕ) (ts : Statements Id Id Id) → erase_sequence (place_all at k ts) ≡ erase_sequence ts
  erase_place_sequence at k no_statements = refl
  erase_place_sequence at k (then t ts) = ap (λ u. then u (erase_sequence (place_tail at (k + length (text t)) ts))) (erase_place at k t) ∙ ap (then (erase t)) (erase_place_tail at (k + length (text t)) ts)

  erase_place_tail : (at : ℕ → Pos) (k : ℕ) (ts : Statements Id Id Id) → erase_sequence (place_tail at k ts) ≡ erase_sequence ts
  erase_place_tail at k no_statements = refl
  erase_place_tail at k (then t ts) = ap (λ u. then u (erase_sequence (place_tail at (suc k + length (text t)) ts))) (erase_place at (suc k) t) ∙ ap (then (erase t)) (erase_place_tail at (suc k + length (text t)) ts)

  erase_place_otherwise : (at : ℕ → Pos) (k : ℕ) (o : StatementPart Id Id Id) → erase_otherwise (place_otherwise at k o) ≡ erase_otherwise o
  erase_place_otherwise at k not_written = refl
  erase_place_otherwise at k (otherwise ts) = ap otherwise (erase_place_sequence at (suc k) ts)

  erase_place_branches : (at : ℕ → Pos) (k : ℕ) (bs : Branches Id Id Id) → erase_branches (place_branches at k bs) ≡ erase_branches bs
  erase_place_branches at k no_branches = refl
  erase_place_branches at k (branch b bs) = ap (λ u. branch u (erase_branches (place_tail_branches at (k + length (texts b)) bs))) (erase_place_sequence at k b) ∙ ap (branch (erase_sequence b)) (erase_place_tail_branches at (k + length (texts b)) bs)

  erase_place_tail_branches : (at : ℕ → Pos) (k : ℕ) (bs : Branches Id Id Id) → erase_branches (place_tail_branches at k bs) ≡ erase_branches bs
  erase_place_tail_branches at k no_branches = refl
  erase_place_tail_branches at k (branch b bs) = ap (λ u. branch u (erase_branches (place_tail_branches at (suc k + length (texts b)) bs))) (erase_place_sequence at (suc k) b) ∙ ap (branch (erase_sequence b)) (erase_place_tail_branches at (suc k + length (texts b)) bs)
