-- The rules unfolded once.
use Rattle.std.proofs.Common.{◌≡◌, ℕ, zero, suc, List, map, Result, Ok, Err, refl, subst}
use Rattle.pz_syntax.specs.declared.stmts.Stmt.{Stmt}
use Rattle.pz_syntax.specs.StatementView.{view, sequence_view}
use Rattle.pz_parser_cursor.specs.declared.ahead.Next.TheVariants as n
use Rattle.pz_parser_cursor.specs.declared.refusal.Refusal.{Refusal}
use Rattle.pz_parser_cursor.specs.devices.Input.{Tokens}
use Rattle.pz_parser_cursor.specs.devices.Device.{Reads}
use Rattle.pz_parser_cursor.specs.devices.Lists.{list_of}
use Rattle.pz_parser_statements.specs.devices.Statements.{statement, stmt, below_stmt, stmts}

pub stmt_is : (d : ℕ) → stmt d ≡ statement d (below_stmt d)
unfolding stmt
stmt_is zero = refl
stmt_is (suc d) = refl

-- a list of statements one construct further in is a body
body_read : (d : ℕ) (i : Tokens) (result : Result (List Stmt) Refusal) (j : Tokens) → Reads (map view) (list_of (stmt d) n.Semicolon i) result j → Reads sequence_view (stmts d i) result j
unfolding stmts
body_read d i (Ok x) j e = rw e refl
body_read d i (Err x) j e = λ ne. rw (e ne) refl

pub body_is : (d m : ℕ) (i : Tokens) (result : Result (List Stmt) Refusal) (j : Tokens) → m ≡ suc d → Reads (map view) (list_of (below_stmt m) n.Semicolon i) result j → Reads sequence_view (stmts d i) result j
body_is d m i result j e h = body_read d i result j (subst (λ k. Reads (map view) (list_of (below_stmt k) n.Semicolon i) result j) e h)
