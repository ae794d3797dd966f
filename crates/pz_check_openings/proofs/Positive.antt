-- What begins with a call has a statement.
use Rattle.std.proofs.Common.{◌≡◌, refl, ap, ℕ, zero, suc, ◌+◌, ◌<◌, ◌≤◌, List, [], ◌∷◌, length, arith}
use Rattle.std.specs.List.{Contains, sum_by}
use Rattle.std.proofs.lemmas.List.Sums.{sum_by-cons}
use Rattle.pz_classes.specs.pz_syntax.declared.names.Id.{Id}
use Rattle.pz_classes.specs.pz_syntax.Statements.{Statement, skip, delay, bracketed, block, guarded, parallel, select, conditional, repeated, abort, interrupt, send, receive, call, assignment, value, Statements, no_statements, then}
use Rattle.pz_classes_beginnings.specs.Beginning.{begun, begun_all, statements_in, statements_in_all, statements_in_part, statements_in_each}

one_each : (t : Statement Id Id Id) → 1 ≤ statements_in t
one_each (skip pos) = omega arith
one_each (delay pos e) = omega arith
one_each (bracketed pos ts) = omega arith
one_each (block pos es) = omega arith
one_each (guarded pos e t) = omega arith
one_each (parallel pos bs) = omega arith
one_each (select pos bs) = omega arith
one_each (conditional pos e ts other) = omega arith
one_each (repeated pos e ts) = omega arith
one_each (abort pos ts t) = omega arith
one_each (interrupt pos ts t) = omega arith
one_each (send pos port message args after) = omega arith
one_each (receive pos port message into condition after) = omega arith
one_each (call pos method args results) = omega arith
one_each (assignment pos x e) = omega arith
one_each (value pos e) = omega arith

pub some_statement : (ts : Statements Id Id Id) (x : Id) → Contains (begun_all ts) x → 1 ≤ statements_in_all ts
some_statement no_statements x (i, below, is) = absurd (omega arith)
some_statement (then t ts) x among = let one : 1 ≤ statements_in t = one_each t in omega (arith, one)

-- an element counts in a sum
pub counts : {X : Type 0} (f : X → ℕ) (xs : List X) (x : X) → Contains xs x → f x ≤ sum_by f xs
counts f [] x (i, below, is) = absurd (omega arith)
counts f (y ∷ xs) x (zero, below, is) =
    let s : sum_by f (y ∷ xs) ≡ f y + sum_by f xs = sum_by-cons f y xs in
    let same : f y ≡ f x = ap f is in
    omega (arith, s, same)
counts f (y ∷ xs) x (suc i, below, is) =
    let s : sum_by f (y ∷ xs) ≡ f y + sum_by f xs = sum_by-cons f y xs in
    let later : f x ≤ sum_by f xs = counts f xs x (i, omega arith, is) in
    omega (arith, s, later)
