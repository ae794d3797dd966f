-- In a process class of a model that opens, no method opens more than 1,000,000 statements.
use Rattle.std.proofs.Common.{◌≡◌, refl, ap, ◌∙◌, ◌≤◌, ◌<◌, ◌+◌, ℕ, zero, suc, false, List, ◌++◌, Option, Some, None, IsTrue, ◌⊎◌, inl, inr, arith}
use Rattle.std.specs.List.{sum_by}
use Rattle.std.specs.Option.{option_map_or}
use Rattle.std.proofs.lemmas.List.Sums.{sum_by-append}
use Rattle.pz_bind_rules.specs.pz_syntax.declared.names.Id.{Id}
use Rattle.pz_bind_rules.specs.pz_syntax.Statements.{Statement, skip, delay, bracketed, block, guarded, parallel, select, conditional, repeated, abort, interrupt, send, receive, call, assignment, value, Statements, no_statements, then, StatementPart, not_written, otherwise, Branches, no_branches, branch}
use Rattle.pz_bind_rules.specs.pz_syntax.Classes.{DeclTree, ProcessMethodTree, ModelTree}
use Rattle.pz_bind_rules.specs.pz_check_violations.Order.{violation}
use Rattle.pz_bind_rules.specs.pz_classes_rules.declared.method_id.Counts.TheVariants.{Process}
use Rattle.pz_bind_rules.specs.pz_classes_rules.declared.method_id.MethodId.{MethodId}
use Rattle.pz_bind_rules.specs.pz_classes_rules.Numbers.{declaration}
use Rattle.pz_bind_rules.specs.pz_classes_rules.Kinds.{is_process}
use Rattle.pz_bind_rules.specs.pz_classes_rules.Methods.{Signature}
use Rattle.pz_classes_beginnings.specs.Beginning.{begun, begun_all, begun_each, plain_calls, all_plain_calls, plain_calls_of_each, statements_in, statements_in_all, statements_in_part, statements_in_each}
use Rattle.pz_classes_openings.specs.Methods.{method_at, body_at}
use Rattle.pz_classes_openings.specs.Openings.{begun_at, calls_at, statements_at, HasMethod, called, of_called, opened_to, spread_to}
use Rattle.pz_classes_openings.specs.OpeningRules.{Opens, too_large}
use Rattle.pz_classes_openings.proofs.Resolved.{begun_all_same, all_calls_same}
use Rattle.pz_rules.specs.Terms.{Steps}
use Rattle.pz_rules.specs.Openable.{IsProcessClass}
use Rattle.pz_rules.specs.devices.Opened.{delays_in, delays_in_all, delays_in_part, delays_in_each, spread_of}
use Rattle.pz_rules.proofs.StatementCounts.{all_as_many}
use Rattle.pz_rules.proofs.BodyNumbers.{IsBodyOf}

module _ {X K Q : Type 0} where
  -- no more delays than statements

  mutual
    delays_less : (t : Statement X K Q) → delays_in t ≤ statements_in t
    delays_less (bracketed at ts) = omega (arith, all_delays_less ts)
    delays_less (guarded at e t) = omega (arith, delays_less t)
    delays_less (parallel at bs) = omega (arith, each_delays_less bs)
    delays_less (select at bs) = omega (arith, each_delays_less bs)
    delays_less (conditional at e ts other) = omega (arith, all_delays_less ts, part_delays_less other)
    delays_less (repeated at e ts) = omega (arith, all_delays_less ts)
    delays_less (abort at ts t) = omega (arith, all_delays_less ts, delays_less t)
    delays_less (interrupt at ts t) = omega (arith, all_delays_less ts, delays_less t)
    delays_less t = omega arith

    pub all_delays_less : (ts : Statements X K Q) → delays_in_all ts ≤ statements_in_all ts
    all_delays_less no_statements = omega arith
    all_delays_less ((then) t ts) = omega (arith, delays_less t, all_delays_less ts)

    part_delays_less : (other : StatementPart X K Q) → delays_in_part other ≤ statements_in_part other
    part_delays_less not_written = omega arith
    part_delays_less (otherwise ts) = all_delays_less ts

    each_delays_less : (bs : Branches X K Q) → delays_in_each bs ≤ statements_in_each bs
    each_delays_less no_branches = omega arith
    each_delays_less (branch ts bs) = omega (arith, all_delays_less ts, each_delays_less bs)

-- the plain calls with which statements begin are among all of theirs

module _ (f : Id → ℕ) where
  abbrev sum : List Id → ℕ
  sum = sum_by f

  both : (xs ys : List Id) → sum (xs ++ ys) ≡ sum xs + sum ys
  both = sum_by-append f

  module _ {X K Q : Type 0} where
    mutual
      begun_less : (t : Statement X K Q) → sum (begun t) ≤ sum (plain_calls t)
      begun_less (bracketed at ts) = all_begun_less ts
      begun_less (guarded at e t) = begun_less t
      begun_less (parallel at bs) = each_begun_less bs
      begun_less (select at bs) = each_begun_less bs
      begun_less (abort at ts t) = omega (arith, all_begun_less ts, begun_less t, both (begun_all ts) (begun t), both (all_plain_calls ts) (plain_calls t))
      begun_less (interrupt at ts t) = omega (arith, all_begun_less ts, begun_less t, both (begun_all ts) (begun t), both (all_plain_calls ts) (plain_calls t))
      begun_less (skip at) = omega arith
      begun_less (delay at e) = omega arith
      begun_less (block at es) = omega arith
      begun_less (conditional at e ts other) = omega arith
      begun_less (repeated at e ts) = omega arith
      begun_less (send at port name args after) = omega arith
      begun_less (receive at port name into condition after) = omega arith
      begun_less (call at method args results) = omega arith
      begun_less (assignment at x e) = omega arith
      begun_less (value at e) = omega arith

      pub all_begun_less : (ts : Statements X K Q) → sum (begun_all ts) ≤ sum (all_plain_calls ts)
      all_begun_less no_statements = omega arith
      all_begun_less ((then) t ts) = omega (arith, begun_less t, both (plain_calls t) (all_plain_calls ts))

      each_begun_less : (bs : Branches X K Q) → sum (begun_each bs) ≤ sum (plain_calls_of_each bs)
      each_begun_less no_branches = omega arith
      each_begun_less (branch ts bs) = omega (arith, all_begun_less ts, each_begun_less bs, both (begun_all ts) (begun_each bs), both (all_plain_calls ts) (plain_calls_of_each bs))

-- how many statements a call of this name opens, followed so many methods deep
abbrev pub call_opens : ModelTree → ℕ → ℕ → Id → ℕ
call_opens m c depth x = of_called (opened_to m c depth) (called m c x)

-- a body opens as many as the method at its number
module _ (m : ModelTree) (c : ℕ) (s : Signature) (body : Steps) (is : IsBodyOf m c s body) where
  statements_are : statements_in_all body ≡ statements_at m is.number
  statements_are = ap statements_in_all is.resolved ∙ all_as_many is.scope (body_at m is.number)

  pub spread_is : (depth : ℕ) → spread_of m c depth body ≡ spread_to m c depth is.number
  spread_is depth =
      let calls : all_plain_calls body ≡ calls_at m is.number = ap all_plain_calls is.resolved ∙ all_calls_same is.scope (body_at m is.number) in
      rw (statements_are, calls) refl

  pub opened_is : (depth : ℕ) → statements_in_all body + sum_by (call_opens m c depth) (begun_all body) ≡ opened_to m c (suc depth) is.number
  opened_is depth =
      let begins : begun_all body ≡ begun_at m is.number = ap begun_all is.resolved ∙ begun_all_same is.scope (body_at m is.number) in
      rw (statements_are, begins) refl

two_ways : (u v : ℕ) → (u < v) ⊎ (v ≤ u)
two_ways u v = grind arith

module _ (m : ModelTree) (c : ℕ) (process : IsProcessClass m c) (opens : Opens m) where
  pub spread_small : (depth k : ℕ) → HasMethod m c k → spread_to m c depth k ≤ 1000000
  spread_small depth k has = by_size (two_ways 1000000 (spread_to m c depth k))
    where
      by_method : (d : DeclTree) → declaration m c ≡ Some d → IsTrue (is_process d) → 1000000 < spread_to m c depth k → (o : Option ProcessMethodTree) → method_at m k ≡ o → ⊥
      by_method d declared p large None none =
          let nothing : spread_to m c depth k ≡ 0 = rw none refl in
          omega (arith, nothing, large)
      by_method d declared p large (Some r) is = opens.sizes (violation 24 r.name.pos) (too_large c k depth d r declared p has is large)

      by_decl : (o : Option DeclTree) → declaration m c ≡ o → IsTrue (option_map_or is_process o false) → 1000000 < spread_to m c depth k → ⊥
      by_decl None declared p large = cc
      by_decl (Some d) declared p large = by_method d declared p large (method_at m k) refl

      by_size : (1000000 < spread_to m c depth k) ⊎ (spread_to m c depth k ≤ 1000000) → spread_to m c depth k ≤ 1000000
      by_size (inl large) = absurd (by_decl (declaration m c) refl process large)
      by_size (inr small) = small

  opened_small : (depth k : ℕ) → HasMethod m c k → opened_to m c depth k ≤ 1000000
  opened_small zero k has = omega arith
  opened_small (suc depth) k has = omega (arith, spread_small depth k has, all_begun_less (call_opens m c depth) (body_at m k))

  pub call_small : (depth : ℕ) (x : Id) → call_opens m c depth x ≤ 1000000
  call_small depth x = by (called m c x) refl
    where
      by : (o : Option MethodId) → called m c x ≡ o → of_called (opened_to m c depth) o ≤ 1000000
      by None is = omega arith
      by (Some n) is = opened_small depth n.0 (record { name = x.name; counts = Process 0 0 }, is)

  pub body_small : (s : Signature) (body : Steps) → IsBodyOf m c s body → (depth : ℕ) → spread_of m c depth body ≤ 1000000
  body_small s body is depth = omega (arith, spread_is m c s body is depth, spread_small depth is.number (s, is.found))
