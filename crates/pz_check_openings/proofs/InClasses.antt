-- The methods as they call each other in one class, and what the rules say there.
use Rattle.std.proofs.Common.{◌≡◌, refl, sym, ap, subst, ◌∙◌, ℕ, zero, suc, ◌+◌, ◌<◌, ◌≤◌, ◌⊎◌, inl, inr, min, Bool, true, false, nat_eq, IsTrue, List, [], ◌∷◌, ◌++◌, map, length, Option, Some, None, slice_get, arith}
use Rattle.std.specs.List.{Contains, sum_by}
use Rattle.std.specs.Option.{option_map, option_map_or, unwrap_or}
use Rattle.std.proofs.lemmas.Bool.Decides.{nat_tests}
use Rattle.std.proofs.lemmas.Bool.{eqb-true}
use Rattle.std.proofs.lemmas.List.Sums.{sum_by-cons}
use Rattle.std.proofs.lemmas.Option.{slice_get-map}
use Rattle.pz_classes.specs.pz_syntax.declared.tokens.Pos.{Pos}
use Rattle.pz_classes.specs.pz_syntax.declared.names.Id.{Id}
use Rattle.pz_classes.specs.pz_syntax.Classes.{DeclTree, ProcessMethodTree, ModelTree}
use Rattle.pz_classes.specs.pz_check_violations.declared.violation.Violation.{Violation}
use Rattle.pz_classes.specs.pz_check_violations.Order.{violation}
use Rattle.pz_classes.specs.pz_classes_rules.declared.method_id.Counts.TheVariants.{Process}
use Rattle.pz_classes.specs.pz_classes_rules.declared.method_id.MethodId.{MethodId}
use Rattle.pz_classes.specs.pz_classes_rules.Members.{grouped}
use Rattle.pz_classes.specs.pz_classes_rules.Methods.{Signature, method_id, method_with, process_method, process_signature}
use Rattle.pz_classes_openings.specs.Methods.{method_at, body_at}
use Rattle.pz_classes_openings.specs.Openings.{begun_at, calls_at, statements_at, HasMethod, called, Leads, of_called, opened_to, spread_to}
use Rattle.pz_classes_openings.specs.Openings as opening
use Rattle.pz_classes_openings.specs.OpeningRules.{BreaksC23, BreaksC24}
use Rattle.pz_classes_openings.specs.OpeningRules as rule
use Rattle.pz_classes_openings.proofs.Found.{found_signature}
use Rattle.pz_check_components.specs.Graph.{targets, Reaches, itself, further}
use Rattle.pz_check_calls.specs.declared.graph.Call.{Call}
use Rattle.pz_check_calls.specs.declared.graph.Method.{Method}
use Rattle.pz_check_calls.specs.Calls.{begun_by, calls_by, statements_of, edges, opened_in, spread_in, IsRound, round, IsLarge}
use Rattle.pz_check_calls.proofs.LeadingBack.{edge_to, edge_by}
use Rattle.pz_check_openings.specs.declared.outline.Outline.{Outline}
use Rattle.pz_check_openings.specs.devices.Outlines.{outline_of, outlines}
use Rattle.pz_check_openings.specs.devices.InClass.{call_in, calls_in, method_in, methods_in, is_found, RoundIn, round_in, LargeAt, large_at, LargeIn, large_in, Among}
use Rattle.pz_check_openings.proofs.Listed.{outline_is, outline_there, no_outline}

in_left : {X : Type 0} (xs ys : List X) (x : X) → Contains xs x → Contains (xs ++ ys) x
in_left [] ys x (i, below, is) = absurd (omega arith)
in_left (y ∷ xs) ys x (zero, below, is) = (0, omega arith, is)
in_left (y ∷ xs) ys x (suc i, below, is) = let rest = in_left xs ys x (i, omega arith, is) in (suc rest.0, (let inside : rest.0 < length (xs ++ ys) = rest.1 in omega arith), rest.2)

in_right : {X : Type 0} (xs ys : List X) (x : X) → Contains ys x → Contains (xs ++ ys) x
in_right [] ys x among = among
in_right (y ∷ xs) ys x among = let rest = in_right xs ys x among in (suc rest.0, (let inside : rest.0 < length (xs ++ ys) = rest.1 in omega arith), rest.2)

in_either : {X : Type 0} (xs ys : List X) (x : X) → Contains (xs ++ ys) x → Contains xs x ⊎ Contains ys x
in_either [] ys x among = inr among
in_either (y ∷ xs) ys x (zero, below, is) = inl (0, omega arith, is)
in_either (y ∷ xs) ys x (suc i, below, is) = elim (in_either xs ys x (i, omega arith, is)) [ inl (j, low, here) ↦ inl (suc j, omega arith, here) | inr there ↦ inr there ]

module _ (m : ModelTree) (c : ℕ) where
  -- a call of the list, and the word that it stands for
  pub record Word (xs : List Id) (h : Call) : Type 0 where
    pub word : Id
    pub among : Contains xs word
    pub finds : called m c word ≡ Some (method_id h.method)
    pub place : word.pos ≡ h.pos

  one_word : (x : Id) (h : Call) → Contains (call_in m c x) h → (called m c x ≡ Some (method_id h.method)) × (x.pos ≡ h.pos)
  one_word x h among = by_method (called m c x) refl among
    where
      by_method : (o : Option MethodId) → called m c x ≡ o → Contains (option_map_or (λ n. record { method = n.0; pos = x.pos } ∷ []) o []) h → (called m c x ≡ Some (method_id h.method)) × (x.pos ≡ h.pos)
      by_method None is (i, below, at) = absurd (omega arith)
      by_method (Some n) is (zero, below, at) = (is ∙ ap (λ (y : Call). Some (method_id y.method)) at, ap (λ (y : Call). y.pos) at)
      by_method (Some n) is (suc i, below, at) = absurd (omega arith)

  pub word_of : (xs : List Id) (h : Call) → Contains (calls_in m c xs) h → Word xs h
  word_of [] h (i, below, is) = absurd (omega arith)
  word_of (x ∷ xs) h among = by_side (in_either (call_in m c x) (calls_in m c xs) h among) (word_of xs h)
    where
      by_side : Contains (call_in m c x) h ⊎ Contains (calls_in m c xs) h → (Contains (calls_in m c xs) h → Word xs h) → Word (x ∷ xs) h
      by_side (inl here) later = let w = one_word x h here in record { word = x; among = (0, omega arith, refl); finds = w.0; place = w.1 }
      by_side (inr there) later =
          let w : Word xs h = later there in
          let inside : w.among.0 < length xs = w.among.1 in
          record { word = w.word; among = (suc w.among.0, omega arith, w.among.2); finds = w.finds; place = w.place }

  pub call_of : (xs : List Id) (x : Id) (n : ℕ) → Contains xs x → called m c x ≡ Some (method_id n) → Contains (calls_in m c xs) (record { method = n; pos = x.pos })
  call_of [] x n (i, below, is) finds = absurd (omega arith)
  call_of (y ∷ xs) x n (zero, below, is) finds =
      let finds_y : called m c y ≡ Some (method_id n) = ap (called m c) is ∙ finds in
      let here : Contains (call_in m c y) (record { method = n; pos = x.pos }) = rw finds_y (0, omega arith, ap (λ (z : Id). record { method = n; pos = z.pos }) is) in
      in_left (call_in m c y) (calls_in m c xs) (record { method = n; pos = x.pos }) here
  call_of (y ∷ xs) x n (suc i, below, is) finds = in_right (call_in m c y) (calls_in m c xs) (record { method = n; pos = x.pos }) (call_of xs x n (i, omega arith, is) finds)

  -- sums over the calls and over their words
  sum_no_more : (f g : ℕ → ℕ) → ((n : ℕ) → f n ≤ g n) → (xs : List Id) → sum_by (λ h. f h.method) (calls_in m c xs) ≤ sum_by (λ x. of_called g (called m c x)) xs
  sum_no_more f g below [] = omega arith
  sum_no_more f g below (x ∷ xs) = by_method (called m c x) refl (sum_no_more f g below xs)
    where
      whole : sum_by (λ x. of_called g (called m c x)) (x ∷ xs) ≡ of_called g (called m c x) + sum_by (λ x. of_called g (called m c x)) xs
      whole = sum_by-cons (λ (y : Id). of_called g (called m c y)) x xs

      by_method : (o : Option MethodId) → called m c x ≡ o → sum_by (λ h. f h.method) (calls_in m c xs) ≤ sum_by (λ x. of_called g (called m c x)) xs
          → sum_by (λ h. f h.method) (option_map_or (λ n. record { method = n.0; pos = x.pos } ∷ []) o [] ++ calls_in m c xs) ≤ sum_by (λ x. of_called g (called m c x)) (x ∷ xs)
      by_method None is rest = omega (arith, whole, rest)
      by_method (Some n) is rest =
          let s : sum_by (λ (h : Call). f h.method) (record { method = n.0; pos = x.pos } ∷ calls_in m c xs) ≡ f n.0 + sum_by (λ (h : Call). f h.method) (calls_in m c xs) = sum_by-cons (λ (h : Call). f h.method) (record { method = n.0; pos = x.pos }) (calls_in m c xs) in
          let here : of_called g (called m c x) ≡ g n.0 = ap (of_called g) is in
          let less : f n.0 ≤ g n.0 = below n.0 in
          omega (arith, whole, rest, s, here, less)

  sum_no_less : (f g : ℕ → ℕ) → ((n : ℕ) → f n < 1000001 → g n ≤ f n) → (xs : List Id) → sum_by (λ h. f h.method) (calls_in m c xs) < 1000001
      → sum_by (λ x. of_called g (called m c x)) xs ≤ sum_by (λ h. f h.method) (calls_in m c xs)
  sum_no_less f g above [] low = omega arith
  sum_no_less f g above (x ∷ xs) low = by_method (called m c x) refl (sum_no_less f g above xs) low
    where
      whole : sum_by (λ x. of_called g (called m c x)) (x ∷ xs) ≡ of_called g (called m c x) + sum_by (λ x. of_called g (called m c x)) xs
      whole = sum_by-cons (λ (y : Id). of_called g (called m c y)) x xs

      by_method : (o : Option MethodId) → called m c x ≡ o → (sum_by (λ h. f h.method) (calls_in m c xs) < 1000001 → sum_by (λ x. of_called g (called m c x)) xs ≤ sum_by (λ h. f h.method) (calls_in m c xs))
          → sum_by (λ h. f h.method) (option_map_or (λ n. record { method = n.0; pos = x.pos } ∷ []) o [] ++ calls_in m c xs) < 1000001
          → sum_by (λ x. of_called g (called m c x)) (x ∷ xs) ≤ sum_by (λ h. f h.method) (option_map_or (λ n. record { method = n.0; pos = x.pos } ∷ []) o [] ++ calls_in m c xs)
      by_method None is rest small =
          let here : of_called g (called m c x) ≡ 0 = ap (of_called g) is in
          let r = rest small in
          omega (arith, whole, here, r)
      by_method (Some n) is rest small =
          let s : sum_by (λ (h : Call). f h.method) (record { method = n.0; pos = x.pos } ∷ calls_in m c xs) ≡ f n.0 + sum_by (λ (h : Call). f h.method) (calls_in m c xs) = sum_by-cons (λ (h : Call). f h.method) (record { method = n.0; pos = x.pos }) (calls_in m c xs) in
          let here : of_called g (called m c x) ≡ g n.0 = ap (of_called g) is in
          let r = rest (omega (arith, s)) in
          let less : g n.0 ≤ f n.0 = above n.0 (omega (arith, s)) in
          omega (arith, whole, s, here, r, less)

  abbrev graph : List Method
  graph = methods_in m c (outlines m)

  -- what the methods of the graph are
  data Stands (k : ℕ) : Type 0 where
    no_method : method_at m k ≡ None → begun_by graph k ≡ [] → calls_by graph k ≡ [] → statements_of graph k ≡ 0 → Stands k
    a_method : (r : ProcessMethodTree) → method_at m k ≡ Some r → begun_by graph k ≡ calls_in m c (begun_at m k) → calls_by graph k ≡ calls_in m c (calls_at m k)
        → statements_of graph k ≡ min (statements_at m k) 1000001 → Stands k

  stands : (k : ℕ) → Stands k
  stands k = by_method (method_at m k) refl
    where
      in_graph : slice_get graph k ≡ option_map (method_in m c) (slice_get (outlines m) k)
      in_graph = slice_get-map (method_in m c) (outlines m) k

      by_outline : method_at m k ≡ None → (o : Option (Option Outline)) → slice_get (outlines m) k ≡ o → Stands k
      by_outline none None at = let here : slice_get graph k ≡ None = in_graph ∙ ap (option_map (method_in m c)) at in no_method none (rw here refl) (rw here refl) (rw here refl)
      by_outline none (Some None) at = let here : slice_get graph k ≡ Some (method_in m c None) = in_graph ∙ ap (option_map (method_in m c)) at in no_method none (rw here refl) (rw here refl) (rw here refl)
      by_outline none (Some (Some o)) at = absurd (no_outline m k none o at)

      by_method : (o : Option ProcessMethodTree) → method_at m k ≡ o → Stands k
      by_method None at = by_outline at (slice_get (outlines m) k) refl
      by_method (Some r) at =
          let here : slice_get graph k ≡ Some (method_in m c (Some (outline_of r))) = in_graph ∙ ap (option_map (method_in m c)) (outline_there m k r at) in
          a_method r at (rw (here, at) refl) (rw (here, at) refl) (rw (here, at) refl)

  begun_are : (k : ℕ) → begun_by graph k ≡ calls_in m c (begun_at m k)
  begun_are k = by_case (stands k)
    where
      by_case : Stands k → begun_by graph k ≡ calls_in m c (begun_at m k)
      by_case (no_method none begun calls statements) = begun ∙ rw none refl
      by_case (a_method r at begun calls statements) = begun

  calls_are : (k : ℕ) → calls_by graph k ≡ calls_in m c (calls_at m k)
  calls_are k = by_case (stands k)
    where
      by_case : Stands k → calls_by graph k ≡ calls_in m c (calls_at m k)
      by_case (no_method none begun calls statements) = calls ∙ rw none refl
      by_case (a_method r at begun calls statements) = calls

  statements_are : (k : ℕ) → statements_of graph k ≡ min (statements_at m k) 1000001
  statements_are k = by_case (stands k)
    where
      by_case : Stands k → statements_of graph k ≡ min (statements_at m k) 1000001
      by_case (no_method none begun calls statements) = statements ∙ rw none refl
      by_case (a_method r at begun calls statements) = statements

  -- in the graph no more opens, and no less as far as the limit
  opened_no_more : (depth k : ℕ) → opened_in graph depth k ≤ opened_to m c depth k
  opened_no_more zero k = omega arith
  opened_no_more (suc depth) k =
      let s : sum_by (λ (h : Call). opened_in graph depth h.method) (calls_in m c (begun_at m k)) ≤ sum_by (λ (x : Id). of_called (opened_to m c depth) (called m c x)) (begun_at m k) =
      sum_no_more (opened_in graph depth) (opened_to m c depth) (opened_no_more depth) (begun_at m k) in
      let own : statements_of graph k ≡ min (statements_at m k) 1000001 = statements_are k in
      let same : sum_by (λ (h : Call). opened_in graph depth h.method) (begun_by graph k) ≡ sum_by (λ (h : Call). opened_in graph depth h.method) (calls_in m c (begun_at m k)) = ap (sum_by (λ (h : Call). opened_in graph depth h.method)) (begun_are k) in
      omega (arith, s, own, same)

  opened_no_less : (depth k : ℕ) → opened_in graph depth k < 1000001 → opened_to m c depth k ≤ opened_in graph depth k
  opened_no_less zero k low = omega arith
  opened_no_less (suc depth) k low =
      let own : statements_of graph k ≡ min (statements_at m k) 1000001 = statements_are k in
      let same : sum_by (λ (h : Call). opened_in graph depth h.method) (begun_by graph k) ≡ sum_by (λ (h : Call). opened_in graph depth h.method) (calls_in m c (begun_at m k)) = ap (sum_by (λ (h : Call). opened_in graph depth h.method)) (begun_are k) in
      let s : sum_by (λ (x : Id). of_called (opened_to m c depth) (called m c x)) (begun_at m k) ≤ sum_by (λ (h : Call). opened_in graph depth h.method) (calls_in m c (begun_at m k)) =
      sum_no_less (opened_in graph depth) (opened_to m c depth) (opened_no_less depth) (begun_at m k) (omega (arith, own, same)) in
      omega (arith, s, own, same)

  large_so : (depth k : ℕ) → 1000000 < spread_in graph depth k → 1000000 < spread_to m c depth k
  large_so depth k much =
      let own : statements_of graph k ≡ min (statements_at m k) 1000001 = statements_are k in
      let same : sum_by (λ (h : Call). opened_in graph depth h.method) (calls_by graph k) ≡ sum_by (λ (h : Call). opened_in graph depth h.method) (calls_in m c (calls_at m k)) = ap (sum_by (λ (h : Call). opened_in graph depth h.method)) (calls_are k) in
      let s : sum_by (λ (h : Call). opened_in graph depth h.method) (calls_in m c (calls_at m k)) ≤ sum_by (λ (x : Id). of_called (opened_to m c depth) (called m c x)) (calls_at m k) =
      sum_no_more (opened_in graph depth) (opened_to m c depth) (opened_no_more depth) (calls_at m k) in
      omega (arith, own, same, s)

  pub so_large : (depth k : ℕ) → 1000000 < spread_to m c depth k → 1000000 < spread_in graph depth k
  so_large depth k much = by_size (two_ways (spread_in graph depth k) 1000001)
    where
      two_ways : (u v : ℕ) → (u < v) ⊎ (v ≤ u)
      two_ways u v = grind arith

      by_size : (spread_in graph depth k < 1000001) ⊎ (1000001 ≤ spread_in graph depth k) → 1000000 < spread_in graph depth k
      by_size (inr high) = omega arith
      by_size (inl low) =
          let own : statements_of graph k ≡ min (statements_at m k) 1000001 = statements_are k in
          let same : sum_by (λ (h : Call). opened_in graph depth h.method) (calls_by graph k) ≡ sum_by (λ (h : Call). opened_in graph depth h.method) (calls_in m c (calls_at m k)) = ap (sum_by (λ (h : Call). opened_in graph depth h.method)) (calls_are k) in
          let s : sum_by (λ (x : Id). of_called (opened_to m c depth) (called m c x)) (calls_at m k) ≤ sum_by (λ (h : Call). opened_in graph depth h.method) (calls_in m c (calls_at m k)) =
          sum_no_less (opened_in graph depth) (opened_to m c depth) (opened_no_less depth) (calls_at m k) (omega (arith, own, same)) in
          omega (arith, own, same, s)

  -- what leads on is what is reached
  leads_of : (n k : ℕ) → Reaches (edges graph) n k → Leads m c n k
  leads_of n _ itself = opening.itself
  leads_of n _ (further u w before edge) =
      let h = edge_by graph u w edge in
      let x : Word (begun_at m u) h.0 = word_of (begun_at m u) h.0 (subst (λ (hs : List Call). Contains hs h.0) (begun_are u) h.1) in
      opening.further u w x.word (leads_of n u before) x.among (x.finds ∙ ap (λ (j : ℕ). Some (method_id j)) h.2)

  reaches_of : (n k : ℕ) → Leads m c n k → Reaches (edges graph) n k
  reaches_of n _ opening.itself = itself
  reaches_of n _ (opening.further u w x before among finds) =
      let call : Contains (begun_by graph u) (record { method = w; pos = x.pos }) = subst (λ (hs : List Call). Contains hs (record { method = w; pos = x.pos })) (sym (begun_are u)) (call_of (begun_at m u) x w among finds) in
      further u w (reaches_of n u before) (edge_to graph u (record { method = w; pos = x.pos }) call)

  -- what is called, and all that it leads to, are methods of the class
  has_of : (n k : ℕ) (x : Id) → called m c x ≡ Some (method_id n) → Leads m c n k → HasMethod m c k
  has_of n _ x finds opening.itself = (record { name = x.name; counts = Process 0 0 }, finds)
  has_of n _ x finds (opening.further u w y before among found) = (record { name = y.name; counts = Process 0 0 }, found)

-- the rule on rounds, class by class
pub round_breaks : (m : ModelTree) (c : ℕ) (v : Violation) → RoundIn m (outlines m) c v → BreaksC23 m v
round_breaks m c _ (round_in d _ declared process (round k h among reaches)) =
    let x : Word m c (begun_at m k) h = word_of m c (begun_at m k) h (subst (λ (hs : List Call). Contains hs h) (begun_are m c k) among) in
    let leads : Leads m c h.method k = leads_of m c h.method k reaches in
    subst (λ (p : Pos). BreaksC23 m (violation 23 p)) x.place (rule.round c k h.method d x.word declared process (has_of m c h.method k x.word x.finds leads) x.among x.finds leads)

-- the rule on sizes, class by class and method by method
pub large_breaks : (m : ModelTree) (c : ℕ) (v : Violation) → LargeIn m (outlines m) c v → BreaksC24 m v
large_breaks m c _ (large_in d k _ declared process (large_at o here finds (depth, much))) =
    let r = outline_is m k o here in
    let name : o.name.pos ≡ r.0.name.pos = ap (λ (x : Outline). x.name.pos) r.2 in
    subst (λ (p : Pos). BreaksC24 m (violation 24 p)) (sym name)
    (rule.too_large c k depth d r.0 declared process (record { name = o.name.name; counts = Process o.inputs o.outputs }, finds) r.1 (large_so m c depth k much))
