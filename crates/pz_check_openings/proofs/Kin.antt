-- In one class, the graph of the methods that are kept and that of all methods.
use Rattle.std.proofs.Common.{◌≡◌, refl, sym, ap, subst, ◌∙◌, ℕ, zero, suc, ◌+◌, ◌<◌, ◌≤◌, Bool, true, List, [], ◌∷◌, length, Option, Some, None, slice_get, if◌then◌else◌, arith}
use Rattle.std.specs.List.{Contains, sum_by}
use Rattle.std.specs.Option.{option_map}
use Rattle.std.proofs.lemmas.List.Sums.{sum_by-cons, sum_by-le-sum_by}
use Rattle.std.proofs.lemmas.Option.{slice_get-map}
use Rattle.pz_classes.specs.pz_syntax.declared.names.Id.{Id}
use Rattle.pz_classes.specs.pz_syntax.Classes.{ProcessMethodTree, ModelTree}
use Rattle.pz_classes.specs.pz_check_violations.declared.violation.Violation.{Violation}
use Rattle.pz_classes.specs.pz_check_violations.Order.{violation}
use Rattle.pz_classes.specs.pz_classes_rules.declared.method_id.Counts.TheVariants.{Process}
use Rattle.pz_classes.specs.pz_classes_rules.Members.{grouped}
use Rattle.pz_classes.specs.pz_classes_rules.Methods.{Signature, method_id, process_signature}
use Rattle.pz_classes_openings.specs.Methods.{method_at}
use Rattle.pz_classes_openings.specs.Openings.{called}
use Rattle.pz_classes_openings.proofs.Found.{found_process}
use Rattle.pz_check_calls.specs.declared.graph.Call.{Call}
use Rattle.pz_check_calls.specs.declared.graph.Method.{Method}
use Rattle.pz_check_calls.specs.Calls.{begun_by, calls_by, statements_of, opened_in, spread_in, IsLarge}
use Rattle.pz_check_openings.specs.declared.outline.Outline.{Outline}
use Rattle.pz_check_openings.specs.devices.Outlines.{outline_of, outlines}
use Rattle.pz_check_openings.specs.devices.InClass.{calls_in, method_in, methods_in, LargeAt, large_at, LargeIn, large_in}
use Rattle.pz_check_openings.specs.devices.Settling.{is_plain}
use Rattle.pz_check_openings.specs.devices.Suspects.{kept}
use Rattle.pz_check_openings.proofs.Bounds.{plain_so}
use Rattle.pz_check_openings.proofs.Enough.{Enough}
use Rattle.pz_check_openings.proofs.InClasses.{Word, word_of}
use Rattle.pz_check_openings.proofs.Listed.{outline_there}
use Rattle.pz_check_openings.proofs.Parts.{is_of_all}

-- a sum that is no more at each element
pub sum_among : {X : Type 0} (f g : X → ℕ) (xs : List X) → ((x : X) → Contains xs x → f x ≤ g x) → sum_by f xs ≤ sum_by g xs
sum_among f g [] each = omega arith
sum_among f g (x ∷ xs) each =
    let s : sum_by f (x ∷ xs) ≡ f x + sum_by f xs = sum_by-cons f x xs in
    let t : sum_by g (x ∷ xs) ≡ g x + sum_by g xs = sum_by-cons g x xs in
    let one : f x ≤ g x = each x (0, omega arith, refl) in
    let rest : sum_by f xs ≤ sum_by g xs = sum_among f g xs (λ y (i, below, is). each y (suc i, omega arith, is)) in
    omega (arith, s, t, one, rest)

module _ (m : ModelTree) (those : List (Option Outline)) (e : Enough m those) where
  -- a plain method of a reached name
  pub record Reached (n : ℕ) : Type 0 where
    pub method : Outline
    pub there : slice_get (outlines m) n ≡ Some (Some method)
    pub plain : is_plain method ≡ true
    pub named : e.reached method.name.name ≡ true

  -- the method of a call of a reached name
  pub reached_by : (c n : ℕ) (x : Id) → called m c x ≡ Some (method_id n) → e.reached x.name ≡ true → Reached n
  reached_by c n x is named = by_method (found_process m (record { name = x.name; counts = Process 0 0 }) c n 0 0 refl is)
    where
      by_method : (r : ProcessMethodTree) × (method_at m n ≡ Some r) × (record { name = x.name; counts = Process 0 0 } ≡ process_signature r) → Reached n
      by_method (r, at, same) = record {
        method = outline_of r;
        there = outline_there m n r at;
        plain = plain_so (length (grouped r.inputs)) (length (grouped r.outputs)) (ap (λ (s : Signature). s.counts) same);
        named = ap (λ (s : Signature). e.reached s.name) (sym same) ∙ named;
      }

  stays : (k : ℕ) (o : Outline) → slice_get (outlines m) k ≡ Some (Some o) → e.keeps o ≡ true → slice_get those k ≡ Some (Some o)
  stays k o at is =
      ap (λ (l : List (Option Outline)). slice_get l k) e.are ∙ (slice_get-map (kept e.keeps) (outlines m) k
      ∙ (ap (option_map (kept e.keeps)) at ∙ ap (λ (b : Bool). Some (if b then Some o else None)) is))

  pub stays_heavy : (k : ℕ) (o : Outline) → slice_get (outlines m) k ≡ Some (Some o) → e.heavy o ≡ true → slice_get those k ≡ Some (Some o)
  stays_heavy k o at is = stays k o at (e.heavy_kept o is)

  pub stays_reached : (n : ℕ) (r : Reached n) → slice_get those n ≡ Some (Some r.method)
  stays_reached n r = stays n r.method r.there (e.plain_kept r.method r.plain r.named)

  module _ (c : ℕ) where
    abbrev part : List Method
    part = methods_in m c those

    abbrev all : List Method
    all = methods_in m c (outlines m)

    in_part : (k : ℕ) → slice_get part k ≡ option_map (method_in m c) (slice_get those k)
    in_part k = slice_get-map (method_in m c) those k

    in_all : (k : ℕ) → slice_get all k ≡ option_map (method_in m c) (slice_get (outlines m) k)
    in_all k = slice_get-map (method_in m c) (outlines m) k

    -- a method of the part is as in the whole, or there is nothing of it
    data Stands (k : ℕ) : Type 0 where
      absent : begun_by part k ≡ [] → calls_by part k ≡ [] → statements_of part k ≡ 0 → Stands k
      as_in_all : begun_by part k ≡ begun_by all k → calls_by part k ≡ calls_by all k → statements_of part k ≡ statements_of all k → Stands k

    stands : (k : ℕ) → Stands k
    stands k = by_item (slice_get those k) refl
      where
        by_item : (x : Option (Option Outline)) → slice_get those k ≡ x → Stands k
        by_item None at = absent (rw (in_part k, at) refl) (rw (in_part k, at) refl) (rw (in_part k, at) refl)
        by_item (Some None) at = absent (rw (in_part k, at) refl) (rw (in_part k, at) refl) (rw (in_part k, at) refl)
        by_item (Some (Some o)) at =
            let whole : slice_get (outlines m) k ≡ Some (Some o) = is_of_all e.keeps (outlines m) those e.are k o at in
            as_in_all (rw (in_part k, at, in_all k, whole) refl) (rw (in_part k, at, in_all k, whole) refl) (rw (in_part k, at, in_all k, whole) refl)

    opened_part : (depth k : ℕ) → opened_in part depth k ≤ opened_in all depth k
    opened_part zero k = omega arith
    opened_part (suc depth) k = by_case (stands k) (opened_part depth)
      where
        by_case : Stands k → ((n : ℕ) → opened_in part depth n ≤ opened_in all depth n) → opened_in part (suc depth) k ≤ opened_in all (suc depth) k
        by_case (absent begun calls statements) rest =
            let none : sum_by (λ (h : Call). opened_in part depth h.method) (begun_by part k) ≡ 0 = ap (sum_by (λ (h : Call). opened_in part depth h.method)) begun in
            omega (arith, none, statements)
        by_case (as_in_all begun calls statements) rest =
            let same : sum_by (λ (h : Call). opened_in part depth h.method) (begun_by part k) ≡ sum_by (λ (h : Call). opened_in part depth h.method) (begun_by all k) = ap (sum_by (λ (h : Call). opened_in part depth h.method)) begun in
            let less : sum_by (λ (h : Call). opened_in part depth h.method) (begun_by all k) ≤ sum_by (λ (h : Call). opened_in all depth h.method) (begun_by all k) =
            sum_by-le-sum_by (λ (h : Call). opened_in part depth h.method) (λ (h : Call). opened_in all depth h.method) (begun_by all k) (λ h. rest h.method) in
            omega (arith, same, less, statements)

    spread_part : (depth k : ℕ) → spread_in part depth k ≤ spread_in all depth k
    spread_part depth k = by_case (stands k)
      where
        by_case : Stands k → spread_in part depth k ≤ spread_in all depth k
        by_case (absent begun calls statements) =
            let none : sum_by (λ (h : Call). opened_in part depth h.method) (calls_by part k) ≡ 0 = ap (sum_by (λ (h : Call). opened_in part depth h.method)) calls in
            omega (arith, none, statements)
        by_case (as_in_all begun calls statements) =
            let same : sum_by (λ (h : Call). opened_in part depth h.method) (calls_by part k) ≡ sum_by (λ (h : Call). opened_in part depth h.method) (calls_by all k) = ap (sum_by (λ (h : Call). opened_in part depth h.method)) calls in
            let less : sum_by (λ (h : Call). opened_in part depth h.method) (calls_by all k) ≤ sum_by (λ (h : Call). opened_in all depth h.method) (calls_by all k) =
            sum_by-le-sum_by (λ (h : Call). opened_in part depth h.method) (λ (h : Call). opened_in all depth h.method) (calls_by all k) (λ h. opened_part depth h.method) in
            omega (arith, same, less, statements)

    -- what is too large in the part is so in the whole
    pub large_in_all : (v : Violation) → LargeIn m those c v → LargeIn m (outlines m) c v
    large_in_all _ (large_in d k _ declared process (large_at o here finds (depth, much))) =
        let less : spread_in part depth k ≤ spread_in all depth k = spread_part depth k in
        large_in d k (violation 24 o.name.pos) declared process (large_at o (is_of_all e.keeps (outlines m) those e.are k o here) finds (depth, omega (arith, less, much)))

    -- of what is reached no less opens in the part
    begun_whole : (k : ℕ) (o : Outline) → slice_get (outlines m) k ≡ Some (Some o) → begun_by all k ≡ calls_in m c o.begun
    begun_whole k o there = rw (in_all k, there) refl

    calls_whole : (k : ℕ) (o : Outline) → slice_get (outlines m) k ≡ Some (Some o) → calls_by all k ≡ calls_in m c o.calls
    calls_whole k o there = rw (in_all k, there) refl

    reached_word : (xs : List Id) (h : Call) → ((x : Id) → Contains xs x → e.reached x.name ≡ true) → Contains (calls_in m c xs) h → Reached h.method
    reached_word xs h named among = let w : Word m c xs h = word_of m c xs h among in reached_by c h.method w.word w.finds (named w.word w.among)

    opened_whole : (depth n : ℕ) → Reached n → opened_in all depth n ≤ opened_in part depth n
    opened_whole zero n r = omega arith
    opened_whole (suc depth) n r =
        let here : begun_by part n ≡ calls_in m c r.method.begun = rw (in_part n, stays_reached n r) refl in
        let own : statements_of part n ≡ statements_of all n = rw (in_part n, stays_reached n r, in_all n, r.there) refl in
        let whole : sum_by (λ (h : Call). opened_in all depth h.method) (begun_by all n) ≡ sum_by (λ (h : Call). opened_in all depth h.method) (calls_in m c r.method.begun) = ap (sum_by (λ (h : Call). opened_in all depth h.method)) (begun_whole n r.method r.there) in
        let some : sum_by (λ (h : Call). opened_in part depth h.method) (begun_by part n) ≡ sum_by (λ (h : Call). opened_in part depth h.method) (calls_in m c r.method.begun) = ap (sum_by (λ (h : Call). opened_in part depth h.method)) here in
        let less : sum_by (λ (h : Call). opened_in all depth h.method) (calls_in m c r.method.begun) ≤ sum_by (λ (h : Call). opened_in part depth h.method) (calls_in m c r.method.begun) =
        sum_among (λ (h : Call). opened_in all depth h.method) (λ (h : Call). opened_in part depth h.method) (calls_in m c r.method.begun) (λ h among.
        opened_whole depth h.method (reached_word r.method.begun h (λ x word. e.begun n r.method x r.there r.plain r.named word) among)) in
        omega (arith, own, whole, some, less)

    spread_whole : (depth k : ℕ) (o : Outline) → slice_get (outlines m) k ≡ Some (Some o) → e.heavy o ≡ true → spread_in all depth k ≤ spread_in part depth k
    spread_whole depth k o there heavy =
        let here : calls_by part k ≡ calls_in m c o.calls = rw (in_part k, stays_heavy k o there heavy) refl in
        let own : statements_of part k ≡ statements_of all k = rw (in_part k, stays_heavy k o there heavy, in_all k, there) refl in
        let whole : sum_by (λ (h : Call). opened_in all depth h.method) (calls_by all k) ≡ sum_by (λ (h : Call). opened_in all depth h.method) (calls_in m c o.calls) = ap (sum_by (λ (h : Call). opened_in all depth h.method)) (calls_whole k o there) in
        let some : sum_by (λ (h : Call). opened_in part depth h.method) (calls_by part k) ≡ sum_by (λ (h : Call). opened_in part depth h.method) (calls_in m c o.calls) = ap (sum_by (λ (h : Call). opened_in part depth h.method)) here in
        let less : sum_by (λ (h : Call). opened_in all depth h.method) (calls_in m c o.calls) ≤ sum_by (λ (h : Call). opened_in part depth h.method) (calls_in m c o.calls) =
        sum_among (λ (h : Call). opened_in all depth h.method) (λ (h : Call). opened_in part depth h.method) (calls_in m c o.calls) (λ h among.
        opened_whole depth h.method (reached_word o.calls h (λ x word. e.calls k o x there heavy word) among)) in
        omega (arith, own, whole, some, less)

    pub large_whole : (k : ℕ) (o : Outline) → slice_get (outlines m) k ≡ Some (Some o) → e.heavy o ≡ true → IsLarge all k → IsLarge part k
    large_whole k o there heavy (depth, much) = let less : spread_in all depth k ≤ spread_in part depth k = spread_whole depth k o there heavy in (depth, omega (arith, less, much))
