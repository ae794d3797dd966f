-- A walk from its first class to its last.
use Rattle.std.proofs.Common.{◌≡◌, refl, sym, subst, ap, ◌∙◌, ℕ, ◌<◌, ◌≤◌, ◌+◌, Bool, true, false, List, [], ◌∷◌, ◌++◌, length, map, reverse, Option, Some, None, slice_get, get_or, eqb, arith}
use Rattle.std.specs.List.{list_any}
use Rattle.std.specs.Option.{option_and_then}
use Rattle.std.proofs.lemmas.Bool.{eqb-true}
use Rattle.std.proofs.lemmas.Cmp.{nat_eq_equiv}
use Rattle.std.proofs.lemmas.List.{length-map, map-append}
use Rattle.std.proofs.lemmas.Map.Steps.{length-le_from_distinct_below}
use Rattle.std.proofs.lemmas.Map.Views.{Contains-from_any, list_any-from_Contains}
use Rattle.std.proofs.lemmas.Option.{slice_get-get_or, slice_get_within}
use Rattle.pz_classes_lineage.specs.declared.visit.Visit.{Visit}
use Rattle.pz_classes_lineage.specs.Parents.{parent_in, AreWithin}
use Rattle.pz_classes_lineage.specs.Reached.{GoesRound}
use Rattle.pz_classes_lineage.specs.Preorder.{outermost, Visits, visited, IsPreorder}
use Rattle.pz_classes_lineage.specs.devices.Rows.{one_if, times, as_root, as_child, among_roots, among_children, at_depth}
use Rattle.pz_classes_lineage.proofs.RowCounts.{one_if_same, times_append, times_push, times_from_any, any_from_times, distinct}
use Rattle.pz_classes_lineage.proofs.Filling.{visited_push}
use Rattle.pz_classes_lineage.proofs.Ascending.{everywhere}
use Rattle.pz_classes_lineage.proofs.Visiting.{line_after, length_outermost, length_line, line_push, reverse_push, Pending, visits_push, more_open, push_all}

-- how often a class belongs among those that are done or pending: once where it has no parent, and
-- otherwise as often as its parent is done
abbrev pub due : List ℕ → Option (Option ℕ) → ℕ
due done None = 0
due done (Some None) = 1
due done (Some (Some p)) = times p done

-- visits that are made, and a stack of those to come, of which the last is the next
pub record Walked (parents : List (Option ℕ)) (visits stack : List Visit) : Type 0 where
  pub nested : Visits (parent_in parents) [] visits
  pub pending : Pending (parent_in parents) (line_after [] visits) (reverse stack)
  pub counted : (c : ℕ) → times c (visited visits) + times c (visited stack) ≡ due (visited visits) (slice_get parents c)
  pub once : (c : ℕ) → times c (visited visits) + times c (visited stack) ≤ 1

visited_at_depth : (depth : ℕ) (classes : List ℕ) → visited (map (at_depth depth) classes) ≡ classes
visited_at_depth depth [] = refl
visited_at_depth depth (x ∷ xs) = ap (λ (l : List ℕ). x ∷ l) (visited_at_depth depth xs)

times_more : (c depth : ℕ) (stack : List Visit) (classes : List ℕ) → times c (visited (stack ++ map (at_depth depth) classes)) ≡ times c (visited stack) + times c classes
times_more c depth stack classes =
    ap (times c) (map-append (λ (v : Visit). v.class) stack (map (at_depth depth) classes) ∙ ap (λ (l : List ℕ). visited stack ++ l) (visited_at_depth depth classes))
    ∙ times_append c (visited stack) classes

due_first : (o : Option (Option ℕ)) → (among_roots o ≡ due [] o) × (among_roots o ≤ 1)
due_first None = (refl, omega arith)
due_first (Some None) = (refl, omega arith)
due_first (Some (Some p)) = (refl, omega arith)

due_more : (done : List ℕ) (v : ℕ) (o : Option (Option ℕ)) → due (done ++ v ∷ []) o ≡ due done o + among_children v o
due_more done v None = refl
due_more done v (Some None) = refl
due_more done v (Some (Some p)) = times_push p done v

due_most : (done : List ℕ) (o : Option (Option ℕ)) → ((c : ℕ) → times c done ≤ 1) → due done o ≤ 1
due_most done None once = omega arith
due_most done (Some None) once = omega arith
due_most done (Some (Some p)) once = once p

module _ (parents : List (Option ℕ)) where
  abbrev up : ℕ → Option ℕ
  up = parent_in parents

  root_has_none : (c : ℕ) → 0 < as_root parents c → up c ≡ None
  root_has_none c some = by_case (slice_get parents c) refl some
    where
      by_case : (o : Option (Option ℕ)) → slice_get parents c ≡ o → 0 < among_roots o → up c ≡ None
      by_case None is some = absurd (omega arith)
      by_case (Some None) is some = ap (option_and_then (λ p. p)) is
      by_case (Some (Some p)) is some = absurd (omega arith)

  child_has : (p c : ℕ) → 0 < as_child parents p c → up c ≡ Some p
  child_has p c some = by_case (slice_get parents c) refl some
    where
      by_case : (o : Option (Option ℕ)) → slice_get parents c ≡ o → 0 < among_children p o → up c ≡ Some p
      by_case None is some = absurd (omega arith)
      by_case (Some None) is some = absurd (omega arith)
      by_case (Some (Some q)) is some = by_test (eqb q p) refl
        where
          by_test : (b : Bool) → eqb q p ≡ b → up c ≡ Some p
          by_test true same = ap (option_and_then (λ r. r)) is ∙ ap Some (eqb-true q p same)
          by_test false other = let none : one_if q p ≡ 0 = rw other refl in absurd (omega arith)

  pub begun : (roots : List Visit) → ((c : ℕ) → times c (visited roots) ≡ as_root parents c) → roots ≡ map (at_depth 0) (visited roots) → Walked parents [] roots
  begun roots exact outer = record {
    nested = tt;
    pending = subst (λ (vs : List Visit). Pending up [] (reverse vs)) (sym outer) (push_all up [] 0 [] (visited roots) refl (λ c some. root_has_none c (omega (arith, exact c))) tt);
    counted = λ c. omega (arith, exact c, (due_first (slice_get parents c)).0);
    once = λ c. omega (arith, exact c, (due_first (slice_get parents c)).1);
  }

  module _ (visits : List Visit) (rest : List Visit) (v : Visit) (walked : Walked parents visits (rest ++ v ∷ [])) where
    next : Pending up (line_after [] visits) (v ∷ reverse rest)
    next = subst (Pending up (line_after [] visits)) (reverse_push rest v) walked.pending

    pub depth_of_next : v.depth ≤ length visits
    depth_of_next = omega (arith, next.0, length_line [] visits)

    pub next_within : v.class < length parents
    next_within = by_case (slice_get parents v.class) refl (walked.counted v.class)
      where
        by_case : (o : Option (Option ℕ)) → slice_get parents v.class ≡ o → times v.class (visited visits) + times v.class (visited (rest ++ v ∷ [])) ≡ due (visited visits) o → v.class < length parents
        by_case None is none =
            let here : times v.class (visited (rest ++ v ∷ [])) ≡ times v.class (visited rest) + one_if v.class v.class = visited_push rest v v.class in
            let one : one_if v.class v.class ≡ 1 = one_if_same v.class in absurd (omega arith)
        by_case (Some o) is some = slice_get_within parents v.class o is

    went_on : (classes : List ℕ) → ((c : ℕ) → times c classes ≡ as_child parents v.class c) → Walked parents (visits ++ v ∷ []) (rest ++ map (at_depth (v.depth + 1)) classes)
    went_on classes exact = record {
      nested = visits_push up [] visits v walked.nested next.0 next.1;
      pending = subst (λ (l : List ℕ). Pending up l (reverse (rest ++ map (at_depth (v.depth + 1)) classes))) (sym (line_push [] visits v))
          (push_all up (v.class ∷ outermost v.depth line) (v.depth + 1) rest classes deep (λ c some. child_has v.class c (omega (arith, exact c))) (more_open up v.class (outermost v.depth line) (reverse rest) next.2));
      counted = counted_now;
      once = λ c. omega (arith, counted_now c, due_most (visited (visits ++ v ∷ [])) (slice_get parents c) once_done);
    }
      where
        line : List ℕ
        line = line_after [] visits

        deep : v.depth + 1 ≡ length (v.class ∷ outermost v.depth line)
        deep = omega (arith, length_outermost v.depth line next.0)

        counted_now : (c : ℕ) → times c (visited (visits ++ v ∷ [])) + times c (visited (rest ++ map (at_depth (v.depth + 1)) classes)) ≡ due (visited (visits ++ v ∷ [])) (slice_get parents c)
        counted_now c =
            let done : times c (visited (visits ++ v ∷ [])) ≡ times c (visited visits) + one_if c v.class = visited_push visits v c in
            let was : times c (visited (rest ++ v ∷ [])) ≡ times c (visited rest) + one_if c v.class = visited_push rest v c in
            let more : times c (visited (rest ++ map (at_depth (v.depth + 1)) classes)) ≡ times c (visited rest) + times c classes = times_more c (v.depth + 1) rest classes in
            let old = walked.counted c in
            let child : times c classes ≡ among_children v.class (slice_get parents c) = exact c in
            let new : due (visited visits ++ v.class ∷ []) (slice_get parents c) ≡ due (visited visits) (slice_get parents c) + among_children v.class (slice_get parents c) = due_more (visited visits) v.class (slice_get parents c) in
            let all : due (visited (visits ++ v ∷ [])) (slice_get parents c) ≡ due (visited visits ++ v.class ∷ []) (slice_get parents c) = ap (λ (l : List ℕ). due l (slice_get parents c)) (map-append (λ (w : Visit). w.class) visits (v ∷ [])) in
            omega arith

        once_done : (c : ℕ) → times c (visited (visits ++ v ∷ [])) ≤ 1
        once_done c =
            let done : times c (visited (visits ++ v ∷ [])) ≡ times c (visited visits) + one_if c v.class = visited_push visits v c in
            let was : times c (visited (rest ++ v ∷ [])) ≡ times c (visited rest) + one_if c v.class = visited_push rest v c in
            let old = walked.once c in
            omega arith

    pub goes_on : (visits' stack' : List Visit) (classes : List ℕ) → visits' ≡ visits ++ v ∷ [] → stack' ≡ rest ++ map (at_depth (v.depth + 1)) classes → ((c : ℕ) → times c classes ≡ as_child parents v.class c) → Walked parents visits' stack'
    goes_on visits' stack' classes made pushed exact = subst (λ (vs : List Visit). Walked parents vs stack') (sym made) (subst (λ (vs : List Visit). Walked parents (visits ++ v ∷ []) vs) (sym pushed) (went_on classes exact))

  -- only classes are visited
  inside : (visits stack : List Visit) → Walked parents visits stack → (c : ℕ) → list_any (eqb c) (visited visits) ≡ true → c < length parents
  inside visits stack walked c there = by_case (slice_get parents c) refl (walked.counted c) (times_from_any c (visited visits) there)
    where
      by_case : (o : Option (Option ℕ)) → slice_get parents c ≡ o → times c (visited visits) + times c (visited stack) ≡ due (visited visits) o → 0 < times c (visited visits) → c < length parents
      by_case None is none some = absurd (omega arith)
      by_case (Some o) is counted some = slice_get_within parents c o is

  pub few : (visits stack : List Visit) → Walked parents visits stack → length visits ≤ length parents
  few visits stack walked =
      let most : length (visited visits) ≤ length parents = length-le_from_distinct_below (visited visits) (length parents) (distinct (visited visits) (λ c. omega (arith, walked.once c))) (inside visits stack walked) in
      omega (arith, length-map visits (λ (v : Visit). v.class))

  pub ended : (visits : List Visit) → AreWithin parents → ((c : ℕ) → GoesRound up c → ⊥) → Walked parents visits [] → IsPreorder up (length parents) visits
  ended visits within acyclic walked = record {
    nested = walked.nested;
    whole = λ c below. Contains-from_any (λ x y. eqb-true x y) c (visited visits) (any_from_times c (visited visits) (everywhere up (length parents) within acyclic (λ q. 0 < times q (visited visits)) at_root from_parent c below));
    within = λ c among. inside visits [] walked c (list_any-from_Contains nat_eq_equiv c (visited visits) among);
    once = distinct (visited visits) (λ c. omega (arith, walked.once c));
  }
    where
      at_root : (c : ℕ) → c < length parents → up c ≡ None → 0 < times c (visited visits)
      at_root c below none = by_case (slice_get parents c) refl (walked.counted c)
        where
          by_case : (o : Option (Option ℕ)) → slice_get parents c ≡ o → times c (visited visits) + 0 ≡ due (visited visits) o → 0 < times c (visited visits)
          by_case None is counted = let wrong : None ≡ Some (get_or parents c None) = sym is ∙ slice_get-get_or parents c None below in cc
          by_case (Some None) is counted = omega arith
          by_case (Some (Some p)) is counted = let wrong : Some p ≡ None = sym (ap (option_and_then (λ q. q)) is) ∙ none in cc

      from_parent : (c p : ℕ) → up c ≡ Some p → 0 < times p (visited visits) → 0 < times c (visited visits)
      from_parent c p above done = by_case (slice_get parents c) refl (walked.counted c)
        where
          by_case : (o : Option (Option ℕ)) → slice_get parents c ≡ o → times c (visited visits) + 0 ≡ due (visited visits) o → 0 < times c (visited visits)
          by_case None is counted = let wrong : None ≡ Some p = sym (ap (option_and_then (λ q. q)) is) ∙ above in cc
          by_case (Some None) is counted = let wrong : None ≡ Some p = sym (ap (option_and_then (λ q. q)) is) ∙ above in cc
          by_case (Some (Some q)) is counted =
              let same : Some q ≡ Some p = sym (ap (option_and_then (λ r. r)) is) ∙ above in
              let at : q ≡ p = cc in
              let here : times q (visited visits) ≡ times p (visited visits) = ap (λ (x : ℕ). times x (visited visits)) at in
              omega arith
