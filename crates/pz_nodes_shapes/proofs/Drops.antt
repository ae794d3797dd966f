-- Dropping, child by child.
use Rattle.std.proofs.Common.{◌≡◌, ℕ, zero, suc, ◌+◌, ◌<◌, ◌≤◌, Bool, ◌||◌, eqb, List, [], ◌∷◌, length, get_or, drop, Option, Some, None, refl, ap, sym, ◌∙◌, subst, arith, inl, inr}
use Rattle.std.proofs.lemmas.Grind.{common_steps}
use Rattle.std.proofs.lemmas.List.{drop_more as drop_more_of}
use Rattle.pz_nodes_shapes.specs.declared.node.Node.{Node}
use Rattle.pz_nodes_shapes.specs.Rose.{node, none, gone, more, Map, roots, has, has_any}
use Rattle.pz_nodes_shapes.specs.Change.{Change, no_key, OnlyAt}
use Rattle.pz_nodes_shapes.specs.Dropping.{DropRule, DropAllRule, DropsOn}
use Rattle.pz_nodes_shapes.proofs.Frames.{or_cases, or_neither, not_both, unless, decided, other_than, all_kept, below_stand}

next_kid : (kids : List (Option ℕ)) (i : ℕ) → i < length kids → drop i kids ≡ get_or kids i None ∷ drop (i + 1) kids
next_kid kids i h = drop_more_of kids i None h

nothing_left : (kids : List (Option ℕ)) (i : ℕ) → length kids ≤ i → drop i kids ≡ []
nothing_left [] i h = grind (arith, common_steps)
nothing_left (x ∷ xs) zero h = absurd (omega arith)
nothing_left (x ∷ xs) (suc i) h = nothing_left xs i (omega arith)

module _ {X : Type 0} where
  -- one part is gone, and then others beside it
  both_gone : (m m1 n : Map X) (f g : ℕ → Bool) → Change m m1 f no_key → Change m1 n g no_key → Change m n (λ j. f j || g j) no_key
  both_gone m m1 n f g a b = record {
    kept = λ j u v. let p = or_neither (f j) (g j) u in b.kept j p.1 refl ∙ a.kept j p.0 refl;
    freed = λ j u v. elim (decided (g j)) [
      | inl q ↦ b.freed j q refl
      | inr q ↦ b.kept j q refl ∙ elim (or_cases (f j) (g j) u) [ inl r ↦ a.freed j r refl | inr r ↦ not_both (g j) r q ]
    ];
    fresh = λ j u. absurd cc;
  }

  pub drop_none : (m : Map X) (old : ℕ) → DropAllRule m m [] old old
  drop_none m old none h r = (record { kept = λ j u v. refl; freed = λ j u v. absurd cc; fresh = λ j u. absurd cc }, omega arith)
  drop_none m old (gone ss) h r = absurd cc
  drop_none m old (more s ss) h r = absurd cc

  pub drop_gone : (m n : Map X) (ks : List (Option ℕ)) (old new : ℕ) → DropAllRule m n ks old new → DropAllRule m n (None ∷ ks) old new
  drop_gone m n ks old new d none h r = absurd cc
  drop_gone m n ks old new d (gone ss) h r = d ss h cc
  drop_gone m n ks old new d (more s ss) h r = absurd cc

  pub drop_more : (m m1 n : Map X) (key : ℕ) (ks : List (Option ℕ)) (old mid new : ℕ) → DropRule m m1 key old mid → DropAllRule m1 n ks mid new → DropAllRule m n (Some key ∷ ks) old new
  drop_more m m1 n key ks old mid new d e none h r = absurd cc
  drop_more m m1 n key ks old mid new d e (gone ss) h r = absurd cc
  drop_more m m1 n key ks old mid new d e (more s ss) h r =
      let a = d s h.1 cc in
      let b = e ss (all_kept m m1 ss (λ j p. a.0.kept j (unless (has s j) (λ q. h.0 j q p)) refl) h.2) cc in
      (both_gone m m1 n (has s) (has_any ss) a.0 b.0, omega (arith, a.1, b.1))

  -- the node itself is gone, and then its children
  pub drop_node : (m m1 n : Map X) (key : ℕ) (was : Node X) (old mid new : ℕ) → m key ≡ Some was → m1 key ≡ None → OnlyAt m m1 key → mid ≡ old + 1 → DropAllRule m1 n was.kids mid new → DropRule m n key old new
  drop_node m m1 n key was old mid new e z only t d (node k x ss) h r =
      let only' : OnlyAt m m1 k = subst (OnlyAt m m1) (sym r) only in
      let z' : m1 k ≡ None = ap m1 r ∙ z in
      let f : roots ss ≡ was.kids = the_kids (sym h.0 ∙ ap m r ∙ e) in
      let b = d ss (below_stand m m1 k ss h.1 only' h.2) f in (
        record {
          kept = λ j u v. let p = or_neither (eqb j k) (has_any ss j) u in b.0.kept j p.1 refl ∙ only' j (other_than j k p.0);
          freed = λ j u v. elim (decided (has_any ss j)) [
            | inl q ↦ b.0.freed j q refl
            | inr q ↦ b.0.kept j q refl ∙ elim (or_cases (eqb j k) (has_any ss j) u) [
              | inl p ↦ (let y : j ≡ k = grind arith in ap m1 y ∙ z')
              | inr p ↦ not_both (has_any ss j) p q
            ]
          ];
          fresh = λ j u. absurd cc;
        },
        omega (arith, b.1, t),
      )
    where
      the_kids : Some (record { what = x; kids = roots ss }) ≡ Some was → roots ss ≡ was.kids
      the_kids q = ap (λ o. kids_in o) q
        where
          kids_in : Option (Node X) → List (Option ℕ)
          kids_in None = []
          kids_in (Some y) = y.kids

  pub drop_absent : (m : Map X) (key old new : ℕ) → m key ≡ None → DropRule m m key old new
  drop_absent m key old new e (node k x ss) h r = absurd (let f = h.0 in let g = ap m r in cc)

  -- ---------------------------------------------------------- the loop

  pub drops_at_first : (m : Map X) (kids : List (Option ℕ)) (old : ℕ) → DropsOn m m kids 0 old old
  drops_at_first m kids old n new d = d

  pub drops_next : (m0 m : Map X) (kids : List (Option ℕ)) (i old now : ℕ) → i < length kids → get_or kids i None ≡ None → DropsOn m0 m kids i old now → DropsOn m0 m kids (i + 1) old now
  drops_next m0 m kids i old now h e on n new d = on n new (subst (λ z. DropAllRule m n z now new) (sym (next_kid kids i h)) (subst (λ z. DropAllRule m n (z ∷ drop (i + 1) kids) now new) (sym e) (drop_gone m n (drop (i + 1) kids) now new d)))

  pub drops_one : (m0 m m1 : Map X) (kids : List (Option ℕ)) (i key old now mid : ℕ) → i < length kids → get_or kids i None ≡ Some key → DropRule m m1 key now mid → DropsOn m0 m kids i old now → DropsOn m0 m1 kids (i + 1) old mid
  drops_one m0 m m1 kids i key old now mid h e r on n new d = on n new (subst (λ z. DropAllRule m n z now new) (sym (next_kid kids i h)) (subst (λ z. DropAllRule m n (z ∷ drop (i + 1) kids) now new) (sym e) (drop_more m m1 n key (drop (i + 1) kids) now mid new r d)))

  pub all_dropped : (m0 m : Map X) (kids : List (Option ℕ)) (i old now : ℕ) → length kids ≤ i → DropsOn m0 m kids i old now → DropAllRule m0 m kids old now
  all_dropped m0 m kids i old now h on = on m now (subst (λ z. DropAllRule m m z now now) (sym (nothing_left kids i h)) (drop_none m now))

pub none_or : {A : Type 0} (o : Option A) → ((x : A) → o ≡ Some x → ⊥) → o ≡ None
none_or None h = refl
none_or (Some x) h = absurd (h x refl)
