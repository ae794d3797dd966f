-- The other children are gone, whatever the nodes are.
use Rattle.std.proofs.Common.{◌≡◌, ℕ, zero, suc, Bool, true, false, ◌||◌, eqb, Option, Some, None, refl, sym, ◌∙◌, arith, inl, inr}
use Rattle.pz_nodes_shapes.specs.Rose.{Rose, Roses, none, gone, more, Map, pick, joined, with_kid, has, has_any, has_option, Apart, StandAll}
use Rattle.pz_nodes_shapes.specs.Change.{Change, no_key, OnlyAt, in_hand, Holds, BecomesOption}
use Rattle.pz_nodes_shapes.proofs.Frames.{or_left, or_right, or_cases, or_neither, not_both, unless, stands_kept, pick_stands, pick_option_within, with_kid_cases, with_kid_others, change_then, taken_away}

module _ {X : Type 0} where
  -- the child of this number uses no key of the others
  picked_apart : (m : Map X) (ps : Roses X) (i : ℕ) → StandAll m ps → Apart (has_option (pick ps i)) (has_any (with_kid ps i None))
  picked_apart m none i h j p q = absurd cc
  picked_apart m (gone ps) zero h j p q = absurd cc
  picked_apart m (more s ps) zero h j p q = h.0 j p q
  picked_apart m (gone ps) (suc i) h j p q = picked_apart m ps i h j p q
  picked_apart m (more s ps) (suc i) h j p q = elim (or_cases (has s j) (has_any (with_kid ps i None) j) q) [
    | inl r ↦ h.0 j r (pick_option_within ps i j p)
    | inr r ↦ picked_apart m ps i h.2 j p r
  ]

  only_one : (x : Option (Rose X)) (j : ℕ) → has_any (joined x none) j ≡ has_option x j
  only_one None j = refl
  only_one (Some s) j = last (has s j)
    where
      last : (b : Bool) → b || false ≡ b
      last true = refl
      last false = refl

  pub others_within : (ps : Roses X) (i j : ℕ) → has_any (with_kid ps i None) j ≡ true → has_any ps j ≡ true
  others_within ps i j q = elim (with_kid_cases ps i None j q) [ inl r ↦ absurd cc | inr r ↦ r ]

  one_stands : (m : Map X) (ps : Roses X) (i : ℕ) (x : Option (Rose X)) → pick ps i ≡ x → StandAll m ps → StandAll m (joined x none)
  one_stands m ps i None e h = tt
  one_stands m ps i (Some s) e h = ((λ j p q. absurd cc), pick_stands m ps i s e h, tt)

  one_kept : (m n : Map X) (x : Option (Rose X)) → ((j : ℕ) → has_option x j ≡ true → n j ≡ m j) → StandAll m (joined x none) → StandAll n (joined x none)
  one_kept m n None same h = tt
  one_kept m n (Some s) same h = (h.0, stands_kept m n s same h.1, tt)

  pub others_gone : (m0 m n : Map X) (was : ℕ → Bool) (k : ℕ) (ps : Roses X) (i : ℕ) → Holds m0 m was k ps → Change m n (has_any (with_kid ps i None)) no_key → Holds m0 n was k (joined (pick ps i) none)
  others_gone m0 m n was k ps i h c =
      let x = pick ps i in
      let others = has_any (with_kid ps i None) in
      let not_other : others k ≡ false = unless (others k) (λ q. not_both (has_any ps k) (others_within ps i k q) h.outside) in
      let outside : has_any (joined x none) k ≡ false = only_one x k ∙ unless (has_option x k) (λ q. not_both (has_any ps k) (pick_option_within ps i k q) h.outside) in
      record {
        there = λ e. h.there (sym (c.kept k not_other refl) ∙ e);
        outside = outside;
        stand = one_kept m n x (λ j p. c.kept j (unless (others j) (λ q. picked_apart m ps i h.stand j p q)) refl) (one_stands m ps i x refl h.stand);
        change = change_then m0 m n was (in_hand k ps) (in_hand k (joined x none)) h.change (record {
          kept = λ j u v. c.kept j (unless (others j) (λ q. not_both (has_any ps j) (others_within ps i j q) (or_neither (eqb j k) (has_any ps j) u).1)) refl;
          freed = λ j u v.
              let w = or_neither (eqb j k) (has_any (joined x none) j) v in
              elim (or_cases (eqb j k) (has_any ps j) u) [
                | inl q ↦ not_both (eqb j k) q w.0
                | inr q ↦ elim (with_kid_others ps i None j q) [
                  | inl r ↦ not_both (has_option x j) r (sym (only_one x j) ∙ w.1)
                  | inr r ↦ c.freed j r refl
                ]
              ];
          fresh = λ j v. elim (or_cases (eqb j k) (has_any (joined x none) j) v) [
            | inl q ↦ inl (or_left (eqb j k) (has_any ps j) q)
            | inr q ↦ inl (or_right (eqb j k) (has_any ps j) (pick_option_within ps i j (sym (only_one x j) ∙ q)))
          ];
        });
      }

  pub one_left : (m0 m n : Map X) (was : ℕ → Bool) (k : ℕ) (x : Option (Rose X)) → Holds m0 m was k (joined x none) → n k ≡ None → OnlyAt m n k → BecomesOption m0 n was x
  one_left m0 m n was k None h e only = taken_away m0 m n was k (gone none) None h e only (omega arith) refl
  one_left m0 m n was k (Some s) h e only = taken_away m0 m n was k (more s none) (Some s) h e only (omega arith) refl
