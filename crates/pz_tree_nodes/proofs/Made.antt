-- Parts that were made beside others, and a node that was put over them, whatever the nodes are.
use Rattle.std.proofs.Common.{◌≡◌, ℕ, false, eqb, Some, None, refl, sym, ◌∙◌, subst, arith, inl, inr}
use Rattle.pz_nodes_shapes.specs.Rose.{Rose, Roses, node, more, Map, roots, has, has_any, Apart, Stands, StandAll}
use Rattle.pz_nodes_shapes.specs.Change.{Change, no_key, OnlyAt, Becomes}
use Rattle.pz_nodes_shapes.proofs.Frames.{or_cases, or_neither, unless, decided, no_option, other_than, stands_kept, occupied, all_occupied, below_stand}

module _ {X : Type 0} where
  -- nothing has changed
  pub same : (m : Map X) → Change m m no_key no_key
  same m = record { kept = λ j u v. refl; freed = λ j u v. absurd (no_option j u); fresh = λ j v. inl v }

  -- what was made later is apart from what was made before
  pub apart : (m m1 n : Map X) (s : Rose X) (xs : Roses X) → Becomes m m1 no_key s → Change m1 n no_key (has_any xs) → Apart (has s) (has_any xs)
  apart m m1 n s xs b c j p q = elim (c.fresh j q) [ inl r ↦ no_option j r | inr r ↦ occupied m1 s b.stands j p r ]

  -- and that stays
  pub stays : (m m1 n : Map X) (s : Rose X) (xs : Roses X) → Becomes m m1 no_key s → Change m1 n no_key (has_any xs) → Stands n s
  stays m m1 n s xs b c = stands_kept m1 n s (λ j p. c.kept j refl (unless (has_any xs j) (λ q. apart m m1 n s xs b c j p q))) b.stands

  pub change_beside : (m m1 n : Map X) (s : Rose X) (xs : Roses X) → Becomes m m1 no_key s → Change m1 n no_key (has_any xs) → Change m n no_key (has_any (more s xs))
  change_beside m m1 n s xs b c = record {
    kept = λ j u v. let p = or_neither (has s j) (has_any xs j) v in c.kept j refl p.1 ∙ b.change.kept j refl p.0;
    freed = λ j u v. absurd (no_option j u);
    fresh = λ j v. elim (or_cases (has s j) (has_any xs j) v) [
      | inl p ↦ b.change.fresh j p
      | inr q ↦ elim (decided (has s j)) [
        | inl p ↦ b.change.fresh j p
        | inr p ↦ elim (c.fresh j q) [ inl r ↦ inl r | inr r ↦ inr (sym (b.change.kept j refl p) ∙ r) ]
      ]
    ];
  }

  -- a node is put over them, under a key that had none
  pub put_over : (m n p : Map X) (k : ℕ) (w : X) (xs : Roses X) → StandAll n xs → Change m n no_key (has_any xs) → n k ≡ None → p k ≡ Some (record { what = w; kids = roots xs }) → OnlyAt n p k → Becomes m p no_key (node k w xs)
  put_over m n p k w xs stand c vacant there only =
      let outside : has_any xs k ≡ false = unless (has_any xs k) (λ q. all_occupied n xs stand k q vacant) in
      record {
        stands = (there, outside, below_stand n p k xs outside only stand);
        change = record {
          kept = λ j u v. let q = or_neither (eqb j k) (has_any xs j) v in only j (other_than j k q.0) ∙ c.kept j refl q.1;
          freed = λ j u v. absurd (no_option j u);
          fresh = λ j v. elim (or_cases (eqb j k) (has_any xs j) v) [
            | inl q ↦ (let e : k ≡ j = grind arith in inr (subst (λ z. m z ≡ None) e (sym (c.kept k refl outside) ∙ vacant)))
            | inr q ↦ c.fresh j q
          ];
        };
      }
