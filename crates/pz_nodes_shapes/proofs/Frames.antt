-- How changes of the nodes compose, whatever the nodes are.
use Rattle.std.proofs.Common.{◌≡◌, ℕ, zero, suc, ◌<◌, ◌≤◌, Bool, true, false, ◌||◌, eqb, Option, Some, None, refl, ap, sym, ◌∙◌, subst, arith, inl, inr, ◌⊎◌, eq-eqb}
use Rattle.std.specs.Prelude.{◌≢◌}
use Rattle.pz_nodes_shapes.specs.Rose.{Rose, Roses, node, none, gone, more, Map, roots, pick, joined, with_kid, width, present, alone, has, has_any, has_option, Stands, StandAll, Apart}
use Rattle.pz_nodes_shapes.specs.Change.{Change, no_key, OnlyAt, in_hand, Holds, Becomes, BecomesOption}

pub or_left : (a b : Bool) → a ≡ true → a || b ≡ true
or_left true b e = refl
or_left false b e = absurd cc

pub or_right : (a b : Bool) → b ≡ true → a || b ≡ true
or_right true b e = refl
or_right false b e = e

pub or_cases : (a b : Bool) → a || b ≡ true → (a ≡ true) ⊎ (b ≡ true)
or_cases true b e = inl refl
or_cases false b e = inr e

pub or_neither : (a b : Bool) → a || b ≡ false → (a ≡ false) × (b ≡ false)
or_neither true b e = absurd cc
or_neither false b e = (refl, e)

pub or_none : (a b : Bool) → a ≡ false → b ≡ false → a || b ≡ false
or_none true b e f = absurd cc
or_none false b e f = f

-- true or false
pub decided : (b : Bool) → (b ≡ true) ⊎ (b ≡ false)
decided true = inl refl
decided false = inr refl

pub not_both : {A : Type 0} (b : Bool) → b ≡ true → b ≡ false → A
not_both true p q = absurd cc
not_both false p q = absurd cc

pub unless : (b : Bool) → (b ≡ true → ⊥) → b ≡ false
unless true f = absurd (f refl)
unless false f = refl

pub no_option : (j : ℕ) → no_key j ≡ true → ⊥
no_option j p = absurd cc

pub other_than : (j k : ℕ) → eqb j k ≡ false → j ≢ k
other_than j k e f = not_both (eqb j k) (eq-eqb j k f) e

module _ {X : Type 0} where
  mutual
    -- what the keys of the parts hold decides
    pub stands_kept : (m n : Map X) (s : Rose X) → ((k : ℕ) → has s k ≡ true → n k ≡ m k) → Stands m s → Stands n s
    stands_kept m n (node k x ss) same h =
        (same k (or_left _ _ (eq-eqb k k refl)) ∙ h.0, h.1, all_kept m n ss (λ j p. same j (or_right (eqb j k) _ p)) h.2)

    pub all_kept : (m n : Map X) (ss : Roses X) → ((k : ℕ) → has_any ss k ≡ true → n k ≡ m k) → StandAll m ss → StandAll n ss
    all_kept m n none same h = tt
    all_kept m n (gone ss) same h = all_kept m n ss same h
    all_kept m n (more s ss) same h =
        (h.0, stands_kept m n s (λ j p. same j (or_left _ _ p)) h.1, all_kept m n ss (λ j p. same j (or_right (has s j) _ p)) h.2)

  mutual
    -- each key of a part has a node
    pub occupied : (m : Map X) (s : Rose X) → Stands m s → (k : ℕ) → has s k ≡ true → m k ≡ None → ⊥
    occupied m (node k x ss) h j p e = elim (or_cases (eqb j k) (has_any ss j) p) [ inl q ↦ grind arith | inr q ↦ all_occupied m ss h.2 j q e ]

    pub all_occupied : (m : Map X) (ss : Roses X) → StandAll m ss → (k : ℕ) → has_any ss k ≡ true → m k ≡ None → ⊥
    all_occupied m none h j p e = absurd cc
    all_occupied m (gone ss) h j p e = all_occupied m ss h j p e
    all_occupied m (more s ss) h j p e = elim (or_cases (has s j) (has_any ss j) p) [ inl r ↦ occupied m s h.1 j r e | inr r ↦ all_occupied m ss h.2 j r e ]

  pub root_is : (m : Map X) (k : ℕ) (x : X) (ss : Roses X) → Stands m (node k x ss) → m k ≡ Some (record { what = x; kids = roots ss })
  root_is m k x ss h = h.0

  -- the parts below a node stand when another node is under its key
  pub below_stand : (m n : Map X) (k : ℕ) (ss : Roses X) → has_any ss k ≡ false → OnlyAt m n k → StandAll m ss → StandAll n ss
  below_stand m n k ss out only h = all_kept m n ss (λ j p. only j (λ e. not_both (has_any ss k) (subst (λ z. has_any ss z ≡ true) e p) out)) h

  -- ---------------------------------------------------------- one node is written: it is another, and its children are the same

  pub rewritten : (m n : Map X) (k : ℕ) (x y : X) (ss : Roses X) → Stands m (node k x ss) → n k ≡ Some (record { what = y; kids = roots ss }) → OnlyAt m n k → Stands n (node k y ss)
  rewritten m n k x y ss h e only = (e, h.1, below_stand m n k ss h.1 only h.2)

  pub rewritten_change : (m n : Map X) (k : ℕ) (x y : X) (ss : Roses X) → OnlyAt m n k → Change m n (has (node k x ss)) (has (node k y ss))
  rewritten_change m n k x y ss only = record {
    kept = λ j p q. only j (λ e. not_both (eqb j k) (eq-eqb j k e) (or_neither (eqb j k) _ p).0);
    freed = λ j p q. not_both (has (node k x ss) j) p q;
    fresh = λ j p. inl p;
  }

  -- ---------------------------------------------------------- children

  pub pick_stands : (m : Map X) (ss : Roses X) (i : ℕ) (s : Rose X) → pick ss i ≡ Some s → StandAll m ss → Stands m s
  pick_stands m none i s e h = absurd cc
  pick_stands m (gone ss) zero s e h = absurd cc
  pick_stands m (more t ss) zero s e h = let f : t ≡ s = cc in subst (Stands m) f h.1
  pick_stands m (gone ss) (suc i) s e h = pick_stands m ss i s e h
  pick_stands m (more t ss) (suc i) s e h = pick_stands m ss i s e h.2

  pub pick_within : (ss : Roses X) (i : ℕ) (s : Rose X) → pick ss i ≡ Some s → (j : ℕ) → has s j ≡ true → has_any ss j ≡ true
  pick_within none i s e j p = absurd cc
  pick_within (gone ss) zero s e j p = absurd cc
  pick_within (more t ss) zero s e j p = let f : s ≡ t = cc in or_left (has t j) (has_any ss j) (subst (λ z. has z j ≡ true) f p)
  pick_within (gone ss) (suc i) s e j p = pick_within ss i s e j p
  pick_within (more t ss) (suc i) s e j p = or_right (has t j) _ (pick_within ss i s e j p)

  -- what a child becomes, the others beside it
  has_joined : (x : Option (Rose X)) (ss : Roses X) (j : ℕ) → has_any (joined x ss) j ≡ has_option x j || has_any ss j
  has_joined None ss j = refl
  has_joined (Some s) ss j = refl

  pub with_kid_cases : (ss : Roses X) (i : ℕ) (x : Option (Rose X)) (j : ℕ) → has_any (with_kid ss i x) j ≡ true → (has_option x j ≡ true) ⊎ (has_any ss j ≡ true)
  with_kid_cases none i x j p = absurd cc
  with_kid_cases (gone ss) zero x j p = or_cases (has_option x j) _ (sym (has_joined x ss j) ∙ p)
  with_kid_cases (more s ss) zero x j p = elim (or_cases (has_option x j) _ (sym (has_joined x ss j) ∙ p)) [ inl q ↦ inl q | inr q ↦ inr (or_right (has s j) _ q) ]
  with_kid_cases (gone ss) (suc i) x j p = with_kid_cases ss i x j p
  with_kid_cases (more s ss) (suc i) x j p = elim (or_cases (has s j) _ p) [
    | inl q ↦ inr (or_left _ _ q)
    | inr q ↦ elim (with_kid_cases ss i x j q) [ inl r ↦ inl r | inr r ↦ inr (or_right (has s j) _ r) ]
  ]

  -- ---------------------------------------------------------- one change after another

  pub change_then : (m n p : Map X) (f g h : ℕ → Bool) → Change m n f g → Change n p g h → Change m p f h
  change_then m n p f g h a b = record {
    kept = λ j u v. elim (decided (g j)) [
      | inl w ↦ elim (a.fresh j w) [ inl q ↦ not_both (f j) q u | inr q ↦ b.freed j w v ∙ sym q ]
      | inr w ↦ b.kept j w v ∙ a.kept j u w
    ];
    freed = λ j u v. elim (decided (g j)) [
      | inl w ↦ b.freed j w v
      | inr w ↦ b.kept j w v ∙ a.freed j u w
    ];
    fresh = λ j v. elim (decided (f j)) [
      | inl u ↦ inl u
      | inr u ↦ elim (decided (g j)) [
        | inl w ↦ a.fresh j w
        | inr w ↦ elim (b.fresh j v) [ inl q ↦ not_both (g j) q w | inr q ↦ inr (sym (a.kept j u w) ∙ q) ]
      ]
    ];
  }

  -- nothing was left, and then something was made
  pub then_becomes : (m n p : Map X) (f : ℕ → Bool) (x : Option (Rose X)) → Change m n f no_key → BecomesOption n p no_key x → BecomesOption m p f x
  then_becomes m n p f None a b = change_then m n p f no_key no_key a b
  then_becomes m n p f (Some s) a b = record { stands = b.stands; change = change_then m n p f no_key (has s) a b.change }

  -- ---------------------------------------------------------- a child becomes another

  becomes_change : (m n : Map X) (f : ℕ → Bool) (x : Option (Rose X)) → BecomesOption m n f x → Change m n f (has_option x)
  becomes_change m n f None b = b
  becomes_change m n f (Some s) b = b.change

  becomes_stands : (m n : Map X) (f : ℕ → Bool) (ss : Roses X) (x : Option (Rose X)) → BecomesOption m n f x → Apart (has_option x) (has_any ss) → StandAll n ss → StandAll n (joined x ss)
  becomes_stands m n f ss None b a h = h
  becomes_stands m n f ss (Some t) b a h = (a, b.stands, h)

  -- what stands beside is apart from what was made
  beside : (m n : Map X) (f g others : ℕ → Bool) → Change m n f g → Apart f others → ((j : ℕ) → others j ≡ true → m j ≡ None → ⊥) → Apart g others
  beside m n f g others c a o j p q = elim (c.fresh j p) [ inl r ↦ a j r q | inr r ↦ o j q r ]

  -- and stays
  beside_stays : (m n : Map X) (f g others : ℕ → Bool) → Change m n f g → Apart f others → ((j : ℕ) → others j ≡ true → m j ≡ None → ⊥) → (j : ℕ) → others j ≡ true → n j ≡ m j
  beside_stays m n f g others c a o j q =
      c.kept j (unless (f j) (λ p. a j p q)) (unless (g j) (λ p. beside m n f g others c a o j p q))

  pub pick_option_within : (ss : Roses X) (i : ℕ) (j : ℕ) → has_option (pick ss i) j ≡ true → has_any ss j ≡ true
  pick_option_within none i j p = absurd cc
  pick_option_within (gone ss) zero j p = absurd cc
  pick_option_within (more t ss) zero j p = or_left _ _ p
  pick_option_within (gone ss) (suc i) j p = pick_option_within ss i j p
  pick_option_within (more t ss) (suc i) j p = or_right (has t j) _ (pick_option_within ss i j p)

  pub kid_replaced : (m n : Map X) (ss : Roses X) (i : ℕ) (x : Option (Rose X)) → StandAll m ss → BecomesOption m n (has_option (pick ss i)) x → StandAll n (with_kid ss i x)
  kid_replaced m n none i x h b = tt
  kid_replaced m n (gone ss) zero x h b =
      let c = becomes_change m n _ x b in
      let o = all_occupied m ss h in
      let a : Apart no_key (has_any ss) = λ j p q. no_option j p in
      becomes_stands m n no_key ss x b (beside m n no_key (has_option x) (has_any ss) c a o) (all_kept m n ss (beside_stays m n no_key (has_option x) (has_any ss) c a o) h)
  kid_replaced m n (more s ss) zero x h b =
      let c = becomes_change m n _ x b in
      let o = all_occupied m ss h.2 in
      becomes_stands m n (has s) ss x b (beside m n (has s) (has_option x) (has_any ss) c h.0 o) (all_kept m n ss (beside_stays m n (has s) (has_option x) (has_any ss) c h.0 o) h.2)
  kid_replaced m n (gone ss) (suc i) x h b = kid_replaced m n ss i x h b
  kid_replaced m n (more s ss) (suc i) x h b =
      let c = becomes_change m n _ x b in
      let o = occupied m s h.1 in
      let a : Apart (has_option (pick ss i)) (has s) = λ j p q. h.0 j q (pick_option_within ss i j p) in (
        (λ j p q. elim (with_kid_cases ss i x j q) [ inl r ↦ beside m n _ (has_option x) (has s) c a o j r p | inr r ↦ h.0 j p r ]),
        stands_kept m n s (beside_stays m n _ (has_option x) (has s) c a o) h.1,
        kid_replaced m n ss i x h.2 b,
      )

  -- in range, what a child becomes is there
  pub with_kid_there : (ss : Roses X) (i : ℕ) (x : Option (Rose X)) (j : ℕ) → i < width ss → has_option x j ≡ true → has_any (with_kid ss i x) j ≡ true
  with_kid_there none i x j w p = absurd (omega arith)
  with_kid_there (gone ss) zero x j w p = has_joined x ss j ∙ or_left _ _ p
  with_kid_there (more s ss) zero x j w p = has_joined x ss j ∙ or_left _ _ p
  with_kid_there (gone ss) (suc i) x j w p = with_kid_there ss i x j (omega arith) p
  with_kid_there (more s ss) (suc i) x j w p = or_right (has s j) _ (with_kid_there ss i x j (omega arith) p)

  -- and the others stay
  pub with_kid_others : (ss : Roses X) (i : ℕ) (x : Option (Rose X)) (j : ℕ) → has_any ss j ≡ true → (has_option (pick ss i) j ≡ true) ⊎ (has_any (with_kid ss i x) j ≡ true)
  with_kid_others none i x j p = absurd cc
  with_kid_others (gone ss) zero x j p = inr (has_joined x ss j ∙ or_right (has_option x j) _ p)
  with_kid_others (more s ss) zero x j p = elim (or_cases (has s j) _ p) [ inl q ↦ inl q | inr q ↦ inr (has_joined x ss j ∙ or_right (has_option x j) _ q) ]
  with_kid_others (gone ss) (suc i) x j p = with_kid_others ss i x j p
  with_kid_others (more s ss) (suc i) x j p = elim (or_cases (has s j) _ p) [
    | inl q ↦ inr (or_left _ _ q)
    | inr q ↦ elim (with_kid_others ss i x j q) [ inl r ↦ inl r | inr r ↦ inr (or_right (has s j) _ r) ]
  ]

  pub kids_change : (m n : Map X) (ss : Roses X) (i : ℕ) (x : Option (Rose X)) → i < width ss → BecomesOption m n (has_option (pick ss i)) x → Change m n (has_any ss) (has_any (with_kid ss i x))
  kids_change m n ss i x w b =
      let c = becomes_change m n _ x b in
      record {
        kept = λ j u v. c.kept j (unless _ (λ p. not_both (has_any ss j) (pick_option_within ss i j p) u)) (unless _ (λ p. not_both (has_any (with_kid ss i x) j) (with_kid_there ss i x j w p) v));
        freed = λ j u v. elim (with_kid_others ss i x j u) [
          | inl p ↦ c.freed j p (unless _ (λ q. not_both (has_any (with_kid ss i x) j) (with_kid_there ss i x j w q) v))
          | inr q ↦ not_both (has_any (with_kid ss i x) j) q v
        ];
        fresh = λ j u. elim (with_kid_cases ss i x j u) [
          | inl p ↦ elim (c.fresh j p) [ inl q ↦ inl (pick_option_within ss i j q) | inr q ↦ inr q ]
          | inr q ↦ inl q
        ];
      }

  -- the key above is not among what a child becomes
  pub still_outside : (m n : Map X) (k : ℕ) (ss : Roses X) (i : ℕ) (x : Option (Rose X)) → (m k ≡ None → ⊥) → has_any ss k ≡ false → BecomesOption m n (has_option (pick ss i)) x → has_any (with_kid ss i x) k ≡ false
  still_outside m n k ss i x t o b = unless _ (λ p. elim (with_kid_cases ss i x k p) [
    | inl q ↦ elim ((becomes_change m n _ x b).fresh k q) [ inl r ↦ not_both (has_any ss k) (pick_option_within ss i k r) o | inr r ↦ t r ]
    | inr q ↦ not_both (has_any ss k) q o
  ])

  -- ---------------------------------------------------------- a node in hand

  -- a node whose child has become another is taken in hand: nothing of it has been touched yet
  pub taken_in_hand : (m : Map X) (k : ℕ) (y : X) (ss : Roses X) → Stands m (node k y ss) → Holds m m (has (node k y ss)) k ss
  taken_in_hand m k y ss h = record {
    there = λ e. absurd (let f = h.0 in cc);
    outside = h.1;
    stand = h.2;
    change = record { kept = λ j u v. refl; freed = λ j u v. not_both (has (node k y ss) j) u v; fresh = λ j v. inl v };
  }

  -- one of its children becomes another
  pub worked : (m0 m n : Map X) (old : ℕ → Bool) (k : ℕ) (ss : Roses X) (i : ℕ) (x : Option (Rose X)) → i < width ss → Holds m0 m old k ss → BecomesOption m n (has_option (pick ss i)) x → Holds m0 n old k (with_kid ss i x)
  worked m0 m n old k ss i x w h b =
      let c = kids_change m n ss i x w b in
      let o : has_any (with_kid ss i x) k ≡ false = still_outside m n k ss i x h.there h.outside b in
      record {
        there = λ e. h.there (sym (c.kept k h.outside o) ∙ e);
        outside = o;
        stand = kid_replaced m n ss i x h.stand b;
        change = change_then m0 m n old (in_hand k ss) (in_hand k (with_kid ss i x)) h.change (record {
          kept = λ j u v. c.kept j (or_neither (eqb j k) _ u).1 (or_neither (eqb j k) _ v).1;
          freed = λ j u v. elim (or_cases (eqb j k) _ u) [
            | inl q ↦ not_both (eqb j k) q (or_neither (eqb j k) _ v).0
            | inr q ↦ c.freed j q (or_neither (eqb j k) _ v).1
          ];
          fresh = λ j v. elim (or_cases (eqb j k) _ v) [
            | inl q ↦ inl (or_left _ _ q)
            | inr q ↦ elim (c.fresh j q) [ inl r ↦ inl (or_right (eqb j k) _ r) | inr r ↦ inr r ]
          ];
        });
      }

  -- its own key is written, whatever is written there
  pub touched : (m0 m n : Map X) (old : ℕ → Bool) (k : ℕ) (ss : Roses X) → Holds m0 m old k ss → OnlyAt m n k → (n k ≡ None → ⊥) → Holds m0 n old k ss
  touched m0 m n old k ss h only there = record {
    there = there;
    outside = h.outside;
    stand = below_stand m n k ss h.outside only h.stand;
    change = record {
      kept = λ j u v. only j (other_than j k (or_neither (eqb j k) _ v).0) ∙ h.change.kept j u v;
      freed = λ j u v. only j (other_than j k (or_neither (eqb j k) _ v).0) ∙ h.change.freed j u v;
      fresh = h.change.fresh;
    };
  }

  -- the node is put back over what is below
  pub put_back : (m0 m n : Map X) (old : ℕ → Bool) (k : ℕ) (y : X) (ss : Roses X) → Holds m0 m old k ss → n k ≡ Some (record { what = y; kids = roots ss }) → OnlyAt m n k → Becomes m0 n old (node k y ss)
  put_back m0 m n old k y ss h e only =
      let t = touched m0 m n old k ss h only (λ z. absurd cc) in
      record { stands = (e, t.outside, t.stand); change = t.change }

  alone_keys : (ss : Roses X) → present ss ≤ 1 → (j : ℕ) → has_any ss j ≡ has_option (alone ss) j
  alone_keys none p j = refl
  alone_keys (gone ss) p j = alone_keys ss p j
  alone_keys (more s ss) p j = rw (nobody ss (omega arith) j) (last (has s j))
    where
      last : (b : Bool) → b || false ≡ b
      last true = refl
      last false = refl

      nobody : (ss : Roses X) → present ss ≡ 0 → (j : ℕ) → has_any ss j ≡ false
      nobody none e j = refl
      nobody (gone ss) e j = nobody ss e j
      nobody (more s ss) e j = absurd (omega arith)

  alone_stands : (m : Map X) (ss : Roses X) (s : Rose X) → alone ss ≡ Some s → StandAll m ss → Stands m s
  alone_stands m none s e h = absurd cc
  alone_stands m (gone ss) s e h = alone_stands m ss s e h
  alone_stands m (more t ss) s e h = let f : t ≡ s = cc in subst (Stands m) f h.1

  told : (m n : Map X) (f g h : ℕ → Bool) → ((j : ℕ) → g j ≡ h j) → Change m n f g → Change m n f h
  told m n f g h e c = record { kept = λ j u v. c.kept j u (e j ∙ v); freed = λ j u v. c.freed j u (e j ∙ v); fresh = λ j v. c.fresh j (e j ∙ v) }

  without_key : (m n : Map X) (old : ℕ → Bool) (k : ℕ) (ss : Roses X) → Holds m n old k ss → (p : Map X) → p k ≡ None → OnlyAt n p k → Change m p old (has_any ss)
  without_key m n old k ss h p e only = record {
    kept = λ j u v. elim (decided (eqb j k)) [
      | inl q ↦ (let f : j ≡ k = grind arith in elim (decided (old k)) [
        | inl r ↦ not_both (old j) (subst (λ z. old z ≡ true) (sym f) r) u
        | inr r ↦ elim (h.change.fresh k (or_left _ _ (eq-eqb k k refl))) [ inl r' ↦ not_both (old k) r' r | inr r' ↦ ap p f ∙ e ∙ sym (ap m f ∙ r') ]
      ])
      | inr q ↦ only j (other_than j k q) ∙ h.change.kept j u (or_none _ _ q v)
    ];
    freed = λ j u v. elim (decided (eqb j k)) [
      | inl q ↦ (let f : j ≡ k = grind arith in ap p f ∙ e)
      | inr q ↦ only j (other_than j k q) ∙ h.change.freed j u (or_none _ _ q v)
    ];
    fresh = λ j v. h.change.fresh j (or_right (eqb j k) _ v);
  }

  -- the node is gone, and what is left below stands in its place
  pub taken_away : (m0 m n : Map X) (old : ℕ → Bool) (k : ℕ) (ss : Roses X) (x : Option (Rose X)) → Holds m0 m old k ss → n k ≡ None → OnlyAt m n k → present ss ≤ 1 → alone ss ≡ x → BecomesOption m0 n old x
  taken_away m0 m n old k ss None h e only one a = told m0 n old (has_any ss) no_key (λ j. alone_keys ss one j ∙ ap (λ (z : Option (Rose X)). has_option z j) a) (without_key m0 m old k ss h n e only)
  taken_away m0 m n old k ss (Some s) h e only one a = record {
    stands = alone_stands n ss s a (below_stand m n k ss h.outside only h.stand);
    change = told m0 n old (has_any ss) (has s) (λ j. alone_keys ss one j ∙ ap (λ (z : Option (Rose X)). has_option z j) a) (without_key m0 m old k ss h n e only);
  }
