-- Actions that are the same but for the place in one process, and lists of them, which are in one order.
use Rattle.std.proofs.Common.{◌≡◌, ◌<◌, ◌⊎◌, inl, inr, ℕ, zero, suc, List, [], ◌∷◌, Some, All, AllPairs, Contains, slice_get, refl, sym, ap, subst, ◌∙◌, arith}
use Rattle.std.specs.List.{AllZip}
use Rattle.std.proofs.lemmas.List.Elements.{All-nil, All-cons, All-head, All-tail}
use Rattle.std.proofs.lemmas.Option.{slice_get_within, get_or_from_slice_get}
use Rattle.std.proofs.lemmas.List.Kept.{AllPairs-cons}
use Rattle.pz_env_tree.specs.pz_syntax.declared.tokens.Pos.{Pos}
use Rattle.pz_env_tree.specs.pz_copy.Parcels.{ParcelView}
use Rattle.pz_env_tree.specs.pz_offer.declared.end.End.{End}
use Rattle.pz_env_tree.specs.pz_offer.PlaceOrder.{Place, PlaceBefore, EndBefore}
use Rattle.pz_env_tree.specs.pz_rules.declared.action.Kind.{Kind}
use Rattle.pz_env_tree.specs.pz_rules.declared.action.Action.{Action}
use Rattle.pz_env_tree.specs.pz_rules.declared.action.Action.TheVariants.{Internal, Comm}
use Rattle.pz_env_tree.specs.pz_rules.Offers.{PairBefore, Before}
use Rattle.pz_env_tree.specs.pz_rules.Moments.{Source, part, pair, SourceBefore}

pub contains_cases : {X : Type 0} (y : X) (ys : List X) (x : X) → Contains (y ∷ ys) x → (x ≡ y) ⊎ Contains ys x
contains_cases y ys x (zero, within, is) = inl (sym is)
contains_cases y ys x (suc k, within, is) = inr (k, omega arith, is)

contains_none : {X : Type 0} (x : X) → Contains [] x → ⊥
contains_none x (k, within, is) = omega (arith, within)

contains_first : {X : Type 0} (x : X) (xs : List X) → Contains (x ∷ xs) x
contains_first x xs = (0, omega arith, refl)

contains_later : {X : Type 0} (y : X) (xs : List X) (x : X) → Contains xs x → Contains (y ∷ xs) x
contains_later y xs x (k, within, is) = (suc k, omega arith, is)

pairs_nil : {X : Type 0} (R : X → X → Type 0) → AllPairs R []
pairs_nil R i j d before within = absurd (omega (arith, within))

pairs_head : {X : Type 0} (R : X → X → Type 0) (x : X) (xs : List X) → AllPairs R (x ∷ xs) → All (R x) xs
pairs_head R x xs pairs k d within = pairs 0 (suc k) d (omega arith) (omega (arith, within))

pairs_tail : {X : Type 0} (R : X → X → Type 0) (x : X) (xs : List X) → AllPairs R (x ∷ xs) → AllPairs R xs
pairs_tail R x xs pairs i j d before within =
    pairs (suc i) (suc j) d (omega (arith, before)) (omega (arith, within))

-- a place does not stand before itself
not_before : (p : Place) → PlaceBefore p p → ⊥
not_before [] h = h
not_before (i ∷ p) (inl less) = omega (arith, less)
not_before (i ∷ p) (inr rest) = not_before p rest.1

-- what stands at a number of a list
pub all_at : {X : Type 0} (P : X → Type 0) (xs : List X) (k : ℕ) (x : X) → All P xs → slice_get xs k ≡ Some x → P x
all_at P xs k x all is =
    subst P (get_or_from_slice_get xs k x x is) (all k x (slice_get_within xs k x is))

module _ (env : ℕ) where
  abbrev pub in_env : Place → End
  in_env p = record { process = env; place = p }

  -- an end of a process before this one, or the one place in it
  pub data SameEnds (p q : Place) : End → End → Type 0 where
    of_system : (e : End) → e.process < env → SameEnds p q e e
    of_env : SameEnds p q (in_env p) (in_env q)

  pub data SameActions (p q : Place) : Action → Action → Type 0 where
    internal : (a b : End) (kind : Kind) (pos : Pos) → SameEnds p q a b → SameActions p q (Internal a kind pos) (Internal b kind pos)
    communication : (wire : ℕ) (s t r u : End) (message : List ℕ) (parcel : ParcelView) → SameEnds p q s t → SameEnds p q r u
        → SameActions p q (Comm wire s r message parcel) (Comm wire t u message parcel)

  pub data SameSources (p q : Place) : Source → Source → Type 0 where
    parts : (a b : End) → SameEnds p q a b → SameSources p q (part a) (part b)
    pairs : (wire : ℕ) (s t r u : End) → SameEnds p q s t → SameEnds p q r u → SameSources p q (pair wire s r) (pair wire t u)

  module _ (p q : Place) where
    pub end_back : (a b : End) → SameEnds p q a b → SameEnds q p b a
    end_back _ _ (of_system e low) = of_system e low
    end_back _ _ of_env = of_env

    pub action_back : (a b : Action) → SameActions p q a b → SameActions q p b a
    action_back _ _ (internal a b kind pos is) = internal b a kind pos (end_back a b is)
    action_back _ _ (communication wire s t r u message parcel is are) =
        communication wire t s u r message parcel (end_back s t is) (end_back r u are)

    pub source_back : (a b : Source) → SameSources p q a b → SameSources q p b a
    source_back _ _ (parts a b is) = parts b a (end_back a b is)
    source_back _ _ (pairs wire s t r u is are) = pairs wire t s u r (end_back s t is) (end_back r u are)

    -- One for each

    pub one_end : (a b c d : End) → SameEnds p q a b → SameEnds p q c d → a ≡ c → b ≡ d
    one_end _ _ _ _ (of_system e low) (of_system f less) is = is
    one_end _ _ _ _ (of_system e low) of_env is =
        let same : e.process ≡ env = ap (λ (x : End). x.process) is in
        absurd (omega (arith, low, same))
    one_end _ _ _ _ of_env (of_system e low) is =
        let same : env ≡ e.process = ap (λ (x : End). x.process) is in
        absurd (omega (arith, low, same))
    one_end _ _ _ _ of_env of_env is = refl

    ends_same : {w v : ℕ} {s t r u : End} {m n : List ℕ} {x y : ParcelView} → Comm w s r m x ≡ Comm v t u n y → (w ≡ v) × (s ≡ t) × (r ≡ u) × (m ≡ n) × (x ≡ y)
    ends_same e = (cc, cc, cc, cc, cc)

    internal_same : {a b : End} {k l : Kind} {x y : Pos} → Internal a k x ≡ Internal b l y → (a ≡ b) × (k ≡ l) × (x ≡ y)
    internal_same e = (cc, cc, cc)

    apart : {a s r : End} {k : Kind} {x : Pos} {w : ℕ} {m : List ℕ} {z : ParcelView} → Internal a k x ≡ Comm w s r m z → ⊥
    apart e = cc

    pub one_action : (a b c d : Action) → SameActions p q a b → SameActions p q c d → a ≡ c → b ≡ d
    one_action _ _ _ _ (internal a b kind pos is) (internal c d other at are) e =
        let same = internal_same e in
        ap (λ (x : End). Internal x kind pos) (one_end a b c d is are same.0)
        ∙ ap (λ (k : Kind). Internal d k pos) same.1
        ∙ ap (λ (x : Pos). Internal d other x) same.2
    one_action _ _ _ _ (internal a b kind pos is) (communication _ _ _ _ _ _ _ _ _) e = absurd (apart e)
    one_action _ _ _ _ (communication _ _ _ _ _ _ _ _ _) (internal a b kind pos is) e = absurd (apart (sym e))
    one_action _ _ _ _ (communication w s t r u m x is are) (communication v s' t' r' u' n y is' are') e =
        let same = ends_same e in
        ap (λ (k : ℕ). Comm k t u m x) same.0
        ∙ ap (λ (k : End). Comm v k u m x) (one_end s t s' t' is is' same.1)
        ∙ ap (λ (k : End). Comm v t' k m x) (one_end r u r' u' are are' same.2)
        ∙ ap (λ (k : List ℕ). Comm v t' u' k x) same.3
        ∙ ap (λ (k : ParcelView). Comm v t' u' n k) same.4

    -- Order

    pub end_before : (a b c d : End) → SameEnds p q a b → SameEnds p q c d → EndBefore a c → EndBefore b d
    end_before _ _ _ _ (of_system e low) (of_system f less) is = is
    end_before _ _ _ _ (of_system e low) of_env is = inl low
    end_before _ _ _ _ of_env (of_system e low) (inl is) = absurd (omega (arith, low, is))
    end_before _ _ _ _ of_env (of_system e low) (inr is) =
        let same : env ≡ e.process = is.0 in
        absurd (omega (arith, low, same))
    end_before _ _ _ _ of_env of_env (inl is) = absurd (omega (arith, is))
    end_before _ _ _ _ of_env of_env (inr is) = absurd (not_before p is.1)

    pair_before : (w v : ℕ) (s t r u s' t' r' u' : End) → SameEnds p q s t → SameEnds p q r u → SameEnds p q s' t' → SameEnds p q r' u'
        → PairBefore w s r v s' r' → PairBefore w t u v t' u'
    pair_before w v s t r u s' t' r' u' a b c d (inl less) = inl less
    pair_before w v s t r u s' t' r' u' a b c d (inr (same, inl is)) =
        inr (same, inl (end_before s t s' t' a c is))
    pair_before w v s t r u s' t' r' u' a b c d (inr (same, inr (one, is))) =
        inr (same, inr (one_end s t s' t' a c one, end_before r u r' u' b d is))

    pub action_before : (a b c d : Action) → SameActions p q a b → SameActions p q c d → Before a c → Before b d
    action_before _ _ _ _ (internal a b kind pos is) (internal c d other at are) h = end_before a b c d is are h
    action_before _ _ _ _ (internal a b kind pos is) (communication _ _ _ _ _ _ _ _ _) h = tt
    action_before _ _ _ _ (communication _ _ _ _ _ _ _ _ _) (internal a b kind pos is) h = h
    action_before _ _ _ _ (communication w s t r u m x is are) (communication v s' t' r' u' n y is' are') h =
        pair_before w v s t r u s' t' r' u' is are is' are' h

    pub source_before : (a b c d : Source) → SameSources p q a b → SameSources p q c d → SourceBefore a c → SourceBefore b d
    source_before _ _ _ _ (parts a b is) (parts c d are) h = end_before a b c d is are h
    source_before _ _ _ _ (parts a b is) (pairs _ _ _ _ _ _ _) h = tt
    source_before _ _ _ _ (pairs _ _ _ _ _ _ _) (parts a b is) h = h
    source_before _ _ _ _ (pairs w s t r u is are) (pairs v s' t' r' u' is' are') h =
        pair_before w v s t r u s' t' r' u' is are is' are' h

    -- Lists

    before_all : (a b : Action) (xs ys : List Action) → SameActions p q a b → AllZip (SameActions p q) xs ys → All (Before a) xs → All (Before b) ys
    before_all a b [] [] is same h = All-nil (Before b)
    before_all a b [] (d ∷ ds) is same h = absurd same
    before_all a b (c ∷ cs) [] is same h = absurd same
    before_all a b (c ∷ cs) (d ∷ ds) is same h =
        All-cons (Before b) d ds (action_before a b c d is same.0 (All-head (Before a) c cs h)) (before_all a b cs ds is same.1 (All-tail (Before a) c cs h))

    pub in_order : (xs ys : List Action) → AllZip (SameActions p q) xs ys → AllPairs Before xs → AllPairs Before ys
    in_order [] [] same h = pairs_nil Before
    in_order [] (d ∷ ds) same h = absurd same
    in_order (c ∷ cs) [] same h = absurd same
    in_order (c ∷ cs) (d ∷ ds) same h =
        AllPairs-cons Before d ds (before_all c d cs ds same.0 same.1 (pairs_head Before c cs h)) (in_order cs ds same.1 (pairs_tail Before c cs h))

    pub contains_same : (xs ys : List Action) (a b : Action) → AllZip (SameActions p q) xs ys → SameActions p q a b → Contains xs a → Contains ys b
    contains_same [] [] a b same is h = absurd (contains_none a h)
    contains_same [] (d ∷ ds) a b same is h = absurd same
    contains_same (c ∷ cs) [] a b same is h = absurd same
    contains_same (c ∷ cs) (d ∷ ds) a b same is h =
        by (contains_cases c cs a h) (λ k. contains_same cs ds a b same.1 is k)
      where
        by : (a ≡ c) ⊎ Contains cs a → (Contains cs a → Contains ds b) → Contains (d ∷ ds) b
        by (inl e) rest =
            subst (Contains (d ∷ ds)) (sym (one_action a b c d is same.0 e)) (contains_first d ds)
        by (inr k) rest = contains_later d ds b (rest k)

    -- the action of this number, and that in the other list
    pub record AtNumber (ys : List Action) (k : ℕ) (a : Action) : Type 0 where
      pub other : Action
      pub there : slice_get ys k ≡ Some other
      pub same : SameActions p q a other

    some_same : {X : Type 0} (x y : X) → Some x ≡ Some y → x ≡ y
    some_same x y e = cc

    pub at_number : (xs ys : List Action) (k : ℕ) (a : Action) → AllZip (SameActions p q) xs ys → slice_get xs k ≡ Some a → AtNumber ys k a
    at_number [] ys k a same is = absurd (none_there is)
      where
        none_there : slice_get {X = Action} [] k ≡ Some a → ⊥
        none_there e = cc
    at_number (c ∷ cs) [] k a same is = absurd same
    at_number (c ∷ cs) (d ∷ ds) zero a same is =
        record { other = d; there = refl; same = subst (λ (x : Action). SameActions p q x d) (some_same c a is) same.0 }
    at_number (c ∷ cs) (d ∷ ds) (suc k) a same is =
        let rest = at_number cs ds k a same.1 is in
        record { other = rest.other; there = rest.there; same = rest.same }

    -- each of a list has another that is xs it is wanted
    pub record Carried (P Q : Action → Type 0) (xs : List Action) : Type 0 where
      pub others : List Action
      pub same : AllZip (SameActions p q) xs others
      pub each : All Q others

    pub carried : (P Q : Action → Type 0) → ((a : Action) → P a → (b : Action) × SameActions p q a b × Q b) → (xs : List Action) → All P xs → Carried P Q xs
    carried P Q other [] each = record { others = []; same = tt; each = All-nil Q }
    carried P Q other (a ∷ xs) each =
        let one = other a (All-head P a xs each) in
        let rest = carried P Q other xs (All-tail P a xs each) in
        record { others = one.0 ∷ rest.others; same = (one.1, rest.same); each = All-cons Q one.0 rest.others one.2 rest.each }

    -- The one list of what is P, in order and whole; so is that of what is Q.
    pub record Whole (P : Action → Type 0) (xs : List Action) : Type 0 where
      pub ordered : AllPairs Before xs
      pub each : All P xs
      pub every : (a : Action) → P a → Contains xs a

    pub record WholeOther (Q : Action → Type 0) (xs : List Action) : Type 0 where
      pub others : List Action
      pub same : AllZip (SameActions p q) xs others
      pub whole : Whole Q others

  pub whole_other : (p q : Place) (P Q : Action → Type 0) → ((a : Action) → P a → (b : Action) × SameActions p q a b × Q b)
      → ((b : Action) → Q b → (a : Action) × SameActions q p b a × P a)
      → (xs : List Action) → Whole p q P xs → WholeOther p q Q xs
  whole_other p q P Q on back xs is =
      let c = carried p q P Q on xs is.each in
      record {
        others = c.others;
        same = c.same;
        whole = record {
          ordered = in_order p q xs c.others c.same is.ordered;
          each = c.each;
          every = λ b h. (let a = back b h in contains_same p q xs c.others a.0 b c.same (action_back q p b a.0 a.1) (is.every a.0 a.2));
        };
      }
