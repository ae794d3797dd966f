-- The walk of a term lists exactly its active parts, by place.
use Rattle.std.proofs.Common.{◌≡◌, ◌<◌, ◌≤◌, ◌+◌, inl, inr, ℕ, zero, suc, Bool, true, false, List, [], ◌∷◌, ◌++◌, map, get_or, Result, Ok, Err, refl, sym, subst, arith}
use Rattle.std.specs.List.{All, AllPairs, Contains}
use Rattle.std.proofs.lemmas.List.Elements.{All-nil, All-cons, All-map, All-append, Contains-append_left, Contains-append_right}
use Rattle.std.proofs.lemmas.List.Kept.{AllPairs-cons}
use Rattle.pz_bind_rules.specs.pz_syntax.declared.tokens.Pos.{Pos}
use Rattle.pz_offer.specs.PlaceOrder.{Place, PlaceBefore}
use Rattle.pz_offer.specs.declared.trouble.Trouble.{Trouble}
use Rattle.pz_rules.specs.Terms.{Code, Term, done, leaf, wait, sequence, parallel, select, guarded, frame, abort, idle, handling, Terms, no_terms, and, term_at, child, count, frame_in}
use Rattle.pz_rules.specs.Settings.{Context}
use Rattle.pz_rules.specs.Evaluations.{Tests}
use Rattle.pz_rules.specs.Active as active
use Rattle.pz_rules.specs.Active.{Reached, Active}
use Rattle.pz_rules.specs.devices.Found.{tested}
use Rattle.pz_rules.specs.devices.Walk.{ActivePart, here, under, behind, active_parts, active_children}
use Rattle.pz_rules.proofs.Found.{tests_found, tests_only}
use Rattle.pz_rules.proofs.Lists.{Contains-map, Contains-later, AllPairs-nil, AllPairs-map, AllPairs-append}

abbrev pub part_at : Place → ℕ → Term → ActivePart
part_at place f t = record { place = place; frame = f; part = t }

-- an active part of a term
abbrev pub IsPart : Context → ℕ → Term → ActivePart → Type 0
IsPart a f t p = Active a f t p.place p.frame p.part

abbrev pub PartBefore : ActivePart → ActivePart → Type 0
PartBefore p q = PlaceBefore p.place q.place

module _ (a : Context) where
  -- What is active is listed

  first_part : (f : ℕ) (t : Term) → Contains (active_parts a f t) (here f t)
  first_part f done = (0, omega arith, refl)
  first_part f (leaf s) = (0, omega arith, refl)
  first_part f (wait left at) = (0, omega arith, refl)
  first_part f (sequence t rest) = (0, omega arith, refl)
  first_part f (parallel ts) = (0, omega arith, refl)
  first_part f (select ts) = (0, omega arith, refl)
  first_part f (guarded test at t) = (0, omega arith, refl)
  first_part f (frame number inputs results t) = (0, omega arith, refl)
  first_part f (abort t u) = (0, omega arith, refl)
  first_part f (idle t u again) = (0, omega arith, refl)
  first_part f (handling t u again) = (0, omega arith, refl)

  -- in the child of number k + i
  among : (f k : ℕ) (ts : Terms) (i : ℕ) (p : ActivePart) → i < count ts → Contains (active_parts a f (term_at ts i)) p → Contains (active_children a f k ts) (under (k + i) p)
  among f k no_terms i p within h = absurd (omega (arith, within))
  among f k (and t ts) zero p within h =
      let n : k + 0 ≡ k = omega arith in
      rw n (Contains-append_left (map (under k) (active_parts a f t)) (active_children a f (suc k) ts) (under k p) (Contains-map (under k) (active_parts a f t) p h))
  among f k (and t ts) (suc i) p within h =
      let n : k + suc i ≡ suc k + i = omega arith in
      rw n (Contains-append_right (map (under k) (active_parts a f t)) (active_children a f (suc k) ts) (under (suc k + i) p) (among f (suc k) ts i p (omega (arith, within)) h))

  among_all : (f : ℕ) (ts : Terms) (i : ℕ) (p : ActivePart) → i < count ts → Contains (active_parts a f (term_at ts i)) p → Contains (active_children a f 0 ts) (under i p)
  among_all f ts i p within h = let n : 0 + i ≡ i = omega arith in subst (λ (m : ℕ). Contains (active_children a f 0 ts) (under m p)) n (among f 0 ts i p within h)

  opened_by : (r : Result Bool Trouble) (ps : List ActivePart) (p : ActivePart) → r ≡ Ok true → Contains ps p → Contains (behind r ps) p
  opened_by r ps p is h = rw is h

  first_of : (ps qs : List ActivePart) (p : ActivePart) → Contains ps p → Contains (map (under 0) ps ++ map (under 1) qs) (under 0 p)
  first_of ps qs p h = Contains-append_left (map (under 0) ps) (map (under 1) qs) (under 0 p) (Contains-map (under 0) ps p h)

  second_of : (ps qs : List ActivePart) (p : ActivePart) → Contains qs p → Contains (map (under 0) ps ++ map (under 1) qs) (under 1 p)
  second_of ps qs p h = Contains-append_right (map (under 0) ps) (map (under 1) qs) (under 1 p) (Contains-map (under 1) qs p h)

  within_child : (f : ℕ) (t : Term) (i : ℕ) (p : ActivePart) → Reached a f t i → Contains (active_parts a (frame_in t f) (child t i)) p → Contains (active_parts a f t) (under i p)
  within_child f done i p r h = absurd r
  within_child f (leaf s) i p r h = absurd r
  within_child f (wait left at) i p r h = absurd r
  within_child f (sequence t rest) zero p r h = Contains-later _ _ (under 0 p) (Contains-map (under 0) (active_parts a f t) p h)
  within_child f (sequence t rest) (suc i) p r h = absurd (omega (arith, r))
  within_child f (parallel ts) i p r h = Contains-later _ _ (under i p) (among_all f ts i p r h)
  within_child f (select ts) i p r h = Contains-later _ _ (under i p) (among_all f ts i p r h)
  within_child f (guarded test at t) zero p r h =
      Contains-later _ _ (under 0 p) (opened_by (tested a f at test) (map (under 0) (active_parts a f t)) (under 0 p) (sym (tests_only a f at test (Ok true) r.1)) (Contains-map (under 0) (active_parts a f t) p h))
  within_child f (guarded test at t) (suc i) p r h = absurd (omega (arith, r.0))
  within_child f (frame number inputs results t) zero p r h = Contains-later _ _ (under 0 p) (Contains-map (under 0) (active_parts a number t) p h)
  within_child f (frame number inputs results t) (suc i) p r h = absurd (omega (arith, r))
  within_child f (abort t u) zero p r h = Contains-later _ _ (under 0 p) (first_of (active_parts a f t) (active_parts a f u) p h)
  within_child f (abort t u) (suc zero) p r h = Contains-later _ _ (under 1 p) (second_of (active_parts a f t) (active_parts a f u) p h)
  within_child f (abort t u) (suc (suc i)) p r h = absurd (omega (arith, r))
  within_child f (idle t u again) zero p r h = Contains-later _ _ (under 0 p) (first_of (active_parts a f t) (active_parts a f u) p h)
  within_child f (idle t u again) (suc zero) p r h = Contains-later _ _ (under 1 p) (second_of (active_parts a f t) (active_parts a f u) p h)
  within_child f (idle t u again) (suc (suc i)) p r h = absurd (omega (arith, r))
  within_child f (handling t u again) zero p r h = absurd (omega (arith, r))
  within_child f (handling t u again) (suc zero) p r h = Contains-later _ _ (under 1 p) (Contains-map (under 1) (active_parts a f u) p h)
  within_child f (handling t u again) (suc (suc i)) p r h = absurd (omega (arith, r))

  pub listed : (f : ℕ) (t : Term) (place : Place) (g : ℕ) (x : Term) → Active a f t place g x → Contains (active_parts a f t) (part_at place g x)
  listed _ _ _ _ _ (active.here f t) = first_part f t
  listed _ _ _ _ _ (active.inside f t i place g x r h) = within_child f t i (part_at place g x) r (listed (frame_in t f) (child t i) place g x h)

  -- What is listed is active

  children : (f : ℕ) (t : Term) (i : ℕ) (ps : List ActivePart) → Reached a f t i → All (IsPart a (frame_in t f) (child t i)) ps → All (IsPart a f t) (map (under i) ps)
  children f t i ps r all = All-map (IsPart a f t) (under i) ps (λ k d within. active.inside f t i _ _ _ r (all k d within))

  if_open : (f : ℕ) (test : Code) (at : Pos) (t : Term) (r : Result Bool Trouble) (ps : List ActivePart) → tested a f at test ≡ r → (Tests a f at test (Ok true) → All (IsPart a f (guarded test at t)) ps) → All (IsPart a f (guarded test at t)) (behind r ps)
  if_open f test at t (Ok true) ps is all = all (subst (λ (r : Result Bool Trouble). Tests a f at test r) is (tests_found a f at test))
  if_open f test at t (Ok false) ps is all = All-nil (IsPart a f (guarded test at t))
  if_open f test at t (Err trouble) ps is all = All-nil (IsPart a f (guarded test at t))

  -- the children of t from number k on
  abbrev Rest : ℕ → Term → ℕ → Terms → Type 0
  Rest f t k ts = (i : ℕ) → i < count ts → Reached a f t (k + i) × (child t (k + i) ≡ term_at ts i)

  rest_later : (f : ℕ) (t : Term) (k : ℕ) (x : Term) (ts : Terms) → Rest f t k (and x ts) → Rest f t (suc k) ts
  rest_later f t k x ts all i within =
      let n : k + suc i ≡ suc k + i = omega arith in
      subst (λ (m : ℕ). Reached a f t m × (child t m ≡ term_at ts i)) n (all (suc i) (omega (arith, within)))

  rest_first : (f : ℕ) (t : Term) (k : ℕ) (x : Term) (ts : Terms) → Rest f t k (and x ts) → Reached a f t k × (child t k ≡ x)
  rest_first f t k x ts all = let n : k + 0 ≡ k = omega arith in subst (λ (m : ℕ). Reached a f t m × (child t m ≡ x)) n (all 0 (omega arith))

  mutual
    pub sound : (f : ℕ) (t : Term) → All (IsPart a f t) (active_parts a f t)
    sound f done = All-cons (IsPart a f done) (here f done) [] (active.here f done) (All-nil (IsPart a f done))
    sound f (leaf s) = All-cons (IsPart a f (leaf s)) (here f (leaf s)) [] (active.here f (leaf s)) (All-nil (IsPart a f (leaf s)))
    sound f (wait left at) = All-cons (IsPart a f (wait left at)) (here f (wait left at)) [] (active.here f (wait left at)) (All-nil (IsPart a f (wait left at)))
    sound f (sequence t rest) = All-cons (IsPart a f (sequence t rest)) (here f (sequence t rest)) _ (active.here f (sequence t rest)) (children f (sequence t rest) 0 (active_parts a f t) refl (sound f t))
    sound f (parallel ts) = All-cons (IsPart a f (parallel ts)) (here f (parallel ts)) _ (active.here f (parallel ts)) (children_sound f (parallel ts) refl 0 ts (λ i within. (let n : 0 + i ≡ i = omega arith in rw n within, let n : 0 + i ≡ i = omega arith in rw n refl)))
    sound f (select ts) = All-cons (IsPart a f (select ts)) (here f (select ts)) _ (active.here f (select ts)) (children_sound f (select ts) refl 0 ts (λ i within. (let n : 0 + i ≡ i = omega arith in rw n within, let n : 0 + i ≡ i = omega arith in rw n refl)))
    sound f (guarded test at t) =
        All-cons (IsPart a f (guarded test at t)) (here f (guarded test at t)) _ (active.here f (guarded test at t))
        (if_open f test at t (tested a f at test) (map (under 0) (active_parts a f t)) refl (λ true_now. children f (guarded test at t) 0 (active_parts a f t) (refl, true_now) (sound f t)))
    sound f (frame number inputs results t) = All-cons (IsPart a f (frame number inputs results t)) (here f (frame number inputs results t)) _ (active.here f (frame number inputs results t)) (children f (frame number inputs results t) 0 (active_parts a number t) refl (sound number t))
    sound f (abort t u) =
        All-cons (IsPart a f (abort t u)) (here f (abort t u)) _ (active.here f (abort t u))
        (All-append (IsPart a f (abort t u)) (map (under 0) (active_parts a f t)) (map (under 1) (active_parts a f u))
        (children f (abort t u) 0 (active_parts a f t) (omega arith) (sound f t)) (children f (abort t u) 1 (active_parts a f u) (omega arith) (sound f u)))
    sound f (idle t u again) =
        All-cons (IsPart a f (idle t u again)) (here f (idle t u again)) _ (active.here f (idle t u again))
        (All-append (IsPart a f (idle t u again)) (map (under 0) (active_parts a f t)) (map (under 1) (active_parts a f u))
        (children f (idle t u again) 0 (active_parts a f t) (omega arith) (sound f t)) (children f (idle t u again) 1 (active_parts a f u) (omega arith) (sound f u)))
    sound f (handling t u again) = All-cons (IsPart a f (handling t u again)) (here f (handling t u again)) _ (active.here f (handling t u again)) (children f (handling t u again) 1 (active_parts a f u) refl (sound f u))

    children_sound : (f : ℕ) (t : Term) → frame_in t f ≡ f → (k : ℕ) (ts : Terms) → Rest f t k ts → All (IsPart a f t) (active_children a f k ts)
    children_sound f t same k no_terms all = All-nil (IsPart a f t)
    children_sound f t same k (and x ts) all =
        let first = rest_first f t k x ts all in
        All-append (IsPart a f t) (map (under k) (active_parts a f x)) (active_children a f (suc k) ts)
        (children f t k (active_parts a f x) first.0 (subst (λ (g : ℕ). All (IsPart a g (child t k)) (active_parts a f x)) (sym same) (subst (λ (y : Term). All (IsPart a f y) (active_parts a f x)) (sym first.1) (sound f x))))
        (children_sound f t same (suc k) ts (rest_later f t k x ts all))

  -- They come by place

  -- in a child of this number or a later one
  abbrev FromOn : ℕ → Place → Type 0
  FromOn k [] = ⊥
  FromOn k (i ∷ place) = k ≤ i

  from_on : (f k : ℕ) (ts : Terms) → All (λ p. FromOn k p.place) (active_children a f k ts)
  from_on f k no_terms = All-nil (λ p. FromOn k p.place)
  from_on f k (and t ts) =
      All-append (λ p. FromOn k p.place) (map (under k) (active_parts a f t)) (active_children a f (suc k) ts)
      (All-map (λ p. FromOn k p.place) (under k) (active_parts a f t) (λ n d within. omega arith))
      (λ n d within. weaker (get_or (active_children a f (suc k) ts) n d).place (from_on f (suc k) ts n d within))
    where
      weaker : (place : Place) → FromOn (suc k) place → FromOn k place
      weaker [] h = h
      weaker (i ∷ place) h = omega (arith, h)

  -- what stands in children comes after their parent
  after_parent : (f k : ℕ) (t : Term) (ps : List ActivePart) → All (PartBefore (here f t)) (map (under k) ps)
  after_parent f k t ps = All-map (PartBefore (here f t)) (under k) ps (λ n d within. tt)

  later_child : (k : ℕ) (p : ActivePart) (q : Place) → FromOn (suc k) q → PlaceBefore (k ∷ p.place) q
  later_child k p [] h = absurd h
  later_child k p (i ∷ place) h = inl (omega (arith, h))

  in_one : (k : ℕ) (ps : List ActivePart) → AllPairs PartBefore ps → AllPairs PartBefore (map (under k) ps)
  in_one k ps pairs = AllPairs-map PartBefore (under k) ps (λ i j d before within. inr (refl, pairs i j d before within))

  in_two : (ps qs : List ActivePart) → AllPairs PartBefore ps → AllPairs PartBefore qs → AllPairs PartBefore (map (under 0) ps ++ map (under 1) qs)
  in_two ps qs first second =
      AllPairs-append PartBefore (map (under 0) ps) (map (under 1) qs) (in_one 0 ps first) (in_one 1 qs second)
      (All-map (λ p. All (PartBefore p) (map (under 1) qs)) (under 0) ps (λ k d within. All-map (PartBefore (under 0 (get_or ps k d))) (under 1) qs (λ n e later. inl (omega arith))))

  under_parent : (f : ℕ) (t : Term) (ps : List ActivePart) → All (PartBefore (here f t)) ps → AllPairs PartBefore ps → AllPairs PartBefore (here f t ∷ ps)
  under_parent f t ps first pairs = AllPairs-cons PartBefore (here f t) ps first pairs

  alone : (f : ℕ) (t : Term) → AllPairs PartBefore (here f t ∷ [])
  alone f t = under_parent f t [] (All-nil (PartBefore (here f t))) (AllPairs-nil PartBefore)

  after_both : (f : ℕ) (t : Term) (ps qs : List ActivePart) → All (PartBefore (here f t)) (map (under 0) ps ++ map (under 1) qs)
  after_both f t ps qs = All-append (PartBefore (here f t)) (map (under 0) ps) (map (under 1) qs) (after_parent f 0 t ps) (after_parent f 1 t qs)

  after_children : (f : ℕ) (t : Term) (ts : Terms) → All (PartBefore (here f t)) (active_children a f 0 ts)
  after_children f t ts n d within = by (get_or (active_children a f 0 ts) n d).place (from_on f 0 ts n d within)
    where
      by : (place : Place) → FromOn 0 place → PlaceBefore [] place
      by [] h = h
      by (i ∷ place) h = tt

  kept_open : (r : Result Bool Trouble) (P : List ActivePart → Type 0) (ps : List ActivePart) → P [] → P ps → P (behind r ps)
  kept_open (Ok true) P ps none all = all
  kept_open (Ok false) P ps none all = none
  kept_open (Err t) P ps none all = none

  mutual
    pub ordered : (f : ℕ) (t : Term) → AllPairs PartBefore (active_parts a f t)
    ordered f done = alone f done
    ordered f (leaf s) = alone f (leaf s)
    ordered f (wait left at) = alone f (wait left at)
    ordered f (sequence t rest) = under_parent f (sequence t rest) _ (after_parent f 0 (sequence t rest) (active_parts a f t)) (in_one 0 (active_parts a f t) (ordered f t))
    ordered f (parallel ts) = under_parent f (parallel ts) _ (after_children f (parallel ts) ts) (ordered_children f 0 ts)
    ordered f (select ts) = under_parent f (select ts) _ (after_children f (select ts) ts) (ordered_children f 0 ts)
    ordered f (guarded test at t) =
        kept_open (tested a f at test) (λ ps. AllPairs PartBefore (here f (guarded test at t) ∷ ps)) (map (under 0) (active_parts a f t))
        (alone f (guarded test at t))
        (under_parent f (guarded test at t) _ (after_parent f 0 (guarded test at t) (active_parts a f t)) (in_one 0 (active_parts a f t) (ordered f t)))
    ordered f (frame number inputs results t) = under_parent f (frame number inputs results t) _ (after_parent f 0 (frame number inputs results t) (active_parts a number t)) (in_one 0 (active_parts a number t) (ordered number t))
    ordered f (abort t u) = under_parent f (abort t u) _ (after_both f (abort t u) (active_parts a f t) (active_parts a f u)) (in_two (active_parts a f t) (active_parts a f u) (ordered f t) (ordered f u))
    ordered f (idle t u again) = under_parent f (idle t u again) _ (after_both f (idle t u again) (active_parts a f t) (active_parts a f u)) (in_two (active_parts a f t) (active_parts a f u) (ordered f t) (ordered f u))
    ordered f (handling t u again) = under_parent f (handling t u again) _ (after_parent f 1 (handling t u again) (active_parts a f u)) (in_one 1 (active_parts a f u) (ordered f u))

    ordered_children : (f k : ℕ) (ts : Terms) → AllPairs PartBefore (active_children a f k ts)
    ordered_children f k no_terms = AllPairs-nil PartBefore
    ordered_children f k (and t ts) =
        AllPairs-append PartBefore (map (under k) (active_parts a f t)) (active_children a f (suc k) ts)
        (in_one k (active_parts a f t) (ordered f t))
        (ordered_children f (suc k) ts)
        (All-map (λ p. All (PartBefore p) (active_children a f (suc k) ts)) (under k) (active_parts a f t)
        (λ n d within m e later. later_child k (get_or (active_parts a f t) n d) (get_or (active_children a f (suc k) ts) m e).place (from_on f (suc k) ts m e later)))
