-- What totals say of all processes: the first trouble, when the first delay is over, whether all is done.
use Rattle.std.proofs.Common.{◌≡◌, ◌<◌, ◌≤◌, ◌+◌, ◌-◌, ◌⊎◌, inl, inr, ℕ, zero, suc, min, Bool, true, false, List, [], ◌∷◌, map, Option, Some, None, refl, sym, subst, ap, ◌∙◌, arith}
use Rattle.std.specs.Prelude.{slice_get, option_map, All, AllPairs, Contains}
use Rattle.std.specs.Option.{option_or}
use Rattle.std.proofs.lemmas.Bool.{cases_lt, true≢false}
use Rattle.pz_tree_standing.specs.pz_offer.declared.end.End.{End}
use Rattle.pz_tree_standing.specs.pz_offer.declared.trouble.Trouble.{Trouble}
use Rattle.pz_tree_standing.specs.pz_offer.PlaceOrder.{Place, PlaceBefore, EndBefore}
use Rattle.pz_tree_standing.specs.pz_offer.Summaries.{least}
use Rattle.pz_tree_standing.specs.pz_rules.Terms.{Term, done}
use Rattle.pz_tree_standing.specs.pz_rules.Settings.{Setting, Process, Context}
use Rattle.pz_tree_standing.specs.pz_rules.Leaving.{is_done}
use Rattle.pz_tree_standing.specs.pz_rules.Delays.{Delays}
use Rattle.pz_tree_standing.specs.pz_rules.Asking.{Asks}
use Rattle.pz_tree_standing.specs.pz_rules.Offers.{PartAt}
use Rattle.pz_tree_standing.specs.pz_rules.Moments.{Source, part, pair, Troubles, asked, judged, IsLeft, IsLeast, AllDone}
use Rattle.pz_tree_standing.specs.pz_rules.devices.Walk.{Noted, active_delays, active_troubles}
use Rattle.pz_tree_standing.specs.pz_rules.devices.Walks.{IsThere, Lists, DelaysAreListed, TroublesAreListed}
use Rattle.pz_tree_standing.specs.Summaries.{least_of, first_of}
use Rattle.pz_sim_laws.specs.Members.{Member, process_of, config_of, AreMembers}
use Rattle.pz_sim_laws.specs.Deciding.{unfinished, total_of_all}
use Rattle.pz_sim_laws.proofs.Lists.{Contains-cases, Contains-none, Contains-first, Contains-later, AllPairs-head, all_got}
use Rattle.pz_sim_laws.proofs.Standing.{end_at, part_of_member, in_member, IsTail, next_tail, first_here, none_left, one_here, from_cases, all_tail}

pub place_asymmetric : (p q : Place) → PlaceBefore p q → PlaceBefore q p → ⊥
place_asymmetric p [] a b = a
place_asymmetric [] (j ∷ q) a b = b
place_asymmetric (i ∷ p) (j ∷ q) (inl a) (inl b) = omega (arith, a, b)
place_asymmetric (i ∷ p) (j ∷ q) (inl a) (inr (e, b)) = omega (arith, a, e)
place_asymmetric (i ∷ p) (j ∷ q) (inr (e, a)) (inl b) = omega (arith, e, b)
place_asymmetric (i ∷ p) (j ∷ q) (inr (e, a)) (inr (f, b)) = place_asymmetric p q a b

-- the least of noted numbers

-- such a number is among these, and it is the least; or there is none
abbrev pub IsLeastOf : (ℕ → Type 0) → Option ℕ → Type 0
IsLeastOf Holds None = (n : ℕ) → Holds n → ⊥
IsLeastOf Holds (Some d) = Holds d × ((n : ℕ) → Holds n → d ≤ n)

least_both : (P Q : ℕ → Type 0) (o q : Option ℕ) → IsLeastOf P o → IsLeastOf Q q → IsLeastOf (λ n. P n ⊎ Q n) (least o q)
least_both P Q None None x y = none
  where
    none : (n : ℕ) → P n ⊎ Q n → ⊥
    none n (inl p) = x n p
    none n (inr p) = y n p
least_both P Q None (Some e) x y = (inr y.0, least_is)
  where
    least_is : (n : ℕ) → P n ⊎ Q n → e ≤ n
    least_is n (inl p) = absurd (x n p)
    least_is n (inr p) = y.1 n p
least_both P Q (Some d) None x y = (inl x.0, least_is)
  where
    least_is : (n : ℕ) → P n ⊎ Q n → d ≤ n
    least_is n (inl p) = x.1 n p
    least_is n (inr p) = absurd (y n p)
least_both P Q (Some d) (Some e) x y = (holds (cases_lt d e), least_is)
  where
    holds : (d < e) ⊎ (e ≤ d) → P (min d e) ⊎ Q (min d e)
    holds (inl less) = let is : d ≡ min d e = omega (arith, less) in inl (subst P is x.0)
    holds (inr more) = let is : e ≡ min d e = omega (arith, more) in inr (subst Q is y.0)

    least_is : (n : ℕ) → P n ⊎ Q n → min d e ≤ n
    least_is n (inl p) = let le = x.1 n p in omega (arith, le)
    least_is n (inr p) = let le = y.1 n p in omega (arith, le)

least_same : (P Q : ℕ → Type 0) → ((n : ℕ) → P n → Q n) → ((n : ℕ) → Q n → P n) → (o : Option ℕ) → IsLeastOf P o → IsLeastOf Q o
least_same P Q to from None h = λ n q. h n (from n q)
least_same P Q to from (Some d) h = (to d h.0, λ n q. h.1 n (from n q))

-- a number is noted somewhere
abbrev IsNoted : List (Noted ℕ) → ℕ → Type 0
IsNoted ns n = (x : Noted ℕ) × Contains ns x × (x.what ≡ n)

least_noted : (ns : List (Noted ℕ)) → IsLeastOf (IsNoted ns) (least_of ns)
least_noted [] = λ n x. Contains-none x.0 x.1
least_noted (n ∷ ns) =
    least_same (λ k. (n.what ≡ k) ⊎ IsNoted ns k) (IsNoted (n ∷ ns)) to (λ k x. from k x (Contains-cases n ns x.0 x.1)) (least (Some n.what) (least_of ns))
    (least_both (λ k. n.what ≡ k) (IsNoted ns) (Some n.what) (least_of ns) (refl, λ k e. omega (arith, e)) (least_noted ns))
  where
    to : (k : ℕ) → (n.what ≡ k) ⊎ IsNoted ns k → IsNoted (n ∷ ns) k
    to k (inl e) = (n, Contains-first n ns, e)
    to k (inr x) = (x.0, Contains-later n ns x.0 x.1, x.2)

    from : (k : ℕ) (x : IsNoted (n ∷ ns) k) → (x.0 ≡ n) ⊎ Contains ns x.0 → (n.what ≡ k) ⊎ IsNoted ns k
    from k x (inl e) = inl (ap (λ (y : Noted ℕ). y.what) (sym e) ∙ x.2)
    from k x (inr later) = inr (x.0, later, x.2)

-- by a clock
least_from : (clock : ℕ) (P : ℕ → Type 0) (o : Option ℕ) → IsLeastOf P o → IsLeastOf (λ due. (n : ℕ) × P n × (clock + n ≡ due)) (option_map (λ left. clock + left) o)
least_from clock P None h = λ due x. h x.0 x.1
least_from clock P (Some d) h = ((d, h.0, refl), λ due x. let le = h.1 x.0 x.1 in let e = x.2 in omega (arith, le, e))

module _ (setting : Setting) (clock : ℕ) (ms : List Member) (are : AreMembers setting clock ms) where
  -- What is left of delays

  -- so much is left of a delay of a member from number i on, and it is over then
  record IsDue (i due : ℕ) : Type 0 where
    pub at : End
    pub member : Member
    pub is : slice_get ms at.process ≡ Some member
    pub from : i ≤ at.process
    pub left : ℕ
    pub there : IsThere member.seen member.term at.place (λ f t. Delays member.seen f t left)
    pub then_over : clock + left ≡ due

  module _ (law : DelaysAreListed) where
    due_here : (i : ℕ) (m : Member) → slice_get ms i ≡ Some m → (due : ℕ) → ((n : ℕ) × IsNoted (active_delays m.seen m.term) n × (clock + n ≡ due)) → IsDue i due
    due_here i m is due x =
        let noted = x.1 in
        let there : IsThere m.seen m.term noted.0.place (λ f t. Delays m.seen f t noted.0.what) =
        all_got (λ (n : Noted ℕ). IsThere m.seen m.term n.place (λ f t. Delays m.seen f t n.what)) (active_delays m.seen m.term) noted.0 (law m.seen m.term).derivable noted.1 in
        record {
          at = end_at i noted.0.place;
          member = m;
          is = is;
          from = omega arith;
          left = x.0;
          there = subst (λ (k : ℕ). IsThere m.seen m.term noted.0.place (λ f t. Delays m.seen f t k)) noted.2 there;
          then_over = x.2;
        }

    least_due : (i : ℕ) (tail : List Member) → IsTail ms i tail → IsLeastOf (IsDue i) (total_of_all clock tail).summary.due
    least_due i [] is = λ due x. none_left ms i is x.at.process x.member x.from x.is
    least_due i (m ∷ tail) is =
        least_same (λ due. ((n : ℕ) × IsNoted (active_delays m.seen m.term) n × (clock + n ≡ due)) ⊎ IsDue (suc i) due) (IsDue i) to (λ due x. from due x (from_cases i x.at.process x.from))
        (least (option_map (λ left. clock + left) (least_of (active_delays m.seen m.term))) (total_of_all clock tail).summary.due)
        (least_both (λ due. (n : ℕ) × IsNoted (active_delays m.seen m.term) n × (clock + n ≡ due)) (IsDue (suc i)) (option_map (λ left. clock + left) (least_of (active_delays m.seen m.term))) (total_of_all clock tail).summary.due
        (least_from clock (IsNoted (active_delays m.seen m.term)) (least_of (active_delays m.seen m.term)) (least_noted (active_delays m.seen m.term)))
        (least_due (suc i) tail (next_tail ms i m tail is)))
      where
        to : (due : ℕ) → ((n : ℕ) × IsNoted (active_delays m.seen m.term) n × (clock + n ≡ due)) ⊎ IsDue (suc i) due → IsDue i due
        to due (inl x) = due_here i m (first_here ms i m tail is) due x
        to due (inr x) = let le = x.from in record { at = x.at; member = x.member; is = x.is; from = omega (arith, le); left = x.left; there = x.there; then_over = x.then_over }

        from : (due : ℕ) (x : IsDue i due) → (x.at.process ≡ i) ⊎ (suc i ≤ x.at.process) → ((n : ℕ) × IsNoted (active_delays m.seen m.term) n × (clock + n ≡ due)) ⊎ IsDue (suc i) due
        from due x (inl same) =
            let one = one_here ms i x.at.process m x.member tail is same x.is in
            let there : IsThere m.seen m.term x.at.place (λ f t. Delays m.seen f t x.left) = subst (λ (y : Member). IsThere y.seen y.term x.at.place (λ f t. Delays y.seen f t x.left)) one x.there in
            inl (x.left, (record { place = x.at.place; what = x.left }, (law m.seen m.term).every x.at.place x.left there, refl), x.then_over)
        from due x (inr later) = inr (record { at = x.at; member = x.member; is = x.is; from = later; left = x.left; there = x.there; then_over = x.then_over })

    -- the least that is left is the time to the first moment at which one is over
    abbrev pub IsLeastLeft : Option ℕ → Type 0
    IsLeastLeft None = (left : ℕ) → IsLeft setting (config_of clock ms) left → ⊥
    IsLeastLeft (Some due) = IsLeast setting (config_of clock ms) (due - clock)

    due_of : (left : ℕ) → IsLeft setting (config_of clock ms) left → IsDue 0 (clock + left)
    due_of left x =
        let y = in_member setting clock ms are (λ (b : Context) (g : ℕ) (t : Term). Delays b g t left) x.at x.seen x.frame x.part x.active x.delays in
        record { at = x.at; member = y.member; is = y.is; from = omega arith; left = left; there = y.is_there; then_over = refl }

    left_of : (due : ℕ) (x : IsDue 0 due) → IsLeft setting (config_of clock ms) x.left
    left_of due x = record {
      at = x.at;
      seen = x.member.seen;
      frame = x.there.frame;
      part = x.there.part;
      active = part_of_member setting clock ms are x.at.process x.member x.at.place x.there.frame x.there.part x.is x.there.active;
      delays = x.there.it_holds;
    }

    least_of_all : (o : Option ℕ) → IsLeastOf (IsDue 0) o → IsLeastLeft o
    least_of_all None h = λ left x. h (clock + left) (due_of left x)
    least_of_all (Some due) h =
        let over = h.0.then_over in
        record {
          is_left = subst (λ (k : ℕ). IsLeft setting (config_of clock ms) k) (let e : h.0.left ≡ due - clock = omega (arith, over) in e) (left_of due h.0);
          least = λ left x. let le = h.1 (clock + left) (due_of left x) in omega (arith, le);
        }

    pub least_left : IsLeastLeft (total_of_all clock ms).summary.due
    least_left = least_of_all (total_of_all clock ms).summary.due (least_due 0 ms (all_tail ms))

  -- Troubles

  abbrev Asked : ℕ → End → Trouble → Type 0
  Asked i at t = (m : Member) × (slice_get ms at.process ≡ Some m) × (i ≤ at.process) × IsThere m.seen m.term at.place (λ f u. Asks m.seen f u t)

  record IsFirst (i : ℕ) (t : Trouble) : Type 0 where
    pub at : End
    pub occurs : Asked i at t
    pub first : (other : End) (u : Trouble) → Asked i other u → EndBefore other at → ⊥

  abbrev IsFirstOf : ℕ → Option Trouble → Type 0
  IsFirstOf i None = (at : End) (t : Trouble) → Asked i at t → ⊥
  IsFirstOf i (Some t) = IsFirst i t

  module _ (law : TroublesAreListed) where
    asked_here : (i : ℕ) (m : Member) (at : End) (t : Trouble) (tail : List Member) → IsTail ms i (m ∷ tail) → at.process ≡ i → Asked i at t → Contains (active_troubles m.seen m.term) (record { place = at.place; what = t })
    asked_here i m at t tail is same x =
        let one = one_here ms i at.process m x.0 tail is same x.1 in
        let there : IsThere m.seen m.term at.place (λ f u. Asks m.seen f u t) = subst (λ (y : Member). IsThere y.seen y.term at.place (λ f u. Asks y.seen f u t)) one x.3 in
        (law m.seen m.term).every at.place t there

    not_before : (n it : Noted Trouble) (ns : List (Noted Trouble)) → AllPairs (λ (x y : Noted Trouble). PlaceBefore x.place y.place) (n ∷ ns) → PlaceBefore it.place n.place → (it ≡ n) ⊎ Contains ns it → ⊥
    not_before n it ns ordered before (inl is) =
        let again : PlaceBefore n.place n.place = subst (λ (q : Place). PlaceBefore q n.place) (ap (λ (m : Noted Trouble). m.place) is) before in
        place_asymmetric n.place n.place again again
    not_before n it ns ordered before (inr later) =
        place_asymmetric it.place n.place before (all_got (λ (m : Noted Trouble). PlaceBefore n.place m.place) ns it (AllPairs-head (λ (m k : Noted Trouble). PlaceBefore m.place k.place) n ns ordered) later)

    no_more : (i : ℕ) (m : Member) (tail : List Member) → IsTail ms i (m ∷ tail) → active_troubles m.seen m.term ≡ [] → (o : Option Trouble) → IsFirstOf (suc i) o → IsFirstOf i o
    no_more i m tail is none o h = of o h
      where
        to_rest : (at : End) (t : Trouble) (x : Asked i at t) → (at.process ≡ i) ⊎ (suc i ≤ at.process) → Asked (suc i) at t
        to_rest at t x (inl same) = absurd (Contains-none _ (subst (λ (ns : List (Noted Trouble)). Contains ns (record { place = at.place; what = t })) none (asked_here i m at t tail is same x)))
        to_rest at t x (inr later) = (x.0, x.1, later, x.3)

        rest : (at : End) (t : Trouble) → Asked i at t → Asked (suc i) at t
        rest at t x = to_rest at t x (from_cases i at.process x.2)

        of : (o : Option Trouble) → IsFirstOf (suc i) o → IsFirstOf i o
        of None h = λ at t x. h at t (rest at t x)
        of (Some t) h =
            let y = h.occurs in
            let le = y.2 in
            record { at = h.at; occurs = (y.0, y.1, omega (arith, le), y.3); first = λ other u x before. h.first other u (rest other u x) before }

    first_one : (i : ℕ) (m : Member) (tail : List Member) → IsTail ms i (m ∷ tail) → (n : Noted Trouble) (ns : List (Noted Trouble)) → active_troubles m.seen m.term ≡ n ∷ ns → IsFirst i n.what
    first_one i m tail is n ns are_so =
        let lists : Lists m.seen m.term (λ t f u. Asks m.seen f u t) (n ∷ ns) = subst (λ (l : List (Noted Trouble)). Lists m.seen m.term (λ t f u. Asks m.seen f u t) l) are_so (law m.seen m.term) in
        record {
          at = end_at i n.place;
          occurs = (m, first_here ms i m tail is, omega arith, all_got (λ (k : Noted Trouble). IsThere m.seen m.term k.place (λ f u. Asks m.seen f u k.what)) (n ∷ ns) n lists.derivable (Contains-first n ns));
          first = none_before lists.ordered;
        }
      where
        none_before : AllPairs (λ (x y : Noted Trouble). PlaceBefore x.place y.place) (n ∷ ns) → (other : End) (u : Trouble) → Asked i other u → EndBefore other (end_at i n.place) → ⊥
        none_before ordered other u x (inl less) = let le = x.2 in omega (arith, less, le)
        none_before ordered other u x (inr (same, before)) =
            let it : Noted Trouble = record { place = other.place; what = u } in
            not_before n it ns ordered before (Contains-cases n ns it (subst (λ (l : List (Noted Trouble)). Contains l it) are_so (asked_here i m other u tail is same x)))

    first_from : (i : ℕ) (tail : List Member) → IsTail ms i tail → IsFirstOf i (total_of_all clock tail).summary.trouble
    first_from i [] is = λ at t x. none_left ms i is at.process x.0 x.2 x.1
    first_from i (m ∷ tail) is = by (active_troubles m.seen m.term) refl (first_from (suc i) tail (next_tail ms i m tail is))
      where
        by : (ns : List (Noted Trouble)) → active_troubles m.seen m.term ≡ ns → IsFirstOf (suc i) (total_of_all clock tail).summary.trouble
            → IsFirstOf i (option_or (first_of (active_troubles m.seen m.term)) (total_of_all clock tail).summary.trouble)
        by [] are_so rest =
            subst (λ (l : List (Noted Trouble)). IsFirstOf i (option_or (first_of l) (total_of_all clock tail).summary.trouble)) (sym are_so) (no_more i m tail is are_so (total_of_all clock tail).summary.trouble rest)
        by (n ∷ ns) are_so rest =
            subst (λ (l : List (Noted Trouble)). IsFirstOf i (option_or (first_of l) (total_of_all clock tail).summary.trouble)) (sym are_so) (first_one i m tail is n ns are_so)

    -- the part that has a trouble, where that comes from a part
    record AtPart (at : End) (t : Trouble) : Type 0 where
      pub seen : Context
      pub frame : ℕ
      pub it : Term
      pub active : PartAt setting (config_of clock ms) at seen frame it
      pub asks : Asks seen frame it t

    abbrev AtSource : Source → Trouble → Type 0
    AtSource (part at) t = AtPart at t
    AtSource (pair number sender receiver) t = Unit {0}

    at_source : (source : Source) (t : Trouble) → Troubles setting (config_of clock ms) source t → AtSource source t
    at_source _ _ (asked at a f it trouble active asks) = record { seen = a; frame = f; it = it; active = active; asks = asks }
    at_source _ _ (judged number sender receiver message parcel trouble is_pair is_judged) = tt

    asked_of : (at : End) (t : Trouble) → Troubles setting (config_of clock ms) (part at) t → Asked 0 at t
    asked_of at t troubles =
        let x : AtPart at t = at_source (part at) t troubles in
        let y = in_member setting clock ms are (λ (b : Context) (g : ℕ) (u : Term). Asks b g u t) at x.seen x.frame x.it x.active x.asks in
        (y.member, y.is, omega arith, y.is_there)

    pub record IsFirstAsked (t : Trouble) : Type 0 where
      pub at : End
      pub occurs : Troubles setting (config_of clock ms) (part at) t
      pub first : (other : End) (u : Trouble) → Troubles setting (config_of clock ms) (part other) u → EndBefore other at → ⊥

    -- of what parts are asked: the trouble before which none comes
    abbrev pub IsAsked : Option Trouble → Type 0
    IsAsked None = (at : End) (t : Trouble) → Troubles setting (config_of clock ms) (part at) t → ⊥
    IsAsked (Some t) = IsFirstAsked t

    first_of_all : (o : Option Trouble) → IsFirstOf 0 o → IsAsked o
    first_of_all None h = λ at t troubles. h at t (asked_of at t troubles)
    first_of_all (Some t) h =
        let m = h.occurs.0 in
        let there = h.occurs.3 in
        record {
          at = h.at;
          occurs = asked h.at m.seen there.frame there.part t (part_of_member setting clock ms are h.at.process m h.at.place there.frame there.part h.occurs.1 there.active) there.it_holds;
          first = λ other u troubles before. h.first other u (asked_of other u troubles) before;
        }

    pub first_asked : IsAsked (total_of_all clock ms).summary.trouble
    first_asked = first_of_all (total_of_all clock ms).summary.trouble (first_from 0 ms (all_tail ms))

-- Whether all is done

abbrev pub TellsDone : ℕ → List Member → ℕ → Type 0
TellsDone clock ms zero = AllDone (config_of clock ms)
TellsDone clock ms (suc n) = AllDone (config_of clock ms) → ⊥

done_is : (t : Term) → is_done t ≡ true → t ≡ done
done_is done e = refl
done_is t e = absurd (true≢false (sym e))

done_cons : (p : Process) (ps : List Process) → p.term ≡ done → All (λ (q : Process). q.term ≡ done) ps → All (λ (q : Process). q.term ≡ done) (p ∷ ps)
done_cons p ps first rest zero d within = first
done_cons p ps first rest (suc k) d within = rest k d (omega (arith, within))

tells_more : (clock : ℕ) (m : Member) (tail : List Member) (b : Bool) → is_done m.term ≡ b → (n : ℕ) → TellsDone clock tail n → TellsDone clock (m ∷ tail) (unfinished b + n)
tells_more clock m tail true is zero h = done_cons (process_of m) (map process_of tail) (done_is m.term is) h
tells_more clock m tail true is (suc n) h = subst (λ (k : ℕ). TellsDone clock (m ∷ tail) k) (let e : suc n ≡ 0 + suc n = omega arith in e) (λ all. h (λ k d within. all (suc k) d (omega (arith, within))))
tells_more clock m tail false is n h = subst (λ (k : ℕ). TellsDone clock (m ∷ tail) k) (let e : suc n ≡ 1 + n = omega arith in e) (λ all.
    let first : m.term ≡ done = all 0 (process_of m) (omega arith) in
    true≢false (sym (ap is_done first) ∙ is))

pub tells_done : (clock : ℕ) (ms : List Member) → TellsDone clock ms (total_of_all clock ms).unfinished
tells_done clock [] = λ k d within. absurd (omega (arith, within))
tells_done clock (m ∷ tail) = tells_more clock m tail (is_done m.term) refl (total_of_all clock tail).unfinished (tells_done clock tail)
