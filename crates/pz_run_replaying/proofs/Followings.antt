-- Whether lines lead somewhere can be found out: a line is one of a few that are taken where a run stands.
use Rattle.std.proofs.Common.{◌≡◌, ◌≤◌, ◌<◌, ◌⊎◌, inl, inr, refl, sym, subst, ap, ◌∙◌, ℕ, zero, suc, Bool, true, false, List, [], ◌∷◌, Result, Ok, Err, arith}
use Rattle.std.specs.Prelude.{nat_eq}
use Rattle.std.proofs.lemmas.Bool.{eqb-true, eq-eqb, false≢true}
use Rattle.std.proofs.lemmas.Option.{slice_get_within, get_or_from_slice_get}
use Rattle.pz_rules.specs.pz_offer.declared.trouble.Trouble.{Trouble}
use Rattle.pz_rules.specs.declared.action.Action.{Action}
use Rattle.pz_rules.specs.declared.moment.Moment.{Moment}
use Rattle.pz_rules.specs.declared.moment.Moment.TheVariants.{Actions, Time, Finished, Deadlock, Faulty, Stopped, Broken}
use Rattle.pz_rules.specs.Settings.{Setting}
use Rattle.pz_rules.specs.Configurations.{Config}
use Rattle.pz_rules.specs.Starting.{IsStart}
use Rattle.pz_rules.specs.Offers.{Offers}
use Rattle.pz_rules.specs.Steps.{Next, PassesTo}
use Rattle.pz_rules.specs.Moments.{IsMoment}
use Rattle.pz_rules.specs.Runs.{Standing, whole, stopped, IsChoice}
use Rattle.pz_trace.specs.declared.ending.Ending.{Ending}
use Rattle.pz_trace.specs.Lines.{time_line, action_line, end_line}
use Rattle.pz_trace.specs.TraceText.{trace_header}
use Rattle.pz_term_simulator.specs.Simulations.{stands}
use Rattle.pz_run_replaying.specs.Stages.{Stage, unbegun, underway, concluded}
use Rattle.pz_run_replaying.specs.devices.Known.{Known}
use Rattle.pz_run_replaying.specs.devices.Readiness.{Ready, IsEndAt}
use Rattle.pz_run_replaying.specs.devices.Taking.{After, takes_place, fails, Takes, header_taken, action_taken, passing_taken, end_taken, Follows, stays, onward, IsKept}
use Rattle.pz_run_replaying.proofs.Moments.{MomentAt, some_at, some_end, one_end, may_end}
use Rattle.pz_run_replaying.proofs.Starts.{one_start}
use Rattle.pz_run_replaying.proofs.Takings.{TakenAt, an_offer, a_passing, an_end, taken_at, offer_within, one_offer, one_after, kept_taken}
use Rattle.pz_run_replaying.proofs.Simulated.{offer_there, choice_of}

abbrev pub Decided : Type 0 → Type 0
Decided P = P ⊎ (P → ⊥)

-- texts

either : (b : Bool) → (b ≡ true) ⊎ (b ≡ false)
either true = inl refl
either false = inr refl

pub same_number : (n m : ℕ) → Decided (n ≡ m)
same_number n m = by (either (nat_eq n m))
  where
    by : (nat_eq n m ≡ true) ⊎ (nat_eq n m ≡ false) → Decided (n ≡ m)
    by (inl is) = inl (eqb-true n m is)
    by (inr other) = inr (λ same. false≢true (sym other ∙ eq-eqb n m same))

head_is : {x y : ℕ} {xs ys : List ℕ} → x ∷ xs ≡ y ∷ ys → x ≡ y
head_is h = cc

tail_is : {x y : ℕ} {xs ys : List ℕ} → x ∷ xs ≡ y ∷ ys → xs ≡ ys
tail_is h = cc

none_some : {x : ℕ} {xs : List ℕ} → [] ≡ x ∷ xs → ⊥
none_some h = cc

pub same_text : (a b : List ℕ) → Decided (a ≡ b)
same_text [] [] = inl refl
same_text [] (y ∷ b) = inr (λ same. none_some same)
same_text (x ∷ a) [] = inr (λ same. none_some (sym same))
same_text (x ∷ a) (y ∷ b) = by (same_number x y) (same_text a b)
  where
    by : Decided (x ≡ y) → Decided (a ≡ b) → Decided (x ∷ a ≡ y ∷ b)
    by (inl p) (inl q) = inl (ap (λ (n : ℕ). n ∷ a) p ∙ ap (λ (l : List ℕ). y ∷ l) q)
    by (inl p) (inr none) = inr (λ same. none (tail_is same))
    by (inr none) other = inr (λ same. none (head_is same))

-- lines lead to a stage of which this holds
pub record Leads (setting : Setting) (Q : Stage → Type 0) (s : Stage) (lines : List (List ℕ)) : Type 0 where
  pub to : Stage
  pub follows : Follows setting s lines to
  pub is : Q to

-- what an offered action leaves
record Leaves (setting : Setting) (c : Config) (a : Action) : Type 0 where
  next : Config
  left : Standing
  after : After setting c a next left

leaves : (setting : Setting) (c : Config) (a : Action) (r : Result Config Trouble) → Next setting c a r → Leaves setting c a
leaves setting c a (Ok next) to = record { next = next; left = whole; after = takes_place next to }
leaves setting c a (Err trouble) to = record { next = c; left = stopped trouble; after = fails trouble to }

derivable : (setting : Setting) (c : Config) (n k : ℕ) (a : Action) → IsChoice setting c n k a → Offers setting c a
derivable setting c n k a choice = subst (Offers setting c) (get_or_from_slice_get choice.offers k a a choice.chosen) (choice.all.derivable k a (slice_get_within choice.offers k a choice.chosen))

actions_stopped : {n : ℕ} {t : Trouble} → Actions n ≡ Stopped t → ⊥
actions_stopped h = cc

time_stopped : {d : ℕ} {t : Trouble} → Time d ≡ Stopped t → ⊥
time_stopped h = cc

-- One line, and then more of which it can be found out.
module _ (known : Known) (setting : Setting) (Q : Stage → Type 0) (line : List ℕ) (lines : List (List ℕ)) (rest : (s : Stage) → IsKept setting s → Decided (Leads setting Q s lines)) where
  record First (s : Stage) : Type 0 where
    to : Stage
    takes : Takes setting s line to
    more : Leads setting Q to lines

  first_of : (s t : Stage) → Follows setting s (line ∷ lines) t → Q t → First s
  first_of s t (onward _ u _ _ _ takes follows) q = record { to = u; takes = takes; more = record { to = t; follows = follows; is = q } }

  by_first : (s : Stage) → Decided (First s) → Decided (Leads setting Q s (line ∷ lines))
  by_first s (inl x) = inl (record { to = x.more.to; follows = onward s x.to x.more.to line lines x.takes x.more.follows; is = x.more.is })
  by_first s (inr none) = inr (λ x. none (first_of s x.to x.follows x.is))

  -- at the beginning

  is_header : (t : Stage) (l : List ℕ) → Takes setting unbegun l t → l ≡ trace_header setting
  is_header _ _ (header_taken start is) = refl

  module _ (start : Config) (is_start : IsStart setting start) where
    begins : (t : Stage) (l : List ℕ) → Takes setting unbegun l t → t ≡ underway start whole
    begins _ _ (header_taken c is) = ap (λ (d : Config). underway d whole) (one_start setting c start is is_start)

    begins_on : line ≡ trace_header setting → Decided (Leads setting Q (underway start whole) lines) → Decided (First unbegun)
    begins_on same (inl more) = inl (record { to = underway start whole; takes = subst (λ (l : List ℕ). Takes setting unbegun l (underway start whole)) (sym same) (header_taken start is_start); more = more })
    begins_on same (inr none) = inr (λ x. none (subst (λ (t : Stage). Leads setting Q t lines) (begins x.to line x.takes) x.more))

    unbegun_first : IsKept setting unbegun → Decided (line ≡ trace_header setting) → Decided (First unbegun)
    unbegun_first kept (inl same) = begins_on same (rest (underway start whole) (kept_taken known setting unbegun (underway start whole) (trace_header setting) kept (header_taken start is_start)))
    unbegun_first kept (inr other) = inr (λ x. other (is_header x.to line x.takes))

  -- where a run ends

  record EndFirst (c : Config) (standing : Standing) (m : Moment) : Type 0 where
    e : Ending
    is : IsEndAt m e
    same : line ≡ end_line setting.model c.clock e
    more : Leads setting Q (concluded c standing e) lines

  ends_on : (c : Config) (standing : Standing) (m : Moment) (e : Ending) → IsEndAt m e → line ≡ end_line setting.model c.clock e → Decided (Leads setting Q (concluded c standing e) lines) → Decided (EndFirst c standing m)
  ends_on c standing m e is same (inl more) = inl (record { e = e; is = is; same = same; more = more })
  ends_on c standing m e is same (inr none) = inr (λ x. none (subst (λ (f : Ending). Leads setting Q (concluded c standing f) lines) (one_end m x.e e x.is is) x.more))

  end_first : (c : Config) (standing : Standing) (m : Moment) (e : Ending) → Ready setting c standing → IsEndAt m e → Decided (line ≡ end_line setting.model c.clock e) → Decided (EndFirst c standing m)
  end_first c standing m e ready is (inl same) = ends_on c standing m e is same (rest (concluded c standing e) ready)
  end_first c standing m e ready is (inr other) = inr (λ x. other (x.same ∙ ap (λ (f : Ending). end_line setting.model c.clock f) (one_end m x.e e x.is is)))

  -- where time passes

  record TimeFirst (c : Config) (d : ℕ) : Type 0 where
    next : Config
    passes : PassesTo setting c d next
    same : line ≡ time_line c.clock d
    more : Leads setting Q (underway next whole) lines

  module _ (c : Config) (ready : Ready setting c whole) where
    passes_on : (d : ℕ) (next : Config) → PassesTo setting c d next → line ≡ time_line c.clock d → Decided (Leads setting Q (underway next whole) lines) → Decided (TimeFirst c d)
    passes_on d next passes same (inl more) = inl (record { next = next; passes = passes; same = same; more = more })
    passes_on d next passes same (inr none) = inr (λ x. none (subst (λ (n : Config). Leads setting Q (underway n whole) lines) (known.one_passing setting c d x.next next ready.all x.passes passes) x.more))

    time_first : (d : ℕ) (next : Config) → IsMoment setting c (Time d) → PassesTo setting c d next → Decided (line ≡ time_line c.clock d) → Decided (TimeFirst c d)
    time_first d next is passes (inl same) = passes_on d next passes same (rest (underway next whole) (kept_taken known setting (underway c whole) (underway next whole) (time_line c.clock d) ready (passing_taken c next d is passes)))
    time_first d next is passes (inr other) = inr (λ x. other x.same)

    -- where there are offers

    record OfferFirst (n k : ℕ) : Type 0 where
      a : Action
      choice : IsChoice setting c n k a
      next : Config
      left : Standing
      after : After setting c a next left
      same : line ≡ action_line setting.model c.clock n k a
      more : Leads setting Q (underway next left) lines

    same_left : (n k : ℕ) (a : Action) (next : Config) (left : Standing) → IsChoice setting c n k a → After setting c a next left → (x : OfferFirst n k) → Leads setting Q (underway next left) lines
    same_left n k a next left choice after x =
        let action : x.a ≡ a = one_offer known setting c n n k k x.a a refl x.choice choice in
        let same = one_after known setting c a x.next next x.left left (subst (λ (b : Action). After setting c b x.next x.left) action x.after) after in
        subst (λ (s : Standing). Leads setting Q (underway next s) lines) same.standing (subst (λ (d : Config). Leads setting Q (underway d x.left) lines) same.config x.more)

    acts_on : (n k : ℕ) (a : Action) (next : Config) (left : Standing) → IsChoice setting c n k a → After setting c a next left → line ≡ action_line setting.model c.clock n k a
        → Decided (Leads setting Q (underway next left) lines) → Decided (OfferFirst n k)
    acts_on n k a next left choice after same (inl more) = inl (record { a = a; choice = choice; next = next; left = left; after = after; same = same; more = more })
    acts_on n k a next left choice after same (inr none) = inr (λ x. none (same_left n k a next left choice after x))

    offer_first : (n k : ℕ) (a : Action) (next : Config) (left : Standing) → IsMoment setting c (Actions n) → IsChoice setting c n k a → After setting c a next left → Decided (line ≡ action_line setting.model c.clock n k a)
        → Decided (OfferFirst n k)
    offer_first n k a next left is choice after (inl same) =
        acts_on n k a next left choice after same (rest (underway next left) (kept_taken known setting (underway c whole) (underway next left) (action_line setting.model c.clock n k a) ready (action_taken c next left n k a is choice after)))
    offer_first n k a next left is choice after (inr other) =
        inr (λ x. other (x.same ∙ ap (λ (b : Action). action_line setting.model c.clock n k b) (one_offer known setting c n n k k x.a a refl x.choice choice)))

    offer_decided : (n k : ℕ) → IsMoment setting c (Actions n) → k < n → Decided (OfferFirst n k)
    offer_decided n k is within =
        let offer = offer_there known (stands setting c whole) n k is within in
        let choice = choice_of known setting c n k offer.0 is offer.1 in
        let result = known.some_next setting c offer.0 ready.sound ready.fit (derivable setting c n k offer.0 choice) in
        let to = leaves setting c offer.0 result.0 result.1 in
        offer_first n k offer.0 to.next to.left is choice to.after (same_text line (action_line setting.model c.clock n k offer.0))

    -- one of the offers below this number
    record SomeOffer (n j : ℕ) : Type 0 where
      k : ℕ
      within : k < j
      first : OfferFirst n k

    none_below : (n j : ℕ) → (OfferFirst n j → ⊥) → (SomeOffer n j → ⊥) → (x : SomeOffer n (suc j)) → Decided (x.k ≡ j) → ⊥
    none_below n j last others x (inl same) = last (subst (OfferFirst n) same x.first)
    none_below n j last others x (inr other) = others (record { k = x.k; within = below x.k x.within other; first = x.first })
      where
        below : (k : ℕ) → k < suc j → (k ≡ j → ⊥) → k < j
        below k within other = omega (arith, within, other)

    one_more : (n j : ℕ) → Decided (OfferFirst n j) → Decided (SomeOffer n j) → Decided (SomeOffer n (suc j))
    one_more n j (inl x) others = inl (record { k = j; within = omega arith; first = x })
    one_more n j (inr none) (inl y) = inl (record { k = y.k; within = omega (arith, y.within); first = y.first })
    one_more n j (inr none) (inr others) = inr (λ x. none_below n j none others x (same_number x.k j))

    offers_decided : (n j : ℕ) → IsMoment setting c (Actions n) → j ≤ n → Decided (SomeOffer n j)
    offers_decided n zero is within = inr (λ x. absurd (omega (arith, x.within)))
    offers_decided n (suc j) is within = one_more n j (offer_decided n j is (omega (arith, within))) (offers_decided n j is (omega (arith, within)))

  -- a run goes on
  abbrev OtherFirst : (c : Config) (standing : Standing) → Ready setting c standing → Moment → Type 0
  OtherFirst c whole ready (Actions n) = SomeOffer c ready n n
  OtherFirst c whole ready (Time d) = TimeFirst c d
  OtherFirst c whole ready m = ⊥
  OtherFirst c (stopped t) ready m = ⊥

  other_first : (c : Config) (standing : Standing) (ready : Ready setting c standing) (m : Moment) → MomentAt setting c standing m → Decided (OtherFirst c standing ready m)
  other_first c whole ready (Actions n) at = offers_decided c ready n n at (omega arith)
  other_first c whole ready (Time d) at =
      let next = known.some_passing setting c d ready.wires at in
      time_first c ready d next.0 at next.1 (same_text line (time_line c.clock d))
  other_first c whole ready Finished at = inr (λ x. x)
  other_first c whole ready Deadlock at = inr (λ x. x)
  other_first c whole ready (Faulty t) at = inr (λ x. x)
  other_first c whole ready (Stopped t) at = inr (λ x. x)
  other_first c whole ready Broken at = inr (λ x. x)
  other_first c (stopped t) ready m at = inr (λ x. x)

  -- the one or the other

  from_other : (c : Config) (standing : Standing) (ready : Ready setting c standing) (m : Moment) → MomentAt setting c standing m → OtherFirst c standing ready m → First (underway c standing)
  from_other c whole ready (Actions n) at x = record {
    to = underway x.first.next x.first.left;
    takes = subst (λ (l : List ℕ). Takes setting (underway c whole) l (underway x.first.next x.first.left)) (sym x.first.same)
        (action_taken c x.first.next x.first.left n x.k x.first.a at x.first.choice x.first.after);
    more = x.first.more;
  }
  from_other c whole ready (Time d) at x = record {
    to = underway x.next whole;
    takes = subst (λ (l : List ℕ). Takes setting (underway c whole) l (underway x.next whole)) (sym x.same) (passing_taken c x.next d at x.passes);
    more = x.more;
  }
  from_other c whole ready Finished at x = absurd x
  from_other c whole ready Deadlock at x = absurd x
  from_other c whole ready (Faulty t) at x = absurd x
  from_other c whole ready (Stopped t) at x = absurd x
  from_other c whole ready Broken at x = absurd x
  from_other c (stopped t) ready m at x = absurd x

  from_end : (c : Config) (standing : Standing) (m : Moment) → MomentAt setting c standing m → EndFirst c standing m → First (underway c standing)
  from_end c standing m at x = record {
    to = concluded c standing x.e;
    takes = subst (λ (l : List ℕ). Takes setting (underway c standing) l (concluded c standing x.e)) (sym x.same) (end_taken c standing x.e (may_end setting c standing m x.e at x.is));
    more = x.more;
  }

  to_either : (c : Config) (standing : Standing) (ready : Ready setting c standing) (to : Stage) (m : Moment) → MomentAt setting c standing m → TakenAt setting c standing line to m → Leads setting Q to lines
      → EndFirst c standing m ⊎ OtherFirst c standing ready m
  to_either c whole ready to _ at (an_offer n k a next left choice after is leads) more =
      inr (record { k = k; within = offer_within setting c n k a choice; first = record { a = a; choice = choice; next = next; left = left; after = after; same = is; more = subst (λ (t : Stage). Leads setting Q t lines) leads more } })
  to_either c (stopped t) ready to _ at (an_offer n k a next left choice after is leads) more = absurd (actions_stopped at)
  to_either c whole ready to _ at (a_passing d next passes is leads) more = inr (record { next = next; passes = passes; same = is; more = subst (λ (t : Stage). Leads setting Q t lines) leads more })
  to_either c (stopped t) ready to _ at (a_passing d next passes is leads) more = absurd (time_stopped at)
  to_either c standing ready to _ at (an_end m e is same leads) more = inl (record { e = e; is = is; same = same; more = subst (λ (t : Stage). Leads setting Q t lines) leads more })

  neither : (c : Config) (standing : Standing) (ready : Ready setting c standing) (m : Moment) → (EndFirst c standing m → ⊥) → (OtherFirst c standing ready m → ⊥) → EndFirst c standing m ⊎ OtherFirst c standing ready m → ⊥
  neither c standing ready m none other (inl x) = none x
  neither c standing ready m none other (inr x) = other x

  underway_first : (c : Config) (standing : Standing) (ready : Ready setting c standing) (m : Moment) → MomentAt setting c standing m → Decided (EndFirst c standing m) → Decided (OtherFirst c standing ready m) → Decided (First (underway c standing))
  underway_first c standing ready m at (inl x) other = inl (from_end c standing m at x)
  underway_first c standing ready m at (inr none) (inl x) = inl (from_other c standing ready m at x)
  underway_first c standing ready m at (inr none) (inr other) =
      inr (λ x. neither c standing ready m none other (to_either c standing ready x.to m at (taken_at known setting c standing line x.to m at x.takes) x.more))

  no_first : (c : Config) (standing : Standing) (e : Ending) (t : Stage) → Takes setting (concluded c standing e) line t → ⊥
  no_first c standing e t takes = elim takes [ ]

  first_decided : (start : Config) → IsStart setting start → (s : Stage) → IsKept setting s → Decided (First s)
  first_decided start is_start unbegun kept = unbegun_first start is_start kept (same_text line (trace_header setting))
  first_decided start is_start (underway c standing) ready =
      let m = some_at known.some_moment setting c standing ready.wires in
      let e = some_end setting c standing m.0 m.1 in
      underway_first c standing ready m.0 m.1 (end_first c standing m.0 e.0 ready e.1 (same_text line (end_line setting.model c.clock e.0))) (other_first c standing ready m.0 m.1)
  first_decided start is_start (concluded c standing e) ready = inr (λ x. no_first c standing e x.to x.takes)

-- from a stage
module _ (known : Known) (setting : Setting) (Q : Stage → Type 0) (decide : (s : Stage) → Decided (Q s)) (start : Config) (is_start : IsStart setting start) where
  at_once : (s t : Stage) → Follows setting s [] t → Q t → Q s
  at_once _ _ (stays s) q = q

  stays_decided : (s : Stage) → Decided (Q s) → Decided (Leads setting Q s [])
  stays_decided s (inl q) = inl (record { to = s; follows = stays s; is = q })
  stays_decided s (inr none) = inr (λ x. none (at_once s x.to x.follows x.is))

  pub can_follow : (lines : List (List ℕ)) (s : Stage) → IsKept setting s → Decided (Leads setting Q s lines)
  can_follow [] s kept = stays_decided s (decide s)
  can_follow (line ∷ lines) s kept = by_first known setting Q line lines (can_follow lines) s (first_decided known setting Q line lines (can_follow lines) start is_start s kept)
