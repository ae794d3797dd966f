-- A policy chooses one run, which is a run of the rules.
use Rattle.std.proofs.Common.{◌≡◌, ◌≤◌, ◌<◌, ◌⊎◌, inl, inr, ℕ, suc, Bool, true, false, List, [], ◌∷◌, Option, Some, None, Result, Ok, Err, refl, sym, subst, ap, ◌∙◌, arith}
use Rattle.std.specs.Prelude.{slice_get, nat_le, nat_lt, if◌then◌else◌}
use Rattle.std.proofs.lemmas.Bool.{leb-false, ltb-true}
use Rattle.pz_offer.specs.declared.trouble.Trouble.{Trouble}
use Rattle.pz_rules.specs.declared.action.Action.{Action}
use Rattle.pz_rules.specs.declared.moment.Moment.{Moment}
use Rattle.pz_rules.specs.declared.moment.Moment.TheVariants.{Actions, Time, Finished, Deadlock, Faulty, Stopped, Broken}
use Rattle.pz_rules.specs.Settings.{Setting}
use Rattle.pz_rules.specs.Configurations.{Config, IsWhole}
use Rattle.pz_rules.specs.Steps.{Next, PassesTo}
use Rattle.pz_rules.specs.Moments.{Candidate, high, faulty, acting, passing, finished, deadlock, rank, IsMoment}
use Rattle.pz_rules.specs.Runs.{Event, acted, passed, IsChoice, Standing, whole, stopped, Reaches, Ending, ended, deadlocked, troubled, halted, refused, Ends}
use Rattle.pz_rules.specs.Runs as runs
use Rattle.pz_rules.specs.ChosenRuns as chosen
use Rattle.pz_rules.specs.ChosenRuns.{Policy, Decision, stops_with, takes, waits, is_beyond, used_up, entry_of, decided, IsChosenRun}
use Rattle.pz_rules.specs.Laws.{OneChosenRun, IsOwn, IsRun, ChosenRunsAreRuns}
use Rattle.pz_rules.proofs.Locals.{some_is}
use Rattle.pz_rules.proofs.Orders.{one_list}
use Rattle.pz_rules.proofs.OneMoment.{one_moment}
use Rattle.pz_rules.proofs.Nexts.{next_once}
use Rattle.pz_rules.proofs.Elapsed.{passing_once, next_whole, passing_whole}

-- What decisions are

stops_is : {e f : Ending} → stops_with e ≡ stops_with f → e ≡ f
stops_is h = cc

pub record SameChoice (n m k l : ℕ) : Type 0 where
  pub count : n ≡ m
  pub number : k ≡ l

takes_is : {n m k l : ℕ} → takes n k ≡ takes m l → SameChoice n m k l
takes_is h = record { count = cc; number = cc }

waits_is : {d e : ℕ} → waits d ≡ waits e → d ≡ e
waits_is h = cc

stops_takes : {P : Type 0} {e : Ending} {n k : ℕ} → stops_with e ≡ takes n k → P
stops_takes {P} {e} {n} {k} h = absurd (differ h)
  where
    differ : stops_with e ≡ takes n k → ⊥
    differ g = cc

stops_waits : {P : Type 0} {e : Ending} {d : ℕ} → stops_with e ≡ waits d → P
stops_waits {P} {e} {d} h = absurd (differ h)
  where
    differ : stops_with e ≡ waits d → ⊥
    differ g = cc

takes_waits : {P : Type 0} {n k d : ℕ} → takes n k ≡ waits d → P
takes_waits {P} {n} {k} {d} h = absurd (differ h)
  where
    differ : takes n k ≡ waits d → ⊥
    differ g = cc

ok_is : {x y : Config} → (let r : Result Config Trouble = Ok x in r) ≡ Ok y → x ≡ y
ok_is h = cc

err_is : {t u : Trouble} → (let r : Result Config Trouble = Err t in r) ≡ Err u → t ≡ u
err_is h = cc

ok_err : {P : Type 0} {x : Config} {t : Trouble} → (let r : Result Config Trouble = Ok x in r) ≡ Err t → P
ok_err {P} {x} {t} h = absurd (differ h)
  where
    differ : (let r : Result Config Trouble = Ok x in r) ≡ Err t → ⊥
    differ g = cc

pub record SameRun (es fs : List Event) (c d : Config) (x y : Ending) : Type 0 where
  pub events : es ≡ fs
  pub end : c ≡ d
  pub ending : x ≡ y

module _ (setting : Setting) (policy : Policy) where
  -- a configuration has one decision
  one_decision : (j : ℕ) (c : Config) (m n : Moment) (x y : Decision) → IsMoment setting c m → IsMoment setting c n → decided policy j c.clock m ≡ x → decided policy j c.clock n ≡ y → x ≡ y
  one_decision j c m n x y is is' e f = sym e ∙ ap (decided policy j c.clock) (one_moment setting c m n is is') ∙ f

  one_choice : (c : Config) (n m k l : ℕ) (a b : Action) → k ≡ l → IsChoice setting c n k a → IsChoice setting c m l b → a ≡ b
  one_choice c n m k l a b same x y =
      some_is (sym x.chosen ∙ ap (λ (i : ℕ). slice_get x.offers i) same ∙ ap (λ (os : List Action). slice_get os l) (one_list setting c x.offers y.offers x.all y.all) ∙ y.chosen)

  one_next : (c : Config) (a b : Action) (x y : Result Config Trouble) → a ≡ b → Next setting c a x → Next setting c b y → x ≡ y
  one_next c a b x y same h k = next_once setting c b x y (subst (λ (z : Action). Next setting c z x) same h) k

  pub one_run : (j : ℕ) (c x y : Config) (es fs : List Event) (e f : Ending) → IsWhole setting c → IsChosenRun setting policy j c es x e → IsChosenRun setting policy j c fs y f → SameRun es fs x y e f
  one_run _ _ _ _ _ _ _ _ all (chosen.ends j c m e is d) (chosen.ends _ _ m' e' is' d') =
      record { events = refl; end = refl; ending = stops_is (one_decision j c m m' _ _ is is' d d') }
  one_run _ _ _ _ _ _ _ _ all (chosen.ends j c m e is d) (chosen.acts _ _ next' end' m' n' k' a' events' e' is' d' choice' h' r') = stops_takes (one_decision j c m m' _ _ is is' d d')
  one_run _ _ _ _ _ _ _ _ all (chosen.ends j c m e is d) (chosen.stops _ _ m' n' k' a' t' is' d' choice' h') = stops_takes (one_decision j c m m' _ _ is is' d d')
  one_run _ _ _ _ _ _ _ _ all (chosen.ends j c m e is d) (chosen.passes _ _ next' end' m' time' events' e' is' d' h' r') = stops_waits (one_decision j c m m' _ _ is is' d d')
  one_run _ _ _ _ _ _ _ _ all (chosen.acts j c next end m n k a events e is d choice h r) (chosen.ends _ _ m' e' is' d') = stops_takes (one_decision j c m' m _ _ is' is d' d)
  one_run _ _ _ _ _ _ _ _ all (chosen.acts j c next end m n k a events e is d choice h r) (chosen.acts _ _ next' end' m' n' k' a' events' e' is' d' choice' h' r') =
      let same = takes_is (one_decision j c m m' _ _ is is' d d') in
      let action : a ≡ a' = one_choice c n n' k k' a a' same.number choice choice' in
      let after : next ≡ next' = ok_is (one_next c a a' _ _ action h h') in
      let rest = one_run (suc j) next end end' events events' e e' (next_whole setting c a next all h) r (subst (λ (z : Config). IsChosenRun setting policy (suc j) z events' end' e') (sym after) r') in
      record {
        events = ap (λ (i : ℕ). acted c.clock i k a ∷ events) same.count ∙ ap (λ (i : ℕ). acted c.clock n' i a ∷ events) same.number
            ∙ ap (λ (z : Action). acted c.clock n' k' z ∷ events) action ∙ ap (λ (es : List Event). acted c.clock n' k' a' ∷ es) rest.events;
        end = rest.end;
        ending = rest.ending;
      }
  one_run _ _ _ _ _ _ _ _ all (chosen.acts j c next end m n k a events e is d choice h r) (chosen.stops _ _ m' n' k' a' t' is' d' choice' h') =
      let same = takes_is (one_decision j c m m' _ _ is is' d d') in
      ok_err (one_next c a a' _ _ (one_choice c n n' k k' a a' same.number choice choice') h h')
  one_run _ _ _ _ _ _ _ _ all (chosen.acts j c next end m n k a events e is d choice h r) (chosen.passes _ _ next' end' m' time' events' e' is' d' h' r') = takes_waits (one_decision j c m m' _ _ is is' d d')
  one_run _ _ _ _ _ _ _ _ all (chosen.stops j c m n k a t is d choice h) (chosen.ends _ _ m' e' is' d') = stops_takes (one_decision j c m' m _ _ is' is d' d)
  one_run _ _ _ _ _ _ _ _ all (chosen.stops j c m n k a t is d choice h) (chosen.acts _ _ next' end' m' n' k' a' events' e' is' d' choice' h' r') =
      let same = takes_is (one_decision j c m' m _ _ is' is d' d) in
      ok_err (one_next c a' a _ _ (one_choice c n' n k' k a' a same.number choice' choice) h' h)
  one_run _ _ _ _ _ _ _ _ all (chosen.stops j c m n k a t is d choice h) (chosen.stops _ _ m' n' k' a' t' is' d' choice' h') =
      let same = takes_is (one_decision j c m m' _ _ is is' d d') in
      let action : a ≡ a' = one_choice c n n' k k' a a' same.number choice choice' in
      record {
        events = ap (λ (i : ℕ). acted c.clock i k a ∷ []) same.count ∙ ap (λ (i : ℕ). acted c.clock n' i a ∷ []) same.number ∙ ap (λ (z : Action). acted c.clock n' k' z ∷ []) action;
        end = refl;
        ending = ap troubled (err_is (one_next c a a' _ _ action h h'));
      }
  one_run _ _ _ _ _ _ _ _ all (chosen.stops j c m n k a t is d choice h) (chosen.passes _ _ next' end' m' time' events' e' is' d' h' r') = takes_waits (one_decision j c m m' _ _ is is' d d')
  one_run _ _ _ _ _ _ _ _ all (chosen.passes j c next end m time events e is d h r) (chosen.ends _ _ m' e' is' d') = stops_waits (one_decision j c m' m _ _ is' is d' d)
  one_run _ _ _ _ _ _ _ _ all (chosen.passes j c next end m time events e is d h r) (chosen.acts _ _ next' end' m' n' k' a' events' e' is' d' choice' h' r') = takes_waits (one_decision j c m' m _ _ is' is d' d)
  one_run _ _ _ _ _ _ _ _ all (chosen.passes j c next end m time events e is d h r) (chosen.stops _ _ m' n' k' a' t' is' d' choice' h') = takes_waits (one_decision j c m' m _ _ is' is d' d)
  one_run _ _ _ _ _ _ _ _ all (chosen.passes j c next end m time events e is d h r) (chosen.passes _ _ next' end' m' time' events' e' is' d' h' r') =
      let same : time ≡ time' = waits_is (one_decision j c m m' _ _ is is' d d') in
      let after : next ≡ next' = passing_once setting c time next next' all h (subst (λ (i : ℕ). PassesTo setting c i next') (sym same) h') in
      let rest = one_run j next end end' events events' e e' (passing_whole setting c time next all h) r (subst (λ (z : Config). IsChosenRun setting policy j z events' end' e') (sym after) r') in
      record {
        events = ap (λ (i : ℕ). passed c.clock i ∷ events) same ∙ ap (λ (es : List Event). passed c.clock time' ∷ es) rest.events;
        end = rest.end;
        ending = rest.ending;
      }

  -- At which moments something is decided

  stopped_by : (b : Bool) (x y : Decision) (z : Decision) → (if b then x else y) ≡ z → ((b ≡ true) × (x ≡ z)) ⊎ ((b ≡ false) × (y ≡ z))
  stopped_by true x y z h = inl (refl, h)
  stopped_by false x y z h = inr (refl, h)

  entry_takes : (m n k : ℕ) (o : Option ℕ) → entry_of m o ≡ takes n k → m ≡ n
  entry_takes m n k None h = stops_takes h
  entry_takes m n k (Some l) h = by (stopped_by (nat_lt l m) (takes m l) (stops_with (refused l m)) (takes n k) h)
    where
      by : ((nat_lt l m ≡ true) × (takes m l ≡ takes n k)) ⊎ ((nat_lt l m ≡ false) × (stops_with (refused l m) ≡ takes n k)) → m ≡ n
      by (inl is_so) = (takes_is is_so.1).count
      by (inr not_so) = stops_takes not_so.1

  used_takes : {P : Type 0} (e : Ending) (o : Option ℕ) (n k : ℕ) → used_up e o ≡ takes n k → P
  used_takes e None n k h = stops_takes h
  used_takes e (Some l) n k h = stops_takes h

  takes_at : (j clock : ℕ) (m : Moment) (n k : ℕ) → decided policy j clock m ≡ takes n k → m ≡ Actions n
  takes_at j clock (Actions m) n k h = by (stopped_by (nat_le policy.steps j) (stops_with halted) (entry_of m (policy.choose j m)) (takes n k) h)
    where
      by : ((nat_le policy.steps j ≡ true) × (stops_with halted ≡ takes n k)) ⊎ ((nat_le policy.steps j ≡ false) × (entry_of m (policy.choose j m) ≡ takes n k)) → Actions m ≡ Actions n
      by (inl is_so) = stops_takes is_so.1
      by (inr not_so) = ap Actions (entry_takes m n k (policy.choose j m) not_so.1)
  takes_at j clock (Time d) n k h = by (stopped_by (is_beyond policy.until clock d) (stops_with halted) (waits d) (takes n k) h)
    where
      by : ((is_beyond policy.until clock d ≡ true) × (stops_with halted ≡ takes n k)) ⊎ ((is_beyond policy.until clock d ≡ false) × (waits d ≡ takes n k)) → Time d ≡ Actions n
      by (inl is_so) = stops_takes is_so.1
      by (inr not_so) = takes_waits (sym not_so.1)
  takes_at j clock Finished n k h = used_takes ended (policy.ahead j) n k h
  takes_at j clock Deadlock n k h = used_takes deadlocked (policy.ahead j) n k h
  takes_at j clock (Faulty t) n k h = stops_takes h
  takes_at j clock (Stopped t) n k h = stops_takes h
  takes_at j clock Broken n k h = stops_takes h

  entry_within : (m n k : ℕ) (o : Option ℕ) → entry_of m o ≡ takes n k → k < n
  entry_within m n k None h = stops_takes h
  entry_within m n k (Some l) h = by (stopped_by (nat_lt l m) (takes m l) (stops_with (refused l m)) (takes n k) h)
    where
      by : ((nat_lt l m ≡ true) × (takes m l ≡ takes n k)) ⊎ ((nat_lt l m ≡ false) × (stops_with (refused l m) ≡ takes n k)) → k < n
      by (inl is_so) = let same = takes_is is_so.1 in omega (arith, same.count, same.number, ltb-true l m is_so.0)
      by (inr not_so) = stops_takes not_so.1

  -- what is taken is an offer, and there may be a further action
  pub takes_within : (j clock : ℕ) (m : Moment) (n k : ℕ) → decided policy j clock m ≡ takes n k → (j < policy.steps) × (k < n)
  takes_within j clock (Actions m) n k h = by (stopped_by (nat_le policy.steps j) (stops_with halted) (entry_of m (policy.choose j m)) (takes n k) h)
    where
      by : ((nat_le policy.steps j ≡ true) × (stops_with halted ≡ takes n k)) ⊎ ((nat_le policy.steps j ≡ false) × (entry_of m (policy.choose j m) ≡ takes n k)) → (j < policy.steps) × (k < n)
      by (inl is_so) = stops_takes is_so.1
      by (inr not_so) = (leb-false policy.steps j not_so.0, entry_within m n k (policy.choose j m) not_so.1)
  takes_within j clock (Time d) n k h = by (stopped_by (is_beyond policy.until clock d) (stops_with halted) (waits d) (takes n k) h)
    where
      by : ((is_beyond policy.until clock d ≡ true) × (stops_with halted ≡ takes n k)) ⊎ ((is_beyond policy.until clock d ≡ false) × (waits d ≡ takes n k)) → (j < policy.steps) × (k < n)
      by (inl is_so) = stops_takes is_so.1
      by (inr not_so) = takes_waits (sym not_so.1)
  takes_within j clock Finished n k h = used_takes ended (policy.ahead j) n k h
  takes_within j clock Deadlock n k h = used_takes deadlocked (policy.ahead j) n k h
  takes_within j clock (Faulty t) n k h = stops_takes h
  takes_within j clock (Stopped t) n k h = stops_takes h
  takes_within j clock Broken n k h = stops_takes h

  entry_waits : {P : Type 0} (m d : ℕ) (o : Option ℕ) → entry_of m o ≡ waits d → P
  entry_waits m d None h = stops_waits h
  entry_waits {P} m d (Some l) h = by (stopped_by (nat_lt l m) (takes m l) (stops_with (refused l m)) (waits d) h)
    where
      by : ((nat_lt l m ≡ true) × (takes m l ≡ waits d)) ⊎ ((nat_lt l m ≡ false) × (stops_with (refused l m) ≡ waits d)) → P
      by (inl is_so) = takes_waits is_so.1
      by (inr not_so) = stops_waits not_so.1

  used_waits : {P : Type 0} (e : Ending) (o : Option ℕ) (d : ℕ) → used_up e o ≡ waits d → P
  used_waits e None d h = stops_waits h
  used_waits e (Some l) d h = stops_waits h

  waits_at : (j clock : ℕ) (m : Moment) (d : ℕ) → decided policy j clock m ≡ waits d → m ≡ Time d
  waits_at j clock (Actions m) d h = by (stopped_by (nat_le policy.steps j) (stops_with halted) (entry_of m (policy.choose j m)) (waits d) h)
    where
      by : ((nat_le policy.steps j ≡ true) × (stops_with halted ≡ waits d)) ⊎ ((nat_le policy.steps j ≡ false) × (entry_of m (policy.choose j m) ≡ waits d)) → Actions m ≡ Time d
      by (inl is_so) = stops_waits is_so.1
      by (inr not_so) = entry_waits m d (policy.choose j m) not_so.1
  waits_at j clock (Time e) d h = by (stopped_by (is_beyond policy.until clock e) (stops_with halted) (waits e) (waits d) h)
    where
      by : ((is_beyond policy.until clock e ≡ true) × (stops_with halted ≡ waits d)) ⊎ ((is_beyond policy.until clock e ≡ false) × (waits e ≡ waits d)) → Time e ≡ Time d
      by (inl is_so) = stops_waits is_so.1
      by (inr not_so) = ap Time (waits_is not_so.1)
  waits_at j clock Finished d h = used_waits ended (policy.ahead j) d h
  waits_at j clock Deadlock d h = used_waits deadlocked (policy.ahead j) d h
  waits_at j clock (Faulty t) d h = stops_waits h
  waits_at j clock (Stopped t) d h = stops_waits h
  waits_at j clock Broken d h = stops_waits h

  -- the ranks of what is ever said
  said : (c : Config) (m : Moment) → Candidate setting c m → rank m ≤ 5
  said c _ (high t x) = omega arith
  said c _ (faulty t x) = omega arith
  said c _ (acting xs x some) = omega arith
  said c _ (passing d x) = omega arith
  said c _ (finished x) = omega arith
  said c _ deadlock = omega arith

  -- How a run ends

  own_is : (e f : Ending) → stops_with e ≡ stops_with f → IsOwn f → e ≡ f
  own_is e f h own = stops_is h

  refused_own : {P : Type 0} (l n : ℕ) (f : Ending) → stops_with (refused l n) ≡ stops_with f → IsOwn f → P
  refused_own l n f h own = absurd (subst IsOwn (sym (stops_is h)) own)

  used_own : (e f : Ending) (o : Option ℕ) → used_up e o ≡ stops_with f → IsOwn f → e ≡ f
  used_own e f None h own = stops_is h
  used_own e f (Some l) h own = refused_own l 0 f h own

  entry_own : (m : ℕ) (f : Ending) (o : Option ℕ) → entry_of m o ≡ stops_with f → IsOwn f → halted ≡ f
  entry_own m f None h own = stops_is h
  entry_own m f (Some l) h own = by (stopped_by (nat_lt l m) (takes m l) (stops_with (refused l m)) (stops_with f) h)
    where
      by : ((nat_lt l m ≡ true) × (takes m l ≡ stops_with f)) ⊎ ((nat_lt l m ≡ false) × (stops_with (refused l m) ≡ stops_with f)) → halted ≡ f
      by (inl is_so) = stops_takes (sym is_so.1)
      by (inr not_so) = refused_own l m f not_so.1 own

  ends_so : (c : Config) (e f : Ending) → e ≡ f → Ends setting c whole e → Ends setting c whole f
  ends_so c e f same h = subst (λ (x : Ending). Ends setting c whole x) same h

  ends_at : (j : ℕ) (c : Config) (m : Moment) (f : Ending) → IsMoment setting c m → decided policy j c.clock m ≡ stops_with f → IsOwn f → Ends setting c whole f
  ends_at j c (Actions n) f is h own = ends_so c halted f (by (stopped_by (nat_le policy.steps j) (stops_with halted) (entry_of n (policy.choose j n)) (stops_with f) h)) (runs.halts_acting c n is)
    where
      by : ((nat_le policy.steps j ≡ true) × (stops_with halted ≡ stops_with f)) ⊎ ((nat_le policy.steps j ≡ false) × (entry_of n (policy.choose j n) ≡ stops_with f)) → halted ≡ f
      by (inl is_so) = stops_is is_so.1
      by (inr not_so) = entry_own n f (policy.choose j n) not_so.1 own
  ends_at j c (Time d) f is h own = ends_so c halted f (by (stopped_by (is_beyond policy.until c.clock d) (stops_with halted) (waits d) (stops_with f) h)) (runs.halts_passing c d is)
    where
      by : ((is_beyond policy.until c.clock d ≡ true) × (stops_with halted ≡ stops_with f)) ⊎ ((is_beyond policy.until c.clock d ≡ false) × (waits d ≡ stops_with f)) → halted ≡ f
      by (inl is_so) = stops_is is_so.1
      by (inr not_so) = stops_waits (sym not_so.1)
  ends_at j c Finished f is h own = ends_so c ended f (used_own ended f (policy.ahead j) h own) (runs.ends c is)
  ends_at j c Deadlock f is h own = ends_so c deadlocked f (used_own deadlocked f (policy.ahead j) h own) (runs.deadlocks c is)
  ends_at j c (Faulty t) f is h own = ends_so c (troubled t) f (stops_is h) (runs.faults c t is)
  ends_at j c (Stopped t) f is h own = ends_so c (troubled t) f (stops_is h) (runs.highs c t is)
  ends_at j c Broken f is h own = absurd (omega (arith, said c Broken is.applies))

  pub acting_at : (j : ℕ) (c : Config) (m : Moment) (n k : ℕ) → IsMoment setting c m → decided policy j c.clock m ≡ takes n k → IsMoment setting c (Actions n)
  acting_at j c m n k is h = subst (IsMoment setting c) (takes_at j c.clock m n k h) is

  pub passing_at : (j : ℕ) (c : Config) (m : Moment) (d : ℕ) → IsMoment setting c m → decided policy j c.clock m ≡ waits d → IsMoment setting c (Time d)
  passing_at j c m d is h = subst (IsMoment setting c) (waits_at j c.clock m d h) is

  is_run : (j : ℕ) (c end : Config) (events : List Event) (f : Ending) → IsChosenRun setting policy j c events end f → IsOwn f → IsRun setting c events end f
  is_run _ _ _ _ _ (chosen.ends j c m f is d) own = record { standing = whole; reaches = runs.here c; ends = ends_at j c m f is d own }
  is_run _ _ _ _ _ (chosen.acts j c next end m n k a events f is d choice h r) own =
      let rest = is_run (suc j) next end events f r own in
      record { standing = rest.standing; reaches = runs.acts c next end n k a events rest.standing (acting_at j c m n k is d) choice h rest.reaches; ends = rest.ends }
  is_run _ _ _ _ _ (chosen.stops j c m n k a t is d choice h) own = record { standing = stopped t; reaches = runs.stops c n k a t (acting_at j c m n k is d) choice h; ends = runs.stops c t }
  is_run _ _ _ _ _ (chosen.passes j c next end m time events f is d h r) own =
      let rest = is_run j next end events f r own in
      record { standing = rest.standing; reaches = runs.passes c next end time events rest.standing (passing_at j c m time is d) h rest.reaches; ends = rest.ends }

  refused_troubled : {P : Type 0} {t : Trouble} {l n : ℕ} → troubled t ≡ refused l n → P
  refused_troubled {P} {t} {l} {n} e = absurd (differ e)
    where
      differ : troubled t ≡ refused l n → ⊥
      differ h = cc

  up_to : (j : ℕ) (c end : Config) (events : List Event) (f : Ending) (l n : ℕ) → IsChosenRun setting policy j c events end f → f ≡ refused l n → Reaches setting c events end whole
  up_to _ _ _ _ _ l n (chosen.ends j c m f is d) e = runs.here c
  up_to _ _ _ _ _ l i (chosen.acts j c next end m n k a events f is d choice h r) e = runs.acts c next end n k a events whole (acting_at j c m n k is d) choice h (up_to (suc j) next end events f l i r e)
  up_to _ _ _ _ _ l i (chosen.stops j c m n k a t is d choice h) e = refused_troubled e
  up_to _ _ _ _ _ l i (chosen.passes j c next end m time events f is d h r) e = runs.passes c next end time events whole (passing_at j c m time is d) h (up_to j next end events f l i r e)

pub one_chosen_run : OneChosenRun
one_chosen_run setting policy j c es fs x y e f all one other = let r = one_run setting policy j c x y es fs e f all one other in (r.events, r.end, r.ending)

pub chosen_runs_are_runs : ChosenRunsAreRuns
chosen_runs_are_runs setting policy j c events end ending h = (λ own. is_run setting policy j c end events ending h own, λ entry count e. up_to setting policy j c end events ending entry count h e)
