-- The passing of time leaves one term, which is there where nothing that is asked has a trouble.
use Rattle.std.proofs.Common.{◌≡◌, ◌<◌, ◌+◌, ℕ, suc, Bool, true, false, [], ◌∷◌, Result, Ok, Err, refl, sym, subst, ap, ◌∙◌, arith}
use Rattle.pz_bind_rules.specs.pz_syntax.declared.tokens.Pos.{Pos}
use Rattle.pz_bind_rules.specs.pz_syntax.Statements.{delay}
use Rattle.pz_offer.specs.PlaceOrder.{Place}
use Rattle.pz_offer.specs.declared.trouble.Trouble.{Trouble}
use Rattle.pz_rules.specs.Terms.{Code, Step, Term, done, leaf, wait, sequence, parallel, select, guarded, frame, abort, idle, handling, Terms, no_terms, and, term_at, child, count, frame_in}
use Rattle.pz_rules.specs.Settings.{Context}
use Rattle.pz_rules.specs.Evaluations.{Tests, Lasts}
use Rattle.pz_rules.specs.Active as active
use Rattle.pz_rules.specs.Active.{Active, Reached}
use Rattle.pz_rules.specs.Asking as asking
use Rattle.pz_rules.specs.Asking.{Asks}
use Rattle.pz_rules.specs.Delays as delays
use Rattle.pz_rules.specs.Delays.{Passes, PassesAll, is_timeless}
use Rattle.pz_rules.specs.devices.Found.{tested, lasting}
use Rattle.pz_rules.specs.devices.Passing.{begun, statement_passed, if_open, passed, passed_all}
use Rattle.pz_rules.proofs.Found.{tests_found, tests_only, lasts_found, lasts_only}

module _ (a : Context) (d : ℕ) where
  timeless : (f : ℕ) (s : Step) → is_timeless s ≡ true → leaf s ≡ statement_passed a d f s
  timeless f (delay at e) is = absurd (differ is)
    where
      differ : false ≡ true → ⊥
      differ h = cc
  timeless f s is = refl

  mutual
    pub passes_only : (f : ℕ) (t x : Term) → Passes a d f t x → x ≡ passed a d f t
    passes_only _ _ _ (delays.is_done f) = refl
    passes_only _ _ _ (delays.stays f s is) = timeless f s is
    passes_only _ _ _ (delays.begins f at e left lasts) = ap (begun d at e) (lasts_only a f at e (Ok left) lasts)
    passes_only _ _ _ (delays.goes_on f left at) = refl
    passes_only _ _ _ (delays.in_sequence f t x rest h) = ap (λ (y : Term). sequence y rest) (passes_only f t x h)
    passes_only _ _ _ (delays.in_parallel f ts xs h) = ap parallel (all_pass_only f ts xs h)
    passes_only _ _ _ (delays.in_select f ts xs h) = ap select (all_pass_only f ts xs h)
    passes_only _ _ _ (delays.behind_true f test at t x is h) =
        ap (guarded test at) (passes_only f t x h) ∙ ap (λ (r : Result Bool Trouble). guarded test at (if_open r (passed a d f t) t)) (tests_only a f at test (Ok true) is)
    passes_only _ _ _ (delays.behind_false f test at t is) = ap (λ (r : Result Bool Trouble). guarded test at (if_open r (passed a d f t) t)) (tests_only a f at test (Ok false) is)
    passes_only _ _ _ (delays.in_frame f number inputs results t x h) = ap (frame number inputs results) (passes_only number t x h)
    passes_only _ _ _ (delays.in_abort f t x u y h k) = ap (λ (z : Term). abort z y) (passes_only f t x h) ∙ ap (abort (passed a d f t)) (passes_only f u y k)
    passes_only _ _ _ (delays.in_idle f t x u y again h k) = ap (λ (z : Term). idle z y again) (passes_only f t x h) ∙ ap (λ (z : Term). idle (passed a d f t) z again) (passes_only f u y k)
    passes_only _ _ _ (delays.in_handling f t u y again h) = ap (λ (z : Term). handling t z again) (passes_only f u y h)

    all_pass_only : (f : ℕ) (ts xs : Terms) → PassesAll a d f ts xs → xs ≡ passed_all a d f ts
    all_pass_only _ _ _ (delays.none f) = refl
    all_pass_only _ _ _ (delays.both f t x ts xs h k) = ap (λ (y : Term). and y xs) (passes_only f t x h) ∙ ap (and (passed a d f t)) (all_pass_only f ts xs k)

  pub passes_once : (f : ℕ) (t x y : Term) → Passes a d f t x → Passes a d f t y → x ≡ y
  passes_once f t x y h k = passes_only f t x h ∙ sym (passes_only f t y k)

  -- nothing that an active part is asked has a trouble
  abbrev pub Untroubled : ℕ → Term → Type 0
  Untroubled f t = (place : Place) (g : ℕ) (x : Term) (trouble : Trouble) → Active a f t place g x → Asks a g x trouble → ⊥

  in_child : (f : ℕ) (t : Term) (i : ℕ) → Reached a f t i → Untroubled f t → Untroubled (frame_in t f) (child t i)
  in_child f t i reached none place g x trouble h asks = none (i ∷ place) g x trouble (active.inside f t i place g x reached h) asks

  -- all children of t from number k on, in frame f
  abbrev AllCalm : ℕ → Term → ℕ → Terms → Type 0
  AllCalm f t k ts = (i : ℕ) → i < count ts → Reached a f t (k + i) × (child t (k + i) ≡ term_at ts i)

  begins_now : (f : ℕ) (at : Pos) (e : Code) (r : Result ℕ Trouble) → lasting a f at e ≡ r → Untroubled f (leaf (delay at e)) → Passes a d f (leaf (delay at e)) (begun d at e r)
  begins_now f at e (Ok left) is none = delays.begins f at e left (subst (λ (r : Result ℕ Trouble). Lasts a f at e r) is (lasts_found a f at e))
  begins_now f at e (Err trouble) is none =
      absurd (none [] f (leaf (delay at e)) trouble (active.here f (leaf (delay at e))) (asking.time at e trouble (subst (λ (r : Result ℕ Trouble). Lasts a f at e r) is (lasts_found a f at e))))

  statement_passes : (f : ℕ) (s : Step) → Untroubled f (leaf s) → Passes a d f (leaf s) (statement_passed a d f s)
  statement_passes f (delay at e) none = begins_now f at e (lasting a f at e) refl none
  statement_passes f s none = delays.stays f s refl

  behind : (f : ℕ) (test : Code) (at : Pos) (t : Term) (r : Result Bool Trouble) → tested a f at test ≡ r → Untroubled f (guarded test at t)
      → ((Tests a f at test (Ok true)) → Passes a d f t (passed a d f t)) → Passes a d f (guarded test at t) (guarded test at (if_open r (passed a d f t) t))
  behind f test at t (Ok true) is none inner =
      let now : Tests a f at test (Ok true) = subst (λ (r : Result Bool Trouble). Tests a f at test r) is (tests_found a f at test) in
      delays.behind_true f test at t (passed a d f t) now (inner now)
  behind f test at t (Ok false) is none inner = delays.behind_false f test at t (subst (λ (r : Result Bool Trouble). Tests a f at test r) is (tests_found a f at test))
  behind f test at t (Err trouble) is none inner =
      absurd (none [] f (guarded test at t) trouble (active.here f (guarded test at t)) (asking.guard test at t trouble (subst (λ (r : Result Bool Trouble). Tests a f at test r) is (tests_found a f at test))))

  -- the first of several children, and the others
  first_calm : (f : ℕ) (t : Term) → frame_in t f ≡ f → (k : ℕ) (x : Term) (ts : Terms) → AllCalm f t k (and x ts) → Untroubled f t → Untroubled f x
  first_calm f t same k x ts all none =
      let n : k + 0 ≡ k = omega arith in
      let first : Reached a f t k × (child t k ≡ x) = subst (λ (m : ℕ). Reached a f t m × (child t m ≡ x)) n (all 0 (omega arith)) in
      subst (λ (g : ℕ). Untroubled g x) same (subst (λ (y : Term). Untroubled (frame_in t f) y) first.1 (in_child f t k first.0 none))

  others_calm : (f : ℕ) (t : Term) (k : ℕ) (x : Term) (ts : Terms) → AllCalm f t k (and x ts) → AllCalm f t (suc k) ts
  others_calm f t k x ts all i within =
      let n : k + suc i ≡ suc k + i = omega arith in
      subst (λ (m : ℕ). Reached a f t m × (child t m ≡ term_at ts i)) n (all (suc i) (omega (arith, within)))

  mutual
    pub passes_some : (f : ℕ) (t : Term) → Untroubled f t → Passes a d f t (passed a d f t)
    passes_some f done none = delays.is_done f
    passes_some f (leaf s) none = statement_passes f s none
    passes_some f (wait left at) none = delays.goes_on f left at
    passes_some f (sequence t rest) none = delays.in_sequence f t (passed a d f t) rest (passes_some f t (in_child f (sequence t rest) 0 refl none))
    passes_some f (parallel ts) none = delays.in_parallel f ts (passed_all a d f ts) (all_pass f (parallel ts) refl 0 ts (λ i within. let n : 0 + i ≡ i = omega arith in (rw n within, rw n refl)) none)
    passes_some f (select ts) none = delays.in_select f ts (passed_all a d f ts) (all_pass f (select ts) refl 0 ts (λ i within. let n : 0 + i ≡ i = omega arith in (rw n within, rw n refl)) none)
    passes_some f (guarded test at t) none = behind f test at t (tested a f at test) refl none (λ now. passes_some f t (in_child f (guarded test at t) 0 (refl, now) none))
    passes_some f (frame number inputs results t) none = delays.in_frame f number inputs results t (passed a d number t) (passes_some number t (in_child f (frame number inputs results t) 0 refl none))
    passes_some f (abort t u) none =
        delays.in_abort f t (passed a d f t) u (passed a d f u) (passes_some f t (in_child f (abort t u) 0 (omega arith) none)) (passes_some f u (in_child f (abort t u) 1 (omega arith) none))
    passes_some f (idle t u again) none =
        delays.in_idle f t (passed a d f t) u (passed a d f u) again (passes_some f t (in_child f (idle t u again) 0 (omega arith) none)) (passes_some f u (in_child f (idle t u again) 1 (omega arith) none))
    passes_some f (handling t u again) none = delays.in_handling f t u (passed a d f u) again (passes_some f u (in_child f (handling t u again) 1 refl none))

    all_pass : (f : ℕ) (t : Term) → frame_in t f ≡ f → (k : ℕ) (ts : Terms) → AllCalm f t k ts → Untroubled f t → PassesAll a d f ts (passed_all a d f ts)
    all_pass f t same k no_terms all none = delays.none f
    all_pass f t same k (and x ts) all none =
        delays.both f x (passed a d f x) ts (passed_all a d f ts) (passes_some f x (first_calm f t same k x ts all none))
        (all_pass f t same (suc k) ts (others_calm f t k x ts all) none)
