-- A text tells one run: of two runs with one text, each line leads to the same stage and tells the same event.
use Rattle.std.proofs.Common.{◌≡◌, ◌<◌, ◌^◌, refl, sym, subst, ap, ◌∙◌, ℕ, List, [], ◌∷◌, ◌++◌, arith, append_assoc}
use Rattle.std.proofs.lemmas.List.{append-nil, append_cancel_left}
use Rattle.pz_rules.specs.pz_syntax.ModelForm.{Each}
use Rattle.pz_rules.specs.declared.action.Action.{Action}
use Rattle.pz_rules.specs.declared.moment.Moment.TheVariants.{Actions, Time}
use Rattle.pz_rules.specs.Settings.{Setting}
use Rattle.pz_rules.specs.Configurations.{Config}
use Rattle.pz_rules.specs.Moments.{IsMoment}
use Rattle.pz_rules.specs.Runs as runs
use Rattle.pz_rules.specs.Runs.{Event, acted, passed, Standing, whole, stopped, IsChoice, Reaches, Ends}
use Rattle.pz_trace.specs.declared.ending.Ending.{Ending}
use Rattle.pz_trace.specs.Lines.{action_line, end_line}
use Rattle.pz_trace.specs.Laws.{IsLine, HasUnbrokenNames}
use Rattle.pz_trace.specs.TraceText.{trace_header, event_line, events_text, run_ending}
use Rattle.pz_run_replaying.specs.Stages.{underway}
use Rattle.pz_run_replaying.specs.Laws.{CountFits, HasOneToldRun}
use Rattle.pz_run_replaying.specs.devices.Known.{Known}
use Rattle.pz_run_replaying.specs.devices.Readiness.{Ready}
use Rattle.pz_run_replaying.specs.devices.Taking.{takes_place, fails, Takes, action_taken, passing_taken, HasFew}
use Rattle.pz_run_replaying.proofs.Moments.{some_at, ends_at, one_end}
use Rattle.pz_run_replaying.proofs.Starts.{one_start}
use Rattle.pz_run_replaying.proofs.Takings.{offer_within, one_offer, one_taken, kept_taken}

actions_same : {n m : ℕ} → Actions n ≡ Actions m → n ≡ m
actions_same h = cc

times_same : {n m : ℕ} → Time n ≡ Time m → n ≡ m
times_same h = cc

actions_time : {n m : ℕ} → Actions n ≡ Time m → ⊥
actions_time h = cc

next_same : {c d : Config} {s t : Standing} → underway c s ≡ underway d t → c ≡ d
next_same h = cc

left_same : {c d : Config} {s t : Standing} → underway c s ≡ underway d t → s ≡ t
left_same h = cc

-- what happens at the moment of a configuration
data EventAt (setting : Setting) (c : Config) : Event → Type 0 where
  an_action : (n k : ℕ) (a : Action) → IsMoment setting c (Actions n) → IsChoice setting c n k a → EventAt setting c (acted c.clock n k a)
  a_passing : (d : ℕ) → IsMoment setting c (Time d) → EventAt setting c (passed c.clock d)

-- from stage to stage, an event a line
data Goes (setting : Setting) : Config → Standing → List Event → Config → Standing → Type 0 where
  stays : (c : Config) (s : Standing) → Goes setting c s [] c s
  goes : (c next last : Config) (left standing : Standing) (e : Event) (es : List Event) → EventAt setting c e
      → Takes setting (underway c whole) (event_line setting.model e) (underway next left) → Goes setting next left es last standing
      → Goes setting c whole (e ∷ es) last standing

goes_of : (setting : Setting) (c last : Config) (es : List Event) (standing : Standing) → Reaches setting c es last standing → Goes setting c whole es last standing
goes_of setting _ _ _ _ (runs.here c) = stays c whole
goes_of setting _ _ _ _ (runs.acts c next end n k a events standing is choice to reaches) =
    goes c next end whole standing (acted c.clock n k a) events (an_action n k a is choice)
    (action_taken c next whole n k a is choice (takes_place next to)) (goes_of setting next end events standing reaches)
goes_of setting _ _ _ _ (runs.stops c n k a trouble is choice to) =
    goes c c c (stopped trouble) (stopped trouble) (acted c.clock n k a) [] (an_action n k a is choice)
    (action_taken c c (stopped trouble) n k a is choice (fails trouble to)) (stays c (stopped trouble))
goes_of setting _ _ _ _ (runs.passes c next end d events standing is passes reaches) =
    goes c next end whole standing (passed c.clock d) events (a_passing d is) (passing_taken c next d is passes) (goes_of setting next end events standing reaches)

pub record SameRest (xs ys : List Event) (c d : Config) (s t : Standing) (e f : Ending) : Type 0 where
  pub events : xs ≡ ys
  pub last : c ≡ d
  pub standing : s ≡ t
  pub ending : e ≡ f

module _ (known : Known) (setting : Setting) (names : HasUnbrokenNames setting.model) where
  abbrev IsToldApart : List Event → Type 0
  IsToldApart es = Each (λ (e : Event). IsLine (event_line setting.model e)) es

  few_at : (c : Config) (e : Event) → EventAt setting c e → CountFits e → HasFew setting (underway c whole)
  few_at c _ (an_action n k a is choice) few m at = subst (λ (i : ℕ). i < 2 ^ 64) (actions_same (known.one_moment setting c (Actions n) (Actions m) is at)) few
  few_at c _ (a_passing d is) few m at = absurd (actions_time (known.one_moment setting c (Actions m) (Time d) at is))

  one_action : (c : Config) (n m k l : ℕ) (a b : Action) → n ≡ m → n < 2 ^ 64 → IsChoice setting c n k a → IsChoice setting c m l b
      → action_line setting.model c.clock n k a ≡ action_line setting.model c.clock m l b → acted c.clock n k a ≡ acted c.clock m l b
  one_action c n m k l a b count few x y same =
      let lines : action_line setting.model c.clock n k a ≡ action_line setting.model c.clock n l b = same ∙ ap (λ (i : ℕ). action_line setting.model c.clock i l b) (sym count) in
      let number : k ≡ l = known.actions_differ setting.model c.clock n k l a b (omega (arith, few, offer_within setting c n k a x)) (omega (arith, few, count, offer_within setting c m l b y)) lines in
      let action : a ≡ b = one_offer known setting c n m k l a b number x y in
      ap (λ (i : ℕ). acted c.clock i k a) count ∙ ap (λ (i : ℕ). acted c.clock m i a) number ∙ ap (λ (z : Action). acted c.clock m l z) action

  one_event : (c : Config) (e f : Event) → EventAt setting c e → EventAt setting c f → CountFits e → event_line setting.model e ≡ event_line setting.model f → e ≡ f
  one_event c _ _ (an_action n k a is choice) (an_action m l b is' choice') few same =
      one_action c n m k l a b (actions_same (known.one_moment setting c (Actions n) (Actions m) is is')) few choice choice' same
  one_event c _ _ (an_action n k a is choice) (a_passing d is') few same = absurd (actions_time (known.one_moment setting c (Actions n) (Time d) is is'))
  one_event c _ _ (a_passing d is) (an_action m l b is' choice') few same = absurd (actions_time (known.one_moment setting c (Actions m) (Time d) is' is))
  one_event c _ _ (a_passing d is) (a_passing t is') few same = ap (λ (i : ℕ). passed c.clock i) (times_same (known.one_moment setting c (Time d) (Time t) is is'))

  -- where something happens, no line of an end is the line of that
  no_end : (c : Config) (e : Ending) (f : Event) → Ends setting c whole (run_ending e) → EventAt setting c f → end_line setting.model c.clock e ≡ event_line setting.model f → ⊥
  no_end c e _ so (an_action n k a is choice) same =
      known.stop_acting setting.model c.clock n k a (sym same ∙ ap (λ (x : Ending). end_line setting.model c.clock x) (ends_at known.one_moment_of setting c whole (Actions n) e is so))
  no_end c e _ so (a_passing d is) same =
      known.stop_passing setting.model c.clock d (sym same ∙ ap (λ (x : Ending). end_line setting.model c.clock x) (ends_at known.one_moment_of setting c whole (Time d) e is so))

  one_ending : (c : Config) (s : Standing) (e f : Ending) → Ready setting c s → Ends setting c s (run_ending e) → Ends setting c s (run_ending f) → e ≡ f
  one_ending c s e f ready x y =
      let m = some_at known.some_moment setting c s ready.wires in
      one_end m.0 e f (ends_at known.one_moment_of setting c s m.0 e m.1 x) (ends_at known.one_moment_of setting c s m.0 f m.1 y)

  -- the first line of what is left to tell
  first_end : (c : Config) (e : Ending) (f : Event) (fs : List Event) (last : List ℕ) → IsLine (end_line setting.model c.clock e) → IsLine (event_line setting.model f)
      → end_line setting.model c.clock e ≡ (event_line setting.model f ++ events_text setting.model fs) ++ last → end_line setting.model c.clock e ≡ event_line setting.model f
  first_end c e f fs last is_end is_line same =
      let text : end_line setting.model c.clock e ++ [] ≡ event_line setting.model f ++ (events_text setting.model fs ++ last) =
      append-nil (end_line setting.model c.clock e) ∙ same ∙ append_assoc (event_line setting.model f) (events_text setting.model fs) last in
      let x = known.one_line (end_line setting.model c.clock e) (event_line setting.model f) [] (events_text setting.model fs ++ last) is_end is_line text in
      x.same_line

  one_way : (c d d' : Config) (s t t' : Standing) (xs ys : List Event) (e f : Ending) → Ready setting c s → Goes setting c s xs d t → Goes setting c s ys d' t'
      → Each CountFits xs → IsToldApart xs → IsToldApart ys → Ends setting d t (run_ending e) → Ends setting d' t' (run_ending f)
      → events_text setting.model xs ++ end_line setting.model d.clock e ≡ events_text setting.model ys ++ end_line setting.model d'.clock f
      → SameRest xs ys d d' t t' e f
  one_way _ _ _ _ _ _ _ _ e f ready (stays c s) (stays _ _) few apart apart' x y same =
      record { events = refl; last = refl; standing = refl; ending = one_ending c s e f ready x y }
  one_way _ _ d' _ _ t' _ _ e f ready (stays c _) (goes _ next last left standing g gs at takes way) few apart apart' x y same =
      absurd (no_end c e g x at (first_end c e g gs (end_line setting.model last.clock f) (known.end_lines setting.model c.clock e names) apart'.0 same))
  one_way _ d _ _ t _ _ _ e f ready (goes c next last left standing g gs at takes way) (stays _ _) few apart apart' x y same =
      absurd (no_end c f g y at (first_end c f g gs (end_line setting.model last.clock e) (known.end_lines setting.model c.clock f names) apart.0 (sym same)))
  one_way _ _ _ _ _ _ _ _ e f ready (goes c next last left standing g gs at takes way) (goes _ next' last' left' standing' h hs at' takes' way') few apart apart' x y same =
      let text : event_line setting.model g ++ (events_text setting.model gs ++ end_line setting.model last.clock e) ≡ event_line setting.model h ++ (events_text setting.model hs ++ end_line setting.model last'.clock f) =
      sym (append_assoc (event_line setting.model g) (events_text setting.model gs) (end_line setting.model last.clock e)) ∙ same
      ∙ append_assoc (event_line setting.model h) (events_text setting.model hs) (end_line setting.model last'.clock f) in
      let first = known.one_line (event_line setting.model g) (event_line setting.model h) (events_text setting.model gs ++ end_line setting.model last.clock e)
      (events_text setting.model hs ++ end_line setting.model last'.clock f) apart.0 apart'.0 text in
      let event : g ≡ h = one_event c g h at at' few.0 first.same_line in
      let stage = one_taken known setting (underway c whole) (underway next left) (underway next' left') (event_line setting.model g) (event_line setting.model h) ready
      (few_at c g at few.0) first.same_line takes takes' in
      let moved : Goes setting next left hs last' standing' = subst (λ (z : Config). Goes setting z left hs last' standing') (sym (next_same stage))
      (subst (λ (z : Standing). Goes setting next' z hs last' standing') (sym (left_same stage)) way') in
      let rest = one_way next last last' left standing standing' gs hs e f (kept_taken known setting (underway c whole) (underway next left) (event_line setting.model g) ready takes)
      way moved few.1 apart.1 apart'.1 x y first.same_rest in
      record { events = ap (λ (z : Event). z ∷ gs) event ∙ ap (λ (zs : List Event). h ∷ zs) rest.events; last = rest.last; standing = rest.standing; ending = rest.ending }

pub one_told_run : Known → HasOneToldRun
one_told_run known setting text sound tells x y few =
    let start : x.start ≡ y.start = one_start setting x.start y.start x.is_start y.is_start in
    let fits = known.start_fits setting x.start sound x.is_start in
    let ready : Ready setting x.start whole = record { sound = sound; wires = known.wires setting.model sound; all = fits.0; fit = fits.1; failed = tt } in
    let reaches : Reaches setting x.start y.events y.last y.standing = subst (λ (z : Config). Reaches setting z y.events y.last y.standing) (sym start) y.reaches in
    let texts = append_cancel_left (trace_header setting) (events_text setting.model x.events ++ end_line setting.model x.last.clock x.ending)
    (events_text setting.model y.events ++ end_line setting.model y.last.clock y.ending) (sym x.is_text ∙ y.is_text) in
    let same = one_way known setting tells.names x.start x.last y.last whole x.standing y.standing x.events y.events x.ending y.ending ready
    (goes_of setting x.start x.last x.events x.standing x.reaches) (goes_of setting x.start y.last y.events y.standing reaches) few
    (tells.events x.start x.last x.events x.standing x.is_start x.reaches) (tells.events y.start y.last y.events y.standing y.is_start y.reaches)
    x.ends y.ends texts in
    (same.events, same.last, same.standing, same.ending)
