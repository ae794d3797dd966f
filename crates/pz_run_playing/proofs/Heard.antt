-- What a listener writes for one more event, and what it has heard then.
use Rattle.std.proofs.Common.{◌≡◌, ◌≤◌, ◌<◌, ⊎_elim, ℕ, suc, List, [], ◌∷◌, ◌++◌, length, Option, Some, None, Result, Ok, Err, Vec, sym, subst, ap, ◌∙◌, arith}
use Rattle.std.specs.Prelude.{OnOk}
use Rattle.std.specs.declared.alloc.Global.{Global}
use Rattle.std.proofs.lemmas.List.{map-append, length-map}
use Rattle.std.proofs.lemmas.Result.{on_ok_weaker}
use Rattle.std.proofs.lemmas.Bool.{cases_lt}
use Rattle.pz_io.specs.Outside.{SinkState}
use Rattle.pz_io.specs.declared.writing.Halt.{Halt}
use Rattle.pz_io.specs.Writing.{Wrote}
use Rattle.pz_rules.specs.pz_syntax.Classes.{ModelTree}
use Rattle.pz_rules.specs.Runs.{Event}
use Rattle.pz_watch_points.specs.pz_trace.TraceText.{event_line}
use Rattle.pz_watch.specs.Points.{Point, clock_at, AreInOrder}
use Rattle.pz_watch.specs.Files.{NamedFormula}
use Rattle.pz_watch.specs.Breaking.{broken_at, broken_lines}
use Rattle.pz_watch.proofs.Points.{clock_left, clock_last, length_added}
use Rattle.pz_watch_points.specs.EventPoints.{event_point, points_of}
use Rattle.pz_watch_judging.specs.declared.watching.Watching.{Watching}
use Rattle.pz_watch_judging.specs.devices.Judging.{HasJudged}
use Rattle.pz_run_playing.specs.declared.listening.Listener.{Listener}
use Rattle.pz_run_playing.specs.declared.listening.Listener.TheVariants.{Silent, Lines, Watches}
use Rattle.pz_run_playing.specs.Sayings.{judged_line}
use Rattle.pz_run_playing.specs.devices.Known.{Known}
use Rattle.pz_run_playing.specs.devices.Hearing.{AreUpTo, Manner, silently, in_lines, with_watches, saying, Hears, HasHeard}

-- ---- clocks

pub up_to_later : (points : List Point) (c d : ℕ) → c ≤ d → AreUpTo points c → AreUpTo points d
up_to_later points c d later up = record { order = up.order; below = λ i within. (let below = up.below i within in omega arith) }

up_to_none : (clock : ℕ) → AreUpTo [] clock
up_to_none clock = record { order = record { rising = λ i k h l. absurd (omega arith) }; below = λ i h. absurd (omega arith) }

module _ (points : List Point) (x : Point) (clock : ℕ) (is : x.clock ≡ clock) (up : AreUpTo points clock) where
  long : length (points ++ x ∷ []) ≡ suc (length points)
  long = length_added points x

  at_last : (i : ℕ) → i ≡ length points → clock_at (points ++ x ∷ []) i ≡ clock
  at_last i e = ap (clock_at (points ++ x ∷ [])) e ∙ clock_last points x ∙ is

  below_more : (i : ℕ) → i < length (points ++ x ∷ []) → clock_at (points ++ x ∷ []) i ≤ clock
  below_more i within =
      ⊎_elim
      (λ (h : i < length points). (let below = up.below i h in let same = clock_left points x i h in omega arith))
      (λ (h : length points ≤ i). (let last = at_last i (omega (arith, long)) in omega arith))
      (cases_lt i (length points))

  rising_more : (i k : ℕ) → i ≤ k → k < length (points ++ x ∷ []) → clock_at (points ++ x ∷ []) i ≤ clock_at (points ++ x ∷ []) k
  rising_more i k le within =
      ⊎_elim
      (λ (h : k < length points).
      (let rises = up.order.rising i k le h in
      let left = clock_left points x i (omega arith) in
      let right = clock_left points x k h in omega arith))
      (λ (h : length points ≤ k).
      (let last = at_last k (omega (arith, long)) in
      let low = below_more i (omega arith) in omega arith))
      (cases_lt k (length points))

  pub up_to_more : AreUpTo (points ++ x ∷ []) clock
  up_to_more = record { order = record { rising = rising_more }; below = below_more }

-- ---- one more event

module _ (m : ModelTree) (past : List Event) (e : Event) where
  points_more : points_of m (past ++ e ∷ []) ≡ points_of m past ++ event_point m e ∷ []
  points_more = map-append (event_point m) past (e ∷ [])

  module _ (clock : ℕ) (at : (event_point m e).clock ≡ clock) where
    heard_more : (manner : Manner) (listener : Listener) → Hears m manner (past ++ e ∷ []) listener → AreUpTo (points_of m past) clock → HasHeard m manner (past ++ e ∷ []) clock listener
    heard_more manner listener hears up = record {
      hears = hears;
      up_to = subst (λ (points : List Point). AreUpTo points clock) (sym points_more) (up_to_more (points_of m past) (event_point m e) clock at up);
    }

    -- nothing is written
    pub silent_wrote : Known → (manner : Manner) → HasHeard m manner past clock Silent → (s : SinkState) → Wrote s s (saying m manner past e) None
    silent_wrote known silently heard s = known.nothing s
    silent_wrote known in_lines heard s = absurd heard.hears
    silent_wrote known (with_watches ws) heard s = absurd heard.hears

    pub silent_heard : (manner : Manner) → HasHeard m manner past clock Silent → HasHeard m manner (past ++ e ∷ []) clock Silent
    silent_heard silently heard = heard_more silently Silent tt heard.up_to
    silent_heard in_lines heard = absurd heard.hears
    silent_heard (with_watches ws) heard = absurd heard.hears

    -- a line is
    pub line_wrote : (manner : Manner) (text : Vec ℕ Global) → HasHeard m manner past clock (Lines text) → (before now : SinkState) (halt : Option Halt) → Wrote before now (event_line m e) halt → Wrote before now (saying m manner past e) halt
    line_wrote silently text heard before now halt wrote = absurd heard.hears
    line_wrote in_lines text heard before now halt wrote = wrote
    line_wrote (with_watches ws) text heard before now halt wrote = absurd heard.hears

    pub line_heard : (manner : Manner) (text later : Vec ℕ Global) → HasHeard m manner past clock (Lines text) → HasHeard m manner (past ++ e ∷ []) clock (Lines later)
    line_heard silently text later heard = absurd heard.hears
    line_heard in_lines text later heard = heard_more in_lines (Lines later) tt heard.up_to
    line_heard (with_watches ws) text later heard = absurd heard.hears

    -- a line is, and it is judged
    pub judged_wrote : (manner : Manner) (watching : Watching) (text : Vec ℕ Global) → HasHeard m manner past clock (Watches watching text) → (before now : SinkState) (halt : Option Halt)
        → ((ws : List NamedFormula) → HasJudged ws (points_of m past) watching → AreUpTo (points_of m past) clock → Wrote before now (judged_line m ws past e) halt)
        → Wrote before now (saying m manner past e) halt
    judged_wrote silently watching text heard before now halt wrote = absurd heard.hears
    judged_wrote in_lines watching text heard before now halt wrote = absurd heard.hears
    judged_wrote (with_watches ws) watching text heard before now halt wrote = wrote ws heard.hears heard.up_to

    pub judged_heard : {T E : Type 0} (manner : Manner) (watching later : Watching) (text after : Vec ℕ Global) (r : Result T E) → HasHeard m manner past clock (Watches watching text)
        → ((ws : List NamedFormula) → HasJudged ws (points_of m past) watching → AreUpTo (points_of m past) clock → OnOk r (HasJudged ws (points_of m (past ++ e ∷ [])) later))
        → OnOk r (HasHeard m manner (past ++ e ∷ []) clock (Watches later after))
    judged_heard silently watching later text after r heard judged = absurd heard.hears
    judged_heard in_lines watching later text after r heard judged = absurd heard.hears
    judged_heard (with_watches ws) watching later text after r heard judged =
        on_ok_weaker r (λ so. heard_more (with_watches ws) (Watches later after) so heard.up_to) (judged ws heard.hears heard.up_to)

  -- the point is the one that the watches were fed with
  module _ (x : Point) (is : x ≡ event_point m e) where
    fed : points_of m past ++ x ∷ [] ≡ points_of m (past ++ e ∷ [])
    fed = ap (λ (y : Point). points_of m past ++ y ∷ []) is ∙ sym points_more

    pub fed_in_order : (clock : ℕ) → (event_point m e).clock ≡ clock → AreUpTo (points_of m past) clock → AreInOrder (points_of m past ++ x ∷ [])
    fed_in_order clock at up = (up_to_more (points_of m past) x clock (ap (λ (y : Point). y.clock) is ∙ at) up).order

    pub fed_judged : (ws : List NamedFormula) (watching : Watching) → HasJudged ws (points_of m past ++ x ∷ []) watching → HasJudged ws (points_of m (past ++ e ∷ [])) watching
    fed_judged ws watching judged = subst (λ (points : List Point). HasJudged ws points watching) fed judged

    pub fed_wrote : Known → (ws : List NamedFormula) (before mid now : SinkState) (halt : Option Halt) → Wrote before mid (event_line m e) None
        → Wrote mid now (broken_lines (broken_at ws (points_of m past ++ x ∷ []) (length (points_of m past)))) halt → Wrote before now (judged_line m ws past e) halt
    fed_wrote known ws before mid now halt line lines =
        let same : broken_at ws (points_of m past ++ x ∷ []) (length (points_of m past)) ≡ broken_at ws (points_of m (past ++ e ∷ [])) (length past) =
        ap (λ (points : List Point). broken_at ws points (length (points_of m past))) fed ∙ ap (broken_at ws (points_of m (past ++ e ∷ []))) (length-map past (event_point m)) in
        known.joins before mid now (event_line m e) (broken_lines (broken_at ws (points_of m (past ++ e ∷ [])) (length past))) halt line
        (subst (λ (l : List NamedFormula). Wrote mid now (broken_lines l) halt) same lines)

  -- nothing is judged where the line halts
  pub line_cut : Known → (ws : List NamedFormula) (before now : SinkState) (halt : Halt) → Wrote before now (event_line m e) (Some halt) → Wrote before now (judged_line m ws past e) (Some halt)
  line_cut known ws before now halt line = known.halts before now (event_line m e) (broken_lines (broken_at ws (points_of m (past ++ e ∷ [])) (length past))) halt line

-- ---- before the first event, and while time goes on

pub heard_none : (m : ModelTree) (manner : Manner) (clock : ℕ) (listener : Listener) → Hears m manner [] listener → HasHeard m manner [] clock listener
heard_none m manner clock listener hears = record { hears = hears; up_to = up_to_none clock }

pub heard_later : (m : ModelTree) (manner : Manner) (past : List Event) (c d : ℕ) (listener : Listener) → c ≤ d → HasHeard m manner past c listener → HasHeard m manner past d listener
heard_later m manner past c d listener later heard = record { hears = heard.hears; up_to = up_to_later (points_of m past) c d later heard.up_to }

always : {T E P : Type 0} (r : Result T E) → P → OnOk r P
always (Ok x) so = so
always (Err error) so = tt

-- ---- by what the listener is

module _ (m : ModelTree) (manner : Manner) (past : List Event) (e : Event) (clock : ℕ) (at : (event_point m e).clock ≡ clock) (listener : Listener) (heard : HasHeard m manner past clock listener) where
  as_it_is : (other : Listener) → listener ≡ other → HasHeard m manner past clock other
  as_it_is other is = subst (HasHeard m manner past clock) is heard

  pub silent_says : Known → listener ≡ Silent → (s : SinkState) → Wrote s s (saying m manner past e) None
  silent_says known is s = silent_wrote m past e clock at known manner (as_it_is Silent is) s

  as_it_was : (other : Listener) → listener ≡ other → HasHeard m manner (past ++ e ∷ []) clock other → HasHeard m manner (past ++ e ∷ []) clock listener
  as_it_was other is more = subst (HasHeard m manner (past ++ e ∷ []) clock) (sym is) more

  pub silent_hears : listener ≡ Silent → HasHeard m manner (past ++ e ∷ []) clock listener
  silent_hears is = as_it_was Silent is (silent_heard m past e clock at manner (as_it_is Silent is))

  pub line_says : (text : Vec ℕ Global) → listener ≡ Lines text → (before now : SinkState) (halt : Option Halt) → Wrote before now (event_line m e) halt → Wrote before now (saying m manner past e) halt
  line_says text is = line_wrote m past e clock at manner text (as_it_is (Lines text) is)

  pub line_hears : {T E : Type 0} (text later : Vec ℕ Global) (r : Result T E) → listener ≡ Lines text → OnOk r (HasHeard m manner (past ++ e ∷ []) clock (Lines later))
  line_hears text later r is = always r (line_heard m past e clock at manner text later (as_it_is (Lines text) is))

  pub judged_says : (watching : Watching) (text : Vec ℕ Global) → listener ≡ Watches watching text → (before now : SinkState) (halt : Option Halt)
      → ((ws : List NamedFormula) → HasJudged ws (points_of m past) watching → AreUpTo (points_of m past) clock → Wrote before now (judged_line m ws past e) halt)
      → Wrote before now (saying m manner past e) halt
  judged_says watching text is = judged_wrote m past e clock at manner watching text (as_it_is (Watches watching text) is)

  pub judged_hears : {T E : Type 0} (watching later : Watching) (text after : Vec ℕ Global) (r : Result T E) → listener ≡ Watches watching text
      → ((ws : List NamedFormula) → HasJudged ws (points_of m past) watching → AreUpTo (points_of m past) clock → OnOk r (HasJudged ws (points_of m (past ++ e ∷ [])) later))
      → OnOk r (HasHeard m manner (past ++ e ∷ []) clock (Watches later after))
  judged_hears watching later text after r is = judged_heard m past e clock at manner watching later text after r (as_it_is (Watches watching text) is)
