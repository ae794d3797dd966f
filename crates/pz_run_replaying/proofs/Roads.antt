-- The lines of runs, from stage to stage.
use Rattle.std.proofs.Common.{◌≡◌, refl, sym, subst, ap, ◌∙◌, ℕ, List, [], ◌∷◌, ◌++◌, map, append_assoc}
use Rattle.std.specs.List.{concat}
use Rattle.std.proofs.lemmas.List.{append-nil, map-append}
use Rattle.std.proofs.lemmas.List.Folds.{concat-append}
use Rattle.pz_rules.specs.pz_syntax.Classes.{ModelTree}
use Rattle.pz_rules.specs.pz_syntax.ModelForm.{Each}
use Rattle.pz_rules.specs.declared.action.Action.{Action}
use Rattle.pz_rules.specs.declared.moment.Moment.TheVariants.{Actions}
use Rattle.pz_rules.specs.Settings.{Setting}
use Rattle.pz_rules.specs.Configurations.{Config}
use Rattle.pz_rules.specs.Starting.{IsStart}
use Rattle.pz_rules.specs.Moments.{IsMoment}
use Rattle.pz_rules.specs.Runs as runs
use Rattle.pz_rules.specs.Runs.{Event, acted, passed, Standing, whole, stopped, IsChoice, Reaches, Ends}
use Rattle.pz_trace.specs.declared.ending.Ending.{Ending}
use Rattle.pz_trace.specs.Lines.{end_line}
use Rattle.pz_trace.specs.Forms.{form_of}
use Rattle.pz_trace.specs.Laws.{IsLine}
use Rattle.pz_trace.specs.TraceText.{trace_header, event_line, events_text, IsTrace}
use Rattle.pz_term_simulator.specs.Simulations.{stands}
use Rattle.pz_run_replaying.specs.declared.replayed.Replayed.TheVariants.{Ended}
use Rattle.pz_run_replaying.specs.Stages.{Stage, unbegun, underway, concluded, LeadsTo, nothing_told, events_told, end_told}
use Rattle.pz_run_replaying.specs.Replays.{Replays, accepts, TellsLines}
use Rattle.pz_run_replaying.specs.devices.Known.{Known}
use Rattle.pz_run_replaying.specs.devices.Taking.{After, takes_place, fails, Takes, header_taken, action_taken, passing_taken, end_taken, Follows, stays, onward, HasFew, IsKept, Path, arrived, further}
use Rattle.pz_run_replaying.proofs.Cuts.{each_both, each_map}
use Rattle.pz_run_replaying.proofs.Moments.{some_at, some_end, may_end}
use Rattle.pz_run_replaying.proofs.Takings.{one_taken, kept_taken}

-- Following lines

pub follows_on : (setting : Setting) (s t u : Stage) (lines more : List (List ℕ)) → Follows setting s lines t → Follows setting t more u → Follows setting s (lines ++ more) u
follows_on setting _ _ u _ more (stays s) rest = rest
follows_on setting _ t u _ more (onward s m _ line lines takes follows) rest = onward s m u line (lines ++ more) takes (follows_on setting m t u lines more follows rest)

pub record Splits (setting : Setting) (s u : Stage) (lines more : List (List ℕ)) : Type 0 where
  pub mid : Stage
  pub before : Follows setting s lines mid
  pub after : Follows setting mid more u

pub splits : (setting : Setting) (s u : Stage) (lines more : List (List ℕ)) → Follows setting s (lines ++ more) u → Splits setting s u lines more
splits setting s u [] more follows = record { mid = s; before = stays s; after = follows }
splits setting s u (line ∷ lines) more (onward _ t _ _ _ takes follows) =
    let x = splits setting t u lines more follows in
    record { mid = x.mid; before = onward s t x.mid line lines takes x.before; after = x.after }

pub path_on : (setting : Setting) (s t u : Stage) (line : List ℕ) (lines : List (List ℕ)) → Path setting s lines t → HasFew setting t → Takes setting t line u → Path setting s (lines ++ line ∷ []) u
path_on setting _ _ u line _ (arrived s) few takes = further s u u line [] few takes (arrived u)
path_on setting _ t u line _ (further s m _ first lines few' takes' path) few takes = further s m u first (lines ++ line ∷ []) few' takes' (path_on setting m t u line lines path few takes)

-- where offers are few, lines lead to one stage
pub one_road : Known → (setting : Setting) (s t u : Stage) (lines : List (List ℕ)) → IsKept setting s → Path setting s lines t → Follows setting s lines u → t ≡ u
one_road known setting _ _ _ _ kept (arrived s) (stays _) = refl
one_road known setting _ _ _ _ kept (further s m t line lines few takes path) (onward _ m' u _ _ takes' follows) =
    let same : m ≡ m' = one_taken known setting s m m' line line kept few refl takes takes' in
    one_road known setting m t u lines (kept_taken known setting s m line kept takes) path (subst (λ (x : Stage). Follows setting x lines u) (sym same) follows)

pub path_followed : (setting : Setting) (s t : Stage) (lines : List (List ℕ)) → Path setting s lines t → Follows setting s lines t
path_followed setting _ _ _ (arrived s) = stays s
path_followed setting _ _ _ (further s m t line lines few takes path) = onward s m t line lines takes (path_followed setting m t lines path)

-- The lines of runs

pub events_followed : (setting : Setting) (c d : Config) (events : List Event) (standing : Standing) → Reaches setting c events d standing → Follows setting (underway c whole) (map (event_line setting.model) events) (underway d standing)
events_followed setting _ _ _ _ (runs.here c) = stays (underway c whole)
events_followed setting _ _ _ _ (runs.acts c next end n k a events standing is choice to reaches) =
    onward _ _ _ _ _ (action_taken c next whole n k a is choice (takes_place next to)) (events_followed setting next end events standing reaches)
events_followed setting _ _ _ _ (runs.stops c n k a trouble is choice to) =
    onward _ _ _ _ _ (action_taken c c (stopped trouble) n k a is choice (fails trouble to)) (stays (underway c (stopped trouble)))
events_followed setting _ _ _ _ (runs.passes c next end d events standing is passes reaches) =
    onward _ _ _ _ _ (passing_taken c next d is passes) (events_followed setting next end events standing reaches)

pub leads_followed : (setting : Setting) (lines : List (List ℕ)) (s : Stage) → LeadsTo setting lines s → Follows setting unbegun lines s
leads_followed setting _ _ nothing_told = stays unbegun
leads_followed setting _ _ (events_told start c events standing is reaches) = onward _ _ _ _ _ (header_taken start is) (events_followed setting start c events standing reaches)
leads_followed setting _ _ (end_told start c events standing e is reaches so) =
    onward _ _ _ _ _ (header_taken start is)
    (follows_on setting (underway start whole) (underway c standing) (concluded c standing e) (map (event_line setting.model) events) (end_line setting.model c.clock e ∷ [])
    (events_followed setting start c events standing reaches) (onward _ _ _ _ _ (end_taken c standing e so) (stays (concluded c standing e))))

-- one event more

reaches_on : (setting : Setting) (c d f : Config) (events more : List Event) (standing : Standing) → Reaches setting c events d whole → Reaches setting d more f standing → Reaches setting c (events ++ more) f standing
reaches_on setting _ _ f _ more standing (runs.here c) rest = rest
reaches_on setting _ d f _ more standing (runs.acts c next _ n k a events _ is choice to reaches) rest =
    runs.acts c next f n k a (events ++ more) standing is choice to (reaches_on setting next d f events more standing reaches rest)
reaches_on setting _ d f _ more standing (runs.passes c next _ time events _ is passes reaches) rest =
    runs.passes c next f time (events ++ more) standing is passes (reaches_on setting next d f events more standing reaches rest)

event_told : (setting : Setting) (start c next : Config) (events : List Event) (e : Event) (left : Standing) → IsStart setting start → Reaches setting start events c whole → Reaches setting c (e ∷ []) next left
    → LeadsTo setting (trace_header setting ∷ (map (event_line setting.model) events ++ event_line setting.model e ∷ [])) (underway next left)
event_told setting start c next events e left is reaches to =
    let lines : map (event_line setting.model) (events ++ e ∷ []) ≡ map (event_line setting.model) events ++ event_line setting.model e ∷ [] = map-append (event_line setting.model) events (e ∷ []) in
    subst (λ (ls : List (List ℕ)). LeadsTo setting (trace_header setting ∷ ls) (underway next left)) lines
    (events_told start next (events ++ e ∷ []) left is (reaches_on setting start c next events (e ∷ []) left reaches to))

after_reached : (setting : Setting) (c next : Config) (left : Standing) (n k : ℕ) (a : Action) → IsMoment setting c (Actions n) → IsChoice setting c n k a → After setting c a next left → Reaches setting c (acted c.clock n k a ∷ []) next left
after_reached setting c _ _ n k a is choice (takes_place next to) = runs.acts c next next n k a [] whole is choice to (runs.here next)
after_reached setting c _ _ n k a is choice (fails trouble to) = runs.stops c n k a trouble is choice to

pub leads_on : (setting : Setting) (lines : List (List ℕ)) (s t : Stage) (line : List ℕ) → LeadsTo setting lines s → Takes setting s line t → LeadsTo setting (lines ++ line ∷ []) t
leads_on setting _ _ _ _ nothing_told (header_taken start is) = events_told start start [] whole is (runs.here start)
leads_on setting _ _ _ _ (events_told start c events _ is reaches) (action_taken _ next left n k a at choice after) =
    event_told setting start c next events (acted c.clock n k a) left is reaches (after_reached setting c next left n k a at choice after)
leads_on setting _ _ _ _ (events_told start c events _ is reaches) (passing_taken _ next d at passes) =
    event_told setting start c next events (passed c.clock d) whole is reaches (runs.passes c next next d [] whole at passes (runs.here next))
leads_on setting _ _ _ _ (events_told start c events standing is reaches) (end_taken _ _ e so) = end_told start c events standing e is reaches so
leads_on setting _ _ t line (end_told start c events standing e is reaches so) takes = elim takes [ ]

-- The texts of runs

concat_events : (m : ModelTree) (events : List Event) → concat (map (event_line m) events) ≡ events_text m events
concat_events m [] = refl
concat_events m (e ∷ events) = ap (λ (l : List ℕ). event_line m e ++ l) (concat_events m events)

whole_text : (header : List ℕ) (m : ModelTree) (events : List Event) (last : List ℕ) → concat (header ∷ (map (event_line m) events ++ last ∷ [])) ≡ header ++ (events_text m events ++ last)
whole_text header m events last =
    ap (λ (l : List ℕ). header ++ l) (concat-append (map (event_line m) events) (last ∷ [])
    ∙ ap (λ (l : List ℕ). l ++ (last ++ [])) (concat_events m events) ∙ ap (λ (l : List ℕ). events_text m events ++ l) (append-nil last))

pub record IsLed (setting : Setting) (text : List ℕ) : Type 0 where
  pub lines : List (List ℕ)
  pub c : Config
  pub standing : Standing
  pub ending : Ending
  pub leads : LeadsTo setting lines (concluded c standing ending)
  pub is_text : text ≡ concat lines

pub trace_led : (setting : Setting) (text : List ℕ) → IsTrace setting text → IsLed setting text
trace_led setting text run = record {
  lines = trace_header setting ∷ (map (event_line setting.model) run.events ++ end_line setting.model run.last.clock run.ending ∷ []);
  c = run.last;
  standing = run.standing;
  ending = run.ending;
  leads = end_told run.start run.last run.events run.standing run.ending run.is_start run.reaches run.ends;
  is_text = run.is_text ∙ sym (whole_text (trace_header setting) setting.model run.events (end_line setting.model run.last.clock run.ending));
}

pub led_trace : (setting : Setting) (text : List ℕ) (lines : List (List ℕ)) (c : Config) (standing : Standing) (e : Ending) → LeadsTo setting lines (concluded c standing e) → text ≡ concat lines → IsTrace setting text
led_trace setting text _ _ _ _ (end_told start c events standing e is reaches so) same = record {
  start = start;
  is_start = is;
  events = events;
  last = c;
  standing = standing;
  reaches = reaches;
  ending = e;
  ends = so;
  is_text = same ∙ whole_text (trace_header setting) setting.model events (end_line setting.model c.clock e);
}

pub accepted : (setting : Setting) (text : List ℕ) (lines : List (List ℕ)) (c : Config) (standing : Standing) (e : Ending) → LeadsTo setting lines (concluded c standing e) → text ≡ concat lines → Replays setting text text (Ended e) (stands setting c standing)
accepted setting text _ _ _ _ (end_told start c events standing e is reaches so) same = accepts (record {
  start = start;
  is_start = is;
  events = events;
  last = c;
  standing = standing;
  reaches = reaches;
  ending = e;
  ends = so;
  is_text = same ∙ whole_text (trace_header setting) setting.model events (end_line setting.model c.clock e);
})

pub lines_told : Known → (setting : Setting) → TellsLines setting → (lines : List (List ℕ)) (s : Stage) → LeadsTo setting lines s → Each IsLine lines
lines_told known setting tells _ _ nothing_told = tt
lines_told known setting tells _ _ (events_told start c events standing is reaches) = (known.header_lines (form_of setting.limits), each_map (event_line setting.model) events (tells.events start c events standing is reaches))
lines_told known setting tells _ _ (end_told start c events standing e is reaches so) = (
  known.header_lines (form_of setting.limits),
  each_both (map (event_line setting.model) events) (end_line setting.model c.clock e ∷ []) (each_map (event_line setting.model) events (tells.events start c events standing is reaches))
      (known.end_lines setting.model c.clock e tells.names, tt),
)

-- wherever lines lead, some run begins with them
pub record IsBegun (setting : Setting) (lines : List (List ℕ)) : Type 0 where
  pub text : List ℕ
  pub is_run : IsTrace setting text
  pub more : List (List ℕ)
  pub is_text : text ≡ concat (lines ++ more)

module _ (known : Known) (setting : Setting) where
  from_underway : (lines : List (List ℕ)) (c : Config) (standing : Standing) → IsKept setting (underway c standing) → LeadsTo setting lines (underway c standing) → IsBegun setting lines
  from_underway lines c standing kept leads =
      let m = some_at known.some_moment setting c standing kept.wires in
      let e = some_end setting c standing m.0 m.1 in
      let last = end_line setting.model c.clock e.0 in
      let ends_so : Takes setting (underway c standing) last (concluded c standing e.0) = end_taken c standing e.0 (may_end setting c standing m.0 e.0 m.1 e.1) in
      let all : LeadsTo setting (lines ++ last ∷ []) (concluded c standing e.0) = leads_on setting lines (underway c standing) (concluded c standing e.0) last leads ends_so in
      record {
        text = concat (lines ++ last ∷ []);
        is_run = led_trace setting (concat (lines ++ last ∷ [])) (lines ++ last ∷ []) c standing e.0 all refl;
        more = last ∷ [];
        is_text = refl;
      }

  pub begun : (start : Config) (lines : List (List ℕ)) (s : Stage) → IsStart setting start → IsKept setting s → LeadsTo setting lines s → IsBegun setting lines
  begun start lines unbegun is kept leads =
      let takes : Takes setting unbegun (trace_header setting) (underway start whole) = header_taken start is in
      let x = from_underway (lines ++ trace_header setting ∷ []) start whole (kept_taken known setting unbegun (underway start whole) (trace_header setting) kept takes) (leads_on setting lines unbegun (underway start whole) (trace_header setting) leads takes) in
      record { text = x.text; is_run = x.is_run; more = trace_header setting ∷ x.more; is_text = x.is_text ∙ ap concat (append_assoc lines (trace_header setting ∷ []) x.more) }
  begun start lines (underway c standing) is kept leads = from_underway lines c standing kept leads
  begun start lines (concluded c standing e) is kept leads = record {
    text = concat lines;
    is_run = led_trace setting (concat lines) lines c standing e leads refl;
    more = [];
    is_text = ap concat (sym (append-nil lines));
  }
